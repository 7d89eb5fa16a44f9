use Rattle.std.proofs.Common.{rules, ℕ, ◌≡◌, ◌∙◌, Option, Some, List, ap, sym, arith, length, get_or, slice_index, bit_or, if◌then◌else◌}
use Rattle.std.proofs.lemmas.Grind.{same_number_lists}
use Rattle.ec_bits.proofs.AnyLaws.{if_false}
use Rattle.ec_slave.specs.Physical.{updated_from}
use Rattle.ec_slave.specs.Keeping.{length-updated}
use Rattle.ec_slave.proofs.Memory.UpdatedAlong.{get-updated0}
use Rattle.ec_slave.proofs.physical.bytes.read_slice.Goals as goal

pub returns-else-joining : goal.returns-else-joining
returns-else-joining c =
    let xs : List ℕ = c.args.bytes.now in
    let ys : List ℕ = c.args.visible.now in
    let zs : List ℕ = c.copy_from_slice.new.self in
    let f : ℕ → Option ℕ = λ k. Some (if c.args.joining then bit_or (slice_index xs k) (slice_index ys k) else slice_index ys k) in
    let same : zs ≡ ys = search rules in
    same_number_lists zs (updated_from 0 xs f) (ap length same ∙ (c.requires ∙ sym (length-updated 0 xs f))) (λ i l.
    let inside = ap length same ∙ c.requires in
    ap (λ qs. get_or qs i 0) same
    ∙ sym (get-updated0 xs f i (omega (arith, l, inside)) ∙ if_false c.args.joining (bit_or (slice_index xs i) (slice_index ys i)) (slice_index ys i) c.if-joining.false))
