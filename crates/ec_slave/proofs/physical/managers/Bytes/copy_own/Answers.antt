use Rattle.std.proofs.Common.{rules, ℕ, ◌+◌, ◌-◌, ◌<◌, ◌≤◌, ◌≡◌, ◌∙◌, ap, sym, arith, length, get_or, slice_index, is_none, Option, Some, None, unwrap_or, if◌then◌else◌}
use Rattle.std.proofs.lemmas.Grind.{same_number_lists}
use Rattle.std.proofs.lemmas.List.{places, length-replicate}
use Rattle.ec_bits.specs.Bits.{zeros}
use Rattle.ec_bits.proofs.AnyLaws.{if_true, within_parts}
use Rattle.ec_sync.specs.Governing.{governor}
use Rattle.ec_slave.specs.Physical.{Window, byte_from, updated_from}
use Rattle.ec_slave.specs.Keeping.{length-updated}
use Rattle.ec_slave.proofs.Memory.UpdatedAlong.{get-updated0}
use Rattle.ec_slave.proofs.Memory.WindowBytes.{from-at}
use Rattle.ec_slave.proofs.physical.managers.Bytes.copy_own.Goals as goal

pub returns : goal.returns
returns c =
    let w : Window = record { from = c.args.self.now.from; bytes = c.args.self.now.bytes.now } in
    let lower = c.args.self.now.lower.now in
    let start = c.args.start in
    let len : ℕ = length c.args.value.now in
    let xs = w.bytes in
    let ys = c.copy_from_slice.new.self in
    let first = within_parts w.from (length xs) start c.requires.first in
    let last = within_parts w.from (length xs) (start + len - 1) c.requires.last in
    let low : w.from ≤ start = first.0 in
    let some = c.requires.some in
    let high : start + len ≤ w.from + length xs = let x = last.1 in omega (arith, x, some) in
    let n : ℕ = start - w.from in
    let f : ℕ → Option ℕ = λ k. if is_none (governor lower (start + k)) then byte_from w (start + k) else None in
    let long : length ys ≡ len = search rules in
    let zero_long : length (zeros len) ≡ len = length-replicate len 0 in
    same_number_lists ys (updated_from 0 (zeros len) f) (long ∙ sym (length-updated 0 (zeros len) f ∙ zero_long)) (λ i l.
    let l2 : i < len = omega (arith, l, long) in
    let own : get_or ys i 0 ≡ get_or xs (n + i) 0 = search (rules, places) in
    let at : n + i ≡ start + i - w.from = omega (arith, low) in
    let told : f i ≡ Some (slice_index xs (start + i - w.from))
    = if_true (is_none (governor lower (start + i))) (byte_from w (start + i)) None (c.requires.own (start + i) (omega arith) (omega arith))
    ∙ from-at w (start + i) (omega (arith, low)) (omega (arith, l2, high)) in
    own ∙ (ap (λ k. get_or xs k 0) at ∙ (ap (λ o. unwrap_or o (get_or (zeros len) i 0)) (sym told) ∙ sym (get-updated0 (zeros len) f i (omega (arith, l2, zero_long))))))
