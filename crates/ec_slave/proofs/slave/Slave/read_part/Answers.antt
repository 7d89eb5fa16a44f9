use Rattle.std.proofs.Common.{ℕ, ◌+◌, ◌-◌, ◌<◌, ◌≤◌, ◌≡◌, ◌∙◌, Bool, true, Option, Some, None, List, length, take, drop, ap, sym, refl, arith, inl, inr, get_or, slice_index, if◌then◌else◌}
use borrow.Rule.Slice.PartMut.{put_mid}
use Rattle.ec_bits.specs.Bits.{within}
use Rattle.ec_bits.proofs.AnyLaws.{if_true, if_false, within_true, within_below, within_above}
use Rattle.ec_slave.specs.State.{SlaveState}
use Rattle.ec_slave.specs.Physical.{Window, byte_at, byte_read, may_read_byte, updated_from, touches}
use Rattle.ec_slave.specs.Keeping.{length-updated}
use Rattle.ec_slave.proofs.Memory.UpdatedAlong.{get-updated0, get-part, length-part, slice-updated}
use Rattle.ec_slave.proofs.Memory.WindowBytes.{over}
use Rattle.ec_slave.proofs.slave.Slave.read_part.Goals as goal

-- the data once their part of `n` bytes from `a` on was read, y k being what is read over byte k of it
part : (s : SlaveState) (joining : Bool) (w : Window) (a n : ℕ) (ys : List ℕ) (y : ℕ → ℕ) → a + n ≤ length w.bytes
    → ((i : ℕ) → a ≤ i → i < a + n → may_read_byte s.managers (touches w) (w.from + i) ≡ true)
    → ((k : ℕ) → k < n → y k ≡ byte_at s (w.from + a + k))
    → ys ≡ updated_from 0 (take (a + n - a) (drop a w.bytes)) (λ k. Some (over joining (slice_index (take (a + n - a) (drop a w.bytes)) k) (y k)))
    → put_mid a (a + n - a) w.bytes ys ≡ updated_from 0 w.bytes (λ i. if within a n i then byte_read s joining w i else None)
part s joining w a n ys y fits reads is made =
    let xs : List ℕ = w.bytes in
    let mid : List ℕ = take (a + n - a) (drop a xs) in
    let g : ℕ → Option ℕ = λ k. Some (over joining (slice_index mid k) (y k)) in
    let f : ℕ → Option ℕ = λ i. if within a n i then byte_read s joining w i else None in
    let e : a + n - a ≡ n = omega arith in
    let mid_long : length mid ≡ n = length-part xs a n fits in
    let long : length ys ≡ n = ap length made ∙ (length-updated 0 mid g ∙ mid_long) in
    let told : (i : ℕ) → a ≤ i → i < a + n → f i ≡ Some (get_or ys (i - a) 0)
    = λ i lo hi.
    let k : ℕ = i - a in
    let few : k < n = omega (arith, lo, hi) in
    let at : a + k ≡ i = omega (arith, lo) in
    let there : w.from + a + k ≡ w.from + i = omega (arith, lo) in
    let was : slice_index mid k ≡ slice_index xs i = get-part xs a n k fits few ∙ ap (λ j. slice_index xs j) at in
    let here : get_or ys k 0 ≡ over joining (slice_index mid k) (y k)
    = ap (λ zs. get_or zs k 0) made ∙ get-updated0 mid g k (omega (arith, few, mid_long)) in
    if_true (within a n i) (byte_read s joining w i) None (within_true a n i lo hi)
    ∙ (if_true (may_read_byte s.managers (touches w) (w.from + i)) (Some (over joining (slice_index xs i) (byte_at s (w.from + i)))) None (reads i lo hi)
    ∙ ap Some (sym (here ∙ (ap (λ x. over joining x (y k)) was ∙ ap (over joining (slice_index xs i)) (is k few ∙ ap (byte_at s) there))))) in
    ap (λ (k : ℕ). put_mid a k xs ys) e
    ∙ slice-updated xs ys a n f fits long told
    (λ i h. if_false (within a n i) (byte_read s joining w i) None (elim h [ inl x ↦ within_below a n i x | inr y ↦ within_above a n i y ]))

pub returns-in-Some : goal.returns-in-Some
returns-in-Some c =
    part c.args.self.now c.args.joining (record { from = c.args.from; bytes = c.args.bytes.now }) c.args.at c.args.count c.read_slice.new.bytes
    (slice_index c.in-Some.visible.now) c.requires.inside c.requires.reads c.in-Some.ensures.bytes c.read_slice.ensures

pub returns-in-None : goal.returns-in-None
returns-in-None c =
    part c.args.self.now c.args.joining (record { from = c.args.from; bytes = c.args.bytes.now }) c.args.at c.args.count c.read_each.new.bytes
    (λ k. byte_at c.args.self.now (c.args.from + c.args.at + k)) c.requires.inside c.requires.reads (λ k l. refl) c.read_each.ensures
