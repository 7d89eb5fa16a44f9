use Rattle.std.proofs.Common.{ℕ, ◌≡◌, ◌+◌, ◌-◌, ◌<◌, ◌≤◌, ◌∙◌, ap, sym, arith, length, take, drop, slice_index, List, Bool, Option, Some, None, if◌then◌else◌}
use Rattle.ec_bits.specs.Bits.{within}
use Rattle.ec_sync.specs.SyncManager.{SyncManager}
use Rattle.ec_slave.specs.Physical.{Window, is_stored_at, may_write_byte, updated}
use Rattle.ec_slave.proofs.Memory.AnyBelow.{any-none, any-joined}
use Rattle.ec_slave.proofs.Memory.UpdatedAlong.{updated_along, told-none, told-next_at, updated-along, length-part, get-part}
use Rattle.ec_slave.proofs.Memory.WindowBytes.{kept_byte, kept-outside, from-at}
use Rattle.ec_slave.proofs.physical.bytes.write_physical.Goals as goal

pub loop-done-init : goal.loop-done-init
loop-done-init c = record { inside = omega arith; memory = told-none _ _ _; some = any-none _ }

pub loop-done-preserved : goal.loop-done-preserved
loop-done-preserved c =
    let w : Window = record { from = c.args.from; bytes = c.args.bytes.now } in
    let ms : List SyncManager = c.args.managers.now in
    let n : ℕ = c.loop-done.done in
    let m : ℕ = c.end_of_written.result - (w.from + n) in
    let lo = c.end_of_written.ensures.inside.0 in
    let hi = c.end_of_written.ensures.inside.1 in
    let inv = c.loop-done.invariant in
    let fits : n + m ≤ length w.bytes = omega (arith, lo, hi) in
    let some : 0 < m = omega (arith, lo) in
    let part : List ℕ = take (n + m - n) (drop n w.bytes) in
    let long : length part ≡ m = length-part w.bytes n m fits in
    let g : ℕ → Option ℕ = λ a. if is_stored_at ms a then Some (slice_index part (a - (w.from + n))) else None in
    let p : ℕ → Bool = λ k. may_write_byte ms c.args.is_busy (within w.from (length w.bytes)) (w.from + k) in
    let same : (i : ℕ) → w.from + n ≤ i → i < w.from + n + m → g i ≡ kept_byte ms w i
    = λ i a b.
    let at : n + (i - (w.from + n)) ≡ i - w.from = omega (arith, a) in
    let own : slice_index part (i - (w.from + n)) ≡ slice_index w.bytes (i - w.from)
    = get-part w.bytes n m (i - (w.from + n)) fits (omega (arith, a, b)) ∙ ap (λ k. slice_index w.bytes k) at in
    ap (λ (o : Option ℕ). if is_stored_at ms i then o else None) (ap Some own ∙ sym (from-at w i (omega (arith, a)) (omega (arith, b, fits)))) in
    record {
      inside = fits;
      memory = told-next_at n m w.from c.args.memory.now (kept_byte ms w) g c.loop-done.memory _ inv.memory same
          (c.store_part.ensures ms c.owner_of-owner.ensures.value (λ a l h. c.end_of_written.ensures.alike a l (omega (arith, h, long, lo)))
          ∙ ap (λ (k : ℕ). updated c.loop-done.memory (λ a. if within (w.from + n) k a then g a else None)) long);
      some = any-joined m n p c.loop-done.is_some c.writes_byte-is_some.result inv.some c.writes_byte-is_some.ensures some
          (λ i a b. c.end_of_written.ensures.writes c.args.is_busy (within w.from (length w.bytes)) (w.from + i) (omega (arith, a)) (omega (arith, b, lo)));
    }

pub store_part-requires-clause-aside : goal.store_part-requires-clause-aside
store_part-requires-clause-aside c = λ below.
    let xs = c.args.bytes.now in
    let n : ℕ = c.loop-done.done in
    let first : ℕ = c.args.from + n in
    let m : ℕ = c.end_of_written.result - first in
    let lo = c.end_of_written.ensures.inside.0 in
    let hi = c.end_of_written.ensures.inside.1 in
    let long : length (take (n + m - n) (drop n xs)) ≡ m = length-part xs n m (omega (arith, lo, hi)) in
    let high = c.end_of_written.ensures.aside below in
    omega (arith, high, long, lo)

pub returns-clause-memory : goal.returns-clause-memory
returns-clause-memory c =
    let w : Window = record { from = c.args.from; bytes = c.args.bytes.now } in
    let ms : List SyncManager = c.args.managers.now in
    let inside = c.loop-done.invariant.inside in
    let test = c.loop-done-test.false in
    let e : c.loop-done.done ≡ length c.args.bytes.now = omega (arith, inside, test) in
    c.loop-done.invariant.memory ∙ (ap (λ n. updated_along n w.from c.args.memory.now (kept_byte ms w)) e
    ∙ updated-along (length w.bytes) w.from c.args.memory.now (kept_byte ms w) (kept-outside ms w))

pub returns-then-from-bytes-le-RAM_START-clause-memory : goal.returns-then-from-bytes-le-RAM_START-clause-memory
returns-then-from-bytes-le-RAM_START-clause-memory c = c.write_registers.ensures.memory c.args.managers.now

pub returns-then-from-bytes-le-RAM_START-clause-some : goal.returns-then-from-bytes-le-RAM_START-clause-some
returns-then-from-bytes-le-RAM_START-clause-some c = c.write_registers.ensures.some c.args.managers.now
