use Rattle.std.proofs.Common.{◌≡◌, ◌+◌, ◌-◌, ◌<◌, ◌≤◌, length, ℕ, Bool, Option, List, ◌∙◌, sym, ap, subst, arith, slice_index, inl, inr}
use Rattle.std.specs.Option.{IfSome}
use Rattle.std.proofs.lemmas.Bool.{cases_lt}
use Rattle.ec_bits.specs.Bits.{any_below}
use Rattle.ec_bits.proofs.AnyLaws.{any_below_from}
use Rattle.ec_regs.specs.Memory.{ram_start}
use Rattle.ec_sync.specs.SyncManager.{SyncManager}
use Rattle.ec_sync.specs.Governing.{governor}
use Rattle.ec_slave.specs.State.{SlaveState}
use Rattle.ec_slave.specs.Physical.{Window, byte_read, may_read_byte, touches}
use Rattle.ec_slave.proofs.Memory.AnyBelow.{any-none, any-part}
use Rattle.ec_slave.proofs.Memory.UpdatedAlong.{updated_along, told-none, told-next, told-left, updated-whole, get-updated_outside, length-updated_along}
use Rattle.ec_slave.proofs.Memory.WindowBytes.{read-denied, read-inside, read-own}
use Rattle.ec_slave.proofs.slave.Slave.read_parts.Goals as goal
use Rattle.ec_slave.proofs.slave.Slave.read_parts.Goals.{then-reads_byte, else-reads_byte}

pub loop-done-init : goal.loop-done-init
loop-done-init c = record { inside = omega arith; bytes = told-none _ _ _; some = any-none _ }

pub loop-done-preserved : goal.loop-done-preserved
loop-done-preserved c =
    let w : Window = record { from = c.args.from; bytes = c.args.bytes.now } in
    let s : SlaveState = c.args.self.now in
    let n : ℕ = c.loop-done.done in
    let m : ℕ = c.end_of_part.result - (w.from + n) in
    let p : ℕ → Bool = λ k. may_read_byte s.managers (touches w) (w.from + k) in
    let f : ℕ → Option ℕ = byte_read s c.args.joining w in
    let test = c.loop-done-test.true in
    let lo = c.end_of_part.ensures.inside.0 in
    let hi = c.end_of_part.ensures.inside.1 in
    let inv = c.loop-done.invariant in
    let same : c.deref-in-loop-done.result.now ≡ s.managers = c.deref-in-loop-done.ensures.value ∙ ap (λ (x : SlaveState). x.managers) c.self.view_is in
    let same_2 : c.deref-in-loop-done-2.result.now ≡ s.managers = c.deref-in-loop-done-2.ensures.value ∙ ap (λ (x : SlaveState). x.managers) c.self.view_is in
    let is : c.reads_byte.result ≡ p n = c.reads_byte.ensures.value ∙ ap (λ (ms : List SyncManager). may_read_byte ms (touches w) (w.from + n)) same_2 in
    let alike : (i : ℕ) → n ≤ i → i < n + m → p i ≡ p n
    = λ i a b. subst (λ (ms : List SyncManager). may_read_byte ms (touches w) (w.from + i) ≡ may_read_byte ms (touches w) (w.from + n)) same
    (c.end_of_part.ensures.reads (touches w) (w.from + i) (omega arith) (omega (arith, b, lo))) in
    let fits : n + m ≤ length w.bytes = omega (arith, lo, hi) in
    elim c.if-reads_byte.branch [
      | then-reads_byte v ↦ record {
        inside = fits;
        bytes = told-next n m w.bytes f (byte_read s c.args.joining (record { from = w.from; bytes = c.loop-done.bytes })) c.loop-done.bytes _ inv.bytes
            (λ i a b. read-own s c.args.joining w.from c.loop-done.bytes w.bytes i (ap length inv.bytes ∙ length-updated_along n 0 w.bytes f)
            (ap (λ xs. slice_index xs i) inv.bytes ∙ get-updated_outside n 0 w.bytes f i (inr (omega (arith, a))))) (v.bytes-is ∙ v.read_part.ensures);
        some = v.is_some-is ∙ sym (any_below_from (n + m) p n (omega (arith, lo)) (sym is ∙ v.if-reads_byte.true));
      }
      | else-reads_byte v ↦ record {
        inside = fits;
        bytes = v.bytes-is ∙ (inv.bytes ∙ told-left m n w.bytes f (λ i a b. read-denied s c.args.joining w i (alike i a b ∙ (sym is ∙ v.if-reads_byte.false))));
        some = v.is_some-is ∙ any-part m n p _ inv.some (λ i a b. alike i a b ∙ (sym is ∙ v.if-reads_byte.false));
      }
    ]

pub read_part-requires-clause-memory : goal.read_part-requires-clause-memory
read_part-requires-clause-memory c = λ i a b.
    let w : Window = record { from = c.args.from; bytes = c.args.bytes.now } in
    let s : SlaveState = c.args.self.now in
    let n : ℕ = c.loop-done.done in
    let lo = c.end_of_part.ensures.inside.0 in
    let same : c.deref-in-loop-done.result.now ≡ s.managers = c.deref-in-loop-done.ensures.value ∙ ap (λ (x : SlaveState). x.managers) c.self.view_is in
    let same_2 : c.deref-in-loop-done-2.result.now ≡ s.managers = c.deref-in-loop-done-2.ensures.value ∙ ap (λ (x : SlaveState). x.managers) c.self.view_is in
    let alike = c.end_of_part.ensures.reads (touches w) (w.from + i) (omega (arith, a)) (omega (arith, b, lo)) in
    read-inside s.managers (touches w) (w.from + i)
    (subst (λ (ms : List SyncManager). may_read_byte ms (touches w) (w.from + i) ≡ may_read_byte ms (touches w) (w.from + n)) same alike
    ∙ (ap (λ (ms : List SyncManager). may_read_byte ms (touches w) (w.from + n)) (sym same_2) ∙ (sym c.reads_byte.ensures.value ∙ c.if-reads_byte.true)))

pub read_part-requires-clause-owner : goal.read_part-requires-clause-owner
read_part-requires-clause-owner c = λ a ram lo hi.
    let s : SlaveState = c.args.self.now in
    let first : ℕ = c.args.from + c.loop-done.done in
    let begin = c.end_of_part.ensures.inside.0 in
    let same : c.deref.result.now ≡ s.managers = c.deref.ensures.value ∙ ap (λ (x : SlaveState). x.managers) c.self.view_is in
    let same_2 : c.deref-in-loop-done.result.now ≡ s.managers = c.deref-in-loop-done.ensures.value ∙ ap (λ (x : SlaveState). x.managers) c.self.view_is in
    let high : ram_start ≤ first = elim (cases_lt first ram_start) [
      | inl x ↦ absurd (let y = c.end_of_part.ensures.registers x in omega (arith, y, ram, hi, begin))
      | inr x ↦ x
    ] in
    c.owner_of-owner.ensures.value high ∙ (ap (λ (ms : List SyncManager). governor ms first) same
    ∙ sym (subst (λ (ms : List SyncManager). governor ms a ≡ governor ms first) same_2 (c.end_of_part.ensures.owner a ram lo (omega (arith, hi, begin)))))

pub returns-clause-bytes : goal.returns-clause-bytes
returns-clause-bytes c =
    let inside = c.loop-done.invariant.inside in
    let test = c.loop-done-test.false in
    let e : c.loop-done.done ≡ length c.args.bytes.now = omega (arith, inside, test) in
    c.loop-done.invariant.bytes ∙ (ap (λ n. updated_along n 0 c.args.bytes.now (byte_read c.args.self.now c.args.joining (record { from = c.args.from; bytes = c.args.bytes.now }))) e ∙ updated-whole c.args.bytes.now _)

pub returns-clause-some : goal.returns-clause-some
returns-clause-some c =
    let inside = c.loop-done.invariant.inside in
    let test = c.loop-done-test.false in
    let e : c.loop-done.done ≡ length c.args.bytes.now = omega (arith, inside, test) in
    let w : Window = record { from = c.args.from; bytes = c.args.bytes.now } in
    c.loop-done.invariant.some ∙ ap (λ n. any_below n (λ k. may_read_byte c.args.self.now.managers (touches w) (c.args.from + k))) e

pub reads_byte-requires-clause-owner : goal.reads_byte-requires-clause-owner
reads_byte-requires-clause-owner c = λ ram.
    c.owner_of-owner.ensures.value ram ∙ ap (λ (ms : List SyncManager). governor ms (c.args.from + c.loop-done.done)) (c.deref.ensures.value ∙ sym c.deref-in-loop-done-2.ensures.value)

pub reads_byte-requires-clause-within : goal.reads_byte-requires-clause-within
reads_byte-requires-clause-within c = subst (λ (ms : List SyncManager). IfSome c.owner_of-owner.result (λ n. n < length ms)) (c.deref.ensures.value ∙ sym c.deref-in-loop-done-2.ensures.value) c.owner_of-owner.ensures.within
