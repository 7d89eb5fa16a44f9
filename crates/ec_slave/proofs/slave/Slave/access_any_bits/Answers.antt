use Rattle.std.proofs.Common.{ℕ, ◌+◌, ◌*◌, ◌≡◌, ◌⊎◌, Bool, true, false, List, length, inl, inr, sym, refl, ◌∙◌, ap, arith}
use Rattle.std.specs.Int.{from_bool}
use Rattle.ec_bits.proofs.BitLaws.{overlay_own}
use Rattle.ec_fmmu.specs.Applied.{LogicalSpan}
use Rattle.ec_slave.specs.Roles.{is_reading, is_writing}
use Rattle.ec_slave.specs.Mapped.{mapped_met}
use Rattle.ec_slave.specs.State.{SlaveState, MetBytes, fmmus}
use Rattle.ec_slave.specs.Logical.{logical_after, logical_met, some_read, some_written}
use Rattle.ec_slave.proofs.LogicalAccess.MissesLaw.{slave_left}
use Rattle.ec_slave.specs.declared.role.Role.{Role}
use Rattle.ec_slave.specs.declared.role.Role.TheVariants.{Read, ReadWrite, OrRead, OrReadWrite}
use Rattle.ec_slave.proofs.slave.Slave.access_any_bits.Goals as goal

pub returns-in-Write-clause-bytes : goal.returns-in-Write-clause-bytes
returns-in-Write-clause-bytes c =
    let p : LogicalSpan = record { from = c.args.from; bits = 8 * length c.args.bytes.now } in
    sym (ap (λ (w : Role). (mapped_met c.args.self.now w p c.args.bytes.now).bytes) c.in-Write.is ∙ overlay_own c.args.bytes.now _ (λ i l. refl))

pub returns-in-Nothing-clause-slave : goal.returns-in-Nothing-clause-slave
returns-in-Nothing-clause-slave c =
    let p : LogicalSpan = record { from = c.args.from; bits = 8 * length c.args.bytes.now } in
    slave_left c.args.self.now p c.args.bytes.now
    ∙ sym (ap (λ (w : Role). logical_after c.args.self.now (is_reading w) (is_writing w) p c.args.bytes.now) c.in-Nothing.is)

pub returns-in-Nothing-clause-bytes : goal.returns-in-Nothing-clause-bytes
returns-in-Nothing-clause-bytes c =
    let p : LogicalSpan = record { from = c.args.from; bits = 8 * length c.args.bytes.now } in
    sym (ap (λ (w : Role). (mapped_met c.args.self.now w p c.args.bytes.now).bytes) c.in-Nothing.is ∙ overlay_own c.args.bytes.now _ (λ i l. refl))

as_read : (s : SlaveState) (r : Role) (p : LogicalSpan) (b : List ℕ) → (r ≡ Read) ⊎ (r ≡ OrRead) → mapped_met s r p b ≡ logical_met true false 1 s p b
as_read s r p b (inl e) = ap (λ (x : Role). mapped_met s x p b) e
as_read s r p b (inr e) = ap (λ (x : Role). mapped_met s x p b) e

as_both : (s : SlaveState) (r : Role) (p : LogicalSpan) (b : List ℕ) → (r ≡ ReadWrite) ⊎ (r ≡ OrReadWrite) → mapped_met s r p b ≡ logical_met true true 2 s p b
as_both s r p b (inl e) = ap (λ (x : Role). mapped_met s x p b) e
as_both s r p b (inr e) = ap (λ (x : Role). mapped_met s x p b) e

pub returns-in-Read-clause-slave : goal.returns-in-Read-clause-slave
returns-in-Read-clause-slave c =
    let s : SlaveState = c.args.self.now in
    let b : List ℕ = c.args.bytes.now in
    let p : LogicalSpan = record { from = c.args.from; bits = 8 * length b } in
    c.read_bits.ensures.slave ∙ sym (ap (λ (m : MetBytes). m.slave) (as_read s c.args.role p b c.in-Read.is))

pub returns-in-Read-clause-bytes : goal.returns-in-Read-clause-bytes
returns-in-Read-clause-bytes c =
    let s : SlaveState = c.args.self.now in
    let b : List ℕ = c.args.bytes.now in
    let p : LogicalSpan = record { from = c.args.from; bits = 8 * length b } in
    c.read_bits.ensures.bytes ∙ sym (ap (λ (m : MetBytes). m.bytes) (as_read s c.args.role p b c.in-Read.is))

pub returns-in-Read-clause-added : goal.returns-in-Read-clause-added
returns-in-Read-clause-added c =
    let s : SlaveState = c.args.self.now in
    let b : List ℕ = c.args.bytes.now in
    let p : LogicalSpan = record { from = c.args.from; bits = 8 * length b } in
    let read : Bool = some_read s.memory s.managers (fmmus s) p in
    let alone : from_bool read ≡ from_bool read + 1 * from_bool false = omega arith in
    ap from_bool c.read_bits.ensures.some ∙ (alone ∙ sym (ap (λ (m : MetBytes). m.added) (as_read s c.args.role p b c.in-Read.is)))

pub returns-in-ReadWrite-clause-slave : goal.returns-in-ReadWrite-clause-slave
returns-in-ReadWrite-clause-slave c =
    let s : SlaveState = c.args.self.now in
    let b : List ℕ = c.args.bytes.now in
    let p : LogicalSpan = record { from = c.args.from; bits = 8 * length b } in
    c.exchange_bits.ensures.slave ∙ sym (ap (λ (m : MetBytes). m.slave) (as_both s c.args.role p b c.in-ReadWrite.is))

pub returns-in-ReadWrite-clause-bytes : goal.returns-in-ReadWrite-clause-bytes
returns-in-ReadWrite-clause-bytes c =
    let s : SlaveState = c.args.self.now in
    let b : List ℕ = c.args.bytes.now in
    let p : LogicalSpan = record { from = c.args.from; bits = 8 * length b } in
    c.exchange_bits.ensures.bytes ∙ sym (ap (λ (m : MetBytes). m.bytes) (as_both s c.args.role p b c.in-ReadWrite.is))

pub returns-in-ReadWrite-clause-added : goal.returns-in-ReadWrite-clause-added
returns-in-ReadWrite-clause-added c =
    let s : SlaveState = c.args.self.now in
    let b : List ℕ = c.args.bytes.now in
    let p : LogicalSpan = record { from = c.args.from; bits = 8 * length b } in
    c.exchange_bits.ensures.added ∙ sym (ap (λ (m : MetBytes). m.added) (as_both s c.args.role p b c.in-ReadWrite.is))

pub returns-in-Write-clause-slave : goal.returns-in-Write-clause-slave
returns-in-Write-clause-slave c =
    let s : SlaveState = c.args.self.now in
    let b : List ℕ = c.args.bytes.now in
    let p : LogicalSpan = record { from = c.args.from; bits = 8 * length b } in
    c.write_bits.ensures.slave ∙ sym (ap (λ (r : Role). (mapped_met s r p b).slave) c.in-Write.is)

pub returns-in-Write-clause-added : goal.returns-in-Write-clause-added
returns-in-Write-clause-added c =
    let s : SlaveState = c.args.self.now in
    let b : List ℕ = c.args.bytes.now in
    let p : LogicalSpan = record { from = c.args.from; bits = 8 * length b } in
    let written : Bool = some_written s.managers (fmmus s) p b in
    let alone : from_bool written ≡ from_bool false + 1 * from_bool written = omega arith in
    ap from_bool c.write_bits.ensures.some ∙ (alone ∙ sym (ap (λ (r : Role). (mapped_met s r p b).added) c.in-Write.is))
