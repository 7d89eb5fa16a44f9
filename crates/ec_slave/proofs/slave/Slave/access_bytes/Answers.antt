use Rattle.std.proofs.Common.{◌+◌, ◌*◌, ◌≡◌, ◌∙◌, false, sym, ap, arith}
use Rattle.std.specs.Int.{from_bool}
use Rattle.ec_slave.specs.declared.role.Role.{Role}
use Rattle.ec_slave.specs.State.{SlaveState}
use Rattle.ec_slave.specs.Physical.{Window, is_written, physical_met, some_byte_read}
use Rattle.ec_slave.proofs.slave.Slave.access_bytes.Goals as goal

pub returns-in-Read-clause-slave : goal.returns-in-Read-clause-slave
unfolding physical_met
returns-in-Read-clause-slave c =
    let s : SlaveState = c.args.self.now in
    let w : Window = record { from = c.args.from; bytes = c.args.bytes.now } in
    c.read_bytes.ensures.slave ∙ sym (ap (λ (r : Role). (physical_met s r w).slave) c.in-Read.is)

pub returns-in-Read-clause-bytes : goal.returns-in-Read-clause-bytes
unfolding physical_met
returns-in-Read-clause-bytes c =
    let s : SlaveState = c.args.self.now in
    let w : Window = record { from = c.args.from; bytes = c.args.bytes.now } in
    c.read_bytes.ensures.bytes ∙ sym (ap (λ (r : Role). (physical_met s r w).bytes) c.in-Read.is)

pub returns-in-Read-clause-added : goal.returns-in-Read-clause-added
unfolding physical_met
returns-in-Read-clause-added c =
    let s : SlaveState = c.args.self.now in
    let w : Window = record { from = c.args.from; bytes = c.args.bytes.now } in
    let alone : from_bool (some_byte_read s.managers w) ≡ from_bool (some_byte_read s.managers w) + 2 * from_bool false = omega arith in
    c.read_bytes.ensures.added ∙ (alone ∙ sym (ap (λ (r : Role). (physical_met s r w).added) c.in-Read.is))

pub returns-in-OrRead-clause-slave : goal.returns-in-OrRead-clause-slave
unfolding physical_met
returns-in-OrRead-clause-slave c =
    let s : SlaveState = c.args.self.now in
    let w : Window = record { from = c.args.from; bytes = c.args.bytes.now } in
    c.read_bytes-in-OrRead.ensures.slave ∙ sym (ap (λ (r : Role). (physical_met s r w).slave) c.in-OrRead.is)

pub returns-in-OrRead-clause-bytes : goal.returns-in-OrRead-clause-bytes
unfolding physical_met
returns-in-OrRead-clause-bytes c =
    let s : SlaveState = c.args.self.now in
    let w : Window = record { from = c.args.from; bytes = c.args.bytes.now } in
    c.read_bytes-in-OrRead.ensures.bytes ∙ sym (ap (λ (r : Role). (physical_met s r w).bytes) c.in-OrRead.is)

pub returns-in-OrRead-clause-added : goal.returns-in-OrRead-clause-added
unfolding physical_met
returns-in-OrRead-clause-added c =
    let s : SlaveState = c.args.self.now in
    let w : Window = record { from = c.args.from; bytes = c.args.bytes.now } in
    let alone : from_bool (some_byte_read s.managers w) ≡ from_bool (some_byte_read s.managers w) + 2 * from_bool false = omega arith in
    c.read_bytes-in-OrRead.ensures.added ∙ (alone ∙ sym (ap (λ (r : Role). (physical_met s r w).added) c.in-OrRead.is))

pub returns-in-Write-clause-slave : goal.returns-in-Write-clause-slave
unfolding physical_met
returns-in-Write-clause-slave c =
    let s : SlaveState = c.args.self.now in
    let w : Window = record { from = c.args.from; bytes = c.args.bytes.now } in
    c.write_bytes.ensures.slave ∙ sym (ap (λ (r : Role). (physical_met s r w).slave) c.in-Write.is)

pub returns-in-Write-clause-bytes : goal.returns-in-Write-clause-bytes
unfolding physical_met
returns-in-Write-clause-bytes c =
    let s : SlaveState = c.args.self.now in
    let w : Window = record { from = c.args.from; bytes = c.args.bytes.now } in
    sym (ap (λ (r : Role). (physical_met s r w).bytes) c.in-Write.is)

pub returns-in-Write-clause-added : goal.returns-in-Write-clause-added
unfolding physical_met
returns-in-Write-clause-added c =
    let s : SlaveState = c.args.self.now in
    let w : Window = record { from = c.args.from; bytes = c.args.bytes.now } in
    let alone : from_bool (is_written s w) ≡ from_bool false + 1 * from_bool (is_written s w) = omega arith in
    ap from_bool c.write_bytes.ensures.some ∙ (alone ∙ sym (ap (λ (r : Role). (physical_met s r w).added) c.in-Write.is))

pub returns-in-ReadWrite-clause-slave : goal.returns-in-ReadWrite-clause-slave
unfolding physical_met
returns-in-ReadWrite-clause-slave c =
    let s : SlaveState = c.args.self.now in
    let w : Window = record { from = c.args.from; bytes = c.args.bytes.now } in
    c.read_write_copied_bytes.ensures.slave ∙ sym (ap (λ (r : Role). (physical_met s r w).slave) c.in-ReadWrite.is)

pub returns-in-ReadWrite-clause-bytes : goal.returns-in-ReadWrite-clause-bytes
unfolding physical_met
returns-in-ReadWrite-clause-bytes c =
    let s : SlaveState = c.args.self.now in
    let w : Window = record { from = c.args.from; bytes = c.args.bytes.now } in
    c.read_write_copied_bytes.ensures.bytes ∙ sym (ap (λ (r : Role). (physical_met s r w).bytes) c.in-ReadWrite.is)

pub returns-in-ReadWrite-clause-added : goal.returns-in-ReadWrite-clause-added
unfolding physical_met
returns-in-ReadWrite-clause-added c =
    let s : SlaveState = c.args.self.now in
    let w : Window = record { from = c.args.from; bytes = c.args.bytes.now } in
    c.read_write_copied_bytes.ensures.added ∙ sym (ap (λ (r : Role). (physical_met s r w).added) c.in-ReadWrite.is)

pub returns-in-OrReadWrite-clause-slave : goal.returns-in-OrReadWrite-clause-slave
unfolding physical_met
returns-in-OrReadWrite-clause-slave c =
    let s : SlaveState = c.args.self.now in
    let w : Window = record { from = c.args.from; bytes = c.args.bytes.now } in
    c.read_write_copied_bytes-in-OrReadWrite.ensures.slave ∙ sym (ap (λ (r : Role). (physical_met s r w).slave) c.in-OrReadWrite.is)

pub returns-in-OrReadWrite-clause-bytes : goal.returns-in-OrReadWrite-clause-bytes
unfolding physical_met
returns-in-OrReadWrite-clause-bytes c =
    let s : SlaveState = c.args.self.now in
    let w : Window = record { from = c.args.from; bytes = c.args.bytes.now } in
    c.read_write_copied_bytes-in-OrReadWrite.ensures.bytes ∙ sym (ap (λ (r : Role). (physical_met s r w).bytes) c.in-OrReadWrite.is)

pub returns-in-OrReadWrite-clause-added : goal.returns-in-OrReadWrite-clause-added
unfolding physical_met
returns-in-OrReadWrite-clause-added c =
    let s : SlaveState = c.args.self.now in
    let w : Window = record { from = c.args.from; bytes = c.args.bytes.now } in
    c.read_write_copied_bytes-in-OrReadWrite.ensures.added ∙ sym (ap (λ (r : Role). (physical_met s r w).added) c.in-OrReadWrite.is)
