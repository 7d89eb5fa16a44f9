use Rattle.std.proofs.Common.{ℕ, ◌+◌, ◌*◌, ◌∙◌, Bool, true, List, ap}
use Rattle.std.specs.Int.{from_bool}
use Rattle.ec_slave.specs.State.{SlaveState}
use Rattle.ec_slave.specs.Physical.{Window, is_written, physical_after, some_byte_read}
use Rattle.ec_slave.proofs.slave.Slave.read_write_copied_bytes.Goals as goal

pub returns-clause-slave : goal.returns-clause-slave
returns-clause-slave c =
    c.write_bytes-is_written.ensures.slave
    ∙ ap (λ (xs : List ℕ). physical_after c.args.self.now true true (record { from = c.args.from; bytes = xs })) c.copy_from_slice.ensures.after

pub returns-clause-bytes : goal.returns-clause-bytes
returns-clause-bytes c = c.read_physical-is_read.ensures.bytes

pub returns-clause-added : goal.returns-clause-added
returns-clause-added c =
    let s : SlaveState = c.args.self.now in
    let w : Window = record { from = c.args.from; bytes = c.args.bytes.now } in
    ap (λ (r : Bool). from_bool r + 2 * from_bool c.write_bytes-is_written.result) c.read_physical-is_read.ensures.some
    ∙ ap (λ (b : Bool). from_bool (some_byte_read s.managers w) + 2 * from_bool b)
    (c.write_bytes-is_written.ensures.some ∙ ap (λ (xs : List ℕ). is_written s (record { from = c.args.from; bytes = xs })) c.copy_from_slice.ensures.after)
