use Rattle.std.proofs.Common.{◌≡◌, ◌+◌, ◌*◌, Bool, true, false, List, ℕ, length, ap, ◌∙◌}
use Rattle.std.specs.Int.{from_bool}
use Rattle.ec_bits.specs.Bits.{overlay}
use Rattle.ec_fmmu.specs.Applied.{LogicalSpan}
use Rattle.ec_slave.specs.State.{SlaveState, fmmus}
use Rattle.ec_slave.specs.Logical.{logical_after, read_bit, some_read}
use Rattle.ec_slave.proofs.LogicalAccess.WriteFirst.{slave_at_once, data_at_once, some_at_once}
use Rattle.ec_slave.proofs.slave.Slave.write_and_read_bits.Goals as goal

pub returns-clause-slave : goal.returns-clause-slave
returns-clause-slave c =
    let s : SlaveState = c.args.self.now in
    let b : List ℕ = c.args.bytes.now in
    let p : LogicalSpan = record { from = c.args.from; bits = 8 * length b } in
    c.read_bits.ensures.slave
    ∙ (ap (λ (x : SlaveState). logical_after x true false p b) c.write_bits-is_written.ensures.slave ∙ slave_at_once s p b b)

pub returns-clause-bytes : goal.returns-clause-bytes
returns-clause-bytes c =
    let s : SlaveState = c.args.self.now in
    let b : List ℕ = c.args.bytes.now in
    let p : LogicalSpan = record { from = c.args.from; bits = 8 * length b } in
    c.read_bits.ensures.bytes
    ∙ (ap (λ (x : SlaveState). overlay b (read_bit x.memory x.managers (fmmus x) p)) c.write_bits-is_written.ensures.slave ∙ data_at_once s p b c.requires.first)

pub returns-clause-added : goal.returns-clause-added
returns-clause-added c =
    let s : SlaveState = c.args.self.now in
    let b : List ℕ = c.args.bytes.now in
    let p : LogicalSpan = record { from = c.args.from; bits = 8 * length b } in
    let read : c.read_bits.result ≡ some_read s.memory s.managers (fmmus s) p
    = c.read_bits.ensures.some
    ∙ (ap (λ (x : SlaveState). some_read x.memory x.managers (fmmus x) p) c.write_bits-is_written.ensures.slave ∙ some_at_once s p b c.requires.first) in
    ap (λ (r : Bool). from_bool r + 2 * from_bool c.write_bits-is_written.result) read
    ∙ ap (λ (w : Bool). from_bool (some_read s.memory s.managers (fmmus s) p) + 2 * from_bool w) c.write_bits-is_written.ensures.some
