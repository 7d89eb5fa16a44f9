use Rattle.std.proofs.Common.{ℕ, ◌+◌, ◌*◌, ◌≡◌, ◌∙◌, Bool, List, true, ap}
use Rattle.std.specs.Int.{from_bool}
use Rattle.ec_bits.specs.Bits.{overlay}
use Rattle.ec_regs.specs.declared.fmmu.FmmuSettings.{FmmuSettings}
use Rattle.ec_sync.specs.SyncManager.{SyncManager}
use Rattle.ec_fmmu.specs.Applied.{LogicalSpan}
use Rattle.ec_slave.specs.State.{SlaveState, fmmus}
use Rattle.ec_slave.specs.Logical.{logical_after, read_bit, some_read, some_written}
use Rattle.ec_slave.specs.Mapped.{at_bits}
use Rattle.ec_slave.proofs.slave.Slave.read_write_copied_bits.Goals as goal

pub returns-clause-slave : goal.returns-clause-slave
returns-clause-slave c =
    c.write_bits-is_written.ensures.slave ∙ ap (λ (xs : List ℕ). logical_after c.args.self.now true true (at_bits c.args.from xs) xs) c.copy_from_slice.ensures.after

pub returns-clause-bytes : goal.returns-clause-bytes
returns-clause-bytes c =
    let s : SlaveState = c.args.self.now in
    let b : List ℕ = c.args.bytes.now in
    let p : LogicalSpan = at_bits c.args.from b in
    c.read_logical-is_read.ensures.bits
    ∙ (ap (λ (xs : List ℕ). overlay b (read_bit xs c.deref-2.result.now c.self.inside.fmmus p)) (c.deref.ensures.value ∙ ap (λ (x : SlaveState). x.memory) c.self.view_is)
    ∙ (ap (λ (ms : List SyncManager). overlay b (read_bit s.memory ms c.self.inside.fmmus p)) (c.deref-2.ensures.value ∙ ap (λ (x : SlaveState). x.managers) c.self.view_is)
    ∙ ap (λ (fs : List FmmuSettings). overlay b (read_bit s.memory s.managers fs p)) (c.self.invariant.decoded ∙ ap fmmus c.self.view_is)))

pub returns-clause-added : goal.returns-clause-added
returns-clause-added c =
    let s : SlaveState = c.args.self.now in
    let b : List ℕ = c.args.bytes.now in
    let p : LogicalSpan = at_bits c.args.from b in
    let read : c.read_logical-is_read.result ≡ some_read s.memory s.managers (fmmus s) p
    = c.read_logical-is_read.ensures.any
    ∙ (ap (λ (xs : List ℕ). some_read xs c.deref-2.result.now c.self.inside.fmmus p) (c.deref.ensures.value ∙ ap (λ (x : SlaveState). x.memory) c.self.view_is)
    ∙ (ap (λ (ms : List SyncManager). some_read s.memory ms c.self.inside.fmmus p) (c.deref-2.ensures.value ∙ ap (λ (x : SlaveState). x.managers) c.self.view_is)
    ∙ ap (λ (fs : List FmmuSettings). some_read s.memory s.managers fs p) (c.self.invariant.decoded ∙ ap fmmus c.self.view_is))) in
    let written : c.write_bits-is_written.result ≡ some_written s.managers (fmmus s) p b
    = c.write_bits-is_written.ensures.some ∙ ap (λ (xs : List ℕ). some_written s.managers (fmmus s) (at_bits c.args.from xs) xs) c.copy_from_slice.ensures.after in
    ap (λ (r : Bool). from_bool r + 2 * from_bool c.write_bits-is_written.result) read
    ∙ ap (λ (w : Bool). from_bool (some_read s.memory s.managers (fmmus s) p) + 2 * from_bool w) written
