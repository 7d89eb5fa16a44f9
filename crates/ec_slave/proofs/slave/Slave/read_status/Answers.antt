use Rattle.std.proofs.Common.{◌≡◌, ◌+◌, ℕ, List, Option, slice_set, refl, sym, ◌∙◌, ap, arith}
use Rattle.ec_regs.specs.Memory.{al_status}
use Rattle.ec_slave.specs.State.{SlaveState}
use Rattle.ec_slave.specs.Physical.{Window, byte_read, touches}
use Rattle.ec_slave.proofs.Memory.UpdatedAlong.{updated_along, told-none, told-step0, updated-whole}
use Rattle.ec_slave.proofs.Memory.WindowBytes.{read-given, read-register}
use Rattle.ec_slave.proofs.slave.Slave.read_status.Goals as goal

pub returns : goal.returns
returns c =
    let xs : List ℕ = c.args.bytes.now in
    let s : SlaveState = c.args.self.now in
    let w : Window = record { from = al_status; bytes = xs } in
    let f : ℕ → Option ℕ = byte_read s c.args.joining w in
    let none : xs ≡ updated_along 0 0 xs f = told-none 0 xs f in
    let one : slice_set xs 0 c.read_over.result ≡ updated_along 1 0 xs f =
    told-step0 0 xs f xs _ _ none
    (read-given s c.args.joining w 0 xs _ _ (read-register s.managers (touches w) al_status (omega arith)) none c.status_bytes-low.ensures.low c.read_over.ensures) refl in
    let two : slice_set (slice_set xs 0 c.read_over.result) 1 c.read_over-2.result ≡ updated_along 2 0 xs f =
    told-step0 1 xs f (slice_set xs 0 c.read_over.result) _ _ one
    (read-given s c.args.joining w 1 _ _ _ (read-register s.managers (touches w) (al_status + 1) (omega arith)) one c.status_bytes-low.ensures.high c.read_over-2.ensures) refl in
    two ∙ (ap (λ n. updated_along n 0 xs f) (sym c.requires) ∙ updated-whole xs f)
