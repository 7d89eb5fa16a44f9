use Rattle.std.proofs.Common.{◌≡◌, ◌-◌, ◌*◌, ◌&&◌, length}
use Rattle.ec_fmmu.specs.Applied.{LogicalSpan}
use Rattle.ec_slave.proofs.LogicalAccess.ExchangedFrom.{exchanged_from, written_from}
use Rattle.ec_slave.proofs.logical.managers.access_managers.Given as goal

abbrev pub invariant-loop-k : goal.invariant-loop-k
invariant-loop-k l =
    let p : LogicalSpan = record { from = l.from; bits = 8 * length l.bytes } in
    (l.managers ≡ exchanged_from l.initial.managers l.reading l.writing l.fmmus p l.bytes (4 - l.k))
    × (l.is_written ≡ (l.writing && written_from l.initial.managers l.fmmus p l.bytes (4 - l.k)))
