use Rattle.std.proofs.Common.{[], ◌≡◌, ◌≤◌, ◌+◌, ◌++◌, ◌∙◌, List, true, false, length, take, drop, sym, ap, arith}
use Rattle.ec_device.specs.Types.{SlaveKind}
use Rattle.ec_sync.specs.SyncManager.{SyncManager}
use Rattle.ec_slave.specs.State.{SlaveState}
use Rattle.ec_slave.specs.Physical.{Window, physical_managers}
use Rattle.ec_slave.proofs.LogicalAccess.ExchangedFrom.{take_front}
use Rattle.ec_slave.proofs.LogicalAccess.SlaveWritten.{physically_read}
use Rattle.ec_slave.proofs.Memory.BroadcastLaw.{registers-idle}
use Rattle.ec_slave.proofs.slave.Slave.after_read.Goals as goal

pub returns-else-from-bytes-gt-RAM_START : goal.returns-else-from-bytes-gt-RAM_START
returns-else-from-bytes-gt-RAM_START c =
    let w : Window = record { from = c.args.from; bytes = c.args.bytes.now } in
    let low : w.from + length w.bytes ≤ 4096 = omega arith in
    sym (registers-idle c.args.self.now w low)

pub invariant_of-self : goal.invariant_of-self
invariant_of-self c =
    let met : List SyncManager = c.access_managers.new.managers in
    let own = c.deref_mut.ensures.value in
    let ok = c.self.inside.managers.ok in
    let long = c.access_managers.auto.managers in
    record {
      room = c.self.invariant.room;
      four = ap length (take_front met _ c.self.inside.managers.len (omega (arith, ap length own, ok, long))) ∙ (long ∙ (ap length own ∙ c.self.invariant.four));
      decoded = c.self.invariant.decoded;
      image = c.self.invariant.image;
    }

pub access_managers-requires : goal.access_managers-requires
access_managers-requires c = ap length c.deref_mut.ensures.value ∙ c.self.invariant.four

pub returns-then-from-bytes-gt-RAM_START : goal.returns-then-from-bytes-gt-RAM_START
returns-then-from-bytes-gt-RAM_START c =
    let w : Window = record { from = c.args.from; bytes = c.args.bytes.now } in
    let met : List SyncManager = c.access_managers.new.managers in
    let own = c.deref_mut.ensures.value in
    let ok = c.self.inside.managers.ok in
    let long = c.access_managers.auto.managers in
    let all : List SyncManager = take c.self.inside.managers.len (met ++ drop (length met) c.self.inside.managers.items) in
    let front : all ≡ met = take_front met _ c.self.inside.managers.len (omega (arith, ap length own, ok, long)) in
    ap (λ (x : SlaveState). record x { managers = all }) c.self.view_is
    ∙ physically_read c.args.self.now w all
    (front ∙ (c.access_managers.ensures ∙ (ap (λ (k : SlaveKind). physical_managers k.hardware [] true false w 0 c.deref_mut.result.now) (c.kind-kind.ensures ∙ ap (λ (x : SlaveState). x.kind) c.self.view_is)
    ∙ ap (physical_managers c.args.self.now.kind.hardware [] true false w 0) (own ∙ ap (λ (x : SlaveState). x.managers) c.self.view_is))))
