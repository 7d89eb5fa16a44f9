use Rattle.std.proofs.Common.{[], ◌≡◌, ◌+◌, ◌&&◌, ◌||◌, ◌++◌, Bool, true, length, take, drop, arith, List, ℕ, ap, ◌∙◌, sym, if◌then◌else◌, nat_lt, Option}
use Rattle.ec_device.specs.declared.hardware.Hardware.{Hardware}
use Rattle.ec_device.specs.Types.{SlaveKind}
use Rattle.ec_regs.specs.declared.fmmu.FmmuSettings.{FmmuSettings}
use Rattle.ec_sync.specs.SyncManager.{SyncManager}
use Rattle.ec_slave.specs.State.{SlaveState, fmmus_of}
use Rattle.ec_slave.specs.Physical.{Window, memory_written, physical_managers, some_byte_written, touches}
use Rattle.ec_slave.proofs.LogicalAccess.FmmusOf.{decoded-kept}
use Rattle.ec_sii.specs.Port.{Sii, written}
use Rattle.ec_slave.proofs.Always.PowerOn.{written-image}
use Rattle.ec_regs.specs.Memory.{al_control}
use Rattle.ec_al.specs.Al.{requesting}
use Rattle.ec_dl.specs.DataLink.{dl_takes, dl_written}
use Rattle.ec_slave.proofs.LogicalAccess.SlaveWritten.{physically_written}
use Rattle.ec_slave.proofs.LogicalAccess.ExchangedFrom.{take_front}
use Rattle.ec_slave.proofs.slave.Slave.write_bytes.Goals as goal

pub invariant_of-self : goal.invariant_of-self
invariant_of-self c =
    let w : Window = record { from = c.args.from; bytes = c.args.bytes.now } in
    let old : List ℕ = c.deref_mut.result.now in
    let ms : List SyncManager = c.deref.result.now in
    let new : List ℕ = c.write_memory-is_some.new.memory in
    let fs : List FmmuSettings = c.self.inside.fmmus in
    let o : Option Hardware = c.self.inside.dictionary.kind.hardware in
    let kind = ap (λ (k : SlaveKind). k.hardware) c.kind-kind.ensures in
    let own = c.deref_mut.ensures.value in
    let ok = c.self.inside.memory.ok in
    let long = c.write_memory-is_some.auto.memory in
    let room : length old ≡ 12288 = ap length own ∙ c.self.invariant.room in
    let front : take c.self.inside.memory.len (new ++ drop (length new) c.self.inside.memory.items) ≡ new
    = take_front new _ c.self.inside.memory.len (omega (arith, ap length own, ok, long)) in
    let written : new ≡ memory_written o ms w old = c.write_memory-is_some.ensures.memory ∙ ap (λ (h : Option Hardware). memory_written h ms w old) kind in
    let now : c.deref-2.result.now ≡ memory_written o ms w old = c.deref-2.ensures.value ∙ (front ∙ written) in
    record {
      room = ap length front ∙ (long ∙ room);
      four = ap length (take_front c.write_managers.new.managers _ c.self.inside.managers.len (let own_2 = c.deref_mut-2.ensures.value in let ok_2 = c.self.inside.managers.ok in let long_2 = c.write_managers.auto.managers in omega (arith, ap length own_2, ok_2, long_2)))
          ∙ (c.write_managers.auto.managers ∙ (ap length c.deref_mut-2.ensures.value ∙ c.self.invariant.four));
      decoded = c.renew_fmmus.ensures
          ∙ (ap (λ (h : Option Hardware). if nat_lt w.from 1600 && nat_lt 1536 (w.from + length w.bytes) then fmmus_of h c.deref-2.result.now else fs) kind
          ∙ (ap (λ (xs : List ℕ). if nat_lt w.from 1600 && nat_lt 1536 (w.from + length w.bytes) then fmmus_of o xs else fs) now
          ∙ (decoded-kept o ms w old fs room (c.self.invariant.decoded ∙ ap (fmmus_of o) (sym own))
          ∙ ap (fmmus_of o) (sym (front ∙ written)))));
      image = ap (λ (p : Sii). p.image) c.write_control.ensures.port ∙ (written-image c.self.inside.port c.args.from c.args.bytes.now ∙ c.self.invariant.image);
    }

pub returns-clause-slave : goal.returns-clause-slave
returns-clause-slave c =
    let s : SlaveState = c.args.self.now in
    let w : Window = record { from = c.args.from; bytes = c.args.bytes.now } in
    let new : List ℕ = c.write_memory-is_some.new.memory in
    let own = c.deref_mut.ensures.value in
    let ok = c.self.inside.memory.ok in
    let long = c.write_memory-is_some.auto.memory in
    let all : List ℕ = take c.self.inside.memory.len (new ++ drop (length new) c.self.inside.memory.items) in
    let front : all ≡ new = take_front new _ c.self.inside.memory.len (omega (arith, ap length own, ok, long)) in
    let met : List SyncManager = c.write_managers.new.managers in
    let own_2 = c.deref_mut-2.ensures.value in
    let ok_2 = c.self.inside.managers.ok in
    let long_2 = c.write_managers.auto.managers in
    let each : List SyncManager = take c.self.inside.managers.len (met ++ drop (length met) c.self.inside.managers.items) in
    let front_2 : each ≡ met = take_front met _ c.self.inside.managers.len (omega (arith, ap length own_2, ok_2, long_2)) in
    let memory = ap (λ (x : SlaveState). x.memory) c.self.view_is in
    let managers = ap (λ (x : SlaveState). x.managers) c.self.view_is in
    let kind : c.kind-kind.result.now ≡ s.kind = c.kind-kind.ensures ∙ ap (λ (x : SlaveState). x.kind) c.self.view_is in
    ap (λ (x : SlaveState). record x { memory = all; managers = each; al = c.write_control.new.al; sii = c.write_control.new.port; link = c.write-is_taken.new.self }) c.self.view_is
    ∙ physically_written s c.args.reads w all each _ _ _
    (front ∙ (c.write_memory-is_some.ensures.memory ∙ (ap (λ (k : SlaveKind). memory_written k.hardware c.deref.result.now w c.deref_mut.result.now) kind
    ∙ (ap (λ (xs : List ℕ). memory_written s.kind.hardware c.deref.result.now w xs) (own ∙ memory)
    ∙ ap (λ (ms : List SyncManager). memory_written s.kind.hardware ms w s.memory) (c.deref.ensures.value ∙ managers)))))
    (front_2 ∙ (c.write_managers.ensures ∙ (ap (λ (k : SlaveKind). physical_managers k.hardware [] c.args.reads true w 0 c.deref_mut-2.result.now) kind
    ∙ ap (physical_managers s.kind.hardware [] c.args.reads true w 0) (own_2 ∙ managers))))
    (c.write_control.ensures.al ∙ ap (λ (x : SlaveState). if touches w al_control then requesting x.al else x.al) c.self.view_is)
    (c.write_control.ensures.port ∙ ap (λ (x : SlaveState). written x.sii w.from w.bytes) c.self.view_is)
    (c.write-is_taken.ensures.after ∙ ap (λ (x : SlaveState). dl_written x.link w.from w.bytes) c.self.view_is)

pub returns-clause-some : goal.returns-clause-some
returns-clause-some c =
    let s : SlaveState = c.args.self.now in
    let w : Window = record { from = c.args.from; bytes = c.args.bytes.now } in
    let managers = ap (λ (x : SlaveState). x.managers) c.self.view_is in
    let kind : c.kind-kind.result.now ≡ s.kind = c.kind-kind.ensures ∙ ap (λ (x : SlaveState). x.kind) c.self.view_is in
    ap (λ (b : Bool). b || c.write-is_taken.result)
    (c.write_memory-is_some.ensures.some ∙ (ap (λ (k : SlaveKind). some_byte_written k.hardware c.deref.result.now c.is_busy-is_busy.result w) kind
    ∙ (ap (λ (ms : List SyncManager). some_byte_written s.kind.hardware ms c.is_busy-is_busy.result w) (c.deref.ensures.value ∙ managers)
    ∙ ap (λ (b : Bool). some_byte_written s.kind.hardware s.managers b w) (c.is_busy-is_busy.ensures ∙ ap (λ (x : SlaveState). x.sii.busy) c.self.view_is))))
    ∙ ap (λ (b : Bool). some_byte_written s.kind.hardware s.managers s.sii.busy w || b) (c.write-is_taken.ensures.some ∙ ap (λ (x : SlaveState). dl_takes x.link w.from (length w.bytes)) c.self.view_is)
