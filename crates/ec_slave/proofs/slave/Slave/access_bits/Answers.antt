use Rattle.std.proofs.Common.{◌≡◌, ◌∙◌, List, length, ap, subst, arith}
use Rattle.ec_regs.specs.declared.fmmu.FmmuSettings.{FmmuSettings}
use Rattle.ec_fmmu.specs.declared.area.MappedArea.{MappedArea}
use Rattle.ec_fmmu.specs.Areas.{IsMappedBy}
use Rattle.ec_sync.specs.SyncManager.{SyncManager}
use Rattle.ec_slave.specs.State.{SlaveState, fmmus}
use Rattle.ec_slave.specs.Usual.{LiesIn}
use Rattle.ec_slave.proofs.LogicalAccess.SlaveExchanged.{is_mapped}
use Rattle.ec_slave.proofs.slave.Slave.access_bits.Goals as goal

pub exchange_area-requires : goal.exchange_area-requires
exchange_area-requires c =
    let s : SlaveState = c.args.self.now in
    let m : MappedArea = c.in-Some.mapped in
    let managers = ap (λ (x : SlaveState). x.managers) c.self.view_is in
    let same : c.deref.result.now ≡ s.managers = c.deref.ensures.value ∙ managers in
    let decoded : c.self.inside.fmmus ≡ fmmus s = c.self.invariant.decoded ∙ ap fmmus c.self.view_is in
    let four : length s.managers ≡ 4 = subst (λ (ms : List SyncManager). length ms ≡ 4) managers c.self.invariant.four in
    record {
      small = c.requires.small;
      mapped = is_mapped s m four (subst (λ (fs : List FmmuSettings). IsMappedBy fs m) decoded c.in-Some.ensures.mapped)
          (subst (λ (ms : List SyncManager). LiesIn ms 2 m.out_start m.outs) same c.if-is_held.ensures.outs)
          (subst (λ (ms : List SyncManager). LiesIn ms 3 m.in_start m.ins) same c.if-is_held.ensures.ins);
      spans = c.in-Some.ensures.spans;
    }

pub access_unheld-requires : goal.access_unheld-requires
access_unheld-requires c =
    let decoded : c.self.inside.fmmus ≡ fmmus c.args.self.now = c.self.invariant.decoded ∙ ap fmmus c.self.view_is in
    record { small = c.requires.small; few = c.requires.few; mapped = subst (λ (fs : List FmmuSettings). IsMappedBy fs c.in-Some.mapped) decoded c.in-Some.ensures.mapped; spans = c.in-Some.ensures.spans }

pub is_held-requires : goal.is_held-requires
is_held-requires c =
    let by = c.in-Some.ensures.mapped in
    let outs = by.small_outs in
    let ins = by.small_ins in
    record { four = ap length c.deref.ensures.value ∙ c.self.invariant.four; outs = omega (arith, outs); ins = omega (arith, ins) }

pub returns-then-is_held-clause-slave : goal.returns-then-is_held-clause-slave
returns-then-is_held-clause-slave c = c.exchange_area.ensures.slave

pub returns-then-is_held-clause-bytes : goal.returns-then-is_held-clause-bytes
returns-then-is_held-clause-bytes c = c.exchange_area.ensures.bytes

pub returns-then-is_held-clause-added : goal.returns-then-is_held-clause-added
returns-then-is_held-clause-added c = c.exchange_area.ensures.added

pub returns-in-Some-clause-slave : goal.returns-in-Some-clause-slave
returns-in-Some-clause-slave c = c.access_unheld.ensures.slave

pub returns-in-Some-clause-bytes : goal.returns-in-Some-clause-bytes
returns-in-Some-clause-bytes c = c.access_unheld.ensures.bytes

pub returns-in-Some-clause-added : goal.returns-in-Some-clause-added
returns-in-Some-clause-added c = c.access_unheld.ensures.added

pub returns-clause-slave : goal.returns-clause-slave
returns-clause-slave c = c.access_any_bits.ensures.slave

pub returns-clause-bytes : goal.returns-clause-bytes
returns-clause-bytes c = c.access_any_bits.ensures.bytes

pub returns-clause-added : goal.returns-clause-added
returns-clause-added c = c.access_any_bits.ensures.added
