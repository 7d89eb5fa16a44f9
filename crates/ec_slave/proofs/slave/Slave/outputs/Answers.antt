use Rattle.std.proofs.Common.{◌≡◌, ◌∙◌, ◌&&◌, [], length, inl, inr, if◌then◌else◌, sym, ap, arith}
use Rattle.std.proofs.lemmas.Bool.{cases_Bool}
use Rattle.std.proofs.lemmas.List.{nil_from_length}
use Rattle.ec_bits.proofs.AnyLaws.{if_true, if_false}
use Rattle.ec_regs.specs.Managers.{is_buffered, is_set}
use Rattle.ec_sync.specs.SyncManager.{SyncManager, buffer_length}
use Rattle.ec_slave.specs.State.{SlaveState, manager_at}
use Rattle.ec_slave.proofs.AppAccess.Bytes.{indexed}
use Rattle.ec_slave.proofs.slave.Slave.outputs.Goals as goal

published_if : (m : SyncManager) → length m.buffer.published ≡ buffer_length m.settings
    → m.buffer.published ≡ (if is_set m.settings && is_buffered m.settings then m.buffer.published else [])
published_if m long = elim (cases_Bool (is_set m.settings && is_buffered m.settings)) [
  | inl t ↦ sym (if_true _ m.buffer.published [] t)
  | inr f ↦ nil_from_length m.buffer.published (long ∙ if_false _ m.settings.length 0 f) ∙ sym (if_false _ m.buffer.published [] f)
]

pub returns : goal.returns
returns c =
    let s : SlaveState = c.args.self.now in
    let m : SyncManager = c.index.result.now in
    let four = c.self.invariant.four in
    let own : m ≡ manager_at s.managers 2 = indexed c.self.inside.managers.items s.managers 2 m (omega (arith, four)) c.index.ensures (ap (λ (x : SlaveState). x.managers) c.self.view_is) in
    c.published.ensures.value
    ∙ (published_if m c.published.ensures.long
    ∙ ap (λ (y : SyncManager). if is_set y.settings && is_buffered y.settings then y.buffer.published else []) own)
