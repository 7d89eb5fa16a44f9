use Rattle.std.proofs.Common.{◌≡◌, ◌<◌, ◌∙◌, ap, sym, arith, length}
use Rattle.std.proofs.lemmas.List.{length-set}
use Rattle.ec_sync.specs.SyncManager.{SyncManager, app_got, after_get}
use Rattle.ec_slave.specs.State.{SlaveState, manager_at}
use Rattle.ec_slave.specs.Application.{is_running, with_manager}
use Rattle.ec_slave.proofs.AppAccess.Bytes.{got_after, indexed}
use Rattle.ec_slave.proofs.slave.Slave.app_get.Goals as goal

pub returns-clause-after : goal.returns-clause-after
returns-clause-after c =
    let s : SlaveState = c.args.self.now in
    let four : 2 < length c.self.inside.managers.items = omega (arith, c.self.invariant.four) in
    let managers = ap (λ (x : SlaveState). x.managers) c.self.view_is in
    let al = ap (λ (x : SlaveState). x.al.state) c.self.view_is in
    let here : c.index_mut.result.now ≡ manager_at s.managers 2 = indexed _ s.managers 2 _ four c.index_mut.ensures.value managers in
    ap (λ (x : SlaveState). with_manager x 2 c.app_get.new.self) c.self.view_is
    ∙ got_after s c.args.offset c.app_get.new.self
    (sym (ap is_running al) ∙ (sym (c.is_running.ensures ∙ ap is_running c.state.ensures) ∙ c.if-not-is_running.false))
    (c.app_get.ensures.after ∙ ap (λ (m : SyncManager). after_get m (app_got m c.args.offset)) here)

pub invariant_of-self : goal.invariant_of-self
invariant_of-self c = record {
  room = c.self.invariant.room;
  four = length-set c.self.inside.managers.items 2 c.app_get.new.self ∙ c.self.invariant.four;
  decoded = c.self.invariant.decoded;
  image = c.self.invariant.image;
}
