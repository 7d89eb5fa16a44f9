use Rattle.std.proofs.Common.{◌≡◌, ◌<◌, ◌∙◌, ap, sym, arith, length, is_some, unwrap_or}
use Rattle.std.proofs.lemmas.List.{length-set}
use Rattle.ec_sync.specs.SyncManager.{SyncManager, app_put}
use Rattle.ec_slave.specs.State.{SlaveState, manager_at}
use Rattle.ec_slave.specs.Application.{is_running, with_manager}
use Rattle.ec_slave.proofs.AppAccess.Bytes.{put_after, put_denied, put_granted, indexed}
use Rattle.ec_slave.proofs.slave.Slave.app_put.Goals as goal

pub returns-clause-after : goal.returns-clause-after
returns-clause-after c =
    let s : SlaveState = c.args.self.now in
    let four : 3 < length c.self.inside.managers.items = omega (arith, c.self.invariant.four) in
    let managers = ap (λ (x : SlaveState). x.managers) c.self.view_is in
    let al = ap (λ (x : SlaveState). x.al.state) c.self.view_is in
    let here : c.index_mut.result.now ≡ manager_at s.managers 3 = indexed _ s.managers 3 _ four c.index_mut.ensures.value managers in
    ap (λ (x : SlaveState). with_manager x 3 c.app_put.new.self) c.self.view_is
    ∙ put_after s c.args.offset c.args.byte c.app_put.new.self
    (sym (ap is_running al) ∙ (sym (c.is_running.ensures ∙ ap is_running c.state.ensures) ∙ c.if-not-is_running.false))
    (c.app_put.ensures.after ∙ ap (λ (m : SyncManager). unwrap_or (app_put m c.args.offset c.args.byte) m) here)

pub invariant_of-self : goal.invariant_of-self
invariant_of-self c = record {
  room = c.self.invariant.room;
  four = length-set c.self.inside.managers.items 3 c.app_put.new.self ∙ c.self.invariant.four;
  decoded = c.self.invariant.decoded;
  image = c.self.invariant.image;
}

pub returns-clause-granted : goal.returns-clause-granted
returns-clause-granted c =
    let s : SlaveState = c.args.self.now in
    let four : 3 < length c.self.inside.managers.items = omega (arith, c.self.invariant.four) in
    let al = ap (λ (x : SlaveState). x.al.state) c.self.view_is in
    let here = indexed _ s.managers 3 _ four c.index_mut.ensures.value (ap (λ (x : SlaveState). x.managers) c.self.view_is) in
    c.app_put.ensures.granted
    ∙ (ap (λ (m : SyncManager). is_some (app_put m c.args.offset c.args.byte)) here
    ∙ put_granted s c.args.offset c.args.byte (sym (ap is_running al) ∙ (sym (c.is_running.ensures ∙ ap is_running c.state.ensures) ∙ c.if-not-is_running.false)))

pub returns-then-not-is_running-clause-granted : goal.returns-then-not-is_running-clause-granted
returns-then-not-is_running-clause-granted c =
    let al = ap (λ (x : SlaveState). x.al.state) c.self.view_is in
    put_denied c.args.self.now c.args.offset c.args.byte (sym (ap is_running al) ∙ (sym (c.is_running.ensures ∙ ap is_running c.state.ensures) ∙ c.if-not-is_running.true))
