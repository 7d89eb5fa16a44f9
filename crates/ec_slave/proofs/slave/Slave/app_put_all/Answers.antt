use Rattle.std.proofs.Common.{◌≡◌, ◌<◌, ◌∙◌, ap, sym, arith, length}
use Rattle.std.proofs.lemmas.List.{length-set}
use Rattle.ec_sync.specs.SyncManager.{SyncManager, may_app_put}
use Rattle.ec_slave.specs.State.{SlaveState, manager_at}
use Rattle.ec_slave.specs.Application.{with_manager}
use Rattle.ec_slave.proofs.AppAccess.Bytes.{indexed}
use Rattle.ec_slave.proofs.AppAccess.WholeInputs.{all_put, allowed_put, empty, none_put, not_empty, whole_put, with_published}
use Rattle.ec_slave.proofs.slave.Slave.app_put_all.Goals as goal

pub app_put_all-requires-clause-allowed : goal.app_put_all-requires-clause-allowed
app_put_all-requires-clause-allowed c =
    let s : SlaveState = c.args.self.now in
    let four : 3 < length c.self.inside.managers.items = omega (arith, c.self.invariant.four) in
    let here : c.index_mut.result.now ≡ manager_at s.managers 3 = indexed _ s.managers 3 _ four c.index_mut.ensures.value (ap (λ (x : SlaveState). x.managers) c.self.view_is) in
    let some : 0 < length c.args.inputs.now = not_empty c.is_empty.result (length c.args.inputs.now) c.is_empty.ensures c.if-not-is_empty.true in
    ap (λ (m : SyncManager). may_app_put m) here ∙ allowed_put s c.args.inputs.now c.is_sound.ensures c.requires some

pub app_put_all-requires-clause-long : goal.app_put_all-requires-clause-long
app_put_all-requires-clause-long c =
    let s : SlaveState = c.args.self.now in
    let four : 3 < length c.self.inside.managers.items = omega (arith, c.self.invariant.four) in
    let here : c.index_mut.result.now ≡ manager_at s.managers 3 = indexed _ s.managers 3 _ four c.index_mut.ensures.value (ap (λ (x : SlaveState). x.managers) c.self.view_is) in
    let some : 0 < length c.args.inputs.now = not_empty c.is_empty.result (length c.args.inputs.now) c.is_empty.ensures c.if-not-is_empty.true in
    whole_put s c.args.inputs.now c.is_sound.ensures c.requires some ∙ ap (λ (m : SyncManager). length m.buffer.published) (sym here)

pub returns-then-not-is_empty : goal.returns-then-not-is_empty
returns-then-not-is_empty c =
    let s : SlaveState = c.args.self.now in
    let four : 3 < length c.self.inside.managers.items = omega (arith, c.self.invariant.four) in
    let here : c.index_mut.result.now ≡ manager_at s.managers 3 = indexed _ s.managers 3 _ four c.index_mut.ensures.value (ap (λ (x : SlaveState). x.managers) c.self.view_is) in
    let some : 0 < length c.args.inputs.now = not_empty c.is_empty.result (length c.args.inputs.now) c.is_empty.ensures c.if-not-is_empty.true in
    ap (λ (x : SlaveState). with_manager x 3 c.app_put_all.new.self) c.self.view_is
    ∙ (ap (with_manager s 3) (c.app_put_all.ensures ∙ ap (λ (m : SyncManager). with_published m c.args.inputs.now) here)
    ∙ sym (all_put s c.args.inputs.now c.is_sound.ensures c.requires some))

pub returns-else-not-is_empty : goal.returns-else-not-is_empty
returns-else-not-is_empty c =
    sym (none_put c.args.self.now c.args.inputs.now (empty c.is_empty.result (length c.args.inputs.now) c.is_empty.ensures c.if-not-is_empty.false))

pub invariant_of-self : goal.invariant_of-self
invariant_of-self c = record {
  room = c.self.invariant.room;
  four = length-set c.self.inside.managers.items 3 c.app_put_all.new.self ∙ c.self.invariant.four;
  decoded = c.self.invariant.decoded;
  image = c.self.invariant.image;
}
