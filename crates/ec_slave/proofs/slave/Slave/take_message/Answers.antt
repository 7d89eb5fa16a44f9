use Rattle.std.proofs.Common.{◌≡◌, ◌<◌, ◌∙◌, length, arith, ap}
use Rattle.std.proofs.lemmas.List.{length-set}
use Rattle.ec_sync.specs.SyncManager.{message_taken}
use Rattle.ec_slave.specs.State.{SlaveState, manager_at}
use Rattle.ec_slave.specs.Application.{with_manager}
use Rattle.ec_slave.proofs.AppAccess.Bytes.{indexed}
use Rattle.ec_slave.proofs.slave.Slave.take_message.Goals as goal

pub returns : goal.returns
returns c =
    let s : SlaveState = c.args.self.now in
    let four : 0 < length c.self.inside.managers.items = omega (arith, c.self.invariant.four) in
    let managers = ap (λ (x : SlaveState). x.managers) c.self.view_is in
    let here : c.index_mut.result.now ≡ manager_at s.managers 0 = indexed _ s.managers 0 _ four c.index_mut.ensures.value managers in
    ap (λ (x : SlaveState). with_manager x 0 c.mailbox_take.new.self) c.self.view_is
    ∙ ap (with_manager s 0) (c.mailbox_take.ensures.after ∙ ap message_taken here)

pub invariant_of-self : goal.invariant_of-self
invariant_of-self c = record {
  room = c.self.invariant.room;
  four = length-set c.self.inside.managers.items 0 c.mailbox_take.new.self ∙ c.self.invariant.four;
  decoded = c.self.invariant.decoded;
  image = c.self.invariant.image;
}
