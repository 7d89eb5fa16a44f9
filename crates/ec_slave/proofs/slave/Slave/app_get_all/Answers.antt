use Rattle.std.proofs.Common.{◌≡◌, ◌<◌, ◌∙◌, None, ap, sym, arith, length}
use Rattle.std.proofs.lemmas.List.{length-set}
use Rattle.ec_sync.specs.SyncManager.{SyncManager}
use Rattle.ec_slave.specs.State.{SlaveState, manager_at}
use Rattle.ec_slave.specs.Application.{get_size, with_manager}
use Rattle.ec_slave.proofs.AppAccess.Bytes.{indexed}
use Rattle.ec_slave.proofs.AppAccess.WholeOutputs.{all_taken, none_taken, with_view}
use Rattle.ec_slave.proofs.slave.Slave.app_get_all.Goals as goal

pub returns-then-output_count-gt0 : goal.returns-then-output_count-gt0
returns-then-output_count-gt0 c =
    let s : SlaveState = c.args.self.now in
    let four : 2 < length c.self.inside.managers.items = omega (arith, c.self.invariant.four) in
    let here : c.index_mut.result.now ≡ manager_at s.managers 2 = indexed _ s.managers 2 _ four c.index_mut.ensures.value (ap (λ (x : SlaveState). x.managers) c.self.view_is) in
    let size = c.app_sizes-output_count.ensures.get in
    let there = c.if-output_count-gt0.true in
    let some : 0 < get_size s = omega (arith, size, there) in
    ap (λ (x : SlaveState). with_manager x 2 c.app_get_all.new.self) c.self.view_is
    ∙ (ap (with_manager s 2) (c.app_get_all.ensures ∙ ap (λ (m : SyncManager). with_view m None) here)
    ∙ sym (all_taken s c.is_sound.ensures some))

pub returns-else-output_count-gt0 : goal.returns-else-output_count-gt0
returns-else-output_count-gt0 c =
    let size = c.app_sizes-output_count.ensures.get in
    let there = c.if-output_count-gt0.false in
    sym (none_taken c.args.self.now (get_size c.args.self.now) (omega (arith, size, there)))

pub invariant_of-self : goal.invariant_of-self
invariant_of-self c = record {
  room = c.self.invariant.room;
  four = length-set c.self.inside.managers.items 2 c.app_get_all.new.self ∙ c.self.invariant.four;
  decoded = c.self.invariant.decoded;
  image = c.self.invariant.image;
}
