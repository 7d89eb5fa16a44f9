use Rattle.std.proofs.Common.{◌∙◌, List, ap, subst, length}
use Rattle.ec_frame.specs.Datagram.{Datagram}
use Rattle.ec_frame.specs.Frame.{IsFrame, with_datagrams}
use Rattle.ec_slave.specs.State.{SlaveState}
use Rattle.ec_ring.specs.Rings.{RingPassed}
use Rattle.ec_ring.proofs.Columns.{by_columns, length_after}
use Rattle.ec_ring.proofs.ring.Ring.pass_frame.Goals as goal

pub returns-clause-count : goal.returns-clause-count
returns-clause-count c =
    let r = c.requires in
    ap (λ (ss : List SlaveState). length ss) (c.pass.ensures.state r.0 r.1) ∙ length_after c.args.self.now r.0.datagrams

pub returns-clause-ring : goal.returns-clause-ring
returns-clause-ring c = record {
  slaves = λ p h. c.pass.ensures.state p h ∙ ap (λ (r : RingPassed). r.slaves) (by_columns c.args.self.now p.datagrams);
  frame = λ p h. subst (λ (ds : List Datagram). IsFrame c.pass.new.frame (with_datagrams p ds)) (ap (λ (r : RingPassed). r.datagrams) (by_columns c.args.self.now p.datagrams)) (c.pass.ensures.frame p h);
}
