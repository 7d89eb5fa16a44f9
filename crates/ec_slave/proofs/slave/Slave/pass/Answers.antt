use Rattle.std.proofs.Common.{◌≡◌, ◌∙◌, List, [], ◌∷◌, refl, ap, subst}
use Rattle.ec_frame.specs.Datagram.{Datagram}
use Rattle.ec_frame.specs.Frame.{IsFrame, with_datagrams}
use Rattle.ec_frame.specs.Walk.{handled_all, after_all}
use Rattle.ec_slave.specs.State.{SlaveState}
use Rattle.ec_slave.specs.Meeting.{passes, slave_met, datagram_met}
use Rattle.ec_slave.proofs.Commands.PassedBy.{passes-kept}
use Rattle.ec_slave.proofs.slave.Slave.pass.Goals as goal

datagrams_passed : (s : SlaveState) (ds : List Datagram) → handled_all datagram_met slave_met s ds ≡ (passes s ds).datagrams
datagrams_passed s [] = refl
datagrams_passed s (d ∷ ds) = ap (λ (es : List Datagram). datagram_met s d ∷ es) (datagrams_passed (slave_met s d) ds)

slave_passed : (s : SlaveState) (ds : List Datagram) → after_all datagram_met slave_met s ds ≡ (passes s ds).slave
slave_passed s [] = refl
slave_passed s (d ∷ ds) = slave_passed (slave_met s d) ds

pub returns : goal.returns
returns c =
    let r = c.requires in
    let k = passes-kept c.args.self.now r.0.datagrams in
    let e : c.pass.new.handler ≡ (passes c.args.self.now r.0.datagrams).slave = c.pass.ensures.state r.0 r.1 ∙ slave_passed c.args.self.now r.0.datagrams in
    record {
      kind = ap (λ (s : SlaveState). s.kind) e ∙ k.0;
      identity = ap (λ (s : SlaveState). s.identity) e ∙ k.1;
      meets = record {
        slave = λ p h. c.pass.ensures.state p h ∙ slave_passed c.args.self.now p.datagrams;
        frame = λ p h. subst (λ (es : List Datagram). IsFrame c.pass.new.frame (with_datagrams p es)) (datagrams_passed c.args.self.now p.datagrams) (c.pass.ensures.frame p h);
      };
      sound = c.is_sound.ensures;
    }
