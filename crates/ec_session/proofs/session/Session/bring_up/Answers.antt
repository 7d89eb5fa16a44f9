use Rattle.std.proofs.Common.{◌≡◌, ◌∙◌, ap, max, refl, subst, sym}
use Rattle.std.specs.Arc.{arc_value}
use Rattle.ec_session.specs.Sessions.{SessionState}
use Rattle.ec_session.specs.Wired.{Starts}
use Rattle.ec_session.proofs.Plans.{same_feeds, same_slaves, with_master, with_startup}
use Rattle.ec_session.proofs.Wiring.{of_plan, started}
use Rattle.ec_session.proofs.session.Session.bring_up.Goals as goal

pub make_ready-requires : goal.make_ready-requires
make_ready-requires g c =
    let i = c.self.inside in
    (of_plan (arc_value i.machine) i.startup c.begin_again.new.self c.bring_up_wire.new.startup i.master c.next_start-number.result c.self.invariant c.begin_again.ensures c.bring_up_wire.ensures.plan).plan
    ∙ same_slaves (arc_value i.machine) i.startup i.master c.self.invariant

pub invariant_of-self : goal.invariant_of-self
invariant_of-self g c =
    let i = c.self.inside in
    let t = arc_value i.machine in
    let start = c.bring_up_wire.new.startup in
    with_master t start i.master c.make_ready.new.master
    (with_startup t i.startup start i.master c.self.invariant (of_plan t i.startup c.begin_again.new.self start i.master c.next_start-number.result c.self.invariant c.begin_again.ensures c.bring_up_wire.ensures.plan))
    c.make_ready.ensures.plan

pub returns : goal.returns
returns g c =
    let i = c.self.inside in
    let s : SessionState = record { table = arc_value i.machine; startup = i.startup; master = i.master; report = i.report; asked = i.asked } in
    let number_is : c.next_start-number.result ≡ max i.startup.next i.master.next = c.next_start-number.ensures ∙ ap (λ (x : SessionState). max x.startup.next x.master.next) (sym c.self.view_is) in
    let t : SessionState = record s { startup = c.bring_up_wire.new.startup; master = c.make_ready.new.master } in
    subst (λ (x : SessionState). Starts x (g.W.Wire.state c.args.wire.now) t (g.W.Wire.state c.bring_up_wire.new.wire)) c.self.view_is
    (started s (g.W.Wire.state c.args.wire.now) (g.W.Wire.state c.bring_up_wire.new.wire) c.begin_again.new.self c.bring_up_wire.new.startup c.make_ready.new.master c.next_start-number.result i.startup.next i.master.next
    (same_slaves (arc_value i.machine) i.startup i.master c.self.invariant) (same_feeds (arc_value i.machine) i.startup i.master c.self.invariant) c.begin_again.ensures number_is refl refl c.bring_up_wire.ensures.leads c.bring_up_wire.ensures.up c.make_ready.ensures.ready)
