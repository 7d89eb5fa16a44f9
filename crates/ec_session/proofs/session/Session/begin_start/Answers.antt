use Rattle.std.proofs.Common.{◌≡◌, ◌∙◌, ap, max, refl, subst, sym}
use Rattle.std.specs.Arc.{arc_value}
use Rattle.ec_session.specs.Asking.{stopped}
use Rattle.ec_session.specs.Sessions.{SessionState}
use Rattle.ec_session.proofs.Asked.{begun_again}
use Rattle.ec_session.proofs.Plans.{same_feeds, same_slaves, with_startup}
use Rattle.ec_session.proofs.Wiring.{of_plan}
use Rattle.ec_session.proofs.session.Session.begin_start.Goals as goal

pub invariant_of-self : goal.invariant_of-self
invariant_of-self c =
    let i = c.self.inside in
    let t = arc_value i.machine in
    let start = c.begin_again.new.self in
    with_startup t i.startup start i.master c.self.invariant (of_plan t i.startup start start i.master c.next_start-number.result c.self.invariant c.begin_again.ensures (record { plan = refl; feeds = refl }))

pub returns : goal.returns
returns c =
    let i = c.self.inside in
    let s : SessionState = record { table = arc_value i.machine; startup = i.startup; master = i.master; report = i.report; asked = i.asked } in
    let start = c.begin_again.new.self in
    let number_is : c.next_start-number.result ≡ max i.startup.next i.master.next = c.next_start-number.ensures ∙ ap (λ (x : SessionState). max x.startup.next x.master.next) (sym c.self.view_is) in
    subst (λ (x : SessionState). record s { startup = start } ≡ stopped x) c.self.view_is
    (begun_again s start c.next_start-number.result (same_slaves (arc_value i.machine) i.startup i.master c.self.invariant) (same_feeds (arc_value i.machine) i.startup i.master c.self.invariant) c.begin_again.ensures number_is)
