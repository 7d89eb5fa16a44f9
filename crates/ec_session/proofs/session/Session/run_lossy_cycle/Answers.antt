use Rattle.std.proofs.Common.{◌≡◌, ◌∙◌, Option, ap, subst, sym, true}
use Rattle.std.specs.Arc.{arc_value}
use Rattle.ec_cycle.specs.Closing.{ReportState}
use Rattle.ec_session.specs.Sessions.{SessionState, is_up}
use Rattle.ec_session.specs.Wired.{LosesAndCycles, run_refusal, with_number_used, with_run}
use Rattle.ec_session.proofs.Plans.{with_master}
use Rattle.ec_session.proofs.Wiring.{lossy_cycled, lossy_faulted, lossy_plan, refusal_up, refused_answer, refused_keeps}
use Rattle.ec_session.proofs.session.Session.run_lossy_cycle.Goals as goal

pub invariant_of-self : goal.invariant_of-self
invariant_of-self g c =
    let i = c.self.inside in
    with_master (arc_value i.machine) i.startup i.master c.run_lossy_cycle-ran.new.master c.self.invariant
    (lossy_plan i.master c.run_lossy_cycle-ran.new.master (g.W.Wire.state c.args.wire.now) (g.W.Wire.state c.run_lossy_cycle-ran.new.wire) c.run_lossy_cycle-ran.result c.run_lossy_cycle-ran.ensures.run c.run_lossy_cycle-ran.ensures.refused_master)

pub returns-clause-run : goal.returns-clause-run
returns-clause-run g c = λ free.
    let i = c.self.inside in
    let s : SessionState = record { table = arc_value i.machine; startup = i.startup; master = i.master; report = i.report; asked = i.asked } in
    let t : SessionState = record s { master = c.run_lossy_cycle-ran.new.master; report = c.keep_report.new.kept } in
    let up : is_up s.startup.phase ≡ true = ap (λ (x : SessionState). is_up x.startup.phase) c.self.view_is ∙ (sym c.is_up-is_up.ensures ∙ c.if-not-is_up.false) in
    let is : t ≡ with_run s c.run_lossy_cycle-ran.result c.run_lossy_cycle-ran.new.master = ap (λ (o : Option ReportState). record s { master = c.run_lossy_cycle-ran.new.master; report = o }) c.keep_report.ensures.kept in
    subst (λ (x : SessionState). LosesAndCycles x (g.W.Wire.state c.args.wire.now) t (g.W.Wire.state c.run_lossy_cycle-ran.new.wire) c.keep_report.result) c.self.view_is
    (lossy_cycled s t (g.W.Wire.state c.args.wire.now) (g.W.Wire.state c.run_lossy_cycle-ran.new.wire) c.run_lossy_cycle-ran.result c.run_lossy_cycle-ran.new.master c.keep_report.result up c.run_lossy_cycle-ran.ensures.run is c.keep_report.ensures.answer (ap run_refusal c.self.view_is ∙ free))

pub returns-clause-refused : goal.returns-clause-refused
returns-clause-refused g c = λ e was.
    let i = c.self.inside in
    let s : SessionState = record { table = arc_value i.machine; startup = i.startup; master = i.master; report = i.report; asked = i.asked } in
    let up : is_up s.startup.phase ≡ true = ap (λ (x : SessionState). is_up x.startup.phase) c.self.view_is ∙ (sym c.is_up-is_up.ensures ∙ c.if-not-is_up.false) in
    refused_answer s c.run_lossy_cycle-ran.result c.keep_report.result e up c.run_lossy_cycle-ran.ensures.refused c.keep_report.ensures.answer (ap run_refusal c.self.view_is ∙ was)

pub returns-clause-refused_session : goal.returns-clause-refused_session
returns-clause-refused_session g c = λ e was.
    let i = c.self.inside in
    let s : SessionState = record { table = arc_value i.machine; startup = i.startup; master = i.master; report = i.report; asked = i.asked } in
    let t : SessionState = record s { master = c.run_lossy_cycle-ran.new.master; report = c.keep_report.new.kept } in
    let up : is_up s.startup.phase ≡ true = ap (λ (x : SessionState). is_up x.startup.phase) c.self.view_is ∙ (sym c.is_up-is_up.ensures ∙ c.if-not-is_up.false) in
    let is : t ≡ with_run s c.run_lossy_cycle-ran.result c.run_lossy_cycle-ran.new.master = ap (λ (o : Option ReportState). record s { master = c.run_lossy_cycle-ran.new.master; report = o }) c.keep_report.ensures.kept in
    refused_keeps s t c.run_lossy_cycle-ran.result c.run_lossy_cycle-ran.new.master e up c.run_lossy_cycle-ran.ensures.refused c.run_lossy_cycle-ran.ensures.refused_master is (ap run_refusal c.self.view_is ∙ was) ∙ c.self.view_is

pub returns-clause-refused_wire : goal.returns-clause-refused_wire
returns-clause-refused_wire g c = λ e was.
    let i = c.self.inside in
    let s : SessionState = record { table = arc_value i.machine; startup = i.startup; master = i.master; report = i.report; asked = i.asked } in
    let up : is_up s.startup.phase ≡ true = ap (λ (x : SessionState). is_up x.startup.phase) c.self.view_is ∙ (sym c.is_up-is_up.ensures ∙ c.if-not-is_up.false) in
    c.run_lossy_cycle-ran.ensures.refused_wire e (sym (refusal_up s up) ∙ (ap run_refusal c.self.view_is ∙ was))

pub returns-clause-fault : goal.returns-clause-fault
returns-clause-fault g c = λ fault.
    let i = c.self.inside in
    let s : SessionState = record { table = arc_value i.machine; startup = i.startup; master = i.master; report = i.report; asked = i.asked } in
    let t : SessionState = record s { master = c.run_lossy_cycle-ran.new.master; report = c.keep_report.new.kept } in
    let up : is_up s.startup.phase ≡ true = ap (λ (x : SessionState). is_up x.startup.phase) c.self.view_is ∙ (sym c.is_up-is_up.ensures ∙ c.if-not-is_up.false) in
    let is : t ≡ with_run s c.run_lossy_cycle-ran.result c.run_lossy_cycle-ran.new.master = ap (λ (o : Option ReportState). record s { master = c.run_lossy_cycle-ran.new.master; report = o }) c.keep_report.ensures.kept in
    lossy_faulted s t (g.W.Wire.state c.args.wire.now) (g.W.Wire.state c.run_lossy_cycle-ran.new.wire) c.run_lossy_cycle-ran.result c.run_lossy_cycle-ran.new.master c.keep_report.result up c.run_lossy_cycle-ran.ensures.run c.run_lossy_cycle-ran.ensures.refused is c.keep_report.ensures.answer fault ∙ ap with_number_used c.self.view_is
