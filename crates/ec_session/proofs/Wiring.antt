-- What a start-up and a cycle over a wire leave of a session.
use Rattle.std.proofs.Common.{◌≡◌, ◌∙◌, ℕ, ◌+◌, List, [], ◌∷◌, Bool, true, false, Option, None, Some, Result, Ok, Err, max, refl, sym, ap, subst}
use Rattle.ec_frame.specs.Frame.{Payload}
use Rattle.ec_link.specs.declared.settings.SlavePlan.{SlavePlan}
use Rattle.ec_table.specs.Contents.{Contents}
use Rattle.ec_start.specs.declared.action.Feed.{Feed}
use Rattle.ec_start.specs.Running.{StartState, begun}
use Rattle.ec_start.specs.Feeding.{feeds_of}
use Rattle.ec_start.specs.Laws.{HasSamePlan}
use Rattle.ec_cycle.specs.Closing.{ReportState}
use Rattle.ec_cycle.specs.Master.{MasterState, OpenCycle, IsAnswer, IsTaken, begin_refusal}
use Rattle.ec_cycle.specs.declared.error.CycleError.{CycleError}
use Rattle.ec_cycle.specs.declared.error.CycleError.TheVariants.{NotReady, Open}
use Rattle.ec_wire.specs.declared.error.RunError.{RunError}
use Rattle.ec_wire.specs.declared.error.RunError.TheVariants.{Refused, Wire}
use Rattle.ec_wire.specs.Wires.{WireState}
use Rattle.ec_wire.specs.BringingUp.{IsBroughtUp}
use Rattle.ec_wire.specs.ComingUp.{ComesUpOver}
use Rattle.ec_wire.specs.Losing.{IsLossyRun}
use Rattle.ec_wire.specs.Running.{AreTaken, IsEnded, IsRun}
use Rattle.ec_session.specs.Held.{IsOfTable}
use Rattle.ec_session.specs.Laws.{LossyRunsKeepTheRest, RunsKeepTheRest}
use Rattle.ec_session.specs.Sessions.{SessionState, is_up, ready_with}
use Rattle.ec_session.specs.Wired.{Cycles, LosesAndCycles, Starts, run_refusal, start_again, with_number_used, with_run, without_report}
use Rattle.ec_session.proofs.Plans.{begun_plan, then_plan}

-- ---- payloads that are taken

-- one changes the cycle alone
taken_keeps : (old : MasterState) (p : List ℕ) (b : Bool) (new : MasterState) → IsTaken old p b new → new ≡ record old { cycle = new.cycle }
taken_keeps old p true new t =
    let a = t.only refl in
    let kept = (t.kept a.cycle a.part a.frame a.answer).1 in
    kept ∙ ap (λ (c : Option OpenCycle). record old { cycle = c }) (sym (ap (λ (m : MasterState). m.cycle) kept))
taken_keeps old p false new t =
    let none : (c : OpenCycle) (k : ℕ) (y : Payload) → IsAnswer old c p k y → ⊥ = λ c k y a. (let e : false ≡ true = (t.kept c k y a).0 in cc) in
    let same = (t.foreign none).1 in
    same ∙ ap (λ (c : Option OpenCycle). record old { cycle = c }) (sym (ap (λ (m : MasterState). m.cycle) same))

-- and so do all
all_keep : (old : MasterState) (ps : List (List ℕ)) (new : MasterState) → AreTaken old ps new → new ≡ record old { cycle = new.cycle }
all_keep old [] new same = same ∙ ap (λ (c : Option OpenCycle). record old { cycle = c }) (sym (ap (λ (m : MasterState). m.cycle) same))
all_keep old (p ∷ ps) new (some, (b, mid, first, rest)) =
    all_keep mid ps new rest ∙ ap (λ (m : MasterState). record m { cycle = new.cycle }) (taken_keeps old p b mid first)

-- ---- a cycle

ended_keeps : (last : MasterState) (w v : WireState) (r : Result ReportState RunError) (after : MasterState) → IsEnded last w v r after → after ≡ record last { inputs = after.inputs; cycle = None }
ended_keeps last w v (Ok report) after h =
    let is = h.1.master in
    is ∙ ap (λ (xs : List ℕ). record last { inputs = xs; cycle = None }) (sym (ap (λ (m : MasterState). m.inputs) is))
ended_keeps last w v (Err Wire) after h =
    let is = h.1 in
    is ∙ ap (λ (xs : List ℕ). record last { inputs = xs; cycle = None }) (sym (ap (λ (m : MasterState). m.inputs) is))
ended_keeps last w v (Err (Refused e)) after h = absurd h

pub runs_keep_the_rest : RunsKeepTheRest
runs_keep_the_rest m w v r after run =
    ended_keeps run.last w v r after run.ends
    ∙ (ap (λ (x : MasterState). record x { inputs = after.inputs; cycle = None }) (all_keep run.begun run.exchanged.got run.last run.exchanged.taken)
    ∙ ap (λ (x : MasterState). record x { inputs = after.inputs; cycle = None }) run.begins.is)

-- after a fault of the wire not even inputs change
fault_keeps : (m : MasterState) (w v : WireState) (after : MasterState) → m.cycle ≡ None → IsRun m w v (Err Wire) after → after ≡ record m { next = m.next + 1 }
fault_keeps m w v after none run =
    run.ends.1
    ∙ (ap (λ (x : MasterState). record x { cycle = None }) (all_keep run.begun run.exchanged.got run.last run.exchanged.taken)
    ∙ (ap (λ (x : MasterState). record x { cycle = None }) run.begins.is ∙ ap (λ (c : Option OpenCycle). record m { next = m.next + 1; cycle = c }) (sym none)))

-- a master that can begin a cycle has none open
none_open : (m : MasterState) → begin_refusal m ≡ None → m.cycle ≡ None
none_open m free = by m.is_ready m.cycle refl refl
  where
    by : (b : Bool) (o : Option OpenCycle) → m.is_ready ≡ b → m.cycle ≡ o → m.cycle ≡ None
    by true None ready is = is
    by true (Some c) ready is = let one : begin_refusal m ≡ Some Open = rw (ready, is) refl in absurd (let e : Some Open ≡ None = sym one ∙ free in cc)
    by false o ready is = let one : begin_refusal m ≡ Some NotReady = rw ready refl in absurd (let e : Some NotReady ≡ None = sym one ∙ free in cc)

-- ---- a cycle, by what `run_cycle` returns

-- the master keeps its plan, whether a cycle is run or not
pub run_plan : (m after : MasterState) (w v : WireState) (r : Result ReportState RunError) → (begin_refusal m ≡ None → IsRun m w v r after) → ((e : CycleError) → begin_refusal m ≡ Some e → after ≡ m)
    → after.plan ≡ m.plan
run_plan m after w v r run same = by (begin_refusal m) refl
  where
    by : (o : Option CycleError) → begin_refusal m ≡ o → after.plan ≡ m.plan
    by None free = ap (λ (x : MasterState). x.plan) (runs_keep_the_rest m w v r after (run free))
    by (Some e) refused = ap (λ (x : MasterState). x.plan) (same e refused)

-- if the last start-up ended Ready, the master alone can refuse
pub refusal_up : (s : SessionState) → is_up s.startup.phase ≡ true → run_refusal s ≡ begin_refusal s.master
refusal_up s up = rw up refl

pub cycled : (s t : SessionState) (w v : WireState) (r : Result ReportState RunError) (after : MasterState) (answer : Result Unit RunError) → is_up s.startup.phase ≡ true → (begin_refusal s.master ≡ None → IsRun s.master w v r after)
    → t ≡ with_run s r after → answer ≡ without_report r → run_refusal s ≡ None → Cycles s w t v answer
cycled s t w v r after answer up run is answers free = record { ended = r; after = after; run = run (sym (refusal_up s up) ∙ free); is = is; answers = answers }

-- what is returned of it is a fault of the wire exactly if there was one
wire_ended : (r : Result ReportState RunError) (answer : Result Unit RunError) → answer ≡ without_report r → answer ≡ Err Wire → r ≡ Err Wire
wire_ended (Ok report) answer is wire = absurd (let e : Ok tt ≡ Err Wire = sym is ∙ wire in cc)
wire_ended (Err error) answer is wire =
    let e : Err error ≡ Err Wire = sym is ∙ wire in
    let same : error ≡ Wire = cc in
    ap (λ (x : RunError). Err x) same

-- after a fault of the wire only a number is used up
pub faulted : (s t : SessionState) (w v : WireState) (r : Result ReportState RunError) (after : MasterState) (answer : Result Unit RunError) → is_up s.startup.phase ≡ true → (begin_refusal s.master ≡ None → IsRun s.master w v r after)
    → ((e : CycleError) → begin_refusal s.master ≡ Some e → r ≡ Err (Refused e)) → t ≡ with_run s r after → answer ≡ without_report r → answer ≡ Err Wire → t ≡ with_number_used s
faulted s t w v r after answer up run refused is answers wire = by (begin_refusal s.master) refl
  where
    ended : r ≡ Err Wire
    ended = wire_ended r answer answers wire

    kept : t ≡ record s { master = after }
    kept = is ∙ ap (λ (x : Result ReportState RunError). with_run s x after) ended

    by : (o : Option CycleError) → begin_refusal s.master ≡ o → t ≡ with_number_used s
    by None free =
        let ran : IsRun s.master w v (Err Wire) after = subst (λ (x : Result ReportState RunError). IsRun s.master w v x after) ended (run free) in
        kept ∙ ap (λ (m : MasterState). record s { master = m }) (fault_keeps s.master w v after (none_open s.master free) ran)
    by (Some e) was = absurd (let f : Err Wire ≡ Err (Refused e) = sym ended ∙ refused e was in cc)

-- what can't be run leaves all
pub refused_answer : (s : SessionState) (r : Result ReportState RunError) (answer : Result Unit RunError) (e : CycleError) → is_up s.startup.phase ≡ true → ((x : CycleError) → begin_refusal s.master ≡ Some x → r ≡ Err (Refused x)) → answer ≡ without_report r
    → run_refusal s ≡ Some e → answer ≡ Err (Refused e)
refused_answer s r answer e up refused answers was = answers ∙ ap without_report (refused e (sym (refusal_up s up) ∙ was))

pub refused_keeps : (s t : SessionState) (r : Result ReportState RunError) (after : MasterState) (e : CycleError) → is_up s.startup.phase ≡ true → ((x : CycleError) → begin_refusal s.master ≡ Some x → r ≡ Err (Refused x))
    → ((x : CycleError) → begin_refusal s.master ≡ Some x → after ≡ s.master) → t ≡ with_run s r after → run_refusal s ≡ Some e → t ≡ s
refused_keeps s t r after e up refused same is was =
    let why : begin_refusal s.master ≡ Some e = sym (refusal_up s up) ∙ was in
    is ∙ (ap (λ (x : Result ReportState RunError). with_run s x after) (refused e why) ∙ ap (λ (m : MasterState). record s { master = m }) (same e why))

-- ---- a cycle on which frames may be lost

pub lossy_runs_keep_the_rest : LossyRunsKeepTheRest
lossy_runs_keep_the_rest m w v r after run =
    ended_keeps run.last w v r after run.ends
    ∙ (ap (λ (x : MasterState). record x { inputs = after.inputs; cycle = None }) (all_keep run.begun run.heard.got run.last run.heard.taken)
    ∙ ap (λ (x : MasterState). record x { inputs = after.inputs; cycle = None }) run.begins.is)

lossy-fault-keeps : (m : MasterState) (w v : WireState) (after : MasterState) → m.cycle ≡ None → IsLossyRun m w v (Err Wire) after → after ≡ record m { next = m.next + 1 }
lossy-fault-keeps m w v after none run =
    run.ends.1
    ∙ (ap (λ (x : MasterState). record x { cycle = None }) (all_keep run.begun run.heard.got run.last run.heard.taken)
    ∙ (ap (λ (x : MasterState). record x { cycle = None }) run.begins.is ∙ ap (λ (c : Option OpenCycle). record m { next = m.next + 1; cycle = c }) (sym none)))

pub lossy_plan : (m after : MasterState) (w v : WireState) (r : Result ReportState RunError) → (begin_refusal m ≡ None → IsLossyRun m w v r after) → ((e : CycleError) → begin_refusal m ≡ Some e → after ≡ m)
    → after.plan ≡ m.plan
lossy_plan m after w v r run same = by (begin_refusal m) refl
  where
    by : (o : Option CycleError) → begin_refusal m ≡ o → after.plan ≡ m.plan
    by None free = ap (λ (x : MasterState). x.plan) (lossy_runs_keep_the_rest m w v r after (run free))
    by (Some e) refused = ap (λ (x : MasterState). x.plan) (same e refused)

pub lossy_cycled : (s t : SessionState) (w v : WireState) (r : Result ReportState RunError) (after : MasterState) (answer : Result Unit RunError) → is_up s.startup.phase ≡ true → (begin_refusal s.master ≡ None → IsLossyRun s.master w v r after)
    → t ≡ with_run s r after → answer ≡ without_report r → run_refusal s ≡ None → LosesAndCycles s w t v answer
lossy_cycled s t w v r after answer up run is answers free = record { ended = r; after = after; run = run (sym (refusal_up s up) ∙ free); is = is; answers = answers }

pub lossy_faulted : (s t : SessionState) (w v : WireState) (r : Result ReportState RunError) (after : MasterState) (answer : Result Unit RunError) → is_up s.startup.phase ≡ true → (begin_refusal s.master ≡ None → IsLossyRun s.master w v r after)
    → ((e : CycleError) → begin_refusal s.master ≡ Some e → r ≡ Err (Refused e)) → t ≡ with_run s r after → answer ≡ without_report r → answer ≡ Err Wire → t ≡ with_number_used s
lossy_faulted s t w v r after answer up run refused is answers wire = by (begin_refusal s.master) refl
  where
    ended : r ≡ Err Wire
    ended = wire_ended r answer answers wire

    kept : t ≡ record s { master = after }
    kept = is ∙ ap (λ (x : Result ReportState RunError). with_run s x after) ended

    by : (o : Option CycleError) → begin_refusal s.master ≡ o → t ≡ with_number_used s
    by None free =
        let ran : IsLossyRun s.master w v (Err Wire) after = subst (λ (x : Result ReportState RunError). IsLossyRun s.master w v x after) ended (run free) in
        kept ∙ ap (λ (m : MasterState). record s { master = m }) (lossy-fault-keeps s.master w v after (none_open s.master free) ran)
    by (Some e) was = absurd (let f : Err Wire ≡ Err (Refused e) = sym ended ∙ refused e was in cc)

-- ---- a start-up

-- it is one of the master's plan
pub of_plan : (t : Contents) (s first start : StartState) (m : MasterState) (number : ℕ) → IsOfTable t s m → first ≡ begun s.plan s.feeds number → HasSamePlan first start → HasSamePlan s start
of_plan t s first start m number h is kept = then_plan s first start (subst (HasSamePlan s) (sym is) (begun_plan s number)) kept

pub started : (s : SessionState) (w v : WireState) (first start : StartState) (new : MasterState) (number a b : ℕ) → s.startup.plan ≡ s.master.plan.slaves → s.startup.feeds ≡ feeds_of s.master.plan → first ≡ begun s.startup.plan s.startup.feeds number → number ≡ max a b
    → a ≡ s.startup.next → b ≡ s.master.next → IsBroughtUp first w start v → ComesUpOver first start w v → new ≡ ready_with s.master start → Starts s w (record s { startup = start; master = new }) v
started s w v first start new number a b same fed is most one other brought up behind =
    let again : first ≡ start_again s =
    is ∙ (ap (λ (n : ℕ). begun s.startup.plan s.startup.feeds n) (most ∙ (ap (λ (n : ℕ). max n b) one ∙ ap (λ (n : ℕ). max s.startup.next n) other))
    ∙ (ap (λ (ps : List SlavePlan). begun ps s.startup.feeds (max s.startup.next s.master.next)) same
    ∙ ap (λ (fs : List Feed). begun s.master.plan.slaves fs (max s.startup.next s.master.next)) fed)) in
    record {
      start = start;
      brought = subst (λ (x : StartState). IsBroughtUp x w start v) again brought;
      up = subst (λ (x : StartState). ComesUpOver x start w v) again up;
      is = ap (λ (x : MasterState). record s { startup = start; master = x }) behind;
    }
