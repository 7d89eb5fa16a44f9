-- Cycles one after another, what they print, and how a loop ends.
use Rattle.std.proofs.Common.{◌≡◌, ◌∙◌, inl, inr, ℕ, zero, suc, ◌+◌, ◌%◌, ◌^◌, ◌<◌, ◌≤◌, ◌==◌, ◌&&◌, not, if◌then◌else◌, get_or, slice_get, List, [], ◌∷◌, ◌++◌, length, take, Bool, true, false, Option, None, Some, is_some, nat_lt, refl, sym, ap, subst, append_assoc, append-nil, arith, Result, Ok, Err, IfErr, IfOk, OnOk, OnErr}
use Rattle.std.proofs.Math.Nat.{mod-lt}
use Rattle.std.proofs.lemmas.Bool.{eq-eqb, eqb-true, lt-ltb, ltb-false}
use Rattle.std.proofs.lemmas.List.{take_more}
use Rattle.std.proofs.lemmas.Nat.{pow_pos}
use Rattle.std.specs.Result.{IsErrAnd}
use Rattle.std.specs.List.{flat_map}
use Rattle.std.proofs.lemmas.List.Concat.{flat_map-append}
use Rattle.ec_frame.specs.Frame.{Payload}
use Rattle.ec_table.specs.Contents.{Contents}
use Rattle.ec_table.specs.declared.rows.Direction.{Direction}
use Rattle.ec_table.specs.declared.rows.Direction.TheVariants.{Out, In}
use Rattle.ec_link.specs.declared.image.Variable.{Variable}
use Rattle.ec_link.specs.LinkRuns.{is_out}
use Rattle.ec_link.specs.Plan.{PlanState, plan_of}
use Rattle.ec_start.specs.declared.phase.Phase.{Phase}
use Rattle.ec_start.specs.declared.phase.Phase.TheVariants.{Idle, Sent, Ready, Failed}
use Rattle.ec_start.specs.declared.error.StartError.{StartError}
use Rattle.ec_start.specs.Running.{StartState, begun, is_ended, outcome_of}
use Rattle.ec_start.specs.Feeding.{feeds_of}
use Rattle.ec_wire.specs.BringingUp.{IsBroughtUp}
use Rattle.ec_cycle.specs.Closing.{ReportState}
use Rattle.ec_cycle.specs.Master.{MasterState, OpenCycle, IsAnswer, IsClosed, IsTaken, begin_refusal, cycle_limit, holds_value, new_master, readied, value_put, variable_set}
use Rattle.ec_cycle.specs.declared.error.CycleError.{CycleError}
use Rattle.ec_cycle.specs.declared.error.CycleError.TheVariants.{NumbersSpent}
use Rattle.ec_wire.specs.Wires.{LoopbackState, Traffic, WireState, counted, opened_to}
use Rattle.ec_slave.specs.State.{SlaveState}
use Rattle.ec_bringup.specs.SwitchedOn.{AreSlavesOf}
use Rattle.ec_wire.specs.Running.{AreTaken, IsEnded, IsRun}
use Rattle.ec_wire.proofs.TakenPayloads.{tests_stay}
use Rattle.ec_wire.specs.declared.error.RunError.{RunError}
use Rattle.ec_wire.specs.declared.error.RunError.TheVariants.{Refused, Wire}
use Rattle.ec_text.specs.InputText.{inputs_text, value_of_variable}
use Rattle.ec_text.specs.ReportText.{report_text}
use Rattle.ec_console.specs.declared.refusal.Refusal.{Refusal}
use Rattle.ec_console.specs.declared.refusal.Refusal.TheVariants as refusal
use Rattle.cmd_loop.specs.Looping.{AreRun, CanCycle, EndsEarly, EndsUnwritten, IsCycleRefusal, IsNeverRun, IsRunEnd, IsSoFar, IsStartRefusal, IsUnbound, IsUp, Loops, LoopsOnSockets, RunsCycles, cycles_text, output_put, outputs_put, ready_line, with_outputs}
use Rattle.cmd_loop.specs.Stages.{IsCut}
use Rattle.ec_console.specs.Printing.{IsCutOff, IsPrinted, OutputState}
use Rattle.ec_console.proofs.PrintLemmas.{texts}

-- ---- start-ups

pub ended_some : (p : Phase) → is_ended p ≡ true → is_some (outcome_of p) ≡ true
ended_some Idle e = e
ended_some (Sent n) e = e
ended_some Ready e = refl
ended_some (Failed x) e = refl

pub outcome_ready : (p : Phase) (u : Unit {0}) → outcome_of p ≡ Some (Ok u) → p ≡ Ready
outcome_ready p u e = cases p e
  where
    cases : (q : Phase) → outcome_of q ≡ Some (Ok u) → q ≡ Ready
    cases Idle h = cc
    cases (Sent n) h = cc
    cases Ready h = refl
    cases (Failed x) h = cc

outcome-failed : (p : Phase) (error : StartError) → outcome_of p ≡ Some (Err error) → p ≡ Failed error
outcome-failed p error e = cases p e
  where
    cases : (q : Phase) → outcome_of q ≡ Some (Err error) → q ≡ Failed error
    cases Idle h = cc
    cases (Sent n) h = cc
    cases Ready h = cc
    cases (Failed x) h = cc

-- a refusal before the slaves are up, also where a call passes it on
pub if_start : {T : Type 0} (r : Result T Refusal) (x : Refusal) (p : PlanState) (before after : WireState) → IsErrAnd r (λ e. e ≡ x) → IsStartRefusal p before after x
    → IfErr r (IsStartRefusal p before after)
if_start (Ok v) x p before after is h = tt
if_start (Err e) x p before after is h = subst (IsStartRefusal p before after) (sym is) h

-- a start-up that ended by an error
pub not_started : {T : Type 0} (r : Result T Refusal) (x : Refusal) (error : StartError) (p : PlanState) (begins start : StartState) (before after : WireState) → IsErrAnd r (λ e. e ≡ x) → x ≡ refusal.Start error
    → begins ≡ begun p.slaves (feeds_of p) 0 → IsBroughtUp begins before start after → outcome_of start.phase ≡ Some (Err error) → IfErr r (IsStartRefusal p before after)
not_started r x error p begins start before after is named new brought ended =
    let from : IsBroughtUp (begun p.slaves (feeds_of p) 0) before start after = subst (λ (s : StartState). IsBroughtUp s before start after) new brought in
    if_start r x p before after is (subst (IsStartRefusal p before after) (sym named) (record { start = start; brought = from; failed = outcome-failed start.phase error ended }))

-- and one that came up
pub is_up : (p : PlanState) (m new : MasterState) (begins start : StartState) (before after : WireState) (u : Unit {0}) → m ≡ new_master p → begins ≡ begun p.slaves (feeds_of p) 0 → IsBroughtUp begins before start after
    → outcome_of start.phase ≡ Some (Ok u) → new ≡ readied m start.next → IsUp p before after new
is_up p m new begins start before after u master first brought ended ready = record {
  start = start;
  brought = subst (λ (s : StartState). IsBroughtUp s before start after) first brought;
  ready = outcome_ready start.phase u ended;
  master = ready ∙ ap (λ (x : MasterState). readied x start.next) master;
}

-- ---- cycles

-- payloads that are taken leave the master ready
taken-ready : (old new : MasterState) (p : List ℕ) (is_accepted : Bool) → IsTaken old p is_accepted new → old.is_ready ≡ true → new.is_ready ≡ true
taken-ready old new p is_accepted t e = by new.is_ready refl
  where
    by : (b : Bool) → new.is_ready ≡ b → b ≡ true
    by true is = refl
    by false is =
        let none : (c : OpenCycle) (k : ℕ) (y : Payload) → IsAnswer old c p k y → ⊥ = λ c k y a.
        let same : new.is_ready ≡ true = ap (λ (m : MasterState). m.is_ready) (t.kept c k y a).1 ∙ e in cc in
        let same : new.is_ready ≡ true = ap (λ (m : MasterState). m.is_ready) (t.foreign none).1 ∙ e in cc

all-ready : (old new : MasterState) (ps : List (List ℕ)) → AreTaken old ps new → old.is_ready ≡ true → new.is_ready ≡ true
all-ready old new [] h e = ap (λ (m : MasterState). m.is_ready) h ∙ e
all-ready old new (p ∷ ps) h e = all-ready h.1.1 new ps h.1.3 (taken-ready old h.1.1 p h.1.0 h.1.2 e)

-- the variables of a plan, compared
same-bool : Bool → Bool → Bool
same-bool a b = if a then b else not b

same-variable : Variable → Variable → Bool
same-variable v x = same-bool (is_out v.direction) (is_out x.direction) && ((v.from == x.from) && ((v.bits == x.bits) && same-bool v.signed x.signed))

same-variables : List Variable → List Variable → Bool
same-variables [] [] = true
same-variables [] (x ∷ xs) = false
same-variables (v ∷ vs) [] = false
same-variables (v ∷ vs) (x ∷ xs) = same-variable v x && same-variables vs xs

both : (a b : Bool) → (a && b) ≡ true → (a ≡ true) × (b ≡ true)
both true b e = (refl, e)
both false b e = absurd (let f : false ≡ true = e in cc)

direction-is : (a b : Direction) → same-bool (is_out a) (is_out b) ≡ true → a ≡ b
unfolding same-bool
direction-is Out Out e = refl
direction-is Out In e = absurd (let f : false ≡ true = e in cc)
direction-is In Out e = absurd (let f : false ≡ true = e in cc)
direction-is In In e = refl

sign-is : (a b : Bool) → same-bool a b ≡ true → a ≡ b
unfolding same-bool
sign-is true true e = refl
sign-is true false e = absurd (let f : false ≡ true = e in cc)
sign-is false true e = absurd (let f : false ≡ true = e in cc)
sign-is false false e = refl

variable-is : (v x : Variable) → same-variable v x ≡ true → v ≡ x
unfolding same-variable
variable-is v x e =
    let a = both (same-bool (is_out v.direction) (is_out x.direction)) _ e in
    let b = both (v.from == x.from) _ a.1 in
    let c = both (v.bits == x.bits) _ b.1 in
    let direction : v.direction ≡ x.direction = direction-is v.direction x.direction a.0 in
    let from : v.from ≡ x.from = eqb-true v.from x.from b.0 in
    let bits : v.bits ≡ x.bits = eqb-true v.bits x.bits c.0 in
    let signed : v.signed ≡ x.signed = sign-is v.signed x.signed c.1 in
    ap (λ (d : Direction). record v { direction = d }) direction
    ∙ (ap (λ (n : ℕ). record x { from = n; bits = v.bits; signed = v.signed }) from
    ∙ (ap (λ (n : ℕ). record x { bits = n; signed = v.signed }) bits ∙ ap (λ (is : Bool). record x { signed = is }) signed))

variables-are : (vs xs : List Variable) → same-variables vs xs ≡ true → vs ≡ xs
unfolding same-variables
variables-are [] [] e = refl
variables-are [] (x ∷ xs) e = absurd (let f : false ≡ true = e in cc)
variables-are (v ∷ vs) [] e = absurd (let f : false ≡ true = e in cc)
variables-are (v ∷ vs) (x ∷ xs) e =
    let k = both (same-variable v x) _ e in
    ap (λ (y : Variable). y ∷ vs) (variable-is v x k.0) ∙ ap (λ (ys : List Variable). x ∷ ys) (variables-are vs xs k.1)

same-sign : (a : Bool) → same-bool a a ≡ true
unfolding same-bool
same-sign true = refl
same-sign false = refl

same-direction : (a : Direction) → same-bool (is_out a) (is_out a) ≡ true
unfolding same-bool
same-direction Out = refl
same-direction In = refl

variable-same : (v : Variable) → same-variable v v ≡ true
unfolding same-variable
variable-same v = rw (same-direction v.direction, eq-eqb v.from v.from refl, eq-eqb v.bits v.bits refl, same-sign v.signed) refl

variables-same : (vs : List Variable) → same-variables vs vs ≡ true
unfolding same-variables
variables-same [] = refl
variables-same (v ∷ vs) = rw (variable-same v, variables-same vs) refl

-- payloads that are taken leave them
variables-stay : (old new : MasterState) (ps : List (List ℕ)) → AreTaken old ps new → new.plan.variables ≡ old.plan.variables
variables-stay old new ps h =
    variables-are new.plan.variables old.plan.variables
    (tests_stay (λ m. same-variables m.plan.variables old.plan.variables) (λ m c k q o. refl) old new ps h (variables-same old.plan.variables))

closed-can : (p : PlanState) (last after : MasterState) (r : ReportState) → last.is_ready ≡ true → last.plan.variables ≡ p.variables → IsClosed last after r → CanCycle p after
closed-can p last after r up vs h = subst (CanCycle p) (sym h.master) (record { up = up; none_open = refl; variables = vs })

ended-well : (p : PlanState) (last after : MasterState) (old new : WireState) (r : Result ReportState RunError) → last.is_ready ≡ true → last.plan.variables ≡ p.variables → IsEnded last old new r after
    → OnOk r (CanCycle p after)
ended-well p last after old new (Ok report) up vs h = closed-can p last after report up vs h.1
ended-well p last after old new (Err error) up vs h = tt

run-well : (p : PlanState) (m : MasterState) (old new : WireState) (r : Result ReportState RunError) (after : MasterState) → CanCycle p m → IsRun m old new r after
    → OnOk r (CanCycle p after)
run-well p m old new r after can run =
    let begun : run.begun.is_ready ≡ true = ap (λ (x : MasterState). x.is_ready) run.begins.is ∙ can.up in
    let last : run.last.is_ready ≡ true = all-ready run.begun run.last run.exchanged.got run.exchanged.taken begun in
    let vs : run.last.plan.variables ≡ p.variables
    = variables-stay run.begun run.last run.exchanged.got run.exchanged.taken ∙ (ap (λ (x : MasterState). x.plan.variables) run.begins.is ∙ can.variables) in
    ended-well p run.last after old new r last vs run.ends

spent-well : (p : PlanState) (r : Result ReportState RunError) (after : MasterState) → r ≡ Err (Refused NumbersSpent) → OnOk r (CanCycle p after)
spent-well p r after is = subst (λ (x : Result ReportState RunError). OnOk x (CanCycle p after)) (sym is) tt

pub ran : (p : PlanState) (m : MasterState) (old new : WireState) (r : Result ReportState RunError) (after : MasterState) → CanCycle p m
    → (begin_refusal m ≡ None → IsRun m old new r after) → ((e : CycleError) → begin_refusal m ≡ Some e → r ≡ Err (Refused e))
    → OnOk r (CanCycle p after)
ran p m old new r after can run refused = by (nat_lt m.next cycle_limit) refl
  where
    by : (b : Bool) → nat_lt m.next cycle_limit ≡ b → OnOk r (CanCycle p after)
    by true lt = let fine : begin_refusal m ≡ None = rw (can.up, can.none_open, lt) refl in run-well p m old new r after can (run fine)
    by false lt = let spent : begin_refusal m ≡ Some NumbersSpent = rw (can.up, can.none_open, lt) refl in spent-well p r after (refused NumbersSpent spent)

-- what ends without a report was ended by the wire
run-ended : (m : MasterState) (old new : WireState) (r : Result ReportState RunError) (after : MasterState) → IsRun m old new r after → IfErr r (IsRunEnd m old new)
run-ended m old new (Ok report) after run = tt
run-ended m old new (Err Wire) after run = (after, run)
run-ended m old new (Err (Refused e)) after run = absurd run.ends

spent-ended : (m : MasterState) (old new : WireState) (r : Result ReportState RunError) → r ≡ Err (Refused NumbersSpent) → cycle_limit ≤ m.next → new ≡ old → IfErr r (IsRunEnd m old new)
spent-ended m old new r is le same = subst (λ (x : Result ReportState RunError). IfErr x (IsRunEnd m old new)) (sym is) (refl, le, same)

-- or there was no number
pub run_end : (p : PlanState) (m : MasterState) (old new : WireState) (r : Result ReportState RunError) (after : MasterState) → CanCycle p m
    → (begin_refusal m ≡ None → IsRun m old new r after) → ((e : CycleError) → begin_refusal m ≡ Some e → r ≡ Err (Refused e)) → ((e : CycleError) → begin_refusal m ≡ Some e → new ≡ old)
    → IfErr r (IsRunEnd m old new)
run_end p m old new r after can run refused same = by (nat_lt m.next cycle_limit) refl
  where
    by : (b : Bool) → nat_lt m.next cycle_limit ≡ b → IfErr r (IsRunEnd m old new)
    by true lt = let fine : begin_refusal m ≡ None = rw (can.up, can.none_open, lt) refl in run-ended m old new r after (run fine)
    by false lt =
        let spent : begin_refusal m ≡ Some NumbersSpent = rw (can.up, can.none_open, lt) refl in
        spent-ended m old new r (refused NumbersSpent spent) (ltb-false m.next cycle_limit lt) (same NumbersSpent spent)

-- what ends with a report was run
pub run_of : (m : MasterState) (old new : WireState) (r : Result ReportState RunError) (after : MasterState)
    → (begin_refusal m ≡ None → IsRun m old new r after) → ((e : CycleError) → begin_refusal m ≡ Some e → r ≡ Err (Refused e))
    → IfOk r (λ x. IsRun m old new (Ok x) after)
run_of m old new r after run refused = by (begin_refusal m) refl r refl
  where
    by : (o : Option CycleError) → begin_refusal m ≡ o → (x : Result ReportState RunError) → r ≡ x → IfOk x (λ y. IsRun m old new (Ok y) after)
    by None e (Ok y) is = subst (λ (z : Result ReportState RunError). IsRun m old new z after) is (run e)
    by None e (Err y) is = tt
    by (Some f) e (Ok y) is = absurd (let bad : Ok y ≡ Err (Refused f) = sym is ∙ refused f e in cc)
    by (Some f) e (Err y) is = tt

pub with-can : (p : PlanState) (m n : MasterState) (number : ℕ) → CanCycle p m → n ≡ with_outputs m number → CanCycle p n
with-can p m n number can is = subst (CanCycle p) (sym is) (record { up = can.up; none_open = can.none_open; variables = can.variables })

put-out : (b : Bool) (xs ys : List ℕ) → b ≡ true → (if b then xs else ys) ≡ xs
put-out true xs ys e = refl
put-out false xs ys e = absurd (let f : false ≡ true = e in cc)

put-in : (b : Bool) (xs ys : List ℕ) → b ≡ false → (if b then xs else ys) ≡ ys
put-in true xs ys e = absurd (let f : true ≡ false = e in cc)
put-in false xs ys e = refl

only-first : (a b : Bool) → (a && b) ≡ false → b ≡ true → a ≡ false
only-first true b e f = absurd (let g : true ≡ false = sym f ∙ e in cc)
only-first false b e f = refl

-- ---- outputs

snoc-put : (number : ℕ) (image : List ℕ) (vs : List Variable) (v : Variable) → outputs_put number image (vs ++ v ∷ []) ≡ output_put number (outputs_put number image vs) v
snoc-put number image [] v = refl
snoc-put number image (x ∷ vs) v = snoc-put number (output_put number image x) vs v

get-or-any : (vs : List Variable) (i : ℕ) (a b : Variable) → i < length vs → get_or vs i a ≡ get_or vs i b
get-or-any [] i a b l = absurd (omega (arith, l))
get-or-any (v ∷ vs) zero a b l = refl
get-or-any (v ∷ vs) (suc i) a b l = get-or-any vs i a b (omega (arith, l))

-- one variable more
pub put_next : (m before new : MasterState) (number i : ℕ) (vs : List Variable) (v : Variable) → i < length vs → v ≡ get_or vs i v
    → before ≡ record m { outputs = outputs_put number m.outputs (take i vs) } → new ≡ record before { outputs = output_put number before.outputs v }
    → new ≡ record m { outputs = outputs_put number m.outputs (take (i + 1) vs) }
put_next m before new number i vs v l at so is =
    is ∙ (ap (λ (x : MasterState). record x { outputs = output_put number x.outputs v }) so
    ∙ ap (λ (image : List ℕ). record m { outputs = image })
    (sym (snoc-put number m.outputs (take i vs) v)
    ∙ ap (outputs_put number m.outputs) (ap (λ (x : Variable). take i vs ++ x ∷ []) at ∙ sym (take_more vs i v l))))

pub put_next_at : (m before new : MasterState) (number i : ℕ) (vs xs : List Variable) (d : Variable) → i < length vs → xs ≡ vs
    → before ≡ record m { outputs = outputs_put number m.outputs (take i vs) } → new ≡ record before { outputs = output_put number before.outputs (get_or xs i d) }
    → new ≡ record m { outputs = outputs_put number m.outputs (take (i + 1) vs) }
put_next_at m before new number i vs xs d l same so is =
    put_next m before new number i vs (get_or xs i d) l (ap (λ (ys : List Variable). get_or ys i d) same ∙ get-or-any vs i d (get_or xs i d) l) so is

below-power : (n bits : ℕ) → nat_lt (n % 2 ^ bits) (2 ^ bits) ≡ true
below-power n bits = lt-ltb (n % 2 ^ bits) (2 ^ bits) (mod-lt n (pow_pos bits))

pub output_is_set : (m new : MasterState) (variable value number : ℕ) (v : Variable) → slice_get m.plan.variables variable ≡ Some v → value ≡ number % 2 ^ v.bits
    → holds_value value (slice_get m.plan.variables variable) ≡ true → new ≡ variable_set m variable value → new ≡ record m { outputs = output_put number m.outputs v }
output_is_set m new variable value number v at cut holds is =
    let out = both (is_out v.direction) _ (ap (holds_value value) (sym at) ∙ holds) in
    is ∙ ap (λ (image : List ℕ). record m { outputs = image })
    (ap (value_put m.outputs value) at ∙ (ap (λ (x : ℕ). value_put m.outputs x (Some v)) cut ∙ sym (put-out (is_out v.direction) _ _ out.0)))

pub output_is_kept : (m : MasterState) (variable value number : ℕ) (v : Variable) → slice_get m.plan.variables variable ≡ Some v → value ≡ number % 2 ^ v.bits
    → holds_value value (slice_get m.plan.variables variable) ≡ false → m ≡ record m { outputs = output_put number m.outputs v }
output_is_kept m variable value number v at cut holds =
    let no : (is_out v.direction && nat_lt value (2 ^ v.bits)) ≡ false = ap (holds_value value) (sym at) ∙ holds in
    let small : nat_lt value (2 ^ v.bits) ≡ true = ap (λ (x : ℕ). nat_lt x (2 ^ v.bits)) cut ∙ below-power number v.bits in
    ap (λ (image : List ℕ). record m { outputs = image }) (sym (put-in (is_out v.direction) _ _ (only-first (is_out v.direction) _ no small)))

pub if_cycle : {T : Type 0} (r : Result T Refusal) (x : Refusal) (m : MasterState) (before after : WireState) → IsErrAnd r (λ e. e ≡ x) → IsCycleRefusal m before after x
    → IfErr r (IsCycleRefusal m before after)
if_cycle (Ok v) x m before after is h = tt
if_cycle (Err e) x m before after is h = subst (IsCycleRefusal m before after) (sym is) h

-- a run that gave no report, and one whose report found no memory
pub cycle_ended : {T : Type 0} (r : Result T Refusal) (x : Refusal) (error : RunError) (m : MasterState) (before after : WireState) → IsErrAnd r (λ e. e ≡ x) → x ≡ refusal.Run error
    → IsRunEnd m before after error → IfErr r (IsCycleRefusal m before after)
cycle_ended r x error m before after is named h = if_cycle r x m before after is (subst (IsCycleRefusal m before after) (sym named) h)

pub report_lost : {T : Type 0} (r : Result T Refusal) (x : Refusal) (m : MasterState) (before after : WireState) (report : ReportState) (last : MasterState) → IsErrAnd r (λ e. e ≡ x) → x ≡ refusal.Memory
    → IsRun m before after (Ok report) last → IfErr r (IsCycleRefusal m before after)
report_lost r x m before after report last is named run = if_cycle r x m before after is (subst (IsCycleRefusal m before after) (sym named) (report, last, run))

-- ---- what is printed

-- the reports so far
pub record ArePrinted (t : Contents) (first : MasterState) (before : WireState) (last : MasterState) (after : WireState) (old new : OutputState) (i : ℕ) : Type 0 where
  pub reports : List ReportState
  pub run : AreRun first before 1 reports last after
  pub count : length reports ≡ i
  pub printed : IsPrinted old new (cycles_text t reports)

length-snoc : (rs : List ReportState) (r : ReportState) → length (rs ++ r ∷ []) ≡ length rs + 1
length-snoc [] r = omega arith
length-snoc (x ∷ rs) r = let e = length-snoc rs r in omega (arith, e)

flat-snoc : (t : Contents) (rs : List ReportState) (r : ReportState)
    → flat_map (report_text t.version (plan_of t).parts) (rs ++ r ∷ []) ≡ flat_map (report_text t.version (plan_of t).parts) rs ++ report_text t.version (plan_of t).parts r
flat-snoc t rs r =
    let f : ReportState → List ℕ = report_text t.version (plan_of t).parts in
    flat_map-append f rs (r ∷ []) ∙ ap (λ (x : List ℕ). flat_map f rs ++ x) (append-nil (f r))

text-snoc : (t : Contents) (rs : List ReportState) (r : ReportState) → cycles_text t (rs ++ r ∷ []) ≡ cycles_text t rs ++ report_text t.version (plan_of t).parts r
text-snoc t rs r =
    ap (λ (x : List ℕ). ready_line ++ x) (flat-snoc t rs r) ∙ sym (append_assoc ready_line (flat_map (report_text t.version (plan_of t).parts) rs) (report_text t.version (plan_of t).parts r))

run-snoc : (m mid last : MasterState) (w x v : WireState) (number n : ℕ) (rs : List ReportState) (r : ReportState) → AreRun m w number rs mid x → n ≡ number + length rs
    → IsRun (with_outputs mid n) x v (Ok r) last → AreRun m w number (rs ++ r ∷ []) last v
run-snoc m mid last w x v number n [] r h is one =
    let same : n ≡ number = omega (arith, is) in (
      last,
      v,
      subst (λ (y : MasterState). IsRun (with_outputs y number) w v (Ok r) last) h.0
          (subst (λ (y : WireState). IsRun (with_outputs mid number) y v (Ok r) last) h.1 (subst (λ (k : ℕ). IsRun (with_outputs mid k) x v (Ok r) last) same one)),
      (refl, refl),
    )
run-snoc m mid last w x v number n (s ∷ rs) r h is one = (h.0, h.1, h.2, run-snoc h.0 mid last h.1 x v (number + 1) n rs r h.3 (omega (arith, is)) one)

-- the same of what stands behind the first line
pub record AreReported (t : Contents) (first : MasterState) (before : WireState) (last : MasterState) (after : WireState) (mid new : OutputState) (i : ℕ) : Type 0 where
  pub reports : List ReportState
  pub run : AreRun first before 1 reports last after
  pub count : length reports ≡ i
  pub printed : IsPrinted mid new (flat_map (report_text t.version (plan_of t).parts) reports)

pub none_reported : (t : Contents) (m : MasterState) (w : WireState) (mid : OutputState) → AreReported t m w m w mid mid 0
none_reported t m w mid = record { reports = []; run = (refl, refl); count = refl; printed = texts.none mid }

pub one_reported : (t : Contents) (first last later : MasterState) (before after next : WireState) (mid new newer : OutputState) (i : ℕ) (line : List ℕ) (r : ReportState)
    → AreReported t first before last after mid new i → IsRun (with_outputs last (i + 1)) after next (Ok r) later
    → line ≡ report_text t.version (plan_of t).parts r → IsPrinted new newer line → AreReported t first before later next mid newer (i + 1)
one_reported t first last later before after next mid new newer i line r h one is more =
    let count = h.count in
    record {
      reports = h.reports ++ r ∷ [];
      run = run-snoc first last later before after next 1 (i + 1) h.reports r h.run (omega (arith, count)) one;
      count = length-snoc h.reports r ∙ ap (λ (n : ℕ). n + 1) h.count;
      printed = subst (IsPrinted mid newer) (sym (flat-snoc t h.reports r))
          (subst (λ (x : List ℕ). IsPrinted mid newer (flat_map (report_text t.version (plan_of t).parts) h.reports ++ x)) is (texts.both mid new newer _ line h.printed more));
    }

pub since_ready : (t : Contents) (first last : MasterState) (before after : WireState) (old mid new : OutputState) (i : ℕ) → IsPrinted old mid ready_line
    → AreReported t first before last after mid new i → ArePrinted t first before last after old new i
since_ready t first last before after old mid new i line h = record {
  reports = h.reports;
  run = h.run;
  count = h.count;
  printed = texts.both old mid new ready_line _ line h.printed;
}

-- ---- how it is cut short

cut-passed : (r : Result Unit Refusal) (x : Refusal) (cycles : ℕ) (t : Contents) (first : MasterState) (before after : WireState) (old new : OutputState) → IsErrAnd r (λ e. e ≡ x)
    → IsCut cycles t first before after old new x → IfErr r (IsCut cycles t first before after old new)
cut-passed (Ok done) x cycles t first before after old new is h = tt
cut-passed (Err e) x cycles t first before after old new is h = subst (IsCut cycles t first before after old new) (sym is) h

-- no further cycle ends, and whole lines stand there
pub cut_between : (r : Result Unit Refusal) (x : Refusal) (cycles : ℕ) (t : Contents) (first last : MasterState) (before between after : WireState) (old new : OutputState) (i : ℕ) → IsErrAnd r (λ e. e ≡ x)
    → IsCycleRefusal (with_outputs last (i + 1)) between after x → ArePrinted t first before last between old new i → i < cycles → IfErr r (IsCut cycles t first before after old new)
cut_between r x cycles t first last before between after old new i is h p lt =
    let count = p.count in
    cut-passed r x cycles t first before after old new is
    (inl (record {
      reports = p.reports;
      last = last;
      between = between;
      run = p.run;
      few = omega (arith, count, lt);
      next = subst (λ (n : ℕ). IsCycleRefusal (with_outputs last (n + 1)) between after x) (sym p.count) h;
      printed = p.printed;
    }))

-- a write is refused
cut-writing : (r : Result Unit Refusal) (x : Refusal) (cycles : ℕ) (t : Contents) (first last : MasterState) (before after : WireState) (old new : OutputState) (reports : List ReportState)
    → AreRun first before 1 reports last after → IsErrAnd r (λ e. e ≡ x) → x ≡ refusal.Output → length reports ≤ cycles → IsCutOff old new (cycles_text t reports)
    → IfErr r (IsCut cycles t first before after old new)
cut-writing r x cycles t first last before after old new reports run is out few part =
    cut-passed r x cycles t first before after old new is
    (inr (record { output = out; text = cycles_text t reports; lines = (reports, last, run, few, refl); cut = part }))

pub cut_ready : (r : Result Unit Refusal) (x : Refusal) (cycles : ℕ) (t : Contents) (m : MasterState) (w : WireState) (old new : OutputState) → IsErrAnd r (λ e. e ≡ x) → x ≡ refusal.Output
    → IsCutOff old new ready_line → IfErr r (IsCut cycles t m w w old new)
cut_ready r x cycles t m w old new is out part =
    cut-writing r x cycles t m m w w old new [] (refl, refl) is out (omega arith) (subst (IsCutOff old new) (sym (append-nil ready_line)) part)

pub cut_report : (r : Result Unit Refusal) (x : Refusal) (cycles : ℕ) (t : Contents) (first last later : MasterState) (before after next : WireState) (old mid new newer : OutputState) (i : ℕ)
    (line : List ℕ) (report : ReportState) → IsErrAnd r (λ e. e ≡ x)
    → x ≡ refusal.Output → IsPrinted old mid ready_line → AreReported t first before last after mid new i → IsRun (with_outputs last (i + 1)) after next (Ok report) later → i < cycles
    → line ≡ report_text t.version (plan_of t).parts report → IsCutOff new newer line
    → IfErr r (IsCut cycles t first before next old newer)
unfolding since_ready
cut_report r x cycles t first last later before after next old mid new newer i line report is out ready h one lt same part =
    let p = since_ready t first last before after old mid new i ready h in
    let count = h.count in
    let run = run-snoc first last later before after next 1 (i + 1) h.reports report h.run (omega (arith, count)) one in
    let few : length (h.reports ++ report ∷ []) ≤ cycles = let e = length-snoc h.reports report in omega (arith, lt, e, count) in
    let behind : IsCutOff old newer (cycles_text t h.reports ++ line) = texts.cut old new newer _ line p.printed part in
    cut-writing r x cycles t first later before next old newer (h.reports ++ report ∷ []) run is out few
    (subst (IsCutOff old newer) (ap (λ (y : List ℕ). cycles_text t h.reports ++ y) same ∙ sym (text-snoc t h.reports report)) behind)

-- ---- the whole

-- cycles that are cut short
pub cycles_cut : (r : Result Unit Refusal) (x : Refusal) (cycles : ℕ) (t : Contents) (first : MasterState) (before after : WireState) (old new : OutputState) → IsErrAnd r (λ e. e ≡ x)
    → IsCut cycles t first before after old new x → RunsCycles cycles t first before after old new r
cycles_cut (Ok done) x cycles t first before after old new is h = absurd is
cycles_cut (Err e) x cycles t first before after old new is (inl h) = inl (subst (EndsEarly cycles t first before after old new) (sym is) h)
cycles_cut (Err e) x cycles t first before after old new is (inr h) = inr (inr (inl (subst (EndsUnwritten (IsSoFar cycles t first before after) old new) (sym is) h)))

-- memory for the input variables is refused
pub cycles_unshown : (r : Result Unit Refusal) (x : Refusal) (cycles : ℕ) (t : Contents) (first last : MasterState) (before after : WireState) (old new : OutputState) (reports : List ReportState)
    → AreRun first before 1 reports last after → IsErrAnd r (λ e. e ≡ x) → x ≡ refusal.Memory → length reports ≡ cycles → IsPrinted old new (cycles_text t reports)
    → RunsCycles cycles t first before after old new r
cycles_unshown (Ok done) x cycles t first last before after old new reports run is memory count printed = absurd is
cycles_unshown (Err e) x cycles t first last before after old new reports run is memory count printed =
    inr (inl (record { reports = reports; last = last; run = run; all = count; memory = is ∙ memory; printed = printed }))

pub cycles_shown : (r : Result Unit Refusal) (cycles : ℕ) (t : Contents) (first last : MasterState) (before after : WireState) (old mid new : OutputState) (reports : List ReportState) (lines : List ℕ)
    → AreRun first before 1 reports last after → length reports ≡ cycles
    → IsPrinted old mid (cycles_text t reports) → lines ≡ inputs_text (value_of_variable last) t → OnOk r (IsPrinted mid new lines) → OnErr r (IsCutOff mid new lines) → IfErr r (λ x. x ≡ refusal.Output)
    → RunsCycles cycles t first before after old new r
cycles_shown (Ok done) cycles t first last before after old mid new reports lines run count printed is all part fault = (
  cycles_text t reports ++ inputs_text (value_of_variable last) t,
  (reports, last, run, count, refl),
  subst (λ (x : List ℕ). IsPrinted old new (cycles_text t reports ++ x)) is (texts.both old mid new _ lines printed all),
)
cycles_shown (Err e) cycles t first last before after old mid new reports lines run count printed is all part fault =
    inr (inr (inr (record {
      output = fault;
      text = cycles_text t reports ++ inputs_text (value_of_variable last) t;
      lines = (reports, last, run, count, refl);
      cut = subst (λ (x : List ℕ). IsCutOff old new (cycles_text t reports ++ x)) is (texts.cut old mid new _ lines printed part);
    })))

-- slaves that don't come up
pub loop_unstarted : (r : Result Unit Refusal) (x : Refusal) (cycles : ℕ) (t : Contents) (p : PlanState) (before after : WireState) (known : OutputState) → IsErrAnd r (λ e. e ≡ x) → p ≡ plan_of t
    → IsStartRefusal p before after x → Loops cycles t before after known known r
loop_unstarted (Ok done) x cycles t p before after known is plan h = absurd is
loop_unstarted (Err e) x cycles t p before after known is plan h =
    inr (e, refl, subst (IsStartRefusal (plan_of t) before after) (sym is) (subst (λ (q : PlanState). IsStartRefusal q before after x) plan h), refl)

-- and slaves that do
pub loop_started : (r : Result Unit Refusal) (cycles : ℕ) (t : Contents) (p : PlanState) (first : MasterState) (before between after : WireState) (old new : OutputState) → p ≡ plan_of t
    → IsUp p before between first → RunsCycles cycles t first between after old new r → Loops cycles t before after old new r
loop_started r cycles t p first before between after old new plan up runs = inl (first, between, subst (λ (q : PlanState). IsUp q before between first) plan up, runs)

-- ---- over sockets

-- a refusal before anything is sent, also where a call passes it on
pub never_run : (r : Result Unit Refusal) (x : Refusal) (Refuses : Refusal → Type 0) (known : OutputState) (before after : Traffic) → IsErrAnd r (λ e. e ≡ x) → Refuses x → after ≡ before
    → IsNeverRun Refuses known known before after r
never_run (Ok done) x Refuses known before after is h kept = absurd is
never_run (Err e) x Refuses known before after is h kept = (e, refl, subst Refuses (sym is) h, refl, kept)

pub if_unbound : {T : Type 0} (r : Result T Refusal) (x : Refusal) → IsErrAnd r (λ e. e ≡ x) → IsUnbound x → IfErr r IsUnbound
if_unbound (Ok v) x is h = tt
if_unbound (Err e) x is h = subst IsUnbound (sym is) h

pub no_wire : {A : Type 0} (r : Result Unit Refusal) (x : Refusal) (cycles : ℕ) (t : Contents) (known : OutputState) (before after : LoopbackState A) → IsErrAnd r (λ e. e ≡ x) → IsUnbound x → after ≡ before
    → LoopsOnSockets cycles t known known before.traffic after.traffic r
no_wire {A} r x cycles t known before after is h kept =
    inr (never_run r x IsUnbound known before.traffic after.traffic is h (ap (λ (l : LoopbackState A). l.traffic) kept))

pub looped_between : (r : Result Unit Refusal) (cycles : ℕ) (t : Contents) (slaves : List SlaveState) (before given began ended after : Traffic)
    (old new : OutputState) → AreSlavesOf t slaves → given ≡ opened_to (length slaves) before
    → began ≡ given → Loops cycles t (counted began) (counted ended) old new r → after ≡ opened_to given.slaves ended → LoopsOnSockets cycles t old new before after r
looped_between r cycles t slaves before given began ended after old new are opens starts runs ends = inl (record {
  slaves = slaves;
  are = are;
  opened = ap (λ (x : Traffic). x.slaves) ends ∙ ap (λ (x : Traffic). x.slaves) opens;
  runs = subst (λ (x : Traffic). Loops cycles t (counted before) (counted x) old new r) (sym ends)
      (subst (λ (x : Traffic). Loops cycles t (counted x) (counted ended) old new r) (starts ∙ opens) runs);
})

-- cycles over a wire whose payloads are noted are cycles over the wire
pub tapped_loops : (cycles : ℕ) (t : Contents) (first began after last : WireState) (old new : OutputState) (r : Result Unit Refusal)
    → began ≡ first → last ≡ after → Loops cycles t began after old new r → Loops cycles t first last old new r
tapped_loops cycles t first began after last old new r same is loops =
    subst (λ (w : WireState). Loops cycles t first w old new r) (sym is) (subst (λ (w : WireState). Loops cycles t w after old new r) same loops)
