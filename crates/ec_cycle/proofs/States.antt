-- What the calls of a master make of its fields.
use Rattle.std.proofs.Common.{ℕ, zero, suc, ◌+◌, ◌^◌, ◌<◌, ◌≤◌, ◌≡◌, Bool, true, false, not, Option, Some, None, is_some, option_map, refl, sym, ◌∙◌, ap, subst, arith, List, [], ◌∷◌, length, map, get_or, set, replicate}
use Rattle.ec_frame.specs.Building.{bare_payload}
use Rattle.ec_frame.specs.Frame.{Payload, IsFrame}
use Rattle.ec_link.specs.declared.plan.ExpectedCounters.{ExpectedCounters}
use Rattle.ec_link.specs.Plan.{PlanState, part_at}
use Rattle.ec_link.specs.Usable.{IsUsable}
use Rattle.ec_cycle.specs.declared.run.BitRun.{BitRun}
use Rattle.ec_cycle.specs.declared.run.InputRun.{InputRun}
use Rattle.ec_cycle.specs.Frames.{sent_datagrams}
use Rattle.ec_cycle.specs.Closing.{ReturnedPart, ReportState, returned_part_of, nones, or_words, unit_taken, inputs_closed, report_of}
use Rattle.ec_cycle.specs.Master.{MasterState, OpenCycle, Begun, IsTaken, IsClosed}
use Rattle.ec_cycle.specs.Matching.{AnswersPart, Answered}
use Rattle.ec_cycle.specs.MasterFields.{AreImages, AreLinked, IsMade, IsMaster, IsUnderWay}
use Rattle.ec_cycle.proofs.UnitLoops.{all_none}
use Rattle.ec_cycle.proofs.Matches.{foreign, not_taken, taken}

pub number_open : (o : Option ℕ) (r : Bool) → is_some o ≡ not r → r ≡ false → (n : ℕ) × (o ≡ Some n)
number_open (Some n) r e f = (n, refl)
number_open None r e f = absurd (let g : false ≡ true = e ∙ ap not f in cc)

abbrev pub cycle_of : List (List ℕ) → List (Option ReturnedPart) → ℕ → OpenCycle
cycle_of fs ks n = record { number = n; frames = fs; kept = ks }

abbrev pub state_of : PlanState → Bool → ℕ → List ℕ → List ℕ → List (List ℕ) → List (Option ReturnedPart) → Option ℕ → MasterState
state_of p r x o i fs ks number = record { plan = p; is_ready = r; next = x; outputs = o; inputs = i; cycle = option_map (λ (n : ℕ). record { number = n; frames = fs; kept = ks }) number }

pub foreign_state : (p : PlanState) (r : Bool) (x : ℕ) (o i : List ℕ) (fs : List (List ℕ)) (ks : List (Option ReturnedPart)) (number : Option ℕ) (n : ℕ) (payload : List ℕ) (pl : Payload) → number ≡ Some n → IsFrame payload pl → IsUnderWay p n fs ks
    → length fs ≡ length p.parts → length p.parts ≤ 32 → Answered pl.datagrams fs ks None → IsTaken (state_of p r x o i fs ks number) payload false (state_of p r x o i fs ks number)
foreign_state p r x o i fs ks number n payload pl e h way count few none =
    subst (λ (y : Option ℕ). IsTaken (state_of p r x o i fs ks y) payload false (state_of p r x o i fs ks y)) (sym e)
    (foreign (state_of p r x o i fs ks (Some n)) (cycle_of fs ks n) payload pl refl h way count few none)

pub shut_state : (p : PlanState) (r : Bool) (x : ℕ) (o i : List ℕ) (fs : List (List ℕ)) (ks : List (Option ReturnedPart)) (number : Option ℕ) (b : Bool) (payload : List ℕ) → is_some number ≡ not b → b ≡ true
    → IsTaken (state_of p r x o i fs ks number) payload false (state_of p r x o i fs ks number)
shut_state p r x o i fs ks None b payload e t = not_taken (state_of p r x o i fs ks None) payload (λ c k q a. let f : None ≡ Some c = a.is_open in cc)
shut_state p r x o i fs ks (Some n) b payload e t = absurd (let g : true ≡ false = e ∙ ap not t in cc)

pub strange_state : (p : PlanState) (r : Bool) (x : ℕ) (o i : List ℕ) (fs : List (List ℕ)) (ks : List (Option ReturnedPart)) (number : Option ℕ) (payload : List ℕ) → ((q : Payload) → IsFrame payload q → ⊥)
    → IsTaken (state_of p r x o i fs ks number) payload false (state_of p r x o i fs ks number)
strange_state p r x o i fs ks number payload none = not_taken (state_of p r x o i fs ks number) payload (λ c k q a. none q a.spelled)

pub taken_state : (p : PlanState) (r : Bool) (x : ℕ) (o i : List ℕ) (fs : List (List ℕ)) (ks : List (Option ReturnedPart)) (number : Option ℕ) (n : ℕ) (payload : List ℕ) (pl : Payload) (part : ℕ) (new : Option ReturnedPart) → number ≡ Some n → IsFrame payload pl → IsUnderWay p n fs ks
    → length fs ≡ length p.parts → length p.parts ≤ 32 → AnswersPart pl.datagrams fs ks part → new ≡ Some (returned_part_of (part_at p.parts part) pl.datagrams)
    → IsTaken (state_of p r x o i fs ks number) payload true (state_of p r x o i fs (set ks part new) number)
taken_state p r x o i fs ks number n payload pl part new e h way count few a is =
    subst (λ (y : Option ℕ). IsTaken (state_of p r x o i fs ks y) payload true (state_of p r x o i fs (set ks part new) y)) (sym e)
    (subst (λ (q : Option ReturnedPart). IsTaken (state_of p r x o i fs ks (Some n)) payload true (state_of p r x o i fs (set ks part q) (Some n))) (sym is)
    (taken (state_of p r x o i fs ks (Some n)) (cycle_of fs ks n) payload pl part refl h way count few a))

pub begun_state : (p : PlanState) (r : Bool) (x : ℕ) (o i : List ℕ) (fs0 fs : List (List ℕ)) (ks0 ks : List (Option ReturnedPart)) (number : Option ℕ) → length fs ≡ length p.parts → length ks ≡ length p.parts
    → ((k : ℕ) → k < length ks → get_or ks k None ≡ None) → ((k : ℕ) → k < length p.parts → IsFrame (get_or fs k []) (bare_payload (sent_datagrams p x k o)))
    → Begun (state_of p r x o i fs0 ks0 number) (state_of p r (x + 1) o i fs ks (Some x)) (cycle_of fs ks x)
begun_state p r x o i fs0 fs ks0 ks number count kept_count none frames = record {
  is = refl;
  number = refl;
  kept = all_none ks p.parts kept_count none;
  count = count;
  frames = frames;
}

pub closed_state : (p : PlanState) (r : Bool) (x : ℕ) (o i j : List ℕ) (fs : List (List ℕ)) (ks : List (Option ReturnedPart)) (number : Option ℕ) (n : ℕ) (report : ReportState) → number ≡ Some n → j ≡ inputs_closed p ks i → report ≡ report_of p ks
    → IsClosed (state_of p r x o i fs ks number) (state_of p r x o j fs ks None) report
closed_state p r x o i j fs ks number n report e is said = record {
  cycle = cycle_of fs ks n;
  was_open = ap (option_map (cycle_of fs ks)) e;
  master = ap (λ (z : List ℕ). state_of p r x o z fs ks None) is;
  report = said;
}

-- ---- what holds of the fields

none_there : (ks : List (Option ReturnedPart)) → ((k : ℕ) → k < length ks → get_or ks k None ≡ None) → (k : ℕ) → get_or ks k None ≡ None
none_there [] none k = refl
none_there (o ∷ ks) none zero = none zero (omega arith)
none_there (o ∷ ks) none (suc k) = none_there ks (λ j l. none (suc j) (omega (arith, l))) k

begun_way : (p : PlanState) (x : ℕ) (o : List ℕ) (fs : List (List ℕ)) (ks : List (Option ReturnedPart)) → x < 2 ^ 64 → ((k : ℕ) → k < length ks → get_or ks k None ≡ None)
    → ((k : ℕ) → k < length p.parts → IsFrame (get_or fs k []) (bare_payload (sent_datagrams p x k o))) → IsUnderWay p x fs ks
begun_way p x o fs ks small none spelled = record {
  small = small;
  sent = λ k l. (o, spelled k l);
  sizes = λ k q e. absurd (let f : None ≡ Some q = sym (none_there ks none k) ∙ e in cc);
}

-- q is the plan as it is lent
pub made_master : (p q : PlanState) (runs : List (List BitRun)) (in_runs : List InputRun) (expected : List ExpectedCounters) (o i : List ℕ) (fs : List (List ℕ)) (ks : List (Option ReturnedPart)) → q ≡ p → IsUsable p → AreLinked q runs in_runs expected → AreImages q o i
    → length fs ≡ length q.parts → ((k : ℕ) → k < length q.parts → IsMade q k (get_or fs k [])) → length ks ≡ length q.parts → IsMaster p runs in_runs expected o i fs ks None
made_master p q runs in_runs expected o i fs ks e usable linked images count made kept_count = subst (λ (r : PlanState). IsMaster r runs in_runs expected o i fs ks None) e (record {
  usable = subst IsUsable (sym e) usable;
  linked = linked;
  images = images;
  frame_count = count;
  kept_count = kept_count;
  made = made;
  under_way = λ n h. absurd (let f : None ≡ Some n = h in cc);
})

pub begun_master : (p : PlanState) (runs : List (List BitRun)) (in_runs : List InputRun) (expected : List ExpectedCounters) (o i : List ℕ) (fs0 fs : List (List ℕ)) (ks0 ks : List (Option ReturnedPart)) (number : Option ℕ) (x : ℕ)
    → IsMaster p runs in_runs expected o i fs0 ks0 number → x < 2 ^ 64 → length fs ≡ length p.parts → length ks ≡ length p.parts → ((k : ℕ) → k < length ks → get_or ks k None ≡ None)
    → ((k : ℕ) → k < length p.parts → IsFrame (get_or fs k []) (bare_payload (sent_datagrams p x k o))) → ((k : ℕ) → k < length p.parts → IsMade p k (get_or fs k []))
    → IsMaster p runs in_runs expected o i fs ks (Some x)
begun_master p runs in_runs expected o i fs0 fs ks0 ks number x m small count kept_count none spelled made = record {
  usable = m.usable;
  linked = m.linked;
  images = m.images;
  frame_count = count;
  kept_count = kept_count;
  made = made;
  under_way = λ n e. let same : x ≡ n = cc in subst (λ (y : ℕ). IsUnderWay p y fs ks) same (begun_way p x o fs ks small none spelled);
}

pub closed_master : (p : PlanState) (runs : List (List BitRun)) (in_runs : List InputRun) (expected : List ExpectedCounters) (o i j : List ℕ) (fs : List (List ℕ)) (ks : List (Option ReturnedPart)) (number : Option ℕ)
    → IsMaster p runs in_runs expected o i fs ks number → length j ≡ length i → IsMaster p runs in_runs expected o j fs ks None
closed_master p runs in_runs expected o i j fs ks number m size = record {
  usable = m.usable;
  linked = m.linked;
  images = record { outputs_size = m.images.outputs_size; inputs_size = size ∙ m.images.inputs_size; few_outputs = m.images.few_outputs; few_inputs = m.images.few_inputs };
  frame_count = m.frame_count;
  kept_count = m.kept_count;
  made = m.made;
  under_way = λ n e. absurd (let f : None ≡ Some n = e in cc);
}

-- ---- the report

map_units : (us : List ℕ) (f g : ℕ → Bool) → ((i : ℕ) → get_or us i 0 < 256) → ((u : ℕ) → u < 256 → f u ≡ g u) → map f us ≡ map g us
map_units [] f g small same = refl
map_units (u ∷ us) f g small same = ap (λ (b : Bool). b ∷ map f us) (same u (small 0)) ∙ ap (λ (bs : List Bool). g u ∷ bs) (map_units us f g (λ i. small (suc i)) same)

abbrev reported : List ℕ → List Bool → ℕ → List (Option ReturnedPart) → ReportState
reported us taken n ks = record { units = us; taken = taken; missing = n; counters = map (λ (o : Option ReturnedPart). option_map (λ (q : ReturnedPart). q.counters) o) ks; al_word = or_words ks }

pub report_is : (p : PlanState) (ks k1 k2 k3 : List (Option ReturnedPart)) (n : ℕ) (taken : List Bool) (us : List ℕ) (r : ReportState) → us ≡ p.units → k1 ≡ ks → k2 ≡ ks → k3 ≡ ks → n ≡ nones k3 → ((i : ℕ) → get_or us i 0 < 256)
    → ((u : ℕ) → u < 256 → get_or taken u false ≡ unit_taken p k1 u)
    → r ≡ record { units = us; taken = map (λ (u : ℕ). get_or taken u false) us; missing = n; counters = map (λ (o : Option ReturnedPart). option_map (λ (q : ReturnedPart). q.counters) o) k2; al_word = or_words k2 }
    → r ≡ report_of p ks
report_is p ks k1 k2 k3 n taken us r e a b d count small judged is =
    is ∙ (ap (λ (bs : List Bool). reported us bs n k2) (map_units us (λ u. get_or taken u false) (unit_taken p ks) small (λ u l. judged u l ∙ ap (λ (z : List (Option ReturnedPart)). unit_taken p z u) a))
    ∙ (ap (λ (m : ℕ). reported us (map (unit_taken p ks) us) m k2) (count ∙ ap nones d)
    ∙ (ap (λ (z : List (Option ReturnedPart)). reported us (map (unit_taken p ks) us) (nones ks) z) b ∙ ap (λ (vs : List ℕ). reported vs (map (unit_taken p ks) vs) (nones ks) ks) e)))

pub all_on : (n u : ℕ) → u < n → get_or (replicate n true) u false ≡ true
all_on zero u l = absurd (omega arith)
all_on (suc n) zero l = refl
all_on (suc n) (suc u) l = all_on n u (omega arith)
