-- The laws.
use Rattle.std.proofs.Common.{◌≡◌, ℕ, zero, suc, ◌+◌, ◌<◌, ◌==◌, List, [], ◌∷◌, ◌++◌, Bool, true, false, Option, Some, None, refl, sym, ◌∙◌, subst, arith, append_assoc, append-nil, length, drop, slice_get, map, if◌then◌else◌}
use Rattle.std.proofs.Common.{inl, inr}
use Rattle.std.specs.List.{flat_map}
use Rattle.std.proofs.lemmas.Bool.{cases_Bool, ne_eqb, eq-eqb, eqb-false}
use Rattle.ec_device.specs.declared.parameter.Parameter.{Parameter}
use Rattle.ec_device.specs.declared.slave_type.Entry.{Entry}
use Rattle.ec_device.specs.declared.slave_type.Pdo.{Pdo}
use Rattle.ec_device.specs.Hardware.{is_fixed}
use Rattle.ec_device.specs.Objects.{pdo_at}
use Rattle.ec_link.specs.declared.settings.SlavePlan.{SlavePlan}
use Rattle.ec_coe.specs.Objects.{output_assignment, input_assignment, has_some}
use Rattle.ec_start.specs.declared.action.SdoRequest.{SdoRequest}
use Rattle.ec_start.specs.declared.verdict.Verdict.{Verdict}
use Rattle.ec_start.specs.declared.verdict.Verdict.TheVariants.{Next, Word, Fed, Again, Aside, Fails}
use Rattle.ec_start.specs.declared.phase.Phase.{Phase}
use Rattle.ec_start.specs.declared.phase.Phase.TheVariants.{Idle, Sent, Ready, Failed}
use Rattle.ec_start.specs.declared.phase.NextFrame.TheVariants.{Ended}
use Rattle.ec_start.specs.declared.error.StartError.TheVariants.{TooSlow, NumbersSpent}
use Rattle.ec_start.specs.Scripts.{downloads as download_of, parameter_value, parameters_written, entries_read, pdo_read, slots_written, count_written, assignment_written, slots_read, assignment_read, assignment_of, pdo_requests}
use Rattle.ec_frame.specs.Datagram.{Datagram}
use Rattle.ec_start.specs.Verdicts.{verdict}
use Rattle.ec_start.specs.Running.{StartState, Shape, shape, second, action_of, type_of, taken, begun, is_ended, asked_by, next_frame_by, given_up_by, polled, judged, max_polls, last_number, sending, IsStartTaken}
use Rattle.ec_start.specs.Seeking.{mappings_of}
use Rattle.ec_start.specs.Laws.{IsScriptOfThree, AreUploads, AreDownloads, IsUploadsFirst, UploadsComeFirst, MappingsAreReadBehindParameters, FixedIsOnlyRead, CountersRunToSeven, EndedStays, HasSamePlan, TakenKeepsThePlan, PlansStay, PollsEnd, ForeignChangesNothing, FramesAreAnswered}

pub script_of_three : IsScriptOfThree
script_of_three = record { steps = refl; ninth = refl; tenth = refl }

-- ---- uploads, then downloads

both_uploads : (xs ys : List SdoRequest) → AreUploads xs → AreUploads ys → AreUploads (xs ++ ys)
both_uploads [] ys a b = b
both_uploads (x ∷ xs) ys a b = (a.0, both_uploads xs ys a.1 b)

both_downloads : (xs ys : List SdoRequest) → AreDownloads xs → AreDownloads ys → AreDownloads (xs ++ ys)
both_downloads [] ys a b = b
both_downloads (x ∷ xs) ys a b = (a.0, both_downloads xs ys a.1 b)

entries_up : (index k : ℕ) (es : List Entry) → AreUploads (entries_read index k es)
entries_up index k [] = tt
entries_up index k (e ∷ es) = (refl, entries_up index (k + 1) es)

pdo_up : (o : Option Pdo) → AreUploads (pdo_read o)
pdo_up None = tt
pdo_up (Some p) = (refl, entries_up p.index 1 p.entries)

pdos_up : (ps : List Pdo) (xs : List ℕ) → AreUploads (flat_map (λ index. pdo_read (pdo_at ps index)) xs)
pdos_up ps [] = tt
pdos_up ps (x ∷ xs) = both_uploads (pdo_read (pdo_at ps x)) (flat_map (λ index. pdo_read (pdo_at ps index)) xs) (pdo_up (pdo_at ps x)) (pdos_up ps xs)

slots_down : (object k : ℕ) (xs : List ℕ) → AreDownloads (slots_written object k xs)
slots_down object k [] = tt
slots_down object k (x ∷ xs) = (refl, slots_down object (k + 1) xs)

count_down : (object : ℕ) (xs : List ℕ) → AreDownloads (count_written object xs)
count_down object [] = tt
count_down object (x ∷ xs) = both_downloads (slots_written object 1 (x ∷ xs)) _ (slots_down object 1 (x ∷ xs)) (refl, tt)

assignment_down : (object : ℕ) (xs : List ℕ) (b : Bool) → AreDownloads (assignment_written object xs b)
assignment_down object xs false = tt
assignment_down object xs true = (refl, count_down object xs)

slots_up : (object k : ℕ) (xs : List ℕ) → AreUploads (slots_read object k xs)
slots_up object k [] = tt
slots_up object k (x ∷ xs) = (refl, slots_up object (k + 1) xs)

assignment_up : (object : ℕ) (xs : List ℕ) (b : Bool) → AreUploads (assignment_read object xs b)
assignment_up object xs false = tt
assignment_up object xs true = (refl, slots_up object 1 xs)

mappings_up : (p : SlavePlan) → AreUploads (mappings_of p)
mappings_up p =
    both_uploads (flat_map (λ index. pdo_read (pdo_at p.kind.outputs index)) p.outputs) (flat_map (λ index. pdo_read (pdo_at p.kind.inputs index)) p.inputs) (pdos_up p.kind.outputs p.outputs) (pdos_up p.kind.inputs p.inputs)

-- both assignments, written or read
abbrev both_assigned : SlavePlan → Bool → List SdoRequest
both_assigned p fixed = assignment_of fixed output_assignment p.outputs (has_some p.kind.outputs) ++ assignment_of fixed input_assignment p.inputs (has_some p.kind.inputs)

written_down : (p : SlavePlan) → AreDownloads (both_assigned p false)
written_down p =
    both_downloads (assignment_written output_assignment p.outputs (has_some p.kind.outputs)) (assignment_written input_assignment p.inputs (has_some p.kind.inputs))
    (assignment_down output_assignment p.outputs (has_some p.kind.outputs)) (assignment_down input_assignment p.inputs (has_some p.kind.inputs))

read_up : (p : SlavePlan) → AreUploads (both_assigned p true)
read_up p =
    both_uploads (assignment_read output_assignment p.outputs (has_some p.kind.outputs)) (assignment_read input_assignment p.inputs (has_some p.kind.inputs))
    (assignment_up output_assignment p.outputs (has_some p.kind.outputs)) (assignment_up input_assignment p.inputs (has_some p.kind.inputs))

whole : (p : SlavePlan) (fixed : Bool) → mappings_of p ++ both_assigned p fixed
    ≡ flat_map (λ index. pdo_read (pdo_at p.kind.outputs index)) p.outputs ++ (flat_map (λ index. pdo_read (pdo_at p.kind.inputs index)) p.inputs ++ both_assigned p fixed)
whole p fixed = append_assoc (flat_map (λ index. pdo_read (pdo_at p.kind.outputs index)) p.outputs) (flat_map (λ index. pdo_read (pdo_at p.kind.inputs index)) p.inputs) (both_assigned p fixed)

first_by : (p : SlavePlan) (fixed : Bool) → is_fixed p.kind.hardware ≡ fixed → IsUploadsFirst (pdo_requests p)
first_by p false e =
    rw e (record { first = mappings_of p; then_downloads = both_assigned p false; all = sym (whole p false); uploads = mappings_up p; downloads = written_down p })
first_by p true e =
    rw e (record {
      first = mappings_of p ++ both_assigned p true;
      then_downloads = [];
      all = sym (append-nil (mappings_of p ++ both_assigned p true) ∙ whole p true);
      uploads = both_uploads (mappings_of p) (both_assigned p true) (mappings_up p) (read_up p);
      downloads = tt;
    })

pub uploads_come_first : UploadsComeFirst
uploads_come_first p none = rw none (first_by p (is_fixed p.kind.hardware) refl)

written_at : (qs : List Parameter) (rest : List SdoRequest) (k : ℕ) (q : Parameter) → slice_get qs k ≡ Some q
    → slice_get (parameters_written qs ++ rest) k ≡ Some (download_of q.index q.subindex (parameter_value q))
written_at [] rest k q e = absurd (let f : None ≡ Some q = e in cc)
written_at (x ∷ qs) rest zero q e = let f : Some x ≡ Some q = e in let g : x ≡ q = cc in rw (sym g) refl
written_at (x ∷ qs) rest (suc k) q e = written_at qs rest k q e

behind_written : (qs : List Parameter) (rest : List SdoRequest) → drop (length qs) (parameters_written qs ++ rest) ≡ rest
behind_written [] rest = refl
behind_written (q ∷ qs) rest = behind_written qs rest

pub mappings_are_read : MappingsAreReadBehindParameters
mappings_are_read p = record {
  written = written_at p.kind.init (pdo_requests p);
  behind = subst IsUploadsFirst (sym (behind_written p.kind.init (pdo_requests p))) (first_by p (is_fixed p.kind.hardware) refl);
}

only_read : (p : SlavePlan) → is_fixed p.kind.hardware ≡ true → AreUploads (pdo_requests p)
only_read p e = rw e (subst AreUploads (whole p true) (both_uploads (mappings_of p) (both_assigned p true) (mappings_up p) (read_up p)))

pub fixed_is_only_read : FixedIsOnlyRead
fixed_is_only_read p e = subst AreUploads (sym (behind_written p.kind.init (pdo_requests p))) (only_read p e)

-- ---- counters

pub counters_run_to_seven : CountersRunToSeven
counters_run_to_seven = record {
  begins = λ r. refl;
  rises = λ before r lt. omega (arith, lt);
  again = λ before r e. omega (arith, e);
  most = λ before r. omega arith;
}

-- ---- the end

ended_by : (s : StartState) (p : Phase) → s.phase ≡ p → is_ended p ≡ true → (next_frame_by s p ≡ Ended) × (asked_by s p ≡ s) × (given_up_by s p ≡ s)
ended_by s Idle is e = absurd (let f : false ≡ true = e in cc)
ended_by s (Sent number) is e = absurd (let f : false ≡ true = e in cc)
ended_by s Ready is e = (refl, refl, refl)
ended_by s (Failed error) is e = (refl, refl, refl)

no_frame : (p : Phase) (number : ℕ) → is_ended p ≡ true → p ≡ Sent number → ⊥
no_frame p number e is = let f : is_ended (Sent number) ≡ true = subst (λ (q : Phase). is_ended q ≡ true) is e in absurd (let g : false ≡ true = f in cc)

stays_taken : (s new : StartState) (payload : List ℕ) (b : Bool) → is_ended s.phase ≡ true → IsStartTaken s payload b new → new ≡ s
stays_taken s new payload true e h = let o = h.only refl in absurd (no_frame s.phase o.number e o.sent)
stays_taken s new payload false e h = h.foreign refl

pub ended_stays : EndedStays
ended_stays s e =
    let h = ended_by s s.phase refl e in
    record { next_is = h.0; next_leaves = h.1; give_up_leaves = h.2; take_leaves = λ payload b new t. stays_taken s new payload b e t }

-- ---- the plan

unchanged : (s : StartState) → HasSamePlan s s
unchanged s = record { plan = refl; feeds = refl }

asked_plan : (s : StartState) (p : Phase) → HasSamePlan s (asked_by s p)
asked_plan s Idle = go (s.next == last_number)
  where
    go : (b : Bool) → HasSamePlan s (if b then record s { phase = Failed NumbersSpent } else sending s)
    go true = record { plan = refl; feeds = refl }
    go false = record { plan = refl; feeds = refl }
asked_plan s (Sent number) = unchanged s
asked_plan s Ready = unchanged s
asked_plan s (Failed error) = unchanged s

given_up_plan : (s : StartState) (p : Phase) → HasSamePlan s (given_up_by s p)
given_up_plan s Idle = record { plan = refl; feeds = refl }
given_up_plan s (Sent number) = record { plan = refl; feeds = refl }
given_up_plan s Ready = unchanged s
given_up_plan s (Failed error) = unchanged s

begun_plan : (s : StartState) (number : ℕ) → HasSamePlan s (begun s.plan s.feeds number)
unfolding begun
begun_plan s number = record { plan = refl; feeds = refl }

polled_plan : (s : StartState) → HasSamePlan s (polled s)
polled_plan s = go (s.polls + 1 == max_polls)
  where
    go : (b : Bool) → HasSamePlan s (if b then record s { phase = Failed (TooSlow s.place) } else record s { fed = 0; polls = s.polls + 1; phase = Idle })
    go true = record { plan = refl; feeds = refl }
    go false = record { plan = refl; feeds = refl }

judged_plan : (s : StartState) (v : Verdict) → HasSamePlan s (judged s v)
judged_plan s Next = record { plan = refl; feeds = refl }
judged_plan s (Word value) = record { plan = refl; feeds = refl }
judged_plan s Fed = record { plan = refl; feeds = refl }
judged_plan s (Fails error) = record { plan = refl; feeds = refl }
judged_plan s Again = polled_plan s
judged_plan s (Aside heard) = let h = polled_plan (record s { heard = Some heard }) in record { plan = h.plan; feeds = h.feeds }

pub taken_same : TakenKeepsThePlan
taken_same s d = judged_plan s (verdict (length s.plan) s.place s.seen (type_of s.plan) (action_of s) d)

pub taken_plan : (s : StartState) (d : Datagram) → (taken s d).plan ≡ s.plan
taken_plan s d = (taken_same s d).plan

pub taken_feeds : (s : StartState) (d : Datagram) → (taken s d).feeds ≡ s.feeds
taken_feeds s d = (taken_same s d).feeds

second_there : (ds : List Datagram) (x y : Shape) → map shape ds ≡ x ∷ y ∷ [] → (d : Datagram) × (second ds ≡ Some d)
second_there [] x y e = absurd cc
second_there (d ∷ []) x y e = absurd cc
second_there (d ∷ b ∷ ds) x y e = (b, refl)

take_plan : (s new : StartState) (payload : List ℕ) (b : Bool) → IsStartTaken s payload b new → HasSamePlan s new
take_plan s new payload true h =
    let o = h.only refl in
    let d = second_there o.frame.datagrams _ _ o.answer.shapes in
    subst (HasSamePlan s) (sym (h.kept o.frame d.0 refl o.spelled d.1)) (taken_same s d.0)
take_plan s new payload false h = subst (HasSamePlan s) (sym (h.foreign refl)) (unchanged s)

pub plans_stay : PlansStay
plans_stay s = record {
  next_keeps = asked_plan s s.phase;
  take_keeps = λ payload b new h. take_plan s new payload b h;
  give_up_keeps = given_up_plan s s.phase;
  restart_keeps = begun_plan s s.next;
}

-- ---- polls

few_polled : (s : StartState) → s.polls < max_polls → (polled s).polls < max_polls
few_polled s lt = elim (cases_Bool (s.polls + 1 == max_polls)) [
  | inl t ↦ rw t lt
  | inr f ↦ rw f (let ne = eqb-false (s.polls + 1) max_polls f in omega (arith, ne, lt))
]

few_polls : (s : StartState) (v : Verdict) → s.polls < max_polls → (judged s v).polls < max_polls
few_polls s Next lt = omega arith
few_polls s (Word value) lt = omega arith
few_polls s Fed lt = lt
few_polls s (Fails error) lt = lt
few_polls s Again lt = few_polled s lt
few_polls s (Aside heard) lt = few_polled (record s { heard = Some heard }) lt

last_poll : (s : StartState) → s.polls + 1 ≡ max_polls → (judged s Again).phase ≡ Failed (TooSlow s.place)
last_poll s e = let t : (s.polls + 1 == max_polls) ≡ true = eq-eqb (s.polls + 1) max_polls e in rw t refl

more_polls : (s : StartState) → s.polls + 1 < max_polls → (judged s Again).polls ≡ s.polls + 1
more_polls s lt = let f : (s.polls + 1 == max_polls) ≡ false = ne_eqb (s.polls + 1) max_polls (λ e. omega (arith, e, lt)) in rw f refl

pub polls_end : PollsEnd
polls_end = record { few = few_polls; last = last_poll; more = more_polls }

pub foreign_changes_nothing : ForeignChangesNothing
foreign_changes_nothing s new payload h = h.foreign refl

pub frames_are_answered : FramesAreAnswered
frames_are_answered s = record { shapes = refl; number_is = refl }
