-- A world that is Ready: the world in which its start-up ended, and where its slaves' troubles come from.
use Rattle.ec_world.proofs.Words.{ℕ, zero, suc, ◌+◌, ◌≡◌, ◌⊎◌, ◌&&◌, Bool, true, false, refl, sym, ◌∙◌, ap, subst, inl, inr, List, [], ◌∷◌, ◌++◌, length, replicate, if◌then◌else◌, get_or-set_other, cases_Bool, cases_eq, both_ways, true≢false, if_true, if_false, PlanState, IsUsable, trouble_at, AreStartable, is_beginning, Event, StartNext, Fault, ResetSlave as Reset, WorldState, is_up, resumed, IsStep, IsRun, IsUnstopped, flags_after, flags_of, no_trouble, IsReadyWorld, Rising, HadTrouble, IsRunWithoutStart, begins_start, TroubleLaw, IsMade, append_assoc}
use Rattle.ec_world.proofs.StartUp.IsReadyWorld.{ready-world}
use Rattle.ec_world.proofs.Refinement.StepsRefine.{runs_join}
use Rattle.ec_world.proofs.StartUp.Course.{Course, IsLow, IsHigh, course}

-- ---- flags

pub none_flagged : (n i : ℕ) → trouble_at (replicate n false) i ≡ false
none_flagged zero i = refl
none_flagged (suc n) zero = refl
none_flagged (suc n) (suc i) = none_flagged n i

-- a flag after an event: it was there, and no start-up began; or the event is a fault or a reset
abbrev Flagged : Bool → WorldState → Event → List Bool → ℕ → Type 0
Flagged one w e flags i = ((trouble_at flags i ≡ true) × ((one && begins_start w e) ≡ false)) ⊎ (((e ≡ Fault i) ⊎ (e ≡ Reset i)) × (one ≡ true))

flagged : (w : WorldState) (e : Event) (flags : List Bool) (i : ℕ) → trouble_at (flags_after w e flags) i ≡ true → Flagged true w e flags i
flagged w StartNext flags i h = elim (cases_Bool (is_beginning (resumed w.start w.start.phase))) [
  | inl on ↦ absurd (true≢false (sym (sym (ap (λ fs. trouble_at fs i) (if_true _ _ _ on)) ∙ h) ∙ none_flagged (length (resumed w.start w.start.phase).plan) i))
  | inr off ↦ inl (sym (ap (λ fs. trouble_at fs i) (if_false _ _ _ off)) ∙ h, off)
]
flagged w (Fault s) flags i h = elim (cases_eq i s) [
  | inl same ↦ inr (inl (ap (λ (n : ℕ). Fault n) (sym same)), refl)
  | inr ne ↦ inl (sym (get_or-set_other flags s i true false ne) ∙ h, refl)
]
flagged w (Reset s) flags i h = elim (cases_eq i s) [
  | inl same ↦ inr (inr (ap (λ (n : ℕ). Reset n) (sym same)), refl)
  | inr ne ↦ inl (sym (get_or-set_other flags s i true false ne) ∙ h, refl)
]
flagged w _ flags i h = inl (h, refl)

flagged_by : (one : Bool) (w : WorldState) (e : Event) (flags : List Bool) (i : ℕ) → trouble_at (if one then flags_after w e flags else flags) i ≡ true → Flagged one w e flags i
flagged_by true w e flags i h = flagged w e flags i h
flagged_by false w e flags i h = inl (h, refl)

-- a flag at the end of a run
abbrev pub Origin : WorldState → List Event → WorldState → List Bool → ℕ → Type 0
Origin old es new flags i = ((trouble_at flags i ≡ true) × IsRunWithoutStart old es new) ⊎ HadTrouble old es new i

-- the first event of a run
abbrev pub made_first : (old : WorldState) (e : Event) (mid : WorldState) (es : List Event) (new : WorldState) (rest : ℕ) → IsStep old e mid true → IsRun mid es new rest → IsMade old (e ∷ es) new e
made_first old e mid es new rest step run = record { before = []; behind = es; split = refl; at = old; next = mid; first = 0; rest = rest; to_it = (refl, refl); step = step; onward = run }

-- events before the run
abbrev pub made_later : (old : WorldState) (done : List Event) (mid : WorldState) (count : ℕ) (events : List Event) (new : WorldState) (e : Event) (all : List Event) → all ≡ done ++ events → IsRun old done mid count → IsMade mid events new e → IsMade old all new e
made_later old done mid count events new e all is h b = record {
  before = done ++ b.before;
  behind = b.behind;
  split = is ∙ (ap (λ (xs : List Event). done ++ xs) b.split ∙ sym (append_assoc done b.before (e ∷ b.behind)));
  at = b.at;
  next = b.next;
  first = count + b.first;
  rest = b.rest;
  to_it = runs_join old done mid count b.before b.at b.first h b.to_it;
  step = b.step;
  onward = b.onward;
}

pub preceded : (done : List Event) (old mid : WorldState) (count : ℕ) (es : List Event) (new : WorldState) (i : ℕ) → IsRun old done mid count → HadTrouble mid es new i → HadTrouble old (done ++ es) new i
preceded done old mid count es new i h t = record { event = t.event; what = t.what; made = made_later old done mid count es new t.event (done ++ es) refl h t.made; since = t.since }

pub more : (old : WorldState) (e : Event) (mid : WorldState) (one : Bool) (es : List Event) (new : WorldState) (i : ℕ) → IsStep old e mid one → HadTrouble mid es new i → HadTrouble old (e ∷ es) new i
more old e mid one es new i step = preceded (e ∷ []) old mid _ es new i (mid, one, 0, step, (refl, refl), refl)

origin_more : (old : WorldState) (e : Event) (mid : WorldState) (one : Bool) (es : List Event) (new : WorldState) (rest : ℕ) (flags : List Bool) (i : ℕ) → IsStep old e mid one → IsRun mid es new rest
    → Origin mid es new (if one then flags_after old e flags else flags) i → Origin old (e ∷ es) new flags i
origin_more old e mid one es new rest flags i step run (inr h) = inr (more old e mid one es new i step h)
origin_more old e mid one es new rest flags i step run (inl h) = elim (flagged_by one old e flags i h.0) [
  | inl was ↦ inl (was.0, (mid, one, step, was.1, h.1))
  | inr now ↦ inr (record { event = e; what = now.0; made = made_first old e mid es new rest (subst (IsStep old e mid) now.1 step) run; since = h.1 })
]

-- ---- flags over a run

pub flags_come : (es : List Event) (old new : WorldState) (made : ℕ) (run : IsRun old es new made) (flags : List Bool) (i : ℕ) → trouble_at (flags_of old es new made run flags) i ≡ true → Origin old es new flags i
flags_come [] old new made run flags i t = inl (t, run.0)
flags_come (e ∷ es) old new made run flags i t =
    origin_more old e run.0 run.1 es new run.2 flags i run.3 run.4 (flags_come es run.0 new run.2 run.4 (if run.1 then flags_after old e flags else flags) i t)

-- a run without a start, behind one
joined : (xs ys : List Event) (a b c : WorldState) → IsRunWithoutStart a xs b → IsRunWithoutStart b ys c → IsRunWithoutStart a (xs ++ ys) c
joined [] ys a b c h g = subst (λ (w : WorldState). IsRunWithoutStart w ys c) h g
joined (x ∷ xs) ys a b c h g = (h.0, h.1, h.2, h.3, joined xs ys h.0 b c h.4 g)

pub extended : (old : WorldState) (done : List Event) (mid : WorldState) (es : List Event) (new : WorldState) (made i : ℕ) → IsRun mid es new made → IsRunWithoutStart mid es new → HadTrouble old done mid i → HadTrouble old (done ++ es) new i
extended old done mid es new made i run without h = record {
  event = h.event;
  what = h.what;
  made = record {
    before = h.made.before;
    behind = h.made.behind ++ es;
    split = ap (λ (xs : List Event). xs ++ es) h.made.split ∙ append_assoc h.made.before (h.event ∷ h.made.behind) es;
    at = h.made.at;
    next = h.made.next;
    first = h.made.first;
    rest = h.made.rest + made;
    to_it = h.made.to_it;
    step = h.made.step;
    onward = runs_join h.made.next h.made.behind mid h.made.rest es new made h.made.onward run;
  };
  since = joined h.made.behind es h.made.next mid new h.since without;
}

-- ---- the world in which the start-up ended

pub record Started (old : WorldState) (es : List Event) (new : WorldState) (flags : List Bool) : Type 0 where
  pub before : List Event
  pub after : List Event
  pub split : es ≡ before ++ after
  pub ready : WorldState
  pub first : ℕ
  pub rest : ℕ
  pub to_ready : IsRun old before ready first
  pub onward : IsRun ready after new rest
  pub unstopped : IsUnstopped ready new
  pub plan_is : ready.plan ≡ old.plan
  pub flags_then : List Bool
  pub is_ready : IsReadyWorld flags_then ready
  pub origin : (i : ℕ) → trouble_at flags_then i ≡ true → Origin old before ready flags i

-- a flag behind one event more
origin_behind : (old : WorldState) (before : List Event) (mid : WorldState) (first : ℕ) (to_mid : IsRun old before mid first) (e : Event) (ready : WorldState) (flags : List Bool) (i : ℕ) → IsStep mid e ready true
    → trouble_at (flags_after mid e (flags_of old before mid first to_mid flags)) i ≡ true → Origin old (before ++ (e ∷ [])) ready flags i
origin_behind old before mid first to_mid e ready flags i step t = elim (flagged mid e (flags_of old before mid first to_mid flags) i t) [
  | inr now ↦ inr (record {
    event = e;
    what = now.0;
    made = record { before = before; behind = []; split = refl; at = mid; next = ready; first = first; rest = 0; to_it = to_mid; step = step; onward = (refl, refl) };
    since = refl;
  })
  | inl was ↦
      let last : IsRunWithoutStart mid (e ∷ []) ready = (ready, true, step, was.1, refl) in
      elim (flags_come before old mid first to_mid flags i was.0) as (λ _. Origin old (before ++ (e ∷ [])) ready flags i) [
        | inl none ↦ inl (none.0, joined before (e ∷ []) old mid ready none.1 last)
        | inr had ↦ inr (extended old before mid (e ∷ []) ready 1 i (ready, true, 0, step, (refl, refl), refl) last had)
      ]
]

pub started : (es : List Event) (old new : WorldState) (made : ℕ) (flags : List Bool) → IsUsable old.plan → AreStartable old.plan.slaves → Rising flags old → is_up old.start ≡ false → IsRun old es new made
    → is_up new.start ≡ true → Started old es new flags
started es old new made flags sound planned r low h up = by (course es old new made flags sound planned r low h)
  where
    by : Course old es new made flags → Started old es new flags
    by (IsLow off now rises) = absurd (both_ways _ off up)
    by (IsHigh x) =
        let usable : IsUsable x.ready.plan = subst IsUsable (sym x.plan_is) sound in
        let startable : AreStartable x.ready.plan.slaves = subst (λ (p : PlanState). AreStartable p.slaves) (sym x.plan_is) planned in
        record {
          before = x.before ++ (x.event ∷ []);
          after = x.after;
          split = x.split ∙ sym (append_assoc x.before (x.event ∷ []) x.after);
          ready = x.ready;
          first = x.first + 1;
          rest = x.rest;
          to_ready = runs_join old x.before x.mid x.first (x.event ∷ []) x.ready 1 x.to_mid (x.ready, true, 0, x.step, (refl, refl), refl);
          onward = x.onward;
          unstopped = x.unstopped;
          plan_is = x.plan_is;
          flags_then = flags_after x.mid x.event (flags_of old x.before x.mid x.first x.to_mid flags);
          is_ready = ready-world _ x.ready usable startable x.rises x.up;
          origin = λ i t. origin_behind old x.before x.mid x.first x.to_mid x.event x.ready flags i x.step t;
        }

pub trouble_law : TroubleLaw
trouble_law t ids old events w made n run s flag = elim (flags_come events old w made run (no_trouble old) s flag) [
  | inr h ↦ h
  | inl h ↦ absurd (true≢false (sym h.0 ∙ none_flagged (length old.plan.slaves) s))
]
