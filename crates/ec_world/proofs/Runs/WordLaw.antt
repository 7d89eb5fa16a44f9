-- What the frames of a cycle hear of the slaves' AL status, over a world's run; and the AL word of a report.
use Rattle.ec_world.proofs.Words.{IsUnstopped, ℕ, zero, suc, ◌+◌, ◌*◌, ◌^◌, ◌<◌, ◌≡◌, ◌⊎◌, ◌==◌, ◌&&◌, not, Bool, true, false, Option, Some, None, refl, sym, ◌∙◌, ap, subst, inl, inr, arith, List, [], ◌∷◌, ◌++◌, length, map, get_or, set, is_some, option_map, nat_lt, slice_get, slice_index, bit_or, fold, cases_lt, and_parts, eqb-true, false≢true, append_assoc, length_push, length-map, list_get_or-map as get_or-map, fold-append, get_or-append_seam, get_or-append, Identity, Payload, IsFrame, bare_payload, one_payload, Contents, ExpectedCounters, Meaning, meaning, PlanState, part_at, IsUsable, plan_sound, last_number, ReturnedPart, nones, returned_part_of, bytes_at, joined, word_of_returned, report_of, sent_datagrams, MasterState, OpenCycle, IsAnswer, IsTaken, Event, StartNext, Begin, Pass, Lose, Return, Close, AppPut, AppGet, Plain, Cycle, run, may_return, WorldState, Flight, slave_of, flight_at, flight_progress, flights_progress, flights_from, awaits, is_up, can_start, ByStart, StartReturns, Returns, GivesUp, Closes, Passes, Begins, IsStep, Refines, CyclesRefine, IsRun, IsNew, plain_of, HeadlineIsBegun as IsBegun, HeadlineHasPassed as HasPassed, said_by, IsHeard, AreHeard, PartSays, IsNotBack, IsBack, WordShows, WordLaw, OpWordLaw, flight_pairs, none_some, some_same, none_in}
use Rattle.ec_world.proofs.Runs.TroubleLaw.{made_later}
use Rattle.ec_world.proofs.Refinement.AlWord.{FrameBrings, frame_word}
use Rattle.ec_world.proofs.Refinement.Return.{answer_tells}
use Rattle.ec_world.proofs.Refinement.IsStep.{next-there}
use Rattle.ec_world.proofs.Runs.SnapshotsLaw.{AreBelow, filled_has, set_has, set_at, begun_below}
use Rattle.ec_world.proofs.Refinement.MasterEvents.{OpenBoth, open_both}
use Rattle.ec_world.proofs.Runs.BeganAt.{BeganAt, are_begun, begun_of}
use Rattle.ec_world.proofs.Refinement.StepsRefine.{steps_refine, run_more}
use Rattle.ec_world.proofs.Runs.Unstopped.{still_next}
use Rattle.ec_world.proofs.Headline.LinkedBits.{MadeAt, made_at, Sees, sees, free_slots}

-- ---- frames as a cycle begins

-- frame i of the list
record IsOne (number : ℕ) (bs : List (List ℕ)) (k i : ℕ) (f : Flight) : Type 0 where
  number_is : f.number ≡ number
  passed : f.passed ≡ 0
  bytes : f.bytes ≡ get_or bs i []
  inside : i < length bs

one_of : (number k : ℕ) (bs : List (List ℕ)) (i : ℕ) (f : Flight) → slice_get (flights_from number k bs) i ≡ Some f → IsOne number bs k i f
one_of number k [] i f e = absurd (none_some f e)
one_of number k (b ∷ bs) zero f e = subst (λ (x : Flight). IsOne number (b ∷ bs) k 0 x) (some_same _ f e) (record { number_is = refl; passed = refl; bytes = refl; inside = omega arith })
one_of number k (b ∷ bs) (suc i) f e =
    let r = one_of number (k + 1) bs i f e in
    record { number_is = r.number_is; passed = r.passed; bytes = r.bytes; inside = (let l = r.inside in omega (arith, l)) }

-- ---- what is heard

module _ (base : WorldState) (all : List Event) (last : WorldState) (number : ℕ) where
  -- a frame of part k that has passed so many slaves brings what it heard of them
  pub record Carrying (k passed : ℕ) (bytes : List ℕ) : Type 0 where
    pub words : List ℕ
    pub count : length words ≡ passed
    pub heard : AreHeard base all last number k words
    pub brings : FrameBrings bytes (joined words)

  -- a word is what the frame of part k heard of all slaves
  pub record SaidAll (n k word : ℕ) : Type 0 where
    pub words : List ℕ
    pub count : length words ≡ n
    pub heard : AreHeard base all last number k words
    pub is : word ≡ joined words

  abbrev pub Carries : Flight → Type 0
  Carries f = f.number ≡ number → Carrying f.part f.passed f.bytes

  pub record Hearing (n : ℕ) (w : WorldState) : Type 0 where
    pub past : number < w.master.next
    pub frames : (j : ℕ) (f : Flight) → flight_at w j ≡ Some f → Carries f
    pub kept : (c : OpenCycle) → w.master.cycle ≡ Some c → c.number ≡ number → (k : ℕ) (q : ReturnedPart) → get_or c.kept k None ≡ Some q → SaidAll n k q.al_word

  heard_more : (k : ℕ) (words : List ℕ) (x : ℕ) → AreHeard base all last number k words → IsHeard base all last number k (length words) x → AreHeard base all last number k (words ++ (x ∷ []))
  heard_more k words x h one s l = elim (cases_lt s (length words)) [
    | inl few ↦ subst (λ (y : ℕ). IsHeard base all last number k s y) (sym (get_or-append words (x ∷ []) 0 s few)) (h s few)
    | inr many ↦ (
        let here : length words ≡ s = let z = length_push words x in omega (arith, l, many, z) in
        subst (λ (i : ℕ). IsHeard base all last number k i (get_or (words ++ (x ∷ [])) i 0)) here
        (subst (λ (y : ℕ). IsHeard base all last number k (length words) y) (sym (get_or-append_seam words x [] 0)) one))
  ]

  -- where a frame is gone
  emptied : (n : ℕ) (w : WorldState) (k : ℕ) → Hearing n w → (j : ℕ) (f : Flight) → get_or (set w.slots k None) j None ≡ Some f → Carries f
  emptied n w k h = set_has Carries w.slots k None (λ x no. absurd (none_some x no)) h.frames

  -- ---- a cycle begins

  begun_other : (n : ℕ) (w v : WorldState) → Begins w v → Hearing n w → Hearing n v
  begun_other n w v b h =
      let next : v.master.next ≡ w.master.next + 1 = ap (λ (m : MasterState). m.next) b.master.is in
      let past = h.past in
      record {
        past = omega (arith, past, next);
        frames = λ j f at. filled_has Carries (flights_from w.master.next 0 b.cycle.frames) w.slots
            (λ i g there own. absurd (let x = (one_of w.master.next 0 b.cycle.frames i g there).number_is in omega (arith, x, past, own)))
            h.frames j f (ap (λ (x : WorldState). get_or x.slots j None) (sym b.is) ∙ at);
        kept = λ c at own k q there. absurd (
            let same : b.cycle ≡ c = some_same b.cycle c (sym (ap (λ (m : MasterState). m.cycle) b.master.is) ∙ at) in
            let x = ap (λ (y : OpenCycle). y.number) same in let z = b.master.number in omega (arith, x, z, past, own));
      }

  begun_own : (n : ℕ) (w v : WorldState) (p : Plain) → Begins w v → w.master.next ≡ number → Refines w p → AreBelow p → Hearing n v
  begun_own n w v p b own s below =
      let next : v.master.next ≡ w.master.next + 1 = ap (λ (m : MasterState). m.next) b.master.is in
      record {
        past = omega (arith, own, next);
        frames = λ j f at. filled_has Carries (flights_from w.master.next 0 b.cycle.frames) w.slots
            (λ i g there mine. fresh i g (one_of w.master.next 0 b.cycle.frames i g there))
            (λ i g there mine. absurd (
            let both = flight_pairs w.slots p.slots i g s.progress there in
            let x = below i both.frame both.there in
            omega (arith, x, both.number, s.next, own, mine)))
            j f (ap (λ (x : WorldState). get_or x.slots j None) (sym b.is) ∙ at);
        kept = λ c at mine k q there. absurd (
            let same : b.cycle ≡ c = some_same b.cycle c (sym (ap (λ (m : MasterState). m.cycle) b.master.is) ∙ at) in
            none_in w.master.plan.parts k q (ap (λ ks. get_or ks k None) (sym b.master.kept) ∙ (ap (λ (y : OpenCycle). get_or y.kept k None) same ∙ there)));
      }
    where
      fresh : (i : ℕ) (g : Flight) → IsOne w.master.next b.cycle.frames 0 i g → Carrying g.part g.passed g.bytes
      fresh i g o = record {
        words = [];
        count = sym o.passed;
        heard = λ s l. absurd (omega (arith, l));
        brings = λ y e.
            let inside : i < length w.master.plan.parts = let x = o.inside in let z = b.master.count in omega (arith, x, z) in
            let sent : Payload = bare_payload (sent_datagrams w.master.plan w.master.next i w.master.outputs) in
            let spelled : IsFrame g.bytes sent = subst (λ (xs : List ℕ). IsFrame xs sent) (sym o.bytes) (b.master.frames i inside) in
            ap (λ (z : Payload). bytes_at z.datagrams 1) (one_payload g.bytes y sent e spelled);
      }

  -- ---- a frame passes a slave

  passed : (n : ℕ) (w : WorldState) (k : ℕ) (v : WorldState) (p : Plain) (before behind : List Event) (first rest : ℕ) → all ≡ before ++ (Pass k ∷ behind) → IsRun base before w first → IsStep w (Pass k) v true → IsRun v behind last rest
      → IsUsable w.plan → Refines w p → Hearing n w → Hearing n v
  passed n w k v p before behind first rest split to does on sound s h =
      subst (Hearing n) (sym pass.is) (assumption (h, set_has Carries w.slots k (Some moved) (λ y same. subst Carries (some_same moved y same) carried) h.frames))
    where
      pass : Passes w k v
      pass = does.happens refl

      x : Flight
      x = pass.flight

      moved : Flight
      moved = record x { bytes = pass.bytes; passed = x.passed + 1 }

      there : x.passed < length w.slaves
      there = next-there (length w.slaves) (flights_progress w.slots) (flight_at w k) x pass.there (sym does.can)

      carried : Carries moved
      carried own =
          let c = h.frames k x pass.there own in
          let said = said_by w x.passed in
          let both = flight_pairs w.slots p.slots k x s.progress pass.there in
          let few : length both.frame.notes < 64 = let a = both.passed in let b = s.count in let d = sound.few_slaves in let l = there in omega (arith, a, b, d, l) in
          record {
            words = c.words ++ (said ∷ []);
            count = length_push c.words said ∙ ap (λ (i : ℕ). i + 1) c.count;
            heard = heard_more x.part c.words said c.heard (subst (λ (i : ℕ). IsHeard base all last number x.part i said) (sym c.count) (record {
              pass = record {
                slot = k;
                event = record { before = before; behind = behind; split = split; at = w; next = v; first = first; rest = rest; to_it = to; step = does; onward = on };
                frame = ap (option_map flight_progress) pass.there ∙ ap (λ (i : ℕ). Some (record { number = i; part = x.part; passed = x.passed })) own;
              };
              word_is = refl;
            }));
            brings = subst (λ (i : ℕ). FrameBrings pass.bytes i) (sym (fold-append bit_or 0 c.words (said ∷ [])))
                (frame_word w.plan both.frame (slave_of w x.passed) x.bytes pass.bytes few (s.frames k x both.frame pass.there both.there) pass.passed.frame (joined c.words) c.brings);
          }

  -- ---- a frame comes back

  returned : (n : ℕ) (w : WorldState) (k : ℕ) (v : WorldState) (p : Plain) → may_return (length w.slaves) (option_map flight_progress (flight_at w k)) ≡ true → Returns w k v
      → IsUsable w.plan → length w.plan.slaves ≡ n → Refines w p → Hearing n w → Hearing n v
  returned n w k v p may r sound many s h = record {
    past = let a = h.past in let b = next r.is_accepted r.master in omega (arith, a, b);
    frames = λ j f at. emptied n w k h j f (ap (λ (y : WorldState). get_or y.slots j None) (sym r.is) ∙ at);
    kept = kept r.is_accepted r.master;
  }
    where
      x : Flight
      x = r.flight

      foreign : IsTaken w.master x.bytes false v.master → v.master ≡ w.master
      foreign t = (t.foreign (λ c i q a. false≢true (t.kept c i q a).0)).1

      next : (b : Bool) → IsTaken w.master x.bytes b v.master → v.master.next ≡ w.master.next
      next true t = let a = t.only refl in ap (λ (m : MasterState). m.next) (t.kept a.cycle a.part a.frame a.answer).1
      next false t = ap (λ (m : MasterState). m.next) (foreign t)

      passed_all : x.passed ≡ n
      passed_all = eqb-true x.passed (length w.slaves) (sym (ap (λ o. may_return (length w.slaves) (option_map flight_progress o)) r.there) ∙ may) ∙ (s.count ∙ many)

      -- what is kept of an answer
      answer : (t : IsTaken w.master x.bytes true v.master) (c : OpenCycle) (i : ℕ) (y : Payload) → IsAnswer w.master c x.bytes i y → c.number ≡ number → SaidAll n i (returned_part_of (part_at w.master.plan.parts i) y.datagrams).al_word
      answer t c i y a own =
          let both = flight_pairs w.slots p.slots k x s.progress r.there in
          let f = both.frame in
          let around : length f.notes ≡ length w.plan.slaves = let z = passed_all in let u = both.passed in omega (arith, z, u, many) in
          let cycles = open_both w.plan c p.cycle (subst (λ (o : Option OpenCycle). CyclesRefine w.plan o p.cycle) a.is_open s.cycle) in
          let fits : c.number < 2 ^ 64 = let z = cycles.shows.number in let u = cycles.shows.number_fits in omega (arith, z, u) in
          let tells = answer_tells w.plan w.master v.master f x.bytes true sound s.same_plan (s.frames k x f r.there both.there) around t c i y fits a in
          let d = h.frames k x r.there (both.number ∙ (tells.0 ∙ own)) in
          let brought : bytes_at y.datagrams 1 ≡ joined d.words ∷ 0 ∷ [] = d.brings y a.spelled in
          record {
            words = d.words;
            count = d.count ∙ passed_all;
            heard = subst (λ (z : ℕ). AreHeard base all last number z d.words) (both.part ∙ tells.1) d.heard;
            is = ap (λ (xs : List ℕ). slice_index xs 0 + 256 * slice_index xs 1) brought ∙ (let z : joined d.words + 256 * 0 ≡ joined d.words = omega arith in z);
          }

      kept : (b : Bool) → IsTaken w.master x.bytes b v.master → (c : OpenCycle) → v.master.cycle ≡ Some c → c.number ≡ number → (i : ℕ) (q : ReturnedPart) → get_or c.kept i None ≡ Some q → SaidAll n i q.al_word
      kept false t c at own i q there = h.kept c (sym (ap (λ (m : MasterState). m.cycle) (foreign t)) ∙ at) own i q there
      kept true t c at own i q there =
          let a = t.only refl in
          let part = returned_part_of (part_at w.master.plan.parts a.part) a.frame.datagrams in
          let now : OpenCycle = record a.cycle { kept = set a.cycle.kept a.part (Some part) } in
          let same : now ≡ c = some_same now c (sym (ap (λ (m : MasterState). m.cycle) (t.kept a.cycle a.part a.frame a.answer).1) ∙ at) in
          let mine : a.cycle.number ≡ number = ap (λ (y : OpenCycle). y.number) same ∙ own in
          set_at (λ (j : ℕ) (y : ReturnedPart). SaidAll n j y.al_word) a.cycle.kept a.part part (answer t a.cycle a.part a.frame a.answer mine) (h.kept a.cycle a.answer.is_open mine) i q
          (ap (λ (y : OpenCycle). get_or y.kept i None) same ∙ there)

  -- ---- any event

  up_starts : (w : WorldState) (p : Plain) → Refines w p → can_start w ≡ true → ⊥
  up_starts w p s can =
      let low = (and_parts (not (is_up w.start)) (not (awaits w.start) && ((nones w.slots == length w.slots) && nat_lt w.start.next last_number)) can).0 in
      false≢true (sym (ap not s.started) ∙ low)

  closed : (n : ℕ) (w v : WorldState) → Closes w v → Hearing n w → Hearing n v
  closed n w v x h = subst (Hearing n) (sym x.is) (record { past = h.past; frames = h.frames; kept = λ c at. absurd (none_some c at) })

  happened : (n : ℕ) (w : WorldState) (e : Event) (v : WorldState) (p : Plain) (before behind : List Event) (first rest : ℕ) → all ≡ before ++ (e ∷ behind) → IsRun base before w first → IsStep w e v true → IsRun v behind last rest
      → IsUsable w.plan → length w.plan.slaves ≡ n → Refines w p → Hearing n w → Hearing n v
  happened n w StartNext v p before behind first rest split to does on sound many s h = absurd (up_starts w p s (sym does.can))
  happened n w Begin v p before behind first rest split to does on sound many s h = begun_other n w v (does.happens refl) h
  happened n w (Pass k) v p before behind first rest split to does on sound many s h = passed n w k v p before behind first rest split to does on sound s h
  happened n w (Lose k) v p before behind first rest split to does on sound many s h =
      subst (Hearing n) (sym (does.happens refl)) (assumption (h, emptied n w k h))
  happened n w (Return k) v p before behind first rest split to does on sound many s h =
      returned n w k v p (sym does.can) (subst (λ (b : Bool). ByStart b (StartReturns w k v) (Returns w k v)) s.no_start (does.happens refl)) sound many s h
  happened n w Close v p before behind first rest split to does on sound many s h =
      closed n w v (subst (λ (b : Bool). ByStart b (GivesUp w v) (Closes w v)) s.no_start (does.happens refl)) h
  happened n w (AppPut i k x) v p before behind first rest split to does on sound many s h = subst (Hearing n) (sym (does.happens refl).is) (assumption h)
  happened n w (AppGet i k) v p before behind first rest split to does on sound many s h = subst (Hearing n) (sym (does.happens refl).is) (assumption h)
  happened n w _ v p before behind first rest split to does on sound many s h = subst (Hearing n) (sym (does.happens refl)) (assumption h)

  stepped : (n : ℕ) (w : WorldState) (e : Event) (v : WorldState) (one : Bool) (p : Plain) (before behind : List Event) (first rest : ℕ) → all ≡ before ++ (e ∷ behind) → IsRun base before w first → IsStep w e v one → IsRun v behind last rest
      → IsUsable w.plan → length w.plan.slaves ≡ n → Refines w p → Hearing n w → Hearing n v
  stepped n w e v true p before behind first rest split to does on sound many s h = happened n w e v p before behind first rest split to does on sound many s h
  stepped n w e v false p before behind first rest split to does on sound many s h = subst (Hearing n) (sym (does.refused refl)) h

  pub hears : (n : ℕ) (es : List Event) (before : List Event) (w : WorldState) (first rest : ℕ) (p : Plain) → all ≡ before ++ es → IsRun base before w first → IsRun w es last rest
      → IsUnstopped w last → IsUsable w.plan → length w.plan.slaves ≡ n → Refines w p → Hearing n w → Hearing n last
  hears n [] before w first rest p split to on still sound many s h = subst (Hearing n) (sym on.0) h
  hears n (e ∷ es) before w first rest p split to on still sound many s h =
      let v = on.0 in
      let here : IsUnstopped w v = still_next w e v on.1 es last on.2 s.started on.3 on.4 still in
      let one = steps_refine w e v on.1 sound on.3 in
      let same : v.plan ≡ w.plan = one.same_plan p s in
      hears n es (before ++ (e ∷ [])) v _ on.2 _ (split ∙ sym (append_assoc before (e ∷ []) es)) (run_more base before w first e v on.1 to on.3) on.4 (still ∙ sym here)
      (subst IsUsable (sym same) sound) (ap (λ (x : PlanState). length x.slaves) same ∙ many) (one.shown p s here)
      (stepped n w e v on.1 p before es first on.2 split to on.3 on.4 sound many s h)

-- ---- a report

-- what part k says, by what is kept of it
part_says : (t : Contents) (base : WorldState) (all : List Event) (last : WorldState) (number k n : ℕ) (o : Option ReturnedPart) → length t.slaves ≡ n → ((q : ReturnedPart) → o ≡ Some q → SaidAll base all last number n k q.al_word)
    → PartSays t base all last number k (option_map (λ (q : ReturnedPart). q.counters) o) (word_of_returned o)
part_says t base all last number k n None many h = IsNotBack refl refl
part_says t base all last number k n (Some q) many h = let x = h q refl in IsBack refl x.words (x.count ∙ sym many) x.heard x.is

-- ---- a close

module _ (t : Contents) (ids : List Identity) (old : WorldState) (events : List Event) (w : WorldState) (made : ℕ) (new : IsNew t ids old) (run_is : IsRun old events w made) (up : is_up w.start ≡ true) (v : WorldState) (does : IsStep w Close v true) where
  abbrev s : Sees t old events w
  s = sees t ids old events w made new run_is up

  abbrev M : Meaning
  M = meaning s.ready.plan

  abbrev start : Plain
  start = plain_of s.ready

  closes : Closes w v
  closes = subst (λ (b : Bool). ByStart b (GivesUp w v) (Closes w v)) s.shown.no_start (does.happens refl)

  abbrev c : OpenCycle
  c = closes.cycle

  both : OpenBoth w.plan c (run M start s.after).plain.cycle
  both = open_both w.plan c (run M start s.after).plain.cycle (subst (λ (o : Option OpenCycle). CyclesRefine w.plan o (run M start s.after).plain.cycle) closes.is_open s.shown.cycle)

  abbrev q : Cycle
  q = both.cycle

  b : BeganAt M start s.after q.number
  b = (are_begun M start s.after (free_slots s.ready.slots) refl).cycle q both.is

  mb : MadeAt M s.ready start s.after b.before Begin b.behind b.begun w
  mb = made_at s.ready start s.after w s.rest b.before Begin b.behind b.begun s.usable s.shows s.onward s.unstopped b.split b.begins

  abbrev begun : IsBegun old events w q.number
  begun = record {
    event = made_later old s.before s.ready s.first s.after w Begin events s.split s.to_ready mb.made;
    number_is = mb.at_shows.next ∙ b.number_is;
  }

  many : length mb.made.next.plan.slaves ≡ length t.slaves
  many = ap (λ (x : PlanState). length x.slaves) (mb.next_plan ∙ s.plan_is) ∙ (plan_sound t new.sound new.accepted).as_many

  first : Hearing mb.made.next mb.made.behind w q.number (length t.slaves) mb.made.next
  first = begun_own mb.made.next mb.made.behind w q.number (length t.slaves) mb.made.at mb.made.next (run M start b.before).plain (mb.made.step.happens refl) begun.number_is mb.at_shows
      (begun_below M (run M start b.before).plain b.begun (begun_of M start s.after q.number (free_slots s.ready.slots) b))

  heard : Hearing mb.made.next mb.made.behind w q.number (length t.slaves) w
  heard = hears mb.made.next mb.made.behind w q.number (length t.slaves) mb.made.behind [] mb.made.next 0 mb.made.rest b.begun refl (refl, refl) mb.made.onward (s.unstopped ∙ sym mb.next_start)
      (subst IsUsable (sym mb.next_plan) s.usable) many mb.next_shows first

  part : (k : ℕ) → k < length c.kept → PartSays t mb.made.next mb.made.behind w q.number k (get_or (report_of w.master.plan c.kept).counters k None) (get_or (map word_of_returned c.kept) k 0)
  part k l =
      let counters = get_or-map (λ (o : Option ReturnedPart). option_map (λ (x : ReturnedPart). x.counters) o) c.kept k None None l in
      let word = get_or-map word_of_returned c.kept k None 0 l in
      subst (λ o. PartSays t mb.made.next mb.made.behind w q.number k o (get_or (map word_of_returned c.kept) k 0)) (sym counters)
      (subst (λ (n : ℕ). PartSays t mb.made.next mb.made.behind w q.number k (option_map (λ (x : ReturnedPart). x.counters) (get_or c.kept k None)) n) (sym word)
      (part_says t mb.made.next mb.made.behind w q.number k (length t.slaves) (get_or c.kept k None) refl (λ x at. heard.kept c closes.is_open both.shows.number k x at)))

  pub word_shows : WordShows t old events w v
  word_shows = record {
    number = q.number;
    is_open = ap (option_map (λ (x : OpenCycle). x.number)) closes.is_open ∙ ap (λ (n : ℕ). Some n) both.shows.number;
    begun = begun;
    report = report_of w.master.plan c.kept;
    reported = ap (λ (x : WorldState). x.report) closes.is;
    counted = (
        length-map c.kept (λ (o : Option ReturnedPart). option_map (λ (x : ReturnedPart). x.counters) o)
        ∙ (both.shows.each_part ∙ ap (λ (x : PlanState). length x.parts) s.plan_kept));
    words = map word_of_returned c.kept;
    count = length-map c.kept word_of_returned ∙ (both.shows.each_part ∙ ap (λ (x : PlanState). length x.parts) s.plan_kept);
    each = λ k l. part k (let z = length-map c.kept word_of_returned in omega (arith, l, z));
    word = refl;
  }

pub word_law : WordLaw
word_law t ids old events w made new run_is up v does = word_shows t ids old events w made new run_is up v does

-- ---- past slaves in OP

-- each word is 0 or 8
abbrev AreZeroOrEight : List ℕ → Type 0
AreZeroOrEight ws = (i : ℕ) → i < length ws → (get_or ws i 0 ≡ 0) ⊎ (get_or ws i 0 ≡ 8)

from_eight : (ws : List ℕ) → AreZeroOrEight ws → fold bit_or 8 ws ≡ 8
from_eight [] h = refl
from_eight (w ∷ ws) h =
    let rest = from_eight ws (λ i l. h (suc i) (omega (arith, l))) in
    elim (h 0 (omega arith)) [
      | inl z ↦ ap (λ (n : ℕ). fold bit_or (bit_or 8 n) ws) z ∙ rest
      | inr e ↦ ap (λ (n : ℕ). fold bit_or (bit_or 8 n) ws) e ∙ rest
    ]

-- and one is 8
one_eight : (ws : List ℕ) (k : ℕ) → AreZeroOrEight ws → k < length ws → get_or ws k 0 ≡ 8 → joined ws ≡ 8
one_eight [] k h l e = absurd (omega (arith, l))
one_eight (w ∷ ws) zero h l e = ap (λ (n : ℕ). fold bit_or (bit_or 0 n) ws) e ∙ from_eight ws (λ i m. h (suc i) (omega (arith, m)))
one_eight (w ∷ ws) (suc k) h l e = elim (h 0 (omega arith)) [
  | inl z ↦ ap (λ (n : ℕ). fold bit_or (bit_or 0 n) ws) z ∙ one_eight ws k (λ i m. h (suc i) (omega (arith, m))) (omega (arith, l)) e
  | inr f ↦ ap (λ (n : ℕ). fold bit_or (bit_or 0 n) ws) f ∙ from_eight ws (λ i m. h (suc i) (omega (arith, m)))
]

part_in_op : (t : Contents) (old : WorldState) (events : List Event) (new : WorldState) (number k : ℕ) (counters : Option ExpectedCounters) (word : ℕ) → 0 < length t.slaves
    → ((s : ℕ) (pass : HasPassed old events new number k s) → said_by pass.event.at s ≡ 8) → PartSays t old events new number k counters word
    → (is_some counters ≡ true → word ≡ 8) × ((word ≡ 0) ⊎ (word ≡ 8))
part_in_op t old events new number k counters word some all (IsNotBack none z) = (λ back. absurd (false≢true (sym (ap (λ (o : Option ExpectedCounters). is_some o) none) ∙ back)), inl z)
part_in_op t old events new number k counters word some all (IsBack back words count heard is) =
    let said : (s : ℕ) → s < length words → get_or words s 0 ≡ 8 = λ s l. (heard s l).word_is ∙ all s (heard s l).pass in
    let first : 0 < length words = omega (arith, some, count) in
    let e : word ≡ 8 = is ∙ one_eight words 0 (λ i l. inr (said i l)) first (said 0 first) in
    (λ b. e, inr e)

pub op_word_law : OpWordLaw
op_word_law t old events w v x some all k l back =
    let each = λ (i : ℕ) (m : i < length x.words). part_in_op t x.begun.event.next x.begun.event.behind w x.number i (get_or x.report.counters i None) (get_or x.words i 0) some (λ s pass. all i s pass) (x.each i m) in
    x.word ∙ one_eight x.words k (λ i m. (each i m).1) l ((each k l).0 back)
