-- `ready` brings a world up where nothing disturbs it.
use Rattle.std.proofs.Common.{◌≡◌, ◌∙◌, ℕ, zero, suc, ◌+◌, ◌≤◌, ◌&&◌, List, [], ◌∷◌, ◌++◌, length, replicate, take, Bool, true, false, Option, None, is_some, is_none, if◌then◌else◌, refl, sym, ap, subst, append-nil, append_assoc, length-append, arith}
use Rattle.std.specs.Prelude.{codes}
use Rattle.std.proofs.lemmas.List.{take_all}
use Rattle.ec_text.specs.PlanText.{newline}
use Rattle.ec_table.specs.Contents.{Contents}
use Rattle.ec_start.specs.Running.{StartState, outcome_of}
use Rattle.ec_start.specs.declared.phase.Phase.{Phase}
use Rattle.ec_start.specs.declared.phase.Phase.TheVariants.{Idle, Ready as IsUp}
use Rattle.ec_world.specs.declared.event.Event.{Event}
use Rattle.ec_world.specs.declared.event.Event.TheVariants.{StartNext, Pass, Return, Serve}
use Rattle.ec_world.specs.Laws.{IsRun}
use Rattle.ec_world.specs.NewWorld.{AreTurns, BringUp, IsToStart, servings, turn_of}
use Rattle.ec_world.specs.World.{Flight, WorldState, IsStep}
use Rattle.ec_world.proofs.Refinement.StepsRefine.{runs_join}
use Rattle.ec_world.proofs.StartUp.TurnLaw.{turn_law}
use Rattle.ec_world.proofs.StartUp.HasTurned.{HasTurned, turn_goes}
use Rattle.ec_world.proofs.StartUp.HasTurned as world
use Rattle.ec_world.proofs.StartUp.NewLaw.{MayTurn, turned_on, turned_idle, turned_many, turned_up, IsBeginning, beginning, comes_up}
use Rattle.ec_script.specs.declared.output.LineOutput.{LineOutput}
use Rattle.ec_script.specs.declared.output.LineOutput.TheVariants as output
use Rattle.ec_simulation.specs.Events.{lowest_slot, turn_events}
use Rattle.ec_simulation.specs.Promised.{ReadyLaw}
use Rattle.ec_simulation.specs.Rounds.{rounds, rounds_found}
use Rattle.ec_script.specs.declared.line.LineAction.TheVariants.{Ready}
use Rattle.ec_text.specs.ReportText.{outcome_text}
use Rattle.ec_script.specs.Texts.{output_text}
use Rattle.ec_simulation.specs.Statuses.{statuses}
use Rattle.ec_simulation.specs.Views.{view_of}
use Rattle.ec_script.specs.Outputs.{is_done}
use Rattle.ec_simulation.specs.Work.{Does, Makes, MakesAll, Onward, RunsTurn, Starts, ends, has_ended, is_starting, said_of, last_turn}
use Rattle.ec_simulation.proofs.Goes.{Goes, are_made, done_as_made}
use Rattle.ec_simulation.proofs.Running.{free_at, turn_goes as turn_made}
use Rattle.ec_simulation.proofs.SlotsSent.{turn_found}

true_false : true ≡ false → ⊥
true_false e = cc

-- ---- events as far as they can be made, in the words of the world's proofs

further : {X Y : Type 0} (Z : Type 0) (one : Bool) → (X → Y) → Onward one X Z → world.Onward one Y Z
further Z true f h = f h
further Z false f h = h

pub to_world : (es : List Event) (old new : WorldState) (all : Bool) → Goes es old new all → world.Goes es old new all
to_world [] old new all h = h
to_world (e ∷ es) old new all h = (h.0, h.1, h.2, further ((new ≡ h.0) × (all ≡ false)) h.1 (λ g. to_world es h.0 new all g) h.3)

pub run_of : (es : List Event) (old new : WorldState) (all : Bool) → Goes es old new all → all ≡ true → IsRun old es new (length es)
run_of es old new all g a =
    let h = are_made es old new all g in
    subst (λ (xs : List Event). IsRun old xs new (length es)) (take_all (length es) es (omega arith)) (subst (λ (n : ℕ). IsRun old (take n es) new n) (h.whole a) h.run)

-- ---- the last of them

-- these leave the start-up
abbrev Leaves : Event → Type 0
Leaves (Pass k) = Unit {0}
Leaves (Serve s) = Unit {0}
Leaves e = ⊥

abbrev pub AllOf : (Event → Type 0) → List Event → Type 0
AllOf Q [] = Unit {0}
AllOf Q (e ∷ es) = Q e × AllOf Q es

leaves : (e : Event) (w v : WorldState) (one : Bool) → Leaves e → IsStep w e v one → v.start ≡ w.start
leaves (Pass k) w v true q h = ap (λ (x : WorldState). x.start) (h.happens refl).is
leaves (Pass k) w v false q h = ap (λ (x : WorldState). x.start) (h.refused refl)
leaves (Serve s) w v true q h = ap (λ (x : WorldState). x.start) (h.happens refl)
leaves (Serve s) w v false q h = ap (λ (x : WorldState). x.start) (h.refused refl)
leaves e w v one q h = absurd q

pub all_both : (Q : Event → Type 0) (xs ys : List Event) → AllOf Q xs → AllOf Q ys → AllOf Q (xs ++ ys)
all_both Q [] ys h g = g
all_both Q (x ∷ xs) ys h g = (h.0, all_both Q xs ys h.1 g)

pub all_passes : (Q : Event → Type 0) (k n : ℕ) → Q (Pass k) → AllOf Q (replicate n (Pass k))
all_passes Q k zero q = tt
all_passes Q k (suc n) q = (q, all_passes Q k n q)

servings_leave : (s n : ℕ) → AllOf Leaves (servings s n)
servings_leave s zero = tt
servings_leave s (suc n) = (tt, servings_leave (s + 1) n)

-- what goes on where all was done
pub on_done : {X : Type 0} (mid new : WorldState) (told word : LineOutput) (b : Bool) → is_done told ≡ b → Onward b X ((new ≡ mid) × (word ≡ told)) → is_done word ≡ true → X
on_done mid new told word true e h done = h
on_done mid new told word false e h done = absurd (true_false (sym done ∙ (ap is_done h.1 ∙ e)))

-- and the first of it was done too
pub told_done : (X : Type 0) (mid new : WorldState) (told word : LineOutput) (b : Bool) → is_done told ≡ b → Onward b X ((new ≡ mid) × (word ≡ told)) → is_done word ≡ true → is_done told ≡ true
told_done X mid new told word true e h done = e
told_done X mid new told word false e h done = absurd (true_false (sym done ∙ (ap is_done h.1 ∙ e)))

-- the last of some events, where those before it keep what holds at first
pub record IsLast (P : WorldState → Type 0) (e : Event) (new : WorldState) (word : LineOutput) : Type 0 where
  pub at : WorldState
  pub kept : P at
  pub last : Makes e at new word

pub last_of : (P : WorldState → Type 0) (Q : Event → Type 0) → ((e : Event) (w v : WorldState) (one : Bool) → Q e → P w → IsStep w e v one → P v)
    → (xs : List Event) (e : Event) (old new : WorldState) (word : LineOutput) → AllOf Q xs → P old → MakesAll (xs ++ (e ∷ [])) old new word → is_done word ≡ true → IsLast P e new word
last_of P Q keep [] e old new word q p h done = record { at = old; kept = p; last = h }
last_of P Q keep (x ∷ []) e old new word q p h done = record {
  at = h.mid;
  kept = keep x old h.mid h.begins.made q.0 p h.begins.step;
  last = on_done h.mid new h.told word (is_done h.told) refl h.goes_on done;
}
last_of P Q keep (x ∷ y ∷ xs) e old new word q p h done =
    last_of P Q keep (y ∷ xs) e h.mid new word q.1 (keep x old h.mid h.begins.made q.0 p h.begins.step) (on_done h.mid new h.told word (is_done h.told) refl h.goes_on done) done

-- the return that ends a start-up says so
said_ended : (x new : WorldState) (made : Bool) → made ≡ true → ends x new ≡ true → said_of x (Return 0) new made ≡ output.Ended
said_ended x new made sure e = ap (λ (b : Bool). said_of x (Return 0) new b) sure ∙ ap (λ (b : Bool). if b then output.Ended else output.Nothing) e

-- ---- one turn

lowest : (os : List (Option Flight)) → os ≡ None ∷ replicate 63 None → lowest_slot os ≡ 0 ∷ []
lowest os e = ap (λ (xs : List (Option Flight)). lowest_slot xs) e

turn_is : (w : WorldState) → w.slots ≡ None ∷ replicate 63 None → turn_events w ≡ turn_of (length w.slaves)
turn_is w e =
    ap (λ (ks : List ℕ). StartNext ∷ rounds (length w.slaves) true ks) (lowest w.slots e)
    ∙ ap (λ (es : List Event). StartNext ∷ es) (append-nil (replicate (length w.slaves) (Pass 0) ++ (servings 0 (length w.slaves) ++ (Return 0 ∷ []))))

record OneTurn (s : StartState) (old mid : WorldState) (told : LineOutput) : Type 0 where
  done : is_done told ≡ true
  turned : HasTurned 63 old s mid
  run : IsRun old (turn_of (length old.slaves)) mid (length (turn_of (length old.slaves)))

one_turn : (k : ℕ) (s : StartState) (old mid : WorldState) (told : LineOutput) → MayTurn k 63 old s → RunsTurn old mid told → OneTurn s old mid told
one_turn k s old mid told h r =
    let g : Goes (turn_of (length old.slaves)) old mid (is_done told) = subst (λ (es : List Event). Goes es old mid (is_done told)) (turn_is old h.free) (turn_made old mid told r) in
    let o = turn_goes 63 old s (turn_of (length old.slaves)) mid (is_done told) h.can h.free (turn_law (length old.slaves)) (to_world (turn_of (length old.slaves)) old mid (is_done told) g) in
    record { done = o.0; turned = o.1; run = run_of (turn_of (length old.slaves)) old mid (is_done told) g o.0 }

-- the last turn says how the start-up ended
ends_turn : (old mid : WorldState) (told : LineOutput) → old.slots ≡ None ∷ replicate 63 None → RunsTurn old mid told → is_done told ≡ true → mid.start.phase ≡ IsUp → told ≡ output.Ended
ends_turn old mid told free r done up =
    let first : r.begins.made ≡ true = sym (done_as_made StartNext old r.mid r.told r.begins) ∙ first_done in
    let sends = r.begins.step.happens first in
    let found : rounds_found true r.mid ≡ rounds (length old.slaves) true (0 ∷ [])
    = turn_found old r.mid sends (free_at old r.mid r.begins.made r.begins.step first) ∙ ap (λ (ks : List ℕ). rounds (length old.slaves) true ks) (lowest old.slots free) in
    let n = length old.slaves in
    let all : rounds n true (0 ∷ []) ≡ (replicate n (Pass 0) ++ servings 0 n) ++ (Return 0 ∷ [])
    = append-nil (replicate n (Pass 0) ++ (servings 0 n ++ (Return 0 ∷ []))) ∙ sym (append_assoc (replicate n (Pass 0)) (servings 0 n) (Return 0 ∷ [])) in
    let l = last_of (λ (x : WorldState). x.start ≡ r.mid.start) Leaves (λ e w v one q p h. leaves e w v one q h ∙ p)
    (replicate n (Pass 0) ++ servings 0 n) (Return 0) r.mid mid told (all_both Leaves (replicate n (Pass 0)) (servings 0 n) (all_passes Leaves 0 n tt) (servings_leave 0 n)) refl
    (subst (λ (es : List Event). MakesAll es r.mid mid told) (found ∙ all) rest) done in
    let waits : outcome_of l.at.start.phase ≡ None
    = ap (λ (x : StartState). outcome_of x.phase) l.kept ∙ ap (λ (x : WorldState). outcome_of x.start.phase) sends.is in
    let over : has_ended mid ≡ true = ap (λ (p : Phase). is_some (outcome_of p)) up in
    let ended : ends l.at mid ≡ true = rw (waits, over) refl in
    l.last.says ∙ said_ended l.at mid l.last.made (sym (done_as_made (Return 0) l.at mid told l.last) ∙ done) ended
  where
    rest : MakesAll (rounds_found true r.mid) r.mid mid told
    rest = on_done r.mid mid r.told told (is_done r.told) refl r.goes_on done

    first_done : is_done r.told ≡ true
    first_done = told_done (MakesAll (rounds_found true r.mid) r.mid mid told) r.mid mid r.told told (is_done r.told) refl r.goes_on done

-- ---- turn after turn

record AllTurned (k : ℕ) (old new : WorldState) (word : LineOutput) : Type 0 where
  says : word ≡ output.Ended
  events : List Event
  turns : AreTurns (length old.slaves) (suc k) events
  run : IsRun old events new (length events)

onward_on : {X : Type 0} (Y : Type 0) (a b : Bool) → a ≡ true → b ≡ true → Onward (a && b) X Y → X
onward_on Y true true e f h = h
onward_on Y true false e f h = absurd (true_false (sym f))
onward_on Y false b e f h = absurd (true_false (sym e))

onward_off : {Y : Type 0} (X : Type 0) (a b : Bool) → a ≡ false → Onward (a && b) X Y → Y
onward_off X true b e h = absurd (true_false e)
onward_off X false b e h = h

starts_up : (n k : ℕ) (s : StartState) (old new : WorldState) (word : LineOutput) → MayTurn k 63 old s → suc k ≤ n → Starts n old new word → AllTurned k old new word
unfolding Starts
starts_up zero k s old new word h l r = absurd (omega (arith, l))
starts_up (suc n) zero s old new word h l r =
    let o = one_turn zero s old r.mid r.told h r.begins in
    let up : r.mid.start.phase ≡ IsUp = turned_up 63 old s r.mid h o.turned in
    let e : (new ≡ r.mid) × (word ≡ r.told) = onward_off (Starts n r.mid new word) (is_starting r.mid) (is_done r.told) (ap (λ (p : Phase). is_none (outcome_of p)) up) r.goes_on in
    record {
      says = e.1 ∙ ends_turn old r.mid r.told h.free r.begins o.done up;
      events = turn_of (length old.slaves);
      turns = (turn_of (length old.slaves), [], sym (append-nil (turn_of (length old.slaves))), turn_law (length old.slaves), refl);
      run = subst (λ (x : WorldState). IsRun old (turn_of (length old.slaves)) x (length (turn_of (length old.slaves)))) (sym e.0) o.run;
    }
starts_up (suc n) (suc k) s old new word h l r =
    let o = one_turn (suc k) s old r.mid r.told h r.begins in
    let idle : r.mid.start.phase ≡ Idle = turned_idle k 63 old s r.mid h o.turned in
    let on : Starts n r.mid new word = onward_on ((new ≡ r.mid) × (word ≡ r.told)) (is_starting r.mid) (is_done r.told) (ap (λ (p : Phase). is_none (outcome_of p)) idle) o.done r.goes_on in
    let a = starts_up n k r.mid.start r.mid new word (turned_on k 63 old s r.mid h o.turned) (omega (arith, l)) on in
    let turn = turn_of (length old.slaves) in
    record {
      says = a.says;
      events = turn ++ a.events;
      turns = (turn, a.events, refl, turn_law (length old.slaves), subst (λ (m : ℕ). AreTurns m (suc k) a.events) (turned_many 63 old s r.mid o.turned) a.turns);
      run = subst (λ (m : ℕ). IsRun old (turn ++ a.events) new m) (sym (length-append turn a.events)) (runs_join old turn r.mid (length turn) a.events new (length a.events) o.run a.run);
    }

pub ready_law : ReadyLaw
ready_law t old new word from does =
    let b : IsBeginning t old = beginning t old from in
    let long = b.long in
    let room = from.numbers in
    let r : AllTurned b.k old new word = starts_up last_turn b.k _ old new word b.turns_left (omega (arith, long, room)) does in
    let turns : BringUp t old r.events = subst (λ (m : ℕ). AreTurns (length t.slaves) m r.events) (sym long) (subst (λ (m : ℕ). AreTurns m (suc b.k) r.events) b.many r.turns) in (
      r.says,
      record { events = r.events; turns = turns; run = r.run; up = comes_up t old from r.events new (length r.events) turns r.run },
    )

-- and what is printed of it
pub says_ready : (t : Contents) (old new : WorldState) (n : ℕ) (word : LineOutput) → IsToStart t old → Does Ready old new word → output_text t n (view_of new) (statuses new) word ≡ codes "ready" ++ newline
says_ready t old new n word from does =
    let r = ready_law t old new word from does in
    ap (λ (x : LineOutput). output_text t n (view_of new) (statuses new) x) r.0 ∙ ap (λ (p : Phase). outcome_text (outcome_of p)) r.1.up.works.ready
