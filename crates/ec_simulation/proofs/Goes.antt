-- Events as far as they can be made, event after event.
use Rattle.std.proofs.Common.{◌≡◌, ◌∙◌, suc, ◌<◌, ◌≤◌, List, [], ◌∷◌, ◌++◌, length, Bool, true, false, if◌then◌else◌, refl, sym, ap, subst, arith}
use Rattle.ec_world.specs.declared.event.Event.{Event}
use Rattle.ec_world.specs.declared.event.Event.TheVariants.{Close}
use Rattle.ec_world.specs.World.{WorldState, IsStep, can_happen}
use Rattle.ec_script.specs.declared.output.LineOutput.{LineOutput}
use Rattle.ec_script.specs.declared.output.LineOutput.TheVariants as output
use Rattle.ec_simulation.specs.Events.{AreMade}
use Rattle.ec_script.specs.Outputs.{is_done}
use Rattle.ec_simulation.specs.Work.{Makes, MakesAll, Onward, ends, said_else, said_of}

-- the same as `AreMade`, event by event
abbrev pub Goes : List Event → WorldState → WorldState → Bool → Type 0
Goes [] old new all = (new ≡ old) × (all ≡ true)
Goes (e ∷ es) old new all = (mid : WorldState) × (one : Bool) × IsStep old e mid one × Onward one (Goes es mid new all) ((new ≡ mid) × (all ≡ false))

-- ---- as a run

onward_map : {X Y : Type 0} (Z : Type 0) (one : Bool) → (X → Y) → Onward one X Z → Onward one Y Z
onward_map Z true f h = f h
onward_map Z false f h = h

made_on : (one : Bool) (e : Event) (es : List Event) (old mid new : WorldState) (all : Bool) → IsStep old e mid one
    → Onward one (AreMade es mid new all) ((new ≡ mid) × (all ≡ false)) → AreMade (e ∷ es) old new all
made_on true e es old mid new all step h = record {
  made = suc h.made;
  within = let w : h.made ≤ length es = h.within in omega arith;
  run = (mid, true, h.made, step, h.run, omega arith);
  whole = λ a. let w : h.made ≡ length es = h.whole a in omega arith;
  stopped = λ s.
      let r = h.stopped s in
      let w : h.made < length es = r.0 in
      (omega arith, r.1);
}
made_on false e es old mid new all step h =
    let same : new ≡ old = h.0 ∙ step.refused refl in
    record {
      made = 0;
      within = omega arith;
      run = (same, refl);
      whole = λ a. absurd (let bad : true ≡ false = sym a ∙ h.1 in cc);
      stopped = λ s. (omega arith, ap (λ w. can_happen w e) same ∙ sym step.can);
    }

pub are_made : (es : List Event) (old new : WorldState) (all : Bool) → Goes es old new all → AreMade es old new all
are_made [] old new all h = record {
  made = 0;
  within = omega arith;
  run = (h.0, refl);
  whole = λ a. refl;
  stopped = λ s. absurd (let bad : true ≡ false = sym h.1 ∙ s in cc);
}
are_made (e ∷ es) old new all h = made_on h.1 e es old h.0 new all h.2 (onward_map _ h.1 (λ g. are_made es h.0 new all g) h.3)

-- ---- one after another

on_from : {X Y : Type 0} (one : Bool) (first mid new : WorldState) (all : Bool) → (X → Y) → Onward one X ((mid ≡ first) × (true ≡ false)) → Onward one Y ((new ≡ first) × (all ≡ false))
on_from true first mid new all f h = f h
on_from false first mid new all f h = absurd (let bad : true ≡ false = h.1 in cc)

pub goes_join : (xs ys : List Event) (old mid new : WorldState) (all : Bool) → Goes xs old mid true → Goes ys mid new all → Goes (xs ++ ys) old new all
goes_join [] ys old mid new all h g = subst (λ w. Goes ys w new all) h.0 g
goes_join (x ∷ xs) ys old mid new all h g = (h.0, h.1, h.2, on_from h.1 h.0 mid new all (λ r. goes_join xs ys h.0 mid new all r g) h.3)

pub goes_stop : (xs ys : List Event) (old mid : WorldState) → Goes xs old mid false → Goes (xs ++ ys) old mid false
goes_stop [] ys old mid h = absurd (let bad : false ≡ true = h.1 in cc)
goes_stop (x ∷ xs) ys old mid h = (h.0, h.1, h.2, onward_map _ h.1 (λ r. goes_stop xs ys h.0 mid r) h.3)

-- ---- what is said

done_else : (e : Event) → is_done (said_else e) ≡ true
done_else Close = refl
done_else e = refl

done_said : (b : Bool) (e : Event) → is_done (if b then output.Ended else said_else e) ≡ true
done_said true e = refl
done_said false e = done_else e

done_if : (e : Event) (old new : WorldState) (made : Bool) → is_done (said_of old e new made) ≡ made
done_if e old new true = done_said (ends old new) e
done_if e old new false = refl

pub done_as_made : (e : Event) (old new : WorldState) (word : LineOutput) (h : Makes e old new word) → is_done word ≡ h.made
done_as_made e old new word h = ap is_done h.says ∙ done_if e old new h.made

-- ---- the words of lines

last_one : (one all : Bool) (new : WorldState) → all ≡ one → Onward one ((new ≡ new) × (all ≡ true)) ((new ≡ new) × (all ≡ false))
last_one true all new e = (refl, e)
last_one false all new e = (refl, e)

pub goes_one : (e : Event) (old new : WorldState) (word : LineOutput) → Makes e old new word → Goes (e ∷ []) old new (is_done word)
goes_one e old new word h = (new, h.made, h.step, last_one h.made (is_done word) new (done_as_made e old new word h))

on_by : {X Y : Type 0} (one : Bool) (first new : WorldState) (told word : LineOutput) → is_done told ≡ one → (one ≡ true → X → Y)
    → Onward one X ((new ≡ first) × (word ≡ told)) → Onward one Y ((new ≡ first) × (is_done word ≡ false))
on_by true first new told word e f h = f refl h
on_by false first new told word e f h = (h.0, ap is_done h.1 ∙ e)

-- an event is made, and then what follows
pub goes_then : {X : Type 0} (e : Event) (es : List Event) (old mid new : WorldState) (told word : LineOutput) (h : Makes e old mid told)
    → Onward (is_done told) X ((new ≡ mid) × (word ≡ told)) → (h.made ≡ true → X → Goes es mid new (is_done word)) → Goes (e ∷ es) old new (is_done word)
goes_then {X} e es old mid new told word h rest f =
    let done = done_as_made e old mid told h in
    let on : Onward h.made X ((new ≡ mid) × (word ≡ told)) = subst (λ b. Onward b X ((new ≡ mid) × (word ≡ told))) done rest in
    (mid, h.made, h.step, on_by h.made mid new told word done f on)

pub goes_all : (es : List Event) (old new : WorldState) (word : LineOutput) → MakesAll es old new word → Goes es old new (is_done word)
goes_all [] old new word h = (h.0, ap is_done h.1)
goes_all (e ∷ []) old new word h = goes_one e old new word h
goes_all (e ∷ f ∷ es) old new word h = goes_then e (f ∷ es) old h.mid new h.told word h.begins h.goes_on (λ one x. goes_all (f ∷ es) h.mid new word x)
