-- Turn after turn of a start-up.
use Rattle.std.proofs.Common.{◌≡◌, ℕ, suc, ◌+◌, ◌-◌, ◌<◌, ◌≤◌, ◌&&◌, Bool, true, false, Option, Some, None, is_some, is_none, if◌then◌else◌, refl, sym, subst, arith}
use Rattle.ec_start.specs.Running.{outcome_of}
use Rattle.ec_world.specs.World.{WorldState}
use Rattle.ec_script.specs.declared.output.LineOutput.{LineOutput}
use Rattle.ec_script.specs.declared.output.LineOutput.TheVariants.{Nothing}
use Rattle.ec_script.specs.Outputs.{is_done}
use Rattle.ec_simulation.specs.Work.{Onward, RunsTurn, Starts, is_starting}

none_of : {X : Type 0} (o : Option X) (b : Bool) → is_some o ≡ b → is_none o ≡ (if b then false else true)
none_of None true h = cc
none_of None false h = refl
none_of (Some x) true h = refl
none_of (Some x) false h = cc

onward_as : (X Y : Type 0) (b c : Bool) → b ≡ c → Onward c X Y → Onward b X Y
onward_as X Y b c is h = subst (λ d. Onward d X Y) (sym is) h

both_true : (a b : Bool) → a ≡ true → b ≡ true → a && b ≡ true
both_true true true h g = refl
both_true true false h g = g
both_true false b h g = h

second_false : (a b : Bool) → b ≡ false → a && b ≡ false
second_false true b h = h
second_false false b h = refl

first_false : (a b : Bool) → a ≡ false → a && b ≡ false
first_false true b h = let bad : true ≡ false = h in cc
first_false false b h = refl

-- a turn, and turns ahead
pub turned : (n : ℕ) (old mid new : WorldState) (told word : LineOutput) → RunsTurn old mid told → is_done told ≡ true → is_some (outcome_of mid.start.phase) ≡ false
    → Starts n mid new word → Starts (suc n) old new word
unfolding Starts
turned n old mid new told word turn done going rest = record {
  mid = mid;
  told = told;
  begins = turn;
  goes_on = onward_as _ _ (is_starting mid && is_done told) true (both_true _ _ (none_of (outcome_of mid.start.phase) false going) done) rest;
}

-- the last turn
pub stopped_turn : (n : ℕ) (old new : WorldState) (word : LineOutput) → RunsTurn old new word → is_done word ≡ false → Starts (suc n) old new word
unfolding Starts
stopped_turn n old new word turn stop = record {
  mid = new;
  told = word;
  begins = turn;
  goes_on = onward_as _ _ (is_starting new && is_done word) false (second_false _ _ stop) (refl, refl);
}

pub ended_turn : (n : ℕ) (old new : WorldState) (word : LineOutput) → RunsTurn old new word → is_some (outcome_of new.start.phase) ≡ true → Starts (suc n) old new word
unfolding Starts
ended_turn n old new word turn ended = record {
  mid = new;
  told = word;
  begins = turn;
  goes_on = onward_as _ _ (is_starting new && is_done word) false (first_false _ _ (none_of (outcome_of new.start.phase) true ended)) (refl, refl);
}

pub no_turn : (old : WorldState) → Starts 0 old old Nothing
unfolding Starts
no_turn old = (refl, refl)

-- so many turns are ahead
pub one_less : (n i : ℕ) → i < n → n - i ≡ suc (n - (i + 1))
one_less n i lt = omega arith

pub none_left : (n i : ℕ) → n ≤ i → n - i ≡ 0
none_left n i le = omega arith
