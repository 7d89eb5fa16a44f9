-- Cycle after cycle until something holds.
use Rattle.std.proofs.Common.{◌≡◌, ℕ, suc, Bool, true, false, refl, sym, subst}
use Rattle.ec_world.specs.World.{WorldState}
use Rattle.ec_script.specs.declared.expectation.Expectation.{Expectation}
use Rattle.ec_script.specs.declared.output.LineOutput.{LineOutput}
use Rattle.ec_script.specs.declared.output.LineOutput.TheVariants.{Nothing, Unmet}
use Rattle.ec_script.specs.Outputs.{is_done, output_if}
use Rattle.ec_simulation.specs.Expecting.{is_met}
use Rattle.ec_simulation.specs.Work.{CyclesOn, Onward, RunsCycle, Waits}

onward_as : (X Y : Type 0) (b c : Bool) → b ≡ c → Onward c X Y → Onward b X Y
onward_as X Y b c is h = subst (λ d. Onward d X Y) (sym is) h

-- it holds already
pub holds_now : (n : ℕ) (e : Expectation) (old : WorldState) → is_met e old ≡ true → Waits (suc n) e old old Nothing
unfolding Waits
holds_now n e old is = onward_as _ _ (is_met e old) true is (refl, refl)

-- it doesn't, and a cycle is run
pub cycled : (n : ℕ) (e : Expectation) (old mid new : WorldState) (told word : LineOutput) → is_met e old ≡ false → RunsCycle old mid told → is_done told ≡ true → Waits n e mid new word
    → Waits (suc n) e old new word
unfolding Waits
cycled n e old mid new told word unmet cycle done rest =
    let on : CyclesOn (Waits n e) old new word = record { mid = mid; told = told; cycle = cycle; goes_on = onward_as _ _ (is_done told) true done rest } in
    onward_as _ _ (is_met e old) false unmet on

-- which can't be run
pub uncycled : (n : ℕ) (e : Expectation) (old new : WorldState) (told : LineOutput) → is_met e old ≡ false → RunsCycle old new told → is_done told ≡ false → Waits (suc n) e old new Unmet
unfolding Waits
uncycled n e old new told unmet cycle stop =
    let on : CyclesOn (Waits n e) old new Unmet = record { mid = new; told = told; cycle = cycle; goes_on = onward_as _ _ (is_done told) false stop (refl, refl) } in
    onward_as _ _ (is_met e old) false unmet on

-- no cycle is left
pub looked : (e : Expectation) (old : WorldState) (word : LineOutput) → word ≡ output_if (is_met e old) → Waits 0 e old old word
unfolding Waits
looked e old word is = (refl, is)
