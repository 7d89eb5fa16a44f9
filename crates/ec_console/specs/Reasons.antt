-- Lines between others that say why a line can't be done (a choice of this project). They have the form of `Reason`; their words are tested.
use Rattle.std.specs.Prelude.{◌≡◌, ◌⊎◌, ℕ, Bool, true, false, List, [], ◌∷◌, ◌++◌}
use Rattle.ec_diagnostic.specs.Reason.{IsReason}
use Rattle.ec_script.specs.declared.line.Step.{Step}
use Rattle.ec_script.specs.declared.line.Task.{Task}
use Rattle.ec_console.specs.declared.wanted.Manner.{Manner}
use Rattle.ec_console.specs.Saying.{Says}

-- how a command takes lines: with reasons if an explanation is wanted, and strictly or not
abbrev pub manner_of : (explained strict : Bool) → Manner
manner_of explained strict = record { explained = explained; strict = strict }

-- the same without reasons
abbrev pub unexplained : Manner → Manner
unexplained manner = record manner { explained = false }

-- a reason, or nothing
abbrev pub ReasonIf : Bool → List ℕ → Type 0
ReasonIf true why = IsReason why
ReasonIf false why = why ≡ []

-- ---- texts with reasons between

-- the text of a line, and a reason behind it, if there is one
pub record Part : Type 0 where
  pub said : List ℕ
  pub why : List ℕ
  pub is : (why ≡ []) ⊎ IsReason why

abbrev pub with_reasons : List Part → List ℕ
with_reasons [] = []
with_reasons (part ∷ parts) = (part.said ++ part.why) ++ with_reasons parts

abbrev pub without_reasons : List Part → List ℕ
without_reasons [] = []
without_reasons (part ∷ parts) = part.said ++ without_reasons parts

-- Lines that reasons follow leave the target that they leave without, are unmet as often, and print the same but for the reasons.
abbrev pub OnlyAdds : {S : Type 0} → (reasoned plain : S → Step → S → List ℕ → ℕ → Type 0) → Type 0
OnlyAdds {S} reasoned plain = (s : S) (tasks : List Task) (new : S) (printed : List ℕ) (unmet : ℕ) → Says reasoned s tasks new printed unmet
    → (parts : List Part) × (printed ≡ with_reasons parts) × Says plain s tasks new (without_reasons parts) unmet
