-- What is printed behind the line of a refusal, for people (this project's profile).
use Rattle.std.specs.Prelude.{◌≡◌, ℕ, List, Bool, false}

-- whether an explanation is wanted, and its text
pub record Behind : Type 0 where
  pub is_wanted : Bool
  pub text : List ℕ

-- an explanation that isn't wanted stays as it is; else its text may be any
abbrev pub IsLeft : Behind → Behind → Type 0
IsLeft old new = old.is_wanted ≡ false → new ≡ old
