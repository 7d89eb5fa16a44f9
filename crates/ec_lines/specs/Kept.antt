-- What private code keeps of a line that may be very long. You don't need it to read what is taken.
use Rattle.std.specs.Prelude.{◌≡◌, ◌≢◌, ℕ, ◌-◌, ◌<◌, ◌^◌, ◌==◌, ◌||◌, All, Bool, true, false, List, [], ◌∷◌, ◌++◌, length, take, Option}
use Rattle.std.specs.Io.KnownBytes.{Consumes}
use Rattle.ec_lines.specs.declared.error.LinesError.{LinesError}
use Rattle.ec_lines.specs.declared.error.LinesError.TheVariants.{Memory, Unread, TooLong}
use Rattle.ec_lines.specs.Taking.{IsSoFar, TakesLine, TakesPart, TakesUndivided, is_divider, max_kept}

-- a line is taken, and its first bytes are kept, `most` at most
abbrev pub TakesKept : Option (List ℕ) → Option (List ℕ) → ℕ → List ℕ → Type 0
TakesKept old new most kept = (line : List ℕ) × TakesLine old new line × (kept ≡ take most line)

-- what is kept with more bytes of the line
abbrev pub kept_more : ℕ → List ℕ → List ℕ → List ℕ
kept_more most kept part = kept ++ take (most - length kept) part

-- bytes of a line, the last of which is the newline that ends it; or of which none is a newline
abbrev pub IsPart : (is_ended : Bool) → List ℕ → Type 0
IsPart true part = (front : List ℕ) × All (λ b. b ≢ 10) front × (part ≡ front ++ (10 ∷ []))
IsPart false part = All (λ b. b ≢ 10) part

-- Bytes of a line are taken from those that were read ahead: from all of them, unless the line ends before. Of the line the first
-- bytes are kept, at most so many.
pub record TakesAhead (old new : List ℕ) (most : ℕ) (before after : List ℕ) (is_ended : Bool) : Type 0 where
  pub part : List ℕ
  pub taken : old ≡ part ++ new
  pub whole : is_ended ≡ false → new ≡ []
  pub is_part : IsPart is_ended part
  pub kept : after ≡ kept_more most before part

-- the same of the bytes that an input has left
pub record TakesMore (old new : Option (List ℕ)) (most : ℕ) (before after : List ℕ) (is_ended : Bool) : Type 0 where
  pub part : List ℕ
  pub taken : Consumes old new part
  pub is_part : IsPart is_ended part
  pub kept : after ≡ kept_more most before part

-- more of a line is taken, up to its end or not
abbrev pub IsMore : (old now : Option (List ℕ)) → (kept : List ℕ) → (is_whole : Bool) → Type 0
IsMore old now kept true = TakesKept old now max_kept kept
IsMore old now kept false = IsSoFar old now max_kept kept

-- the last line that is taken of a text
abbrev pub is_last : List ℕ → Bool
is_last line = (length line == 0) || is_divider line

-- the errors of adding a line to a text
abbrev pub IsAddFault : List ℕ → List ℕ → LinesError → Type 0
IsAddFault text line Memory = Unit {0}
IsAddFault text line TooLong = 2 ^ 20 < length (text ++ line)
IsAddFault text line _ = ⊥

-- the errors of taking the lines of a text
abbrev pub RefusesLines : (is_refused : Bool) → (old new : Option (List ℕ)) → LinesError → Type 0
RefusesLines is_refused old new Memory = TakesPart old new
RefusesLines is_refused old new Unread = TakesPart old new × (is_refused ≡ true)
RefusesLines is_refused old new TooLong = (text : List ℕ) × TakesUndivided old new text × (2 ^ 20 < length text)
RefusesLines is_refused old new _ = ⊥
