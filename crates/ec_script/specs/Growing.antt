-- What private code returns of a line that is read. You don't need it to read what a script stands for.
use Rattle.std.specs.Prelude.{◌≡◌, Bool, true, false, Option, Some, None}
use Rattle.ec_script.specs.Drafts.{DraftState}

-- a draft has a line more, if it is good; a bad one changes nothing
abbrev pub Grows : Option DraftState → (old new : DraftState) → (is_good : Bool) → Type 0
Grows None old new is_good = (is_good ≡ false) × (new ≡ old)
Grows (Some d) old new is_good = (is_good ≡ true) × (new ≡ d)
