-- What private code adds to a text that is printed.
use Rattle.std.specs.Prelude.{◌≡◌, List, ◌++◌, Bool, true, false}
use Rattle.ec_decode.specs.Answers.{DecodesLines, IsLineText, IsNoHex}
use Rattle.ec_decode.specs.FrameText.{Text}

-- a line's text is added, or it isn't hex
abbrev pub AddsLine : Text → (old new : Text) → Bool → Type 0
AddsLine line old new true = (text : Text) × IsLineText line text × (new ≡ old ++ text)
AddsLine line old new false = IsNoHex line × (new ≡ old)

-- what lines are printed as is added
abbrev pub AddsLines : List Text → (old new : Text) → Bool → Type 0
AddsLines lines old new whole = (text : Text) × DecodesLines lines text whole × (new ≡ old ++ text)
