-- What is printed of a line of hex, and of a text of frames (this project's profile).
use Rattle.std.specs.Prelude.{◌≡◌, ◌≢◌, ◌⊎◌, ℕ, List, [], ◌∷◌, ◌++◌, Bool, true, false, Option, Some, None, Result, Ok, Err}
use Rattle.std.specs.String.{string_bytes}
use Rattle.std.specs.declared.alloc.Global.{Global}
use Rattle.std.specs.declared.string.String.{String}
use Rattle.hex.specs.Hex.{decode_of, encode_lower}
use Rattle.hex.specs.declared.error.FromHexError.{FromHexError}
use Rattle.ec_frame.specs.Datagram.{Datagram}
use Rattle.ec_frame.specs.Frame.{IsFrame, Payload}
use Rattle.ec_decode.specs.declared.error.DecodeError.{DecodeError}
use Rattle.ec_decode.specs.declared.error.DecodeError.TheVariants.{Memory, BadScript}
use Rattle.ec_decode.specs.declared.located.LocatedFault.{LocatedFault}
use Rattle.ec_decode.specs.Faults.{IsRefusedAt, refused_text}
use Rattle.ec_decode.specs.FrameText.{Text, frame_text, newline}
use Rattle.ec_decode.specs.Reading.{frames_of}

-- the text of a payload: of a frame, or of what is none
abbrev pub IsTextOf : List ℕ → Text → Type 0
IsTextOf payload text =
    ((p : Payload) × IsFrame payload p × (text ≡ frame_text p)) ⊎ ((r : LocatedFault) × (ds : List Datagram) × IsRefusedAt payload r ds × (text ≡ refused_text r ds))

-- a line of hex digits of either case is a payload's text; a line that isn't hex has none
abbrev pub DecodesLine : Text → Option (String Global) → Type 0
DecodesLine line (Some text) = (payload : List ℕ) × (decode_of line ≡ Ok payload) × IsTextOf payload (string_bytes text)
DecodesLine line None = (e : FromHexError) × (decode_of line ≡ Err e)

-- what a line is printed as: its payload's text, and an empty line nothing
abbrev pub IsLineText : Text → Text → Type 0
IsLineText line text =
    ((line ≡ []) × (text ≡ [])) ⊎ ((line ≢ []) × ((payload : List ℕ) × (decode_of line ≡ Ok payload) × IsTextOf payload text))

-- a line that isn't hex
abbrev pub IsNoHex : Text → Type 0
IsNoHex line = (line ≢ []) × ((e : FromHexError) × (decode_of line ≡ Err e))

-- what lines are printed as, one after another, up to the first that isn't hex; and whether there is none
abbrev pub DecodesLines : List Text → Text → Bool → Type 0
DecodesLines [] printed whole = (printed ≡ []) × (whole ≡ true)
DecodesLines (line ∷ lines) printed whole =
    (IsNoHex line × (printed ≡ []) × (whole ≡ false)) ⊎ ((text : Text) × (more : Text) × IsLineText line text × DecodesLines lines more whole × (printed ≡ text ++ more))

-- the payloads of frames in lower-case hex, a line for each
abbrev pub AreSpelled : List Payload → Text → Type 0
AreSpelled [] text = text ≡ []
AreSpelled (p ∷ ps) text = (payload : List ℕ) × (more : Text) × IsFrame payload p × (text ≡ encode_lower payload ++ (newline ++ more)) × AreSpelled ps more

-- the payloads of a text's frames, or its first line that is out of form; memory may run out at any time
abbrev pub EncodesText : Text → Result (String Global) DecodeError → Type 0
EncodesText text (Ok answer) = (ps : List Payload) × (frames_of text ≡ Ok ps) × AreSpelled ps (string_bytes answer)
EncodesText text (Err Memory) = Unit {0}
EncodesText text (Err (BadScript n)) = frames_of text ≡ Err n
