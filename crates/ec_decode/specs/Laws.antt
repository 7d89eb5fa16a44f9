-- Laws of frames as text.
use Rattle.std.specs.Prelude.{◌≡◌, ℕ, List, [], ◌∷◌, Bool, Ok}
use Rattle.std.specs.List.{AllByRecursion, flat_map}
use Rattle.ec_frame.specs.Frame.{IsFrame, Payload}
use Rattle.ec_decode.specs.Answers.{DecodesLines}
use Rattle.ec_decode.specs.FrameText.{Text, frame_text}
use Rattle.ec_decode.specs.Indented.{without_indented}
use Rattle.ec_decode.specs.Reading.{frames_of}

-- some payload is a frame that says this
abbrev pub IsWritten : Payload → Type 0
IsWritten p = (payload : List ℕ) × IsFrame payload p

-- the text of a frame stands for that frame, with its reserved bits and all that its datagrams and the rest say
abbrev pub TextsReadBack : Type 0
TextsReadBack = (payload : List ℕ) (p : Payload) → IsFrame payload p → frames_of (frame_text p) ≡ Ok (p ∷ [])

-- and so do the texts of frames one after another
abbrev pub ListsReadBack : Type 0
ListsReadBack = (ps : List Payload) → AllByRecursion IsWritten ps → frames_of (flat_map frame_text ps) ≡ Ok ps

-- two frames with one text are one
abbrev pub OneTextIsOneFrame : Type 0
OneTextIsOneFrame =
    (payload other : List ℕ) (p q : Payload) → IsFrame payload p → IsFrame other q → frame_text p ≡ frame_text q → payload ≡ other

-- ---- indented lines

-- a text stands for the frames that it stands for without its indented lines
abbrev pub IndentedLinesAreSkipped : Type 0
IndentedLinesAreSkipped = (text : Text) (ps : List Payload) → frames_of (without_indented text) ≡ Ok ps → frames_of text ≡ Ok ps

-- what lines of hex are printed as has no indented line
abbrev pub TextsHaveNoIndentedLines : Type 0
TextsHaveNoIndentedLines = (lines : List Text) (printed : Text) (whole : Bool) → DecodesLines lines printed whole → without_indented printed ≡ printed

-- so a frame's text with indented lines within it is read back as that frame
abbrev pub RemarkedFramesReadBack : Type 0
RemarkedFramesReadBack = (payload : List ℕ) (p : Payload) (text : Text) → IsFrame payload p → without_indented text ≡ frame_text p → frames_of text ≡ Ok (p ∷ [])
