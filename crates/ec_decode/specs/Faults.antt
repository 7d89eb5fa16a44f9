-- A payload that is no frame: its fault, the datagrams that stand whole before it, and where what is wrong begins (this
-- project's profile).
use Rattle.std.specs.Prelude.{◌≡◌, ◌≢◌, ◌⊎◌, ℕ, ◌+◌, ◌<◌, Bool, List, [], ◌∷◌, ◌++◌, length, codes}
use Rattle.std.specs.Fmt.{decimal}
use Rattle.std.specs.List.{AllByRecursion}
use Rattle.ec_frame.specs.declared.error.FrameError.{FrameError}
use Rattle.ec_frame.specs.declared.error.FrameError.TheVariants.{Short, BadType, TooLong, BadLength, BadCommand, BadMore}
use Rattle.ec_frame.specs.Datagram.{Datagram, IsDatagram, joined, opened, spelling}
use Rattle.ec_frame.specs.Frame.{area, length_field}
use Rattle.ec_frame.specs.Refusals.{FirstFault, IsRefused, refusal_number}
use Rattle.ec_decode.specs.FrameText.{Text, datagram_lines, newline, spaced}
use Rattle.ec_decode.specs.declared.located.LocatedFault.{LocatedFault}

-- ---- the positions of faults

-- no datagram stands whole at the front of some bytes
abbrev pub BeginsNone : List ℕ → Type 0
BeginsNone bytes = (more : Bool) (d : Datagram) (after : List ℕ) → IsDatagram d → bytes ≢ spelling more d ++ after

-- All datagrams that stand whole at the front of some bytes: the last of them says that it is the last; or each says that
-- another follows, and none does.
pub record AreWhole (bytes : List ℕ) (ds : List Datagram) : Type 0 where
  pub rest : List ℕ
  pub each : AllByRecursion IsDatagram ds
  pub parts : ((0 < length ds) × (bytes ≡ joined ds ++ rest)) ⊎ ((bytes ≡ opened ds ++ rest) × BeginsNone rest)

-- the datagrams before the first fault of the area, and the byte where the datagram begins that has it
pub record StandBefore (payload : List ℕ) (e : FrameError) (ds : List Datagram) (at : ℕ) : Type 0 where
  pub fault : FirstFault (area payload) e
  pub whole : fault.before ≡ ds
  pub place : at ≡ 2 + length (opened ds)

-- a fault of the header
abbrev pub IsInHeader : List Datagram → ℕ → Type 0
IsInHeader ds at = (ds ≡ []) × (at ≡ 0)

-- A payload that is cut short is wrong at its end, and all datagrams that stand whole are before that.
abbrev pub IsLocated : List ℕ → FrameError → List Datagram → ℕ → Type 0
IsLocated payload Short ds at = AreWhole (area payload) ds × (at ≡ length payload)
IsLocated payload BadType ds at = IsInHeader ds at
IsLocated payload TooLong ds at = IsInHeader ds at
IsLocated payload BadLength ds at = ((length_field payload ≡ 0) × IsInHeader ds at) ⊎ StandBefore payload BadLength ds at
IsLocated payload BadCommand ds at = StandBefore payload BadCommand ds at
IsLocated payload BadMore ds at = StandBefore payload BadMore ds at

-- what is said of a payload that is no frame, with the datagrams before its fault
pub record IsRefusedAt (payload : List ℕ) (r : LocatedFault) (ds : List Datagram) : Type 0 where
  pub refused : IsRefused payload r.error
  pub placed : IsLocated payload r.error ds r.at
  pub whole : r.whole ≡ length ds

-- ---- its text

abbrev pub error_name : FrameError → Text
error_name Short = codes "Short"
error_name BadType = codes "BadType"
error_name BadLength = codes "BadLength"
error_name BadMore = codes "BadMore"
error_name BadCommand = codes "BadCommand"
error_name TooLong = codes "TooLong"

-- the refusal's number and name, how many datagrams stand whole before the fault, and the byte where what is wrong begins
unfoldable pub refused_line : LocatedFault → Text
refused_line r =
    codes "refused"
    ++ (spaced (decimal (refusal_number r.error) ∷ error_name r.error ∷ codes "datagram" ∷ decimal r.whole ∷ codes "byte" ∷ decimal r.at ∷ []) ++ newline)

-- the lines of the datagrams before the fault, and then that of the refusal
abbrev pub refused_text : LocatedFault → List Datagram → Text
refused_text r ds = datagram_lines 0 ds ++ refused_line r
