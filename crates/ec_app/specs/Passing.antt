-- What `ecat pass` prints (this project's profile).
use Rattle.std.specs.Prelude.{◌≡◌, ℕ, ◌<◌, ◌≤◌, ◌⊎◌, List, [], ◌∷◌, ◌++◌, length, replicate, Result, Ok, Err}
use Rattle.hex.specs.Hex.{decode_of, encode_lower}
use Rattle.hex.specs.declared.error.FromHexError.{FromHexError}
use Rattle.ec_device.specs.Types.{plain_kind}
use Rattle.ec_frame.specs.Frame.{Payload, IsFrame, with_datagrams}
use Rattle.ec_frame.specs.Refusals.{IsRefused}
use Rattle.ec_frame.specs.declared.error.FrameError.{FrameError}
use Rattle.ec_frame.specs.declared.error.FrameError.TheVariants.{TooLong}
use Rattle.ec_slave.specs.State.{SlaveState, power_on}
use Rattle.ec_ring.specs.Rings.{passes_ring}
use Rattle.ec_console.specs.Printing.{OutputState, Prints}
use Rattle.ec_console.specs.declared.refusal.Refusal.{Refusal}
use Rattle.ec_console.specs.declared.refusal.Refusal.TheVariants.{Memory, Frame, BadHex}

-- a slave at power-on without PDOs, with identity 0
abbrev pub plain_slave : SlaveState
plain_slave = power_on plain_kind (record { vendor = 0; product = 0; revision = 0; serial = 0 })

-- a payload before and after its frame passes a ring of that many plain slaves
pub record ComesBack (slaves : ℕ) (sent back : List ℕ) : Type 0 where
  pub payload : Payload
  pub is_sent : IsFrame sent payload
  pub is_back : IsFrame back (with_datagrams payload (passes_ring (replicate slaves plain_slave) payload.datagrams).datagrams)

-- the text spells these bytes in hex digits of either case, no more than a UDP payload of EtherCAT has
pub record SpellsPayload (text payload : List ℕ) : Type 0 where
  pub digits : decode_of text ≡ Ok payload
  pub fits : length payload ≤ 1472

-- the text spells a payload that comes back as the answer spells it, in lower case
pub record IsAnswer (slaves : ℕ) (text answer : List ℕ) : Type 0 where
  pub sent : List ℕ
  pub back : List ℕ
  pub spelled : SpellsPayload text sent
  pub passed : ComesBack slaves sent back
  pub printed : answer ≡ encode_lower back

-- the text spells a payload that is no frame, and this is the first test that it fails
pub record SpellsNoFrame (text : List ℕ) (fault : FrameError) : Type 0 where
  pub payload : List ℕ
  pub spelled : SpellsPayload text payload
  pub refused : IsRefused payload fault

-- the text spells more bytes than a payload has
pub record IsOverlong (text : List ℕ) : Type 0 where
  pub payload : List ℕ
  pub digits : decode_of text ≡ Ok payload
  pub over : 1472 < length payload

-- the text isn't pairs of hex digits
pub record IsNoHex (text : List ℕ) : Type 0 where
  pub error : FromHexError
  pub digits : decode_of text ≡ Err error

-- the test that the text is the first to fail; memory may run out at any time
abbrev pub IsPassRefusal : List ℕ → Refusal → Type 0
IsPassRefusal text Memory = Unit {0}
IsPassRefusal text BadHex = IsNoHex text
IsPassRefusal text (Frame fault) = SpellsNoFrame text fault ⊎ ((fault ≡ TooLong) × IsOverlong text)
IsPassRefusal text _ = ⊥

-- what `ecat pass` prints: the answer as a line
abbrev pub AnswersPass : ℕ → List ℕ → List ℕ → Type 0
AnswersPass slaves text printed = (answer : List ℕ) × IsAnswer slaves text answer × (printed ≡ answer ++ 10 ∷ [])

-- how it ends, by what the output is before and after
abbrev pub RunsPass : ℕ → List ℕ → (old new : OutputState) → Result Unit Refusal → Type 0
RunsPass slaves text = Prints (AnswersPass slaves text) (IsPassRefusal text)
