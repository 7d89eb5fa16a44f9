-- Laws over the definitions of frames alone.
use Rattle.std.specs.Prelude.{◌≡◌, ◌+◌, ◌*◌, ◌<◌, ◌≤◌, ◌⊎◌, Bool, ℕ, List, ◌++◌, length}
use Rattle.std.specs.List.{AllByRecursion}
use Rattle.ec_frame.specs.declared.error.FrameError.{FrameError}
use Rattle.ec_frame.specs.declared.field.TheConstants.{FRAME_HEADER_LEN, MAX_AREA, MAX_FRAME_LEN}
use Rattle.ec_frame.specs.Datagram.{Datagram, IsDatagram, adp_of, ado_of, opened, spelling}
use Rattle.ec_frame.specs.Decoded.{datagrams_in, datagrams_of}
use Rattle.ec_frame.specs.Frame.{IsByte, IsFrame, Payload}
use Rattle.ec_frame.specs.Refusals.{IsRefused}

-- ---- frames

-- bytes are a frame of one payload at most
abbrev pub FramesHaveOneReading : Type 0
FramesHaveOneReading = (bytes : List ℕ) (p q : Payload) → IsFrame bytes p → IsFrame bytes q → p ≡ q

-- the datagrams of a frame are those that its bytes are decoded to
abbrev pub FramesAreDecoded : Type 0
FramesAreDecoded = (payload : List ℕ) (p : Payload) → IsFrame payload p → datagrams_of payload ≡ p.datagrams

-- the data of a frame's datagrams are bytes, and so is what follows them
abbrev pub DataAreBytes : Type 0
DataAreBytes =
    (payload : List ℕ) (p : Payload) → IsFrame payload p
    → AllByRecursion (λ (d : Datagram). AllByRecursion IsByte d.data_bytes) p.datagrams × AllByRecursion IsByte p.rest

-- ---- refusals

-- bytes are a frame, or some test refuses them
abbrev pub IsFrameOrRefused : Type 0
IsFrameOrRefused =
    (payload : List ℕ) → AllByRecursion IsByte payload → ((p : Payload) × IsFrame payload p) ⊎ ((e : FrameError) × IsRefused payload e)

-- and not both
abbrev pub NoFrameIsRefused : Type 0
NoFrameIsRefused = (payload : List ℕ) (p : Payload) (e : FrameError) → IsFrame payload p → IsRefused payload e → ⊥

-- one test alone is the first to fail
abbrev pub RefusedForOneCause : Type 0
RefusedForOneCause = (payload : List ℕ) (e f : FrameError) → IsRefused payload e → IsRefused payload f → e ≡ f

-- ---- datagrams

-- if a spelling begins some bytes, no other begins them too, and what follows is determined
abbrev pub NoSpellingBeginsAnother : Type 0
NoSpellingBeginsAnother =
    (m n : Bool) (d e : Datagram) (x y : List ℕ) → IsDatagram d → IsDatagram e
    → spelling m d ++ x ≡ spelling n e ++ y → (m ≡ n) × (d ≡ e) × (x ≡ y)

-- spellings that say that another follows are read back, whatever the most that may be read
abbrev pub SpellingsAreReadBack : Type 0
SpellingsAreReadBack =
    (n : ℕ) (ds : List Datagram) → AllByRecursion IsDatagram ds → length ds ≤ n → datagrams_in n (opened ds) ≡ ds

-- ADP and ADO are read back from the address that they make
abbrev pub PhysicalAddressIsReadBack : Type 0
PhysicalAddressIsReadBack =
    (d : Datagram) (adp ado : ℕ) → adp < 65536 → d.address ≡ adp + 65536 * ado → (adp_of d ≡ adp) × (ado_of d ≡ ado)

-- ---- the longest frame

-- A frame is the payload of UDP in one Ethernet frame (1500 bytes) behind the headers of IP (20) and of UDP (8); its own
-- header has two bytes, and the rest is for datagrams.
pub record ConstantsAreTheLimits : Type 0 where
  pub frame : MAX_FRAME_LEN + 20 + 8 ≡ 1500
  pub datagrams : FRAME_HEADER_LEN + MAX_AREA ≡ MAX_FRAME_LEN
