-- Which payloads are no frames, and the test that refuses each (this project's profile: the order of the tests).
use Rattle.std.specs.Prelude.{◌≡◌, ◌≢◌, ℕ, ◌+◌, ◌<◌, ◌≤◌, ◌⊎◌, Bool, true, false, List, [], ◌++◌, length, slice_index}
use Rattle.std.specs.List.{AllByRecursion}
use Rattle.ec_frame.specs.declared.error.FrameError.{FrameError}
use Rattle.ec_frame.specs.declared.error.FrameError.TheVariants.{Short, BadType, TooLong, BadLength, BadCommand, BadMore}
use Rattle.ec_frame.specs.Datagram.{Datagram, IsDatagram, data_length, opened, spelling}
use Rattle.ec_frame.specs.Frame.{area, length_field, type_field}

-- the number of a refusal, as the program prints it
abbrev pub refusal_number : FrameError → ℕ
refusal_number Short = 2
refusal_number BadType = 3
refusal_number BadLength = 4
refusal_number BadMore = 5
refusal_number BadCommand = 6
refusal_number TooLong = 7

-- ---- the header

-- the header is whole, of type 1, and says at most 1470 bytes
pub record HasHeader (payload : List ℕ) : Type 0 where
  pub whole : 2 ≤ length payload
  pub type : type_field payload ≡ 1
  pub most : length_field payload ≤ 1470

-- as many bytes follow as its length field says
pub record HasArea (payload : List ℕ) : Type 0 where
  pub header : HasHeader payload
  pub whole : 2 + length_field payload ≤ length payload

-- ---- the datagrams

-- the datagram that begins there has room for its heading, its data and its counter
pub record HasRoom (rest : List ℕ) : Type 0 where
  pub overhead : 12 ≤ length rest
  pub whole : 12 + data_length rest ≤ length rest

abbrev pub IsCutShort : List ℕ → Type 0
IsCutShort rest = (length rest < 12) ⊎ (length rest < 12 + data_length rest)

-- a datagram that says that another follows and ends the area, or says that it is the last and doesn't
pub record SaysMoreWrongly (rest : List ℕ) : Type 0 where
  pub more : Bool
  pub datagram : Datagram
  pub after : List ℕ
  pub good : IsDatagram datagram
  pub parts : rest ≡ spelling more datagram ++ after
  pub wrong : ((more ≡ true) × (after ≡ [])) ⊎ ((more ≡ false) × (0 < length after))

-- the fault of the rest, at a place where a datagram must begin
abbrev pub FaultAt : List ℕ → FrameError → Type 0
FaultAt rest BadLength = IsCutShort rest
FaultAt rest BadCommand = HasRoom rest × (14 < slice_index rest 0)
FaultAt rest BadMore = SaysMoreWrongly rest
FaultAt rest Short = ⊥
FaultAt rest BadType = ⊥
FaultAt rest TooLong = ⊥

-- The first fault of the datagrams' area: good datagrams that say that another follows, and then it.
pub record FirstFault (area : List ℕ) (e : FrameError) : Type 0 where
  pub before : List Datagram
  pub rest : List ℕ
  pub each : AllByRecursion IsDatagram before
  pub some : 0 < length rest
  pub parts : area ≡ opened before ++ rest
  pub fault : FaultAt rest e

-- the first test of a payload that fails
abbrev pub IsRefused : List ℕ → FrameError → Type 0
IsRefused payload Short = (length payload < 2) ⊎ (HasHeader payload × (length payload < 2 + length_field payload))
IsRefused payload BadType = (2 ≤ length payload) × (type_field payload ≢ 1)
IsRefused payload TooLong = (2 ≤ length payload) × (type_field payload ≡ 1) × (1470 < length_field payload)
IsRefused payload BadLength = HasArea payload × ((length_field payload ≡ 0) ⊎ FirstFault (area payload) BadLength)
IsRefused payload BadCommand = HasArea payload × FirstFault (area payload) BadCommand
IsRefused payload BadMore = HasArea payload × FirstFault (area payload) BadMore
