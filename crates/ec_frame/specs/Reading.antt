-- What the private readers under `check` return.
use Rattle.std.specs.Prelude.{◌≡◌, ℕ, ◌+◌, ◌<◌, true, false, not, List, [], ◌++◌, length, Result, Ok, Err}
use Rattle.std.specs.List.{AllByRecursion}
use Rattle.ec_frame.specs.declared.error.FrameError.{FrameError}
use Rattle.ec_frame.specs.declared.checking.Shape.{Shape}
use Rattle.ec_frame.specs.Datagram.{Datagram, spelling, IsDatagram, joined}
use Rattle.ec_frame.specs.Frame.{Payload, IsFrame}
use Rattle.ec_frame.specs.Refusals.{FaultAt, FirstFault, IsRefused}

-- a good datagram begins the bytes, and says rightly whether it is the last
pub record HasShape (rest : List ℕ) (s : Shape) : Type 0 where
  pub datagram : Datagram
  pub after : List ℕ
  pub good : IsDatagram datagram
  pub parts : rest ≡ spelling (not s.is_last) datagram ++ after
  pub len : s.len ≡ 12 + length datagram.data_bytes
  pub ends : s.is_last ≡ true → after ≡ []
  pub goes_on : s.is_last ≡ false → 0 < length after

abbrev pub GivesShape : List ℕ → Result Shape FrameError → Type 0
GivesShape rest (Ok s) = HasShape rest s
GivesShape rest (Err e) = FaultAt rest e

abbrev pub GivesCount : List ℕ → Result ℕ FrameError → Type 0
GivesCount area (Ok count) =
    (ds : List Datagram) × AllByRecursion IsDatagram ds × (area ≡ joined ds) × (count ≡ length ds)
GivesCount area (Err e) = FirstFault area e

abbrev pub GivesVerdict : List ℕ → Result ℕ FrameError → Type 0
GivesVerdict payload (Ok count) = (p : Payload) × IsFrame payload p × (count ≡ length p.datagrams)
GivesVerdict payload (Err e) = IsRefused payload e
