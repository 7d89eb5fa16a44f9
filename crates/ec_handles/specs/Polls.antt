-- When a frame of a start-up polls again.
use Rattle.std.specs.Prelude.{◌≡◌, ◌+◌, ◌<◌, ◌==◌, ◌||◌, ◌↔◌, ℕ, Bool, true, false, IsTrue, List, get_or, length, slice_range, take}
use Rattle.ec_frame.specs.declared.command.Command.TheVariants.{Lrw, Lwr}
use Rattle.ec_frame.specs.Commands.{number_of}
use Rattle.ec_handles.specs.declared.polling.Polling.{Polling}

-- the place of a frame's second datagram, which asks; the first names the frame
abbrev pub asking : ℕ
asking = 24

-- A frame asks what another one asked: their second datagrams have the same command, and are the same behind the Idx.
pub record AsksAgain (last next : List ℕ) : Type 0 where
  pub size : length last ≡ length next
  pub there : asking + 1 < length last
  pub command : get_or last asking 0 ≡ get_or next asking 0
  pub rest : slice_range last (asking + 2) (length last) ≡ slice_range next (asking + 2) (length next)

-- A frame feeds a part: no other of a start-up writes logical addresses.
abbrev pub feeds_part : List ℕ → Bool
feeds_part frame = (get_or frame asking 0 == number_of Lwr) || (get_or frame asking 0 == number_of Lrw)

-- What is noted of a frame. One that feeds belongs to the poll behind it, which may ask again what the poll before it asked.
abbrev pub Notes : (feeds : Bool) → Polling → List ℕ → Polling → Type 0
Notes true old frame new = new ≡ record old { is_again = false }
Notes false old frame new = (IsTrue new.is_again ↔ AsksAgain old.last.items frame) × (new.last.items ≡ take 1472 frame)
