-- The datagrams that bytes spell, read from the front. The law `FramesAreDecoded` ties them to `IsFrame`.
use Rattle.std.specs.Prelude.{ℕ, zero, suc, ◌/◌, ◌%◌, nat_eq, List, [], ◌∷◌, length, take, drop, get_or}
use Rattle.byteorder.specs.Endian.{little_number}
use Rattle.ec_frame.specs.declared.command.Command.{Command}
use Rattle.ec_frame.specs.declared.command.Command.TheVariants.{Nop, Aprd, Apwr, Aprw, Fprd, Fpwr, Fprw, Brd, Bwr, Brw, Lrd, Lwr, Lrw, Armw, Frmw}
use Rattle.ec_frame.specs.Datagram.{Datagram, data_length}
use Rattle.ec_frame.specs.Frame.{area}

abbrev pub command_at : ℕ → Command
command_at n =
    get_or (Nop ∷ Aprd ∷ Apwr ∷ Aprw ∷ Fprd ∷ Fpwr ∷ Fprw ∷ Brd ∷ Bwr ∷ Brw ∷ Lrd ∷ Lwr ∷ Lrw ∷ Armw ∷ Frmw ∷ []) n Nop

-- the counter and what follows the datagram
abbrev pub after_data : List ℕ → List ℕ
after_data bytes = drop (data_length bytes) (drop 10 bytes)

-- the datagram that begins the bytes
abbrev pub decoded : List ℕ → Datagram
decoded bytes = record {
  command = command_at (get_or bytes 0 0);
  index = get_or bytes 1 0;
  address = little_number 4 (drop 2 bytes);
  reserved = little_number 2 (drop 6 bytes) / 2048 % 8;
  circulating = nat_eq (little_number 2 (drop 6 bytes) / 16384 % 2) 1;
  irq = little_number 2 (drop 8 bytes);
  data_bytes = take (data_length bytes) (drop 10 bytes);
  counter = little_number 2 (after_data bytes);
}

-- the datagrams one after another, as many as the number at most
abbrev pub datagrams_in : ℕ → List ℕ → List Datagram
datagrams_in zero bytes = []
datagrams_in (suc n) [] = []
datagrams_in (suc n) (b ∷ bytes) =
    decoded (b ∷ bytes) ∷ datagrams_in n (drop 2 (after_data (b ∷ bytes)))

-- the datagrams of a frame
abbrev pub datagrams_of : List ℕ → List Datagram
datagrams_of payload = datagrams_in (length (area payload)) (area payload)
