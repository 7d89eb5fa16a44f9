-- Where the datagrams and the rest of a frame stand in its payload.
use Rattle.std.proofs.Common.{◌≡◌, ℕ, ◌+◌, ◌/◌, ◌%◌, ◌≤◌, Bool, true, false, eqb, List, [], ◌∷◌, ◌++◌, length, drop, sym, ap, ◌∙◌, append_assoc, arith}
use Rattle.std.specs.List.{AllByRecursion}
use Rattle.std.proofs.lemmas.List.{drop_at, length-append}
use Rattle.std.proofs.lemmas.Bool.Decides.{nat_tests}
use Rattle.byteorder.specs.Endian.{little_number}
use Rattle.ec_frame.specs.Datagram.{Datagram, IsDatagram, is_followed, joined, opened, spelling}
use Rattle.ec_frame.specs.Frame.{IsFrame, Payload, length_field}
use Rattle.ec_frame.proofs.FrameOrFault.{area_is, reserved_bit}
use Rattle.ec_decode.specs.Standing.{BeginsWith}

pub joined_begins : (ds : List Datagram) (rest : List ℕ) → AllByRecursion IsDatagram ds → BeginsWith (joined ds ++ rest) ds
joined_begins [] rest each = tt
joined_begins (d ∷ ds) rest each =
    (joined ds ++ rest, record { more = is_followed ds; good = each.0; parts = append_assoc (spelling (is_followed ds) d) (joined ds) rest }, joined_begins ds rest each.1)

pub opened_begins : (ds : List Datagram) (rest : List ℕ) → AllByRecursion IsDatagram ds → BeginsWith (opened ds ++ rest) ds
opened_begins [] rest each = tt
opened_begins (d ∷ ds) rest each =
    (opened ds ++ rest, record { more = true; good = each.0; parts = append_assoc (spelling true d) (opened ds) rest }, opened_begins ds rest each.1)

bit_again : (b : Bool) (n w : ℕ) → n ≤ 1470 → w ≡ n + reserved_bit b + 4096 → eqb (w / 2048 % 2) 1 ≡ b
bit_again true n w most e = grind (arith, nat_tests)
bit_again false n w most e = grind (arith, nat_tests)

-- what a frame's payload says of its parts
pub record Parts (payload : List ℕ) (p : Payload) : Type 0 where
  pub header : 2 ≤ length payload
  pub within : length_field payload ≤ length (drop 2 payload)
  pub reserved : eqb (little_number 2 payload / 2048 % 2) 1 ≡ p.reserved
  pub rest : drop (length_field payload) (drop 2 payload) ≡ p.rest
  pub begins : BeginsWith (drop 2 payload) p.datagrams

pub parts_of : (payload : List ℕ) (p : Payload) → IsFrame payload p → Parts payload p
parts_of payload p f =
    let a = area_is payload p f in
    let ds = p.datagrams in
    let said = a.said in
    let whole = ap length a.rest ∙ length-append (joined ds) p.rest in
    record {
      header = a.has.header.whole;
      within = omega arith;
      reserved = bit_again p.reserved (length (joined ds)) (little_number 2 payload) f.most a.number;
      rest = ap (λ (xs : List ℕ). drop (length_field payload) xs) a.rest ∙ drop_at (joined ds) p.rest (length_field payload) (sym said);
      begins = rw a.rest (joined_begins ds p.rest f.each);
    }
