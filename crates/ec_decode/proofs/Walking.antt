-- The step of a walk over datagrams that stand one after another.
use Rattle.std.proofs.Common.{◌≡◌, ℕ, ◌+◌, ◌<◌, ◌≤◌, Bool, List, [], ◌∷◌, ◌++◌, length, take, drop, refl, sym, ap, ◌∙◌, append_assoc, append-nil, arith}
use Rattle.std.proofs.lemmas.List.{drop_at, take_at}
use Rattle.ec_frame.specs.Datagram.{Datagram, IsDatagram, IsSpelling, data_length, spelling}
use Rattle.ec_frame.proofs.Readings.{spelling_length}
use Rattle.ec_frame.proofs.Decoding.{data_length_again}
use Rattle.ec_decode.specs.FrameText.{Text, datagram_line, datagram_lines}
use Rattle.ec_decode.specs.Standing.{BeginsOne, BeginsWith}

-- of some datagrams, those whose lines aren't written yet stand at the front of what is left
pub record Left (ds : List Datagram) (rest : List ℕ) (n : ℕ) (old now : Text) : Type 0 where
  pub others : List Datagram
  pub begins : BeginsWith rest others
  pub counted : n + length others ≡ length ds
  pub text : now ++ datagram_lines n others ≡ old ++ datagram_lines 0 ds

-- the part that a datagram spells, and what follows it
pub record Cut (rest : List ℕ) (d : Datagram) (after : List ℕ) (len : ℕ) : Type 0 where
  pub more : Bool
  pub good : IsDatagram d
  pub long : 12 ≤ length rest
  pub within : len ≤ length rest
  pub part : take len rest ≡ spelling more d
  pub left : drop len rest ≡ after

bare : (m : Bool) (d : Datagram) → length (spelling m d) ≡ 12 + length d.data_bytes
bare m d = omega (arith, spelling_length m d [], ap length (append-nil (spelling m d)))

pub cut_at : (rest : List ℕ) (d : Datagram) (after : List ℕ) (len : ℕ) → BeginsOne rest d after → len ≡ 12 + data_length rest → Cut rest d after len
cut_at rest d after len b is =
    let long : data_length rest ≡ length d.data_bytes = ap data_length b.parts ∙ data_length_again b.more d after b.good in
    let size : length (spelling b.more d) ≡ len = bare b.more d ∙ omega arith in
    let whole = ap length b.parts ∙ spelling_length b.more d after in
    record {
      more = b.more;
      good = b.good;
      long = omega arith;
      within = omega arith;
      part = ap (λ (xs : List ℕ). take len xs) b.parts ∙ take_at (spelling b.more d) after len size;
      left = ap (λ (xs : List ℕ). drop len xs) b.parts ∙ drop_at (spelling b.more d) after len size;
    }

-- what the one step has to know: a datagram stands there
pub record Next (rest : List ℕ) : Type 0 where
  pub one : Datagram
  pub after : List ℕ
  pub begins : BeginsOne rest one after

next_of : (ds : List Datagram) (rest : List ℕ) (n : ℕ) (others : List Datagram) → BeginsWith rest others → n + length others ≡ length ds → n < length ds → Next rest
next_of ds rest n [] b counted less = absurd (omega arith)
next_of ds rest n (d ∷ es) b counted less = record { one = d; after = b.0; begins = b.1 }

pub next_in : (ds : List Datagram) (rest : List ℕ) (n : ℕ) (old now : Text) → Left ds rest n old now → n < length ds → Next rest
next_in ds rest n old now l less = next_of ds rest n l.others l.begins l.counted less

pub spelled : (rest : List ℕ) (len : ℕ) → Next rest → len ≡ 12 + data_length rest → IsSpelling (take len rest)
spelled rest len t is = let c = cut_at rest t.one t.after len t.begins is in (c.more, t.one, c.good, c.part)

pub room : (rest : List ℕ) → Next rest → 12 ≤ length rest
room rest t = (cut_at rest t.one t.after (12 + data_length rest) t.begins refl).long

pub within : (rest : List ℕ) (len : ℕ) → Next rest → len ≡ 12 + data_length rest → len ≤ length rest
within rest len t is = (cut_at rest t.one t.after len t.begins is).within

left_after : (ds : List Datagram) (rest : List ℕ) (n len : ℕ) (old now more : Text) (others : List Datagram) → BeginsWith rest others → n + length others ≡ length ds → now ++ datagram_lines n others ≡ old ++ datagram_lines 0 ds
    → n < length ds → len ≡ 12 + data_length rest → ((m : Bool) (d : Datagram) → IsDatagram d → take len rest ≡ spelling m d → more ≡ now ++ datagram_line n d) → Left ds (drop len rest) (n + 1) old more
left_after ds rest n len old now more [] b counted text less is added = absurd (omega arith)
left_after ds rest n len old now more (d ∷ es) b counted text less is added =
    let c = cut_at rest d b.0 len b.1 is in
    record {
      others = es;
      begins = rw (c.left) b.2;
      counted = omega arith;
      text = ap (λ (t : Text). t ++ datagram_lines (n + 1) es) (added c.more d c.good c.part) ∙ append_assoc now (datagram_line n d) (datagram_lines (n + 1) es) ∙ text;
    }

pub left_step : (ds : List Datagram) (rest part after : List ℕ) (n len : ℕ) (old now more : Text) → Left ds rest n old now → n < length ds → len ≡ 12 + data_length rest → part ≡ take len rest → after ≡ drop len rest
    → ((m : Bool) (d : Datagram) → IsDatagram d → part ≡ spelling m d → more ≡ now ++ datagram_line n d) → Left ds after (n + 1) old more
left_step ds rest part after n len old now more l less is front back added =
    rw back (left_after ds rest n len old now more l.others l.begins l.counted l.text less is (λ m d good e. added m d good (front ∙ e)))

left_none : (ds : List Datagram) (n : ℕ) (old now : Text) (others : List Datagram) → n + length others ≡ length ds → length ds ≤ n → now ++ datagram_lines n others ≡ old ++ datagram_lines 0 ds → now ≡ old ++ datagram_lines 0 ds
left_none ds n old now [] counted all text = sym (append-nil now) ∙ text
left_none ds n old now (d ∷ es) counted all text = absurd (omega arith)

pub left_all : (ds : List Datagram) (rest : List ℕ) (n : ℕ) (old now : Text) → Left ds rest n old now → length ds ≤ n → now ≡ old ++ datagram_lines 0 ds
left_all ds rest n old now l all = left_none ds n old now l.others l.counted all l.text

pub left_start : (ds : List Datagram) (bytes : List ℕ) (old : Text) → BeginsWith bytes ds → Left ds bytes 0 old old
left_start ds bytes old b = record { others = ds; begins = b; counted = omega arith; text = refl }
