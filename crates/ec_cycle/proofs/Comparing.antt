-- To be the same from the first datagram on is to have the same shapes, the same name and the same process addresses.
use Rattle.std.proofs.Common.{ℕ, ◌+◌, ◌*◌, ◌^◌, ◌<◌, ◌≤◌, ◌≡◌, Option, Some, None, refl, sym, ◌∙◌, ap, arith, List, [], ◌∷◌, length, map, get_or, slice_get}
use Rattle.std.specs.Option.{option_map_or}
use Rattle.ec_frame.specs.declared.name.FrameName.{FrameName}
use Rattle.ec_frame.specs.Datagram.{Datagram}
use Rattle.ec_frame.specs.Names.{name_bytes, name_of, shape}
use Rattle.ec_cycle.specs.Master.{process_addresses}
use Rattle.ec_cycle.specs.Matching.{SameFrom, Names}

tail_same : (n : ℕ) (ds es : List Datagram) → 2 ≤ n → SameFrom n ds es → (map shape ds ≡ map shape es) × (map (λ (d : Datagram). d.address) ds ≡ map (λ (d : Datagram). d.address) es)
tail_same n [] [] l h = (refl, refl)
tail_same n [] (e ∷ es) l h = absurd h
tail_same n (d ∷ ds) [] l h = absurd h
tail_same n (d ∷ ds) (e ∷ es) l h =
    let r = tail_same (n + 1) ds es (omega arith) h.1 in (
      ap (λ s. s ∷ map shape ds) h.0.shapes ∙ ap (λ ss. shape e ∷ ss) r.0,
      ap (λ (a : ℕ). a ∷ map (λ (d : Datagram). d.address) ds) (h.0.addresses l) ∙ ap (λ (as2 : List ℕ). e.address ∷ as2) r.1,
    )

same_tail : (n : ℕ) (ds es : List Datagram) → 2 ≤ n → map shape ds ≡ map shape es → map (λ (d : Datagram). d.address) ds ≡ map (λ (d : Datagram). d.address) es → SameFrom n ds es
same_tail n [] [] l a b = tt
same_tail n [] (e ∷ es) l a b = absurd (cc)
same_tail n (d ∷ ds) [] l a b = absurd (cc)
same_tail n (d ∷ ds) (e ∷ es) l a b =
    let s : shape d ≡ shape e = cc in
    let ss : map shape ds ≡ map shape es = cc in
    let x : d.address ≡ e.address = cc in
    let xs : map (λ (d : Datagram). d.address) ds ≡ map (λ (d : Datagram). d.address) es = cc in
    (record { shapes = s; named = λ z. absurd (omega arith); addresses = λ m. x }, same_tail (n + 1) ds es (omega arith) ss xs)

pub same_answers : (ds es : List Datagram) → SameFrom 0 ds es → (map shape ds ≡ map shape es) × (name_of ds ≡ name_of es) × (process_addresses ds ≡ process_addresses es)
same_answers [] [] h = (refl, refl, refl)
same_answers [] (e ∷ es) h = absurd h
same_answers (d ∷ ds) [] h = absurd h
same_answers (d ∷ []) (e ∷ []) h = (ap (λ s. s ∷ []) h.0.shapes, h.0.named refl, refl)
same_answers (d ∷ []) (e ∷ f ∷ es) h = absurd h.1
same_answers (d ∷ b ∷ ds) (e ∷ []) h = absurd h.1
same_answers (d ∷ b ∷ ds) (e ∷ f ∷ es) h =
    let r = tail_same 2 ds es (omega arith) h.1.1 in
    (ap (λ s. s ∷ shape b ∷ map shape ds) h.0.shapes ∙ (ap (λ s. shape e ∷ s ∷ map shape ds) h.1.0.shapes ∙ ap (λ ss. shape e ∷ shape f ∷ ss) r.0), h.0.named refl, r.1)

pub answers_same : (ds es : List Datagram) → map shape ds ≡ map shape es → name_of ds ≡ name_of es → process_addresses ds ≡ process_addresses es → SameFrom 0 ds es
answers_same [] [] a b c = tt
answers_same [] (e ∷ es) a b c = absurd (cc)
answers_same (d ∷ ds) [] a b c = absurd (cc)
answers_same (d ∷ []) (e ∷ []) a b c = let s : shape d ≡ shape e = cc in (record { shapes = s; named = λ z. b; addresses = λ m. absurd (omega arith) }, tt)
answers_same (d ∷ []) (e ∷ f ∷ es) a b c = absurd (cc)
answers_same (d ∷ g ∷ ds) (e ∷ []) a b c = absurd (cc)
answers_same (d ∷ g ∷ ds) (e ∷ f ∷ es) a b c =
    let s : shape d ≡ shape e = cc in
    let t : shape g ≡ shape f = cc in
    let ss : map shape ds ≡ map shape es = cc in
    (record { shapes = s; named = λ z. b; addresses = λ m. absurd (omega arith) }, (record { shapes = t; named = λ z. absurd (omega arith); addresses = λ m. absurd (omega arith) }, same_tail 2 ds es (omega arith) ss c))

-- ---- the name

-- its last two bytes
abbrev last_two : List ℕ → ℕ
last_two xs = get_or xs 8 0 + 256 * get_or xs 9 0

name_read : (number k : ℕ) → k < 2 ^ 16 → last_two (name_bytes number k) ≡ k
name_read number k l = omega arith

one_part : (number other k j : ℕ) → k < 2 ^ 16 → j < 2 ^ 16 → name_bytes number k ≡ name_bytes other j → k ≡ j
one_part number other k j l m e = sym (name_read number k l) ∙ (ap last_two e ∙ name_read other j m)

pub names_part : (number k : ℕ) (ds : List Datagram) (r : Option ℕ) → k < 2 ^ 16 → name_of ds ≡ name_bytes number k → Names (slice_get ds 0) r → r ≡ Some k
names_part number k [] r l e h = absurd (let z = ap length e in omega arith)
names_part number k (d ∷ ds) None l e h = absurd (h (ap length e))
names_part number k (d ∷ ds) (Some j) l e h = ap (λ n. Some n) (one_part h.0 number j k h.1 l (sym h.2 ∙ e))

pub named_of : (number k : ℕ) (ds : List Datagram) → k < 2 ^ 16 → name_of ds ≡ name_bytes number k → Names (slice_get ds 0) (Some k)
named_of number k [] l e = absurd (let z = ap length e in omega arith)
named_of number k (d ∷ ds) l e = (number, l, e)

-- one name
pub names_one : (o : Option Datagram) (k j : ℕ) → Names o (Some k) → Names o (Some j) → k ≡ j
names_one None k j a b = absurd (let e : Some k ≡ None = a in cc)
names_one (Some d) k j a b = one_part a.0 b.0 k j a.1 b.1 (sym a.2 ∙ b.2)

-- data that spell a name, or none
pub reads_name : (o : Option Datagram) (bytes : List ℕ) (name : FrameName) → bytes ≡ option_map_or (λ (d : Datagram). d.data_bytes) o [] → bytes ≡ name_bytes name.number name.part → name.part < 2 ^ 16 → Names o (Some name.part)
reads_name None bytes name e is l = absurd (let z = ap length (sym e ∙ is) in omega arith)
reads_name (Some d) bytes name e is l = (name.number, l, sym e ∙ is)

pub reads_none : (o : Option Datagram) (bytes : List ℕ) → bytes ≡ option_map_or (λ (d : Datagram). d.data_bytes) o [] → (length bytes ≡ 10 → ⊥) → Names o None
reads_none None bytes e h = refl
reads_none (Some d) bytes e h = λ ten. h (ap length e ∙ ten)
