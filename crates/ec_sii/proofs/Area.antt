-- What stands from 0x40 on: the categories, and 0xFFFF behind them.
use Rattle.std.proofs.Common.{ℕ, zero, suc, ◌+◌, ◌-◌, ◌*◌, ◌%◌, ◌^◌, ◌<◌, ◌≤◌, ◌≡◌, ◌==◌, nat_le, true, false, List, [], ◌∷◌, ◌++◌, length, map, replicate, get_or, Option, Some, unwrap_or, slice_get, refl, ap, ◌∙◌, arith}
use Rattle.std.specs.List.{range_with_len}
use Rattle.std.proofs.lemmas.Bool.Decides.{nat_tests}
use Rattle.std.proofs.lemmas.Option.{slice_get_past}
use Rattle.ec_bits.specs.Bits.{within}
use Rattle.ec_sii.specs.declared.image.SiiImage.{SiiImage}
use Rattle.ec_sii.specs.SiiImage.{word_at, other_word, size_of, kibibits}
use Rattle.ec_sii.specs.Reading.{area_read}
use Rattle.ec_sii.specs.Laws.{ShowsCategories, CategoriesAreShown}

-- the numbers of a function that shows a list, and one number past it
pub padded : (f : ℕ → ℕ) (mark : ℕ) (xs : List ℕ) (a n : ℕ) → ((i : ℕ) → f (a + i) ≡ unwrap_or (slice_get xs i) mark) → length xs ≤ n → map f (range_with_len a n) ≡ xs ++ replicate (n - length xs) mark
padded f mark [] a zero shows few = refl
padded f mark [] a (suc n) shows few =
    let first : f a ≡ mark = ap f (let e : a ≡ a + 0 = omega arith in e) ∙ shows 0 in
    let next : (i : ℕ) → f ((a + 1) + i) ≡ mark = λ i. ap f (let e : (a + 1) + i ≡ a + suc i = omega arith in e) ∙ shows (suc i) in
    let more : suc n - 0 ≡ suc (n - 0) = omega arith in
    rw (first, padded f mark [] (a + 1) n next (omega arith), more) refl
padded f mark (x ∷ xs) a zero shows few = absurd (omega arith)
padded f mark (x ∷ xs) a (suc n) shows few =
    let first : f a ≡ x = ap f (let e : a ≡ a + 0 = omega arith in e) ∙ shows 0 in
    let next : (i : ℕ) → f ((a + 1) + i) ≡ unwrap_or (slice_get xs i) mark = λ i. ap f (let e : (a + 1) + i ≡ a + suc i = omega arith in e) ∙ shows (suc i) in
    let less : suc n - suc (length xs) ≡ n - length xs = omega arith in
    rw (first, padded f mark xs (a + 1) n next (omega arith), less) refl

-- ---- the words of an image with categories

pub size-is : (o : Option (List ℕ)) (cs : List ℕ) → o ≡ Some cs → size_of o ≡ kibibits cs
size-is o cs e = ap size_of e

pub other-is : (image : SiiImage) (cs : List ℕ) → image.categories ≡ Some cs → (address : ℕ) → 0x1D ≤ address → word_at image address ≡ other_word (Some cs) address
unfolding word_at
other-is image cs e address from =
    let a : within 0x08 8 address ≡ false = grind (arith, nat_tests) in
    let b : within 0x18 5 address ≡ false = grind (arith, nat_tests) in
    rw (a, b) (ap (λ (o : Option (List ℕ)). other_word o address) e)

pub from-40 : (cs : List ℕ) (i : ℕ) → other_word (Some cs) (0x40 + i) ≡ unwrap_or (slice_get cs i) 0xFFFF
from-40 cs i =
    let a : (0x40 + i == 0x3E) ≡ false = grind (arith, nat_tests) in
    let b : (0x40 + i == 0x3F) ≡ false = grind (arith, nat_tests) in
    let c : nat_le 0x40 (0x40 + i) ≡ true = grind (arith, nat_tests) in
    let d : (0x40 + i) - 0x40 ≡ i = omega arith in
    rw (a, b, c, d) refl

pub shows : (image : SiiImage) (cs : List ℕ) → image.categories ≡ Some cs → (i : ℕ) → word_at image (0x40 + i) ≡ unwrap_or (slice_get cs i) 0xFFFF
shows image cs e i = other-is image cs e (0x40 + i) (omega arith) ∙ from-40 cs i

got : (cs : List ℕ) (k : ℕ) → k < length cs → unwrap_or (slice_get cs k) 0xFFFF ≡ get_or cs k 0
got [] k h = absurd (omega arith)
got (c ∷ cs) zero h = refl
got (c ∷ cs) (suc k) h = got cs k (omega arith)

got-past : (cs : List ℕ) (k : ℕ) → length cs ≤ k → unwrap_or (slice_get cs k) 0xFFFF ≡ 0xFFFF
got-past cs k h = rw (slice_get_past cs k h) refl

pub categories_law : CategoriesAreShown
categories_law image cs e few =
    let size : size_of image.categories ≡ kibibits cs = size-is image.categories cs e in
    let word : word_at image 0x3E ≡ (kibibits cs - 1) % 65536 = other-is image cs e 0x3E (omega arith) in
    let small : (kibibits cs - 1) % 65536 ≡ kibibits cs - 1 = omega arith in
    record {
      size = omega (arith, size, word, small);
      version = other-is image cs e 0x3F (omega arith);
      each = λ k below. shows image cs e k ∙ got cs k below;
      behind = λ address from.
          let k : ℕ = address - 0x40 in
          let same : address ≡ 0x40 + k = omega arith in
          ap (word_at image) same ∙ shows image cs e k ∙ got-past cs k (omega arith);
      room = omega (arith, size);
      fewest = omega (arith, size);
    }

-- all words from 0x40 to the end: the categories, the end mark, and more of it
pub area-is : (image : SiiImage) (cs : List ℕ) → image.categories ≡ Some cs → length cs < 2 ^ 22 - 2 ^ 7 → (ys : List ℕ) × (area_read image ≡ cs ++ 0xFFFF ∷ ys)
area-is image cs e few =
    let all : ShowsCategories image cs = categories_law image cs e few in
    let n : ℕ = 64 * (word_at image 0x3E + 1) - 0x40 in
    let k : ℕ = n - length cs - 1 in
    let more : n - length cs ≡ suc k = omega (arith, all.size, all.room) in (
      replicate k 0xFFFF,
      padded (word_at image) 0xFFFF cs 0x40 n (shows image cs e) (omega (arith, all.size, all.room))
          ∙ ap (λ (m : ℕ). cs ++ replicate m 0xFFFF) more,
    )
