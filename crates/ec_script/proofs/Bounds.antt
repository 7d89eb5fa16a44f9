-- The lines of a script are bounded in number.
use Rattle.std.proofs.Common.{◌≡◌, ◌∙◌, ℕ, zero, suc, ◌+◌, ◌-◌, ◌*◌, ◌^◌, ◌<◌, ◌≤◌, List, [], ◌∷◌, ◌++◌, length, Bool, true, false, nat_lt, Option, Some, None, Result, Ok, Err, if◌then◌else◌, length-append, refl, sym, ap, subst, arith}
use Rattle.std.specs.Str.Lines.{lines}
use Rattle.std.proofs.lemmas.Bool.Decides.{nat_tests}
use Rattle.std.proofs.Math.Nat.{add-mul, mul-le-mul_right, mul_assoc, mul_comm, pow-le-pow_right, pow-suc, suc-mul, zero-mul}
use Rattle.ec_table.specs.Contents.{Contents}
use Rattle.ec_script.specs.declared.draft.PieceReading.{PieceReading}
use Rattle.ec_script.specs.declared.draft.PieceReading.TheVariants as read_as
use Rattle.ec_script.specs.declared.line.Line.{Line}
use Rattle.ec_script.specs.declared.script.Piece.{Piece}
use Rattle.ec_script.specs.declared.script.Piece.TheVariants as piece
use Rattle.ec_script.specs.Blocks.{again, first, layers, opened, others, unrolled}
use Rattle.ec_script.specs.Scripts.{BoundedScripts, before_pieces, piece_reading, pieces_from, unrolled_if, with_opened, with_piece}
use Rattle.ec_script.specs.Stages.{AreNested, IsBegun, IsBegunIf}
use Rattle.ec_script.specs.Words.{Text}
use Rattle.ec_script.proofs.Begun.{piece_begun}

-- ---- the weight of layers: each line counts for all rounds of the blocks around it

-- the most rounds of a block
abbrev pub most : ℕ
most = 1000000

abbrev weight : ℕ → List (List Line) → ℕ
weight depth [] = 0
weight depth (layer ∷ layers) = length layer * most ^ depth + weight (depth - 1) layers

weight_is : (depth : ℕ) (ls : List (List Line)) → weight depth ls ≡ length (first ls) * most ^ depth + weight (depth - 1) (others ls)
weight_is depth [] = let z : 0 * most ^ depth ≡ 0 = zero-mul (most ^ depth) in omega arith
weight_is depth (l ∷ ls) = refl

abbrev pub AreFew : List Piece → Type 0
AreFew [] = Unit {0}
AreFew (piece.Line line ∷ pieces) = AreFew pieces
AreFew (piece.Open n ∷ pieces) = (n ≤ most) × AreFew pieces
AreFew (piece.Close ∷ pieces) = AreFew pieces

-- so much for each piece
abbrev total : List Piece → ℕ → ℕ
total [] each = 0
total (p ∷ pieces) each = each + total pieces each

total_is : (pieces : List Piece) (each : ℕ) → total pieces each ≡ length pieces * each
total_is [] each = sym (zero-mul each)
total_is (p ∷ pieces) each =
    let long : length (p ∷ pieces) ≡ suc (length pieces) = omega arith in
    let whole : length (p ∷ pieces) * each ≡ length pieces * each + each = ap (λ k. k * each) long ∙ suc-mul (length pieces) each in
    let rest = total_is pieces each in
    omega arith

length_again : (n : ℕ) (xs : List Line) → length (again n xs) ≡ n * length xs
length_again zero xs = sym (zero-mul (length xs))
length_again (suc n) xs =
    let rest = length_again n xs in
    let both = length-append xs (again n xs) in
    let whole = suc-mul n (length xs) in
    omega arith

-- a block's lines, which are n times as many, one level further out
block_weight : (n a b out next : ℕ) → n ≤ most → next ≡ out * most → (n * a + b) * out ≤ a * next + b * out
block_weight n a b out next few up =
    let fewer : (n * a) * out ≤ (most * a) * out = mul-le-mul_right out (mul-le-mul_right a few) in
    let turned : (most * a) * out ≡ a * next = ap (λ (k : ℕ). k * out) (mul_comm most a) ∙ (mul_assoc a most out ∙ ap (λ (k : ℕ). a * k) (mul_comm most out ∙ sym up)) in
    let split : (n * a + b) * out ≡ (n * a) * out + b * out = add-mul (n * a) b out in
    omega arith

line_bound : (line : Line) (depth : ℕ) (now : List (List Line)) (rest each : ℕ) → most ^ depth ≤ each → weight depth now ≤ rest → weight depth ((line ∷ first now) ∷ others now) ≤ each + rest
line_bound line depth now rest each high h =
    let long : length (line ∷ first now) ≡ suc (length (first now)) = omega arith in
    let one : length (line ∷ first now) * most ^ depth ≡ length (first now) * most ^ depth + most ^ depth =
    ap (λ (k : ℕ). k * most ^ depth) long ∙ suc-mul (length (first now)) (most ^ depth) in
    let is = weight_is depth now in
    omega arith

open_bound : (n depth : ℕ) (now : List (List Line)) (rest : ℕ) → n ≤ most → weight (depth + 1) now ≤ rest → weight depth ((again n (first now) ++ first (others now)) ∷ others (others now)) ≤ rest
open_bound n depth now rest few h =
    let is = weight_is (depth + 1) now in
    let back : depth + 1 - 1 ≡ depth = omega arith in
    let same : weight (depth + 1 - 1) (others now) ≡ weight depth (others now) = ap (λ (k : ℕ). weight k (others now)) back in
    let next = weight_is depth (others now) in
    let long : length (again n (first now) ++ first (others now)) ≡ n * length (first now) + length (first (others now)) =
    length-append (again n (first now)) (first (others now)) ∙ ap (λ (k : ℕ). k + length (first (others now))) (length_again n (first now)) in
    let first_is = ap (λ (k : ℕ). k * most ^ depth) long in
    let further : depth + 1 ≡ suc depth = omega arith in
    let up : most ^ (depth + 1) ≡ most ^ depth * most = ap (λ (k : ℕ). most ^ k) further ∙ pow-suc most depth in
    let less = block_weight n (length (first now)) (length (first (others now))) (most ^ depth) (most ^ (depth + 1)) few up in
    omega arith

bound : (pieces : List Piece) (depth : ℕ) → depth ≤ 8 → AreNested depth pieces 0 → AreFew pieces → weight depth (layers pieces) ≤ total pieces (most ^ 8)
unfolding layers
bound [] depth top nested few = let z : 0 * most ^ depth ≡ 0 = zero-mul (most ^ depth) in omega arith
bound (piece.Close ∷ pieces) depth top nested few =
    let z : 0 * most ^ depth ≡ 0 = zero-mul (most ^ depth) in
    let rest = bound pieces (depth - 1) (omega arith) nested.1 few in
    omega arith
bound (piece.Line line ∷ pieces) depth top nested few =
    line_bound line depth (layers pieces) (total pieces (most ^ 8)) (most ^ 8) (pow-le-pow_right (omega arith) top) (bound pieces depth top nested few)
bound (piece.Open n ∷ pieces) depth top nested few =
    let some : depth < 8 = nested.1 in
    let inner = open_bound n depth (layers pieces) (total pieces (most ^ 8)) few.0 (bound pieces (depth + 1) (omega arith) nested.2 few.1) in
    omega arith

-- ---- what is read

-- pieces of so many texts, with so many blocks around the first
abbrev pub AreOf : ℕ → List Piece → ℕ → Type 0
AreOf depth pieces texts = AreNested depth pieces 0 × AreFew pieces × (length pieces ≤ texts)

same_ok : (xs ys : List Piece) → ◌≡◌ {A = Result (List Piece) ℕ} (Ok xs) (Ok ys) → xs ≡ ys
same_ok xs ys e = cc

piece_of : (s : Piece) (n : ℕ) (around behind : List ℕ) (k : ℕ) (pieces : List Piece) → IsBegun s → opened n around s ≡ Some behind → AreOf (length behind) pieces k → AreOf (length around) (s ∷ pieces) (k + 1)
piece_of (piece.Line line) n around behind k pieces begun is h =
    let same : behind ≡ around = cc in
    let few : length pieces ≤ k = h.2 in
    (subst (λ (xs : List ℕ). AreNested (length xs) pieces 0) same h.0, h.1, omega arith)
piece_of (piece.Open times) n around behind k pieces begun is h = by (nat_lt (length around) 8) refl is
  where
    by : (room : Bool) → nat_lt (length around) 8 ≡ room → (if room then Some (n ∷ around) else None) ≡ Some behind → AreOf (length around) (piece.Open times ∷ pieces) (k + 1)
    by true m e =
        let same : behind ≡ n ∷ around = cc in
        let inner : length behind ≡ length around + 1 = ap length same ∙ (let one : length (n ∷ around) ≡ length around + 1 = omega arith in one) in
        let room : length around < 8 = grind (arith, nat_tests) in
        let few : length pieces ≤ k = h.2 in
        ((begun.0, room, subst (λ (d : ℕ). AreNested d pieces 0) inner h.0), (begun.1, h.1), omega arith)
    by false m e = cc
piece_of piece.Close n [] behind k pieces begun is h = cc
piece_of piece.Close n (m ∷ around) behind k pieces begun is h =
    let same : behind ≡ around = cc in
    let less : length around ≡ length (m ∷ around) - 1 = omega arith in
    let few : length pieces ≤ k = h.2 in
    (((let some : 0 < length (m ∷ around) = omega arith in some), subst (λ (d : ℕ). AreNested d pieces 0) (ap length same ∙ less) h.0), h.1, omega arith)

line_of : (n : ℕ) (read : PieceReading) (around : List ℕ) (k : ℕ) (rest : List ℕ → Result (List Piece) ℕ) (pieces : List Piece) → IsBegunIf read
    → ((behind : List ℕ) (more : List Piece) → rest behind ≡ Ok more → AreOf (length behind) more k) → with_piece n around read rest ≡ Ok pieces → AreOf (length around) pieces (k + 1)
line_of n read_as.Empty around k rest pieces begun h is =
    let all = h around pieces is in
    let few : length pieces ≤ k = all.2 in
    (all.0, all.1, omega arith)
line_of n read_as.Bad around k rest pieces begun h is = cc
line_of n (read_as.Piece s) around k rest pieces begun h is = by (opened n around s) refl is
  where
    after : (behind : List ℕ) (r : Result (List Piece) ℕ) → opened n around s ≡ Some behind → rest behind ≡ r → before_pieces s r ≡ Ok pieces → AreOf (length around) pieces (k + 1)
    after behind (Ok more) o e w = subst (λ (xs : List Piece). AreOf (length around) xs (k + 1)) (same_ok (s ∷ more) pieces w) (piece_of s n around behind k more begun o (h behind more e))
    after behind (Err bad) o e w = cc

    by : (o : Option (List ℕ)) → opened n around s ≡ o → with_opened n s o rest ≡ Ok pieces → AreOf (length around) pieces (k + 1)
    by None o w = cc
    by (Some behind) o w = after behind (rest behind) o refl w

read_of : (t : Contents) (n : ℕ) (texts : List Text) (around : List ℕ) (pieces : List Piece) → pieces_from t n texts around ≡ Ok pieces → AreOf (length around) pieces (length texts)
unfolding pieces_from
read_of t n [] [] pieces is = subst (λ (xs : List Piece). AreOf 0 xs 0) (same_ok [] pieces is) (refl, tt, omega arith)
read_of t n [] (m ∷ around) pieces is = cc
read_of t n (text ∷ texts) around pieces is =
    let long : length texts + 1 ≡ length (text ∷ texts) = omega arith in
    subst (λ (k : ℕ). AreOf (length around) pieces k) long
    (line_of n (piece_reading t n around text) around (length texts) (λ o. pieces_from t (n + 1) texts o) pieces (piece_begun t n around text) (λ behind more e. read_of t (n + 1) texts behind more e) is)

pub lines_few : (pieces : List Piece) (texts : ℕ) → AreOf 0 pieces texts → length (unrolled pieces) ≤ texts * most ^ 8
lines_few pieces texts h =
    let all = bound pieces 0 (omega arith) h.0 h.1 in
    let is = weight_is 0 (layers pieces) in
    let one : length (unrolled pieces) * most ^ 0 ≡ length (unrolled pieces) = omega arith in
    let sum = total_is pieces (most ^ 8) in
    let less : length pieces * most ^ 8 ≤ texts * most ^ 8 = mul-le-mul_right (most ^ 8) h.2 in
    omega arith

pub bounded_scripts : BoundedScripts
bounded_scripts t text ls is = by (pieces_from t 1 (lines text) []) refl is
  where
    by : (r : Result (List Piece) ℕ) → pieces_from t 1 (lines text) [] ≡ r → unrolled_if r ≡ Ok ls → length ls ≤ length (lines text) * 1000000 ^ 8
    by (Ok pieces) e w = subst (λ (xs : List Line). length xs ≤ length (lines text) * 1000000 ^ 8) (let same : unrolled pieces ≡ ls = cc in same) (lines_few pieces (length (lines text)) (read_of t 1 (lines text) [] pieces e))
    by (Err bad) e w = cc
