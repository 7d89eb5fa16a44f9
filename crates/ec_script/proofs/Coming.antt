-- A script is what is due while its lines come.
use Rattle.std.proofs.Common.{◌≡◌, ◌∙◌, ℕ, zero, suc, ◌+◌, ◌-◌, ◌<◌, ◌≤◌, List, [], ◌∷◌, ◌++◌, length, reverse, true, nat_lt, Option, Some, None, IfSome, Result, Ok, Err, refl, sym, ap, subst, append_assoc, arith}
use Rattle.std.specs.Str.Lines.{lines}
use Rattle.std.proofs.lemmas.Bool.Decides.{nat_tests}
use Rattle.ec_table.specs.Contents.{Contents}
use Rattle.ec_script.specs.declared.draft.Due.{Due}
use Rattle.ec_script.specs.declared.draft.PieceReading.{PieceReading}
use Rattle.ec_script.specs.declared.draft.PieceReading.TheVariants as read_as
use Rattle.ec_script.specs.declared.line.Line.{Line}
use Rattle.ec_script.specs.declared.script.Piece.{Piece}
use Rattle.ec_script.specs.declared.script.Piece.TheVariants as piece
use Rattle.ec_script.specs.Blocks.{again, first, layers, opened, others, unrolled}
use Rattle.ec_script.specs.Drafts.{DraftState, ScriptsCome, added, added_if, due_of, due_if, empty_draft, gathered, has_room_for, lines_due, whole}
use Rattle.ec_script.specs.Scripts.{before_pieces, piece_reading, pieces_from, unrolled_if, with_opened, with_piece}
use Rattle.ec_script.specs.Stages.{AreNested, IsBegunIf}
use Rattle.ec_script.specs.Words.{Text}
use Rattle.ec_script.proofs.Begun.{piece_begun}
use Rattle.ec_script.proofs.Drafting.{adds, adds_added, some_layers}
use Rattle.ec_script.proofs.Small.{IsSmall, drafted_small, empty_small, long_closed}

-- ---- pieces behind blocks that are whole

-- layers of pieces behind so many blocks that are open
glued : ℕ → List (List Line) → List (List Line) → List (List Line)
glued zero ls ys = (first ls ++ first ys) ∷ others ys
glued (suc depth) ls ys = first ls ∷ glued depth (others ls) ys

layers_both : (depth : ℕ) (xs ys : List Piece) → AreNested depth xs 0 → layers (xs ++ ys) ≡ glued depth (layers xs) (layers ys)
unfolding layers glued
layers_both zero [] ys h = sym (some_layers ys)
layers_both (suc depth) [] ys h = let bad : suc depth ≡ 0 = h in absurd (omega arith)
layers_both zero (piece.Line line ∷ xs) ys h = ap (λ ls. (line ∷ first ls) ∷ others ls) (layers_both zero xs ys h)
layers_both (suc depth) (piece.Line line ∷ xs) ys h = ap (λ ls. (line ∷ first ls) ∷ others ls) (layers_both (suc depth) xs ys h)
layers_both zero (piece.Open n ∷ xs) ys h =
    let inner = layers_both 1 xs ys h.2 in
    ap (λ ls. (again n (first ls) ++ first (others ls)) ∷ others (others ls)) inner
    ∙ ap (λ (l : List Line). l ∷ others (layers ys)) (sym (append_assoc (again n (first (layers xs))) (first (others (layers xs))) (first (layers ys))))
layers_both (suc depth) (piece.Open n ∷ xs) ys h =
    let more : suc depth + 1 ≡ suc (suc depth) = omega arith in
    let inner = layers_both (suc (suc depth)) xs ys (subst (λ (k : ℕ). AreNested k xs 0) more h.2) in
    ap (λ ls. (again n (first ls) ++ first (others ls)) ∷ others (others ls)) inner
layers_both zero (piece.Close ∷ xs) ys h = let bad : 0 < 0 = h.0 in absurd (omega arith)
layers_both (suc depth) (piece.Close ∷ xs) ys h =
    let less : suc depth - 1 ≡ depth = omega arith in
    ap (λ (ls : List (List Line)). [] ∷ ls) (layers_both depth xs ys (subst (λ (k : ℕ). AreNested k xs 0) less h.1))

unrolled_both : (xs ys : List Piece) → AreNested 0 xs 0 → unrolled (xs ++ ys) ≡ unrolled xs ++ unrolled ys
unfolding glued
unrolled_both xs ys h = ap first (layers_both 0 xs ys h)

-- ---- lines that come

-- all lines that come behind a draft: what is due while these texts come
abbrev Come : Contents → ℕ → List Text → Type 0
Come t n texts = (d : DraftState) (more : List Piece) → IsSmall d → (d.around ≡ [] → d.pieces ≡ []) → length d.pieces + length texts ≤ 1000 → pieces_from t n texts d.around ≡ Ok more
    → due_of t d n texts ≡ unrolled (reverse d.pieces ++ more)

-- a draft with a line more
behind_line : (t : Contents) (n : ℕ) (texts : List Text) → Come t (n + 1) texts → (around : List ℕ) (e : DraftState) (more : List Piece) → e.around ≡ around → IsSmall e → length e.pieces + length texts ≤ 1000
    → pieces_from t (n + 1) texts around ≡ Ok more → (whole around e).1 ++ due_of t (whole around e).0 (n + 1) texts ≡ unrolled (reverse e.pieces ++ more)
behind_line t n texts come [] e more is small room from =
    let none : length e.around ≡ 0 = ap length is in
    let nested : AreNested 0 (reverse e.pieces) 0 = subst (λ (k : ℕ). AreNested 0 (reverse e.pieces) k) none small.nested in
    let few : 0 + length texts ≤ 1000 = omega arith in
    ap (λ (ls : List Line). unrolled (reverse e.pieces) ++ ls) (come empty_draft more empty_small (λ same. refl) few from) ∙ sym (unrolled_both (reverse e.pieces) more nested)
behind_line t n texts come (m ∷ around) e more is small room from =
    come e more small (λ same. absurd (some (sym is ∙ same))) room (subst (λ (xs : List ℕ). pieces_from t (n + 1) texts xs ≡ Ok more) (sym is) from)
  where
    some : (m ∷ around) ≡ [] → ⊥
    some w = cc

long_added : (s : Piece) (pieces : List Piece) → length (added s pieces) ≤ length pieces + 1
long_added (piece.Line line) pieces = omega arith
long_added (piece.Open n) pieces = omega arith
long_added piece.Close pieces = long_closed pieces

-- there is room
roomy : (n : ℕ) → n < 1000 → nat_lt n 1000 ≡ true
roomy n less = grind (arith, nat_tests)

has_room : (read : PieceReading) (kept : ℕ) → kept < 1000 → has_room_for kept read ≡ true
has_room read_as.Empty kept less = refl
has_room read_as.Bad kept less = refl
has_room (read_as.Piece (piece.Line line)) kept less = roomy kept less
has_room (read_as.Piece (piece.Open n)) kept less = roomy kept less
has_room (read_as.Piece piece.Close) kept less = refl

module _ (t : Contents) (n : ℕ) (texts : List Text) (come : Come t (n + 1) texts) (d : DraftState) (small : IsSmall d) (room : length d.pieces + (length texts + 1) ≤ 1000) where
  -- what is due at a line, and behind it
  goes_on : DraftState × Due → List Line
  goes_on c = lines_due c.1 ++ due_of t c.0 (n + 1) texts

  piece_comes : (s : Piece) (behind : Option (List ℕ)) (more : List Piece) → IfSome (added_if s behind d) IsSmall → with_opened n s behind (λ o. pieces_from t (n + 1) texts o) ≡ Ok more
      → goes_on (due_if n d (added_if s behind d)) ≡ unrolled (reverse d.pieces ++ more)
  unfolding goes_on
  piece_comes s None more few is = cc
  piece_comes s (Some behind) more few is = by (pieces_from t (n + 1) texts behind) refl is
    where
      by : (r : Result (List Piece) ℕ) → pieces_from t (n + 1) texts behind ≡ r → before_pieces s r ≡ Ok more → goes_on (due_if n d (Some (record { pieces = added s d.pieces; around = behind }))) ≡ unrolled (reverse d.pieces ++ more)
      by (Err bad) from w = cc
      by (Ok rest) from w =
          let same : s ∷ rest ≡ more = cc in
          let long = long_added s d.pieces in
          let fits : length (added s d.pieces) + length texts ≤ 1000 = omega arith in
          behind_line t n texts come behind (record { pieces = added s d.pieces; around = behind }) rest refl few fits from
          ∙ (ap first (adds s (reverse d.pieces) (reverse (added s d.pieces)) rest (adds_added s d.pieces))
          ∙ ap (λ (xs : List Piece). unrolled (reverse d.pieces ++ xs)) same)

  line_comes : (read : PieceReading) (more : List Piece) → IsBegunIf read → with_piece n d.around read (λ o. pieces_from t (n + 1) texts o) ≡ Ok more → goes_on (gathered n read d) ≡ unrolled (reverse d.pieces ++ more)
  unfolding goes_on
  line_comes read_as.Empty more begun is = behind_line t n texts come d.around d more refl small (omega arith) is
  line_comes read_as.Bad more begun is = cc
  line_comes (read_as.Piece s) more begun is =
      let has : has_room_for (length d.pieces) (read_as.Piece s) ≡ true = has_room (read_as.Piece s) (length d.pieces) (omega arith) in
      rw has (piece_comes s (opened n d.around s) more (drafted_small n (read_as.Piece s) d begun small has) is)

same_ok : (xs ys : List Piece) → ◌≡◌ {A = Result (List Piece) ℕ} (Ok xs) (Ok ys) → xs ≡ ys
same_ok xs ys e = cc

no_texts : (t : Contents) (n : ℕ) (around : List ℕ) (d : DraftState) (more : List Piece) → d.around ≡ around → (d.around ≡ [] → d.pieces ≡ []) → pieces_from t n [] around ≡ Ok more → [] ≡ unrolled (reverse d.pieces ++ more)
unfolding pieces_from layers
no_texts t n [] d more is none from =
    ap (λ (xs : List Piece). unrolled (reverse xs ++ [])) (sym (none is)) ∙ ap (λ (xs : List Piece). unrolled (reverse d.pieces ++ xs)) (same_ok [] more from)
no_texts t n (m ∷ around) d more is none from = cc

all_come : (t : Contents) (n : ℕ) (texts : List Text) → Come t n texts
unfolding pieces_from goes_on
all_come t n [] d more small none room from = no_texts t n d.around d more refl none from
all_come t n (text ∷ texts) d more small none room from =
    let long : length (text ∷ texts) ≡ length texts + 1 = omega arith in
    let fits : length d.pieces + (length texts + 1) ≤ 1000 = omega arith in
    line_comes t n texts (all_come t (n + 1) texts) d small fits (piece_reading t n d.around text) more (piece_begun t n d.around text) from

pub scripts_come : ScriptsCome
scripts_come t text ls few is = by (pieces_from t 1 (lines text) []) refl is
  where
    by : (r : Result (List Piece) ℕ) → pieces_from t 1 (lines text) [] ≡ r → unrolled_if r ≡ Ok ls → due_of t empty_draft 1 (lines text) ≡ ls
    by (Err bad) e w = cc
    by (Ok pieces) e w =
        let room : 0 + length (lines text) ≤ 1000 = omega arith in
        all_come t 1 (lines text) empty_draft pieces empty_small (λ same. refl) room e ∙ (let same : unrolled pieces ≡ ls = cc in same)
