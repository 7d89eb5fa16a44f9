-- What is kept of lines that come is small, and so is what is due.
use Rattle.std.proofs.Common.{◌≡◌, ◌∙◌, ℕ, ◌+◌, ◌-◌, ◌*◌, ◌^◌, ◌<◌, ◌≤◌, List, [], ◌∷◌, ◌++◌, length, reverse, Bool, true, false, nat_lt, if◌then◌else◌, Option, Some, None, IfSome, refl, sym, ap, subst, arith}
use Rattle.std.proofs.lemmas.Bool.Decides.{nat_tests}
use Rattle.std.proofs.lemmas.List.{length-reverse, reverse-reverse}
use Rattle.ec_table.specs.Contents.{Contents}
use Rattle.ec_script.specs.declared.draft.Due.TheVariants as due
use Rattle.ec_script.specs.declared.draft.PieceReading.{PieceReading}
use Rattle.ec_script.specs.declared.draft.PieceReading.TheVariants as read_as
use Rattle.ec_script.specs.declared.line.Line.{Line}
use Rattle.ec_script.specs.declared.line.LineAction.{LineAction}
use Rattle.ec_script.specs.declared.script.Piece.{Piece}
use Rattle.ec_script.specs.declared.script.Piece.TheVariants as piece
use Rattle.ec_script.specs.Blocks.{opened}
use Rattle.ec_script.specs.Drafts.{BoundedDrafts, DraftState, IsBounded, added_if, behind, closed, drafted, due_if, empty_draft, gathered, has_room_for, reading_if, whole}
use Rattle.ec_script.specs.Stages.{AreNested, IsBegun, IsBegunIf}
use Rattle.ec_script.specs.Words.{Text}
use Rattle.ec_script.proofs.Begun.{by_begun}
use Rattle.ec_script.proofs.Bounds.{AreFew, AreOf, lines_few}
use Rattle.ec_script.proofs.Drafting.{nested_close, nested_line, nested_open, turned_round}

-- few lines and braces are kept
pub record IsSmall (d : DraftState) : Type 0 where
  pub few : length d.pieces + length d.around ≤ 1008
  pub deep : length d.around ≤ 8
  pub nested : AreNested 0 (reverse d.pieces) (length d.around)
  pub rounds : AreFew (reverse d.pieces)

pub empty_small : IsSmall empty_draft
empty_small = record { few = omega arith; deep = omega arith; nested = refl; rounds = tt }

small_few : (d : DraftState) → IsSmall d → length d.pieces ≤ 1008
small_few d h = let few : length d.pieces + length d.around ≤ 1008 = h.few in omega arith

-- ---- one piece

few_both : (xs ys : List Piece) → AreFew xs → AreFew ys → AreFew (xs ++ ys)
few_both [] ys h g = g
few_both (piece.Line line ∷ xs) ys h g = few_both xs ys h g
few_both (piece.Open n ∷ xs) ys h g = (h.0, few_both xs ys h.1 g)
few_both (piece.Close ∷ xs) ys h g = few_both xs ys h g

few_front : (xs ys : List Piece) → AreFew (xs ++ ys) → AreFew xs
few_front [] ys h = tt
few_front (piece.Line line ∷ xs) ys h = few_front xs ys h
few_front (piece.Open n ∷ xs) ys h = (h.0, few_front xs ys h.1)
few_front (piece.Close ∷ xs) ys h = few_front xs ys h

-- one more, the latest first
few_more : (s : Piece) (pieces : List Piece) → AreFew (reverse pieces) → AreFew (s ∷ []) → AreFew (reverse (s ∷ pieces))
few_more s pieces h g = subst AreFew (sym (turned_round s pieces)) (few_both (reverse pieces) (s ∷ []) h g)

few_closed : (pieces : List Piece) → AreFew (reverse pieces) → AreFew (reverse (closed pieces))
few_closed [] h = tt
few_closed (piece.Open n ∷ pieces) h = few_front (reverse pieces) (piece.Open n ∷ []) (subst AreFew (turned_round (piece.Open n) pieces) h)
few_closed (piece.Line line ∷ pieces) h = few_more piece.Close (piece.Line line ∷ pieces) h tt
few_closed (piece.Close ∷ pieces) h = few_more piece.Close (piece.Close ∷ pieces) h tt

pub long_closed : (pieces : List Piece) → length (closed pieces) ≤ length pieces + 1
long_closed [] = omega arith
long_closed (piece.Open n ∷ pieces) = omega arith
long_closed (piece.Line line ∷ pieces) = omega arith
long_closed (piece.Close ∷ pieces) = omega arith

room : (n : ℕ) → nat_lt n 1000 ≡ true → n < 1000
room n is = grind (arith, nat_tests)

line_small : (line : Line) (d : DraftState) → IsSmall d → length d.pieces < 1000 → IsSmall (record { pieces = piece.Line line ∷ d.pieces; around = d.around })
line_small line d h has = record {
  few = let long : length (piece.Line line ∷ d.pieces) ≡ length d.pieces + 1 = omega arith in let deep : length d.around ≤ 8 = h.deep in omega arith;
  deep = h.deep;
  nested = nested_line (length d.around) line (reverse d.pieces) (reverse (piece.Line line ∷ d.pieces)) h.nested (turned_round (piece.Line line) d.pieces);
  rounds = few_more (piece.Line line) d.pieces h.rounds tt;
}

open_small : (n times : ℕ) (d : DraftState) → IsSmall d → length d.pieces < 1000 → IsBegun (piece.Open times) → length d.around < 8
    → IsSmall (record { pieces = piece.Open times ∷ d.pieces; around = n ∷ d.around })
open_small n times d h has begun less =
    let deeper : length (n ∷ d.around) ≡ length d.around + 1 = omega arith in
    let long : length (piece.Open times ∷ d.pieces) ≡ length d.pieces + 1 = omega arith in
    record {
      few = omega arith;
      deep = omega arith;
      nested = nested_open (length d.around) (length (n ∷ d.around)) times (reverse d.pieces) (reverse (piece.Open times ∷ d.pieces)) h.nested begun.0 less deeper (turned_round (piece.Open times) d.pieces);
      rounds = few_more (piece.Open times) d.pieces h.rounds (begun.1, tt);
    }

close_small : (m : ℕ) (around : List ℕ) (d : DraftState) → d.around ≡ m ∷ around → IsSmall d → IsSmall (record { pieces = closed d.pieces; around = around })
close_small m around d is h =
    let one : length (m ∷ around) ≡ length around + 1 = omega arith in
    let same : length d.around ≡ length (m ∷ around) = ap length is in
    let deeper : length d.around ≡ length around + 1 = omega arith in
    let long = long_closed d.pieces in
    let few : length d.pieces + length d.around ≤ 1008 = h.few in
    let deep : length d.around ≤ 8 = h.deep in
    record {
      few = omega arith;
      deep = omega arith;
      nested = nested_close (length d.around) (length around) (reverse d.pieces) (reverse (closed d.pieces)) h.nested deeper
          (reverse-reverse (closed d.pieces) ∙ ap closed (sym (reverse-reverse d.pieces)));
      rounds = few_closed d.pieces h.rounds;
    }

-- ---- one line

opened_small : (n times : ℕ) (d : DraftState) (less : Bool) → nat_lt (length d.around) 8 ≡ less → IsSmall d → length d.pieces < 1000 → IsBegun (piece.Open times)
    → IfSome (added_if (piece.Open times) (if less then Some (n ∷ d.around) else None) d) IsSmall
opened_small n times d true is h has begun = open_small n times d h has begun (grind (arith, nat_tests))
opened_small n times d false is h has begun = tt

closed_small : (n : ℕ) (around : List ℕ) (d : DraftState) → d.around ≡ around → IsSmall d → IfSome (added_if piece.Close (opened n around piece.Close) d) IsSmall
closed_small n [] d is h = tt
closed_small n (m ∷ around) d is h = close_small m around d is h

pub drafted_small : (n : ℕ) (read : PieceReading) (d : DraftState) → IsBegunIf read → IsSmall d → has_room_for (length d.pieces) read ≡ true → IfSome (drafted n read d) IsSmall
drafted_small n read_as.Empty d begun h has = h
drafted_small n read_as.Bad d begun h has = tt
drafted_small n (read_as.Piece (piece.Line line)) d begun h has = line_small line d h (room (length d.pieces) has)
drafted_small n (read_as.Piece (piece.Open times)) d begun h has = opened_small n times d (nat_lt (length d.around) 8) refl h (room (length d.pieces) has) begun
drafted_small n (read_as.Piece piece.Close) d begun h has = closed_small n d.around d refl h

-- ---- what is due

whole_small : (around : List ℕ) (d : DraftState) → d.around ≡ around → IsSmall d → IsSmall (whole around d).0 × (length (whole around d).1 ≤ 1008 * 1000000 ^ 8)
whole_small [] d is h =
    let none : length d.around ≡ 0 = ap length is in
    let few : length d.pieces + length d.around ≤ 1008 = h.few in
    let long : length (reverse d.pieces) ≡ length d.pieces = length-reverse d.pieces in
    let all : AreOf 0 (reverse d.pieces) 1008 = (subst (λ (k : ℕ). AreNested 0 (reverse d.pieces) k) none h.nested, h.rounds, omega arith) in
    (empty_small, lines_few (reverse d.pieces) 1008 all)
whole_small (m ∷ around) d is h = (h, omega arith)

due_small : (n : ℕ) (d : DraftState) (o : Option DraftState) → IsSmall d → IfSome o IsSmall → IsSmall (due_if n d o).0 × IsBounded (due_if n d o).1
due_small n d None h g = (h, tt)
due_small n d (Some e) h g = whole_small e.around e refl g

gathered_small : (n : ℕ) (read : PieceReading) (d : DraftState) → IsBegunIf read → IsSmall d → IsSmall (gathered n read d).0 × IsBounded (gathered n read d).1
gathered_small n read d begun h = by (has_room_for (length d.pieces) read) refl
  where
    by : (b : Bool) → has_room_for (length d.pieces) read ≡ b → IsSmall (if b then due_if n d (drafted n read d) else (d, due.Bad n)).0 × IsBounded (if b then due_if n d (drafted n read d) else (d, due.Bad n)).1
    by true is = due_small n d (drafted n read d) h (drafted_small n read d begun h is)
    by false is = (h, tt)

-- ---- lines one after another

module _ (takes : LineAction → Bool) (t : Contents) where
  reading_begun : (n : ℕ) (around : List ℕ) (line : Option Text) → IsBegunIf (reading_if takes t n around line)
  reading_begun n around None = tt
  reading_begun n around (Some text) = by_begun takes t n around text

  behind_small : (d : DraftState) (n : ℕ) (lines : List (Option Text)) → IsSmall d → IsSmall (behind takes t d n lines)
  behind_small d n [] h = h
  behind_small d n (line ∷ lines) h =
      behind_small (gathered n (reading_if takes t n d.around line) d).0 (n + 1) lines (gathered_small n (reading_if takes t n d.around line) d (reading_begun n d.around line) h).0

pub bounded_drafts : BoundedDrafts
bounded_drafts takes t n m lines line =
    let d = behind takes t empty_draft n lines in
    let small = behind_small takes t empty_draft n lines empty_small in
    (small_few d small, (gathered_small m (reading_if takes t m d.around line) d (reading_begun takes t m d.around line) small).1)
