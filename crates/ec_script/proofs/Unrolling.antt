-- Steps that are done one after another are the pieces that blocks stand for.
use Rattle.std.proofs.Common.{◌≡◌, ◌∙◌, ℕ, zero, suc, ◌+◌, ◌-◌, ◌<◌, ◌≤◌, List, [], ◌∷◌, ◌++◌, length, drop, map, nat_lt, Bool, true, false, get_or, refl, sym, ap, subst, append_assoc, arith}
use Rattle.std.proofs.lemmas.Bool.Decides.{nat_tests}
use Rattle.std.proofs.lemmas.List.{drop_all, drop_more}
use Rattle.ec_script.specs.declared.line.Line.{Line}
use Rattle.ec_script.specs.declared.script.Round.{Round}
use Rattle.ec_script.specs.declared.script.Piece.{Piece}
use Rattle.ec_script.specs.declared.script.Piece.TheVariants as piece
use Rattle.ec_script.specs.Blocks.{again, first, layers, others, unrolled}
use Rattle.ec_script.specs.Stages.{AreNested, AreOpen, IsAt, body, left_of, lines_among, lines_left, pieces_left, traces, turned}

-- ---- again and again

again_more : {X : Type 0} (n : ℕ) (xs : List X) → 0 < n → again n xs ≡ xs ++ again (n - 1) xs
again_more zero xs h = absurd (omega arith)
again_more (suc n) xs h = let e : suc n - 1 ≡ n = omega arith in ap (λ (k : ℕ). xs ++ again k xs) (sym e)

never_again : {X : Type 0} (n : ℕ) (xs : List X) → n ≡ 0 → again n xs ≡ []
never_again n xs e = ap (λ (k : ℕ). again k xs) e

-- ---- what the lines among pieces are

among_both : (xs ys : List Piece) → lines_among (xs ++ ys) ≡ lines_among xs ++ lines_among ys
unfolding lines_among
among_both [] ys = refl
among_both (piece.Line line ∷ xs) ys = ap (λ ls. line ∷ ls) (among_both xs ys)
among_both (piece.Open n ∷ xs) ys = among_both xs ys
among_both (piece.Close ∷ xs) ys = among_both xs ys

among_again : (n : ℕ) (xs : List Piece) → lines_among (again n xs) ≡ again n (lines_among xs)
unfolding lines_among
among_again zero xs = refl
among_again (suc n) xs = among_both xs (again n xs) ∙ ap (λ ls. lines_among xs ++ ls) (among_again n xs)

among_first : (xs : List (List Piece)) → lines_among (first xs) ≡ first (map lines_among xs)
unfolding lines_among
among_first [] = refl
among_first (x ∷ xs) = refl

among_others : (xs : List (List Piece)) → map lines_among (others xs) ≡ others (map lines_among xs)
among_others [] = refl
among_others (x ∷ xs) = refl

module _ (pieces : List Piece) (e : map lines_among (traces pieces) ≡ layers pieces) where
  first_is : lines_among (first (traces pieces)) ≡ first (layers pieces)
  first_is = among_first (traces pieces) ∙ ap first e

  others_are : map lines_among (others (traces pieces)) ≡ others (layers pieces)
  others_are = among_others (traces pieces) ∙ ap others e

  second_is : lines_among (first (others (traces pieces))) ≡ first (others (layers pieces))
  second_is = among_first (others (traces pieces)) ∙ ap first others_are

  rest_are : map lines_among (others (others (traces pieces))) ≡ others (others (layers pieces))
  rest_are = among_others (others (traces pieces)) ∙ ap others others_are

  block_is : (n : ℕ) → lines_among (again n (first (traces pieces)) ++ first (others (traces pieces))) ≡ again n (first (layers pieces)) ++ first (others (layers pieces))
  block_is n =
      among_both (again n (first (traces pieces))) (first (others (traces pieces)))
      ∙ (ap (λ ls. ls ++ lines_among (first (others (traces pieces)))) (among_again n (first (traces pieces)) ∙ ap (again n) first_is)
      ∙ ap (λ ls. again n (first (layers pieces)) ++ ls) second_is)

joined : (x y : List Line) (xs ys : List (List Line)) → x ≡ y → xs ≡ ys → x ∷ xs ≡ y ∷ ys
joined x y xs ys e f = ap (λ z. z ∷ xs) e ∙ ap (λ zs. y ∷ zs) f

among_layers : (pieces : List Piece) → map lines_among (traces pieces) ≡ layers pieces
unfolding lines_among traces layers
among_layers [] = refl
among_layers (piece.Close ∷ pieces) = ap (λ ls. [] ∷ ls) (among_layers pieces)
among_layers (piece.Line line ∷ pieces) =
    let e = among_layers pieces in
    joined _ _ _ _ (ap (λ ls. line ∷ ls) (first_is pieces e)) (others_are pieces e)
among_layers (piece.Open n ∷ pieces) =
    let e = among_layers pieces in
    joined _ _ _ _ (block_is pieces e n) (rest_are pieces e)

-- all pieces are left at their beginning
pub begins : (pieces : List Piece) → lines_left pieces 0 [] ≡ unrolled pieces
begins pieces = among_first (traces pieces) ∙ ap first (among_layers pieces)

pub at_begin : (pieces : List Piece) → AreNested 0 pieces 0 → IsAt pieces 0 []
at_begin pieces h = record { few = omega arith; nested = h; rounds = tt }

-- ---- one piece

pub piece_here : (pieces : List Piece) (place : ℕ) (p x : Piece) → place < length pieces → p ≡ get_or pieces place p → p ≡ x → drop place pieces ≡ x ∷ drop (place + 1) pieces
piece_here pieces place p x lt h is = drop_more pieces place p lt ∙ ap (λ (y : Piece). y ∷ drop (place + 1) pieces) (sym h ∙ is)

module _ (pieces : List Piece) (place : ℕ) where
  -- a line
  line_left : (around : List Round) (line : Line) → drop place pieces ≡ piece.Line line ∷ drop (place + 1) pieces
      → pieces_left pieces place around ≡ piece.Line line ∷ pieces_left pieces (place + 1) around
  unfolding traces
  line_left [] line e = ap (λ ss. left_of pieces (traces ss) []) e
  line_left (r ∷ around) line e = ap (λ ss. left_of pieces (traces ss) (r ∷ around)) e

  pub line_at : (around : List Round) (line : Line) → drop place pieces ≡ piece.Line line ∷ drop (place + 1) pieces → IsAt pieces place around → IsAt pieces (place + 1) around
  unfolding traces
  line_at around line e h = record {
    few = h.few;
    nested = subst (λ ss. AreNested (length around) ss 0) e h.nested;
    rounds = subst (λ ss. AreOpen pieces (others (traces ss)) around) e h.rounds;
  }

  -- `repeat N {`
  spread : (around : List Round) (xs : List Piece) (ls : List (List Piece)) → left_of pieces ((xs ++ first ls) ∷ others ls) around ≡ xs ++ left_of pieces ls around
  spread [] xs ls = refl
  spread (r ∷ around) xs ls = append_assoc xs (first ls) _

  open_left : (around : List Round) (n : ℕ) → drop place pieces ≡ piece.Open n ∷ drop (place + 1) pieces → 0 < n
      → pieces_left pieces place around ≡ piece.Open n ∷ pieces_left pieces (place + 1) (record { begin = place + 1; left = n } ∷ around)
  unfolding traces
  open_left around n e some =
      let now = traces (drop (place + 1) pieces) in
      ap (λ ss. left_of pieces (traces ss) around) e
      ∙ (spread around (piece.Open n ∷ again n (first now)) (others now)
      ∙ ap (λ xs. piece.Open n ∷ xs)
      (ap (λ xs. xs ++ left_of pieces (others now) around) (again_more n (first now) some)
      ∙ append_assoc (first now) (again (n - 1) (first now)) (left_of pieces (others now) around)))

  pub open_at : (around : List Round) (n : ℕ) → drop place pieces ≡ piece.Open n ∷ drop (place + 1) pieces → IsAt pieces place around
      → (0 < n) × (length around < 8) × IsAt pieces (place + 1) (record { begin = place + 1; left = n } ∷ around)
  unfolding traces
  open_at around n e h =
      let nested = subst (λ ss. AreNested (length around) ss 0) e h.nested in
      let behind = subst (λ ss. AreOpen pieces (others (traces ss)) around) e h.rounds in
      let long : length around + 1 ≡ length (record { begin = place + 1; left = n } ∷ around) = omega arith in
      let few : length around < 8 = nested.1 in (
        nested.0,
        nested.1,
        record {
          few = omega arith;
          nested = subst (λ (k : ℕ). AreNested k (drop (place + 1) pieces) 0) long nested.2;
          rounds = (nested.0, refl, nested.2, behind);
        },
      )

  -- `}`
  close_left : (r : Round) (around : List Round) (more : Bool) → nat_lt 1 r.left ≡ more → drop place pieces ≡ piece.Close ∷ drop (place + 1) pieces
      → AreOpen pieces (others (traces (drop place pieces))) (r ∷ around)
      → pieces_left pieces place (r ∷ around) ≡ piece.Close ∷ pieces_left pieces (turned (place + 1) (r ∷ around)).0 (turned (place + 1) (r ∷ around)).1
  unfolding traces
  close_left r around true m e h =
      let now = traces (drop (place + 1) pieces) in
      let same : others (traces (drop r.begin pieces)) ≡ now = h.1 ∙ ap (λ ss. others (traces ss)) e in
      let some : 0 < r.left - 1 = grind (arith, nat_tests) in
      rw m
      (ap (λ ss. left_of pieces (traces ss) (r ∷ around)) e
      ∙ ap (λ xs. piece.Close ∷ xs)
      (ap (λ xs. xs ++ left_of pieces now around) (again_more (r.left - 1) (body pieces r) some)
      ∙ (append_assoc (body pieces r) (again (r.left - 1 - 1) (body pieces r)) (left_of pieces now around)
      ∙ ap (λ ls. body pieces r ++ (again (r.left - 1 - 1) (body pieces r) ++ left_of pieces ls around)) (sym same))))
  close_left r around false m e h =
      let now = traces (drop (place + 1) pieces) in
      let some : 0 < r.left = h.0 in
      let last : r.left - 1 ≡ 0 = grind (arith, nat_tests) in
      rw m
      (ap (λ ss. left_of pieces (traces ss) (r ∷ around)) e
      ∙ ap (λ xs. piece.Close ∷ (xs ++ left_of pieces now around)) (never_again (r.left - 1) (body pieces r) last))

  close_at : (r : Round) (around : List Round) (more : Bool) → nat_lt 1 r.left ≡ more → drop place pieces ≡ piece.Close ∷ drop (place + 1) pieces
      → IsAt pieces place (r ∷ around) → IsAt pieces (turned (place + 1) (r ∷ around)).0 (turned (place + 1) (r ∷ around)).1
  unfolding traces
  close_at r around true m e h =
      let some : 0 < r.left - 1 = grind (arith, nat_tests) in
      let long : length around + 1 ≡ length (r ∷ around) = omega arith in
      let same : others (others (traces (drop place pieces))) ≡ others (others (traces (drop r.begin pieces))) = ap others (sym h.rounds.1) in
      let few : length (r ∷ around) ≤ 8 = h.few in
      rw m (record {
        few = omega arith;
        nested = subst (λ (k : ℕ). AreNested k (drop r.begin pieces) 0) long h.rounds.2;
        rounds = (some, refl, h.rounds.2, subst (λ ls. AreOpen pieces ls around) same h.rounds.3);
      })
  close_at r around false m e h =
      let nested = subst (λ ss. AreNested (length (r ∷ around)) ss 0) e h.nested in
      let long : length (r ∷ around) - 1 ≡ length around = omega arith in
      let few : length (r ∷ around) ≤ 8 = h.few in
      rw m (record {
        few = omega arith;
        nested = subst (λ (k : ℕ). AreNested k (drop (place + 1) pieces) 0) long nested.1;
        rounds = subst (λ ss. AreOpen pieces (others (others (traces ss))) around) e h.rounds.3;
      })

  -- ---- what a loop keeps

  pub line_taken : (around : List Round) (line : Line) → drop place pieces ≡ piece.Line line ∷ drop (place + 1) pieces → lines_left pieces place around ≡ line ∷ lines_left pieces (place + 1) around
  unfolding lines_among
  line_taken around line e = ap lines_among (line_left around line e)

  pub begun : (around : List Round) (n : ℕ) → drop place pieces ≡ piece.Open n ∷ drop (place + 1) pieces → IsAt pieces place around
      → lines_left pieces (place + 1) (record { begin = place + 1; left = n } ∷ around) ≡ lines_left pieces place around
  unfolding lines_among
  begun around n e h = sym (ap lines_among (open_left around n e (open_at around n e h).0))

  pub begun_nearer : (around : List Round) (n : ℕ) → drop place pieces ≡ piece.Open n ∷ drop (place + 1) pieces → IsAt pieces place around
      → length (pieces_left pieces (place + 1) (record { begin = place + 1; left = n } ∷ around)) < length (pieces_left pieces place around)
  begun_nearer around n e h = let less = ap length (open_left around n e (open_at around n e h).0) in omega arith

  -- there is a block to end
  pub has_block : (around : List Round) → drop place pieces ≡ piece.Close ∷ drop (place + 1) pieces → IsAt pieces place around → (r : Round) × (more : List Round) × (around ≡ r ∷ more)
  has_block [] e h =
      let nested = subst (λ ss. AreNested 0 ss 0) e h.nested in
      let none : 0 < 0 = nested.0 in
      absurd (omega arith)
  has_block (r ∷ around) e h = (r, around, refl)

  ended_at : (around : List Round) → ((r : Round) × (more : List Round) × (around ≡ r ∷ more)) → drop place pieces ≡ piece.Close ∷ drop (place + 1) pieces → IsAt pieces place around
      → IsAt pieces (turned (place + 1) around).0 (turned (place + 1) around).1
      × (pieces_left pieces place around ≡ piece.Close ∷ pieces_left pieces (turned (place + 1) around).0 (turned (place + 1) around).1)
  ended_at [] (r, more, is) e h = cc
  ended_at (r ∷ around) some e h = (close_at r around (nat_lt 1 r.left) refl e h, close_left r around (nat_lt 1 r.left) refl e h.rounds)

  pub round_ended : (around : List Round) (next : ℕ) (behind : List Round) → drop place pieces ≡ piece.Close ∷ drop (place + 1) pieces → IsAt pieces place around
      → next ≡ (turned (place + 1) around).0 → behind ≡ (turned (place + 1) around).1
      → IsAt pieces next behind × (lines_left pieces next behind ≡ lines_left pieces place around) × (length (pieces_left pieces next behind) < length (pieces_left pieces place around))
  unfolding lines_among
  round_ended around next behind e h is are =
      let both = ended_at around (has_block around e h) e h in
      let left : pieces_left pieces place around ≡ piece.Close ∷ pieces_left pieces next behind =
      both.1 ∙ sym (ap (λ (k : ℕ). piece.Close ∷ pieces_left pieces k behind) is ∙ ap (λ (rs : List Round). piece.Close ∷ pieces_left pieces (turned (place + 1) around).0 rs) are) in
      let less = ap length left in (
        subst (λ (k : ℕ). IsAt pieces k behind) (sym is) (subst (λ (rs : List Round). IsAt pieces (turned (place + 1) around).0 rs) (sym are) both.0),
        sym (ap lines_among left),
        omega arith,
      )

  -- the end
  none_left : (around : List Round) → length around ≡ 0 → drop place pieces ≡ [] → lines_left pieces place around ≡ []
  unfolding lines_among traces
  none_left [] is e = ap (λ ss. lines_among (left_of pieces (traces ss) [])) e
  none_left (r ∷ around) is e = absurd (omega arith)

  pub all_done : (around : List Round) → length pieces ≤ place → IsAt pieces place around → lines_left pieces place around ≡ []
  all_done around far h =
      let end = drop_all place pieces far in
      none_left around (subst (λ ss. AreNested (length around) ss 0) end h.nested) end
