-- A script that is read line by line.
use Rattle.std.proofs.Common.{◌≡◌, ◌∙◌, ◌⊎◌, inl, inr, ℕ, zero, suc, ◌+◌, ◌-◌, ◌<◌, ◌==◌, min, take, List, [], ◌∷◌, ◌++◌, length, get_or, drop, map, reverse, Bool, true, false, Option, Some, None, Result, Ok, Err, Bor, ◌≤◌, refl, sym, ap, subst, append_assoc, append-nil, arith}
use Rattle.std.proofs.lemmas.Bool.Decides.{nat_tests}
use Rattle.std.proofs.lemmas.List.{drop_all, at_drop_more, length-take, reverse-append, reverse-reverse}
use Rattle.ec_decode.specs.declared.error.DecodeError.{DecodeError}
use Rattle.ec_table.specs.Contents.{Contents}
use Rattle.ec_script.specs.declared.draft.PieceReading.{PieceReading}
use Rattle.ec_script.specs.declared.draft.PieceReading.TheVariants as read_as
use Rattle.ec_script.specs.declared.line.Line.{Line}
use Rattle.ec_script.specs.declared.script.Piece.{Piece}
use Rattle.ec_script.specs.declared.script.Piece.TheVariants as piece
use Rattle.ec_script.specs.Blocks.{again, first, layers, opened, others, unrolled}
use Rattle.ec_script.specs.Drafts.{DraftState, added, added_if, closed, drafted, empty_draft}
use Rattle.ec_script.specs.Scripts.{Fails, Gives, before_pieces, piece_reading, pieces_from, unrolled_if, with_opened, with_piece}
use Rattle.ec_script.specs.Growing.{Grows}
use Rattle.ec_script.specs.Stages.{AreNested, IsEnded}
use Rattle.ec_script.specs.Words.{Text}

-- ---- what pieces stand for

no_lines : (n : ℕ) → again {X = Line} n [] ≡ []
no_lines zero = refl
no_lines (suc n) = no_lines n

pub some_layers : (pieces : List Piece) → first (layers pieces) ∷ others (layers pieces) ≡ layers pieces
unfolding layers
some_layers [] = refl
some_layers (piece.Close ∷ pieces) = refl
some_layers (piece.Line line ∷ pieces) = refl
some_layers (piece.Open n ∷ pieces) = refl

-- a block without lines stands for nothing
empty_block : (n : ℕ) (more : List Piece) → layers (piece.Open n ∷ piece.Close ∷ more) ≡ layers more
unfolding layers
empty_block n more = ap (λ (ls : List Line). (ls ++ first (layers more)) ∷ others (layers more)) (no_lines n) ∙ some_layers more

layers_behind : (front xs ys : List Piece) → layers xs ≡ layers ys → layers (front ++ xs) ≡ layers (front ++ ys)
unfolding layers
layers_behind [] xs ys e = e
layers_behind (piece.Close ∷ front) xs ys e = ap (λ ls. [] ∷ ls) (layers_behind front xs ys e)
layers_behind (piece.Line line ∷ front) xs ys e = ap (λ ls. (line ∷ first ls) ∷ others ls) (layers_behind front xs ys e)
layers_behind (piece.Open n ∷ front) xs ys e = ap (λ ls. (again n (first ls) ++ first (others ls)) ∷ others (others ls)) (layers_behind front xs ys e)

-- a piece more; the `}` of a block without lines takes its `repeat N {` away
abbrev pub Adds : Piece → List Piece → List Piece → Type 0
Adds s old new = (new ≡ old ++ (s ∷ [])) ⊎ ((s ≡ piece.Close) × (n : ℕ) × (old ≡ new ++ (piece.Open n ∷ [])))

-- a piece of line n, if it may stand there
abbrev AddsIf : Piece → (behind : Option (List ℕ)) → (around : List ℕ) → (old new : List Piece) → (is_good : Bool) → Type 0
AddsIf s None around old new is_good = is_good ≡ false
AddsIf s (Some behind) around old new is_good = (is_good ≡ true) × (around ≡ behind) × Adds s old new

-- line n, by what it is: the blocks that are open before it and behind it, and the pieces so far
abbrev GrowsBy : ℕ → PieceReading → (before behind : List ℕ) → (old new : List Piece) → (is_good : Bool) → Type 0
GrowsBy n read_as.Empty before behind old new is_good = (is_good ≡ true) × (behind ≡ before) × (new ≡ old)
GrowsBy n read_as.Bad before behind old new is_good = is_good ≡ false
GrowsBy n (read_as.Piece s) before behind old new is_good = AddsIf s (opened n before s) behind old new is_good

-- the latest first
pub turned_round : (s : Piece) (pieces : List Piece) → reverse (s ∷ pieces) ≡ reverse pieces ++ (s ∷ [])
turned_round s pieces = reverse-append (s ∷ []) pieces

adds_closed : (pieces : List Piece) → Adds piece.Close (reverse pieces) (reverse (closed pieces))
adds_closed [] = inl refl
adds_closed (piece.Open n ∷ pieces) = inr (refl, n, turned_round (piece.Open n) pieces)
adds_closed (piece.Line line ∷ pieces) = inl (turned_round piece.Close (piece.Line line ∷ pieces))
adds_closed (piece.Close ∷ pieces) = inl (turned_round piece.Close (piece.Close ∷ pieces))

pub adds_added : (s : Piece) (pieces : List Piece) → Adds s (reverse pieces) (reverse (added s pieces))
adds_added (piece.Line line) pieces = inl (turned_round (piece.Line line) pieces)
adds_added (piece.Open n) pieces = inl (turned_round (piece.Open n) pieces)
adds_added piece.Close pieces = adds_closed pieces

added_by : (s : Piece) (behind : Option (List ℕ)) (old new : DraftState) (good : Bool) → Grows (added_if s behind old) old new good → AddsIf s behind new.around (reverse old.pieces) (reverse new.pieces) good
added_by s None old new good g = g.0
added_by s (Some around) old new good g = (
  g.0,
  ap (λ (d : DraftState). d.around) g.1,
  subst (λ (d : DraftState). Adds s (reverse old.pieces) (reverse d.pieces)) (sym g.1) (adds_added s old.pieces),
)

grown_by : (n : ℕ) (read : PieceReading) (old new : DraftState) (good : Bool) → Grows (drafted n read old) old new good → GrowsBy n read old.around new.around (reverse old.pieces) (reverse new.pieces) good
grown_by n read_as.Empty old new good g = (g.0, ap (λ (d : DraftState). d.around) g.1, ap (λ (d : DraftState). reverse d.pieces) g.1)
grown_by n read_as.Bad old new good g = g.0
grown_by n (read_as.Piece s) old new good g = added_by s (opened n old.around s) old new good g

pub adds : (s : Piece) (old new more : List Piece) → Adds s old new → layers (new ++ more) ≡ layers (old ++ (s ∷ more))
adds s old new more (inl e) = ap (λ (xs : List Piece). layers (xs ++ more)) e ∙ ap layers (append_assoc old (s ∷ []) more)
adds s old new more (inr (is, n, e)) =
    sym (ap (λ (xs : List Piece). layers (xs ++ (s ∷ more))) e
    ∙ (ap layers (append_assoc new (piece.Open n ∷ []) (s ∷ more))
    ∙ (ap (λ (x : Piece). layers (new ++ (piece.Open n ∷ x ∷ more))) is
    ∙ layers_behind new (piece.Open n ∷ piece.Close ∷ more) more (empty_block n more))))

-- ---- blocks in one another

nested_both : (xs ys : List Piece) (a b c : ℕ) → AreNested a xs b → AreNested b ys c → AreNested a (xs ++ ys) c
nested_both [] ys a b c h g = subst (λ (d : ℕ). AreNested d ys c) (sym h) g
nested_both (piece.Close ∷ xs) ys a b c h g = (h.0, nested_both xs ys (a - 1) b c h.1 g)
nested_both (piece.Line line ∷ xs) ys a b c h g = nested_both xs ys a b c h g
nested_both (piece.Open n ∷ xs) ys a b c h g = (h.0, h.1, nested_both xs ys (a + 1) b c h.2 g)

-- without a last `repeat N {`
nested_before : (xs : List Piece) (n a b : ℕ) → AreNested a (xs ++ (piece.Open n ∷ [])) b → AreNested a xs (b - 1)
nested_before [] n a b h = let e : a + 1 ≡ b = h.2 in omega arith
nested_before (piece.Close ∷ xs) n a b h = (h.0, nested_before xs n (a - 1) b h.1)
nested_before (piece.Line line ∷ xs) n a b h = nested_before xs n a b h
nested_before (piece.Open m ∷ xs) n a b h = (h.0, h.1, nested_before xs n (a + 1) b h.2)

-- a block more has room, and the innermost is taken away
pub room_left : (n : ℕ) (full : Bool) → full ≡ (n == 8) → full ≡ false → n ≤ 8 → n < 8
room_left n full e f le = let other : (n == 8) ≡ false = sym e ∙ f in grind (arith, nat_tests)

pub one_less : (old new : List ℕ) (none : Bool) → none ≡ (length old == 0) → none ≡ false → new ≡ take (length old - 1) old → length old ≡ length new + 1
one_less old new none e f is =
    let other : (length old == 0) ≡ false = sym e ∙ f in
    let some : 0 < length old = grind (arith, nat_tests) in
    let cut : length new ≡ min (length old - 1) (length old) = ap length is ∙ length-take (length old - 1) old in
    omega arith

-- a line, a `repeat N {` and a `}` more, by the vectors that have them
pub nested_line : (depth : ℕ) (line : Line) (old new : List Piece) → AreNested 0 old depth → new ≡ old ++ (piece.Line line ∷ []) → AreNested 0 new depth
nested_line depth line old new h is = subst (λ (xs : List Piece). AreNested 0 xs depth) (sym is) (nested_both old (piece.Line line ∷ []) 0 depth depth h refl)

pub nested_open : (depth next times : ℕ) (old new : List Piece) → AreNested 0 old depth → 0 < times → depth < 8 → next ≡ depth + 1 → new ≡ old ++ (piece.Open times ∷ []) → AreNested 0 new next
nested_open depth next times old new h some few one is =
    subst (λ (k : ℕ). AreNested 0 new k) (sym one)
    (subst (λ (xs : List Piece). AreNested 0 xs (depth + 1)) (sym is) (nested_both old (piece.Open times ∷ []) 0 depth (depth + 1) h (some, few, refl)))

pub nested_close : (depth next : ℕ) (old new : List Piece) → AreNested 0 old depth → depth ≡ next + 1 → reverse new ≡ closed (reverse old) → AreNested 0 new next
nested_close depth next old new h one is = by here
  where
    here : Adds piece.Close old new
    here =
        subst (λ (xs : List Piece). Adds piece.Close xs new) (reverse-reverse old)
        (subst (λ (ys : List Piece). Adds piece.Close (reverse (reverse old)) ys) (ap reverse (sym is) ∙ reverse-reverse new) (adds_closed (reverse old)))

    less : depth - 1 ≡ next
    less = omega arith

    some : 0 < depth
    some = omega arith

    by : Adds piece.Close old new → AreNested 0 new next
    by (inl e) = subst (λ (xs : List Piece). AreNested 0 xs next) (sym e) (nested_both old (piece.Close ∷ []) 0 depth next h (some, less))
    by (inr (same, n, e)) = subst (λ (k : ℕ). AreNested 0 new k) less (nested_before new n 0 depth (subst (λ (xs : List Piece). AreNested 0 xs depth) e h))

-- ---- pieces that are read, and what comes of the lines that follow

abbrev pub whole_of : List Piece → Result (List Piece) ℕ → Result (List Line) ℕ
whole_of pieces (Ok more) = Ok (unrolled (pieces ++ more))
whole_of pieces (Err bad) = Err bad

abbrev pub texts_of : List (Bor Text) → List Text
texts_of xs = map (λ x. x.now) xs

-- the lines from the i-th on, which is line i + 1
abbrev pub rest_of : Contents → List (Bor Text) → ℕ → (around : List ℕ) → Result (List Piece) ℕ
rest_of t xs i around = pieces_from t (i + 1) (texts_of (drop i xs)) around

at : (t : Contents) (xs : List (Bor Text)) (i : ℕ) (d : Bor Text) (around : List ℕ) → i < length xs
    → rest_of t xs i around ≡ with_piece (i + 1) around (piece_reading t (i + 1) around (get_or xs i d).now) (λ o. rest_of t xs (i + 1) o)
unfolding pieces_from
at t xs i d around h = at_drop_more (λ ys. pieces_from t (i + 1) (texts_of ys) around) xs i d h

-- a good line
piece_grown : (s : Piece) (behind : Option (List ℕ)) (n : ℕ) (around : List ℕ) (old new : List Piece) (rest : List ℕ → Result (List Piece) ℕ) → AddsIf s behind around old new true
    → whole_of new (rest around) ≡ whole_of old (with_opened n s behind rest)
piece_grown s None n around old new rest g = absurd (let bad : true ≡ false = g in cc)
piece_grown s (Some behind) n around old new rest g = ap (λ (o : List ℕ). whole_of new (rest o)) g.1 ∙ by (rest behind)
  where
    by : (r : Result (List Piece) ℕ) → whole_of new r ≡ whole_of old (before_pieces s r)
    by (Ok more) = ap (λ ls. Ok (first ls)) (adds s old new more g.2)
    by (Err bad) = refl

line_grown : (n : ℕ) (read : PieceReading) (before around : List ℕ) (old new : List Piece) (rest : List ℕ → Result (List Piece) ℕ) → GrowsBy n read before around old new true
    → whole_of new (rest around) ≡ whole_of old (with_piece n before read rest)
line_grown n read_as.Empty before around old new rest g = ap (λ (o : List ℕ). whole_of new (rest o)) g.1 ∙ ap (λ (xs : List Piece). whole_of xs (rest before)) g.2
line_grown n read_as.Bad before around old new rest g = absurd (let bad : true ≡ false = g in cc)
line_grown n (read_as.Piece s) before around old new rest g = piece_grown s (opened n before s) n around old new rest g

-- a bad one
piece_bad : (s : Piece) (behind : Option (List ℕ)) (n : ℕ) (around : List ℕ) (old new : List Piece) (rest : List ℕ → Result (List Piece) ℕ) → AddsIf s behind around old new false
    → whole_of old (with_opened n s behind rest) ≡ Err n
piece_bad s None n around old new rest g = refl
piece_bad s (Some behind) n around old new rest g = absurd (let bad : false ≡ true = g.0 in cc)

line_bad : (n : ℕ) (read : PieceReading) (before around : List ℕ) (old new : List Piece) (rest : List ℕ → Result (List Piece) ℕ) → GrowsBy n read before around old new false
    → whole_of old (with_piece n before read rest) ≡ Err n
line_bad n read_as.Empty before around old new rest g = absurd (let bad : false ≡ true = g.0 in cc)
line_bad n read_as.Bad before around old new rest g = refl
line_bad n (read_as.Piece s) before around old new rest g = piece_bad s (opened n before s) n around old new rest g

-- ---- the lines of a script

-- some first lines are read, and nothing of the script is lost
pub record AreRead (t : Contents) (xs : List (Bor Text)) (i : ℕ) (draft : DraftState) (whole : Result (List Line) ℕ) : Type 0 where
  pub is : whole_of (reverse draft.pieces) (rest_of t xs i draft.around) ≡ whole

pub none_read : (t : Contents) (xs : List (Bor Text)) (draft : DraftState) → draft ≡ empty_draft → AreRead t xs 0 draft (unrolled_if (pieces_from t 1 (texts_of xs) []))
none_read t xs draft e = subst (λ (d : DraftState). AreRead t xs 0 d (unrolled_if (pieces_from t 1 (texts_of xs) []))) (sym e) (record { is = by (pieces_from t 1 (texts_of xs) []) })
  where
    by : (r : Result (List Piece) ℕ) → whole_of [] r ≡ unrolled_if r
    by (Ok more) = refl
    by (Err bad) = refl

pub line_read : (t : Contents) (xs : List (Bor Text)) (i : ℕ) (x : Bor Text) (old new : DraftState) (whole : Result (List Line) ℕ) (good : Bool) → i < length xs → AreRead t xs i old whole
    → Grows (drafted (i + 1) (piece_reading t (i + 1) old.around (get_or xs i x).now) old) old new good → good ≡ true → AreRead t xs (i + 1) new whole
line_read t xs i x old new whole good h read g is =
    let now : PieceReading = piece_reading t (i + 1) old.around (get_or xs i x).now in
    let grows = grown_by (i + 1) now old new true (subst (λ (b : Bool). Grows (drafted (i + 1) now old) old new b) is g) in
    record {
      is = line_grown (i + 1) now old.around new.around (reverse old.pieces) (reverse new.pieces) (λ o. rest_of t xs (i + 1) o) grows
          ∙ (ap (whole_of (reverse old.pieces)) (sym (at t xs i x old.around h)) ∙ read.is);
    }

pub line_refused : (t : Contents) (xs : List (Bor Text)) (i : ℕ) (x : Bor Text) (old new : DraftState) (whole : Result (List Line) ℕ) (good : Bool) → i < length xs → AreRead t xs i old whole
    → Grows (drafted (i + 1) (piece_reading t (i + 1) old.around (get_or xs i x).now) old) old new good → good ≡ false → whole ≡ Err (i + 1)
line_refused t xs i x old new whole good h read g is =
    let now : PieceReading = piece_reading t (i + 1) old.around (get_or xs i x).now in
    let grows = grown_by (i + 1) now old new false (subst (λ (b : Bool). Grows (drafted (i + 1) now old) old new b) is g) in
    sym read.is
    ∙ (ap (whole_of (reverse old.pieces)) (at t xs i x old.around h)
    ∙ line_bad (i + 1) now old.around new.around (reverse old.pieces) (reverse new.pieces) (λ o. rest_of t xs (i + 1) o) grows)

ended : (t : Contents) (n : ℕ) (around : List ℕ) (pieces : List Piece) (whole : Result (List Line) ℕ) (result : Result (List Line) DecodeError)
    → whole_of pieces (pieces_from t n [] around) ≡ whole → IsEnded pieces around result → Gives result whole
unfolding pieces_from
ended t n [] pieces whole (Ok lines) is e = sym is ∙ (ap (λ (xs : List Piece). Ok (unrolled xs)) (append-nil pieces) ∙ ap Ok (sym e))
ended t n [] pieces whole (Err error) is e = absurd e
ended t n (m ∷ around) pieces whole (Ok lines) is e = absurd e
ended t n (m ∷ around) pieces whole (Err error) is e = subst (λ (x : DecodeError). Fails x whole) (sym e) (sym is)

pub script_ended : (t : Contents) (xs : List (Bor Text)) (i : ℕ) (draft : DraftState) (whole : Result (List Line) ℕ) (result : Result (List Line) DecodeError) → length xs ≤ i
    → AreRead t xs i draft whole → IsEnded (reverse draft.pieces) draft.around result → Gives result whole
script_ended t xs i draft whole result h read e =
    ended t (i + 1) draft.around (reverse draft.pieces) whole result
    (ap (λ (ys : List (Bor Text)). whole_of (reverse draft.pieces) (pieces_from t (i + 1) (texts_of ys) draft.around)) (sym (drop_all i xs h)) ∙ read.is) e
