-- A script without blocks is the lines of its texts.
use Rattle.std.proofs.Common.{◌≡◌, ◌∙◌, ℕ, ◌+◌, ◌||◌, List, [], ◌∷◌, map, Bool, true, false, Option, Some, None, is_some, Result, Ok, Err, refl, ap}
use Rattle.std.specs.List.{list_any}
use Rattle.std.specs.Str.Lines.{lines}
use Rattle.ec_table.specs.Contents.{Contents}
use Rattle.ec_script.specs.declared.line.Line.{Line}
use Rattle.ec_script.specs.declared.read.Reading.{Reading}
use Rattle.ec_script.specs.declared.read.Reading.TheVariants as reading
use Rattle.ec_script.specs.declared.script.Piece.{Piece}
use Rattle.ec_script.specs.declared.script.Piece.TheVariants as piece
use Rattle.ec_script.specs.Blocks.{layers, unrolled}
use Rattle.ec_script.specs.Scripts.{PlainScripts, before_pieces, brace_on, piece_or, pieces_from, script_from, script_reading, unrolled_if, with_piece, with_reading}
use Rattle.ec_script.specs.Words.{Text}

lines_alone : (xs : List Line) → unrolled (map piece.Line xs) ≡ xs
unfolding layers
lines_alone [] = refl
lines_alone (x ∷ xs) = ap (λ ls. x ∷ ls) (lines_alone xs)

as_pieces : Result (List Line) ℕ → Result (List Piece) ℕ
as_pieces (Ok xs) = Ok (map piece.Line xs)
as_pieces (Err bad) = Err bad

unrolled_back : (r : Result (List Line) ℕ) → unrolled_if (as_pieces r) ≡ r
unfolding as_pieces
unrolled_back (Ok xs) = ap Ok (lines_alone xs)
unrolled_back (Err bad) = refl

-- a line without a brace
plain_line : (n : ℕ) (brace : Option Piece) (read : Reading) (rest : List ℕ → Result (List Piece) ℕ) (more : Result (List Line) ℕ) → is_some brace ≡ false → rest [] ≡ as_pieces more
    → with_piece n [] (piece_or brace read) rest ≡ as_pieces (with_reading n read more)
unfolding as_pieces
plain_line n (Some brace) read rest more plain e = absurd (let bad : true ≡ false = plain in cc)
plain_line n None reading.Empty rest more plain e = e
plain_line n None reading.Bad rest more plain e = refl
plain_line n None (reading.Line line) rest (Ok xs) plain e = ap (before_pieces (piece.Line line)) e
plain_line n None (reading.Line line) rest (Err bad) plain e = ap (before_pieces (piece.Line line)) e

none_either : (a b : Bool) → (a || b) ≡ false → (a ≡ false) × (b ≡ false)
none_either true b h = cc
none_either false b h = (refl, h)

plain_from : (t : Contents) (n : ℕ) (texts : List Text) → list_any (λ line. is_some (brace_on line)) texts ≡ false → pieces_from t n texts [] ≡ as_pieces (script_from t n texts)
unfolding as_pieces pieces_from script_from
plain_from t n [] plain = refl
plain_from t n (text ∷ texts) plain =
    let p = none_either (is_some (brace_on text)) (list_any (λ line. is_some (brace_on line)) texts) plain in
    plain_line n (brace_on text) (script_reading t n text) (λ o. pieces_from t (n + 1) texts o) (script_from t (n + 1) texts) p.0 (plain_from t (n + 1) texts p.1)

pub plain_scripts : PlainScripts
plain_scripts t text plain = ap unrolled_if (plain_from t 1 (lines text) plain) ∙ unrolled_back (script_from t 1 (lines text))
