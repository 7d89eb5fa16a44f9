-- What is kept of a line decides what the line is.
use Rattle.std.proofs.Common.{◌≡◌, ◌∙◌, ◌⊎◌, inl, inr, ℕ, zero, suc, ◌+◌, ◌-◌, ◌^◌, ◌<◌, ◌≤◌, ◌&&◌, ◌||◌, ◌==◌, List, [], ◌∷◌, ◌++◌, length, take, nat_le, slice_index, Bool, true, false, Option, refl, sym, ap, length-take, subst, length-append, arith, if◌then◌else◌, string_bytes, String, Global, Result, Ok, Err, IfErr, IfOk}
use Rattle.std.proofs.lemmas.Slice.Eq.{bytes_eq-Decides}
use Rattle.std.specs.Result.{IsErrAnd}
use Rattle.std.specs.Str.{IsUtf8, bytes_eq, is_utf8}
use Rattle.std.specs.Str.Lines.{strip_carriage_return}
use Rattle.std.proofs.lemmas.Bool.Decides.{nat_tests}
use Rattle.std.proofs.lemmas.Str.{IsUtf8-from_is_utf8, is_utf8-from_IsUtf8}
use Rattle.std.proofs.lemmas.Bool.{cases_lt}
use Rattle.ec_lines.specs.declared.lines.NextLine.{NextLine}
use Rattle.ec_lines.specs.declared.lines.NextLine.TheVariants as taken
use Rattle.ec_lines.specs.declared.error.LinesError.{LinesError}
use Rattle.ec_lines.specs.declared.error.LinesError.TheVariants.{Memory, Unread, TooLong, NoText}
use denote.Enum.Bare.{sameb}
use Rattle.std.specs.contracts.io.ErrorKind.{the_type}
use Rattle.std.specs.declared.io.ErrorKind.{ErrorKind}
use Rattle.std.specs.declared.io.ErrorKind.TheVariants.{Interrupted, OutOfMemory}
use Rattle.ec_lines.specs.Inputs.{is_refusal}
use Rattle.ec_lines.specs.Kept.{IsAddFault, RefusesLines, TakesKept, is_last}
use Rattle.ec_lines.specs.Taking.{IsReadFault, IsTaken, RefusesText, TakesLine, TakesPart, TakesText, TakesUndivided, is_divider, is_text, is_text_line, without_end}
use Rattle.ec_lines.proofs.TakeLemmas.{part_then, text_ends, undivided_more}

-- ---- text

both : (n k : ℕ) (u : Bool) → k ≤ n → u ≡ true → nat_le k n && u ≡ true
both n k u within is = let a : nat_le k n ≡ true = grind (arith, nat_tests) in rw (a, is) refl

pub text_is : (bytes : List ℕ) → length bytes ≤ 2 ^ 20 → IsUtf8 bytes → is_text bytes ≡ true
text_is bytes short text = both 1048576 (length bytes) (is_utf8 bytes) short (is_utf8-from_IsUtf8 bytes text)

none_of : (u v : Bool) → v ≡ false → u && v ≡ false
none_of true v is = is
none_of false v is = refl

pub no_text_is : (bytes : List ℕ) → (IsUtf8 bytes → ⊥) → is_text bytes ≡ false
no_text_is bytes none = none_of (nat_le (length bytes) 1048576) (is_utf8 bytes) (no (is_utf8 bytes) refl)
  where
    no : (u : Bool) → is_utf8 bytes ≡ u → u ≡ false
    no true is = absurd (none (IsUtf8-from_is_utf8 bytes is))
    no false is = refl

long : (n k : ℕ) (u : Bool) → n < k → nat_le k n && u ≡ false
long n k u beyond = let a : nat_le k n ≡ false = grind (arith, nat_tests) in rw a refl

pub long_is : (bytes : List ℕ) → 2 ^ 20 < length bytes → is_text bytes ≡ false
long_is bytes beyond = long 1048576 (length bytes) (is_utf8 bytes) beyond

-- ---- a line of which all is kept, or of which too much is

take_length : (n : ℕ) (xs : List ℕ) → length (take n xs) ≤ length xs
take_length zero xs = omega arith
take_length (suc n) [] = omega arith
take_length (suc n) (x ∷ xs) = omega (arith, take_length n xs)

short_whole : (most : ℕ) (xs : List ℕ) → length (take most xs) < most → take most xs ≡ xs
short_whole zero xs h = absurd (omega arith)
short_whole (suc n) [] h = refl
short_whole (suc n) (x ∷ xs) h = ap (λ ys. x ∷ ys) (short_whole n xs (omega arith))

-- what a line loses at its end
return_length : (l : List ℕ) (c : Bool) → length l ≤ length (if c then take (length l - 1) l else l) + 1
return_length l true = omega (arith, length-take (length l - 1) l)
return_length l false = omega arith

ending : (line : List ℕ) (c : Bool) → length line ≤ length (if c then strip_carriage_return (take (length line - 1) line) else line) + 2
ending line true =
    let cut = take (length line - 1) line in
    omega (arith, length-take (length line - 1) line, return_length cut (slice_index cut (length cut - 1) == 13))
ending line false = omega arith

end_length : (line : List ℕ) → length line ≤ length (without_end line) + 2
end_length line = ending line (slice_index line (length line - 1) == 10)

too_long : (line : List ℕ) → 2 ^ 20 + 3 ≤ length line → is_text_line line ≡ false
too_long line beyond = long_is (without_end line) (omega (arith, end_length line))

-- so what is kept is taken as what all of it is
kept_whole : (most : ℕ) (kept line : List ℕ) (taken : NextLine) → kept ≡ take most line → length kept < most → IsTaken kept taken → IsTaken line taken
kept_whole most kept line taken is short h = subst (λ (l : List ℕ). IsTaken l taken) (is ∙ short_whole most line (subst (λ (l : List ℕ). length l < most) is short)) h

kept_long : (kept line : List ℕ) (taken : NextLine) → 2 ^ 20 + 3 ≤ length kept → 2 ^ 20 + 3 ≤ length line → IsTaken kept taken → IsTaken line taken
kept_long kept line taken.End long_kept long h = absurd (let none : length kept ≡ 0 = ap length h in omega (arith, none))
kept_long kept line (taken.Text text) long_kept long (some, is, same) = let e : true ≡ false = sym is ∙ too_long kept long_kept in cc
kept_long kept line taken.NoText long_kept long (some, is) = (omega arith, too_long line long)

kept_beyond : (most : ℕ) (kept line : List ℕ) → kept ≡ take most line → most ≤ length kept → most ≤ length line
kept_beyond most kept line is beyond = omega (arith, take_length most line, ap length is)

pub taken_of_kept : (kept line : List ℕ) (taken : NextLine) → kept ≡ take 1048579 line → IsTaken kept taken → IsTaken line taken
taken_of_kept kept line taken is h = elim (cases_lt (length kept) 1048579) [
  | inl short ↦ kept_whole 1048579 kept line taken is short h
  | inr beyond ↦ kept_long kept line taken beyond (kept_beyond 1048579 kept line is beyond) h
]

pub taken_line : (old new : Option (List ℕ)) (kept : List ℕ) (taken : NextLine) → TakesKept old new 1048579 kept → IsTaken kept taken
    → (line : List ℕ) × TakesLine old new line × IsTaken line taken
taken_line old new kept taken (line, takes, is) h = (line, takes, taken_of_kept kept line taken is h)

-- ---- lines of a text

-- a line of which all is kept
whole_taken : (old new : Option (List ℕ)) (most : ℕ) (kept : List ℕ) → TakesKept old new most kept → length kept < most → TakesLine old new kept
whole_taken old new most kept (line, taken, is) short =
    subst (TakesLine old new) (sym (is ∙ short_whole most line (subst (λ (l : List ℕ). length l < most) is short))) taken

-- ---- what a line is, by what it is without its end

pub text_line : (line cut : List ℕ) → cut ≡ without_end line → length cut ≤ 2 ^ 20 → IsUtf8 cut → is_text_line line ≡ true
text_line line cut is short text = subst (λ (l : List ℕ). is_text l ≡ true) is (text_is cut short text)

pub no_text_line : (line cut : List ℕ) → cut ≡ without_end line → (IsUtf8 cut → ⊥) → is_text_line line ≡ false
no_text_line line cut is none = subst (λ (l : List ℕ). is_text l ≡ false) is (no_text_is cut none)

pub some_bytes : (line : List ℕ) (r : Bool) → r ≡ (length line == 0) → r ≡ false → 0 < length line
some_bytes line r is none = grind (arith, nat_tests)

-- ---- how the taking of a text ends

pub err_of : {T : Type 0} (r : Result T LinesError) (e : LinesError) (P : LinesError → Type 0) → IsErrAnd r (λ f. f ≡ e) → P e → IfErr r P
err_of (Ok x) e P h p = tt
err_of (Err f) e P h p = subst P (sym h) p

-- ---- whether a read was refused

pub interrupted_only : (kind : ErrorKind) → true ≡ sameb the_type kind Interrupted → is_refusal kind ≡ false
interrupted_only Interrupted h = refl
interrupted_only OutOfMemory h = refl
interrupted_only _ h = let bad : true ≡ false = h in cc

pub not_refused : (before now said : Bool) → now ≡ before || said → said ≡ false → now ≡ before
not_refused true now said is none = is
not_refused false now said is none = is ∙ none

-- ---- what refuses a text

pub read_refused : (is_refused : Bool) (old mid new : Option (List ℕ)) (text : List ℕ) (e : LinesError) → TakesUndivided old mid text → IsReadFault is_refused e → TakesPart mid new
    → RefusesLines is_refused old new e
read_refused is_refused old mid new text Memory h fault part = part_then old mid new text h part
read_refused is_refused old mid new text Unread h fault part = (part_then old mid new text h part, fault)
read_refused is_refused old mid new text TooLong h fault part = absurd fault
read_refused is_refused old mid new text NoText h fault part = absurd fault

not_last : (line : List ℕ) (r : Bool) → r ≡ is_last line → r ≡ false → (0 < length line) × (is_divider line ≡ false)
not_last line r is none = parts (length line == 0) (is_divider line) refl (sym is ∙ none)
  where
    parts : (a b : Bool) → (length line == 0) ≡ a → a || b ≡ false → (0 < length line) × (b ≡ false)
    parts true b e h = let f : true ≡ false = h in cc
    parts false b e h = (grind (arith, nat_tests), h)

last_is : (line : List ℕ) → is_last line ≡ true → (line ≡ []) ⊎ (is_divider line ≡ true)
last_is [] h = inl refl
last_is (b ∷ bs) h = inr (let none : (length (b ∷ bs) == 0) ≡ false = grind (arith, nat_tests) in subst (λ (x : Bool). x || is_divider (b ∷ bs) ≡ true) none h)

same_bytes : (xs ys : List ℕ) → bytes_eq xs ys ≡ true → xs ≡ ys
same_bytes xs ys h = (bytes_eq-Decides xs ys).0 h

divider_short : (line : List ℕ) → is_divider line ≡ true → length line ≤ 4
divider_short line h = of (bytes_eq line (37 ∷ 37 ∷ 10 ∷ [])) (bytes_eq line (37 ∷ 37 ∷ 13 ∷ 10 ∷ [])) refl refl h
  where
    of : (a b : Bool) → bytes_eq line (37 ∷ 37 ∷ 10 ∷ []) ≡ a → bytes_eq line (37 ∷ 37 ∷ 13 ∷ 10 ∷ []) ≡ b → a || (b || bytes_eq line (37 ∷ 37 ∷ [])) ≡ true → length line ≤ 4
    of true b is also some = omega (arith, ap length (same_bytes line (37 ∷ 37 ∷ 10 ∷ []) is))
    of false true is also some = omega (arith, ap length (same_bytes line (37 ∷ 37 ∷ 13 ∷ 10 ∷ []) also))
    of false false is also some = omega (arith, ap length (same_bytes line (37 ∷ 37 ∷ []) some))

-- the last line of a text is kept as a whole
last_short : (line : List ℕ) → is_last line ≡ true → length line ≤ 4
last_short line h = elim (last_is line h) [
  | inl none ↦ omega (arith, ap length none)
  | inr divides ↦ divider_short line divides
]

pub text_taken : (old mid new : Option (List ℕ)) (text kept : List ℕ) (r : Bool) → TakesUndivided old mid text → TakesKept mid new 1048579 kept → r ≡ is_last kept → r ≡ true
    → TakesText old new text
text_taken old mid new text kept r h taken is so =
    let last : is_last kept ≡ true = sym is ∙ so in
    text_ends old mid new text kept h (whole_taken mid new 1048579 kept taken (omega (arith, last_short kept last))) (last_is kept last)

pub lines_more : (old mid new : Option (List ℕ)) (text kept more : List ℕ) (r : Bool) → TakesUndivided old mid text → TakesKept mid new 1048579 kept → r ≡ is_last kept → r ≡ false
    → more ≡ text ++ kept → length more ≤ 2 ^ 20 → TakesUndivided old new more
lines_more old mid new text kept more r h taken is none more_is short =
    let parts = not_last kept r is none in
    let fits : length kept < 1048579 = omega (arith, ap length more_is, length-append text kept) in
    subst (TakesUndivided old new) (sym more_is) (undivided_more old mid new text kept h (whole_taken mid new 1048579 kept taken fits) parts.0 parts.1)

-- so a text grows with each line, and has room for only so many
pub text_grows : (text kept more : List ℕ) (r : Bool) → r ≡ is_last kept → r ≡ false → more ≡ text ++ kept → length more ≤ 2 ^ 20 → 2 ^ 20 - length more < 2 ^ 20 - length text
text_grows text kept more r is none more_is short = omega (arith, (not_last kept r is none).0, ap length more_is, length-append text kept)

-- a line of which not all is kept ends no text either
line_divides_not : (kept line : List ℕ) → kept ≡ take 1048579 line → is_divider kept ≡ false → is_divider line ≡ false
line_divides_not kept line is none = of (is_divider line) refl
  where
    of : (a : Bool) → is_divider line ≡ a → a ≡ false
    of false h = refl
    of true h =
        let few = divider_short line h in
        let fits : length (take 1048579 line) < 1048579 = omega (arith, take_length 1048579 line) in
        let whole : kept ≡ line = is ∙ short_whole 1048579 line fits in
        sym h ∙ subst (λ (l : List ℕ). is_divider l ≡ false) whole none

pub add_refused : (is_refused : Bool) (old mid new : Option (List ℕ)) (text kept : List ℕ) (r : Bool) (e : LinesError) → TakesUndivided old mid text → TakesKept mid new 1048579 kept → r ≡ is_last kept → r ≡ false
    → IsAddFault text kept e → RefusesLines is_refused old new e
add_refused is_refused old mid new text kept r Memory h (line, taken, whole) is none fault = part_then old mid new text h (line, taken.taken)
add_refused is_refused old mid new text kept r Unread h taken is none fault = absurd fault
add_refused is_refused old mid new text kept r NoText h taken is none fault = absurd fault
add_refused is_refused old mid new text kept r TooLong h (line, taken, whole) is none fault =
    let parts = not_last kept r is none in
    let short : length kept ≤ length line = omega (arith, take_length 1048579 line, ap length whole) in (
      text ++ line,
      undivided_more old mid new text line h taken (omega (arith, parts.0)) (line_divides_not kept line whole parts.1),
      omega (arith, fault, length-append text line, length-append text kept),
    )

-- what is said of bytes is said of the text that they are
pub text_is_taken : (r : Result (String Global) LinesError) (old new : Option (List ℕ)) (bytes : List ℕ) → TakesText old new bytes → IfOk r (λ t. string_bytes t ≡ bytes)
    → IfOk r (λ t. TakesText old new (string_bytes t))
text_is_taken (Ok t) old new bytes h same = subst (TakesText old new) (sym same) h
text_is_taken (Err e) old new bytes h same = tt

pub text_is_short : (r : Result (String Global) LinesError) (bytes : List ℕ) → length bytes ≤ 2 ^ 20 → IfOk r (λ t. string_bytes t ≡ bytes) → IfOk r (λ t. length (string_bytes t) ≤ 2 ^ 20)
text_is_short (Ok t) bytes short same = subst (λ (l : List ℕ). length l ≤ 2 ^ 20) (sym same) short
text_is_short (Err e) bytes short same = tt

pub text_is_refused : (r : Result (String Global) LinesError) (is_refused : Bool) (old new : Option (List ℕ)) (bytes : List ℕ) → TakesText old new bytes → IfErr r (λ e. (e ≡ NoText) × (IsUtf8 bytes → ⊥))
    → IfErr r (RefusesText is_refused old new)
text_is_refused (Ok t) is_refused old new bytes h none = tt
text_is_refused (Err e) is_refused old new bytes h (is, none) = subst (RefusesText is_refused old new) (sym is) (bytes, h, none)

pub lines_refused : (is_refused : Bool) (old new : Option (List ℕ)) (e : LinesError) → RefusesLines is_refused old new e → RefusesText is_refused old new e
lines_refused is_refused old new Memory h = h
lines_refused is_refused old new Unread h = h
lines_refused is_refused old new TooLong h = h
lines_refused is_refused old new NoText h = absurd h
