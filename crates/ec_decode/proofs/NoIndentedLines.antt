-- What lines of hex are printed as has no indented line.
use Rattle.std.proofs.Common.{◌≡◌, ◌⊎◌, ◌∙◌, inl, inr, ℕ, zero, suc, ◌+◌, ◌/◌, ◌%◌, ◌<◌, ◌^◌, ◌==◌, ◌||◌, nat_lt, List, [], ◌∷◌, ◌++◌, length, get_or, take, drop, Bool, true, false, if◌then◌else◌, codes, refl, sym, ap, subst, append_assoc, append-nil, arith}
use Rattle.std.specs.Fmt.{decimal, digits, digits_onto, digit_glyph}
use Rattle.std.specs.List.{AllByRecursion}
use Rattle.std.proofs.lemmas.Bool.Decides.{nat_tests}
use Rattle.std.proofs.lemmas.List.Elements.{All-nil, All-cons}
use Rattle.hex.specs.Hex.{IsBytes}
use Rattle.hex.proofs.HexLemmas.{decode_of-ok}
use Rattle.ec_frame.specs.declared.error.FrameError.{FrameError}
use Rattle.ec_frame.specs.declared.error.FrameError.TheVariants.{Short, BadType, TooLong, BadLength, BadCommand, BadMore}
use Rattle.ec_frame.specs.Datagram.{Datagram, IsDatagram, is_followed, joined, opened, spelling, heading}
use Rattle.ec_frame.specs.Frame.{IsByte, IsFrame, Payload, area, length_field}
use Rattle.ec_frame.specs.Refusals.{refusal_number}
use Rattle.byteorder.specs.Endian.{little_bytes}
use Rattle.ec_frame.proofs.FrameLaws.{data_are_bytes}
use Rattle.ec_frame.proofs.Steps.{joined_length}
use Rattle.ec_decode.specs.declared.located.LocatedFault.{LocatedFault}
use Rattle.ec_decode.specs.Answers.{IsLineText, IsTextOf}
use Rattle.ec_decode.specs.Faults.{BeginsNone, IsLocated, IsRefusedAt, StandBefore, error_name, refused_line, refused_text}
use Rattle.ec_decode.specs.FrameText.{Text, datagram_line, datagram_lines, datagram_words, frame_text, heading_line, newline, reserved_bit_words, rest_words, spaced}
use Rattle.ec_decode.specs.Reading.{is_skipped}
use Rattle.ec_decode.proofs.ReaderFields.{opened_long}
use Rattle.ec_decode.proofs.ReadingWords.{IsWord, Lacks, bytes_at, verb_word}
use Rattle.ec_decode.proofs.ReadingLines.{AreWords, IsLine, datagram_are_words, heading_are_words, is_line, says}
use Rattle.ec_decode.specs.Indented.{is_indented, kept, without_indented}
use Rattle.ec_decode.specs.Laws.{TextsHaveNoIndentedLines}
use Rattle.ec_decode.proofs.Cutting.{ended_off}

-- ---- decimal numbers are words, however large

digit_word : (n : ℕ) → 32 < digit_glyph false (n % 10)
digit_word n = let t : nat_lt (n % 10) 10 ≡ true = grind (arith, nat_tests) in rw t (omega arith)

either : (P : Text → Type 0) (b : Bool) (xs ys : Text) → P xs → P ys → P (if b then xs else ys)
either P true xs ys f g = f
either P false xs ys f g = g

digits_word : (k n : ℕ) (acc : Text) → IsWord acc → IsWord (digits_onto k 10 false n acc)
digits_word zero n acc h = h
digits_word (suc k) n acc h =
    let more : IsWord (digit_glyph false (n % 10) ∷ acc) = All-cons (λ b. 32 < b) (digit_glyph false (n % 10)) acc (digit_word n) h in
    either IsWord (n / 10 == 0) (digit_glyph false (n % 10) ∷ acc) (digits_onto k 10 false (n / 10) (digit_glyph false (n % 10) ∷ acc)) more (digits_word k (n / 10) (digit_glyph false (n % 10) ∷ acc) more)

number_word : (n : ℕ) → IsWord (decimal n)
unfolding digits
number_word n = digits_word 64 n [] (All-nil (λ b. 32 < b))

-- ---- a line that says something stays

no_end : (b : ℕ) → 31 < b → (b == 10) ≡ false
no_end b h = grind (arith, nat_tests)

ends_nowhere : (line : Text) → IsLine line → Lacks 10 line
ends_nowhere line h = λ i d lt. no_end (get_or line i d) (h i d lt)

second_false : (a b : Bool) → (a || b) ≡ false → b ≡ false
second_false true b h = cc
second_false false b h = h

line_stays : (line rest : Text) → IsLine line → is_skipped line ≡ false → without_indented ((line ++ newline) ++ rest) ≡ (line ++ newline) ++ without_indented rest
line_stays line rest h says =
    let plain : is_indented line ≡ false = second_false (length line == 0) (is_indented line) says in
    let all : kept line ≡ line ++ newline = rw plain refl in
    ended_off line rest (ends_nowhere line h) ∙ ap (λ (t : Text). t ++ without_indented rest) all

words_stay : (word : Text) (words : List Text) (rest : Text) → IsWord word → 0 < length word → AreWords words
    → without_indented (((word ++ spaced words) ++ newline) ++ rest) ≡ ((word ++ spaced words) ++ newline) ++ without_indented rest
words_stay word words rest h some are =
    line_stays (word ++ spaced words) rest (is_line word words h are) (says word (spaced words) h some)

-- ---- the lines of datagrams

abbrev IsFull : Datagram → Type 0
IsFull d = IsDatagram d × IsBytes d.data_bytes

abbrev IsSome : Text → Type 0
IsSome text = 0 < length text

digits_some : (k n : ℕ) (acc : Text) → IsSome acc → IsSome (digits_onto k 10 false n acc)
digits_some zero n acc h = h
digits_some (suc k) n acc h =
    let more : IsSome (digit_glyph false (n % 10) ∷ acc) = omega arith in
    either IsSome (n / 10 == 0) (digit_glyph false (n % 10) ∷ acc) (digits_onto k 10 false (n / 10) (digit_glyph false (n % 10) ∷ acc)) more (digits_some k (n / 10) (digit_glyph false (n % 10) ∷ acc) more)

some_from : (k n : ℕ) → IsSome (digits_onto (suc k) 10 false n [])
some_from k n =
    let more : IsSome (digit_glyph false (n % 10) ∷ []) = omega arith in
    either IsSome (n / 10 == 0) (digit_glyph false (n % 10) ∷ []) (digits_onto k 10 false (n / 10) (digit_glyph false (n % 10) ∷ [])) more (digits_some k (n / 10) (digit_glyph false (n % 10) ∷ []) more)

number_some : (n : ℕ) → 0 < length (decimal n)
unfolding digits
number_some n = some_from 63 n

datagram_line_is : (n : ℕ) (d : Datagram) → datagram_line n d ≡ (decimal n ++ spaced (datagram_words d)) ++ newline
unfolding datagram_line
datagram_line_is n d = sym (append_assoc (decimal n) (spaced (datagram_words d)) newline)

datagram_stays : (n : ℕ) (d : Datagram) (rest : Text) → IsFull d → without_indented (datagram_line n d ++ rest) ≡ datagram_line n d ++ without_indented rest
datagram_stays n d rest f =
    let is = datagram_line_is n d in
    rw is (words_stay (decimal n) (datagram_words d) rest (number_word n) (number_some n) (datagram_are_words d f.0 f.1))

datagrams_stay : (n : ℕ) (ds : List Datagram) (rest : Text) → AllByRecursion IsFull ds → without_indented (datagram_lines n ds ++ rest) ≡ datagram_lines n ds ++ without_indented rest
datagrams_stay n [] rest f = refl
datagrams_stay n (d ∷ ds) rest f =
    ap without_indented (append_assoc (datagram_line n d) (datagram_lines (n + 1) ds) rest)
    ∙ datagram_stays n d (datagram_lines (n + 1) ds ++ rest) f.0
    ∙ ap (λ (t : Text). datagram_line n d ++ t) (datagrams_stay (n + 1) ds rest f.1)
    ∙ sym (append_assoc (datagram_line n d) (datagram_lines (n + 1) ds) (without_indented rest))

-- ---- a frame

full : (ds : List Datagram) → AllByRecursion IsDatagram ds → AllByRecursion (λ (d : Datagram). AllByRecursion IsByte d.data_bytes) ds → AllByRecursion IsFull ds
full [] f g = tt
full (d ∷ ds) f g = ((f.0, bytes_at d.data_bytes g.0), full ds f.1 g.1)

heading_line_is : (n : ℕ) (r : Bool) (rest : List ℕ) → heading_line n r rest ≡ (codes "frame" ++ spaced (decimal n ∷ (reserved_bit_words r ++ rest_words rest))) ++ newline
unfolding heading_line
heading_line_is n r rest = sym (append_assoc (codes "frame") (spaced (decimal n ∷ (reserved_bit_words r ++ rest_words rest))) newline)

heading_stays : (n : ℕ) (r : Bool) (rest : List ℕ) (more : Text) → n < 2 ^ 64 → IsBytes rest → without_indented (heading_line n r rest ++ more) ≡ heading_line n r rest ++ without_indented more
heading_stays n r rest more few bytes =
    let is = heading_line_is n r rest in
    rw is (words_stay (codes "frame") (decimal n ∷ (reserved_bit_words r ++ rest_words rest)) more (verb_word (codes "frame") refl) (omega arith) (heading_are_words n r rest few bytes))

frame_stays : (payload : List ℕ) (p : Payload) (rest : Text) → IsFrame payload p → without_indented (frame_text p ++ rest) ≡ frame_text p ++ without_indented rest
frame_stays payload p rest f =
    let bytes = data_are_bytes payload p f in
    let most = f.most in
    let few : length p.datagrams < 2 ^ 64 = omega (arith, opened_long p.datagrams, joined_length p.datagrams) in
    let head : Text = heading_line (length p.datagrams) p.reserved p.rest in
    ap without_indented (append_assoc head (datagram_lines 0 p.datagrams) rest)
    ∙ heading_stays (length p.datagrams) p.reserved p.rest (datagram_lines 0 p.datagrams ++ rest) few (bytes_at p.rest bytes.1)
    ∙ ap (λ (t : Text). head ++ t) (datagrams_stay 0 p.datagrams rest (full p.datagrams f.each bytes.0))
    ∙ sym (append_assoc head (datagram_lines 0 p.datagrams) (without_indented rest))

-- ---- what is no frame

error_word : (e : FrameError) → IsWord (error_name e)
error_word Short = verb_word (codes "Short") refl
error_word BadType = verb_word (codes "BadType") refl
error_word BadLength = verb_word (codes "BadLength") refl
error_word BadMore = verb_word (codes "BadMore") refl
error_word BadCommand = verb_word (codes "BadCommand") refl
error_word TooLong = verb_word (codes "TooLong") refl

abbrev refused_words : LocatedFault → List Text
refused_words r = decimal (refusal_number r.error) ∷ error_name r.error ∷ codes "datagram" ∷ decimal r.whole ∷ codes "byte" ∷ decimal r.at ∷ []

refused_are_words : (r : LocatedFault) → AreWords (refused_words r)
refused_are_words r = (number_word (refusal_number r.error), (error_word r.error, (verb_word (codes "datagram") refl, (number_word r.whole, (verb_word (codes "byte") refl, (number_word r.at, tt))))))

refused_line_is : (r : LocatedFault) → refused_line r ≡ (codes "refused" ++ spaced (refused_words r)) ++ newline
unfolding refused_line
refused_line_is r = sym (append_assoc (codes "refused") (spaced (refused_words r)) newline)

refused_line_stays : (r : LocatedFault) (rest : Text) → without_indented (refused_line r ++ rest) ≡ refused_line r ++ without_indented rest
refused_line_stays r rest =
    let is = refused_line_is r in
    rw is (words_stay (codes "refused") (refused_words r) rest (verb_word (codes "refused") refl) (omega arith) (refused_are_words r))

all_left : (xs ys : List ℕ) → AllByRecursion IsByte (xs ++ ys) → AllByRecursion IsByte xs
all_left [] ys h = tt
all_left (x ∷ xs) ys h = (h.0, all_left xs ys h.1)

all_right : (xs ys : List ℕ) → AllByRecursion IsByte (xs ++ ys) → AllByRecursion IsByte ys
all_right [] ys h = h
all_right (x ∷ xs) ys h = all_right xs ys h.1

opened_bytes : (ds : List Datagram) (rest : List ℕ) → AllByRecursion IsByte (opened ds ++ rest) → AllByRecursion (λ (d : Datagram). AllByRecursion IsByte d.data_bytes) ds
opened_bytes [] rest h = tt
opened_bytes (d ∷ ds) rest h =
    let again : AllByRecursion IsByte (spelling true d ++ (opened ds ++ rest)) = subst (λ (xs : List ℕ). AllByRecursion IsByte xs) (append_assoc (spelling true d) (opened ds) rest) h in
    let body : AllByRecursion IsByte (d.data_bytes ++ little_bytes 2 d.counter) = all_right (heading true d) (d.data_bytes ++ little_bytes 2 d.counter) (all_left (spelling true d) (opened ds ++ rest) again) in
    (all_left d.data_bytes (little_bytes 2 d.counter) body, opened_bytes ds rest (all_right (spelling true d) (opened ds ++ rest) again))

stand_full : (bytes : List ℕ) (ds : List Datagram) (rest : List ℕ) → AllByRecursion IsByte bytes → bytes ≡ opened ds ++ rest → AllByRecursion IsDatagram ds → AllByRecursion IsFull ds
stand_full bytes ds rest all is each = full ds each (opened_bytes ds rest (subst (λ (xs : List ℕ). AllByRecursion IsByte xs) is all))

joined_bytes : (ds : List Datagram) (rest : List ℕ) → AllByRecursion IsByte (joined ds ++ rest) → AllByRecursion (λ (d : Datagram). AllByRecursion IsByte d.data_bytes) ds
joined_bytes [] rest h = tt
joined_bytes (d ∷ ds) rest h =
    let m = is_followed ds in
    let again : AllByRecursion IsByte (spelling m d ++ (joined ds ++ rest)) = subst (λ (xs : List ℕ). AllByRecursion IsByte xs) (append_assoc (spelling m d) (joined ds) rest) h in
    let body : AllByRecursion IsByte (d.data_bytes ++ little_bytes 2 d.counter) = all_right (heading m d) (d.data_bytes ++ little_bytes 2 d.counter) (all_left (spelling m d) (joined ds ++ rest) again) in
    (all_left d.data_bytes (little_bytes 2 d.counter) body, joined_bytes ds rest (all_right (spelling m d) (joined ds ++ rest) again))

whole_full : (bytes : List ℕ) (ds : List Datagram) (rest : List ℕ) → AllByRecursion IsByte bytes → AllByRecursion IsDatagram ds → ((0 < length ds) × (bytes ≡ joined ds ++ rest)) ⊎ ((bytes ≡ opened ds ++ rest) × BeginsNone rest) → AllByRecursion IsFull ds
whole_full bytes ds rest all each (inl h) = full ds each (joined_bytes ds rest (subst (λ (xs : List ℕ). AllByRecursion IsByte xs) h.1 all))
whole_full bytes ds rest all each (inr h) = stand_full bytes ds rest all h.0 each

all_drop : (n : ℕ) (xs : List ℕ) → AllByRecursion IsByte xs → AllByRecursion IsByte (drop n xs)
all_drop zero xs h = h
all_drop (suc n) [] h = tt
all_drop (suc n) (x ∷ xs) h = all_drop n xs h.1

all_take : (n : ℕ) (xs : List ℕ) → AllByRecursion IsByte xs → AllByRecursion IsByte (take n xs)
all_take zero xs h = tt
all_take (suc n) [] h = tt
all_take (suc n) (x ∷ xs) h = (h.0, all_take n xs h.1)

area_bytes : (payload : List ℕ) → AllByRecursion IsByte payload → AllByRecursion IsByte (area payload)
area_bytes payload h = all_take (length_field payload) (drop 2 payload) (all_drop 2 payload h)

none_full : (ds : List Datagram) → ds ≡ [] → AllByRecursion IsFull ds
none_full ds is = rw is tt

before_full : (payload : List ℕ) (e : FrameError) (ds : List Datagram) (at : ℕ) → AllByRecursion IsByte (area payload) → StandBefore payload e ds at → AllByRecursion IsFull ds
before_full payload e ds at all s =
    subst (λ (es : List Datagram). AllByRecursion IsFull es) s.whole (stand_full (area payload) s.fault.before s.fault.rest all s.fault.parts s.fault.each)

placed_full : (payload : List ℕ) (e : FrameError) (ds : List Datagram) (at : ℕ) → AllByRecursion IsByte (area payload) → IsLocated payload e ds at → AllByRecursion IsFull ds
placed_full payload Short ds at all p = whole_full (area payload) ds p.0.rest all p.0.each p.0.parts
placed_full payload BadType ds at all p = none_full ds p.0
placed_full payload TooLong ds at all p = none_full ds p.0
placed_full payload BadLength ds at all (inl h) = none_full ds h.1.0
placed_full payload BadLength ds at all (inr s) = before_full payload BadLength ds at all s
placed_full payload BadCommand ds at all s = before_full payload BadCommand ds at all s
placed_full payload BadMore ds at all s = before_full payload BadMore ds at all s

refused_stays : (payload : List ℕ) (r : LocatedFault) (ds : List Datagram) (rest : Text) → AllByRecursion IsByte payload → IsRefusedAt payload r ds
    → without_indented (refused_text r ds ++ rest) ≡ refused_text r ds ++ without_indented rest
refused_stays payload r ds rest all at =
    ap without_indented (append_assoc (datagram_lines 0 ds) (refused_line r) rest)
    ∙ datagrams_stay 0 ds (refused_line r ++ rest) (placed_full payload r.error ds r.at (area_bytes payload all) at.placed)
    ∙ ap (λ (t : Text). datagram_lines 0 ds ++ t) (refused_line_stays r rest)
    ∙ sym (append_assoc (datagram_lines 0 ds) (refused_line r) (without_indented rest))

-- ---- payloads one after another

text_stays : (payload : List ℕ) (text rest : Text) → AllByRecursion IsByte payload → IsTextOf payload text → without_indented (text ++ rest) ≡ text ++ without_indented rest
text_stays payload text rest all (inl h) = let is = h.2 in rw is (frame_stays payload h.0 rest h.1)
text_stays payload text rest all (inr h) = let is = h.3 in rw is (refused_stays payload h.0 h.1 rest all h.2)

by_recursion : (bytes : List ℕ) → IsBytes bytes → AllByRecursion IsByte bytes
by_recursion [] h = tt
by_recursion (b ∷ bytes) h = (h 0, by_recursion bytes (λ k. h (suc k)))

line_text_stays : (line text rest : Text) → IsLineText line text → without_indented (text ++ rest) ≡ text ++ without_indented rest
line_text_stays line text rest (inl h) = let is = h.1 in rw is refl
line_text_stays line text rest (inr h) = text_stays h.1.0 text rest (by_recursion h.1.0 (decode_of-ok line h.1.0 h.1.1).3) h.1.2

pub texts_have_no_indented_lines : TextsHaveNoIndentedLines
texts_have_no_indented_lines [] printed whole h = let is = h.0 in rw is refl
texts_have_no_indented_lines (line ∷ lines) printed whole (inl h) = let is = h.1 in rw is refl
texts_have_no_indented_lines (line ∷ lines) printed whole (inr h) =
    let (text, more, is_text, rest, is) = h in
    ap without_indented is ∙ line_text_stays line text more is_text ∙ ap (λ (t : Text). text ++ t) (texts_have_no_indented_lines lines more whole rest) ∙ sym is

pub one_frame_stays : (payload : List ℕ) (p : Payload) → IsFrame payload p → without_indented (frame_text p) ≡ frame_text p
one_frame_stays payload p f = ap without_indented (sym (append-nil (frame_text p))) ∙ frame_stays payload p [] f ∙ append-nil (frame_text p)
