-- What is written of a frame is read back, line by line.
use Rattle.std.proofs.Common.{◌≡◌, ◌∙◌, ℕ, suc, ◌-◌, ◌<◌, ◌^◌, ◌==◌, ◌||◌, List, [], ◌∷◌, ◌++◌, length, get_or, slice_index, Bool, true, false, cond, if◌then◌else◌, Some, All, codes, refl, sym, ap, append_assoc, append-nil, arith}
use Rattle.std.specs.Fmt.{decimal}
use Rattle.std.specs.List.{AllByRecursion, onto_first, slice_split}
use Rattle.std.specs.Str.Lines.{lines, lines_of_parts, strip_carriage_return}
use Rattle.std.proofs.lemmas.Bool.Decides.{nat_tests}
use Rattle.std.proofs.lemmas.List.Elements.{All-nil, All-cons, All-head}
use Rattle.std.proofs.lemmas.List.Splits.{slice_split_at, slice_split_none}
use Rattle.hex.specs.Hex.{IsBytes}
use Rattle.ec_frame.specs.Datagram.{Datagram, IsDatagram}
use Rattle.ec_decode.specs.declared.line.Fields.{Fields}
use Rattle.ec_decode.specs.FrameText.{Text, address_words, circulating_words, command_name, byte_text, data_text, datagram_words, irq_words, reserved_bit_words, reserved_words, rest_words, seldom_words, spaced, word_text}
use Rattle.ec_decode.specs.Lines.{datagram_in, fields_in, flag_in, heading_in, option_in, rest_in, tail_in}
use Rattle.ec_decode.specs.Words.{bits_in, hex_in, words_of}
use Rattle.ec_decode.specs.Reading.{is_skipped}
use Rattle.ec_decode.proofs.ReadingWords.{IsWord, Lacks, address_back, address_words_are, append_all, bits_back, byte_back, byte_word, bytes_back, command_back, command_word, counter_back, data_back, data_word, hex_word, how_is_word, how_word, number_back, number_word, verb_word, where_is_word, where_word, word_back, word_word}

-- ---- words of a line

abbrev pub AreWords : List Text → Type 0
AreWords words = AllByRecursion IsWord words

no_blank : (b : ℕ) → 32 < b → (b == 32) ≡ false
no_blank b h = grind (arith, nat_tests)

without_blanks : (word : Text) → IsWord word → Lacks 32 word
without_blanks word h = λ i d lt. no_blank (get_or word i d) (h i d lt)

pub split_back : (word : Text) (words : List Text) → IsWord word → AreWords words → words_of (word ++ spaced words) ≡ word ∷ words
split_back word [] h g = ap words_of (append-nil word) ∙ slice_split_none (λ b. b == 32) word (without_blanks word h)
split_back word (next ∷ words) h g = slice_split_at (λ b. b == 32) word 32 (next ++ spaced words) (without_blanks word h) refl ∙ ap (λ ws. word ∷ ws) (split_back next words g.0 g.1)

pub words_append : (xs ys : List Text) → AreWords xs → AreWords ys → AreWords (xs ++ ys)
words_append [] ys f g = g
words_append (x ∷ xs) ys f g = (f.0, words_append xs ys f.1 g)

-- ---- lines of a text

abbrev pub IsLine : Text → Type 0
IsLine line = All (λ b. 31 < b) line

line_of_word : (word : Text) → IsWord word → IsLine word
line_of_word word h = λ i d lt. let more : 32 < get_or word i d = h i d lt in omega arith

spaced_line : (words : List Text) → AreWords words → IsLine (spaced words)
spaced_line [] h = All-nil (λ b. 31 < b)
spaced_line (word ∷ words) h = All-cons (λ b. 31 < b) 32 (word ++ spaced words) (omega arith) (append_all (λ b. 31 < b) word (spaced words) (line_of_word word h.0) (spaced_line words h.1))

pub is_line : (word : Text) (words : List Text) → IsWord word → AreWords words → IsLine (word ++ spaced words)
is_line word words h g = append_all (λ b. 31 < b) word (spaced words) (line_of_word word h) (spaced_line words g)

no_end : (b : ℕ) → 31 < b → (b == 10) ≡ false
no_end b h = grind (arith, nat_tests)

without_ends : (line : Text) → IsLine line → Lacks 10 line
without_ends line h = λ i d lt. no_end (get_or line i d) (h i d lt)

no_return : (b : ℕ) → 31 < b → (b == 13) ≡ false
no_return b h = grind (arith, nat_tests)

not_stripped : (line : Text) → IsLine line → 0 < length line → strip_carriage_return line ≡ line
not_stripped line h some =
    let last : (slice_index line (length line - 1) == 13) ≡ false = no_return (get_or line (length line - 1) 0) (h (length line - 1) 0 (omega arith)) in
    rw last refl

pub record Some_parts (parts : List Text) : Type 0 where
  pub first : Text
  pub others : List Text
  pub is : parts ≡ first ∷ others

onto_some : (x : ℕ) (parts : List Text) → Some_parts parts → Some_parts (onto_first x parts)
onto_some x [] s = record { first = x ∷ []; others = []; is = refl }
onto_some x (p ∷ ps) s = record { first = x ∷ p; others = ps; is = refl }

some_parts : (text : Text) → Some_parts (slice_split (λ b. b == 10) text)
some_parts [] = record { first = []; others = []; is = refl }
some_parts (x ∷ xs) = by (x == 10) (some_parts xs)
  where
    by : (b : Bool) → Some_parts (slice_split (λ b. b == 10) xs) → Some_parts (cond b ([] ∷ slice_split (λ b. b == 10) xs) (onto_first x (slice_split (λ b. b == 10) xs)))
    by true s = record { first = []; others = slice_split (λ b. b == 10) xs; is = refl }
    by false s = onto_some x (slice_split (λ b. b == 10) xs) s

parts_lines : (line : Text) (parts : List Text) → Some_parts parts → lines_of_parts (line ∷ parts) ≡ strip_carriage_return line ∷ lines_of_parts parts
parts_lines line parts s = rw s.is refl

pub lines_step : (line rest : Text) → IsLine line → 0 < length line → lines (line ++ 10 ∷ rest) ≡ line ∷ lines rest
lines_step line rest h some =
    ap lines_of_parts (slice_split_at (λ b. b == 10) line 10 rest (without_ends line h) refl)
    ∙ parts_lines line (slice_split (λ b. b == 10) rest) (some_parts rest)
    ∙ ap (λ t. t ∷ lines rest) (not_stripped line h some)

-- ---- a line that says something

not_blank : (b : ℕ) → 32 < b → ((b == 32) || (b == 9)) ≡ false
not_blank b h = let one : (b == 32) ≡ false = grind (arith, nat_tests) in let two : (b == 9) ≡ false = grind (arith, nat_tests) in rw (one, two) refl

not_none : (n : ℕ) → (suc n == 0) ≡ false
not_none n = grind (arith, nat_tests)

pub says : (word more : Text) → IsWord word → 0 < length word → is_skipped (word ++ more) ≡ false
says [] more h some = absurd (omega arith)
says (b ∷ bs) more h some = rw (not_none (length (bs ++ more))) (not_blank b (All-head (λ b. 32 < b) b bs h))

-- ---- a datagram's line

is_zero : (n : ℕ) → (n == 0) ≡ true → n ≡ 0
is_zero n h = grind (arith, nat_tests)

circulating_back : (c : Bool) (a : Text) (ws : List Text) → flag_in (codes "circulating") (circulating_words c ++ codes "counter" ∷ a ∷ ws) ≡ (c, codes "counter" ∷ a ∷ ws)
unfolding flag_in
circulating_back true a ws = refl
circulating_back false a ws = refl

not_reserved : (c : Bool) (a : Text) (ws : List Text) → option_in bits_in (codes "reserved") (circulating_words c ++ codes "counter" ∷ a ∷ ws) ≡ Some (0, circulating_words c ++ codes "counter" ∷ a ∷ ws)
unfolding option_in
not_reserved true a ws = refl
not_reserved false a ws = refl

reserved_back : (r : ℕ) (c : Bool) (a : Text) (ws : List Text) → r < 8
    → option_in bits_in (codes "reserved") (reserved_words r ++ (circulating_words c ++ codes "counter" ∷ a ∷ ws)) ≡ Some (r, circulating_words c ++ codes "counter" ∷ a ∷ ws)
unfolding option_in
reserved_back r c a ws h = by (r == 0) refl
  where
    by : (z : Bool) → (r == 0) ≡ z → option_in bits_in (codes "reserved") (reserved_words r ++ (circulating_words c ++ codes "counter" ∷ a ∷ ws)) ≡ Some (r, circulating_words c ++ codes "counter" ∷ a ∷ ws)
    by true e = rw e (not_reserved c a ws ∙ ap (λ n. Some (n, circulating_words c ++ codes "counter" ∷ a ∷ ws)) (sym (is_zero r e)))
    by false e = rw e (rw (bits_back r h) refl)

not_irq : (z : Bool) (r : ℕ) (c : Bool) (a : Text) (ws : List Text) → let rest = (if z then [] else codes "reserved" ∷ decimal r ∷ []) ++ (circulating_words c ++ codes "counter" ∷ a ∷ ws) in option_in (hex_in 2) (codes "irq") rest ≡ Some (0, rest)
unfolding option_in
not_irq false r c a ws = refl
not_irq true r true a ws = refl
not_irq true r false a ws = refl

irq_back : (q r : ℕ) (c : Bool) (a : Text) (ws : List Text) → q < 65536
    → let rest = reserved_words r ++ (circulating_words c ++ codes "counter" ∷ a ∷ ws) in option_in (hex_in 2) (codes "irq") (irq_words q ++ rest) ≡ Some (q, rest)
unfolding option_in
irq_back q r c a ws h = by (q == 0) refl
  where
    by : (z : Bool) → (q == 0) ≡ z → let rest = reserved_words r ++ (circulating_words c ++ codes "counter" ∷ a ∷ ws) in option_in (hex_in 2) (codes "irq") (irq_words q ++ rest) ≡ Some (q, rest)
    by true e = rw e (not_irq (r == 0) r c a ws ∙ ap (λ n. Some (n, reserved_words r ++ (circulating_words c ++ codes "counter" ∷ a ∷ ws))) (sym (is_zero q e)))
    by false e = rw e (rw (word_back q h) refl)

tail_back : (n : ℕ) (bytes : List ℕ) → n < 65536 → tail_in (codes "counter" ∷ decimal n ∷ codes "data" ∷ data_text bytes ∷ []) ≡ Some (n, data_text bytes)
unfolding tail_in
tail_back n bytes h = rw (counter_back n h) refl

same_number : (n : ℕ) → (n == n) ≡ true
same_number n = grind (arith, nat_tests)

abbrev fields_of : Datagram → Fields
fields_of d = record { command = d.command; index = d.index; address = d.address; irq = d.irq; reserved = d.reserved; circulating = d.circulating }

abbrev tail_words : Datagram → List Text
tail_words d = codes "counter" ∷ decimal d.counter ∷ codes "data" ∷ data_text d.data_bytes ∷ []

-- the words of a datagram one by one
abbrev one_by_one : ℕ → Datagram → List Text
one_by_one n d =
    decimal n ∷ command_name d.command ∷ codes "index" ∷ byte_text d.index ∷ how_word d.command ∷ where_word d.command d.address
    ∷ (irq_words d.irq ++ (reserved_words d.reserved ++ (circulating_words d.circulating ++ tail_words d)))

words_are : (n : ℕ) (d : Datagram) → decimal n ∷ datagram_words d ≡ one_by_one n d
words_are n d =
    ap (λ (ws : List Text). decimal n ∷ command_name d.command ∷ codes "index" ∷ byte_text d.index ∷ (ws ++ (seldom_words d ++ tail_words d))) (address_words_are d.command d.address)
    ∙ ap (λ (ws : List Text). decimal n ∷ command_name d.command ∷ codes "index" ∷ byte_text d.index ∷ how_word d.command ∷ where_word d.command d.address ∷ ws)
    (append_assoc (irq_words d.irq) (reserved_words d.reserved ++ circulating_words d.circulating) (tail_words d) ∙ ap (λ (ws : List Text). irq_words d.irq ++ ws) (append_assoc (reserved_words d.reserved) (circulating_words d.circulating) (tail_words d)))

fields_back : (n : ℕ) (d : Datagram) → n < 2 ^ 64 → IsDatagram d → fields_in n (one_by_one n d) ≡ Some (fields_of d, tail_words d)
unfolding fields_in
fields_back n d h good =
    rw (number_back n h, same_number n, command_back d.command, byte_back d.index good.index, address_back d.command d.address good.address, irq_back d.irq d.reserved d.circulating (decimal d.counter) (codes "data" ∷ data_text d.data_bytes ∷ []) good.irq, reserved_back d.reserved d.circulating (decimal d.counter) (codes "data" ∷ data_text d.data_bytes ∷ []) good.reserved, circulating_back d.circulating (decimal d.counter) (codes "data" ∷ data_text d.data_bytes ∷ [])) refl

pub datagram_back : (n : ℕ) (d : Datagram) → n < 2 ^ 64 → IsDatagram d → IsBytes d.data_bytes → datagram_in n (decimal n ∷ datagram_words d) ≡ Some d
unfolding datagram_in
datagram_back n d h good bytes =
    rw (words_are n d, fields_back n d h good, tail_back d.counter d.data_bytes good.counter, data_back d.data_bytes bytes) refl

seldom_are_words : (q r : ℕ) (c : Bool) → r < 8 → AreWords (irq_words q ++ (reserved_words r ++ circulating_words c))
seldom_are_words q r c h = words_append (irq_words q) (reserved_words r ++ circulating_words c) (one (q == 0)) (words_append (reserved_words r) (circulating_words c) (two (r == 0)) (three c))
  where
    one : (z : Bool) → AreWords (if z then [] else codes "irq" ∷ word_text q ∷ [])
    one true = tt
    one false = (verb_word (codes "irq") refl, (word_word q, tt))

    two : (z : Bool) → AreWords (if z then [] else codes "reserved" ∷ decimal r ∷ [])
    two true = tt
    two false = (verb_word (codes "reserved") refl, (number_word r (omega arith), tt))

    three : (z : Bool) → AreWords (if z then codes "circulating" ∷ [] else [])
    three true = (verb_word (codes "circulating") refl, tt)
    three false = tt

pub datagram_are_words : (d : Datagram) → IsDatagram d → IsBytes d.data_bytes → AreWords (datagram_words d)
datagram_are_words d good bytes =
    let address : AreWords (address_words d.command d.address) = rw (address_words_are d.command d.address) (how_is_word d.command, (where_is_word d.command d.address, tt)) in
    let counter = good.counter in (
      command_word d.command,
      (
        verb_word (codes "index") refl,
        (
          byte_word d.index,
          words_append (address_words d.command d.address) _ address
              (words_append (seldom_words d) (tail_words d) (seldom_are_words d.irq d.reserved d.circulating good.reserved)
              (verb_word (codes "counter") refl, (number_word d.counter (omega arith), (verb_word (codes "data") refl, (data_word d.data_bytes bytes, tt))))),
        ),
      ),
    )

-- ---- a frame's line

rest_back : (rest : List ℕ) → IsBytes rest → rest_in (rest_words rest) ≡ Some rest
unfolding rest_in
rest_back [] h = refl
rest_back (b ∷ bytes) h = bytes_back b bytes h

reserved_bit_back : (r : Bool) (rest : List ℕ) → flag_in (codes "reserved") (reserved_bit_words r ++ rest_words rest) ≡ (r, rest_words rest)
unfolding flag_in
reserved_bit_back true rest = refl
reserved_bit_back false [] = refl
reserved_bit_back false (b ∷ bytes) = refl

not_zero : (n : ℕ) → 0 < n → (n == 0) ≡ false
not_zero n h = grind (arith, nat_tests)

pub heading_back : (n : ℕ) (r : Bool) (rest : List ℕ) → 0 < n → n < 2 ^ 64 → IsBytes rest
    → heading_in (codes "frame" ∷ decimal n ∷ (reserved_bit_words r ++ rest_words rest)) ≡ Some (record { count = n; reserved = r; rest = rest })
unfolding heading_in
heading_back n r rest some few h = rw (number_back n few, not_zero n some, reserved_bit_back r rest, rest_back rest h) refl

pub heading_are_words : (n : ℕ) (r : Bool) (rest : List ℕ) → n < 2 ^ 64 → IsBytes rest → AreWords (decimal n ∷ (reserved_bit_words r ++ rest_words rest))
heading_are_words n r rest few h = (number_word n few, words_append (reserved_bit_words r) (rest_words rest) (one r) (two rest h))
  where
    one : (z : Bool) → AreWords (if z then codes "reserved" ∷ [] else [])
    one true = (verb_word (codes "reserved") refl, tt)
    one false = tt

    two : (bytes : List ℕ) → IsBytes bytes → AreWords (rest_words bytes)
    two [] g = tt
    two (b ∷ bytes) g = (verb_word (codes "rest") refl, (hex_word (b ∷ bytes) g, tt))
