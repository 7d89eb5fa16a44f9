-- The text of frames is read back as these frames.
use Rattle.std.proofs.Common.{◌≡◌, ◌∙◌, ℕ, suc, ◌+◌, ◌<◌, ◌≤◌, ◌^◌, ◌==◌, List, [], ◌∷◌, ◌++◌, length, Bool, true, false, nat_le, if◌then◌else◌, Option, Some, None, Result, Ok, codes, option_and_then, option_map, refl, sym, ap, append_assoc, append-nil, arith}
use Rattle.std.specs.Fmt.{decimal}
use Rattle.std.specs.List.{AllByRecursion, flat_map}
use Rattle.std.specs.Str.Lines.{lines}
use Rattle.std.proofs.lemmas.Bool.Decides.{nat_tests}
use Rattle.std.proofs.lemmas.Fmt.{decimal_nonempty}
use Rattle.std.proofs.lemmas.Grind.{flat_map-append}
use Rattle.std.proofs.lemmas.List.{length-append, length_push}
use Rattle.byteorder.specs.Endian.{little_bytes}
use Rattle.hex.specs.Hex.{IsBytes}
use Rattle.ec_frame.specs.Datagram.{Datagram, IsDatagram, joined, opened, spelling}
use Rattle.ec_frame.specs.Frame.{IsByte, IsFrame, Payload}
use Rattle.ec_frame.proofs.FrameLaws.{data_are_bytes}
use Rattle.ec_frame.proofs.Steps.{joined_length}
use Rattle.ec_decode.specs.FrameText.{Text, datagram_line, datagram_lines, datagram_words, frame_text, heading_line, newline, reserved_bit_words, rest_words, spaced}
use Rattle.ec_decode.specs.Laws.{IsWritten, ListsReadBack, OneTextIsOneFrame, TextsReadBack}
use Rattle.ec_decode.specs.Lines.{Heading, datagram_in}
use Rattle.ec_decode.specs.Words.{words_of}
use Rattle.ec_decode.specs.Reading.{Begun, Step, before, begins, frames_from, frames_of, grown, grows, is_skipped, step_by, step_of}
use Rattle.ec_decode.proofs.ReaderFields.{opened_long}
use Rattle.ec_decode.proofs.ReadingWords.{bytes_at, number_word, verb_word}
use Rattle.ec_decode.proofs.ReadingLines.{datagram_are_words, datagram_back, heading_are_words, heading_back, is_line, lines_step, says, split_back}

-- ---- datagrams that can be written

abbrev IsFull : Datagram → Type 0
IsFull d = IsDatagram d × IsBytes d.data_bytes

full : (ds : List Datagram) → AllByRecursion IsDatagram ds → AllByRecursion (λ (d : Datagram). AllByRecursion IsByte d.data_bytes) ds → AllByRecursion IsFull ds
full [] f g = tt
full (d ∷ ds) f g = ((f.0, bytes_at d.data_bytes g.0), full ds f.1 g.1)

-- ---- lines

abbrev text_of : ℕ → Datagram → Text
text_of n d = decimal n ++ spaced (datagram_words d)

abbrev texts_of : ℕ → List Datagram → List Text
texts_of n [] = []
texts_of n (d ∷ ds) = text_of n d ∷ texts_of (n + 1) ds

ends_line : (n : ℕ) (d : Datagram) (more : Text) → datagram_line n d ++ more ≡ text_of n d ++ 10 ∷ more
unfolding datagram_line
ends_line n d more = ap (λ (t : Text). t ++ more) (sym (append_assoc (decimal n) (spaced (datagram_words d)) newline)) ∙ append_assoc (text_of n d) newline more

longer : (xs ys : Text) → 0 < length xs → 0 < length (xs ++ ys)
longer xs ys h = omega (arith, length-append xs ys)

lines_back : (n : ℕ) (ds : List Datagram) (more : Text) → AllByRecursion IsFull ds → n + length ds < 2 ^ 64 → lines (datagram_lines n ds ++ more) ≡ texts_of n ds ++ lines more
lines_back n [] more f few = refl
lines_back n (d ∷ ds) more f few =
    let few_now : n < 2 ^ 64 = omega arith in
    let few_next : (n + 1) + length ds < 2 ^ 64 = omega arith in
    let rest : Text = datagram_lines (n + 1) ds ++ more in
    ap lines (append_assoc (datagram_line n d) (datagram_lines (n + 1) ds) more ∙ ends_line n d rest)
    ∙ lines_step (text_of n d) rest (is_line (decimal n) (datagram_words d) (number_word n few_now) (datagram_are_words d f.0.0 f.0.1)) (longer (decimal n) (spaced (datagram_words d)) (decimal_nonempty n few_now))
    ∙ ap (λ (ts : List Text). text_of n d ∷ ts) (lines_back (n + 1) ds more f.1 few_next)

-- ---- one line

said : (begun : Option Begun) (word : Text) (words : List Text) (line : Text) → line ≡ word ++ spaced words → is_skipped (word ++ spaced words) ≡ false → words_of (word ++ spaced words) ≡ word ∷ words → step_of begun line ≡ step_by begun (word ∷ words)
said begun word words line is says split = rw (is, says, split) refl

grows_back : (b : Begun) (d : Datagram) → length (opened (b.datagrams ++ d ∷ [])) ≤ 1470 → grows b d ≡ Some (grown b d)
grows_back b d h = let t : nat_le (length (opened (b.datagrams ++ d ∷ []))) 1470 ≡ true = grind (arith, nat_tests) in rw t refl

line_back : (b : Begun) (k : ℕ) (d : Datagram) → k ≡ length b.datagrams → k < 2 ^ 64 → IsFull d → length (opened (b.datagrams ++ d ∷ [])) ≤ 1470 → step_of (Some b) (text_of k d) ≡ Some (grown b d)
line_back b k d is few f most =
    let word = number_word k few in
    let back : datagram_in (length b.datagrams) (decimal k ∷ datagram_words d) ≡ Some d = rw (← is) (datagram_back k d few f.0 f.1) in
    said (Some b) (decimal k) (datagram_words d) (text_of k d) refl (says (decimal k) (spaced (datagram_words d)) word (decimal_nonempty k few)) (split_back (decimal k) (datagram_words d) word (datagram_are_words d f.0 f.1))
    ∙ ap (option_and_then (grows b)) back ∙ grows_back b d most

-- ---- the lines of a frame's datagrams

opened-append : (ds es : List Datagram) → opened (ds ++ es) ≡ opened ds ++ opened es
opened-append ds es = flat_map-append (spelling true) ds es

prefix_fits : (ds es : List Datagram) (d : Datagram) → length (opened (ds ++ d ∷ es)) ≤ 1470 → length (opened (ds ++ d ∷ [])) ≤ 1470
prefix_fits ds es d h =
    omega (arith, ap length (opened-append ds (d ∷ es)), ap length (opened-append ds (d ∷ [])), length-append (opened ds) (opened (d ∷ es)), length-append (opened ds) (opened (d ∷ [])), length-append (spelling true d) (opened es), length-append (spelling true d) [])

abbrev begun_at : Heading → List Datagram → Begun
begun_at h ds = record { heading = h; datagrams = ds }

abbrev payload_at : Heading → List Datagram → Payload
payload_at h ds = record { reserved = h.reserved; datagrams = ds; rest = h.rest }

last_grown : (h : Heading) (ds : List Datagram) (d : Datagram) → length ds + 1 ≡ h.count → grown (begun_at h ds) d ≡ record { left = None; frame = Some (payload_at h (ds ++ d ∷ [])) }
last_grown h ds d is = let t : (length ds + 1 == h.count) ≡ true = grind (arith, nat_tests) in rw t refl

more_grown : (h : Heading) (ds : List Datagram) (d : Datagram) → length ds + 1 < h.count → grown (begun_at h ds) d ≡ record { left = Some (begun_at h (ds ++ d ∷ [])); frame = None }
more_grown h ds d is = let t : (length ds + 1 == h.count) ≡ false = grind (arith, nat_tests) in rw t refl

step_on : (n : ℕ) (begun : Option Begun) (line : Text) (ls : List Text) (s : Step) → step_of begun line ≡ Some s → frames_from n begun (line ∷ ls) ≡ before s.frame (frames_from (n + 1) s.left ls)
unfolding frames_from
step_on n begun line ls s is = rw is refl

datagrams_back : (h : Heading) (d : Datagram) (es ds : List Datagram) (n k : ℕ) (ls : List Text) → k ≡ length ds → k + suc (length es) ≡ h.count → h.count < 2 ^ 64 → IsFull d → AllByRecursion IsFull es → length (opened (ds ++ d ∷ es)) ≤ 1470
    → frames_from n (Some (begun_at h ds)) (texts_of k (d ∷ es) ++ ls) ≡ before (Some (payload_at h (ds ++ d ∷ es))) (frames_from (n + suc (length es)) None ls)
datagrams_back h d [] ds n k ls is count few f g most =
    step_on n (Some (begun_at h ds)) (text_of k d) ls _ (line_back (begun_at h ds) k d is (omega arith) f most ∙ ap Some (last_grown h ds d (omega arith)))
datagrams_back h d (e ∷ es) ds n k ls is count few f g most =
    let again : (ds ++ d ∷ []) ++ e ∷ es ≡ ds ++ d ∷ e ∷ es = append_assoc ds (d ∷ []) (e ∷ es) in
    let size : length (opened ((ds ++ d ∷ []) ++ e ∷ es)) ≤ 1470 = rw again most in
    step_on n (Some (begun_at h ds)) (text_of k d) (texts_of (k + 1) (e ∷ es) ++ ls) _ (line_back (begun_at h ds) k d is (omega arith) f (prefix_fits ds (e ∷ es) d most) ∙ ap Some (more_grown h ds d (omega arith)))
    ∙ datagrams_back h e es (ds ++ d ∷ []) (n + 1) (k + 1) ls (omega (arith, length_push ds d)) (omega arith) few g.0 g.1 size
    ∙ ap (λ (ps : List Datagram). before (Some (payload_at h ps)) (frames_from ((n + 1) + suc (length es)) None ls)) again
    ∙ ap (λ (m : ℕ). before (Some (payload_at h (ds ++ d ∷ e ∷ es))) (frames_from m None ls)) (omega arith)

-- ---- a frame

abbrev head_words : Payload → List Text
head_words p = decimal (length p.datagrams) ∷ (reserved_bit_words p.reserved ++ rest_words p.rest)

abbrev head_text : Payload → Text
head_text p = codes "frame" ++ spaced (head_words p)

head_ends : (p : Payload) (more : Text) → heading_line (length p.datagrams) p.reserved p.rest ++ more ≡ head_text p ++ 10 ∷ more
unfolding heading_line
head_ends p more = append_assoc (codes "frame") (spaced (head_words p) ++ newline) more ∙ (ap (λ (t : Text). codes "frame" ++ t) (append_assoc (spaced (head_words p)) newline more) ∙ sym (append_assoc (codes "frame") (spaced (head_words p)) (10 ∷ more)))

-- what a frame's text needs
record IsPlain (p : Payload) : Type 0 where
  each : AllByRecursion IsFull p.datagrams
  some : 0 < length p.datagrams
  most : length (opened p.datagrams) ≤ 1470
  rest : IsBytes p.rest

plain : (payload : List ℕ) (p : Payload) → IsFrame payload p → IsPlain p
plain payload p f =
    let bytes = data_are_bytes payload p f in
    let most = f.most in
    record { each = full p.datagrams f.each bytes.0; some = f.some; most = omega (arith, joined_length p.datagrams); rest = bytes_at p.rest bytes.1 }

head_back : (p : Payload) → IsPlain p → length p.datagrams < 2 ^ 64 → step_of None (head_text p) ≡ Some (begins (record { count = length p.datagrams; reserved = p.reserved; rest = p.rest }))
head_back p h few =
    let frame = verb_word (codes "frame") refl in
    said None (codes "frame") (head_words p) (head_text p) refl (says (codes "frame") (spaced (head_words p)) frame (omega arith)) (split_back (codes "frame") (head_words p) frame (heading_are_words (length p.datagrams) p.reserved p.rest few h.rest))
    ∙ ap (option_map begins) (heading_back (length p.datagrams) p.reserved p.rest h.some few h.rest)

all_back : (r : Bool) (rest : List ℕ) (ds : List Datagram) (n : ℕ) (ls : List Text) → length ds < 2 ^ 64 → AllByRecursion IsFull ds → 0 < length ds → length (opened ds) ≤ 1470
    → let h : Heading = record { count = length ds; reserved = r; rest = rest } in frames_from n (Some (begun_at h [])) (texts_of 0 ds ++ ls) ≡ before (Some (payload_at h ds)) (frames_from (n + length ds) None ls)
all_back r rest [] n ls few f some most = absurd (omega arith)
all_back r rest (d ∷ es) n ls few f some most =
    datagrams_back (record { count = length (d ∷ es); reserved = r; rest = rest }) d es [] n 0 ls refl (omega arith) few f.0 f.1 most

frame_lines : (p : Payload) (more : Text) → IsPlain p → length p.datagrams < 2 ^ 64 → lines (frame_text p ++ more) ≡ head_text p ∷ (texts_of 0 p.datagrams ++ lines more)
frame_lines p more h few =
    let rest : Text = datagram_lines 0 p.datagrams ++ more in
    ap lines (append_assoc (heading_line (length p.datagrams) p.reserved p.rest) (datagram_lines 0 p.datagrams) more ∙ head_ends p rest)
    ∙ lines_step (head_text p) rest (is_line (codes "frame") (head_words p) (verb_word (codes "frame") refl) (heading_are_words (length p.datagrams) p.reserved p.rest few h.rest)) (longer (codes "frame") (spaced (head_words p)) (omega arith))
    ∙ ap (λ (ts : List Text). head_text p ∷ ts) (lines_back 0 p.datagrams more h.each (omega arith))

frame_back : (p : Payload) (more : Text) (n : ℕ) → IsPlain p → frames_from n None (lines (frame_text p ++ more)) ≡ before (Some p) (frames_from ((n + 1) + length p.datagrams) None (lines more))
frame_back p more n h =
    let most = h.most in
    let few : length p.datagrams < 2 ^ 64 = omega (arith, opened_long p.datagrams) in
    ap (λ (ls : List Text). frames_from n None ls) (frame_lines p more h few)
    ∙ step_on n None (head_text p) (texts_of 0 p.datagrams ++ lines more) _ (head_back p h few)
    ∙ all_back p.reserved p.rest p.datagrams (n + 1) (lines more) few h.each h.some h.most

list_back : (ps : List Payload) (n : ℕ) → AllByRecursion IsWritten ps → frames_from n None (lines (flat_map frame_text ps)) ≡ Ok ps
unfolding frames_from
list_back [] n f = refl
list_back (p ∷ ps) n f =
    frame_back p (flat_map frame_text ps) n (plain f.0.0 p f.0.1) ∙ ap (before (Some p)) (list_back ps ((n + 1) + length p.datagrams) f.1)

pub lists_read_back : ListsReadBack
lists_read_back ps f = list_back ps 1 f

pub texts_read_back : TextsReadBack
texts_read_back payload p f = ap frames_of (sym (append-nil (frame_text p))) ∙ lists_read_back (p ∷ []) ((payload, f), tt)

one_of : (p q : Payload) → ◌≡◌ {A = Result (List Payload) ℕ} (Ok (p ∷ [])) (Ok (q ∷ [])) → p ≡ q
one_of p q e = cc

spelled : (p q : Payload) → p ≡ q
    → little_bytes 2 (length (joined p.datagrams) + (if p.reserved then 2048 else 0) + 4096) ++ (joined p.datagrams ++ p.rest)
    ≡ little_bytes 2 (length (joined q.datagrams) + (if q.reserved then 2048 else 0) + 4096) ++ (joined q.datagrams ++ q.rest)
spelled p q e = rw e refl

pub one_text_is_one_frame : OneTextIsOneFrame
one_text_is_one_frame payload other p q f g same =
    let one = one_of p q (sym (texts_read_back payload p f) ∙ ap frames_of same ∙ texts_read_back other q g) in
    f.parts ∙ spelled p q one ∙ sym g.parts
