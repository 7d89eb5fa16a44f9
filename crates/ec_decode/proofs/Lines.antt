-- Lines that are written part by part.
use Rattle.std.proofs.Common.{◌≡◌, ℕ, Bool, if◌then◌else◌, Result, Ok, Err, OnOk, is_ok, List, [], ◌∷◌, ◌++◌, length, codes, refl, sym, ap, ◌∙◌, append_assoc, append-nil}
use Rattle.std.specs.Fmt.{decimal}
use Rattle.ec_frame.specs.Datagram.{Datagram}
use Rattle.ec_frame.specs.Frame.{Payload}
use Rattle.ec_decode.specs.FrameText.{Text, address_words, byte_text, circulating_words, command_name, data_text, datagram_line, datagram_lines, frame_text, heading_line, irq_words, newline, reserved_bit_words, reserved_words, rest_words, spaced}

pub spaced-append : (xs ys : List Text) → spaced (xs ++ ys) ≡ spaced xs ++ spaced ys
spaced-append [] ys = refl
spaced-append (x ∷ xs) ys = ap (λ (t : Text). 32 ∷ (x ++ t)) (spaced-append xs ys) ∙ ap (λ (t : Text). 32 ∷ t) (sym (append_assoc x (spaced xs) (spaced ys)))

-- texts that are added one after another
six_added : (old t1 t2 t3 t4 t5 t6 n h a i r c e l : Text) → t1 ≡ old ++ (n ++ h) → t2 ≡ t1 ++ a → t3 ≡ t2 ++ i → t4 ≡ t3 ++ r → t5 ≡ t4 ++ c → t6 ≡ t5 ++ (e ++ l)
    → t6 ≡ old ++ (n ++ ((h ++ (a ++ ((i ++ (r ++ c)) ++ e))) ++ l))
six_added old t1 t2 t3 t4 t5 t6 n h a i r c e l p1 p2 p3 p4 p5 p6 = rw (p6, p5, p4, p3, p2, p1) (simp append_assoc)

words_added : (h a i r c e : List Text) → spaced (h ++ (a ++ ((i ++ (r ++ c)) ++ e))) ≡ spaced h ++ (spaced a ++ ((spaced i ++ (spaced r ++ spaced c)) ++ spaced e))
words_added h a i r c e = simp spaced-append

pub line_of_parts : (d : Datagram) (n : ℕ) (old t1 t2 t3 t4 t5 t6 : Text)
    → t1 ≡ old ++ (decimal n ++ spaced (command_name d.command ∷ codes "index" ∷ byte_text d.index ∷ []))
    → t2 ≡ t1 ++ spaced (address_words d.command d.address) → t3 ≡ t2 ++ spaced (irq_words d.irq) → t4 ≡ t3 ++ spaced (reserved_words d.reserved)
    → t5 ≡ t4 ++ spaced (circulating_words d.circulating) → t6 ≡ t5 ++ (spaced (codes "counter" ∷ decimal d.counter ∷ codes "data" ∷ data_text d.data_bytes ∷ []) ++ newline)
    → t6 ≡ old ++ datagram_line n d
unfolding datagram_line
line_of_parts d n old t1 t2 t3 t4 t5 t6 p1 p2 p3 p4 p5 p6 =
    let h : List Text = command_name d.command ∷ codes "index" ∷ byte_text d.index ∷ [] in
    let a = address_words d.command d.address in
    let e : List Text = codes "counter" ∷ decimal d.counter ∷ codes "data" ∷ data_text d.data_bytes ∷ [] in
    six_added old t1 t2 t3 t4 t5 t6 (decimal n) (spaced h) (spaced a) (spaced (irq_words d.irq)) (spaced (reserved_words d.reserved)) (spaced (circulating_words d.circulating)) (spaced e) newline p1 p2 p3 p4 p5 p6
    ∙ ap (λ (t : Text). old ++ (decimal n ++ (t ++ newline))) (sym (words_added h a (irq_words d.irq) (reserved_words d.reserved) (circulating_words d.circulating) e))

-- ---- a frame's own line

four_added : (old t1 t2 t3 t4 n h r e l : Text) → t1 ≡ old ++ (n ++ h) → t2 ≡ t1 ++ r → t3 ≡ t2 ++ e → t4 ≡ t3 ++ l → t4 ≡ old ++ (n ++ ((h ++ (r ++ e)) ++ l))
four_added old t1 t2 t3 t4 n h r e l p1 p2 p3 p4 = rw (p4, p3, p2, p1) (simp append_assoc)

pub heading_of_parts : (count : ℕ) (reserved : Bool) (rest : List ℕ) (old t1 t2 t3 t4 : Text)
    → t1 ≡ old ++ (codes "frame " ++ decimal count) → t2 ≡ t1 ++ spaced (reserved_bit_words reserved) → t3 ≡ t2 ++ spaced (rest_words rest) → t4 ≡ t3 ++ newline
    → t4 ≡ old ++ heading_line count reserved rest
unfolding heading_line
heading_of_parts count reserved rest old t1 t2 t3 t4 p1 p2 p3 p4 =
    let r = reserved_bit_words reserved in
    let e = rest_words rest in
    four_added old t1 t2 t3 t4 (codes "frame") (spaced (decimal count ∷ [])) (spaced r) (spaced e) newline (p1 ∙ ap (λ (t : Text). old ++ (codes "frame " ++ t)) (sym (append-nil (decimal count)))) p2 p3 p4
    ∙ ap (λ (t : Text). old ++ (codes "frame" ++ (t ++ newline))) (sym (spaced-append (decimal count ∷ []) (r ++ e) ∙ ap (λ (t : Text). spaced (decimal count ∷ []) ++ t) (spaced-append r e)))

pub pushed : {E : Type 0} (r : Result Unit E) (new old more : Text) → new ≡ (if is_ok r then old ++ more else old) → OnOk r (new ≡ old ++ more)
pushed (Ok u) new old more h = h
pushed (Err e) new old more h = tt

-- ---- a frame's lines

pub frame_added : (p : Payload) (count : ℕ) (reserved : Bool) (rest : List ℕ) (old one two : Text) → count ≡ length p.datagrams → reserved ≡ p.reserved → rest ≡ p.rest
    → one ≡ old ++ heading_line count reserved rest → two ≡ one ++ datagram_lines 0 p.datagrams → two ≡ old ++ frame_text p
frame_added p count reserved rest old one two e1 e2 e3 first second =
    second ∙ ap (λ (t : Text). t ++ datagram_lines 0 p.datagrams) (first ∙ ap (λ (t : Text). old ++ t) (rw (e1, e2, e3) refl)) ∙ append_assoc old (heading_line (length p.datagrams) p.reserved p.rest) (datagram_lines 0 p.datagrams)
