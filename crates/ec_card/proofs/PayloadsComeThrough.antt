-- What comes through in Ethernet frames.
use Rattle.std.proofs.Common.{◌≡◌, ◌≢◌, ℕ, zero, suc, ◌+◌, ◌-◌, ◌≤◌, if◌then◌else◌, List, ◌++◌, length, take, drop, replicate, refl, sym, ap, subst, ◌∙◌, arith}
use Rattle.std.specs.List.{AllByRecursion}
use Rattle.std.proofs.lemmas.List.{append_assoc, drop-drop, drop_at, length-append, length-drop, length-replicate, length-take-le, take-append-drop, take_at}
use Rattle.ec_frame.specs.Datagram.{joined}
use Rattle.ec_frame.specs.Frame.{IsByte}
use Rattle.byteorder.specs.Endian.{little_bytes}
use Rattle.ec_frame.proofs.Numbers.{all_append}
use Rattle.ec_card.specs.declared.ethernet.Sender.{Sender}
use Rattle.ec_card.specs.declared.ethernet.Sender.TheVariants.{Master, Segment}
use Rattle.ec_card.specs.Ethernet.{HandsOn, ether_type, framed, padding, source_of, to_all}
use Rattle.ec_card.specs.Headings.{IsHandedOn}
use Rattle.ec_card.specs.Laws.{FramesAreLongEnough, OwnFramesAreDropped, PaddingIsRest, PayloadsHaveOneReading, PayloadsComeThrough}

-- ---- what a frame says

-- what stands behind the first fourteen bytes, and the second six
rest_is : (a b c d : List ℕ) → length a ≡ 6 → length b ≡ 6 → length c ≡ 2 → drop 14 (((a ++ b) ++ c) ++ d) ≡ d
rest_is a b c d six more two = drop_at ((a ++ b) ++ c) d 14 (omega (arith, length-append (a ++ b) c, length-append a b))

second_is : (a b c d : List ℕ) → length a ≡ 6 → length b ≡ 6 → take 6 (drop 6 (((a ++ b) ++ c) ++ d)) ≡ b
second_is a b c d six more =
    ap (λ (xs : List ℕ). take 6 (drop 6 (xs ++ d))) (append_assoc a b c)
    ∙ ap (λ (xs : List ℕ). take 6 (drop 6 xs)) (append_assoc a (b ++ c) d)
    ∙ ap (λ (xs : List ℕ). take 6 xs) (drop_at a ((b ++ c) ++ d) 6 six)
    ∙ ap (λ (xs : List ℕ). take 6 xs) (append_assoc b c d)
    ∙ take_at b (c ++ d) 6 more

pub payload_is : (own : Sender) (frame payload : List ℕ) → HandsOn own frame payload → drop 14 frame ≡ payload
payload_is own frame payload h = ap (λ (xs : List ℕ). drop 14 xs) h.parts ∙ rest_is h.destination h.source ether_type payload h.six h.six_more refl

pub source_is : (own : Sender) (frame payload : List ℕ) → (h : HandsOn own frame payload) → take 6 (drop 6 frame) ≡ h.source
source_is own frame payload h = ap (λ (xs : List ℕ). take 6 (drop 6 xs)) h.parts ∙ second_is h.destination h.source ether_type payload h.six h.six_more

pub one_payload : PayloadsHaveOneReading
one_payload one other frame payload handed g h = sym (payload_is other frame handed h) ∙ payload_is one frame payload g

-- ---- what is handed on

-- the heading of a frame, cut at its parts
heading_parts : (xs : List ℕ) → xs ≡ (take 6 xs ++ take 6 (drop 6 xs)) ++ drop 12 xs
heading_parts xs =
    sym (take-append-drop 6 xs)
    ∙ ap (λ (ys : List ℕ). take 6 xs ++ ys) (sym (take-append-drop 6 (drop 6 xs)) ∙ ap (λ (ys : List ℕ). take 6 (drop 6 xs) ++ ys) (drop-drop 6 6 xs))
    ∙ sym (append_assoc (take 6 xs) (take 6 (drop 6 xs)) (drop 12 xs))

pub handed_on : (own : Sender) (frame heading payload : List ℕ) → 14 ≤ length frame → heading ≡ take 14 frame → payload ≡ drop 14 frame
    → IsHandedOn own heading → HandsOn own frame payload
handed_on own frame heading payload long front back handed =
    let size : length heading ≡ 14 = ap length front ∙ length-take-le 14 frame long in
    record {
      destination = take 6 heading;
      source = take 6 (drop 6 heading);
      six = length-take-le 6 heading (omega arith);
      six_more = length-take-le 6 (drop 6 heading) (omega (arith, length-drop 6 heading));
      foreign = handed.1;
      parts = sym (take-append-drop 14 frame)
          ∙ ap (λ (xs : List ℕ). xs ++ drop 14 frame) (sym front ∙ heading_parts heading ∙ ap (λ (xs : List ℕ). (take 6 heading ++ take 6 (drop 6 heading)) ++ xs) handed.0)
          ∙ ap (λ (xs : List ℕ). ((take 6 heading ++ take 6 (drop 6 heading)) ++ ether_type) ++ xs) (sym back);
    }

-- a frame that is handed on is long enough, and its heading says so
pub heading_is : (own : Sender) (frame payload : List ℕ) → (h : HandsOn own frame payload) → take 14 frame ≡ (h.destination ++ h.source) ++ ether_type
heading_is own frame payload h =
    ap (λ (xs : List ℕ). take 14 xs) h.parts
    ∙ take_at ((h.destination ++ h.source) ++ ether_type) payload 14
    (omega (arith, length-append (h.destination ++ h.source) ether_type, length-append h.destination h.source, h.six, h.six_more))

pub is_long : (own : Sender) (frame payload : List ℕ) → HandsOn own frame payload → 14 ≤ length frame
is_long own frame payload h =
    omega (
      arith,
      ap length h.parts,
      length-append ((h.destination ++ h.source) ++ ether_type) payload,
      length-append (h.destination ++ h.source) ether_type,
      length-append h.destination h.source,
      h.six,
      h.six_more,
    )

pub says_so : (own : Sender) (frame payload : List ℕ) → HandsOn own frame payload → IsHandedOn own (take 14 frame)
says_so own frame payload h = (
  ap (λ (xs : List ℕ). drop 12 xs) (heading_is own frame payload h)
      ∙ drop_at (h.destination ++ h.source) ether_type 12 (omega (arith, length-append h.destination h.source, h.six, h.six_more)),
  λ same. h.foreign (
      sym (take_at h.source ether_type 6 h.six_more)
      ∙ ap (λ (xs : List ℕ). take 6 xs) (sym (drop_at h.destination (h.source ++ ether_type) 6 h.six))
      ∙ ap (λ (xs : List ℕ). take 6 (drop 6 xs)) (sym (append_assoc h.destination h.source ether_type) ∙ sym (heading_is own frame payload h))
      ∙ same),
)

pub not_handed_on : (own : Sender) (frame heading : List ℕ) → heading ≡ take 14 frame → (IsHandedOn own heading → ⊥)
    → (payload : List ℕ) → HandsOn own frame payload → ⊥
not_handed_on own frame heading front never payload h =
    never (let P : List ℕ → Type 0 = IsHandedOn own in subst P (sym front) (says_so own frame payload h))

-- ---- what is sent

six : (s : Sender) → length (source_of s) ≡ 6
six Master = refl
six Segment = refl

others : (s t : Sender) → s ≢ t → source_of s ≢ source_of t
others Master Master differ same = differ refl
others Master Segment differ same = cc
others Segment Master differ same = cc
others Segment Segment differ same = differ refl

framed_is : (s : Sender) (payload : List ℕ) → framed s payload ≡ ((to_all ++ source_of s) ++ ether_type) ++ (payload ++ padding payload)
framed_is s payload = append_assoc ((to_all ++ source_of s) ++ ether_type) payload (padding payload)

comes : (sender own : Sender) (payload : List ℕ) → sender ≢ own → HandsOn own (framed sender payload) (payload ++ padding payload)
comes sender own payload differ = record {
  destination = to_all;
  source = source_of sender;
  six = refl;
  six_more = six sender;
  foreign = others sender own differ;
  parts = framed_is sender payload;
}

alone : (sender own : Sender) (payload handed : List ℕ) → HandsOn own (framed sender payload) handed → handed ≡ payload ++ padding payload
alone sender own payload handed h =
    sym (payload_is own (framed sender payload) handed h)
    ∙ ap (λ (xs : List ℕ). drop 14 xs) (framed_is sender payload)
    ∙ rest_is to_all (source_of sender) ether_type (payload ++ padding payload) refl (six sender) refl

pub come_through : PayloadsComeThrough
come_through = record { come = comes; alone = alone }

pub own_dropped : OwnFramesAreDropped
own_dropped own payload handed h =
    h.foreign (sym (source_is own (framed own payload) handed h)
    ∙ ap (λ (xs : List ℕ). take 6 (drop 6 xs)) (framed_is own payload)
    ∙ second_is to_all (source_of own) ether_type (payload ++ padding payload) refl (six own))

pub long_enough : FramesAreLongEnough
long_enough s payload =
    omega (
      arith,
      ap length (framed_is s payload),
      length-append ((to_all ++ source_of s) ++ ether_type) (payload ++ padding payload),
      length-append (to_all ++ source_of s) ether_type,
      length-append to_all (source_of s),
      six s,
      length-append payload (padding payload),
      length-replicate {A = ℕ} (46 - length payload) 0,
    )

-- ---- padding

zeros_are_bytes : (n : ℕ) → AllByRecursion IsByte (replicate n 0)
zeros_are_bytes zero = tt
zeros_are_bytes (suc n) = (omega arith, zeros_are_bytes n)

grows : (whole a b c z : List ℕ) → whole ≡ a ++ (b ++ c) → whole ++ z ≡ a ++ (b ++ (c ++ z))
grows whole a b c z e =
    ap (λ (xs : List ℕ). xs ++ z) e ∙ append_assoc a (b ++ c) z ∙ ap (λ (xs : List ℕ). a ++ xs) (append_assoc b c z)

pub padded : PaddingIsRest
padded payload p n h = record {
  bytes = all_append payload (replicate n 0) h.bytes (zeros_are_bytes n);
  some = h.some;
  each = h.each;
  most = h.most;
  parts = grows payload (little_bytes 2 (length (joined p.datagrams) + (if p.reserved then 2048 else 0) + 4096)) (joined p.datagrams) p.rest (replicate n 0) h.parts;
}
