-- The frame of a part, with another number and other outputs.
use Rattle.std.proofs.Common.{ℕ, ◌+◌, ◌/◌, ◌%◌, ◌^◌, ◌≤◌, ◌<◌, ◌≡◌, ◌==◌, Bool, true, false, refl, sym, ◌∙◌, ap, subst, arith, List, [], ◌∷◌, ◌++◌, length, set, take, drop, if◌then◌else◌, append_assoc}
use Rattle.std.specs.List.{AllByRecursion}
use Rattle.std.proofs.lemmas.Bool.{ne_eqb}
use Rattle.std.proofs.lemmas.List.{append-nil, drop_at, length-append, length-drop, length-take, set_at, take_at}
use borrow.Rule.Slice.PartMut.{put_mid}
use Rattle.byteorder.specs.Endian.{little_bytes}
use Rattle.ec_bits.specs.Bits.{zeros}
use Rattle.ec_frame.specs.declared.command.Command.TheVariants.{Lrd, Lwr, Lrw}
use Rattle.ec_frame.specs.Building.{bare_payload}
use Rattle.ec_frame.specs.Commands.{number_of}
use Rattle.ec_frame.specs.Datagram.{Datagram, IsDatagram, heading, is_followed, joined, spelling}
use Rattle.ec_frame.specs.Fields.{with_data}
use Rattle.ec_frame.specs.Frame.{IsByte, IsFrame}
use Rattle.ec_frame.specs.Names.{name_bytes}
use Rattle.ec_frame.proofs.Writes.{bare_length, heading-with_data}
use Rattle.ec_link.specs.declared.plan.PartPlan.{PartPlan}
use Rattle.ec_link.specs.Plan.{PlanState, part_at}
use Rattle.ec_cycle.specs.Frames.{name_datagram, status_datagram, process_datagram, process_datagrams, process_bytes, returned_first, sent_datagrams}
use Rattle.ec_cycle.specs.Renewing.{front_bytes, process_spelled}
use Rattle.ec_cycle.proofs.AnswersFrame.{length-process_bytes}

-- ---- one datagram

index_set : (front back : List ℕ) (h y v k : ℕ) → k ≡ length front + 1 → set (front ++ h ∷ y ∷ back) k v ≡ front ++ h ∷ v ∷ back
index_set front back h y v k at =
    let one : length (front ++ h ∷ []) ≡ k = omega (arith, length-append front (h ∷ [])) in
    ap (λ (xs : List ℕ). set xs k v) (sym (append_assoc front (h ∷ []) (y ∷ back)))
    ∙ (set_at (front ++ h ∷ []) y back v k one ∙ append_assoc front (h ∷ []) (v ∷ back))

-- other data of the same length, before what follows
data_put : (bytes new back : List ℕ) (more : Bool) (d : Datagram) (k : ℕ) → bytes ≡ spelling more d ++ back → k ≡ length d.data_bytes → length new ≡ length d.data_bytes
    → put_mid 10 k bytes new ≡ spelling more (with_data d new) ++ back
data_put bytes new back more d k e is same =
    let counter = little_bytes 2 d.counter in
    let behind : drop k ((d.data_bytes ++ counter) ++ back) ≡ counter ++ back = ap (λ (xs : List ℕ). drop k xs) (append_assoc d.data_bytes counter back) ∙ drop_at d.data_bytes (counter ++ back) k (sym is) in
    ap (λ (xs : List ℕ). put_mid 10 k xs new) e
    ∙ (ap (λ (xs : List ℕ). heading more d ++ (new ++ xs)) behind
    ∙ (ap (λ (xs : List ℕ). heading more d ++ xs) (sym (append_assoc new counter back))
    ∙ ap (λ (xs : List ℕ). xs ++ ((new ++ counter) ++ back)) (sym (heading-with_data more d new same))))

-- the first two datagrams: both indices and the name have the number
pub front_renumbered : (front new : List ℕ) (a b v n x k : ℕ) (more : Bool) → v ≡ x % 256 → front ≡ a ∷ b ∷ front_bytes more n k
    → (take 10 (drop 12 (set front 3 v)) ≡ name_bytes n k → new ≡ name_bytes x k)
    → set (put_mid 12 10 (set front 3 v) new) 25 v ≡ a ∷ b ∷ front_bytes more x k
front_renumbered front new a b v n x k more is e named =
    let name = named (ap (λ (xs : List ℕ). take 10 (drop 12 (set xs 3 v))) e) in
    ap (λ (xs : List ℕ). set (put_mid 12 10 (set xs 3 v) new) 25 v) e
    ∙ (ap (λ (xs : List ℕ). set (put_mid 12 10 (set (a ∷ b ∷ front_bytes more n k) 3 v) xs) 25 v) name
    ∙ ap (λ (w : ℕ). set (put_mid 12 10 (set (a ∷ b ∷ front_bytes more n k) 3 w) (name_bytes x k)) 25 w) is)

-- ---- the process datagrams

-- the same, by whether there are none and whether there are two
abbrev spelled_by : Bool → Bool → PartPlan → ℕ → List ℕ → List Datagram
spelled_by none two part n s =
    let back = if two then zeros part.bytes else s in
    if none then [] else (if two then process_datagram Lwr n part.address s 0 ∷ process_datagram Lrd n part.address back 0 ∷ [] else process_datagram Lrw n part.address back 0 ∷ [])

pub split_renumbered : (part : PartPlan) (n x v : ℕ) (s bytes : List ℕ) → (part.bytes ≡ 0 → ⊥) → part.split ≡ true → v ≡ x % 256 → length s ≡ part.bytes → bytes ≡ process_spelled part n s
    → set (set bytes 1 v) (12 + part.bytes + 1) v ≡ process_spelled part x s
split_renumbered part n x v s bytes some two is size e = go (part.bytes == 0) part.split (ne_eqb part.bytes 0 some) two e
  where
    go : (b y : Bool) → b ≡ false → y ≡ true → bytes ≡ joined (spelled_by b y part n s) → set (set bytes 1 v) (12 + part.bytes + 1) v ≡ joined (spelled_by b y part x s)
    go true y f g h = absurd cc
    go false false f g h = absurd cc
    go false true f g h =
        let first : List ℕ = spelling true (process_datagram Lwr x part.address s 0) in
        let d : Datagram = process_datagram Lrd n part.address (zeros part.bytes) 0 in
        let back : List ℕ = drop 2 (spelling false d ++ []) in
        let long = bare_length true (process_datagram Lwr x part.address s 0) in
        ap (λ (xs : List ℕ). set (set xs 1 v) (12 + part.bytes + 1) v) h
        ∙ (ap (λ (w : ℕ). set (set (spelling true (process_datagram Lwr n part.address s 0) ++ (spelling false d ++ [])) 1 w) (12 + part.bytes + 1) w) is
        ∙ index_set first back (number_of Lrd) (n % 256) (x % 256) (12 + part.bytes + 1) (omega arith))

pub refilled : (part : PartPlan) (n k : ℕ) (s new bytes : List ℕ) → (part.bytes ≡ 0 → ⊥) → k ≡ part.bytes → length s ≡ part.bytes → length new ≡ part.bytes → bytes ≡ process_spelled part n s
    → put_mid 10 k bytes new ≡ process_spelled part n new
refilled part n k s new bytes some is size same e = go (part.bytes == 0) part.split (ne_eqb part.bytes 0 some) e
  where
    go : (b y : Bool) → b ≡ false → bytes ≡ joined (spelled_by b y part n s) → put_mid 10 k bytes new ≡ joined (spelled_by b y part n new)
    go true y f h = absurd cc
    go false true f h = data_put bytes new (spelling false (process_datagram Lrd n part.address (zeros part.bytes) 0) ++ []) true (process_datagram Lwr n part.address s 0) k h (is ∙ sym size) (same ∙ sym size)
    go false false f h = data_put bytes new [] false (process_datagram Lrw n part.address s 0) k h (is ∙ sym size) (same ∙ sym size)

-- the data that stand before what follows
data_in : (bytes back : List ℕ) (more : Bool) (d : Datagram) (k : ℕ) → bytes ≡ spelling more d ++ back → k ≡ length d.data_bytes → take k (drop 10 bytes) ≡ d.data_bytes
data_in bytes back more d k e is =
    let counter = little_bytes 2 d.counter in
    ap (λ (xs : List ℕ). take k (drop 10 xs)) e
    ∙ (ap (λ (xs : List ℕ). take k xs) (append_assoc d.data_bytes counter back) ∙ take_at d.data_bytes (counter ++ back) k (sym is))

pub sent_in : (part : PartPlan) (n k : ℕ) (s bytes : List ℕ) → (part.bytes ≡ 0 → ⊥) → k ≡ part.bytes → length s ≡ part.bytes → bytes ≡ process_spelled part n s → take k (drop 10 bytes) ≡ s
sent_in part n k s bytes some is size e = go (part.bytes == 0) part.split (ne_eqb part.bytes 0 some) e
  where
    go : (b y : Bool) → b ≡ false → bytes ≡ joined (spelled_by b y part n s) → take k (drop 10 bytes) ≡ s
    go true y f h = absurd cc
    go false true f h = data_in bytes (spelling false (process_datagram Lrd n part.address (zeros part.bytes) 0) ++ []) true (process_datagram Lwr n part.address s 0) k h (is ∙ sym size)
    go false false f h = data_in bytes [] false (process_datagram Lrw n part.address s 0) k h (is ∙ sym size)

-- so there is room for them
pub room_in : (part : PartPlan) (n : ℕ) (s bytes : List ℕ) → (part.bytes ≡ 0 → ⊥) → length s ≡ part.bytes → bytes ≡ process_spelled part n s → 10 + part.bytes ≤ length bytes
room_in part n s bytes some size e =
    let here : length (take part.bytes (drop 10 bytes)) ≡ length s = ap length (sent_in part n part.bytes s bytes some refl size e) in
    let much : part.bytes ≡ 0 → ⊥ = some in
    omega (arith, here, size, much, length-take part.bytes (drop 10 bytes), length-drop 10 bytes)

-- ---- the whole frame

followed_same : (part : PartPlan) (n x : ℕ) (s t : List ℕ) → is_followed (process_datagrams part n s (returned_first part s) []) ≡ is_followed (process_datagrams part x t (returned_first part t) [])
followed_same part n x s t = go (part.bytes == 0) part.split
  where
    go : (b y : Bool) → is_followed (spelled_by b y part n s) ≡ is_followed (spelled_by b y part x t)
    go true y = refl
    go false true = refl
    go false false = refl

spelled_length : (part : PartPlan) (n x : ℕ) (s t : List ℕ) → length s ≡ length t → length (process_spelled part n s) ≡ length (process_spelled part x t)
spelled_length part n x s t e = go (part.bytes == 0) part.split
  where
    go : (b y : Bool) → length (joined (spelled_by b y part n s)) ≡ length (joined (spelled_by b y part x t))
    go true y = refl
    go false true =
        let p = bare_length true (process_datagram Lwr n part.address s 0) in
        let q = bare_length true (process_datagram Lwr x part.address t 0) in
        let p2 = bare_length false (process_datagram Lrd n part.address (zeros part.bytes) 0) in
        let q2 = bare_length false (process_datagram Lrd x part.address (zeros part.bytes) 0) in
        omega (
          arith,
          length-append (spelling true (process_datagram Lwr n part.address s 0)) (spelling false (process_datagram Lrd n part.address (zeros part.bytes) 0) ++ []),
          length-append (spelling true (process_datagram Lwr x part.address t 0)) (spelling false (process_datagram Lrd x part.address (zeros part.bytes) 0) ++ []),
          length-append (spelling false (process_datagram Lrd n part.address (zeros part.bytes) 0)) [],
          length-append (spelling false (process_datagram Lrd x part.address (zeros part.bytes) 0)) [],
        )
    go false false =
        let p = bare_length false (process_datagram Lrw n part.address s 0) in
        let q = bare_length false (process_datagram Lrw x part.address t 0) in
        omega (arith, length-append (spelling false (process_datagram Lrw n part.address s 0)) [], length-append (spelling false (process_datagram Lrw x part.address t 0)) [])

good_again : (d e : Datagram) → IsDatagram d → e.index < 256 → e.address ≡ d.address → e.reserved ≡ d.reserved → e.irq ≡ d.irq → length e.data_bytes ≡ length d.data_bytes → e.counter ≡ d.counter → IsDatagram e
good_again d e good i a r q s w = record { index = i; address = subst (λ (m : ℕ). m < 2 ^ 32) (sym a) good.address; reserved = omega (arith, good.reserved); irq = omega (arith, good.irq); data_bytes = omega (arith, good.data_bytes); counter = omega (arith, good.counter) }

good_same : (part : PartPlan) (n x : ℕ) (s t : List ℕ) → length t ≡ length s → AllByRecursion IsDatagram (process_datagrams part n s (returned_first part s) []) → AllByRecursion IsDatagram (process_datagrams part x t (returned_first part t) [])
good_same part n x s t e good = go (part.bytes == 0) part.split good
  where
    go : (b y : Bool) → AllByRecursion IsDatagram (spelled_by b y part n s) → AllByRecursion IsDatagram (spelled_by b y part x t)
    go true y h = tt
    go false true h = (
      good_again (process_datagram Lwr n part.address s 0) (process_datagram Lwr x part.address t 0) h.0 (omega arith) refl refl refl e refl,
      (good_again (process_datagram Lrd n part.address (zeros part.bytes) 0) (process_datagram Lrd x part.address (zeros part.bytes) 0) h.1.0 (omega arith) refl refl refl refl refl, tt),
    )
    go false false h = (good_again (process_datagram Lrw n part.address s 0) (process_datagram Lrw x part.address t 0) h.0 (omega arith) refl refl refl e refl, tt)

module _ (p : PlanState) (k : ℕ) where
  abbrev part : PartPlan
  part = part_at p.parts k

  abbrev others : ℕ → List ℕ → List Datagram
  others n s = process_datagrams part n s (returned_first part s) []

  -- what stands behind the header
  joined_is : (n : ℕ) (image : List ℕ) → joined (sent_datagrams p n k image) ≡ front_bytes (is_followed (others n (process_bytes p k image))) n k ++ process_spelled part n (process_bytes p k image)
  joined_is n image =
      sym (append_assoc (spelling true (name_datagram n k)) (spelling (is_followed (others n (process_bytes p k image))) (status_datagram n 0 (zeros 2))) (process_spelled part n (process_bytes p k image)))

  pub record Cut (n : ℕ) (image front back : List ℕ) : Type 0 where
    pub low : ℕ
    pub high : ℕ
    pub front_is : front ≡ low ∷ high ∷ front_bytes (is_followed (others n (process_bytes p k image))) n k
    pub back_is : back ≡ process_spelled part n (process_bytes p k image)
    pub header_is : low ∷ high ∷ [] ≡ little_bytes 2 (length (joined (sent_datagrams p n k image)) + 0 + 4096)

  -- a frame cut behind the broadcast
  pub cut : (n : ℕ) (image frame front back : List ℕ) → IsFrame frame (bare_payload (sent_datagrams p n k image)) → front ≡ take 38 frame → back ≡ drop 38 frame → Cut n image front back
  cut n image frame front back h f b =
      let size : ℕ = length (joined (sent_datagrams p n k image)) + 0 + 4096 in
      let low : ℕ = size % 256 in
      let high : ℕ = size / 256 % 256 in
      let s = process_bytes p k image in
      let head : List ℕ = low ∷ high ∷ front_bytes (is_followed (others n s)) n k in
      let all : frame ≡ head ++ process_spelled part n s = h.parts ∙ ap (λ (xs : List ℕ). low ∷ high ∷ xs) (append-nil (joined (sent_datagrams p n k image)) ∙ joined_is n image) in
      record {
        low = low;
        high = high;
        front_is = f ∙ (ap (λ (xs : List ℕ). take 38 xs) all ∙ take_at head (process_spelled part n s) 38 refl);
        back_is = b ∙ (ap (λ (xs : List ℕ). drop 38 xs) all ∙ drop_at head (process_spelled part n s) 38 refl);
        header_is = refl;
      }

  -- and joined again, with another number and another image
  pub rejoined : (n x : ℕ) (was image frame f b front back : List ℕ) → IsFrame frame (bare_payload (sent_datagrams p n k was)) → (c : Cut n was f b)
      → front ≡ c.low ∷ c.high ∷ front_bytes (is_followed (others n (process_bytes p k was))) x k → back ≡ process_spelled part x (process_bytes p k image)
      → AllByRecursion IsByte (front ++ back) → IsFrame (front ++ back) (bare_payload (sent_datagrams p x k image))
  rejoined n x was image frame f b front back h c ff bb bytes =
      let s = process_bytes p k was in
      let t = process_bytes p k image in
      let same : length t ≡ length s = length-process_bytes p k image ∙ sym (length-process_bytes p k was) in
      let followed : is_followed (others n s) ≡ is_followed (others x t) = followed_same part n x s t in
      let tail : length (process_spelled part n s) ≡ length (process_spelled part x t) = spelled_length part n x s t (sym same) in
      let long : length (joined (sent_datagrams p x k image)) ≡ length (joined (sent_datagrams p n k was)) =
      ap length (joined_is x image) ∙ (length-append (front_bytes (is_followed (others x t)) x k) (process_spelled part x t) ∙ (ap (λ (m : ℕ). 36 + m) (sym tail)
      ∙ (sym (length-append (front_bytes (is_followed (others n s)) n k) (process_spelled part n s)) ∙ sym (ap length (joined_is n was))))) in
      let header : c.low ∷ c.high ∷ [] ≡ little_bytes 2 (length (joined (sent_datagrams p x k image)) + 0 + 4096) = c.header_is ∙ ap (λ (m : ℕ). little_bytes 2 (m + 0 + 4096)) (sym long) in
      record {
        bytes = bytes;
        some = omega arith;
        each = (
          good_again (name_datagram n k) (name_datagram x k) h.each.0 (omega arith) refl refl refl refl refl,
          (good_again (status_datagram n 0 (zeros 2)) (status_datagram x 0 (zeros 2)) h.each.1.0 (omega arith) refl refl refl refl refl, good_same part n x s t same h.each.1.1),
        );
        most = subst (λ (m : ℕ). m ≤ 1470) (sym long) h.most;
        parts = ap (λ (xs : List ℕ). xs ++ back) ff
            ∙ (ap (λ (xs : List ℕ). c.low ∷ c.high ∷ (front_bytes (is_followed (others n s)) x k ++ xs)) bb
            ∙ (ap (λ (m : Bool). c.low ∷ c.high ∷ (front_bytes m x k ++ process_spelled part x t)) followed
            ∙ (ap (λ (xs : List ℕ). c.low ∷ c.high ∷ xs) (sym (joined_is x image) ∙ sym (append-nil (joined (sent_datagrams p x k image))))
            ∙ ap (λ (xs : List ℕ). xs ++ (joined (sent_datagrams p x k image) ++ [])) header)));
      }
