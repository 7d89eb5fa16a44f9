-- The datagrams ahead of a place in a frame, and a pass over them.
use Rattle.std.proofs.Common.{◌≡◌, ℕ, ◌+◌, ◌-◌, ◌≤◌, Bool, List, [], ◌∷◌, ◌++◌, length, take, drop, Some, sym, ap, ◌∙◌, append_assoc, arith}
use Rattle.std.proofs.lemmas.List.{length-append, drop_at, take_at}
use Rattle.ec_frame.specs.declared.cursor.Datagrams.{Datagrams}
use Rattle.ec_frame.specs.declared.cursor.DatagramSpan.{DatagramSpan}
use Rattle.ec_frame.specs.Datagram.{Datagram, spelling, is_followed, joined, data_length}
use Rattle.ec_frame.specs.Cursor.{IsAhead, StepsTo}
use Rattle.ec_frame.proofs.Decoding.{data_length_again}
use Rattle.ec_frame.proofs.Readings.{spelling_length}
use Rattle.ec_frame.proofs.Writes.{bare_length}

-- where datagrams are ahead: the first begins here, and its length is read
pub record Begins (frame : List ℕ) (at : ℕ) (d : Datagram) : Type 0 where
  pub room : at + (12 + length d.data_bytes) ≤ length frame
  pub read : data_length (drop at frame) ≡ length d.data_bytes

pub begins : (frame : List ℕ) (p : Datagrams) (d : Datagram) (ds : List Datagram) → IsAhead frame p (d ∷ ds) → Begins frame p.at d
begins frame p d ds h =
    let m : Bool = is_followed ds in
    let parts : frame ≡ h.front ++ (spelling m d ++ (joined ds ++ h.back)) = h.parts ∙ ap (λ (xs : List ℕ). h.front ++ xs) (append_assoc (spelling m d) (joined ds) h.back) in
    let here : drop p.at frame ≡ spelling m d ++ (joined ds ++ h.back) = ap (λ (xs : List ℕ). drop p.at xs) parts ∙ drop_at h.front _ p.at (sym h.at) in
    let at = h.at in
    record {
      room = omega (arith, ap length parts, length-append h.front (spelling m d ++ (joined ds ++ h.back)), spelling_length m d (joined ds ++ h.back));
      read = ap data_length here ∙ data_length_again m d (joined ds ++ h.back) h.each.0;
    }

pub record HasFirst (frame : List ℕ) (p : Datagrams) : Type 0 where
  pub first : Datagram
  pub others : List Datagram
  pub ahead : IsAhead frame p (first ∷ others)

pub has_first : (frame : List ℕ) (p : Datagrams) (ds : List Datagram) → IsAhead frame p ds → (p.at ≡ p.end → ⊥) → HasFirst frame p
has_first frame p [] h ne = absurd (ne (let e = h.end in omega arith))
has_first frame p (d ∷ ds) h ne = record { first = d; others = ds; ahead = h }

-- a step past the datagram whose length is read here
pub step_taken : (frame : List ℕ) (p : Datagrams) (n : ℕ) (ds : List Datagram) → IsAhead frame p ds → (p.at ≡ p.end → ⊥) → n ≡ data_length (drop p.at frame)
    → StepsTo p (record { at = p.at + (12 + n); end = p.end }) (Some (record { from = p.at; to = p.at + (12 + n) })) ds
step_taken frame p n [] h ne is = absurd (ne (let e = h.end in omega arith))
step_taken frame p n (d ∷ ds) h ne is =
    let e : n ≡ length d.data_bytes = is ∙ (begins frame p d ds h).read in
    let span : ℕ → DatagramSpan = λ (k : ℕ). record { from = p.at; to = p.at + (12 + k) } in
    let moved : ℕ → Datagrams = λ (k : ℕ). record { at = p.at + (12 + k); end = p.end } in
    (ap (λ (k : ℕ). Some (span k)) e, ap moved e)

-- the bytes of the first datagram ahead
pub ahead_first : (frame : List ℕ) (p : Datagrams) (n : ℕ) (d : Datagram) (ds : List Datagram) → IsAhead frame p (d ∷ ds) → n ≡ length d.data_bytes
    → take ((p.at + (12 + n)) - p.at) (drop p.at frame) ≡ spelling (is_followed ds) d
ahead_first frame p n d ds h is =
    let m : Bool = is_followed ds in
    let parts : frame ≡ h.front ++ (spelling m d ++ (joined ds ++ h.back)) = h.parts ∙ ap (λ (xs : List ℕ). h.front ++ xs) (append_assoc (spelling m d) (joined ds) h.back) in
    let here : drop p.at frame ≡ spelling m d ++ (joined ds ++ h.back) = ap (λ (xs : List ℕ). drop p.at xs) parts ∙ drop_at h.front _ p.at (sym h.at) in
    let size : length (spelling m d) ≡ (p.at + (12 + n)) - p.at = bare_length m d ∙ omega arith in
    ap (λ (xs : List ℕ). take ((p.at + (12 + n)) - p.at) xs) here ∙ take_at (spelling m d) (joined ds ++ h.back) _ size

-- past it, the others are ahead
pub ahead_rest : (frame : List ℕ) (p : Datagrams) (n : ℕ) (d : Datagram) (ds : List Datagram) → IsAhead frame p (d ∷ ds) → n ≡ length d.data_bytes
    → IsAhead frame (record { at = p.at + (12 + n); end = p.end }) ds
ahead_rest frame p n d ds h is =
    let m : Bool = is_followed ds in
    let at = h.at in
    let end = h.end in
    record {
      front = h.front ++ spelling m d;
      back = h.back;
      each = h.each.1;
      parts = h.parts ∙ ap (λ (xs : List ℕ). h.front ++ xs) (append_assoc (spelling m d) (joined ds) h.back) ∙ sym (append_assoc h.front (spelling m d) (joined ds ++ h.back));
      at = omega (arith, length-append h.front (spelling m d), bare_length m d);
      end = omega (arith, length-append (spelling m d) (joined ds), bare_length m d);
    }
