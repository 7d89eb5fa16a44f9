-- The step of a pass over a frame's datagrams.
use Rattle.std.proofs.Common.{◌≡◌, ℕ, ◌+◌, ◌-◌, ◌<◌, ◌≤◌, Bool, true, cond, List, [], ◌∷◌, ◌++◌, length, take, drop, Option, Some, refl, sym, ap, subst, ◌∙◌, append_assoc, arith}
use Rattle.std.specs.List.{AllByRecursion}
use Rattle.std.proofs.lemmas.List.{length-append, append-nil, drop_at, take_at}
use Rattle.byteorder.specs.Endian.{little_bytes}
use Rattle.ec_frame.specs.declared.cursor.DatagramSpan.{DatagramSpan}
use Rattle.ec_frame.specs.declared.cursor.Datagrams.{Datagrams}
use Rattle.ec_frame.specs.Datagram.{Datagram, spelling, IsDatagram, is_followed, joined, opened}
use Rattle.ec_frame.specs.Frame.{IsByte, IsFrame}
use Rattle.ec_frame.specs.Walk.{handled_all, after_all, KeepsLength}
use Rattle.ec_frame.specs.Cursor.{IsAhead, StepsTo}
use Rattle.ec_frame.proofs.Writes.{bare_length}
use Rattle.ec_frame.proofs.WalkSteps.{All-push, opened_push}

abbrev pub header : ℕ → Bool → List ℕ
header n bit = little_bytes 2 (n + cond bit 2048 0 + 4096)

-- the frame says this: bit 11 of its header, its datagrams, and the bytes after them
abbrev pub Spells : List ℕ → Bool → List Datagram → List ℕ → Type 0
Spells frame bit ds tail = IsFrame frame (record { reserved = bit; datagrams = ds; rest = tail })

pub joined_split : (b : List Datagram) (d : Datagram) (ds : List Datagram) → joined (b ++ d ∷ ds) ≡ opened b ++ joined (d ∷ ds)
joined_split [] d ds = refl
joined_split (c ∷ []) d ds = ap (λ (xs : List ℕ). xs ++ joined (d ∷ ds)) (sym (append-nil (spelling true c)))
joined_split (c ∷ e ∷ b) d ds = ap (λ (xs : List ℕ). spelling true c ++ xs) (joined_split (e ∷ b) d ds) ∙ sym (append_assoc (spelling true c) (opened (e ∷ b)) (joined (d ∷ ds)))

pub joined_length : (b : List Datagram) → length (joined b) ≡ length (opened b)
joined_length [] = refl
joined_length (d ∷ b) = omega (arith, length-append (spelling (is_followed b) d) (joined b), length-append (spelling true d) (opened b), bare_length (is_followed b) d, bare_length true d, joined_length b)

module _ {S : Type 0} (f : S → Datagram → Datagram) (g : S → Datagram → S) where
  -- some are handled, and the rest are ahead
  pub record ProgressAt (first : S) (bit : Bool) (ds : List Datagram) (tail : List ℕ) (s : S) (frame : List ℕ) (p : Datagrams) (done rest : List Datagram) : Type 0 where
    pub out : done ++ handled_all f g s rest ≡ handled_all f g first ds
    pub state : after_all f g s rest ≡ after_all f g first ds
    pub done_each : AllByRecursion IsDatagram done
    pub rest_each : AllByRecursion IsDatagram rest
    pub size : length (joined (done ++ rest)) ≡ length (joined ds)
    pub some : 0 < length (done ++ rest)
    pub parts : frame ≡ header (length (joined ds)) bit ++ (joined (done ++ rest) ++ tail)
    pub at : p.at ≡ 2 + length (opened done)
    pub end : p.end ≡ 2 + length (joined ds)

  abbrev pub Progress : S → Bool → List Datagram → List ℕ → S → List ℕ → Datagrams → Type 0
  Progress first bit ds tail s frame p = (done : List Datagram) × (rest : List Datagram) × ProgressAt first bit ds tail s frame p done rest

  module _ (first : S) (bit : Bool) (ds : List Datagram) (tail : List ℕ) where
    pub starts : (frame : List ℕ) (p : Datagrams) → Spells frame bit ds tail → p.at ≡ 2 → p.end ≡ 2 + length (joined ds) → Progress first bit ds tail first frame p
    starts frame p h at end = ([], ds, record { out = refl; state = refl; done_each = tt; rest_each = h.each; size = refl; some = h.some; parts = h.parts; at = at; end = end })

    -- the first that is ahead, between what stands before it and after it
    pub record Here (frame : List ℕ) (p : Datagrams) (done : List Datagram) (d : Datagram) (others : List Datagram) : Type 0 where
      pub front : List ℕ
      pub back : List ℕ
      pub front_is : front ≡ header (length (joined ds)) bit ++ opened done
      pub back_is : back ≡ joined others ++ tail
      pub parts : frame ≡ front ++ (spelling (is_followed others) d ++ back)
      pub at : p.at ≡ length front

    pub here : (s : S) (frame : List ℕ) (p : Datagrams) (done : List Datagram) (d : Datagram) (others : List Datagram) → ProgressAt first bit ds tail s frame p done (d ∷ others) → Here frame p done d others
    here s frame p done d others h =
        let m : Bool = is_followed others in
        let head : List ℕ = header (length (joined ds)) bit in
        let at = h.at in
        record {
          front = head ++ opened done;
          back = joined others ++ tail;
          front_is = refl;
          back_is = refl;
          parts = h.parts ∙ ap (λ (xs : List ℕ). head ++ (xs ++ tail)) (joined_split done d others)
              ∙ ap (λ (xs : List ℕ). head ++ xs) (append_assoc (opened done) (spelling m d ++ joined others) tail ∙ ap (λ (xs : List ℕ). opened done ++ xs) (append_assoc (spelling m d) (joined others) tail))
              ∙ sym (append_assoc head (opened done) (spelling m d ++ (joined others ++ tail)));
          at = omega arith;
        }

    pub ahead : (s : S) (frame : List ℕ) (p : Datagrams) (done rest : List Datagram) → ProgressAt first bit ds tail s frame p done rest → IsAhead frame p rest
    ahead s frame p done [] h =
        let at = h.at in let end = h.end in
        record {
          front = header (length (joined ds)) bit ++ joined done;
          back = tail;
          each = tt;
          parts = h.parts ∙ ap (λ (b : List Datagram). header (length (joined ds)) bit ++ (joined b ++ tail)) (append-nil done) ∙ sym (append_assoc (header (length (joined ds)) bit) (joined done) tail);
          at = omega (arith, joined_length done);
          end = omega (arith, joined_length done, h.size, ap (λ (b : List Datagram). length (joined b)) (append-nil done));
        }
    ahead s frame p done (d ∷ others) h =
        let e = here s frame p done d others h in
        let at = h.at in let end = h.end in
        record {
          front = e.front;
          back = tail;
          each = h.rest_each;
          parts = e.parts ∙ ap (λ (xs : List ℕ). e.front ++ (spelling (is_followed others) d ++ xs)) e.back_is ∙ ap (λ (xs : List ℕ). e.front ++ xs) (sym (append_assoc (spelling (is_followed others) d) (joined others) tail));
          at = e.at;
          end = omega (arith, h.size, ap length (joined_split done d others), length-append (opened done) (joined (d ∷ others)));
        }

-- what a write to a part between two others leaves
pub written : (xs front mid back ys : List ℕ) (a k : ℕ) → xs ≡ front ++ (mid ++ back) → a ≡ length front → k ≡ length mid → take a xs ++ (ys ++ drop k (drop a xs)) ≡ front ++ (ys ++ back)
written xs front mid back ys a k e p q =
    let left : take a xs ≡ front = ap (λ (zs : List ℕ). take a zs) e ∙ take_at front (mid ++ back) a (sym p) in
    let right : drop k (drop a xs) ≡ back = ap (λ (zs : List ℕ). drop k (drop a zs)) e ∙ ap (λ (zs : List ℕ). drop k zs) (drop_at front (mid ++ back) a (sym p)) ∙ drop_at mid back k (sym q) in
    rw (left, right) refl

pub part_is : (xs front mid back : List ℕ) (a k : ℕ) → xs ≡ front ++ (mid ++ back) → a ≡ length front → k ≡ length mid → take k (drop a xs) ≡ mid
part_is xs front mid back a k e p q = ap (λ (zs : List ℕ). take k (drop a zs)) e ∙ ap (λ (zs : List ℕ). take k zs) (drop_at front (mid ++ back) a (sym p)) ∙ take_at mid back k (sym q)

module _ {S : Type 0} (f : S → Datagram → Datagram) (g : S → Datagram → S) (keeps : KeepsLength f) (first : S) (bit : Bool) (ds : List Datagram) (tail : List ℕ) where
  pub steps : (s : S) (frame : List ℕ) (p : Datagrams) (done : List Datagram) (d : Datagram) (others : List Datagram) (next : S) (frame_next : List ℕ) (q : Datagrams)
      → ProgressAt f g first bit ds tail s frame p done (d ∷ others)
      → (h : Here f g first bit ds tail frame p done d others)
      → frame_next ≡ h.front ++ (spelling (is_followed others) (f s d) ++ h.back)
      → next ≡ g s d → q ≡ record { at = p.at + (12 + length d.data_bytes); end = p.end }
      → ProgressAt f g first bit ds tail next frame_next q (done ++ f s d ∷ []) others
  steps s frame p done d others next frame_next q r h is to on =
      let m : Bool = is_followed others in
      let x : Datagram = f s d in
      let head : List ℕ = header (length (joined ds)) bit in
      let k = keeps s d r.rest_each.0 in
      let join : (done ++ x ∷ []) ++ others ≡ done ++ x ∷ others = append_assoc done (x ∷ []) others in
      let spelled : joined ((done ++ x ∷ []) ++ others) ≡ opened done ++ (spelling m x ++ joined others) = ap joined join ∙ joined_split done x others in
      let at = r.at in let end = r.end in
      let at_next = ap (λ (z : Datagrams). z.at) on in
      let end_next = ap (λ (z : Datagrams). z.end) on in
      record {
        out = rw to (append_assoc done (x ∷ []) (handled_all f g (g s d) others) ∙ r.out);
        state = rw to r.state;
        done_each = All-push done x r.done_each k.0;
        rest_each = r.rest_each.1;
        size = ap length spelled ∙ omega (arith, r.size, ap length (joined_split done d others), length-append (opened done) (joined (d ∷ others)), length-append (opened done) (spelling m x ++ joined others), length-append (spelling m d) (joined others), length-append (spelling m x) (joined others), bare_length m d, bare_length m x, k.1);
        some = omega (arith, ap length join, length-append done (x ∷ others));
        parts = is ∙ ap (λ (zs : List ℕ). zs ++ (spelling m x ++ h.back)) h.front_is ∙ ap (λ (zs : List ℕ). (head ++ opened done) ++ (spelling m x ++ zs)) h.back_is
            ∙ append_assoc head (opened done) (spelling m x ++ (joined others ++ tail))
            ∙ ap (λ (zs : List ℕ). head ++ (opened done ++ zs)) (sym (append_assoc (spelling m x) (joined others) tail))
            ∙ ap (λ (zs : List ℕ). head ++ zs) (sym (append_assoc (opened done) (spelling m x ++ joined others) tail))
            ∙ ap (λ (zs : List ℕ). head ++ (zs ++ tail)) (sym spelled);
        at = omega (arith, ap length (opened_push done x), length-append (opened done) (spelling true x), bare_length true x, k.1);
        end = omega arith;
      }

  pub ends : (s : S) (frame : List ℕ) (p : Datagrams) (done : List Datagram) → length (joined ds) ≤ 1470 → AllByRecursion IsByte frame → ProgressAt f g first bit ds tail s frame p done [] → Spells frame bit (handled_all f g first ds) tail × (s ≡ after_all f g first ds)
  ends s frame p done most bytes r =
      let all : done ≡ handled_all f g first ds = sym (append-nil done) ∙ r.out in
      let size : length (joined done) ≡ length (joined ds) = ap (λ (b : List Datagram). length (joined b)) (sym (append-nil done)) ∙ r.size in
      let some : 0 < length done = omega (arith, r.some, ap length (append-nil done)) in
      let spells : Spells frame bit done tail = record {
        bytes = bytes;
        some = some;
        each = r.done_each;
        most = omega arith;
        parts = r.parts ∙ ap (λ (b : List Datagram). header (length (joined ds)) bit ++ (joined b ++ tail)) (append-nil done) ∙ ap (λ (n : ℕ). header n bit ++ (joined done ++ tail)) (sym size);
      } in
      (subst (λ (b : List Datagram). Spells frame bit b tail) all spells, r.state)

  -- a turn of the loop: the cursor has given the span of the first that is ahead
  pub record Turn (s : S) (frame : List ℕ) (p : Datagrams) (span : DatagramSpan) (q : Datagrams) : Type 0 where
    pub done : List Datagram
    pub datagram : Datagram
    pub others : List Datagram
    pub good : IsDatagram datagram
    pub progress : ProgressAt f g first bit ds tail s frame p done (datagram ∷ others)
    pub place : Here f g first bit ds tail frame p done datagram others
    pub from : span.from ≡ length place.front
    pub size : span.to - span.from ≡ length (spelling (is_followed others) datagram)
    pub moved : q ≡ record { at = p.at + (12 + length datagram.data_bytes); end = p.end }

  some_is : (a b : DatagramSpan) → ◌≡◌ {A = Option DatagramSpan} (Some a) (Some b) → a ≡ b
  some_is a b e = cc

  pub turn_at : (s : S) (frame : List ℕ) (p : Datagrams) (span : DatagramSpan) (q : Datagrams) (r : Option DatagramSpan) (done rest : List Datagram) → ProgressAt f g first bit ds tail s frame p done rest → StepsTo p q r rest → r ≡ Some span → Turn s frame p span q
  turn_at s frame p span q r done [] h step is = absurd (cc (step.0, is))
  turn_at s frame p span q r done (d ∷ others) h step is =
      let e : record { from = p.at; to = p.at + (12 + length d.data_bytes) } ≡ span = some_is _ span (sym step.0 ∙ is) in
      let place = here f g first bit ds tail s frame p done d others h in
      let at = place.at in
      let from = ap (λ (x : DatagramSpan). x.from) e in
      let to = ap (λ (x : DatagramSpan). x.to) e in
      record {
        done = done;
        datagram = d;
        others = others;
        good = h.rest_each.0;
        progress = h;
        place = place;
        from = omega arith;
        size = omega (arith, bare_length (is_followed others) d);
        moved = step.1;
      }

  pub turn : (s : S) (frame : List ℕ) (p : Datagrams) (span : DatagramSpan) (q : Datagrams) (r : Option DatagramSpan) → Progress f g first bit ds tail s frame p → ((rest : List Datagram) → IsAhead frame p rest → StepsTo p q r rest) → r ≡ Some span → Turn s frame p span q
  turn s frame p span q r h step is = turn_at s frame p span q r h.0 h.1 h.2 (step h.1 (ahead f g first bit ds tail s frame p h.0 h.1 h.2)) is

  -- the part that is handed over spells a datagram
  pub part_spells : (s : S) (frame : List ℕ) (p : Datagrams) (span : DatagramSpan) (q : Datagrams) → (t : Turn s frame p span q) → take (span.to - span.from) (drop span.from frame) ≡ spelling (is_followed t.others) t.datagram
  part_spells s frame p span q t = part_is frame t.place.front (spelling (is_followed t.others) t.datagram) t.place.back span.from (span.to - span.from) t.place.parts t.from t.size

  pub turn_on : (s : S) (frame : List ℕ) (p : Datagrams) (span : DatagramSpan) (q : Datagrams) (next : S) (part : List ℕ) → (t : Turn s frame p span q)
      → part ≡ spelling (is_followed t.others) (f s t.datagram) → next ≡ g s t.datagram
      → Progress f g first bit ds tail next (take span.from frame ++ (part ++ drop (span.to - span.from) (drop span.from frame))) q
  turn_on s frame p span q next part t is to =
      let m : Bool = is_followed t.others in (
        t.done ++ f s t.datagram ∷ [],
        t.others,
        steps s frame p t.done t.datagram t.others next _ q t.progress t.place
            (written frame t.place.front (spelling m t.datagram) t.place.back part span.from (span.to - span.from) t.place.parts t.from t.size ∙ ap (λ (xs : List ℕ). t.place.front ++ (xs ++ t.place.back)) is)
            to t.moved,
      )

  -- the cursor stays within the end, and moves on
  pub turn_smaller : (s : S) (frame : List ℕ) (p : Datagrams) (span : DatagramSpan) (q : Datagrams) → (t : Turn s frame p span q) → q.end - q.at < p.end - p.at
  turn_smaller s frame p span q t =
      let a = ahead f g first bit ds tail s frame p t.done (t.datagram ∷ t.others) t.progress in
      let end = a.end in
      let at_next = ap (λ (z : Datagrams). z.at) t.moved in
      let end_next = ap (λ (z : Datagrams). z.end) t.moved in
      omega (arith, length-append (spelling (is_followed t.others) t.datagram) (joined t.others), bare_length (is_followed t.others) t.datagram)

  pub none_at : (s : S) (frame : List ℕ) (p q : Datagrams) (r : Option DatagramSpan) (done rest : List Datagram) → length (joined ds) ≤ 1470 → AllByRecursion IsByte frame → ProgressAt f g first bit ds tail s frame p done rest → StepsTo p q r rest → ((span : DatagramSpan) → r ≡ Some span → ⊥) → Spells frame bit (handled_all f g first ds) tail × (s ≡ after_all f g first ds)
  none_at s frame p q r done [] most bytes h step never = ends s frame p done most bytes h
  none_at s frame p q r done (d ∷ others) most bytes h step never = absurd (never _ step.0)

  pub all_done : (s : S) (frame : List ℕ) (p q : Datagrams) (r : Option DatagramSpan) → length (joined ds) ≤ 1470 → AllByRecursion IsByte frame → Progress f g first bit ds tail s frame p → ((rest : List Datagram) → IsAhead frame p rest → StepsTo p q r rest) → ((span : DatagramSpan) → r ≡ Some span → ⊥) → Spells frame bit (handled_all f g first ds) tail × (s ≡ after_all f g first ds)
  all_done s frame p q r most bytes h step never = none_at s frame p q r h.0 h.1 most bytes h.2 (step h.1 (ahead f g first bit ds tail s frame p h.0 h.1 h.2)) never
