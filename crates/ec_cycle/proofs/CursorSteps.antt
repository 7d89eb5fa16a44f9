-- Cursors over the datagrams of two frames.
use Rattle.std.proofs.Common.{ℕ, zero, suc, ◌+◌, ◌<◌, ◌≤◌, ◌≡◌, ◌↔◌, ◌⊎◌, Bool, true, false, Option, Some, None, refl, sym, ◌∙◌, ap, subst, inl, inr, arith, List, [], ◌∷◌, length, get_or, set, drop, slice_get, slice_range, nat_eq, add-one, eq-eqb, get_or-set_same, get_or-set_other}
use Rattle.std.proofs.lemmas.Bool.{cases_eq, eqb-true}
use Rattle.std.proofs.lemmas.List.{drop_all}
use Rattle.ec_frame.specs.declared.cursor.Datagrams.{Datagrams}
use Rattle.ec_frame.specs.declared.cursor.DatagramSpan.{DatagramSpan}
use Rattle.ec_frame.specs.Cursor.{IsAhead, StepsTo}
use Rattle.ec_frame.specs.Datagram.{Datagram, IsDatagram, IsSpelling, is_followed, spelling}
use Rattle.ec_cycle.specs.Matching.{SameAt, SameFrom, nowhere, StandsFor, StepsOn, NextAre}

-- ---- a list from place n on

abbrev pub Goes : ℕ → List Datagram → Type 0
Goes n ds = (d : Datagram) × (xs : List Datagram) × (drop n ds ≡ d ∷ xs) × (slice_get ds n ≡ Some d) × (drop (suc n) ds ≡ xs)

abbrev pub Ends : ℕ → List Datagram → Type 0
Ends n ds = (drop n ds ≡ []) × (slice_get ds n ≡ None) × (drop (suc n) ds ≡ [])

pub ends_or_goes : (n : ℕ) (ds : List Datagram) → Ends n ds ⊎ Goes n ds
ends_or_goes zero [] = inl (refl, refl, refl)
ends_or_goes zero (d ∷ ds) = inr (d, ds, refl, refl, refl)
ends_or_goes (suc n) [] = inl (refl, refl, refl)
ends_or_goes (suc n) (d ∷ ds) = ends_or_goes n ds

-- ---- one step

pub stepped_on : (payload : List ℕ) (old new : Datagrams) (s : DatagramSpan) (ds : List Datagram) → IsAhead payload old ds → StepsTo old new (Some s) ds
    → (s.from ≤ s.to) × (s.to ≤ length payload)
    → ((d : Datagram) (xs : List Datagram) → IsAhead payload old (d ∷ xs) → slice_range payload s.from s.to ≡ spelling (is_followed xs) d)
    → ((d : Datagram) (xs : List Datagram) → IsAhead payload old (d ∷ xs) → IsAhead payload new xs) → StepsOn payload new s ds
stepped_on payload old new s [] h steps within first others = absurd (let e : Some s ≡ None = steps.0 in cc)
stepped_on payload old new s (d ∷ xs) h steps within first others =
    let e : s ≡ record { from = old.at; to = old.at + (12 + length d.data_bytes) } = let x = steps.0 in cc in
    let a = ap (λ (q : DatagramSpan). q.from) e in
    let b = ap (λ (q : DatagramSpan). q.to) e in (
      record { order = omega arith; within = within.1; is_datagram = h.each.0; more = is_followed xs; spelled = first d xs h },
      others d xs h,
    )

pub stepped_off : (payload : List ℕ) (old new : Datagrams) (ds : List Datagram) → IsAhead payload old ds → StepsTo old new None ds → StepsOn payload new nowhere ds
stepped_off payload old new [] h steps = (refl, subst (λ (q : Datagrams). IsAhead payload q []) (sym steps.1) h)
stepped_off payload old new (d ∷ xs) h steps = absurd (let e = steps.0 in cc)

-- after it some datagrams are ahead
pub ahead_after : (payload : List ℕ) (new : Datagrams) (s : DatagramSpan) (ds : List Datagram) → StepsOn payload new s ds → (xs : List Datagram) × IsAhead payload new xs
ahead_after payload new s [] h = ([], h.1)
ahead_after payload new s (d ∷ xs) h = (xs, h.1)

-- a place has a spelling
pub spells : (payload : List ℕ) (new : Datagrams) (s : DatagramSpan) (ds : List Datagram) → StepsOn payload new s ds → 0 < s.to → IsSpelling (slice_range payload s.from s.to) × (s.from ≤ s.to) × (s.to ≤ length payload)
spells payload new s [] h l = absurd (let e = ap (λ (q : DatagramSpan). q.to) h.0 in omega arith)
spells payload new s (d ∷ xs) h l = let at = h.0 in ((at.more, d, at.is_datagram, at.spelled), (let o = at.order in omega arith), at.within)

-- ---- the first places

pub stood : (payload : List ℕ) (new : Datagrams) (s : DatagramSpan) (spans : List DatagramSpan) (n : ℕ) (ds : List Datagram) → n < length spans
    → StepsOn payload new s (drop n ds) → ((k : ℕ) → k < n → StandsFor payload (get_or spans k nowhere) (slice_get ds k))
    → IsAhead payload new (drop (n + 1) ds) × ((k : ℕ) → k < n + 1 → StandsFor payload (get_or (set spans n s) k nowhere) (slice_get ds k))
stood payload new s spans n ds l h before = elim (ends_or_goes n ds) [
  | inl e ↦
      let here = subst (λ (xs : List Datagram). StepsOn payload new s xs) e.0 h in
      (subst (λ (m : ℕ). IsAhead payload new (drop m ds)) (sym (add-one n)) (subst (λ (xs : List Datagram). IsAhead payload new xs) (sym e.2) here.1), below (subst (λ (o : Option Datagram). StandsFor payload s o) (sym e.1) here.0))
  | inr g ↦
      let here = subst (λ (xs : List Datagram). StepsOn payload new s xs) g.2 h in
      (subst (λ (m : ℕ). IsAhead payload new (drop m ds)) (sym (add-one n)) (subst (λ (xs : List Datagram). IsAhead payload new xs) (sym g.4) here.1), below (subst (λ (o : Option Datagram). StandsFor payload s o) (sym g.3) here.0))
]
  where
    below : StandsFor payload s (slice_get ds n) → (k : ℕ) → k < n + 1 → StandsFor payload (get_or (set spans n s) k nowhere) (slice_get ds k)
    below stands k b = elim (cases_eq k n) [
      | inl e ↦ subst (λ (m : ℕ). StandsFor payload (get_or (set spans n s) m nowhere) (slice_get ds m)) (sym e) (subst (λ (q : DatagramSpan). StandsFor payload q (slice_get ds n)) (sym (get_or-set_same spans n s nowhere l)) stands)
      | inr ne ↦ subst (λ (q : DatagramSpan). StandsFor payload q (slice_get ds k)) (sym (get_or-set_other spans n k s nowhere ne)) (before k (omega arith))
    ]

-- ---- two cursors

pub next_are : (n : ℕ) (payload : List ℕ) (new : Datagrams) (sent : List ℕ) (sent_new : Datagrams) (here there : DatagramSpan) (ds es : List Datagram) (r : Bool)
    → StepsOn payload new here ds → StepsOn sent sent_new there es → 0 < here.to → 0 < there.to
    → ((m : Bool) (d : Datagram) (k : Bool) (e : Datagram) → IsDatagram d → IsDatagram e → slice_range payload here.from here.to ≡ spelling m d → slice_range sent there.from there.to ≡ spelling k e → (r ≡ true) ↔ SameAt n d e)
    → NextAre n payload new sent sent_new ds es r
next_are n payload new sent sent_new here there [] es r h i l m same = absurd (let e = ap (λ (q : DatagramSpan). q.to) h.0 in omega arith)
next_are n payload new sent sent_new here there (d ∷ ds) [] r h i l m same = absurd (let e = ap (λ (q : DatagramSpan). q.to) i.0 in omega arith)
next_are n payload new sent sent_new here there (d ∷ ds) (e ∷ es) true h i l m same =
    ((same h.0.more d i.0.more e h.0.is_datagram i.0.is_datagram h.0.spelled i.0.spelled).0 refl, h.1, i.1)
next_are n payload new sent sent_new here there (d ∷ ds) (e ∷ es) false h i l m same =
    λ some all. (let x = (same h.0.more d i.0.more e h.0.is_datagram i.0.is_datagram h.0.spelled i.0.spelled).1 all.0 in cc)

pub next_ends : (n : ℕ) (payload : List ℕ) (new : Datagrams) (sent : List ℕ) (sent_new : Datagrams) (here there : DatagramSpan) (ds es : List Datagram)
    → StepsOn payload new here ds → StepsOn sent sent_new there es → (here.to ≡ 0) ⊎ (there.to ≡ 0) → NextAre n payload new sent sent_new ds es false
next_ends n payload new sent sent_new here there [] es h i z = λ some all. absurd (omega (arith, some))
next_ends n payload new sent sent_new here there (d ∷ ds) [] h i z = λ some all. all
next_ends n payload new sent sent_new here there (d ∷ ds) (e ∷ es) h i z = elim z [
  | inl a ↦ absurd (let x = h.0.order in omega arith)
  | inr b ↦ absurd (let x = i.0.order in omega arith)
]

-- both cursors are before datagram n, and what is left to compare decides
pub record IsComparing (payload sent : List ℕ) (ds es : List Datagram) (n : ℕ) (places sent_places : Datagrams) : Type 0 where
  pub ahead : IsAhead payload places (drop n ds)
  pub sent_ahead : IsAhead sent sent_places (drop n es)
  pub on : SameFrom n (drop n ds) (drop n es) → SameFrom 0 ds es
  pub back : SameFrom 0 ds es → SameFrom n (drop n ds) (drop n es)

pub comparing : (payload sent : List ℕ) (ds es : List Datagram) (places sent_places : Datagrams) → IsAhead payload places ds → IsAhead sent sent_places es → IsComparing payload sent ds es 0 places sent_places
comparing payload sent ds es places sent_places h i = record { ahead = h; sent_ahead = i; on = λ s. s; back = λ s. s }

pub compared : (payload sent : List ℕ) (ds es : List Datagram) (n : ℕ) (old sent_old new sent_new : Datagrams) → IsComparing payload sent ds es n old sent_old
    → NextAre n payload new sent sent_new (drop n ds) (drop n es) true → IsComparing payload sent ds es (n + 1) new sent_new
compared payload sent ds es n old sent_old new sent_new h next = elim (ends_or_goes n ds) [
  | inl e ↦ absurd (subst (λ (xs : List Datagram). NextAre n payload new sent sent_new xs (drop n es) true) e.0 next)
  | inr g ↦ elim (ends_or_goes n es) [
    | inl e ↦ absurd (subst (λ (xs : List Datagram). NextAre n payload new sent sent_new (g.0 ∷ g.1) xs true) e.0 (subst (λ (xs : List Datagram). NextAre n payload new sent sent_new xs (drop n es) true) g.2 next))
    | inr k ↦
        let both = subst (λ (xs : List Datagram). NextAre n payload new sent sent_new (g.0 ∷ g.1) xs true) k.2 (subst (λ (xs : List Datagram). NextAre n payload new sent sent_new xs (drop n es) true) g.2 next) in
        let z : drop (n + 1) ds ≡ g.1 = ap (λ (m : ℕ). drop m ds) (add-one n) ∙ g.4 in
        let y : drop (n + 1) es ≡ k.1 = ap (λ (m : ℕ). drop m es) (add-one n) ∙ k.4 in
        record {
          ahead = subst (λ (xs : List Datagram). IsAhead payload new xs) (sym z) both.1;
          sent_ahead = subst (λ (xs : List Datagram). IsAhead sent sent_new xs) (sym y) both.2;
          on = λ s. h.on (at_n g.0 g.1 k.0 k.1 g.2 k.2 (both.0, subst (λ (xs : List Datagram). SameFrom (n + 1) g.1 xs) y (subst (λ (xs : List Datagram). SameFrom (n + 1) xs (drop (n + 1) es)) z s)));
          back = λ s. subst (λ (xs : List Datagram). SameFrom (n + 1) xs (drop (n + 1) es)) (sym z) (subst (λ (xs : List Datagram). SameFrom (n + 1) g.1 xs) (sym y) (from_n g.0 g.1 k.0 k.1 g.2 k.2 (h.back s)).1);
        }
  ]
]
  where
    at_n : (d : Datagram) (xs : List Datagram) (e : Datagram) (ys : List Datagram) → drop n ds ≡ d ∷ xs → drop n es ≡ e ∷ ys → SameFrom n (d ∷ xs) (e ∷ ys) → SameFrom n (drop n ds) (drop n es)
    at_n d xs e ys a b s = subst (λ (zs : List Datagram). SameFrom n zs (drop n es)) (sym a) (subst (λ (zs : List Datagram). SameFrom n (d ∷ xs) zs) (sym b) s)

    from_n : (d : Datagram) (xs : List Datagram) (e : Datagram) (ys : List Datagram) → drop n ds ≡ d ∷ xs → drop n es ≡ e ∷ ys → SameFrom n (drop n ds) (drop n es) → SameFrom n (d ∷ xs) (e ∷ ys)
    from_n d xs e ys a b s = subst (λ (zs : List Datagram). SameFrom n (d ∷ xs) zs) b (subst (λ (zs : List Datagram). SameFrom n zs (drop n es)) a s)

some_left : (n : ℕ) (ds : List Datagram) → n < length ds → 0 < length (drop n ds)
some_left n [] l = absurd (omega arith)
some_left zero (d ∷ ds) l = l
some_left (suc n) (d ∷ ds) l = some_left n ds (omega arith)

pub differs : (payload sent : List ℕ) (ds es : List Datagram) (n : ℕ) (old sent_old new sent_new : Datagrams) → IsComparing payload sent ds es n old sent_old → n < length ds
    → NextAre n payload new sent sent_new (drop n ds) (drop n es) false → (false ≡ true) ↔ SameFrom 0 ds es
differs payload sent ds es n old sent_old new sent_new h l next = (λ e. absurd (cc), λ s. absurd (unfolded (drop n ds) next (some_left n ds l) (h.back s)))
  where
    unfolded : (xs : List Datagram) → NextAre n payload new sent sent_new xs (drop n es) false → 0 < length xs → SameFrom n xs (drop n es) → ⊥
    unfolded [] f = f
    unfolded (x ∷ xs) f = f

pub all_compared : (payload sent : List ℕ) (ds es : List Datagram) (n : ℕ) (places sent_places sent_new : Datagrams) (s : DatagramSpan) → IsComparing payload sent ds es n places sent_places → length ds ≤ n
    → StepsOn sent sent_new s (drop n es) → (nat_eq s.to 0 ≡ true) ↔ SameFrom 0 ds es
all_compared payload sent ds es n places sent_places sent_new s h l steps = (
  (λ e. h.on (subst (λ (xs : List Datagram). SameFrom n xs (drop n es)) (sym none) (ends (drop n es) steps (eqb-true s.to 0 e)))),
  (λ f. eq-eqb s.to 0 (ended (drop n es) steps (subst (λ (xs : List Datagram). SameFrom n xs (drop n es)) none (h.back f)))),
)
  where
    none : drop n ds ≡ []
    none = drop_all n ds l

    ends : (ys : List Datagram) → StepsOn sent sent_new s ys → s.to ≡ 0 → SameFrom n [] ys
    ends [] st z = tt
    ends (y ∷ ys) st z = absurd (let o = st.0.order in omega arith)

    ended : (ys : List Datagram) → StepsOn sent sent_new s ys → SameFrom n [] ys → s.to ≡ 0
    ended [] st f = ap (λ (q : DatagramSpan). q.to) st.0
    ended (y ∷ ys) st f = absurd f
