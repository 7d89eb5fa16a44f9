-- The first fault in order, kind by kind.
use Rattle.std.proofs.Common.{◌≡◌, ℕ, zero, suc, ◌+◌, ◌<◌, ◌≤◌, ◌==◌, Bool, true, false, if◌then◌else◌, List, [], ◌∷◌, nat_lt, refl, sym, ap, ◌∙◌, subst, arith, add-one, inl, inr, Some, None, Option, option_map, slice_get}
use Rattle.std.proofs.lemmas.Option.{slice_get_within}
use Rattle.std.proofs.lemmas.Bool.{cases_Bool, cases_lt, false≢true, ltb-true, ltb-false}
use Rattle.ec_table.specs.Contents.{Contents}
use Rattle.ec_link.specs.declared.fault.LinkFault.{LinkFault}
use Rattle.ec_link.specs.declared.fault.LinkFault.TheVariants.{WrongDirection, NoEntry, OutsideEntry, LinkedTwice, EntryTwice, TooManyBits, TooManySlaves, TooManyParts, AreasOverlap, OutsideRam, SplitVariable}
use Rattle.ec_link.specs.Faults.{◌orelse◌, first_at, too_many, fault_number, fault_value}
use Rattle.ec_link.specs.FaultLaw.{HasFault, IsFirstFault}

-- ---- the first element that passes a test

record AtFirst {X : Type 0} (test : ℕ → X → Bool) (n : ℕ) (xs : List X) (k : ℕ) : Type 0 where
  place : ℕ
  row : X
  at : k ≡ n + place
  there : slice_get xs place ≡ Some row
  hit : test k row ≡ true
  before : (i : ℕ) (x : X) → i < place → slice_get xs i ≡ Some x → test (n + i) x ≡ false

before_next : {X : Type 0} (test : ℕ → X → Bool) (n : ℕ) (x : X) (xs : List X) (p : ℕ) → test n x ≡ false → ((i : ℕ) (y : X) → i < p → slice_get xs i ≡ Some y → test (n + 1 + i) y ≡ false)
    → (i : ℕ) (y : X) → i < p + 1 → slice_get (x ∷ xs) i ≡ Some y → test (n + i) y ≡ false
before_next test n x xs p o w zero y lt g =
    let e : x ≡ y = cc in
    let z : n + 0 ≡ n = omega arith in
    ap (λ m. test m y) z ∙ ap (test n) (sym e) ∙ o
before_next test n x xs p o w (suc i) y lt g = let s : n + suc i ≡ n + 1 + i = omega arith in ap (λ m. test m y) s ∙ w i y (omega arith) g

first_some : {X : Type 0} (test : ℕ → X → Bool) (n : ℕ) (xs : List X) (k : ℕ) → first_at test n xs ≡ Some k → AtFirst test n xs k
first_some test n [] k h = cc
first_some test n (x ∷ xs) k h =
    elim (cases_Bool (test n x)) [
      | inl t ↦
          let f = rw t at h in
          let e : n ≡ k = cc in
          record { place = 0; row = x; at = omega arith; there = refl; hit = subst (λ m. test m x ≡ true) e t; before = λ i y lt g. absurd (omega arith) }
      | inr o ↦
          let f = rw o at h in
          let r : AtFirst test (n + 1) xs k = first_some test (n + 1) xs k f in
          record { place = r.place + 1; row = r.row; at = omega (arith, r.at); there = rw add-one r.there; hit = r.hit; before = before_next test n x xs r.place o r.before }
    ]

first_none : {X : Type 0} (test : ℕ → X → Bool) (n : ℕ) (xs : List X) → first_at test n xs ≡ None → (i : ℕ) (y : X) → slice_get xs i ≡ Some y → test (n + i) y ≡ false
first_none test n [] h i y g = absurd (omega (arith, slice_get_within [] i y g))
first_none test n (x ∷ xs) h i y g =
    elim (cases_Bool (test n x)) [
      | inl t ↦ let f = rw t at h in cc
      | inr o ↦ let f = rw o at h in before_next test n x xs i o (λ j z lt w. first_none test (n + 1) xs f j z w) i y (omega arith) g
    ]

-- ---- kind by kind

-- the table has no fault of a number below n
pub record Clean (t : Contents) (n : ℕ) : Type 0 where
  pub none : (g : LinkFault) → HasFault t g → fault_number g < n → ⊥

-- with none below lo, the first below hi is returned, if there is one
pub record Step (t : Contents) (lo hi : ℕ) (o : Option LinkFault) : Type 0 where
  pub told : Clean t lo → (f : LinkFault) → o ≡ Some f → IsFirstFault t f
  pub none : Clean t lo → o ≡ None → Clean t hi

pub join : (t : Contents) (a b c : ℕ) (o p : Option LinkFault) → Step t a b o → Step t b c p → Step t a c (o orelse p)
join t a b c (Some f) p x y = record { told = x.told; none = λ clean h. cc }
join t a b c None p x y = record { told = λ clean. y.told (x.none clean refl); none = λ clean. y.none (x.none clean refl) }

-- the fault with a number and a value
abbrev pub decode : ℕ → ℕ → LinkFault
decode n k =
    if n == 16 then WrongDirection k
    else (if n == 17 then NoEntry k
    else (if n == 18 then OutsideEntry k
    else (if n == 19 then LinkedTwice k
    else (if n == 20 then EntryTwice k
    else (if n == 21 then TooManyBits k
    else (if n == 22 then TooManySlaves k
    else (if n == 23 then TooManyParts k
    else (if n == 24 then AreasOverlap k
    else (if n == 25 then OutsideRam k
    else SplitVariable k)))))))))

own : (g : LinkFault) → decode (fault_number g) (fault_value g) ≡ g
own (WrongDirection k) = refl
own (NoEntry k) = refl
own (OutsideEntry k) = refl
own (LinkedTwice k) = refl
own (EntryTwice k) = refl
own (TooManyBits k) = refl
own (TooManySlaves k) = refl
own (TooManyParts k) = refl
own (AreasOverlap k) = refl
own (OutsideRam k) = refl
own (SplitVariable k) = refl

of_kind : (t : Contents) (n : ℕ) (g : LinkFault) → fault_number g ≡ n → HasFault t g → HasFault t (decode n (fault_value g))
of_kind t n g e h = subst (HasFault t) (sym (ap (λ m. decode m (fault_value g)) (sym e) ∙ own g)) h

-- the number and the value are those of the kind
pub record IsKind (n : ℕ) : Type 0 where
  pub number : (k : ℕ) → fault_number (decode n k) ≡ n
  pub value : (k : ℕ) → fault_value (decode n k) ≡ k

pub record Hit {X : Type 0} (xs : List X) (test : ℕ → X → Bool) (k : ℕ) : Type 0 where
  pub row : X
  pub there : slice_get xs k ≡ Some row
  pub hit : test k row ≡ true

-- the test at a place returns whether the fault is there
pub record Tells {X : Type 0} (t : Contents) (n : ℕ) (xs : List X) (test : ℕ → X → Bool) : Type 0 where
  pub is : Clean t n → (k : ℕ) (x : X) → slice_get xs k ≡ Some x → test k x ≡ true → HasFault t (decode n k)
  pub was : Clean t n → (k : ℕ) → HasFault t (decode n k) → Hit xs test k

not_hit : {X : Type 0} (xs : List X) (test : ℕ → X → Bool) (k : ℕ) → (h : Hit xs test k) → test (0 + k) h.row ≡ false → ⊥
not_hit xs test k h off = let z : 0 + k ≡ k = omega arith in false≢true (sym off ∙ ap (λ m. test m h.row) z ∙ h.hit)

step_of : {X : Type 0} (t : Contents) (n : ℕ) (xs : List X) (test : ℕ → X → Bool) → IsKind n → Tells t n xs test → (o : Option ℕ) → first_at test 0 xs ≡ o → Step t n (n + 1) (option_map (decode n) o)
step_of t n xs test kind tells None e = record {
  told = λ clean f h. cc;
  none = λ clean h. record {
    none = λ g has lt. elim (cases_lt (fault_number g) n) [
      | inl less ↦ clean.none g has less
      | inr more ↦
          let same : fault_number g ≡ n = omega arith in
          let hit = tells.was clean (fault_value g) (of_kind t n g same has) in
          not_hit xs test (fault_value g) hit (first_none test 0 xs e (fault_value g) hit.row hit.there)
    ];
  };
}
step_of t n xs test kind tells (Some k) e = record {
  told = λ clean f h.
      let a = first_some test 0 xs k e in
      let place : a.place ≡ k = omega (arith, a.at) in
      let is : decode n k ≡ f = cc in
      subst (IsFirstFault t) is (record {
        there = tells.is clean k a.row (subst (λ m. slice_get xs m ≡ Some a.row) place a.there) a.hit;
        first = λ g has before. elim before [
          | inl less ↦ clean.none g has (omega (arith, kind.number k))
          | inr same ↦
              let number : fault_number g ≡ n = same.0 ∙ kind.number k in
              let hit = tells.was clean (fault_value g) (of_kind t n g number has) in
              let lt : fault_value g < a.place = omega (arith, same.1, kind.value k) in
              not_hit xs test (fault_value g) hit (a.before (fault_value g) hit.row lt hit.there)
        ];
      });
  none = λ clean h. cc;
}

pub step_at : {X : Type 0} (t : Contents) (n : ℕ) (xs : List X) (test : ℕ → X → Bool) → IsKind n → Tells t n xs test → Step t n (n + 1) (option_map (decode n) (first_at test 0 xs))
step_at t n xs test kind tells = step_of t n xs test kind tells (first_at test 0 xs) refl

-- a limit on how many there are
pub record Counts (t : Contents) (n most count : ℕ) : Type 0 where
  pub is : most < count → HasFault t (decode n count)
  pub was : (k : ℕ) → HasFault t (decode n k) → (k ≡ count) × (most < k)

count_of : (t : Contents) (n most count : ℕ) → IsKind n → Counts t n most count → (b : Bool) → nat_lt most count ≡ b → Step t n (n + 1) (if b then Some (decode n count) else None)
count_of t n most count kind counts true e = record {
  told = λ clean f h.
      let is : decode n count ≡ f = cc in
      subst (IsFirstFault t) is (record {
        there = counts.is (ltb-true most count e);
        first = λ g has before. elim before [
          | inl less ↦ clean.none g has (omega (arith, kind.number count))
          | inr same ↦
              let number : fault_number g ≡ n = same.0 ∙ kind.number count in
              let was = counts.was (fault_value g) (of_kind t n g number has) in
              omega (arith, was.0, same.1, kind.value count)
        ];
      });
  none = λ clean h. cc;
}
count_of t n most count kind counts false e = record {
  told = λ clean f h. cc;
  none = λ clean h. record {
    none = λ g has lt. elim (cases_lt (fault_number g) n) [
      | inl less ↦ clean.none g has less
      | inr more ↦
          let same : fault_number g ≡ n = omega arith in
          let was = counts.was (fault_value g) (of_kind t n g same has) in
          omega (arith, was.0, was.1, ltb-false most count e)
    ];
  };
}

pub count_step : (t : Contents) (n most count : ℕ) → IsKind n → Counts t n most count → Step t n (n + 1) (too_many most count (decode n))
count_step t n most count kind counts = count_of t n most count kind counts (nat_lt most count) refl

-- ---- the ends of the numbers

low : (g : LinkFault) → 16 ≤ fault_number g
low (WrongDirection k) = omega arith
low (NoEntry k) = omega arith
low (OutsideEntry k) = omega arith
low (LinkedTwice k) = omega arith
low (EntryTwice k) = omega arith
low (TooManyBits k) = omega arith
low (TooManySlaves k) = omega arith
low (TooManyParts k) = omega arith
low (AreasOverlap k) = omega arith
low (OutsideRam k) = omega arith
low (SplitVariable k) = omega arith

high : (g : LinkFault) → fault_number g < 45
high (WrongDirection k) = omega arith
high (NoEntry k) = omega arith
high (OutsideEntry k) = omega arith
high (LinkedTwice k) = omega arith
high (EntryTwice k) = omega arith
high (TooManyBits k) = omega arith
high (TooManySlaves k) = omega arith
high (TooManyParts k) = omega arith
high (AreasOverlap k) = omega arith
high (OutsideRam k) = omega arith
high (SplitVariable k) = omega arith

gap : (g : LinkFault) → fault_number g < 44 → fault_number g < 26
gap (WrongDirection k) h = omega arith
gap (NoEntry k) h = omega arith
gap (OutsideEntry k) h = omega arith
gap (LinkedTwice k) h = omega arith
gap (EntryTwice k) h = omega arith
gap (TooManyBits k) h = omega arith
gap (TooManySlaves k) h = omega arith
gap (TooManyParts k) h = omega arith
gap (AreasOverlap k) h = omega arith
gap (OutsideRam k) h = omega arith
gap (SplitVariable k) h = absurd (omega arith)

-- no fault has a number from 26 to 43
pub over_the_gap : (t : Contents) (o : Option LinkFault) → Step t 44 45 o → Step t 26 45 o
over_the_gap t o s =
    let wide : Clean t 26 → Clean t 44 = λ c. record { none = λ g has lt. c.none g has (gap g lt) } in
    record { told = λ c. s.told (wide c); none = λ c. s.none (wide c) }

pub told_first : (t : Contents) (o : Option LinkFault) → Step t 16 45 o → (f : LinkFault) → o ≡ Some f → IsFirstFault t f
told_first t o s f h = s.told (record { none = λ g has lt. omega (arith, low g) }) f h

pub told_none : (t : Contents) (o : Option LinkFault) → Step t 16 45 o → o ≡ None → (f : LinkFault) → HasFault t f → ⊥
told_none t o s h f has = (s.none (record { none = λ g has lt. omega (arith, low g) }) h).none f has (high f)
