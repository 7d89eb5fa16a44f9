-- How many polls each wait takes: the last one ends it, and the ones before it don't.
use Rattle.std.proofs.Math.Nat.{div-mul-le_self, div-le_self, mul-le-mul_right}
use Rattle.std.proofs.lemmas.Nat.{mul-le}
use Rattle.std.specs.Prelude.{max}
use Rattle.ec_bringup.proofs.Words.{ℕ, zero, suc, ◌+◌, ◌-◌, ◌*◌, ◌/◌, ◌<◌, ◌≤◌, ◌≡◌, ◌⊎◌, Bool, true, false, Option, Some, None, refl, sym, ◌∙◌, ap, subst, inl, inr, arith, if◌then◌else◌, List, [], ◌∷◌, length, both_ways, cases_lt, if_true, if_false, Hardware, SlaveKind, State, Init, PreOp, SafeOp, Op, Al, SlaveState, served, is_init, slow, has_emergency, SlavePlan, Action, CountSlaves, AskInit, AwaitInit, AwaitInitState, AwaitCleanInit, AwaitState, SendRequest, AwaitFreeReply, Feed, is_fed, plan_at, slave_of, steps_slow, steps_left, until_init, until_all, until_clean, until_reply, until_heard, frames_each, polls_more, frames_behind}
use Rattle.ec_bringup.proofs.AllSlaves.Delays.{IsPolled}
use Rattle.ec_bringup.proofs.AllSlaves.NextAction.{Prompted, IsPaced, heard_first}
use Rattle.ec_bringup.proofs.AllSlaves.FramePasses.{IsDue, GoesOn}

-- the AL state machine of each slave, as it is asked for INIT
abbrev pub al_asked : List SlaveState → ℕ → Al
al_asked ss i = (served (slave_of ss i)).al

-- ---- the most of all slaves

max-left : (a b : ℕ) → a ≤ max a b
max-left a b = omega arith

max-right : (a b c : ℕ) → a ≤ c → a ≤ max b c
max-right a b c l = omega (arith, l)

max-few : (a b c : ℕ) → a ≤ c → b ≤ c → max a b ≤ c
max-few a b c l m = omega (arith, l, m)

max-some : (m a b : ℕ) → m < max a b → (m < a) ⊎ (m < b)
max-some m a b l = elim (cases_lt m a) [
  | inl x ↦ inl x
  | inr x ↦ inr (omega (arith, l, x))
]

all-most : (n : ℕ) (ps : List SlavePlan) (ss : List SlaveState) (i : ℕ) → length ss ≡ length ps → i < length ps → until_init n (plan_at ps i) (slave_of ss i) ≤ until_all n ps ss
all-most n [] ss i e l = absurd (omega (arith, l))
all-most n (p ∷ ps) [] i e l = absurd (omega (arith, e))
all-most n (p ∷ ps) (s ∷ ss) zero e l = max-left (until_init n p s) (until_all n ps ss)
all-most n (p ∷ ps) (s ∷ ss) (suc i) e l = max-right _ (until_init n p s) (until_all n ps ss) (all-most n ps ss i (omega (arith, e)) (omega (arith, l)))

all-some : (n m : ℕ) (ps : List SlavePlan) (ss : List SlaveState) → m < until_all n ps ss → (t : ℕ) × (t < length ps) × (m < until_init n (plan_at ps t) (slave_of ss t))
all-some n m [] ss l = absurd (omega (arith, l))
all-some n m (p ∷ ps) [] l = absurd (omega (arith, l))
all-some n m (p ∷ ps) (s ∷ ss) l = elim (max-some m (until_init n p s) (until_all n ps ss) l) [
  | inl x ↦ (0, omega arith, x)
  | inr x ↦ let r = all-some n m ps ss x in let b = r.1 in (suc r.0, omega (arith, b), r.2)
]

all-few : (n c : ℕ) (ps : List SlavePlan) (ss : List SlaveState) → ((i : ℕ) → i < length ps → until_init n (plan_at ps i) (slave_of ss i) ≤ c) → until_all n ps ss ≤ c
all-few n c [] ss h = omega arith
all-few n c (p ∷ ps) [] h = omega arith
all-few n c (p ∷ ps) (s ∷ ss) h = max-few (until_init n p s) (until_all n ps ss) c (h 0 (omega arith)) (all-few n c ps ss (λ i l. h (suc i) (omega (arith, l))))

-- ---- one slave

init-only : (st : State) → is_init st ≡ true → st ≡ Init
init-only Init e = refl
init-only PreOp e = absurd (both_ways false refl e)
init-only SafeOp e = absurd (both_ways false refl e)
init-only Op e = absurd (both_ways false refl e)

come-of : (n more : ℕ) (p : SlavePlan) (s : SlaveState) → until_init n p s ≤ more → ((served s).al.state ≡ Init) ⊎ (steps_slow p.kind.hardware + 2 ≤ n + more)
come-of n more p s l = by (is_init (served s).al.state) refl
  where
    by : (b : Bool) → is_init (served s).al.state ≡ b → ((served s).al.state ≡ Init) ⊎ (steps_slow p.kind.hardware + 2 ≤ n + more)
    by true e = inl (init-only (served s).al.state e)
    by false e = let k : steps_slow p.kind.hardware + 2 - n ≤ more = subst (λ (x : ℕ). x ≤ more) (if_false (is_init (served s).al.state) 0 (steps_left n p) e) l in inr (omega (arith, k))

out-of : (n m : ℕ) (p : SlavePlan) (s : SlaveState) → m < until_init n p s → (is_init (served s).al.state ≡ false) × (n + m < steps_slow p.kind.hardware + 2)
out-of n m p s l = by (is_init (served s).al.state) refl
  where
    by : (b : Bool) → is_init (served s).al.state ≡ b → (is_init (served s).al.state ≡ false) × (n + m < steps_slow p.kind.hardware + 2)
    by true e = absurd (let k : m < 0 = subst (λ (x : ℕ). m < x) (if_true (is_init (served s).al.state) 0 (steps_left n p) e) l in omega (arith, k))
    by false e = let k : m < steps_slow p.kind.hardware + 2 - n = subst (λ (x : ℕ). m < x) (if_false (is_init (served s).al.state) 0 (steps_left n p) e) l in (e, omega (arith, k))

cleared-of : (n more : ℕ) (p : SlavePlan) (s : SlaveState) → until_clean n p s ≤ more → ((served s).al.error ≡ false) ⊎ (steps_slow p.kind.hardware + 2 ≤ n + more)
cleared-of n more p s l = by (served s).al.error refl
  where
    by : (b : Bool) → (served s).al.error ≡ b → ((served s).al.error ≡ false) ⊎ (steps_slow p.kind.hardware + 2 ≤ n + more)
    by false e = inl e
    by true e = let k : steps_slow p.kind.hardware + 2 - n ≤ more = subst (λ (x : ℕ). x ≤ more) (if_true (served s).al.error (steps_left n p) 0 e) l in inr (omega (arith, k))

uncleared-of : (n m : ℕ) (p : SlavePlan) (s : SlaveState) → m < until_clean n p s → ((served s).al.error ≡ true) × (n + m < steps_slow p.kind.hardware + 2)
uncleared-of n m p s l = by (served s).al.error refl
  where
    by : (b : Bool) → (served s).al.error ≡ b → ((served s).al.error ≡ true) × (n + m < steps_slow p.kind.hardware + 2)
    by false e = absurd (let k : m < 0 = subst (λ (x : ℕ). m < x) (if_false (served s).al.error (steps_left n p) 0 e) l in omega (arith, k))
    by true e = let k : m < steps_slow p.kind.hardware + 2 - n = subst (λ (x : ℕ). m < x) (if_true (served s).al.error (steps_left n p) 0 e) l in (e, omega (arith, k))

-- ---- polls of `e` frames each: those of a wait of `s` steps

reached : (s e polls fed : ℕ) → polls ≡ s / e → fed + 1 ≡ e → s ≤ polls * e + fed
reached s e polls fed q f =
    let some : 0 < e = omega (arith, f) in
    let w : e * (s / e) ≡ polls * e = (let z : e * (s / e) ≡ s / e * e = omega arith in z ∙ ap (λ (x : ℕ). x * e) (sym q)) in
    omega (arith, w, f, some)

not-reached : (s e polls fed : ℕ) → polls < s / e → fed + 1 ≡ e → polls * e + fed < s
not-reached s e polls fed l f =
    let k : polls + 1 ≤ s / e = omega (arith, l) in
    let a = mul-le-mul_right e k in
    let b = div-mul-le_self s e in
    let z : (polls + 1) * e ≡ polls * e + e = omega arith in
    omega (arith, a, b, z, f)

-- the step's own frame is the last of a poll
pub own-each : (fs : List Feed) (a : Action) (fed : ℕ) → (is_fed a ≡ false → fed ≡ 0) → (is_fed a ≡ true → fed ≡ length fs) → fed + 1 ≡ frames_each fs a
own-each fs a fed none all = by (is_fed a) refl
  where
    by : (b : Bool) → is_fed a ≡ b → fed + 1 ≡ frames_each fs a
    by true e = let z : fed + 1 ≡ length fs + 1 = (let k = all e in omega (arith, k)) in z ∙ sym (if_true (is_fed a) (length fs + 1) 1 e)
    by false e = let z : fed + 1 ≡ 1 = (let k = none e in omega (arith, k)) in z ∙ sym (if_false (is_fed a) (length fs + 1) 1 e)

pub fed-within : (fs : List Feed) (a : Action) (fed : ℕ) → fed ≤ length fs → (is_fed a ≡ false → fed ≡ 0) → fed < frames_each fs a
fed-within fs a fed few none = by (is_fed a) refl
  where
    by : (b : Bool) → is_fed a ≡ b → fed < frames_each fs a
    by true e = subst (λ (n : ℕ). fed < n) (sym (if_true (is_fed a) (length fs + 1) 1 e)) (omega (arith, few))
    by false e = let k = none e in subst (λ (n : ℕ). fed < n) (sym (if_false (is_fed a) (length fs + 1) 1 e)) (omega (arith, k))

-- ---- which frames were sent before

abbrev pub IsCounted : Action → ℕ → Type 0
IsCounted CountSlaves n = n ≡ 0
IsCounted AskInit n = n ≡ 1
IsCounted AwaitInit n = n ≡ 2
IsCounted _ n = Unit {0}

pub counted-one : (a : Action) (n : ℕ) → IsCounted a n → a ≡ AskInit → n ≡ 1
counted-one a n c e = subst (λ (x : Action). IsCounted x n) e c

reply-few : (before : ℕ) (q : SlavePlan) → until_reply before q ≤ 1
reply-few (suc before) q = omega arith
reply-few zero q = by (has_emergency q.kind.hardware)
  where
    by : (b : Bool) → (if b then 1 else 0) ≤ 1
    by true = omega arith
    by false = omega arith

heard-few : (p : Action) (q : SlavePlan) → until_heard p q ≤ 1
heard-few (SendRequest i before b r) q = reply-few before q
heard-few _ q = omega arith

reply-first : (before : ℕ) (q : SlavePlan) → until_reply before q ≡ heard_first before q.kind.hardware
reply-first zero q = refl
reply-first (suc before) q = refl

module _ (ps : List SlavePlan) (fs : List Feed) (ss : List SlaveState) where
  abbrev kinds : ℕ → SlaveKind
  kinds i = (plan_at ps i).kind

  pub due-of : (n : ℕ) (p a : Action) (polls fed : ℕ) → length ss ≡ length ps → polls ≡ polls_more ps fs ss n p a → fed + 1 ≡ frames_each fs a → IsCounted a n
      → IsDue kinds (al_asked ss) (length ps) (n + polls * frames_each fs a + fed) (polls_more ps fs ss n p a) (polls * frames_each fs a + fed) a
  due-of n p AwaitInit polls fed size e f c = omega (arith, c)
  due-of n p AwaitInitState polls fed size e f c = λ i l. elim (come-of n (until_all n ps ss) (plan_at ps i) (slave_of ss i) (all-most n ps ss i size l)) [
    | inl q ↦ inl q
    | inr q ↦ inr (omega (arith, q, e))
  ]
  due-of n p (AwaitCleanInit t) polls fed size e f c = elim (cleared-of n (until_clean n (plan_at ps t) (slave_of ss t)) (plan_at ps t) (slave_of ss t) (omega arith)) [
    | inl q ↦ inl q
    | inr q ↦ inr (omega (arith, q, e))
  ]
  due-of n p (AwaitState t to) polls fed size e f c = reached (steps_slow (plan_at ps t).kind.hardware) (frames_each fs (AwaitState t to)) polls fed e f
  due-of n p (AwaitFreeReply t b r) polls fed size e f c = omega (arith, e)
  due-of n p _ polls fed size e f c = tt

  pub on-of : (n : ℕ) (p a : Action) (polls fed : ℕ) → polls < polls_more ps fs ss n p a → fed + 1 ≡ frames_each fs a
      → GoesOn kinds (al_asked ss) (length ps) (n + polls * frames_each fs a + fed) (polls_more ps fs ss n p a) (polls * frames_each fs a + fed) a
      × IsPolled a (polls_more ps fs ss n p a) (polls * frames_each fs a + fed)
  on-of n p AwaitInitState polls fed l f =
      let t = all-some n polls ps ss l in
      let o = out-of n polls (plan_at ps t.0) (slave_of ss t.0) t.2 in
      let q = o.1 in
      ((t.0, t.1, (o.0, omega (arith, q, f))), tt)
  on-of n p (AwaitCleanInit t) polls fed l f =
      let o = uncleared-of n polls (plan_at ps t) (slave_of ss t) l in
      let q = o.1 in
      ((o.0, omega (arith, q, f)), tt)
  on-of n p (AwaitState t to) polls fed l f = (not-reached (steps_slow (plan_at ps t).kind.hardware) (frames_each fs (AwaitState t to)) polls fed l f, tt)
  on-of n p (AwaitFreeReply t b r) polls fed l f =
      let few = heard-few p (plan_at ps t) in
      let b : polls * 1 + fed < until_heard p (plan_at ps t) = omega (arith, l, f) in
      (b, (b, few))
  on-of n p _ polls fed l f = absurd (omega (arith, l))

  pub paced-of : (n : ℕ) (a b : Action) (i : ℕ) → IsPaced (kinds i) i a b (polls_more ps fs ss n a b)
  paced-of n a (AwaitFreeReply t b r) i = λ before e mine.
      ap (λ (y : Action). until_heard y (plan_at ps t)) e ∙ (reply-first before (plan_at ps t) ∙ ap (λ (j : ℕ). heard_first before (plan_at ps j).kind.hardware) mine)
  paced-of n a _ i = tt

  pub counted-next : (n : ℕ) (p a b : Action) → Prompted a b → IsCounted a n → IsCounted b (n + (polls_more ps fs ss n p a + 1) * frames_each fs a)
  counted-next n p a CountSlaves h c = absurd h
  counted-next n p a AskInit h c = subst (λ (x : Action). IsCounted x n → n + (polls_more ps fs ss n p x + 1) * frames_each fs x ≡ 1) (sym h) (λ k. omega (arith, k)) c
  counted-next n p a AwaitInit h c = subst (λ (x : Action). IsCounted x n → n + (polls_more ps fs ss n p x + 1) * frames_each fs x ≡ 2) (sym h) (λ k. omega (arith, k)) c
  counted-next n p a _ h c = tt

  -- ---- they are few

  pub more-few : (n : ℕ) (p a : Action) → ((i : ℕ) → steps_slow (plan_at ps i).kind.hardware ≤ 100) → polls_more ps fs ss n p a ≤ 102
  more-few n p AwaitInitState slow = all-few n 102 ps ss (λ i l. init-few n (plan_at ps i) (slave_of ss i) (slow i))
    where
      init-few : (n : ℕ) (q : SlavePlan) (s : SlaveState) → steps_slow q.kind.hardware ≤ 100 → until_init n q s ≤ 102
      init-few n q s l = by (is_init (served s).al.state)
        where
          by : (b : Bool) → (if b then 0 else steps_left n q) ≤ 102
          by true = omega arith
          by false = omega (arith, l)
  more-few n p (AwaitCleanInit t) slow = by (served (slave_of ss t)).al.error (slow t)
    where
      by : (b : Bool) → steps_slow (plan_at ps t).kind.hardware ≤ 100 → (if b then steps_left n (plan_at ps t) else 0) ≤ 102
      by false l = omega arith
      by true l = omega (arith, l)
  more-few n p (AwaitState t to) slow = let a = div-le_self (steps_slow (plan_at ps t).kind.hardware) (frames_each fs (AwaitState t to)) in let b = slow t in omega (arith, a, b)
  more-few n p (AwaitFreeReply t b r) slow = let a = heard-few p (plan_at ps t) in omega (arith, a)
  more-few n p _ slow = omega arith

  pub behind-more : (n : ℕ) (p : Action) (xs : List Action) → n ≤ frames_behind ps fs ss n p xs
  behind-more n p [] = omega arith
  behind-more n p (a ∷ xs) =
      let m : ℕ = (polls_more ps fs ss n p a + 1) * frames_each fs a in
      let h : n + m ≤ frames_behind ps fs ss (n + m) a xs = behind-more (n + m) a xs in
      omega (arith, h)

  each-few : (a : Action) → frames_each fs a ≤ length fs + 1
  each-few a = by (is_fed a)
    where
      by : (b : Bool) → (if b then length fs + 1 else 1) ≤ length fs + 1
      by true = omega arith
      by false = omega arith

  pub behind-few : (n : ℕ) (p : Action) (xs : List Action) → ((i : ℕ) → steps_slow (plan_at ps i).kind.hardware ≤ 100) → frames_behind ps fs ss n p xs ≤ n + 103 * (length fs + 1) * length xs
  behind-few n p [] slow = omega arith
  behind-few n p (a ∷ xs) slow =
      let m : ℕ = (polls_more ps fs ss n p a + 1) * frames_each fs a in
      let h : frames_behind ps fs ss (n + m) a xs ≤ n + m + 103 * (length fs + 1) * length xs = behind-few (n + m) a xs slow in
      let few = more-few n p a slow in
      let one : m ≤ 103 * (length fs + 1) = mul-le (polls_more ps fs ss n p a + 1) (frames_each fs a) 103 (length fs + 1) (omega (arith, few)) (each-few a) in
      omega (arith, h, one)

-- ---- what a type is slow by

pub steps-few : (o : Option Hardware) → slow o ≤ 100 → steps_slow o ≤ 100
steps-few None l = omega arith
steps-few (Some h) l = by h.has_firmware
  where
    by : (b : Bool) → (if b then h.slow else 0) ≤ 100
    by true = l
    by false = omega arith

pub slow-any : (ps : List SlavePlan) → ((i : ℕ) → i < length ps → slow (plan_at ps i).kind.hardware ≤ 100) → (i : ℕ) → steps_slow (plan_at ps i).kind.hardware ≤ 100
slow-any [] h i = omega arith
slow-any (p ∷ ps) h zero = steps-few p.kind.hardware (h 0 (omega arith))
slow-any (p ∷ ps) h (suc i) = slow-any ps (λ j l. h (suc j) (omega (arith, l))) i
