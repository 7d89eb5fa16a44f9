-- No slave gives more than its share, so predicted counters mean that each gave the whole of it.
use Rattle.std.proofs.Common.{ℕ, zero, suc, ◌<◌, ◌≤◌, ◌≡◌, ◌==◌, refl, sym, ◌∙◌, ap, subst, arith, length, List, [], ◌∷◌, map, get_or, Bool, true, false}
use Rattle.std.specs.Int.{from_bool}
use Rattle.std.proofs.lemmas.Bool.{eqb-true, and_parts}
use Rattle.std.proofs.lemmas.List.{length-map, get_or-map}
use Rattle.ec_link.specs.declared.settings.SlavePlan.{SlavePlan}
use Rattle.ec_link.specs.Shares.{Gave, counters_of, same_counters, share_in, sum_of, lwr_count, lrd_count, lrw_count, nothing_given, predicted}
use Rattle.ec_link.specs.Meaning.{slave_at, no_slave}
use Rattle.ec_link.specs.Plan.{PlanState, part_at}
use Rattle.ec_cycle.specs.Laws.{GaveAtMost}

abbrev at : List Gave → ℕ → Gave
at gs t = get_or gs t nothing_given

sums_le : (f : Gave → ℕ) (xs ys : List Gave) → length xs ≡ length ys → ((t : ℕ) → t < length xs → f (at xs t) ≤ f (at ys t)) → sum_of f xs ≤ sum_of f ys
sums_le f [] [] e h = omega arith
sums_le f [] (y ∷ ys) e h = absurd (omega arith)
sums_le f (x ∷ xs) [] e h = absurd (omega arith)
sums_le f (x ∷ xs) (y ∷ ys) e h = let a = sums_le f xs ys (omega arith) (λ t l. h (suc t) (omega arith)) in let b = h 0 (omega arith) in omega arith

-- equal sums of terms of which none is greater: equal terms
sums_tell : (f : Gave → ℕ) (xs ys : List Gave) → length xs ≡ length ys → ((t : ℕ) → t < length xs → f (at xs t) ≤ f (at ys t)) → sum_of f xs ≡ sum_of f ys → (t : ℕ) → t < length xs → f (at xs t) ≡ f (at ys t)
sums_tell f [] ys e h s t l = absurd (omega arith)
sums_tell f (x ∷ xs) [] e h s t l = absurd (omega arith)
sums_tell f (x ∷ xs) (y ∷ ys) e h s zero l = let a = sums_le f xs ys (omega arith) (λ t l. h (suc t) (omega arith)) in let b = h 0 (omega arith) in omega arith
sums_tell f (x ∷ xs) (y ∷ ys) e h s (suc t) l =
    let a = sums_le f xs ys (omega arith) (λ t l. h (suc t) (omega arith)) in
    let b = h 0 (omega arith) in
    sums_tell f xs ys (omega arith) (λ t l. h (suc t) (omega arith)) (omega arith) t (omega arith)

record Both (f g : Gave) : Type 0 where
  pub write : lwr_count f ≤ lwr_count g
  pub read : lrd_count f ≤ lrd_count g

-- both counts of a slave are equal
counts_tell : (split : Bool) (xs ys : List Gave) → length xs ≡ length ys → ((t : ℕ) → t < length xs → Both (at xs t) (at ys t))
    → same_counters (counters_of split xs) (counters_of split ys) ≡ true → (t : ℕ) → t < length xs → (lwr_count (at xs t) ≡ lwr_count (at ys t)) × (lrd_count (at xs t) ≡ lrd_count (at ys t))
counts_tell true xs ys e h same t l =
    let both = and_parts (sum_of lwr_count xs == sum_of lwr_count ys) (sum_of lrd_count xs == sum_of lrd_count ys) same in (
      sums_tell lwr_count xs ys e (λ t l. (h t l).write) (eqb-true (sum_of lwr_count xs) (sum_of lwr_count ys) both.0) t l,
      sums_tell lrd_count xs ys e (λ t l. (h t l).read) (eqb-true (sum_of lrd_count xs) (sum_of lrd_count ys) both.1) t l,
    )
counts_tell false xs ys e h same t l =
    let one : lrw_count (at xs t) ≡ lrw_count (at ys t) = sums_tell lrw_count xs ys e (λ t l. let a = (h t l).write in let b = (h t l).read in omega arith) (eqb-true (sum_of lrw_count xs) (sum_of lrw_count ys) same) t l in
    let w = (h t l).write in
    let r = (h t l).read in
    (omega arith, omega arith)

abbrev gift : Bool → Bool → Gave
gift w r = record { wrote = w; read = r }

-- a slave that counts the same gave the same
bits_tell : (u v : Bool) → from_bool u ≡ from_bool v → u ≡ v
bits_tell true true e = refl
bits_tell false false e = refl
bits_tell true false e = absurd (omega arith)
bits_tell false true e = absurd (omega arith)

same_gift : (f g : Gave) → lwr_count f ≡ lwr_count g → lrd_count f ≡ lrd_count g → f ≡ g
same_gift f g a b = ap (λ (z : Bool). gift z f.read) (bits_tell f.wrote g.wrote a) ∙ ap (gift g.wrote) (bits_tell f.read g.read b)

pub predicted_means_whole : (p : PlanState) (k : ℕ) (gave : List Gave) → GaveAtMost p k gave → same_counters (counters_of (part_at p.parts k).split gave) (predicted p k) ≡ true
    → (s : ℕ) → s < length p.slaves → get_or gave s nothing_given ≡ share_in k (slave_at p s).share
predicted_means_whole p k gave most same s l =
    let whole = map (λ (x : SlavePlan). share_in k x.share) p.slaves in
    let count = most.0 in
    let len : length gave ≡ length whole = count ∙ sym (length-map p.slaves (λ (x : SlavePlan). share_in k x.share)) in
    let here : (t : ℕ) → t < length p.slaves → at whole t ≡ share_in k (slave_at p t).share = λ t b. get_or-map (λ (x : SlavePlan). share_in k x.share) p.slaves t no_slave nothing_given b in
    let there : s < length gave = omega arith in
    let both = counts_tell (part_at p.parts k).split gave whole len (λ t b.
    let c : t < length p.slaves = omega arith in
    let m = most.1 t c in
    subst (λ (w : Gave). Both (at gave t) w) (sym (here t c)) (record { write = m.0; read = m.1 })) same s there in
    same_gift (at gave s) (at whole s) both.0 both.1 ∙ here s l
