-- The parts of a plan that is usable can be fed, and come back with the counters that the plan predicts.
use Rattle.ec_bringup.proofs.Words.{ℕ, zero, suc, ◌+◌, ◌-◌, ◌*◌, ◌<◌, ◌≤◌, ◌≡◌, ◌≢◌, ◌==◌, Bool, true, false, Some, refl, sym, ◌∙◌, ap, subst, inl, inr, arith, if◌then◌else◌, List, [], ◌∷◌, length, map, get_or, slice_get, nat_lt, from_bool, cases_Bool, cases_eq, if_true, if_false, eq-eqb, ne_eqb, length-map, SlavePlan, PlanState, IsUsable, IsStartable, Feed, listed, planned, span_of_feed, IsFeedOf, is_hardware}
use Rattle.std.proofs.Math.ListN.{get_or-map}
use Rattle.ec_fmmu.specs.Areas.{Area, Spans}
use Rattle.ec_fmmu.specs.Applied.{LogicalSpan}
use Rattle.ec_link.specs.declared.plan.PartPlan.{PartPlan}
use Rattle.ec_link.specs.declared.settings.Share.{Share}
use Rattle.ec_link.specs.declared.plan.ExpectedCounters.{ExpectedCounters}
use Rattle.ec_link.specs.declared.plan.ExpectedCounters.TheVariants.{Lrw, Split}
use Rattle.ec_link.specs.Plan.{part_at, no_part, predicted_of, share_sum, write_share, read_share, lrw_share}
use Rattle.ec_link.specs.Meaning.{meaning, share_of, area_of, span_of_part, no_slave}
use Rattle.ec_link.specs.Shares.{lwr_count, lrw_count, whole_share}
use Rattle.ec_start.specs.Feeding.{feed_over, feeds_from, feeds_of}
use Rattle.ec_start.proofs.Feedings.{hardware_is_fed}
use Rattle.ec_bringup.specs.Fed.{IsAway, PartsCanBeFed, IsCountedIn, Within, Outside, sum_up, IsPredicted, PartsArePredicted}

-- ---- which part is which feed

-- a feed is that of a part with process bytes
record IsOfPart (p : PlanState) (qs : List PartPlan) (m : ℕ) (f : Feed) : Type 0 where
  place : ℕ
  inside : place < length qs
  is : f ≡ feed_over (get_or qs place no_part) (predicted_of p (m + place))

of-part : (p : PlanState) (m k : ℕ) (qs : List PartPlan) (f : Feed) → slice_get (feeds_from p m qs) k ≡ Some f → IsOfPart p qs m f
of-part p m zero [] f e = absurd (cc e)
of-part p m (suc k) [] f e = absurd (cc e)
of-part p m k (q ∷ qs) f e = by (λ j g. of-part p (m + 1) j qs f g) (q.bytes == 0) refl
  where
    on : IsOfPart p qs (m + 1) f → IsOfPart p (q ∷ qs) m f
    on r = let z : m + 1 + r.place ≡ m + suc r.place = omega arith in
        let l = r.inside in record { place = suc r.place; inside = omega (arith, l); is = r.is ∙ ap (λ (n : ℕ). feed_over (get_or qs r.place no_part) (predicted_of p n)) z }

    here : ((j : ℕ) → slice_get (feeds_from p (m + 1) qs) j ≡ Some f → IsOfPart p qs (m + 1) f) → (j : ℕ) → slice_get (feed_over q (predicted_of p m) ∷ feeds_from p (m + 1) qs) j ≡ Some f → IsOfPart p (q ∷ qs) m f
    here rest zero g =
        let z : m ≡ m + 0 = omega arith in
        let s : Some (feed_over q (predicted_of p m)) ≡ Some f = g in
        let t : feed_over q (predicted_of p m) ≡ f = cc in
        record { place = 0; inside = omega arith; is = sym t ∙ ap (λ (n : ℕ). feed_over q (predicted_of p n)) z }
    here rest (suc j) g = on (rest j g)

    by : ((j : ℕ) → slice_get (feeds_from p (m + 1) qs) j ≡ Some f → IsOfPart p qs (m + 1) f) → (b : Bool) → (q.bytes == 0) ≡ b → IsOfPart p (q ∷ qs) m f
    by rest true z = on (rest k (ap (λ (xs : List Feed). slice_get xs k) (sym (if_true (q.bytes == 0) (feeds_from p (m + 1) qs) (feed_over q (predicted_of p m) ∷ feeds_from p (m + 1) qs) z)) ∙ e))
    by rest false z = here rest k (ap (λ (xs : List Feed). slice_get xs k) (sym (if_false (q.bytes == 0) (feeds_from p (m + 1) qs) (feed_over q (predicted_of p m) ∷ feeds_from p (m + 1) qs) z)) ∙ e)

-- and each part with process bytes is fed
record IsInFeeds (p : PlanState) (m : ℕ) (qs : List PartPlan) (n : ℕ) : Type 0 where
  number : ℕ
  there : slice_get (feeds_from p m qs) number ≡ Some (feed_over (get_or qs n no_part) (predicted_of p (m + n)))

in-feeds : (p : PlanState) (m : ℕ) (qs : List PartPlan) (n : ℕ) → n < length qs → (get_or qs n no_part).bytes ≢ 0 → IsInFeeds p m qs n
in-feeds p m [] n l some = absurd (omega (arith, l))
in-feeds p m (q ∷ qs) zero l some =
    let z : m ≡ m + 0 = omega arith in
    record {
      number = 0;
      there = ap (λ (xs : List Feed). slice_get xs 0) (if_false (q.bytes == 0) (feeds_from p (m + 1) qs) (feed_over q (predicted_of p m) ∷ feeds_from p (m + 1) qs) (ne_eqb q.bytes 0 some)) ∙ ap (λ (n : ℕ). Some (feed_over q (predicted_of p n))) z;
    }
in-feeds p m (q ∷ qs) (suc n) l some =
    let r = in-feeds p (m + 1) qs n (omega (arith, l)) some in
    let z : m + 1 + n ≡ m + suc n = omega arith in
    let g = r.there ∙ ap (λ (k : ℕ). Some (feed_over (get_or qs n no_part) (predicted_of p k))) z in
    elim (cases_Bool (q.bytes == 0)) [
      | inl t ↦ record { number = r.number; there = ap (λ (xs : List Feed). slice_get xs r.number) (if_true (q.bytes == 0) (feeds_from p (m + 1) qs) (feed_over q (predicted_of p m) ∷ feeds_from p (m + 1) qs) t) ∙ g }
      | inr t ↦ record { number = suc r.number; there = ap (λ (xs : List Feed). slice_get xs (suc r.number)) (if_false (q.bytes == 0) (feeds_from p (m + 1) qs) (feed_over q (predicted_of p m) ∷ feeds_from p (m + 1) qs) t) ∙ g }
    ]

-- what it has of its part
over-address : (q : PartPlan) (e : ExpectedCounters) → (feed_over q e).address ≡ q.address
over-address q (Lrw n) = refl
over-address q (Split w r) = refl

over-bytes : (q : PartPlan) (e : ExpectedCounters) → (feed_over q e).bytes ≡ q.bytes
over-bytes q (Lrw n) = refl
over-bytes q (Split w r) = refl

over-split : (q : PartPlan) (e : ExpectedCounters) → (feed_over q e).split ≡ q.split
over-split q (Lrw n) = refl
over-split q (Split w r) = refl

-- ---- a usable plan

module _ (p : PlanState) (u : IsUsable p) where
  share-is : (i : ℕ) → share_of (meaning p) i ≡ (planned p.slaves i).share
  share-is i = get_or-map (λ (x : SlavePlan). x.share) p.slaves i no_slave

  area : ℕ → Area
  area i = area_of (planned p.slaves i)

  -- each slave lies in its part as a whole
  own-part : (i : ℕ) → i < length p.slaves → Spans (span_of_part p (planned p.slaves i).share.part) (area_of (planned p.slaves i))
  own-part i l =
      subst (λ (h : Share). Spans (span_of_part p h.part) (area_of (planned p.slaves i))) (share-is i)
      (u.laid.inside i (let e = length-map p.slaves (λ (x : SlavePlan). x.share) in omega (arith, l, e)))

  -- and no bit of it in another
  other-part : (i n : ℕ) → i < length p.slaves → (planned p.slaves i).share.part ≢ n → IsAway (span_of_part p n) (area_of (planned p.slaves i))
  other-part i n l ne =
      let own = own-part i l in
      let k : ℕ = (planned p.slaves i).share.part in
      let a : Area = area_of (planned p.slaves i) in
      record {
        outs = λ o j b c e.
            let low = own.out_from in let high = own.out_to in
            u.laid.parts_apart k n (a.out_at + o - (span_of_part p k).from) j ne (omega (arith, b, low, high)) c (omega (arith, low, e));
        ins = λ o j b c e.
            let low = own.in_from in let high = own.in_to in
            u.laid.parts_apart k n (a.in_at + o - (span_of_part p k).from) j ne (omega (arith, b, low, high)) c (omega (arith, low, e));
      }

  -- ---- a feed of a part

  module _ (n : ℕ) (f : Feed) (here : n < length p.parts) (is : f ≡ feed_over (part_at p.parts n) (predicted_of p n)) where
    span-is : span_of_feed f ≡ span_of_part p n
    span-is = ap span_of_feed is ∙ (ap (λ (x : ℕ). record { from = 8 * x; bits = 8 * (feed_over (part_at p.parts n) (predicted_of p n)).bytes }) (over-address (part_at p.parts n) (predicted_of p n))
        ∙ ap (λ (x : ℕ). record { from = 8 * (part_at p.parts n).address; bits = 8 * x }) (over-bytes (part_at p.parts n) (predicted_of p n)))

    bytes-is : f.bytes ≡ (part_at p.parts n).bytes
    bytes-is = ap (λ (x : Feed). x.bytes) is ∙ over-bytes (part_at p.parts n) (predicted_of p n)

    address-is : f.address ≡ (part_at p.parts n).address
    address-is = ap (λ (x : Feed). x.address) is ∙ over-address (part_at p.parts n) (predicted_of p n)

    split-is : f.split ≡ (part_at p.parts n).split
    split-is = ap (λ (x : Feed). x.split) is ∙ over-split (part_at p.parts n) (predicted_of p n)

    spans-own : (i : ℕ) → i < length p.slaves → (planned p.slaves i).share.part ≡ n → Spans (span_of_feed f) (area_of (planned p.slaves i))
    spans-own i l e = subst (λ (x : LogicalSpan). Spans x (area_of (planned p.slaves i))) (ap (span_of_part p) e ∙ sym span-is) (own-part i l)

    away-other : (i : ℕ) → i < length p.slaves → (planned p.slaves i).share.part ≢ n → IsAway (span_of_feed f) (area_of (planned p.slaves i))
    away-other i l ne = subst (λ (x : LogicalSpan). IsAway x (area_of (planned p.slaves i))) (sym span-is) (other-part i n l ne)

    few-of : (b : Bool) (x : ℕ) → (if b then 2 * x + 12 else x) ≤ 1422 → x ≤ 1422
    few-of true x l = omega (arith, l)
    few-of false x l = l

    feed-of : ((i : ℕ) → i < length p.slaves → IsStartable (planned p.slaves i)) → IsFeedOf p.slaves f
    feed-of able = record {
      few = subst (λ (x : ℕ). x ≤ 1422) (sym bytes-is) (few-of (part_at p.parts n).split (part_at p.parts n).bytes (u.few_bytes n));
      addresses = let a = address-is in let b = bytes-is in let l = u.addresses n in omega (arith, a, b, l);
      areas = λ i l. elim (cases_eq (planned p.slaves i).share.part n) [ inl e ↦ inl (spans-own i l e) | inr ne ↦ inr (away-other i l ne) ];
      listed = λ i l. listed p u i l;
      hardware = λ i l. (u.managers i l).hardware;
      readable = λ i l k b. (able i l).readable k b;
      apart = λ i j o k ne a b. u.laid.in_out i j o k ne a b;
    }

    -- ---- its counter

    -- what slave i counts
    abbrev count_of : SlavePlan → ℕ
    count_of x = if x.share.part == n then (if f.split then lwr_count (whole_share x.share) else lrw_count (whole_share x.share)) else 0

    lwr-is : (h : Share) → lwr_count (whole_share h) ≡ write_share h
    lwr-is h = elim (nat_lt 0 h.outs) as (λ b. from_bool b ≡ (if b then 1 else 0)) [ true ↦ refl | false ↦ refl ]

    both-are : (x y : Bool) → from_bool x + 2 * from_bool y ≡ 2 * (if y then 1 else 0) + (if x then 1 else 0)
    both-are true true = refl
    both-are true false = refl
    both-are false true = refl
    both-are false false = refl

    lrw-is : (h : Share) → lrw_count (whole_share h) ≡ lrw_share h
    lrw-is h = both-are (nat_lt 0 h.ins) (nat_lt 0 h.outs)

    sum-write : (xs : List SlavePlan) → f.split ≡ true → share_sum write_share n xs ≡ sum_up (map count_of xs)
    sum-write [] e = refl
    sum-write (x ∷ xs) e =
        ap (λ (k : ℕ). (if x.share.part == n then k else 0) + share_sum write_share n xs) (sym (if_true f.split (lwr_count (whole_share x.share)) (lrw_count (whole_share x.share)) e ∙ lwr-is x.share))
        ∙ ap (λ (k : ℕ). count_of x + k) (sum-write xs e)

    sum-both : (xs : List SlavePlan) → f.split ≡ false → share_sum lrw_share n xs ≡ sum_up (map count_of xs)
    sum-both [] e = refl
    sum-both (x ∷ xs) e =
        ap (λ (k : ℕ). (if x.share.part == n then k else 0) + share_sum lrw_share n xs) (sym (if_false f.split (lwr_count (whole_share x.share)) (lrw_count (whole_share x.share)) e ∙ lrw-is x.share))
        ∙ ap (λ (k : ℕ). count_of x + k) (sum-both xs e)

    counter-is : f.counter ≡ sum_up (map count_of p.slaves)
    counter-is = ap (λ (x : Feed). x.counter) is ∙ by (part_at p.parts n).split refl
      where
        by : (b : Bool) → (part_at p.parts n).split ≡ b
            → (feed_over (part_at p.parts n) (if (part_at p.parts n).split then Split (share_sum write_share n p.slaves) (share_sum read_share n p.slaves) else Lrw (share_sum lrw_share n p.slaves))).counter ≡ sum_up (map count_of p.slaves)
        by true e = ap (λ (x : ExpectedCounters). (feed_over (part_at p.parts n) x).counter) (if_true (part_at p.parts n).split (Split (share_sum write_share n p.slaves) (share_sum read_share n p.slaves)) (Lrw (share_sum lrw_share n p.slaves)) e)
            ∙ sum-write p.slaves (split-is ∙ e)
        by false e = ap (λ (x : ExpectedCounters). (feed_over (part_at p.parts n) x).counter) (if_false (part_at p.parts n).split (Split (share_sum write_share n p.slaves) (share_sum read_share n p.slaves)) (Lrw (share_sum lrw_share n p.slaves)) e)
            ∙ sum-both p.slaves (split-is ∙ e)

    count-at : (i : ℕ) → i < length p.slaves → get_or (map count_of p.slaves) i 0 ≡ count_of (planned p.slaves i)
    count-at i l = at p.slaves i l
      where
        at : (xs : List SlavePlan) (k : ℕ) → k < length xs → get_or (map count_of xs) k 0 ≡ count_of (get_or xs k no_slave)
        at [] k b = absurd (omega (arith, b))
        at (x ∷ xs) zero b = refl
        at (x ∷ xs) (suc k) b = at xs k (omega (arith, b))

    counted : (i : ℕ) → i < length p.slaves → IsCountedIn f (planned p.slaves i) (get_or (map count_of p.slaves) i 0)
    counted i l = elim (cases_eq (planned p.slaves i).share.part n) [
      | inl e ↦ Within (spans-own i l e)
          (λ s. u.by_lrw i l (ap (λ (k : ℕ). (part_at p.parts k).split) e ∙ (sym split-is ∙ s)))
          (count-at i l ∙ if_true ((planned p.slaves i).share.part == n) _ 0 (eq-eqb (planned p.slaves i).share.part n e))
      | inr ne ↦ Outside (away-other i l ne) (count-at i l ∙ if_false ((planned p.slaves i).share.part == n) _ 0 (ne_eqb (planned p.slaves i).share.part n ne))
    ]

    is-predicted : IsPredicted p.slaves f
    is-predicted = record { shares = map count_of p.slaves; as_many = length-map p.slaves count_of; each = counted; sum = counter-is }

  -- ---- all of them

  -- a feed of the plan is that of one of its parts
  found : (k : ℕ) (f : Feed) → slice_get (feeds_of p) k ≡ Some f → IsOfPart p p.parts 0 f
  found k f e = elim (cases_Bool (is_hardware p.slaves)) [
    | inl h ↦ of-part p 0 k p.parts f (ap (λ (xs : List Feed). slice_get xs k) (sym ((hardware_is_fed p).hardware h)) ∙ e)
    | inr n ↦ absurd (none-there k (ap (λ (xs : List Feed). slice_get xs k) (sym ((hardware_is_fed p).plain n)) ∙ e))
  ]
    where
      none-there : (j : ℕ) → slice_get {X = Feed} [] j ≡ Some f → ⊥
      none-there zero g = cc g
      none-there (suc j) g = cc g

  -- the part of a slave that has outputs is fed
  all-fed : (i : ℕ) → i < length p.slaves → is_hardware p.slaves ≡ true → 0 < (planned p.slaves i).share.outs
      → (k : ℕ) × (f : Feed) × (slice_get (feeds_of p) k ≡ Some f) × Spans (span_of_feed f) (area_of (planned p.slaves i))
  all-fed i l h some =
      let n : ℕ = (planned p.slaves i).share.part in
      let there : n < length p.parts = u.in_parts i l in
      let own = own-part i l in
      let bytes : (part_at p.parts n).bytes ≢ 0 = λ z. let low = own.out_from in let high = own.out_to in omega (arith, z, low, high, some) in
      let r = in-feeds p 0 p.parts n there bytes in
      let z : 0 + n ≡ n = omega arith in
      let f : Feed = feed_over (part_at p.parts n) (predicted_of p n) in (
        r.number,
        f,
        ap (λ (xs : List Feed). slice_get xs r.number) ((hardware_is_fed p).hardware h) ∙ (r.there ∙ ap (λ (k : ℕ). Some (feed_over (part_at p.parts n) (predicted_of p k))) z),
        spans-own n f there refl i l refl,
      )

  zero-plus : (n : ℕ) → 0 + n ≡ n
  zero-plus n = omega arith

pub parts_can_be_fed : PartsCanBeFed
parts_can_be_fed p u able = record {
  each = λ k f e.
      let r = found p u k f e in
      feed-of p u r.place f r.inside (r.is ∙ ap (λ (n : ℕ). feed_over (part_at p.parts r.place) (predicted_of p n)) (zero-plus p u r.place)) able;
}

pub parts_are_predicted : PartsArePredicted
parts_are_predicted p u = record {
  each = λ k f e.
      let r = found p u k f e in
      is-predicted p u r.place f r.inside (r.is ∙ ap (λ (n : ℕ). feed_over (part_at p.parts r.place) (predicted_of p n)) (zero-plus p u r.place));
  all = all-fed p u;
}
