-- One copy a link gives the process data of a frame.
use Rattle.std.proofs.Common.{ℕ, zero, suc, ◌+◌, ◌-◌, ◌*◌, ◌<◌, ◌≤◌, ◌≡◌, ◌⊎◌, ◌==◌, ◌&&◌, Bool, true, false, Option, Some, None, refl, sym, ◌∙◌, ap, subst, inl, inr, arith, List, [], ◌∷◌, length, get_or, if◌then◌else◌, option_map, unwrap_or}
use Rattle.std.specs.Option.{option_or}
use Rattle.std.specs.List.{AllByRecursion}
use Rattle.std.proofs.lemmas.Bool.{cases_Bool, cases_eq, and_parts, and_from, and_left, and_right, eq-eqb, ne_eqb, eqb-true}
use Rattle.ec_bits.specs.Bits.{bit, overlay, zeros, within, copied, run_updates}
use Rattle.ec_bits.proofs.Algebra.{overlay-overlay}
use Rattle.ec_bits.proofs.BitLaws.{overlay_alike, overlay_own}
use Rattle.ec_bits.proofs.AnyLaws.{if_true, if_false, within_parts, within_true}
use Rattle.ec_link.specs.declared.plan.Link.{Link}
use Rattle.ec_link.specs.Plan.{PlanState, part_at}
use Rattle.ec_link.specs.declared.settings.SlavePlan.{SlavePlan}
use Rattle.ec_link.specs.Meaning.{slave_at, no_slave, area_of, area_at, out_source}
use Rattle.ec_link.specs.Usable.{OutputsOnce, IsOutLink, IsUsable}
use Rattle.ec_cycle.specs.Frames.{image_bit, process_bytes}
use Rattle.ec_cycle.specs.Copies.{output_copied, outputs_copied}
use Rattle.ec_cycle.proofs.Copying.{or_none, area_inside}

-- the slave that has the logical bit decides its image bit
pub image_bit_is : (ls : List Link) (k j : ℕ) (ps : List SlavePlan) (l i o : ℕ) → i < length ps
    → (get_or ps i no_slave).share.part ≡ k → o < (get_or ps i no_slave).share.outs → l ≡ (area_of (get_or ps i no_slave)).out_at + o
    → ((u : ℕ) → u < i → within (area_of (get_or ps u no_slave)).out_at (get_or ps u no_slave).share.outs l ≡ false)
    → image_bit ls k j ps l ≡ out_source ls (j + i) o
image_bit_is ls k j [] l i o b part e here others = absurd (omega arith)
image_bit_is ls k j (p ∷ ps) l zero o b part e here others =
    let has : ((p.share.part == k) && within (area_of p).out_at p.share.outs l) ≡ true = and_from _ _ (eq-eqb _ _ part) (within_true (area_of p).out_at p.share.outs l (omega arith) (omega arith)) in
    let off : l - (area_of p).out_at ≡ o = omega arith in
    let z : j ≡ j + 0 = omega arith in
    if_true _ _ _ has ∙ (ap (out_source ls j) off ∙ ap (λ n. out_source ls n o) z)
image_bit_is ls k j (p ∷ ps) l (suc i) o b part e here others =
    let z : j + 1 + i ≡ j + suc i = omega arith in
    if_false _ _ _ (and_right (p.share.part == k) _ (others 0 (omega arith)))
    ∙ (image_bit_is ls k (j + 1) ps l i o (omega arith) part e here (λ u c. others (suc u) (omega arith)) ∙ ap (λ n. out_source ls n o) z)

-- a slave of the part has the logical bit, or none has
pub record Owner (k : ℕ) (ps : List SlavePlan) (l : ℕ) : Type 0 where
  pub place : ℕ
  pub there : place < length ps
  pub part : (get_or ps place no_slave).share.part ≡ k
  pub has : within (area_of (get_or ps place no_slave)).out_at (get_or ps place no_slave).share.outs l ≡ true

abbrev pub Nobody : ℕ → List SlavePlan → ℕ → Type 0
Nobody k ps l = (i : ℕ) → i < length ps → (get_or ps i no_slave).share.part ≡ k → within (area_of (get_or ps i no_slave)).out_at (get_or ps i no_slave).share.outs l ≡ false

owner : (k : ℕ) (ps : List SlavePlan) (l : ℕ) → Owner k ps l ⊎ Nobody k ps l
owner k [] l = inr (λ i b. absurd (omega arith))
owner k (p ∷ ps) l = elim (cases_Bool ((p.share.part == k) && within (area_of p).out_at p.share.outs l)) [
  | inl on ↦ let both = and_parts (p.share.part == k) (within (area_of p).out_at p.share.outs l) on in inl (record { place = 0; there = omega arith; part = eqb-true p.share.part k both.0; has = both.1 })
  | inr off ↦ elim (owner k ps l) [
    | inl o ↦ inl (record { place = suc o.place; there = let x = o.there in omega arith; part = o.part; has = o.has })
    | inr none ↦ inr (none_of off none)
  ]
]
  where
    none_of : ((p.share.part == k) && within (area_of p).out_at p.share.outs l) ≡ false → Nobody k ps l → Nobody k (p ∷ ps) l
    none_of off none zero b part = elim (cases_Bool (within (area_of p).out_at p.share.outs l)) [
      | inl w ↦ absurd (let z : false ≡ true = sym off ∙ and_from _ _ (eq-eqb _ _ part) w in cc)
      | inr n ↦ n
    ]
    none_of off none (suc i) b part = none i (omega arith) part

pub nobody_bit : (ls : List Link) (k j : ℕ) (ps : List SlavePlan) (l : ℕ) → Nobody k ps l → image_bit ls k j ps l ≡ None
nobody_bit ls k j [] l none = refl
nobody_bit ls k j (p ∷ ps) l none =
    let off : ((p.share.part == k) && within (area_of p).out_at p.share.outs l) ≡ false = elim (cases_eq p.share.part k) [
      | inl e ↦ and_right _ _ (none 0 (omega arith) e)
      | inr ne ↦ and_left _ _ (ne_eqb _ _ ne)
    ] in
    if_false _ _ _ off ∙ nobody_bit ls k (j + 1) ps l (λ i b e. none (suc i) (omega arith) e)

-- ---- what the links say

abbrev output_told : PlanState → ℕ → List ℕ → Link → ℕ → Option Bool
output_told p k image l i =
    if (slave_at p l.slave).share.part == k then run_updates ((area_at p l.slave).out_at + l.object_bit - 8 * (part_at p.parts k).address) image l.image l.count i else None

abbrev outputs_told : PlanState → ℕ → List ℕ → List Link → ℕ → Option Bool
outputs_told p k image [] i = None
outputs_told p k image (l ∷ ls) i = option_or (outputs_told p k image ls i) (output_told p k image l i)

one_placed : (p : PlanState) (k : ℕ) (image : List ℕ) (l : Link) (bytes : List ℕ) → output_copied p k image l bytes ≡ overlay bytes (output_told p k image l)
one_placed p k image l bytes = go ((slave_at p l.slave).share.part == k)
  where
    go : (c : Bool) → (if c then copied bytes ((area_at p l.slave).out_at + l.object_bit - 8 * (part_at p.parts k).address) image l.image l.count else bytes)
        ≡ overlay bytes (λ i. if c then run_updates ((area_at p l.slave).out_at + l.object_bit - 8 * (part_at p.parts k).address) image l.image l.count i else None)
    go true = refl
    go false = sym (overlay_own bytes (λ i. None) (λ i l. refl))

all_placed : (p : PlanState) (k : ℕ) (image : List ℕ) (ls : List Link) (bytes : List ℕ) → outputs_copied p k image ls bytes ≡ overlay bytes (outputs_told p k image ls)
all_placed p k image [] bytes = sym (overlay_own bytes (λ i. None) (λ i l. refl))
all_placed p k image (l ∷ ls) bytes =
    ap (outputs_copied p k image ls) (one_placed p k image l bytes)
    ∙ (all_placed p k image ls (overlay bytes (output_told p k image l)) ∙ overlay-overlay bytes (output_told p k image l) (outputs_told p k image ls))

module _ (p : PlanState) (k : ℕ) (image : List ℕ) (sound : IsUsable p) where
  abbrev base : ℕ
  base = 8 * (part_at p.parts k).address

  -- slaves of the part begin in its bytes
  begins : (t : ℕ) → t < length p.slaves → (slave_at p t).share.part ≡ k → base ≤ (area_at p t).out_at
  begins t b e = subst (λ (n : ℕ). 8 * (part_at p.parts n).address ≤ (area_at p t).out_at) e (area_inside p t sound b).out_from

  -- what a link says lies in its slave's area
  in_area : (l : Link) (i : ℕ) → IsOutLink p l → (slave_at p l.slave).share.part ≡ k → within ((area_at p l.slave).out_at + l.object_bit - base) l.count i ≡ true
      → (o : ℕ) × (base + i ≡ (area_at p l.slave).out_at + o) × (o < (slave_at p l.slave).share.outs) × (within l.object_bit l.count o ≡ true) × (i - ((area_at p l.slave).out_at + l.object_bit - base) ≡ o - l.object_bit)
  in_area l i inside part w =
      let both = within_parts ((area_at p l.slave).out_at + l.object_bit - base) l.count i w in
      let from = begins l.slave inside.slave part in
      let o = base + i - (area_at p l.slave).out_at in
      let end = inside.bits in
      let x = both.0 in
      let y = both.1 in
      (o, omega arith, omega arith, within_true l.object_bit l.count o (omega arith) (omega arith), omega arith)

  -- a bit that slave t has
  told_at : (ls : List Link) (t o i : ℕ) → OutputsOnce ls → AllByRecursion (IsOutLink p) ls → t < length p.slaves → (slave_at p t).share.part ≡ k → o < (slave_at p t).share.outs → base + i ≡ (area_at p t).out_at + o
      → outputs_told p k image ls i ≡ option_map (bit image) (out_source ls t o)
  told_at [] t o i once all b part e here = refl
  told_at (l ∷ ls) t o i once all b part e here =
      let later = told_at ls t o i once.1 all.1 b part e here in
      let to = (area_at p l.slave).out_at + l.object_bit - base in
      elim (cases_Bool ((l.slave == t) && within l.object_bit l.count o)) as (λ _. outputs_told p k image (l ∷ ls) i ≡ option_map (bit image) (out_source (l ∷ ls) t o)) [
        | inl on ↦
            let both = and_parts (l.slave == t) (within l.object_bit l.count o) on in
            let same : l.slave ≡ t = eqb-true l.slave t both.0 in
            let mine : (slave_at p l.slave).share.part ≡ k = ap (λ s. (slave_at p s).share.part) same ∙ part in
            let at : (area_at p l.slave).out_at ≡ (area_at p t).out_at = ap (λ s. (area_at p s).out_at) same in
            let span = within_parts l.object_bit l.count o both.1 in
            let from = begins t b part in
            let w : within to l.count i ≡ true = let x = span.0 in let y = span.1 in within_true to l.count i (omega arith) (omega arith) in
            let place : l.image + (i - to) ≡ l.image + (o - l.object_bit) = let x = span.0 in omega arith in
            let none : outputs_told p k image ls i ≡ None = later ∙ ap (option_map (bit image)) (once.0 t o on) in
            ap (λ x. option_or x (output_told p k image l i)) none
            ∙ (if_true _ _ _ (eq-eqb _ _ mine) ∙ (if_true _ _ _ w ∙ (ap (λ j. Some (bit image j)) place
            ∙ sym (ap (option_map (bit image)) (if_true ((l.slave == t) && within l.object_bit l.count o) (Some (l.image + (o - l.object_bit))) (out_source ls t o) on)))))
        | inr off ↦
            let nothing : output_told p k image l i ≡ None = elim (cases_eq (slave_at p l.slave).share.part k) as (λ _. output_told p k image l i ≡ None) [
              | inr ne ↦ if_false _ _ _ (ne_eqb _ _ ne)
              | inl mine ↦ if_true _ _ _ (eq-eqb _ _ mine) ∙ elim (cases_Bool (within to l.count i)) as (λ _. run_updates to image l.image l.count i ≡ None) [
                | inr n ↦ if_false _ _ _ n
                | inl w ↦
                    let own = in_area l i all.0 mine w in
                    elim (cases_eq l.slave t) [
                      | inl same ↦
                          let at : (area_at p l.slave).out_at ≡ (area_at p t).out_at = ap (λ s. (area_at p s).out_at) same in
                          let z : own.0 ≡ o = let x = own.1 in omega arith in
                          absurd (let f : false ≡ true = sym off ∙ and_from _ _ (eq-eqb _ _ same) (subst (λ (n : ℕ). within l.object_bit l.count n ≡ true) z own.3) in cc)
                      | inr ne ↦ absurd (sound.laid.out_out l.slave t own.0 o ne own.2 e (sym own.1 ∙ here))
                    ]
              ]
            ] in
            ap (option_or (outputs_told p k image ls i)) nothing
            ∙ (or_none (outputs_told p k image ls i) ∙ (later
            ∙ sym (ap (option_map (bit image)) (if_false ((l.slave == t) && within l.object_bit l.count o) (Some (l.image + (o - l.object_bit))) (out_source ls t o) off))))
      ]

  -- a bit that nobody has
  told_none : (ls : List Link) (i : ℕ) → AllByRecursion (IsOutLink p) ls → Nobody k p.slaves (base + i) → outputs_told p k image ls i ≡ None
  told_none [] i all none = refl
  told_none (l ∷ ls) i all none =
      let to = (area_at p l.slave).out_at + l.object_bit - base in
      let nothing : output_told p k image l i ≡ None = elim (cases_eq (slave_at p l.slave).share.part k) as (λ _. output_told p k image l i ≡ None) [
        | inr ne ↦ if_false _ _ _ (ne_eqb _ _ ne)
        | inl mine ↦ if_true _ _ _ (eq-eqb _ _ mine) ∙ elim (cases_Bool (within to l.count i)) as (λ _. run_updates to image l.image l.count i ≡ None) [
          | inr n ↦ if_false _ _ _ n
          | inl w ↦
              let own = in_area l i all.0 mine w in
              let x = own.1 in
              let y = own.2 in
              absurd (let f : false ≡ true = sym (none l.slave all.0.slave mine) ∙ within_true (area_at p l.slave).out_at (slave_at p l.slave).share.outs (base + i) (omega arith) (omega arith) in cc)
        ]
      ] in
      ap (option_or (outputs_told p k image ls i)) nothing ∙ (or_none (outputs_told p k image ls i) ∙ told_none ls i all.1 none)

  told_is : (i : ℕ) → OutputsOnce p.out_links → AllByRecursion (IsOutLink p) p.out_links → outputs_told p k image p.out_links i ≡ option_map (bit image) (image_bit p.out_links k 0 p.slaves (base + i))
  told_is i once all = elim (owner k p.slaves (base + i)) as (λ _. outputs_told p k image p.out_links i ≡ option_map (bit image) (image_bit p.out_links k 0 p.slaves (base + i))) [
    | inr none ↦ told_none p.out_links i all none ∙ sym (ap (option_map (bit image)) (nobody_bit p.out_links k 0 p.slaves (base + i) none))
    | inl own ↦
        let t = own.place in
        let span = within_parts (area_at p t).out_at (slave_at p t).share.outs (base + i) own.has in
        let o = base + i - (area_at p t).out_at in
        let x = span.0 in
        let y = span.1 in
        let here : base + i ≡ (area_at p t).out_at + o = omega arith in
        let less : o < (slave_at p t).share.outs = omega arith in
        let z : 0 + t ≡ t = omega arith in
        told_at p.out_links t o i once all own.there own.part less here
        ∙ sym (ap (option_map (bit image)) (image_bit_is p.out_links k 0 p.slaves (base + i) t o own.there own.part less here
        (λ u l. elim (cases_Bool (within (area_at p u).out_at (slave_at p u).share.outs (base + i))) [
          | inr n ↦ n
          | inl w ↦ let s = within_parts (area_at p u).out_at (slave_at p u).share.outs (base + i) w in
              let v = s.0 in let q = s.1 in
              absurd (sound.laid.out_out u t (base + i - (area_at p u).out_at) o (omega arith) (omega arith) less (omega arith))
        ])
        ∙ ap (λ n. out_source p.out_links n o) z))
  ]

  -- the process data of a frame, link after link
  pub process_by_links : outputs_copied p k image p.out_links (zeros (part_at p.parts k).bytes) ≡ process_bytes p k image
  process_by_links =
      all_placed p k image p.out_links (zeros (part_at p.parts k).bytes)
      ∙ overlay_alike (zeros (part_at p.parts k).bytes) _ _ (λ i l. ap (λ o. unwrap_or o (bit (zeros (part_at p.parts k).bytes) i)) (told_is i sound.outs_once sound.out_links))

  -- and the same over the process data for another image: what isn't linked is 0 there too
  pub process_again : (was : List ℕ) → outputs_copied p k image p.out_links (process_bytes p k was) ≡ process_bytes p k image
  process_again was =
      let blank : List ℕ = zeros (part_at p.parts k).bytes in
      let source : ℕ → Option ℕ = λ i. image_bit p.out_links k 0 p.slaves (base + i) in
      all_placed p k image p.out_links (process_bytes p k was)
      ∙ (overlay-overlay blank (λ i. option_map (bit was) (source i)) (outputs_told p k image p.out_links)
      ∙ overlay_alike blank _ _ (λ i l. ap (λ (o : Option Bool). unwrap_or (option_or o (option_map (bit was) (source i))) (bit blank i)) (told_is i sound.outs_once sound.out_links)
      ∙ first (source i) (bit blank i)))
    where
      first : (o : Option ℕ) (b : Bool) → unwrap_or (option_or (option_map (bit image) o) (option_map (bit was) o)) b ≡ unwrap_or (option_map (bit image) o) b
      first None b = refl
      first (Some j) b = refl
