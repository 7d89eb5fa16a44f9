-- Copies run after run, and where the runs lie.
use Rattle.std.proofs.Common.{ℕ, zero, suc, ◌+◌, ◌-◌, ◌*◌, ◌^◌, ◌<◌, ◌≤◌, ◌≡◌, ◌==◌, ◌&&◌, nat_lt, Bool, true, false, Option, Some, None, refl, sym, ◌∙◌, ap, subst, inl, inr, arith, List, [], ◌∷◌, length, map, filter, get_or, take, drop, slice_get, ◌++◌, append-nil, if◌then◌else◌}
use Rattle.std.specs.List.{AllByRecursion}
use Rattle.std.proofs.lemmas.Bool.{cases_lt, eq-eqb, eqb-true, and_parts}
use Rattle.std.proofs.lemmas.List.{drop_more, drop_all, length-replicate, take_more, take_all, map-append, get_or_past}
use Rattle.std.proofs.lemmas.List.Elements.{filter-append}
use Rattle.std.proofs.lemmas.Option.{get_or_from_slice_get}
use Rattle.ec_bits.specs.Bits.{zeros, copied, bytes_of_bits}
use Rattle.ec_bits.proofs.AnyLaws.{if_true}
use Rattle.ec_bits.proofs.Copies.{copied_more}
use Rattle.ec_link.specs.declared.plan.Link.{Link}
use Rattle.ec_link.specs.Plan.{PlanState, part_at}
use Rattle.ec_link.specs.declared.plan.PartPlan.{PartPlan}
use Rattle.ec_link.specs.declared.settings.SlavePlan.{SlavePlan}
use Rattle.ec_link.specs.Meaning.{no_slave, slave_at, area_at}
use Rattle.ec_link.specs.Usable.{IsUsable, IsOutLink, IsInLink}
use Rattle.ec_cycle.specs.declared.run.BitRun.{BitRun}
use Rattle.ec_cycle.specs.declared.run.InputRun.{InputRun}
use Rattle.ec_cycle.specs.Closing.{ReturnedPart, all_from, is_good, unit_taken, bytes_of, part_of_slave, inputs_closed}
use Rattle.ec_cycle.specs.Copies.{output_run, run_copied, runs_copied, outputs_copied, is_of_part, part_runs, FitsRun, input_run, input_copied, inputs_copied, adjoin, both, inputs_adjoin, both_inputs, merged, merged_from, output_runs, input_runs}
use Rattle.ec_cycle.specs.Frames.{process_bytes}
use Rattle.ec_cycle.proofs.Copying.{area_inside, inputs_by_links}
use Rattle.ec_cycle.proofs.AnswersFrame.{length-process_bytes}
use Rattle.ec_cycle.proofs.OutputBits.{process_by_links, process_again}

-- run after run of those whose unit is taken
abbrev pub input_taken : PlanState → List (Option ReturnedPart) → InputRun → List ℕ → List ℕ
input_taken p kept r image = if unit_taken p kept r.unit then run_copied (bytes_of (get_or kept r.part None)) r.run image else image

abbrev pub inputs_taken : PlanState → List (Option ReturnedPart) → List InputRun → List ℕ → List ℕ
inputs_taken p kept [] image = image
inputs_taken p kept (r ∷ rs) image = inputs_taken p kept rs (input_taken p kept r image)

-- such a run lies inside what was brought and inside the image
abbrev FitsInput : PlanState → List (Option ReturnedPart) → ℕ → InputRun → Type 0
FitsInput p kept bytes r = unit_taken p kept r.unit ≡ true → (r.part < length kept) × FitsRun bytes (length (bytes_of (get_or kept r.part None))) r.run

-- ---- a loop over runs

pub copy_more : (src : List ℕ) (runs : List BitRun) (i : ℕ) (r : BitRun) (dst new whole : List ℕ) → i < length runs → r ≡ get_or runs i r → new ≡ copied dst r.to src r.from r.count
    → runs_copied src (drop i runs) dst ≡ whole → runs_copied src (drop (i + 1) runs) new ≡ whole
copy_more src runs i r dst new whole l at e h =
    let cut : drop i runs ≡ r ∷ drop (i + 1) runs = drop_more runs i r l ∙ ap (λ x. x ∷ drop (i + 1) runs) (sym at) in
    ap (runs_copied src (drop (i + 1) runs)) e ∙ (sym (ap (λ rs. runs_copied src rs dst) cut) ∙ h)

pub copy_all : (src : List ℕ) (runs : List BitRun) (i : ℕ) (dst whole : List ℕ) → length runs ≤ i → runs_copied src (drop i runs) dst ≡ whole → dst ≡ whole
copy_all src runs i dst whole l h = sym (ap (λ rs. runs_copied src rs dst) (drop_all i runs l)) ∙ h

pub ruleset copy_steps = (copy_more, copy_all)

-- ---- the runs of a part

pub runs_by_links : (p : PlanState) (k : ℕ) (image : List ℕ) (ls : List Link) (dst : List ℕ) → runs_copied image (map (output_run p k) (filter (is_of_part p k) ls)) dst ≡ outputs_copied p k image ls dst
runs_by_links p k image [] dst = refl
runs_by_links p k image (l ∷ ls) dst = go (is_of_part p k l) (runs_by_links p k image ls)
  where
    go : (b : Bool) → ((d : List ℕ) → runs_copied image (map (output_run p k) (filter (is_of_part p k) ls)) d ≡ outputs_copied p k image ls d)
        → runs_copied image (map (output_run p k) (if b then l ∷ filter (is_of_part p k) ls else filter (is_of_part p k) ls)) dst ≡ outputs_copied p k image ls (if b then run_copied image (output_run p k l) dst else dst)
    go true h = h (run_copied image (output_run p k l) dst)
    go false h = h dst

-- ---- runs that adjoin

parts_of : (r n : BitRun) → adjoin r n ≡ true → (r.to + r.count ≡ n.to) × (r.from + r.count ≡ n.from)
parts_of r n h =
    let a = and_parts (r.to + r.count == n.to) ((r.from + r.count == n.from) && nat_lt (r.count + n.count) (2 ^ 64)) h in
    let b = and_parts (r.from + r.count == n.from) (nat_lt (r.count + n.count) (2 ^ 64)) a.1 in
    (eqb-true (r.to + r.count) n.to a.0, eqb-true (r.from + r.count) n.from b.0)

-- both in one copy what one after the other does
both_copied : (src : List ℕ) (r n : BitRun) (dst : List ℕ) → adjoin r n ≡ true → run_copied src (both r n) dst ≡ run_copied src n (run_copied src r dst)
both_copied src r n dst h =
    let e = parts_of r n h in
    sym (copied_more dst r.to src r.from r.count n.count)
    ∙ (ap (λ (to : ℕ). copied (run_copied src r dst) to src (r.from + r.count) n.count) e.0
    ∙ ap (λ (from : ℕ). copied (run_copied src r dst) n.to src from n.count) e.1)

both_fit : (a b : ℕ) (r n : BitRun) → adjoin r n ≡ true → FitsRun a b r → FitsRun a b n → FitsRun a b (both r n)
both_fit a b r n h x y =
    let e = parts_of r n h in
    let e0 = e.0 in
    let e1 = e.1 in
    let y0 = y.inside in
    let y1 = y.there in
    let y2 = y.to_fits in
    let y3 = y.from_fits in
    record { inside = omega arith; there = omega arith; to_fits = omega arith; from_fits = omega arith }

merged_copied_from : (src : List ℕ) (r : BitRun) (rs : List BitRun) (dst : List ℕ) → runs_copied src (merged_from adjoin both r rs) dst ≡ runs_copied src rs (run_copied src r dst)
merged_copied_from src r [] dst = refl
merged_copied_from src r (n ∷ rs) dst = go (λ x d. merged_copied_from src x rs d) (adjoin r n) refl
  where
    go : ((x : BitRun) (d : List ℕ) → runs_copied src (merged_from adjoin both x rs) d ≡ runs_copied src rs (run_copied src x d)) → (b : Bool) → adjoin r n ≡ b → runs_copied src (if b then merged_from adjoin both (both r n) rs else r ∷ merged_from adjoin both n rs) dst ≡ runs_copied src rs (run_copied src n (run_copied src r dst))
    go f true h = f (both r n) dst ∙ ap (runs_copied src rs) (both_copied src r n dst h)
    go f false h = f n (run_copied src r dst)

merged_copied : (src : List ℕ) (rs : List BitRun) (dst : List ℕ) → runs_copied src (merged adjoin both rs) dst ≡ runs_copied src rs dst
merged_copied src [] dst = refl
merged_copied src (r ∷ rs) dst = merged_copied_from src r rs dst

merged_fit_from : (a b : ℕ) (r : BitRun) (rs : List BitRun) → FitsRun a b r → AllByRecursion (FitsRun a b) rs → AllByRecursion (FitsRun a b) (merged_from adjoin both r rs)
merged_fit_from a b r [] x all = (x, tt)
merged_fit_from a b r (n ∷ rs) x all = go (λ y f. merged_fit_from a b y rs f all.1) (adjoin r n) refl
  where
    go : ((y : BitRun) → FitsRun a b y → AllByRecursion (FitsRun a b) (merged_from adjoin both y rs)) → (c : Bool) → adjoin r n ≡ c → AllByRecursion (FitsRun a b) (if c then merged_from adjoin both (both r n) rs else r ∷ merged_from adjoin both n rs)
    go f true h = f (both r n) (both_fit a b r n h x all.0)
    go f false h = (x, f n all.0)

merged_fit : (a b : ℕ) (rs : List BitRun) → AllByRecursion (FitsRun a b) rs → AllByRecursion (FitsRun a b) (merged adjoin both rs)
merged_fit a b [] all = tt
merged_fit a b (r ∷ rs) all = merged_fit_from a b r rs all.0 all.1

pub filled : (p : PlanState) (k : ℕ) (image : List ℕ) (runs : List BitRun) (blank new : List ℕ) → IsUsable p → runs ≡ output_runs p k → blank ≡ zeros (part_at p.parts k).bytes → new ≡ runs_copied image runs blank → new ≡ process_bytes p k image
filled p k image runs blank new usable r b e =
    e ∙ (ap (λ rs. runs_copied image rs blank) r ∙ (merged_copied image (part_runs p k) blank ∙ (ap (runs_copied image (part_runs p k)) b ∙ (runs_by_links p k image p.out_links (zeros (part_at p.parts k).bytes) ∙ process_by_links p k image usable))))

-- over the process data for another image
pub refreshed : (p : PlanState) (k : ℕ) (image : List ℕ) (runs : List BitRun) (old new : List ℕ) → IsUsable p → runs ≡ output_runs p k → (was : List ℕ) × (old ≡ process_bytes p k was) → new ≡ runs_copied image runs old → new ≡ process_bytes p k image
refreshed p k image runs old new usable r b e =
    e ∙ (ap (λ rs. runs_copied image rs old) r ∙ (merged_copied image (part_runs p k) old ∙ (ap (runs_copied image (part_runs p k)) b.1 ∙ (runs_by_links p k image p.out_links (process_bytes p k b.0) ∙ process_again p k image usable b.0))))

pub few_of : (p : PlanState) (k : ℕ) → IsUsable p → (part_at p.parts k).bytes ≤ 1422
few_of p k usable = go (part_at p.parts k).split (usable.few_bytes k)
  where
    go : (b : Bool) → (if b then 2 * (part_at p.parts k).bytes + 12 else (part_at p.parts k).bytes) ≤ 1422 → (part_at p.parts k).bytes ≤ 1422
    go true h = omega (arith, h)
    go false h = h

link_fits : (p : PlanState) (k bytes image : ℕ) (l : Link) → IsUsable p → bytes ≡ (part_at p.parts k).bytes → image ≡ bytes_of_bits p.out_bits → p.out_bits < 2 ^ 64 → IsOutLink p l → is_of_part p k l ≡ true → FitsRun bytes image (output_run p k l)
link_fits p k bytes image l usable size room few inside here =
    let part : part_of_slave p l.slave ≡ k = eqb-true (part_of_slave p l.slave) k here in
    let span = area_inside p l.slave usable inside.slave in
    let from : 8 * (part_at p.parts k).address ≤ (area_at p l.slave).out_at = subst (λ (n : ℕ). 8 * (part_at p.parts n).address ≤ (area_at p l.slave).out_at) part span.out_from in
    let to : (area_at p l.slave).out_at + (slave_at p l.slave).share.outs ≤ 8 * (part_at p.parts k).address + 8 * (part_at p.parts k).bytes = subst (λ (n : ℕ). (area_at p l.slave).out_at + (slave_at p l.slave).share.outs ≤ 8 * (part_at p.parts n).address + 8 * (part_at p.parts n).bytes) part span.out_to in
    let bits = inside.bits in
    let end = inside.image in
    let small = few_of p k usable in
    record { inside = omega arith; there = omega arith; to_fits = omega arith; from_fits = omega arith }

links_fit : (p : PlanState) (k bytes image : ℕ) (ls : List Link) → IsUsable p → bytes ≡ (part_at p.parts k).bytes → image ≡ bytes_of_bits p.out_bits → p.out_bits < 2 ^ 64 → AllByRecursion (IsOutLink p) ls → AllByRecursion (FitsRun bytes image) (map (output_run p k) (filter (is_of_part p k) ls))
links_fit p k bytes image [] usable size room few all = tt
links_fit p k bytes image (l ∷ ls) usable size room few all = go (is_of_part p k l) (λ e. link_fits p k bytes image l usable size room few all.0 e) (links_fit p k bytes image ls usable size room few all.1)
  where
    go : (b : Bool) → (b ≡ true → FitsRun bytes image (output_run p k l)) → AllByRecursion (FitsRun bytes image) (map (output_run p k) (filter (is_of_part p k) ls))
        → AllByRecursion (FitsRun bytes image) (map (output_run p k) (if b then l ∷ filter (is_of_part p k) ls else filter (is_of_part p k) ls))
    go true f h = (f refl, h)
    go false f h = h

pub runs_fit : (p : PlanState) (k : ℕ) (runs : List BitRun) (sent image : List ℕ) → IsUsable p → runs ≡ output_runs p k → sent ≡ zeros (part_at p.parts k).bytes → length image ≡ bytes_of_bits p.out_bits → p.out_bits < 2 ^ 64 → AllByRecursion (FitsRun (length sent) (length image)) runs
runs_fit p k runs sent image usable r blank room few =
    subst (λ rs. AllByRecursion (FitsRun (length sent) (length image)) rs) (sym r)
    (merged_fit (length sent) (length image) (part_runs p k)
    (links_fit p k (length sent) (length image) p.out_links usable (ap length blank ∙ length-replicate (part_at p.parts k).bytes 0) room few usable.out_links))

pub runs_fit_again : (p : PlanState) (k : ℕ) (runs : List BitRun) (old image : List ℕ) → IsUsable p → runs ≡ output_runs p k → (was : List ℕ) × (old ≡ process_bytes p k was) → length image ≡ bytes_of_bits p.out_bits → p.out_bits < 2 ^ 64 → AllByRecursion (FitsRun (length old) (length image)) runs
runs_fit_again p k runs old image usable r made room few =
    subst (λ rs. AllByRecursion (FitsRun (length old) (length image)) rs) (sym r)
    (merged_fit (length old) (length image) (part_runs p k)
    (links_fit p k (length old) (length image) p.out_links usable (ap length made.1 ∙ length-process_bytes p k made.0) room few usable.out_links))

pub ruleset fill_steps = (filled, runs_fit)

pub ruleset refresh_steps = (refreshed, runs_fit_again)

pub take_zeros : (n m : ℕ) → n ≤ m → take n (zeros m) ≡ zeros n
take_zeros zero m l = refl
take_zeros (suc n) zero l = absurd (omega arith)
take_zeros (suc n) (suc m) l = ap (λ (xs : List ℕ). 0 ∷ xs) (take_zeros n m (omega arith))

-- the links of a part, one link more
filter_pushed : (p : PlanState) (k : ℕ) (ls : List Link) (i : ℕ) (l : Link) → i < length ls → l ≡ get_or ls i l
    → map (output_run p k) (filter (is_of_part p k) (take (i + 1) ls)) ≡ map (output_run p k) (filter (is_of_part p k) (take i ls)) ++ map (output_run p k) (filter (is_of_part p k) (l ∷ []))
filter_pushed p k ls i l b at =
    let more : take (i + 1) ls ≡ take i ls ++ l ∷ [] = take_more ls i l b ∙ ap (λ (x : Link). take i ls ++ x ∷ []) (sym at) in
    ap (λ (xs : List Link). map (output_run p k) (filter (is_of_part p k) xs)) more
    ∙ (ap (map (output_run p k)) (filter-append (is_of_part p k) (take i ls) (l ∷ [])) ∙ map-append (output_run p k) (filter (is_of_part p k) (take i ls)) (filter (is_of_part p k) (l ∷ [])))

pub filter_more : (p : PlanState) (k : ℕ) (ls : List Link) (i : ℕ) (l : Link) (old new : List BitRun) (r : BitRun) → i < length ls → l ≡ get_or ls i l → is_of_part p k l ≡ true
    → old ≡ map (output_run p k) (filter (is_of_part p k) (take i ls)) → r ≡ output_run p k l → new ≡ old ++ r ∷ [] → new ≡ map (output_run p k) (filter (is_of_part p k) (take (i + 1) ls))
filter_more p k ls i l old new r b at own h e n =
    n ∙ (ap (λ (xs : List BitRun). xs ++ r ∷ []) h ∙ (ap (λ (x : BitRun). map (output_run p k) (filter (is_of_part p k) (take i ls)) ++ x ∷ []) e
    ∙ sym (filter_pushed p k ls i l b at ∙ ap (λ (c : Bool). map (output_run p k) (filter (is_of_part p k) (take i ls)) ++ map (output_run p k) (if c then l ∷ [] else [])) own)))

pub filter_same : (p : PlanState) (k : ℕ) (ls : List Link) (i : ℕ) (l : Link) (old : List BitRun) → i < length ls → l ≡ get_or ls i l → is_of_part p k l ≡ false
    → old ≡ map (output_run p k) (filter (is_of_part p k) (take i ls)) → old ≡ map (output_run p k) (filter (is_of_part p k) (take (i + 1) ls))
filter_same p k ls i l old b at other h =
    h ∙ sym (filter_pushed p k ls i l b at ∙ (ap (λ (c : Bool). map (output_run p k) (filter (is_of_part p k) (take i ls)) ++ map (output_run p k) (if c then l ∷ [] else [])) other ∙ append-nil (map (output_run p k) (filter (is_of_part p k) (take i ls)))))

pub filter_all : (p : PlanState) (k i : ℕ) (old : List BitRun) → length p.out_links ≤ i → old ≡ map (output_run p k) (filter (is_of_part p k) (take i p.out_links)) → old ≡ part_runs p k
filter_all p k i old l h = h ∙ ap (λ (xs : List Link). map (output_run p k) (filter (is_of_part p k) xs)) (take_all i p.out_links l)

pub ruleset filter_steps = (filter_more, filter_same, filter_all)

-- ---- inputs

abbrev pub no_input : InputRun
no_input = record { part = 0; unit = 0; run = record { to = 0; from = 0; count = 0 } }

-- what the truth values say of a run's unit
pub is_on : (p : PlanState) (kept : List (Option ReturnedPart)) (taken : List Bool) (u : ℕ) → length taken ≡ 256 → ((v : ℕ) → v < 256 → get_or taken v false ≡ unit_taken p kept v) → get_or taken u false ≡ true → unit_taken p kept u ≡ true
is_on p kept taken u size each on = elim (cases_lt u 256) [
  | inl l ↦ sym (each u l) ∙ on
  | inr far ↦ absurd (let e = get_or_past taken u false (omega arith) in let f : false ≡ true = sym e ∙ on in cc)
]

pub input_more : (p : PlanState) (kept : List (Option ReturnedPart)) (runs : List InputRun) (i : ℕ) (r : InputRun) (dst new whole : List ℕ) → i < length runs → r ≡ get_or runs i r
    → new ≡ input_taken p kept r dst
    → inputs_taken p kept (drop i runs) dst ≡ whole → inputs_taken p kept (drop (i + 1) runs) new ≡ whole
input_more p kept runs i r dst new whole l at e h =
    let cut : drop i runs ≡ r ∷ drop (i + 1) runs = drop_more runs i r l ∙ ap (λ x. x ∷ drop (i + 1) runs) (sym at) in
    ap (inputs_taken p kept (drop (i + 1) runs)) e ∙ (sym (ap (λ rs. inputs_taken p kept rs dst) cut) ∙ h)

-- the runs of the links, one by one
taken_by_links : (p : PlanState) (kept : List (Option ReturnedPart)) (ls : List Link) (image : List ℕ) → inputs_taken p kept (map (input_run p) ls) image ≡ inputs_copied p kept ls image
taken_by_links p kept [] image = refl
taken_by_links p kept (l ∷ ls) image = taken_by_links p kept ls (input_copied p kept l image)

input_parts : (r n : InputRun) → inputs_adjoin r n ≡ true → (r.part ≡ n.part) × (r.unit ≡ n.unit) × (adjoin r.run n.run ≡ true)
input_parts r n h =
    let a = and_parts (r.part == n.part) ((r.unit == n.unit) && adjoin r.run n.run) h in
    let b = and_parts (r.unit == n.unit) (adjoin r.run n.run) a.1 in
    (eqb-true r.part n.part a.0, eqb-true r.unit n.unit b.0, b.1)

both_taken : (p : PlanState) (kept : List (Option ReturnedPart)) (r n : InputRun) (image : List ℕ) → inputs_adjoin r n ≡ true → input_taken p kept (both_inputs r n) image ≡ input_taken p kept n (input_taken p kept r image)
both_taken p kept r n image h =
    let e = input_parts r n h in
    go (unit_taken p kept r.unit)
    ∙ (ap (λ (k : ℕ). if unit_taken p kept r.unit then run_copied (bytes_of (get_or kept k None)) n.run (input_taken p kept r image) else input_taken p kept r image) e.0
    ∙ ap (λ (u : ℕ). if unit_taken p kept u then run_copied (bytes_of (get_or kept n.part None)) n.run (input_taken p kept r image) else input_taken p kept r image) e.1)
  where
    go : (b : Bool) → (if b then run_copied (bytes_of (get_or kept r.part None)) (both r.run n.run) image else image)
        ≡ (if b then run_copied (bytes_of (get_or kept r.part None)) n.run (if b then run_copied (bytes_of (get_or kept r.part None)) r.run image else image) else (if b then run_copied (bytes_of (get_or kept r.part None)) r.run image else image))
    go true = both_copied (bytes_of (get_or kept r.part None)) r.run n.run image (input_parts r n h).2
    go false = refl

merged_taken_from : (p : PlanState) (kept : List (Option ReturnedPart)) (r : InputRun) (rs : List InputRun) (image : List ℕ) → inputs_taken p kept (merged_from inputs_adjoin both_inputs r rs) image ≡ inputs_taken p kept rs (input_taken p kept r image)
merged_taken_from p kept r [] image = refl
merged_taken_from p kept r (n ∷ rs) image = go (λ x d. merged_taken_from p kept x rs d) (inputs_adjoin r n) refl
  where
    go : ((x : InputRun) (d : List ℕ) → inputs_taken p kept (merged_from inputs_adjoin both_inputs x rs) d ≡ inputs_taken p kept rs (input_taken p kept x d)) → (b : Bool) → inputs_adjoin r n ≡ b → inputs_taken p kept (if b then merged_from inputs_adjoin both_inputs (both_inputs r n) rs else r ∷ merged_from inputs_adjoin both_inputs n rs) image ≡ inputs_taken p kept rs (input_taken p kept n (input_taken p kept r image))
    go f true h = f (both_inputs r n) image ∙ ap (inputs_taken p kept rs) (both_taken p kept r n image h)
    go f false h = f n (input_taken p kept r image)

merged_taken : (p : PlanState) (kept : List (Option ReturnedPart)) (rs : List InputRun) (image : List ℕ) → inputs_taken p kept (merged inputs_adjoin both_inputs rs) image ≡ inputs_taken p kept rs image
merged_taken p kept [] image = refl
merged_taken p kept (r ∷ rs) image = merged_taken_from p kept r rs image

pub input_all : (p : PlanState) (kept : List (Option ReturnedPart)) (runs : List InputRun) (i : ℕ) (dst image : List ℕ) → IsUsable p → runs ≡ input_runs p → length runs ≤ i
    → inputs_taken p kept (drop i runs) dst ≡ inputs_taken p kept runs image → dst ≡ inputs_closed p kept image
input_all p kept runs i dst image usable is l h =
    sym (ap (λ rs. inputs_taken p kept rs dst) (drop_all i runs l))
    ∙ (h ∙ (ap (λ rs. inputs_taken p kept rs image) is ∙ (merged_taken p kept (map (input_run p) p.in_links) image
    ∙ (taken_by_links p kept p.in_links image ∙ inputs_by_links p kept image usable))))

-- a part of a unit that is taken was kept
all_from_at : (f : ℕ → Option ReturnedPart → Bool) (k : ℕ) (os : List (Option ReturnedPart)) (i : ℕ) → i < length os → all_from f k os ≡ true → f (k + i) (get_or os i None) ≡ true
all_from_at f k [] i l h = absurd (omega arith)
all_from_at f k (o ∷ os) zero l h = let z : k + 0 ≡ k = omega arith in ap (λ (j : ℕ). f j o) z ∙ (and_parts (f k o) (all_from f (k + 1) os) h).0
all_from_at f k (o ∷ os) (suc i) l h = let s : k + suc i ≡ k + 1 + i = omega arith in ap (λ (j : ℕ). f j (get_or os i None)) s ∙ all_from_at f (k + 1) os i (omega arith) (and_parts (f k o) (all_from f (k + 1) os) h).1

pub taken_is_kept : (p : PlanState) (kept : List (Option ReturnedPart)) (k : ℕ) → k < length kept → unit_taken p kept (part_at p.parts k).unit ≡ true → (q : ReturnedPart) × (get_or kept k None ≡ Some q)
taken_is_kept p kept k l h = some (get_or kept k None) (sym (if_true ((part_at p.parts k).unit == (part_at p.parts k).unit) (is_good p k (get_or kept k None)) true (eq-eqb _ _ refl)) ∙ here)
  where
    unit : ℕ
    unit = (part_at p.parts k).unit

    here : (if (part_at p.parts k).unit == (part_at p.parts k).unit then is_good p k (get_or kept k None) else true) ≡ true
    here =
        let z : 0 + k ≡ k = omega arith in
        ap (λ (j : ℕ). if (part_at p.parts j).unit == (part_at p.parts k).unit then is_good p j (get_or kept k None) else true) (sym z)
        ∙ all_from_at (λ j q. if (part_at p.parts j).unit == (part_at p.parts k).unit then is_good p j q else true) 0 kept k l h

    some : (o : Option ReturnedPart) → is_good p k o ≡ true → (q : ReturnedPart) × (o ≡ Some q)
    some None e = absurd (let f : false ≡ true = e in cc)
    some (Some q) e = (q, refl)

both_fit_input : (p : PlanState) (kept : List (Option ReturnedPart)) (bytes : ℕ) (r n : InputRun) → inputs_adjoin r n ≡ true → FitsInput p kept bytes r → FitsInput p kept bytes n → FitsInput p kept bytes (both_inputs r n)
both_fit_input p kept bytes r n h x y = λ on.
    let e = input_parts r n h in
    let a = x on in
    let b = y (ap (unit_taken p kept) (sym e.1) ∙ on) in
    let c : FitsRun bytes (length (bytes_of (get_or kept r.part None))) n.run = subst (λ (k : ℕ). FitsRun bytes (length (bytes_of (get_or kept k None))) n.run) (sym e.0) b.1 in
    (a.0, both_fit bytes (length (bytes_of (get_or kept r.part None))) r.run n.run e.2 a.1 c)

merged_fit_inputs_from : (p : PlanState) (kept : List (Option ReturnedPart)) (bytes : ℕ) (r : InputRun) (rs : List InputRun) → FitsInput p kept bytes r → AllByRecursion (FitsInput p kept bytes) rs → AllByRecursion (FitsInput p kept bytes) (merged_from inputs_adjoin both_inputs r rs)
merged_fit_inputs_from p kept bytes r [] x all = (x, tt)
merged_fit_inputs_from p kept bytes r (n ∷ rs) x all = go (λ y f. merged_fit_inputs_from p kept bytes y rs f all.1) (inputs_adjoin r n) refl
  where
    go : ((y : InputRun) → FitsInput p kept bytes y → AllByRecursion (FitsInput p kept bytes) (merged_from inputs_adjoin both_inputs y rs)) → (c : Bool) → inputs_adjoin r n ≡ c → AllByRecursion (FitsInput p kept bytes) (if c then merged_from inputs_adjoin both_inputs (both_inputs r n) rs else r ∷ merged_from inputs_adjoin both_inputs n rs)
    go f true h = f (both_inputs r n) (both_fit_input p kept bytes r n h x all.0)
    go f false h = (x, f n all.0)

merged_fit_inputs : (p : PlanState) (kept : List (Option ReturnedPart)) (bytes : ℕ) (rs : List InputRun) → AllByRecursion (FitsInput p kept bytes) rs → AllByRecursion (FitsInput p kept bytes) (merged inputs_adjoin both_inputs rs)
merged_fit_inputs p kept bytes [] all = tt
merged_fit_inputs p kept bytes (r ∷ rs) all = merged_fit_inputs_from p kept bytes r rs all.0 all.1

pub item_at : {X : Type 0} (P : X → Type 0) (rs : List X) (i : ℕ) (r : X) → AllByRecursion P rs → i < length rs → r ≡ get_or rs i r → P r
item_at P [] i r all l at = absurd (omega arith)
item_at P (x ∷ rs) zero r all l at = subst P (sym at) all.0
item_at P (x ∷ rs) (suc i) r all l at = item_at P rs i r all.1 (omega arith) at

pub input_fits : (p : PlanState) (kept : List (Option ReturnedPart)) (runs : List InputRun) (i : ℕ) (r : InputRun) (inputs : List ℕ) → IsUsable p → runs ≡ input_runs p → i < length runs → r ≡ get_or runs i r
    → length kept ≡ length p.parts → ((k : ℕ) (q : ReturnedPart) → get_or kept k None ≡ Some q → length q.bytes ≡ (part_at p.parts k).bytes) → length inputs ≡ bytes_of_bits p.in_bits → p.in_bits < 2 ^ 64
    → FitsInput p kept (length inputs) r
input_fits p kept runs i r inputs usable is l at count sizes room few =
    item_at (FitsInput p kept (length inputs)) runs i r
    (subst (AllByRecursion (FitsInput p kept (length inputs))) (sym is) (merged_fit_inputs p kept (length inputs) (map (input_run p) p.in_links) (links_fit_inputs p.in_links usable.in_links))) l at
  where
    fits : (x : Link) → IsInLink p x → FitsInput p kept (length inputs) (input_run p x)
    fits x inside taken =
        let part = usable.in_parts x.slave inside.slave in
        let there : part_of_slave p x.slave < length kept = omega arith in
        let q = taken_is_kept p kept (part_of_slave p x.slave) there taken in
        let bytes : length (bytes_of (get_or kept (part_of_slave p x.slave) None)) ≡ (part_at p.parts (part_of_slave p x.slave)).bytes = ap (λ (o : Option ReturnedPart). length (bytes_of o)) q.1 ∙ sizes (part_of_slave p x.slave) q.0 q.1 in
        let span = area_inside p x.slave usable inside.slave in
        let from = span.in_from in
        let to = span.in_to in
        let bits = inside.bits in
        let end = inside.image in
        let small = few_of p (part_of_slave p x.slave) usable in
        (there, record { inside = omega arith; there = omega arith; to_fits = omega arith; from_fits = omega arith })

    links_fit_inputs : (ls : List Link) → AllByRecursion (IsInLink p) ls → AllByRecursion (FitsInput p kept (length inputs)) (map (input_run p) ls)
    links_fit_inputs [] all = tt
    links_fit_inputs (x ∷ ls) all = (fits x all.0, links_fit_inputs ls all.1)

-- ---- the run of a link

-- its bits begin inside its part, and its numbers fit a `usize`
pub output_placed : (p : PlanState) (k : ℕ) (l : Link) (x : SlavePlan) → IsUsable p → IsOutLink p l → is_of_part p k l ≡ true → slice_get p.slaves l.slave ≡ Some x
    → (8 * (part_at p.parts k).address ≤ x.from + l.object_bit) × (x.from + l.object_bit < 2 ^ 64)
output_placed p k l x usable inside own there =
    let is : slave_at p l.slave ≡ x = get_or_from_slice_get p.slaves l.slave x no_slave there in
    let part : part_of_slave p l.slave ≡ k = eqb-true (part_of_slave p l.slave) k own in
    let span = area_inside p l.slave usable inside.slave in
    let from = span.out_from in
    let to = span.out_to in
    let bits = inside.bits in
    let low = usable.addresses (part_of_slave p l.slave) in
    let first : 8 * (part_at p.parts (part_of_slave p l.slave)).address ≤ (slave_at p l.slave).from + l.object_bit = omega arith in
    let small : (slave_at p l.slave).from + l.object_bit < 2 ^ 64 = omega arith in
    subst (λ (y : SlavePlan). (8 * (part_at p.parts k).address ≤ y.from + l.object_bit) × (y.from + l.object_bit < 2 ^ 64)) is
    (subst (λ (n : ℕ). 8 * (part_at p.parts n).address ≤ (slave_at p l.slave).from + l.object_bit) part first, small)

abbrev run_to : Link → ℕ → BitRun
run_to l to = record { to = to; from = l.image; count = l.count }

pub output_is : (p : PlanState) (k : ℕ) (l : Link) (x : SlavePlan) (a : ℕ) → slice_get p.slaves l.slave ≡ Some x → a ≡ (part_at p.parts k).address → run_to l (x.from + l.object_bit - 8 * a) ≡ output_run p k l
output_is p k l x a there at =
    let is : slave_at p l.slave ≡ x = get_or_from_slice_get p.slaves l.slave x no_slave there in
    ap (λ (y : SlavePlan). run_to l (y.from + l.object_bit - 8 * a)) (sym is) ∙ ap (λ (b : ℕ). run_to l ((slave_at p l.slave).from + l.object_bit - 8 * b)) at

pub input_placed : (p : PlanState) (l : Link) (x : SlavePlan) → IsUsable p → IsInLink p l → slice_get p.slaves l.slave ≡ Some x
    → (x.share.part < length p.parts) × (8 * (part_at p.parts x.share.part).address ≤ x.from + l.object_bit) × (x.from + l.object_bit < 2 ^ 64)
input_placed p l x usable inside there =
    let is : slave_at p l.slave ≡ x = get_or_from_slice_get p.slaves l.slave x no_slave there in
    let part : (slave_at p l.slave).share.part < length p.parts = usable.in_parts l.slave inside.slave in
    let span = area_inside p l.slave usable inside.slave in
    let from = span.in_from in
    let to = span.in_to in
    let bits = inside.bits in
    let low = usable.addresses (part_of_slave p l.slave) in
    let first : 8 * (part_at p.parts (part_of_slave p l.slave)).address ≤ (slave_at p l.slave).from + l.object_bit = omega arith in
    let small : (slave_at p l.slave).from + l.object_bit < 2 ^ 64 = omega arith in
    subst (λ (y : SlavePlan). (y.share.part < length p.parts) × (8 * (part_at p.parts y.share.part).address ≤ y.from + l.object_bit) × (y.from + l.object_bit < 2 ^ 64)) is (part, first, small)

abbrev input_from : Link → SlavePlan → PartPlan → InputRun
input_from l x q = record { part = x.share.part; unit = q.unit; run = record { to = l.image; from = x.from + l.object_bit - 8 * q.address; count = l.count } }

pub input_is : (p : PlanState) (l : Link) (x : SlavePlan) (q : PartPlan) → slice_get p.slaves l.slave ≡ Some x → q ≡ part_at p.parts x.share.part → input_from l x q ≡ input_run p l
input_is p l x q there at =
    let is : slave_at p l.slave ≡ x = get_or_from_slice_get p.slaves l.slave x no_slave there in
    ap (input_from l x) at ∙ ap (λ (y : SlavePlan). input_from l y (part_at p.parts y.share.part)) (sym is)
