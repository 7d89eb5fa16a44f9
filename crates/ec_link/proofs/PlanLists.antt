-- What the lists of a plan keep.
use Rattle.std.proofs.Common.{◌≡◌, ℕ, zero, suc, ◌+◌, ◌*◌, ◌^◌, ◌<◌, ◌≤◌, ltb, Bool, true, false, List, [], ◌∷◌, length, get_or, All, refl, sym, ap, ◌∙◌, subst, arith, inl, inr, Some, None, Option, option_map}
use Rattle.std.proofs.lemmas.List.{get_or_past, get_or_default}
use Rattle.std.proofs.lemmas.List.Elements.{All-get_or, All-from_get_or}
use Rattle.std.proofs.lemmas.Bool.{cases_Bool, cases_lt, false≢true}
use Rattle.std.proofs.lemmas.Bool.Decides.{nat_tests}
use Rattle.ec_bits.specs.Bits.{bytes_of_bits}
use Rattle.ec_table.specs.declared.rows.SlaveRow.{SlaveRow}
use Rattle.ec_table.specs.declared.rows.Direction.TheVariants.{Out, In}
use Rattle.ec_table.specs.Contents.{Contents}
use Rattle.ec_table.specs.Sound as table
use Rattle.ec_device.specs.Objects.{bits_of}
use Rattle.ec_table.specs.Objects.{entries_of}
use Rattle.ec_table.specs.Objects as objects
use Rattle.ec_device.specs.Types.{SlaveKind}
use Rattle.ec_link.specs.declared.sizes.SlaveSize.{SlaveSize}
use Rattle.ec_link.specs.declared.layout.Part.{Part}
use Rattle.ec_link.specs.declared.layout.Seat.{Seat}
use Rattle.ec_link.specs.declared.plan.PartPlan.{PartPlan}
use Rattle.ec_link.specs.declared.settings.SlavePlan.{SlavePlan}
use Rattle.ec_link.specs.declared.fault.LinkFault.{LinkFault}
use Rattle.ec_link.specs.declared.fault.LinkFault.TheVariants.{EntryTwice, TooManyBits, TooManySlaves, TooManyParts}
use Rattle.ec_link.specs.Sizes.{each_from, size_of, hardware_of, table_sizes}
use Rattle.ec_link.proofs.MappedBits.{few_mapped}
use Rattle.ec_link.specs.Layout.{part_so_far, seat_at, layout}
use Rattle.ec_link.specs.Faults.{◌orelse◌, first_at, each_slave, entry_twice, too_many_bits, too_many, slave_fault, part_fault}
use Rattle.ec_link.specs.Plan.{part_plan, addressed, first_address, part_at, no_part, logical_from, settings_at, kind_of, AreInParts}
use Rattle.ec_link.proofs.EachFrom.{length-each_from, get_or-each}
use Rattle.ec_link.proofs.LayoutsApart.{no_size, size_at, layout_sound}
use Rattle.ec_link.specs.Limits.{IsSize, IsSmall, AreSeated, AreSmall}

-- ---- without faults

pub orelse_left : {X : Type 0} (a b : Option X) → (a orelse b) ≡ None → a ≡ None
orelse_left None b h = refl
orelse_left (Some x) b h = h

pub orelse_right : {X : Type 0} (a b : Option X) → (a orelse b) ≡ None → b ≡ None
orelse_right None b h = h
orelse_right (Some x) b h = cc

pub map_none : {X Y : Type 0} (f : X → Y) (a : Option X) → option_map f a ≡ None → a ≡ None
map_none f None h = refl
map_none f (Some x) h = cc

-- no element fails a test that finds none
pub none_at : {X : Type 0} (test : ℕ → X → Bool) (n : ℕ) (xs : List X) (k : ℕ) (d : X) → first_at test n xs ≡ None → k < length xs → test (n + k) (get_or xs k d) ≡ false
none_at test n [] k d h lt = absurd (omega arith)
none_at test n (x ∷ xs) zero d h lt =
    let z : n + 0 ≡ n = omega arith in
    elim (cases_Bool (test n x)) [ inl t ↦ let e = rw t at h in cc | inr f ↦ rw z f ]
none_at test n (x ∷ xs) (suc k) d h lt =
    let s : n + 1 + k ≡ n + suc k = omega arith in
    elim (cases_Bool (test n x)) [
      | inl t ↦ let e = rw t at h in cc
      | inr f ↦ let e : first_at test (n + 1) xs ≡ None = rw f at h in subst (λ (m : ℕ). test m (get_or xs k d) ≡ false) s (none_at test (n + 1) xs k d e (omega arith))
    ]

few_from : (most n : ℕ) (f : ℕ → LinkFault) → too_many most n f ≡ None → n ≤ most
few_from most n f h = elim (cases_lt most n) [ inl lt ↦ let t : ltb most n ≡ true = grind (arith, nat_tests, lt) in let e = rw t at h in cc | inr le ↦ le ]

pub few_slaves : (t : Contents) → slave_fault t ≡ None → length t.slaves ≤ 64
unfolding slave_fault
few_slaves t h = few_from 64 (length t.slaves) TooManySlaves (orelse_right (each_slave t (too_many_bits t) TooManyBits) _ (orelse_right (each_slave t (entry_twice t) EntryTwice) _ h))

pub few_parts : (t : Contents) → part_fault t ≡ None → length (layout (table_sizes t)).parts ≤ 32
unfolding part_fault
few_parts t h = few_from 32 (length (layout (table_sizes t)).parts) TooManyParts h

no_big : (t : Contents) → slave_fault t ≡ None → (s : ℕ) (r : SlaveRow) → s < length t.slaves → too_many_bits t s ≡ false
unfolding slave_fault
no_big t h s r lt =
    let none : first_at (λ n (q : SlaveRow). too_many_bits t n) 0 t.slaves ≡ None = map_none TooManyBits _ (orelse_left (each_slave t (too_many_bits t) TooManyBits) _ (orelse_right (each_slave t (entry_twice t) EntryTwice) _ h)) in
    let z : 0 + s ≡ s = omega arith in
    subst (λ (k : ℕ). too_many_bits t k ≡ false) z (none_at (λ n (q : SlaveRow). too_many_bits t n) 0 t.slaves s r none lt)

size_fits : (t : Contents) (s : ℕ) (r : SlaveRow) → too_many_bits t s ≡ false → r.unit ≤ 63 → IsSize (size_of t s r)
size_fits t s r h u =
    elim (cases_lt 2048 (bits_of (entries_of t s Out))) [
      | inl lt ↦ let e : ltb 2048 (bits_of (entries_of t s Out)) ≡ true = grind (arith, nat_tests, lt) in let f = rw e at h in absurd (false≢true (sym f))
      | inr outs ↦
          let e : ltb 2048 (bits_of (entries_of t s Out)) ≡ false = grind (arith, nat_tests, outs) in
          elim (cases_lt 2048 (bits_of (entries_of t s In))) [
            | inl lt ↦ let i : ltb 2048 (bits_of (entries_of t s In)) ≡ true = grind (arith, nat_tests, lt) in let f = rw (e, i) at h in absurd (false≢true (sym f))
            | inr ins ↦ record { outs = few_mapped (hardware_of t s) _ outs; ins = few_mapped (hardware_of t s) _ ins; unit = u }
          ]
    ]

abbrev pub no_row : SlaveRow
no_row = record { name = []; type_index = 0; outputs = []; inputs = []; serial = 0; unit = 0; init = [] }

pub sizes_fit : (t : Contents) (zs : List SlaveSize) → table.AreSlaves t.version t.types t.slaves → slave_fault t ≡ None → zs ≡ table_sizes t → All IsSize zs
sizes_fit t zs sound h e =
    subst (All IsSize) (sym e) (All-from_get_or IsSize (table_sizes t) no_size (λ s lt.
    let below : s < length t.slaves = omega (arith, length-each_from (size_of t) 0 t.slaves) in
    subst IsSize (sym (get_or-each (size_of t) t.slaves s no_size no_row below)) (size_fits t s (get_or t.slaves s no_row) (no_big t h s no_row below) (sound.each s no_row below).unit)))

-- ---- the parts of a plan

pub length-addressed : (a : ℕ) (ps : List Part) → length (addressed a ps) ≡ length ps
length-addressed a [] = refl
length-addressed a (p ∷ ps) = ap suc (length-addressed (a + bytes_of_bits p.bits) ps)

-- the bytes of the parts before part k
abbrev pub before : List Part → ℕ → ℕ
before [] k = 0
before (p ∷ ps) zero = 0
before (p ∷ ps) (suc k) = bytes_of_bits p.bits + before ps k

pub part_at-addressed : (a : ℕ) (ps : List Part) (k : ℕ) → k < length ps → part_at (addressed a ps) k ≡ part_plan (a + before ps k) (part_so_far ps k)
part_at-addressed a [] k h = absurd (omega arith)
part_at-addressed a (p ∷ ps) zero h = let e : a ≡ a + 0 = omega arith in ap (λ x. part_plan x p) e
part_at-addressed a (p ∷ ps) (suc k) h =
    let e : a + bytes_of_bits p.bits + before ps k ≡ a + (bytes_of_bits p.bits + before ps k) = omega arith in
    part_at-addressed (a + bytes_of_bits p.bits) ps k (omega arith) ∙ ap (λ x. part_plan x (part_so_far ps k)) e

pub small_bytes : (p : Part) → IsSmall p → bytes_of_bits p.bits ≤ 1422
small_bytes p h = elim (cases_Bool p.split) [ inl s ↦ let e = rw s at h in omega arith | inr s ↦ let e = rw s at h in omega arith ]

before_low : (ps : List Part) (k : ℕ) → ((i : ℕ) → IsSmall (part_so_far ps i)) → before ps k ≤ 1422 * k
before_low [] k h = omega arith
before_low (p ∷ ps) zero h = omega arith
before_low (p ∷ ps) (suc k) h = omega (arith, small_bytes p (h 0), before_low ps k (λ i. h (suc i)))

few_bits : (p : Part) → IsSmall p → p.bits ≤ 11376
few_bits p h = omega (arith, small_bytes p h)

pub each_size : (zs : List SlaveSize) → All IsSize zs → (s : ℕ) → IsSize (size_at zs s)
each_size zs h s =
    elim (cases_lt s (length zs)) [
      | inl lt ↦ All-get_or IsSize zs s no_size lt h
      | inr ge ↦ subst IsSize (sym (get_or_past zs s no_size ge)) (record { outs = omega arith; ins = omega arith; unit = omega arith })
    ]

pub small_parts : (zs : List SlaveSize) → All IsSize zs → AreSmall (layout zs).parts
small_parts zs h = record { each = λ k. few_bits (part_so_far (layout zs).parts k) ((layout_sound zs (each_size zs h)).small k) }

low_from : (parts : List Part) (ps : List PartPlan) (q : Seat) → ps ≡ addressed first_address parts → q.part < length parts → length parts ≤ 64 → ((i : ℕ) → IsSmall (part_so_far parts i)) → q.from ≤ 11376 → logical_from ps q < 2 ^ 35
low_from parts ps q e lt few small from =
    let at : (part_at ps q.part).address ≡ first_address + before parts q.part = ap (λ xs. (part_at xs q.part).address) e ∙ ap (λ x. x.address) (part_at-addressed first_address parts q.part lt) in
    omega (arith, at, before_low parts q.part small)

pub seated_from : (zs : List SlaveSize) (ps : List PartPlan) → All IsSize zs → length (layout zs).parts ≤ 64 → ps ≡ addressed first_address (layout zs).parts → AreSeated (length zs) ps (layout zs).seats
seated_from zs ps h few e =
    let l = layout zs in
    let sound = layout_sound zs (each_size zs h) in
    record {
      as_many = sound.seats;
      there = λ s lt. omega (arith, sound.there s lt, ap length e, length-addressed first_address l.parts);
      low = λ s lt. low_from l.parts ps (seat_at l.seats s) e (sound.there s lt) few sound.small
          (omega (arith, sound.inside s lt, few_bits (part_so_far l.parts (seat_at l.seats s).part) (sound.small (seat_at l.seats s).part)));
    }

share_part : (t : Contents) (ps : List PartPlan) (seats : List Seat) (s : ℕ) (r : SlaveRow) → (settings_at t ps seats s r).share.part ≡ (seat_at seats s).part
unfolding settings_at
share_part t ps seats s r = refl

-- a frame has room for each part
pub planned_small : (parts : List Part) (ps : List PartPlan) → ps ≡ addressed first_address parts → ((k : ℕ) → (part_so_far parts k).bits ≤ 11376) → All (λ (k : PartPlan). k.bytes ≤ 1422) ps
planned_small parts ps e low k d lt =
    let below : k < length parts = omega (arith, lt, ap length e, length-addressed first_address parts) in
    let at : get_or (addressed first_address parts) k d ≡ part_plan (first_address + before parts k) (part_so_far parts k) = get_or_default (addressed first_address parts) k d no_part (omega (arith, below, length-addressed first_address parts)) ∙ part_at-addressed first_address parts k below in
    omega (arith, ap (λ (x : PartPlan). x.bytes) (ap (λ xs. get_or xs k d) e ∙ at), low k)

pub planned_from : (t : Contents) (ps : List PartPlan) (seats : List Seat) (xs : List SlavePlan) → length t.slaves ≤ 64 → All (λ (k : PartPlan). k.bytes ≤ 1422) ps → AreSeated (length t.slaves) ps seats → xs ≡ each_from (settings_at t ps seats) 0 t.slaves → AreInParts xs ps
planned_from t ps seats xs few small h e =
    let count : length xs ≡ length t.slaves = ap length e ∙ length-each_from (settings_at t ps seats) 0 t.slaves in
    record {
      few = omega (arith, count);
      there = λ s x lt.
          let below : s < length t.slaves = omega (arith, count) in
          let is : (get_or xs s x).share.part ≡ (seat_at seats s).part =
          ap (λ (y : SlavePlan). y.share.part) (ap (λ ys. get_or ys s x) e ∙ get_or-each (settings_at t ps seats) t.slaves s x no_row below) ∙ share_part t ps seats s (get_or t.slaves s no_row) in
          omega (arith, is, h.there s below);
      small = small;
    }

-- ---- the type that is read

pub kind_read : (t : Contents) (s : ℕ) (k : SlaveKind) → objects.kind_of t s ≡ Some k → k ≡ kind_of t s
kind_read t s k e = rw e refl
