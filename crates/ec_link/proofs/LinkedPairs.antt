-- Each pair of the table is linked in the plan.
use Rattle.std.proofs.Common.{◌≡◌, ◌≢◌, ℕ, zero, suc, ◌+◌, ◌-◌, ◌<◌, ◌≤◌, ◌&&◌, not, eqb, ltb, leb, true, false, List, [], ◌∷◌, length, get_or, refl, sym, ap, ◌∙◌, subst, arith, inl, inr, Some, None, Option, option_map, slice_get, length-append}
use Rattle.std.specs.List.{flat_map, list_any}
use Rattle.std.proofs.lemmas.Bool.{cases_Bool, cases_lt, cases_eq, false≢true}
use Rattle.std.proofs.lemmas.Bool.Decides.{nat_tests}
use Rattle.std.proofs.lemmas.Option.{slice_get_within, get_or_from_slice_get}
use Rattle.std.proofs.lemmas.List.{get_or_append_left, get_or-append_right, get_or-map, length-map}
use Rattle.ec_bits.specs.Bits.{within}
use Rattle.ec_device.specs.declared.slave_type.Entry.{Entry}
use Rattle.ec_table.specs.declared.rows.LinkRow.{LinkRow}
use Rattle.ec_table.specs.declared.rows.SlaveRow.{SlaveRow}
use Rattle.ec_table.specs.declared.rows.Direction.{Direction}
use Rattle.ec_table.specs.declared.rows.Direction.TheVariants.{Out}
use Rattle.ec_table.specs.Contents.{Contents}
use Rattle.ec_device.specs.Objects.{ObjectBit, entry_bits}
use Rattle.ec_table.specs.Objects.{object_bits, entries_of}
use Rattle.ec_link.specs.declared.objects.EntryRun.{EntryRun}
use Rattle.ec_link.specs.declared.link_runs.LinkRun.{LinkRun}
use Rattle.ec_table.specs.Sound as table
use Rattle.ec_link.specs.Image.{image_from}
use Rattle.ec_link.specs.Faults.{first_at, each_slave, entry_twice, slave_fault}
use Rattle.ec_link.specs.declared.fault.LinkFault.TheVariants.{EntryTwice}
use Rattle.ec_link.specs.Entries.{is_named, behind, entry_run, names_twice}
use Rattle.ec_link.specs.LinkRuns.{is_out, direction_of, run_of, link_run_of, table_link_runs, give_one_bit}
use Rattle.ec_link.specs.Faults.{link_fault}
use Rattle.ec_link.specs.Plan.{plan_of, link_of}
use Rattle.ec_link.specs.Meaning.{out_source}
use Rattle.ec_link.specs.Links.{IsPair}
use Rattle.ec_link.proofs.PlanLists.{orelse_left, map_none, none_at, no_row}
use Rattle.ec_link.proofs.LinksFit.{links_of, link_run_slave}
use Rattle.ec_link.proofs.LinksOnce.{no_two, link_run_count}
use Rattle.ec_link.proofs.LinkedEntries.{Found, named, bit_of, entry_length, entry_bit_is, find_out, plan_out}
use Rattle.ec_link.proofs.Basics.{or_left, or_right}

named_index : (e : Entry) (index subindex : ℕ) → is_named index subindex e ≡ true → e.index ≡ index
named_index e index subindex h = elim (cases_Bool (eqb e.index index)) [ inl t ↦ grind (arith, nat_tests, t) | inr n ↦ let f = rw n at h in absurd (false≢true f) ]

named_subindex : (e : Entry) (index subindex : ℕ) → is_named index subindex e ≡ true → e.subindex ≡ subindex
named_subindex e index subindex h =
    elim (cases_Bool (eqb e.index index)) [
      | inr n ↦ let f = rw n at h in absurd (false≢true f)
      | inl t ↦ elim (cases_Bool (eqb e.subindex subindex)) [ inl s ↦ grind (arith, nat_tests, s) | inr n ↦ let f = rw (t, n) at h in absurd (false≢true f) ]
    ]

-- a bit with a name is of the entry
name_of : (e : Entry) (index subindex o j : ℕ) → bit_of e o ≡ named index subindex j → (is_named index subindex e ≡ true) × (o ≡ j)
name_of e index subindex o j h =
    elim (cases_Bool (eqb e.index 0)) [
      | inl z ↦ let f = rw z at h in cc
      | inr z ↦
          let f = rw z at h in
          let x : ObjectBit = record { index = e.index; subindex = e.subindex; bit = o } in
          let y : ObjectBit = record { index = index; subindex = subindex; bit = j } in
          let b : x ≡ y = cc in
          let i : e.index ≡ index = ap (λ (x : ObjectBit). x.index) b in
          let s : e.subindex ≡ subindex = ap (λ (x : ObjectBit). x.subindex) b in
          let p : eqb e.index index ≡ true = grind (arith, nat_tests, i) in
          let q : eqb e.subindex subindex ≡ true = grind (arith, nat_tests, s) in
          (rw (p, q) refl, ap (λ (x : ObjectBit). x.bit) b)
    ]

map_some : {X Y : Type 0} (f : X → Y) (o : Option X) (y : Y) → option_map f o ≡ Some y → (x : X) × (o ≡ Some x)
map_some f None y h = cc
map_some f (Some x) y h = (x, refl)

-- an entry that is found is one of the list
found_any : (es : List Entry) (index subindex : ℕ) (r : EntryRun) → entry_run es index subindex ≡ Some r → list_any (is_named index subindex) es ≡ true
found_any [] index subindex r h = cc
found_any (e ∷ es) index subindex r h =
    elim (cases_Bool (is_named index subindex e)) [
      | inl t ↦ rw t refl
      | inr n ↦ let f = rw n at h in let q = map_some (behind e.bits) (entry_run es index subindex) r f in rw n (found_any es index subindex q.0 q.1)
    ]

pub record At (es : List Entry) (index subindex o j : ℕ) : Type 0 where
  pub run : EntryRun
  pub is : entry_run es index subindex ≡ Some run
  pub inside : j < run.bits
  pub at : o ≡ run.from + j

-- with no entry twice, a bit with a name lies in the run of the first entry with it
pub at_run : (es : List Entry) (index subindex o j : ℕ) → names_twice es ≡ false → index ≢ 0 → o < length (flat_map entry_bits es) → get_or (flat_map entry_bits es) o (named index subindex j) ≡ named index subindex j → get_or (flat_map entry_bits es) o None ≡ named index subindex j
    → At es index subindex o j
at_run [] index subindex o j once ne lt g h = absurd (omega arith)
at_run (e ∷ es) index subindex o j once ne lt g h =
    elim (cases_lt o e.bits) [
      | inl here ↦
          let bit : bit_of e o ≡ named index subindex j = sym (get_or_append_left (entry_bits e) (flat_map entry_bits es) None o (omega (arith, entry_length e)) ∙ entry_bit_is e o None here) ∙ h in
          let n = name_of e index subindex o j bit in
          record { run = record { from = 0; bits = e.bits }; is = rw n.0 refl; inside = omega (arith, n.1); at = omega (arith, n.1) }
      | inr past ↦
          let k : ℕ = o - e.bits in
          let shift : (d : Option ObjectBit) → get_or (flat_map entry_bits (e ∷ es)) o d ≡ get_or (flat_map entry_bits es) k d = λ d. get_or-append_right (entry_bits e) (flat_map entry_bits es) e.bits o d (entry_length e) past in
          let below : k < length (flat_map entry_bits es) = omega (arith, lt, length-append (entry_bits e) (flat_map entry_bits es), entry_length e) in
          let a = at_run es index subindex k j (or_right (not (eqb e.index 0) && list_any (is_named e.index e.subindex) es) (names_twice es) once) ne below (sym (shift _) ∙ g) (sym (shift None) ∙ h) in
          let other : is_named index subindex e ≡ false = elim (cases_Bool (is_named index subindex e)) [
            | inr n ↦ n
            | inl t ↦
                let i : e.index ≡ index = named_index e index subindex t in
                let s : e.subindex ≡ subindex = named_subindex e index subindex t in
                let z : eqb e.index 0 ≡ false = grind (arith, nat_tests, i, ne) in
                let any : list_any (is_named e.index e.subindex) es ≡ true = ap (λ (m : ℕ). list_any (is_named m e.subindex) es) i ∙ ap (λ (m : ℕ). list_any (is_named index m) es) s ∙ found_any es index subindex a.run a.is in
                let f : names_twice (e ∷ es) ≡ true = rw (z, any) refl in
                absurd (false≢true (sym once ∙ f))
          ] in
          record { run = behind e.bits a.run; is = rw (other, a.is) refl; inside = a.inside; at = omega (arith, a.at) }
    ]

-- ---- one link for each bit

both_true : (w : LinkRun) (s o : ℕ) → w.slave ≡ s → w.object_bit ≤ o → o < w.object_bit + w.count → ((eqb w.slave s) && within w.object_bit w.count o) ≡ true
both_true w s o e p q =
    let a : eqb w.slave s ≡ true = grind (arith, nat_tests, e) in
    let b : leb w.object_bit o ≡ true = grind (arith, nat_tests, p) in
    let c : ltb o (w.object_bit + w.count) ≡ true = grind (arith, nat_tests, q) in
    rw (a, b, c) refl

-- a link that has the bit is found
some_out : (t : Contents) (ls : List LinkRow) (s o k : ℕ) (l : LinkRow) → slice_get ls k ≡ Some l → is_out (link_run_of t l).direction ≡ true → (link_run_of t l).slave ≡ s → (link_run_of t l).object_bit ≤ o → o < (link_run_of t l).object_bit + (link_run_of t l).count
    → (b : ℕ) × (out_source (links_of t Out ls) s o ≡ Some b)
some_out t [] s o k l at way same low high = cc
some_out t (r ∷ ls) s o zero l at way same low high =
    let is : r ≡ l = cc in
    let out : is_out (link_run_of t r).direction ≡ true = ap (λ (x : LinkRow). is_out (link_run_of t x).direction) is ∙ way in
    let e : (link_run_of t r).slave ≡ s = ap (λ (x : LinkRow). (link_run_of t x).slave) is ∙ same in
    let a : (link_run_of t r).object_bit ≡ (link_run_of t l).object_bit = ap (λ (x : LinkRow). (link_run_of t x).object_bit) is in
    let c : (link_run_of t r).count ≡ (link_run_of t l).count = ap (λ (x : LinkRow). (link_run_of t x).count) is in
    let p : (link_run_of t r).object_bit ≤ o = omega arith in
    let q : o < (link_run_of t r).object_bit + (link_run_of t r).count = omega arith in
    let test : ((eqb (link_run_of t r).slave s) && within (link_run_of t r).object_bit (link_run_of t r).count o) ≡ true = both_true (link_run_of t r) s o e p q in
    ((link_of t (link_run_of t r)).image + (o - (link_run_of t r).object_bit), rw (out, test) refl)
some_out t (r ∷ ls) s o (suc k) l at way same low high =
    let rest = some_out t ls s o k l at way same low high in
    elim (cases_Bool (is_out (link_run_of t r).direction)) [
      | inl out ↦ elim (cases_Bool ((eqb (link_run_of t r).slave s) && within (link_run_of t r).object_bit (link_run_of t r).count o)) [
        | inl y ↦ ((link_of t (link_run_of t r)).image + (o - (link_run_of t r).object_bit), rw (out, y) refl)
        | inr n ↦ (rest.0, rw (out, n) rest.1)
      ]
      | inr back ↦ (rest.0, rw back rest.1)
    ]

-- two output link runs that have one bit of a slave
both_give : (w v : LinkRun) (s o : ℕ) → is_out w.direction ≡ true → is_out v.direction ≡ true → w.slave ≡ s → v.slave ≡ s → w.object_bit ≤ o → o < w.object_bit + w.count → v.object_bit ≤ o → o < v.object_bit + v.count → give_one_bit w v ≡ true
both_give w v s o wo vo ws vs a b c d =
    let e : eqb w.slave v.slave ≡ true = grind (arith, nat_tests, ws, vs) in
    let f : ltb w.object_bit (v.object_bit + v.count) ≡ true = grind (arith, nat_tests, a, d) in
    let g : ltb v.object_bit (w.object_bit + w.count) ≡ true = grind (arith, nat_tests, c, b) in
    rw (wo, vo, e, f, g) refl

pub link_run_at : (t : Contents) (k : ℕ) (l : LinkRow) (d : LinkRun) → slice_get t.links k ≡ Some l → get_or (table_link_runs t) k d ≡ link_run_of t l
link_run_at t k l d at = get_or-map (link_run_of t) t.links k l d (slice_get_within t.links k l at) ∙ ap (link_run_of t) (get_or_from_slice_get t.links k l l at)

-- at most one link has an output bit
one_link : (t : Contents) → link_fault t ≡ None → (m k : ℕ) (a b : LinkRow) (s o : ℕ) → m < k → slice_get t.links m ≡ Some a → slice_get t.links k ≡ Some b
    → is_out (link_run_of t a).direction ≡ true → is_out (link_run_of t b).direction ≡ true → (link_run_of t a).slave ≡ s → (link_run_of t b).slave ≡ s
    → (link_run_of t a).object_bit ≤ o → o < (link_run_of t a).object_bit + (link_run_of t a).count → (link_run_of t b).object_bit ≤ o → o < (link_run_of t b).object_bit + (link_run_of t b).count → ⊥
one_link t h m k a b s o lt at bt ao bo sa sb la ha lb hb =
    let below : k < length (table_link_runs t) = omega (arith, slice_get_within t.links k b bt, length-map t.links (link_run_of t)) in
    let no = no_two t h m k (link_run_of t a) lt below in
    let is : give_one_bit (get_or (table_link_runs t) k (link_run_of t a)) (get_or (table_link_runs t) m (link_run_of t a)) ≡ give_one_bit (link_run_of t b) (link_run_of t a) =
    ap (λ (x : LinkRun). give_one_bit x (get_or (table_link_runs t) m (link_run_of t a))) (link_run_at t k b (link_run_of t a) bt) ∙ ap (give_one_bit (link_run_of t b)) (link_run_at t m a (link_run_of t a) at) in
    false≢true (sym no ∙ is ∙ both_give (link_run_of t b) (link_run_of t a) s o bo ao sb sa lb hb la ha)

-- no entry stands twice
out_once : (t : Contents) → slave_fault t ≡ None → (s : ℕ) → s < length t.slaves → names_twice (entries_of t s Out) ≡ false
unfolding slave_fault
out_once t h s lt =
    let none : first_at (λ n (r : SlaveRow). entry_twice t n) 0 t.slaves ≡ None = map_none EntryTwice _ (orelse_left (each_slave t (entry_twice t) EntryTwice) _ h) in
    let z : 0 + s ≡ s = omega arith in
    let e : entry_twice t s ≡ false = subst (λ (k : ℕ). entry_twice t k ≡ false) z (none_at (λ n (r : SlaveRow). entry_twice t n) 0 t.slaves s no_row none lt) in
    or_left (names_twice (entries_of t s Out)) _ e

pub link_run_bit : (t : Contents) (l : LinkRow) (r : EntryRun) → run_of t l ≡ Some r → (link_run_of t l).object_bit ≡ r.from + l.bits.entry_bit
unfolding link_run_of
link_run_bit t l r is = rw is refl

link_run_way : (t : Contents) (l : LinkRow) → direction_of t l ≡ Out → is_out (link_run_of t l).direction ≡ true
unfolding link_run_of
link_run_way t l h = rw h refl

link_run_image : (t : Contents) (l : LinkRow) → (link_of t (link_run_of t l)).image ≡ image_from t.variables l.variable + l.bits.variable_bit
unfolding link_run_of
link_run_image t l = refl

run_out : (t : Contents) (l : LinkRow) (s : ℕ) (r : EntryRun) → direction_of t l ≡ Out → s ≡ l.slave → entry_run (entries_of t s Out) l.index l.subindex ≡ Some r → run_of t l ≡ Some r
unfolding run_of
run_out t l s r way same h =
    ap (λ (d : Direction). entry_run (entries_of t l.slave d) l.index l.subindex) way ∙ ap (λ (k : ℕ). entry_run (entries_of t k Out) l.index l.subindex) (sym same) ∙ h

-- the one link that has the bit is the one that is found
found_is : (t : Contents) → link_fault t ≡ None → (s o b k i : ℕ) (l : LinkRow) → slice_get t.links k ≡ Some l → is_out (link_run_of t l).direction ≡ true → (link_run_of t l).slave ≡ s → (link_run_of t l).object_bit + i ≡ o → i < (link_run_of t l).count
    → (link_of t (link_run_of t l)).image + i ≡ b → (v : ℕ) → Found t Out t.links s o v → v ≡ b
found_is t h s o b k i l at way slave low inside image v f =
    let high : o < (link_run_of t l).object_bit + (link_run_of t l).count = omega (arith, low, inside) in
    let same : f.at ≡ k = elim (cases_eq f.at k) [
      | inl e ↦ e
      | inr ne ↦ elim (cases_lt f.at k) [
        | inl less ↦ absurd (one_link t h f.at k f.link l s o less f.there at f.way way (sym f.slave_is) slave (omega (arith, f.object_is)) (omega (arith, f.object_is, f.inside)) (omega (arith, low)) high)
        | inr more ↦ absurd (one_link t h k f.at l f.link s o (omega (arith, ne)) at f.there way f.way slave (sym f.slave_is) (omega (arith, low)) high (omega (arith, f.object_is)) (omega (arith, f.object_is, f.inside)))
      ]
    ] in
    let link : f.link ≡ l = let e : Some f.link ≡ Some l = sym f.there ∙ ap (slice_get t.links) same ∙ at in cc in
    omega (arith, f.image_is, f.object_is, low, image, ap (λ (x : LinkRow). (link_of t (link_run_of t x)).image) link, ap (λ (x : LinkRow). (link_run_of t x).object_bit) link)

source_is : (t : Contents) → link_fault t ≡ None → (s o b k i : ℕ) (l : LinkRow) → slice_get t.links k ≡ Some l → is_out (link_run_of t l).direction ≡ true → (link_run_of t l).slave ≡ s → (link_run_of t l).object_bit + i ≡ o → i < (link_run_of t l).count
    → (link_of t (link_run_of t l)).image + i ≡ b → (v : ℕ) → out_source (links_of t Out t.links) s o ≡ Some v → out_source (plan_of t).out_links s o ≡ Some b
source_is t h s o b k i l at way slave low inside image v found =
    ap (λ ls. out_source ls s o) (plan_out t) ∙ found ∙ ap Some (found_is t h s o b k i l at way slave low inside image v (find_out t t.links s o v found))

-- a link has its bits in the run of its entry
linked_at : (t : Contents) → link_fault t ≡ None → (s o b k i : ℕ) (l : LinkRow) → slice_get t.links k ≡ Some l → direction_of t l ≡ Out → s ≡ l.slave → i < l.bits.count → b ≡ image_from t.variables l.variable + (l.bits.variable_bit + i)
    → At (entries_of t s Out) l.index l.subindex o (l.bits.entry_bit + i) → out_source (plan_of t).out_links s o ≡ Some b
linked_at t h s o b k i l at out of inside image a =
    let low : (link_run_of t l).object_bit + i ≡ o = omega (arith, link_run_bit t l a.run (run_out t l s a.run out of a.is), a.at) in
    let few : i < (link_run_of t l).count = omega (arith, link_run_count t l, inside) in
    let slave : (link_run_of t l).slave ≡ s = link_run_slave t l ∙ sym of in
    let way : is_out (link_run_of t l).direction ≡ true = link_run_way t l out in
    let found : (v : ℕ) × (out_source (links_of t Out t.links) s o ≡ Some v) = some_out t t.links s o k l at way slave (omega (arith, low)) (omega (arith, low, few)) in
    source_is t h s o b k i l at way slave low few (omega (arith, link_run_image t l, image)) found.0 found.1

-- each pair of an output in the table is linked in the plan
pub outputs_are_linked : (t : Contents) → table.IsSound t → link_fault t ≡ None → slave_fault t ≡ None → (s o b : ℕ) → IsPair t Out b s o → out_source (plan_of t).out_links s o ≡ Some b
outputs_are_linked t sound h g s o b p =
    let l : LinkRow = p.linked.link in
    let at : slice_get t.links p.linked.place ≡ Some l = p.linked.there in
    let row : table.IsLink t.slaves t.variables l = subst (table.IsLink t.slaves t.variables) (get_or_from_slice_get t.links p.linked.place l l at) (sound.links p.linked.place l (slice_get_within t.links p.linked.place l at)) in
    let bits : List (Option ObjectBit) = object_bits t s Out in
    let name : Option ObjectBit = named l.index l.subindex (l.bits.entry_bit + p.linked.i) in
    linked_at t h s o b p.linked.place p.linked.i l at p.linked.way p.linked.slave_is p.linked.inside (omega (arith, p.image_is, p.linked.bit_is, ap (image_from t.variables) p.linked.variable_is))
    (at_run (entries_of t s Out) l.index l.subindex o (l.bits.entry_bit + p.linked.i) (out_once t g s (omega (arith, p.linked.slave_is, row.slave))) (omega (arith, row.least)) (slice_get_within bits o name p.linked.object_is)
    (get_or_from_slice_get bits o name name p.linked.object_is) (get_or_from_slice_get bits o name None p.linked.object_is))
