-- Each input pair of the table is linked in the plan.
use Rattle.std.proofs.Common.{◌≡◌, ℕ, zero, suc, ◌+◌, ◌-◌, ◌<◌, ◌≤◌, eqb, ltb, leb, true, false, List, [], ◌∷◌, length, get_or, take, refl, sym, ap, ◌∙◌, subst, arith, inl, inr, Some, None, Option, slice_get}
use Rattle.std.proofs.lemmas.Bool.{cases_Bool, cases_lt, cases_eq, false≢true}
use Rattle.std.proofs.lemmas.Bool.Decides.{nat_tests}
use Rattle.std.proofs.lemmas.Option.{slice_get_within, get_or_from_slice_get, slice_get_read}
use Rattle.std.proofs.lemmas.List.{get_or_default}
use Rattle.ec_bits.specs.Bits.{within}
use Rattle.ec_table.specs.declared.rows.LinkRow.{LinkRow}
use Rattle.ec_table.specs.declared.rows.VariableRow.{VariableRow}
use Rattle.ec_table.specs.declared.rows.Direction.{Direction}
use Rattle.ec_table.specs.declared.rows.Direction.TheVariants.{Out, In}
use Rattle.ec_table.specs.Contents.{Contents}
use Rattle.ec_table.specs.Sound as table
use Rattle.ec_link.specs.declared.link_runs.LinkRun.{LinkRun}
use Rattle.ec_link.specs.LinkRuns.{is_out, direction_of, variable_bits, link_run_of, give_one_bit}
use Rattle.ec_link.specs.Image.{bits_if, image_bits, image_from}
use Rattle.ec_link.specs.Faults.{link_fault}
use Rattle.ec_link.specs.Plan.{link_of}
use Rattle.ec_link.specs.Meaning.{Linked, in_source}
use Rattle.std.proofs.lemmas.List.{length-map}
use Rattle.ec_table.specs.declared.rows.SlaveRow.{SlaveRow}
use Rattle.ec_device.specs.Objects.{ObjectBit}
use Rattle.ec_table.specs.Objects.{object_bits, entries_of}
use Rattle.ec_link.specs.declared.objects.EntryRun.{EntryRun}
use Rattle.ec_link.specs.declared.fault.LinkFault.TheVariants.{EntryTwice}
use Rattle.ec_link.specs.Entries.{entry_run, names_twice}
use Rattle.ec_link.specs.LinkRuns.{run_of, table_link_runs}
use Rattle.ec_link.specs.Faults.{first_at, compile_fault, slave_fault, each_slave, entry_twice}
use Rattle.ec_link.specs.Plan.{PlanState, plan_of}
use Rattle.ec_link.specs.Links.{IsPair, AreItsLinks}
use Rattle.ec_link.specs.Interface.{PlansHaveTheLinks}
use Rattle.ec_link.proofs.PlanLists.{orelse_left, map_none, none_at, no_row}
use Rattle.ec_link.proofs.PlanSound.{no_fault}
use Rattle.ec_link.proofs.LinkedEntries.{named, find_in, plan_in, same_way, output_pairs, input_pairs}
use Rattle.ec_link.proofs.LinkedPairs.{at_run, link_run_at, link_run_bit, outputs_are_linked}
use Rattle.ec_link.proofs.LinksOnce.{no_two, link_run_count, ends_before, no_variable}
use Rattle.ec_link.proofs.LinksFit.{LinkFits, links_fit, links_of, link_run_slave}
use Rattle.ec_link.proofs.Basics.{or_right}

-- where an input link has its image bits
record InImage (t : Contents) (l : LinkRow) : Type 0 where
  row : VariableRow
  is : get_or t.variables l.variable no_variable ≡ row
  way : row.direction ≡ In
  begins : (link_of t (link_run_of t l)).image ≡ image_bits In (take l.variable t.variables) + l.bits.variable_bit
  ends : l.bits.variable_bit + l.bits.count ≤ row.bits

in_image : (t : Contents) (l : LinkRow) → table.IsLink t.slaves t.variables l → LinkFits t l → direction_of t l ≡ In → InImage t l
unfolding link_run_of
in_image t l row f way =
    let r : VariableRow = get_or t.variables l.variable no_variable in
    let at : slice_get t.variables l.variable ≡ Some r = slice_get_read t.variables (length t.variables) l.variable r refl row.variable (get_or_default t.variables l.variable no_variable r row.variable) in
    let d : direction_of t l ≡ r.direction = rw at refl in
    let b : variable_bits t l ≡ r.bits = rw at refl in
    let w : r.direction ≡ In = sym d ∙ way in
    let from : image_from t.variables l.variable ≡ image_bits In (take l.variable t.variables) =
    let e : image_from t.variables l.variable ≡ image_bits r.direction (take l.variable t.variables) = rw at refl in e ∙ ap (λ x. image_bits x (take l.variable t.variables)) w in
    record { row = r; is = refl; way = w; begins = ap (λ n. n + l.bits.variable_bit) from; ends = omega (arith, f.variable, b) }

-- links of two variables share no image bit
apart_images : (t : Contents) (a b : LinkRow) (x : ℕ) → InImage t a → InImage t b → a.variable < b.variable → b.variable < length t.variables
    → x < (link_of t (link_run_of t a)).image + a.bits.count → (link_of t (link_run_of t b)).image ≤ x → ⊥
apart_images t a b x p q lt below hi lo =
    let e = ends_before t.variables In a.variable b.variable no_variable lt (omega arith) in
    let n : bits_if In (get_or t.variables a.variable no_variable).direction (get_or t.variables a.variable no_variable).bits ≡ p.row.bits =
    ap (λ (r : VariableRow). bits_if In r.direction r.bits) p.is ∙ ap (λ d. bits_if In d p.row.bits) p.way in
    omega (arith, e, n, p.begins, p.ends, q.begins)

-- ---- a link that has the bit is found

some_in : (t : Contents) (ls : List LinkRow) (b k : ℕ) (l : LinkRow) → slice_get ls k ≡ Some l → is_out (link_run_of t l).direction ≡ false → (link_of t (link_run_of t l)).image ≤ b → b < (link_of t (link_run_of t l)).image + (link_run_of t l).count
    → (x : Linked) × (in_source (links_of t In ls) b ≡ Some x)
some_in t [] b k l at way low high = cc
some_in t (r ∷ ls) b zero l at way low high =
    let is : r ≡ l = cc in
    let back : is_out (link_run_of t r).direction ≡ false = ap (λ (x : LinkRow). is_out (link_run_of t x).direction) is ∙ way in
    let a : (link_of t (link_run_of t r)).image ≡ (link_of t (link_run_of t l)).image = ap (λ (x : LinkRow). (link_of t (link_run_of t x)).image) is in
    let c : (link_run_of t r).count ≡ (link_run_of t l).count = ap (λ (x : LinkRow). (link_run_of t x).count) is in
    let p : leb (link_of t (link_run_of t r)).image b ≡ true = grind (arith, nat_tests, a, low) in
    let q : ltb b ((link_of t (link_run_of t r)).image + (link_run_of t r).count) ≡ true = grind (arith, nat_tests, a, c, high) in
    (record { slave = (link_run_of t r).slave; bit_of = (link_run_of t r).object_bit + (b - (link_of t (link_run_of t r)).image) }, rw (back, p, q) refl)
some_in t (r ∷ ls) b (suc k) l at way low high =
    let rest = some_in t ls b k l at way low high in
    elim (cases_Bool (is_out (link_run_of t r).direction)) [
      | inl out ↦ (rest.0, rw out rest.1)
      | inr back ↦ elim (cases_Bool (within (link_of t (link_run_of t r)).image (link_run_of t r).count b)) [
        | inl y ↦ (record { slave = (link_run_of t r).slave; bit_of = (link_run_of t r).object_bit + (b - (link_of t (link_run_of t r)).image) }, rw (back, y) refl)
        | inr n ↦ (rest.0, rw (back, n) rest.1)
      ]
    ]

link_run_back : (t : Contents) (l : LinkRow) → direction_of t l ≡ In → is_out (link_run_of t l).direction ≡ false
unfolding link_run_of
link_run_back t l h = rw h refl

-- two input link runs that have one bit of a variable
both_back : (t : Contents) (a b : LinkRow) (x y : ℕ) → direction_of t a ≡ In → direction_of t b ≡ In → a.variable ≡ b.variable
    → y ≡ a.bits.variable_bit + x → x < a.bits.count → b.bits.variable_bit ≤ y → y < b.bits.variable_bit + b.bits.count → give_one_bit (link_run_of t a) (link_run_of t b) ≡ true
unfolding link_run_of
both_back t a b x y wa wb same is lt low high =
    let e : eqb a.variable b.variable ≡ true = grind (arith, nat_tests, same) in
    let f : ltb a.bits.variable_bit (b.bits.variable_bit + b.bits.count) ≡ true = grind (arith, nat_tests, is, high) in
    let g : ltb b.bits.variable_bit (a.bits.variable_bit + a.bits.count) ≡ true = grind (arith, nat_tests, is, low, lt) in
    rw (wa, wb, e, f, g) refl

record Holds (t : Contents) (l : LinkRow) (x : ℕ) : Type 0 where
  way : direction_of t l ≡ In
  sound : table.IsLink t.slaves t.variables l
  fits : LinkFits t l
  low : (link_of t (link_run_of t l)).image ≤ x
  high : x < (link_of t (link_run_of t l)).image + l.bits.count

-- at most one link has an image bit
one_input : (t : Contents) → link_fault t ≡ None → (m k : ℕ) (a b : LinkRow) (x : ℕ) → m < k → slice_get t.links m ≡ Some a → slice_get t.links k ≡ Some b → Holds t a x → Holds t b x → ⊥
one_input t h m k a b x lt at bt p q =
    let ia = in_image t a p.sound p.fits p.way in
    let ib = in_image t b q.sound q.fits q.way in
    elim (cases_eq b.variable a.variable) [
      | inl same ↦
          let below : k < length (table_link_runs t) = omega (arith, slice_get_within t.links k b bt, length-map t.links (link_run_of t)) in
          let from : image_bits In (take b.variable t.variables) ≡ image_bits In (take a.variable t.variables) = ap (λ v. image_bits In (take v t.variables)) same in
          let y : ℕ = x - image_bits In (take b.variable t.variables) in
          let no = no_two t h m k (link_run_of t a) lt below in
          let is : give_one_bit (get_or (table_link_runs t) k (link_run_of t a)) (get_or (table_link_runs t) m (link_run_of t a)) ≡ give_one_bit (link_run_of t b) (link_run_of t a) =
          ap (λ (w : LinkRun). give_one_bit w (get_or (table_link_runs t) m (link_run_of t a))) (link_run_at t k b (link_run_of t a) bt) ∙ ap (give_one_bit (link_run_of t b)) (link_run_at t m a (link_run_of t a) at) in
          let yes_it : give_one_bit (link_run_of t b) (link_run_of t a) ≡ true =
          both_back t b a (y - b.bits.variable_bit) y q.way p.way same (omega (arith, ib.begins, q.low)) (omega (arith, ib.begins, q.low, q.high)) (omega (arith, ia.begins, p.low, from)) (omega (arith, ia.begins, p.high, p.low, from)) in
          false≢true (sym no ∙ is ∙ yes_it)
      | inr ne ↦ elim (cases_lt a.variable b.variable) [
        | inl less ↦ apart_images t a b x ia ib less q.sound.variable p.high q.low
        | inr more ↦ apart_images t b a x ib ia (omega (arith, ne)) p.sound.variable q.high p.low
      ]
    ]

one_place : (t : Contents) → link_fault t ≡ None → (m k : ℕ) (a b : LinkRow) (x : ℕ) → slice_get t.links m ≡ Some a → slice_get t.links k ≡ Some b → Holds t a x → Holds t b x → m ≡ k
one_place t h m k a b x at bt p q = elim (cases_eq m k) [
  | inl e ↦ e
  | inr ne ↦ elim (cases_lt m k) [ inl less ↦ absurd (one_input t h m k a b x less at bt p q) | inr more ↦ absurd (one_input t h k m b a x (omega (arith, ne)) bt at q p) ]
]

in_once : (t : Contents) → slave_fault t ≡ None → (s : ℕ) → s < length t.slaves → names_twice (entries_of t s In) ≡ false
unfolding slave_fault
in_once t h s lt =
    let none : first_at (λ n (r : SlaveRow). entry_twice t n) 0 t.slaves ≡ None = map_none EntryTwice _ (orelse_left (each_slave t (entry_twice t) EntryTwice) _ h) in
    let z : 0 + s ≡ s = omega arith in
    let e : entry_twice t s ≡ false = subst (λ (k : ℕ). entry_twice t k ≡ false) z (none_at (λ n (r : SlaveRow). entry_twice t n) 0 t.slaves s no_row none lt) in
    or_right (names_twice (entries_of t s Out)) (names_twice (entries_of t s In)) e

run_in : (t : Contents) (l : LinkRow) (s : ℕ) (r : EntryRun) → direction_of t l ≡ In → s ≡ l.slave → entry_run (entries_of t s In) l.index l.subindex ≡ Some r → run_of t l ≡ Some r
unfolding run_of
run_in t l s r way same h =
    ap (λ (d : Direction). entry_run (entries_of t l.slave d) l.index l.subindex) way ∙ ap (λ (k : ℕ). entry_run (entries_of t k In) l.index l.subindex) (sym same) ∙ h

link_run_image : (t : Contents) (l : LinkRow) → (link_of t (link_run_of t l)).image ≡ image_from t.variables l.variable + l.bits.variable_bit
unfolding link_run_of
link_run_image t l = refl

linked_is : (x : Linked) (s o : ℕ) → x.slave ≡ s → x.bit_of ≡ o → x ≡ record { slave = s; bit_of = o }
linked_is x s o a b = ap (λ n. record { slave = n; bit_of = x.bit_of }) a ∙ ap (λ n. record { slave = s; bit_of = n }) b

link_run_direction : (t : Contents) (l : LinkRow) → (link_run_of t l).direction ≡ direction_of t l
unfolding link_run_of
link_run_direction t l = refl

-- each pair of an input in the table is linked in the plan
pub inputs_are_linked : (t : Contents) → table.IsSound t → link_fault t ≡ None → slave_fault t ≡ None → (b s o : ℕ) → IsPair t In b s o → in_source (plan_of t).in_links b ≡ Some (record { slave = s; bit_of = o })
inputs_are_linked t sound h g b s o p =
    let l : LinkRow = p.linked.link in
    let at : slice_get t.links p.linked.place ≡ Some l = p.linked.there in
    let lt : p.linked.place < length t.links = slice_get_within t.links p.linked.place l at in
    let same_row : get_or t.links p.linked.place l ≡ l = get_or_from_slice_get t.links p.linked.place l l at in
    let row : table.IsLink t.slaves t.variables l = subst (table.IsLink t.slaves t.variables) same_row (sound.links p.linked.place l lt) in
    let fits : LinkFits t l = subst (LinkFits t) same_row (links_fit t h p.linked.place l lt) in
    let bits : List (Option ObjectBit) = object_bits t s In in
    let inside : o < length bits = slice_get_within bits o (named l.index l.subindex (l.bits.entry_bit + p.linked.i)) p.linked.object_is in
    let a = at_run (entries_of t s In) l.index l.subindex o (l.bits.entry_bit + p.linked.i) (in_once t g s (omega (arith, p.linked.slave_is, row.slave))) (omega (arith, row.least)) inside
    (get_or_from_slice_get bits o (named l.index l.subindex (l.bits.entry_bit + p.linked.i)) (named l.index l.subindex (l.bits.entry_bit + p.linked.i)) p.linked.object_is)
    (get_or_from_slice_get bits o (named l.index l.subindex (l.bits.entry_bit + p.linked.i)) None p.linked.object_is) in
    let run = run_in t l s a.run p.linked.way p.linked.slave_is a.is in
    let object : o ≡ (link_run_of t l).object_bit + p.linked.i = omega (arith, link_run_bit t l a.run run, a.at) in
    let image : b ≡ (link_of t (link_run_of t l)).image + p.linked.i = omega (arith, link_run_image t l, p.image_is, p.linked.bit_is, ap (image_from t.variables) p.linked.variable_is) in
    let high : b < (link_of t (link_run_of t l)).image + l.bits.count = omega (arith, image, p.linked.inside) in
    let here : Holds t l b = record { way = p.linked.way; sound = row; fits = fits; low = omega (arith, image); high = high } in
    let found = some_in t t.links b p.linked.place l at (link_run_back t l p.linked.way) (omega (arith, image)) (omega (arith, image, link_run_count t l, p.linked.inside)) in
    let f = find_in t t.links b found.0 found.1 in
    let f_lt : f.at < length t.links = slice_get_within t.links f.at f.link f.there in
    let f_row : get_or t.links f.at f.link ≡ f.link = get_or_from_slice_get t.links f.at f.link f.link f.there in
    let there : Holds t f.link b = record {
      way = same_way (direction_of t f.link) In (ap is_out (sym (link_run_direction t f.link)) ∙ f.way);
      sound = subst (table.IsLink t.slaves t.variables) f_row (sound.links f.at f.link f_lt);
      fits = subst (LinkFits t) f_row (links_fit t h f.at f.link f_lt);
      low = omega (arith, f.image_is);
      high = omega (arith, f.image_is, f.inside, link_run_count t f.link);
    } in
    let same : f.at ≡ p.linked.place = one_place t h f.at p.linked.place f.link l b f.there at there here in
    let link : f.link ≡ l = let e : Some f.link ≡ Some l = sym f.there ∙ ap (slice_get t.links) same ∙ at in cc in
    let bit : found.0.bit_of ≡ o = omega (arith, f.image_is, f.object_is, object, image, ap (λ (x : LinkRow). (link_of t (link_run_of t x)).image) link, ap (λ (x : LinkRow). (link_run_of t x).object_bit) link) in
    let slave : found.0.slave ≡ s = f.slave_is ∙ ap (λ (x : LinkRow). (link_run_of t x).slave) link ∙ link_run_slave t l ∙ sym p.linked.slave_is in
    let value : found.0 ≡ record { slave = s; bit_of = o } = linked_is found.0 s o slave bit in
    ap (λ ls. in_source ls b) (plan_in t) ∙ found.1 ∙ ap Some value

pub its_links : (t : Contents) (p : PlanState) → table.IsSound t → compile_fault t ≡ None → p ≡ plan_of t → AreItsLinks t p
its_links t p sound h e =
    let none = no_fault t h in
    subst (AreItsLinks t) (sym e) (record {
      outputs = λ s o b. (output_pairs t sound none.link s o b, outputs_are_linked t sound none.link none.slave s o b);
      inputs = λ b s o. (λ e. input_pairs t sound none.link b (record { slave = s; bit_of = o }) e, inputs_are_linked t sound none.link none.slave b s o);
    })

pub links_are_the_tables : PlansHaveTheLinks
links_are_the_tables t sound free = its_links t (plan_of t) sound free refl
