-- How many entries and bits a slave's objects have.
use Rattle.std.proofs.Common.{◌≡◌, ℕ, ◌*◌, ◌<◌, ◌≤◌, ◌==◌, List, [], ◌∷◌, length, Option, Some, None, All, Contains, find, slice_get, slice_index_or, subst, length-append, flat_map, if◌then◌else◌, arith, refl, sym, ◌∙◌}
use Rattle.std.proofs.lemmas.List.FromFn.{length-map-range_with_len}
use Rattle.std.specs.List.{position_or_len}
use Rattle.std.specs.Option.{option_map_or}
use Rattle.std.specs.Cmp.{nat_eq_equiv}
use Rattle.std.proofs.lemmas.Bool.Decides.{Decides-eqb}
use Rattle.std.proofs.lemmas.List.{length-map}
use Rattle.std.proofs.lemmas.List.Elements.{All-nil, All-append, All-contains, All-get_or}
use Rattle.std.proofs.lemmas.List.Folds.{find_at}
use Rattle.std.proofs.lemmas.List.Sums.{sum_by-le, sum_by-cons}
use Rattle.std.proofs.lemmas.Map.Made.{length-le_from_is_member, IsDistinct-from_AllPairs}
use Rattle.std.proofs.lemmas.Map.Views.{Contains-from_any, list_any-from_Contains}
use Rattle.std.proofs.lemmas.Option.{slice_get_within, get_or_from_slice_get, slice_get_read}
use Rattle.ec_device.specs.declared.slave_type.Entry.{Entry}
use Rattle.ec_device.specs.declared.slave_type.Pdo.{Pdo}
use Rattle.ec_table.specs.declared.rows.Direction.{Direction}
use Rattle.ec_table.specs.declared.rows.TypeRow.{TypeRow}
use Rattle.ec_table.specs.declared.rows.SlaveRow.{SlaveRow}
use Rattle.ec_table.specs.Contents.{Contents, pdos_toward, assigned_toward}
use Rattle.ec_table.specs.Pdos.{indices_of}
use Rattle.ec_device.specs.Hardware.{is_assignable}
use Rattle.ec_device.specs.Types.{IsEntry, IsPdo, ArePdos}
use Rattle.ec_device.specs.Objects.{entries_at, assigned_entries, bits_of, entry_bits}
use Rattle.ec_table.specs.Sound.{IsOnce, IsType, IsAssignment, IsSlave, AreSlaves, first_index}
use Rattle.ec_table.proofs.Ranges.{limits_toward}
use Rattle.ec_table.specs.Objects.{entries_of, type_of}
use Rattle.ec_table.specs.Laws.{ObjectBitsAreCounted, EntriesAreAssigned, EntriesAreFew}

-- no list without doubles is longer than one that has all its elements
length_le : (xs ys : List ℕ) → IsOnce xs → All (Contains ys) xs → length xs ≤ length ys
length_le xs ys once known =
    length-le_from_is_member nat_eq_equiv xs ys (IsDistinct-from_AllPairs Decides-eqb xs once)
    (λ q h. list_any-from_Contains nat_eq_equiv q ys (All-contains (Contains ys) xs q known (Contains-from_any (λ x y e. (Decides-eqb x y).0 e) q xs h)))

-- the object that is found is one of the list
found_met : (P : Pdo → Type 0) (index : ℕ) (pdos : List Pdo) → All P pdos → (q : Pdo) → find (λ (q : Pdo). q.index == index) pdos ≡ Some q → P q
found_met P index pdos h q is =
    let k : ℕ = position_or_len (λ (q : Pdo). q.index == index) pdos in
    let at : slice_get pdos k ≡ Some q = sym (find_at (λ (q : Pdo). q.index == index) pdos) ∙ is in
    subst P (get_or_from_slice_get pdos k q q at) (All-get_or P pdos k q (slice_get_within pdos k q at) h)

pub record FewEntries (es : List Entry) : Type 0 where
  pub each : All IsEntry es
  pub few : length es ≤ 64

entries_found : (direction : Direction) (o : Option Pdo) → ((q : Pdo) → o ≡ Some q → IsPdo (first_index direction) q) → FewEntries (option_map_or (λ (q : Pdo). q.entries) o [])
entries_found direction None h = record { each = All-nil IsEntry; few = omega arith }
entries_found direction (Some q) h = record { each = (h q refl).entries; few = (h q refl).few }

entries_met : (direction : Direction) (pdos : List Pdo) (index : ℕ) → ArePdos (first_index direction) pdos → FewEntries (entries_at pdos index)
entries_met direction pdos index h = entries_found direction (find (λ (q : Pdo). q.index == index) pdos) (λ q is. found_met (IsPdo (first_index direction)) index pdos h.each q is)

all_entries : (direction : Direction) (pdos : List Pdo) (indices : List ℕ) → ArePdos (first_index direction) pdos → All IsEntry (assigned_entries pdos indices)
all_entries direction pdos [] h = All-nil IsEntry
all_entries direction pdos (x ∷ xs) h = All-append IsEntry (entries_at pdos x) (assigned_entries pdos xs) (entries_met direction pdos x h).each (all_entries direction pdos xs h)

entry_count : (direction : Direction) (pdos : List Pdo) (indices : List ℕ) → ArePdos (first_index direction) pdos → length (assigned_entries pdos indices) ≤ 64 * length indices
entry_count direction pdos [] h = omega arith
entry_count direction pdos (x ∷ xs) h = simp length-append (omega (arith, (entries_met direction pdos x h).few, entry_count direction pdos xs h))

-- sixteen objects at most
pub few_entries : (direction : Direction) (t : TypeRow) (s : SlaveRow) → ArePdos (first_index direction) (pdos_toward direction t) → IsAssignment (is_assignable t.mailbox t.hardware) (pdos_toward direction t) (assigned_toward direction s) → length (assigned_entries (pdos_toward direction t) (assigned_toward direction s)) ≤ 1024
few_entries direction t s h a =
    let pdos : List Pdo = pdos_toward direction t in
    let indices : List ℕ = assigned_toward direction s in
    omega (arith, entry_count direction pdos indices h, length_le indices (indices_of pdos) a.once a.known, length-map pdos (λ (q : Pdo). q.index), h.few)

pub few_bits : (es : List Entry) → All IsEntry es → length es ≤ 1024 → bits_of es ≤ 65536
few_bits es h few = omega (arith, sum_by-le (λ (e : Entry). e.bits) 64 es (λ k d lt. (h k d lt).few))

pub record ObjectBounds (es : List Entry) : Type 0 where
  pub each : All IsEntry es
  pub few : length es ≤ 1024
  pub bits : bits_of es ≤ 65536

-- the row of a slave, as an index reads it
pub row_at : (ss ts : List SlaveRow) (s : ℕ) (r : SlaveRow) → ss ≡ ts → s < length ts → r ≡ slice_index_or ss s r → slice_get ts s ≡ Some r
row_at ss ts s r same lt is = let here : r ≡ slice_index_or ts s r = rw same at is in slice_get_read ts (length ts) s r refl lt here

pub entries_are : (c : Contents) (s : ℕ) (d : Direction) (r : SlaveRow) (t : TypeRow) → slice_get c.slaves s ≡ Some r → type_of c s ≡ Some t → entries_of c s d ≡ assigned_entries (pdos_toward d t) (assigned_toward d r)
unfolding entries_of
entries_are c s d r t is it = let at : slice_get c.types r.type_index ≡ Some t = rw is at it in rw (is, at)

pub object_bounds : (c : Contents) (s : ℕ) (d : Direction) (r : SlaveRow) (t : TypeRow) → AreSlaves c.version c.types c.slaves → slice_get c.slaves s ≡ Some r → type_of c s ≡ Some t → IsType t → ObjectBounds (entries_of c s d)
object_bounds c s d r t slaves is it kind =
    let at : slice_get c.types r.type_index ≡ Some t = rw is at it in
    let row : IsSlave c.version c.types r = subst (IsSlave c.version c.types) (get_or_from_slice_get c.slaves s r r is) (slaves.each s r (slice_get_within c.slaves s r is)) in
    let each : All IsEntry (assigned_entries (pdos_toward d t) (assigned_toward d r)) = all_entries d (pdos_toward d t) (assigned_toward d r) (limits_toward t kind d) in
    let few : length (assigned_entries (pdos_toward d t) (assigned_toward d r)) ≤ 1024 = few_entries d t r (limits_toward t kind d) (row.assigned t d at) in
    subst ObjectBounds (sym (entries_are c s d r t is it)) (record { each = each; few = few; bits = few_bits _ each few })

pub entries_are_assigned : EntriesAreAssigned
entries_are_assigned c s d r t is it = entries_are c s d r t is it

pub entries_are_few : EntriesAreFew
entries_are_few c s d r t slaves is it kind = (object_bounds c s d r t slaves is it kind).bits

count_bits : (es : List Entry) → length (flat_map entry_bits es) ≡ bits_of es
count_bits [] = refl
count_bits (e ∷ es) =
    let here : length (entry_bits e) ≡ e.bits = length-map-range_with_len (λ k. if e.index == 0 then None else Some (record { index = e.index; subindex = e.subindex; bit = k })) 0 e.bits in
    length-append (entry_bits e) (flat_map entry_bits es) ∙ rw (here, count_bits es) (sym (sum_by-cons (λ (e : Entry). e.bits) e es))

pub object_bits_counted : ObjectBitsAreCounted
object_bits_counted c s d = count_bits (entries_of c s d)
