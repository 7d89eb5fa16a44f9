-- What a download finds in an assignment object.
use Rattle.std.proofs.Common.{ℕ, zero, suc, ◌*◌, ◌^◌, ◌<◌, ◌≤◌, ◌≡◌, ◌≢◌, ◌==◌, Bool, true, false, Option, Some, None, Result, Ok, Err, refl, sym, ◌∙◌, ap, subst, inl, inr, arith, if◌then◌else◌, length, slice_get, option_map}
use Rattle.std.specs.Option.{option_or}
use Rattle.std.proofs.lemmas.Bool.{eqb-true, or_cases}
use Rattle.std.proofs.lemmas.Option.{slice_get-map, slice_get_cases}
use Rattle.ec_coe.specs.declared.value.ValueSize.{ValueSize}
use Rattle.ec_coe.specs.declared.value.ValueSize.TheVariants.{One, Two, Three, Four}
use Rattle.ec_coe.specs.declared.value.SdoValue.{SdoValue}
use Rattle.ec_coe.specs.declared.abort_code.AbortCode.{AbortCode}
use Rattle.ec_coe.specs.declared.abort_code.AbortCode.TheVariants.{NoObject, NoSubindex}
use Rattle.ec_coe.specs.Messages.{size_number}
use Rattle.ec_coe.specs.Objects.{Assignment, Dictionary, output_assignment, input_assignment, is_assignment, assignment_values, byte_value, word_value, has_some, object_values, own_values}
use Rattle.ec_coe.specs.Transfers.{value_at, value_or_abort, uploaded}

abbrev good : SdoValue → Result SdoValue AbortCode
good v = Ok v

-- a value that stands at a subindex of an assignment object: the subindex is there, and the value has 1 or 2 bytes
pub record StandsThere (a : Assignment) (subindex : ℕ) (v : SdoValue) : Type 0 where
  pub there : subindex ≤ length a.slots
  pub short : size_number v.size ≤ 2

stands-count : (a : Assignment) (v : SdoValue) → good (byte_value a.count) ≡ good v → StandsThere a 0 v
stands-count a v e = let f : byte_value a.count ≡ v = cc in record { there = omega arith; short = subst (λ (x : SdoValue). size_number x.size ≤ 2) f (omega arith) }

stands-slot : (a : Assignment) (k : ℕ) (v : SdoValue) → value_or_abort (option_map word_value (slice_get a.slots k)) ≡ good v → StandsThere a (suc k) v
stands-slot a k v e = elim (slice_get_cases a.slots k).1 [
  | inl w ↦
      let f : good (word_value w.0) ≡ good v = sym (ap (λ (o : Option ℕ). value_or_abort (option_map word_value o)) w.2) ∙ e in
      let g : word_value w.0 ≡ v = cc in
      let inside : k < length a.slots = w.1 in
      record { there = omega arith; short = subst (λ (x : SdoValue). size_number x.size ≤ 2) g (omega arith) }
  | inr w ↦
      let none : Result SdoValue AbortCode = Err NoSubindex in
      let f : none ≡ good v = sym (ap (λ (o : Option ℕ). value_or_abort (option_map word_value o)) w.1) ∙ e in
      absurd (cc)
]

stands : (b : Bool) (a : Assignment) (subindex : ℕ) (v : SdoValue) → value_at (option_or (if b then Some (assignment_values a) else None) None) subindex ≡ good v → StandsThere a subindex v
stands true a zero v e = stands-count a v e
stands true a (suc k) v e = stands-slot a k v (ap value_or_abort (sym (slice_get-map word_value a.slots k)) ∙ e)
stands false a subindex v e = let none : Result SdoValue AbortCode = Err NoObject in let f : none ≡ good v = e in absurd (cc)

pub outs-own : (d : Dictionary) (index subindex : ℕ) (v : SdoValue) → index ≡ output_assignment → value_at (own_values d index) subindex ≡ good v → StandsThere d.outs subindex v
unfolding object_values
outs-own d index subindex v i e = stands (has_some d.kind.outputs) d.outs subindex v (sym (ap (λ (k : ℕ). value_at (own_values d k) subindex) i) ∙ e)

pub ins-own : (d : Dictionary) (index subindex : ℕ) (v : SdoValue) → index ≡ input_assignment → value_at (own_values d index) subindex ≡ good v → StandsThere d.ins subindex v
unfolding object_values
ins-own d index subindex v i e = stands (has_some d.kind.inputs) d.ins subindex v (sym (ap (λ (k : ℕ). value_at (own_values d k) subindex) i) ∙ e)

pub outs-stand : (d : Dictionary) (index subindex : ℕ) (v : SdoValue) → index ≡ output_assignment → uploaded d index subindex ≡ good v → StandsThere d.outs subindex v
unfolding uploaded
outs-stand d index subindex v i e = outs-own d output_assignment subindex v refl (sym (ap (λ (k : ℕ). uploaded d k subindex) i) ∙ e)

pub ins-stand : (d : Dictionary) (index subindex : ℕ) (v : SdoValue) → index ≡ input_assignment → uploaded d index subindex ≡ good v → StandsThere d.ins subindex v
unfolding uploaded
ins-stand d index subindex v i e = ins-own d input_assignment subindex v refl (sym (ap (λ (k : ℕ). uploaded d k subindex) i) ∙ e)

-- a number of at most two bytes
pub short-number : (s : ValueSize) (n m : ℕ) → n < 2 ^ (8 * size_number s) → size_number s ≡ m → m ≤ 2 → n < 65536
short-number One n m l e h = omega arith
short-number Two n m l e h = l
short-number Three n m l e h = absurd (omega arith)
short-number Four n m l e h = absurd (omega arith)

-- the other of the two objects that assign PDOs
pub other-assigned : (index : ℕ) → is_assignment index ≡ true → index ≢ output_assignment → index ≡ input_assignment
other-assigned index on ne = elim (or_cases (index == output_assignment) (index == input_assignment) on) [
  | inl outs ↦ absurd (ne (eqb-true index output_assignment outs))
  | inr ins ↦ eqb-true index input_assignment ins
]
