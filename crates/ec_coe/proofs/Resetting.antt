-- Parameters that get the values that their objects have without them, and how they are found among the values.
use Rattle.std.proofs.Common.{ℕ, zero, suc, ◌+◌, ◌<◌, ◌≤◌, ◌≡◌, ◌≢◌, Bool, true, false, refl, sym, ◌∙◌, ap, inl, inr, arith, List, [], ◌∷◌, length, map, set, slice_get, Option, Some, None, IfSome, Result, Ok, Err, unwrap_or, length-set}
use Rattle.std.specs.Option.{option_or}
use Rattle.std.proofs.lemmas.Bool.{cases_eq}
use Rattle.std.proofs.lemmas.List.{same_lists, length-map}
use Rattle.std.proofs.lemmas.Option.{unwrap_or-slice_get}
use Rattle.std.proofs.lemmas.List.Quantifiers.{position-Some}
use Rattle.ec_device.specs.declared.parameter.Parameter.{Parameter}
use Rattle.ec_device.specs.declared.parameter.ParameterSize.TheVariants.{One as OneByte}
use Rattle.ec_device.specs.Parameters.{is_of, parameter_at}
use Rattle.ec_coe.specs.declared.abort_code.AbortCode.{AbortCode}
use Rattle.ec_coe.specs.declared.abort_code.AbortCode.TheVariants.{NoObject, NoSubindex}
use Rattle.ec_coe.specs.declared.value.SdoValue.{SdoValue}
use Rattle.ec_coe.specs.Objects.{Assignment, Dictionary, all_assigned, no_values_if, object_values}
use Rattle.ec_coe.specs.Transfers.{value_at, value_or_abort}
use Rattle.ec_coe.specs.SwitchedOn.{first_value, new_dictionary}

abbrev pub missing : AbortCode → Result SdoValue AbortCode
missing code = Err code

abbrev found : SdoValue → Result SdoValue AbortCode
found v = Ok v

abbrev pub wanted : Dictionary → List SdoValue
wanted d = map (first_value d) d.kind.init

-- the first k of them have their values
pub record Reset (before d : Dictionary) (k : ℕ) : Type 0 where
  pub is : d ≡ record before { values = d.values }
  pub same : length d.values ≡ length before.kind.init
  pub front : (j : ℕ) → j < k → slice_get d.values j ≡ slice_get (wanted before) j

-- ---- an element that is set

set-same : {X : Type 0} (xs : List X) (k : ℕ) (y : X) → k < length xs → slice_get (set xs k y) k ≡ Some y
set-same [] k y l = absurd (omega arith)
set-same (x ∷ xs) zero y l = refl
set-same (x ∷ xs) (suc k) y l = set-same xs k y (omega arith)

set-other : {X : Type 0} (xs : List X) (k j : ℕ) (y : X) → j ≢ k → slice_get (set xs k y) j ≡ slice_get xs j
set-other [] k j y n = refl
set-other (x ∷ xs) zero zero y n = absurd (n refl)
set-other (x ∷ xs) zero (suc j) y n = refl
set-other (x ∷ xs) (suc k) zero y n = refl
set-other (x ∷ xs) (suc k) (suc j) y n = set-other xs k j y (λ e. n (ap suc e))

-- ---- the values don't touch what their objects have without them

wanted-beside : (d : Dictionary) (values : List SdoValue) → wanted (record d { values = values }) ≡ wanted d
unfolding object_values
wanted-beside d values = refl

pub reset-none : (d : Dictionary) → length d.values ≡ length d.kind.init → Reset d d 0
reset-none d same = record { is = refl; same = same; front = λ j l. absurd (omega arith) }

pub reset-more : (before d : Dictionary) (k : ℕ) (v : SdoValue) → Reset before d k → k < length d.values → slice_get (wanted d) k ≡ Some v → Reset before (record d { values = set d.values k v }) (k + 1)
reset-more before d k v r l e = record {
  is = ap (λ (x : Dictionary). record x { values = set d.values k v }) r.is;
  same = length-set d.values k v ∙ r.same;
  front = λ j m. elim (cases_eq j k) [
    | inl at ↦
        ap (slice_get (set d.values k v)) at
        ∙ (set-same d.values k v l
        ∙ (sym e ∙ (ap (λ (xs : List SdoValue). slice_get xs k) (ap wanted r.is ∙ wanted-beside before d.values) ∙ ap (slice_get (wanted before)) (sym at))))
    | inr off ↦ set-other d.values k j v off ∙ r.front j (omega (arith, off))
  ];
}

pub reset-all : (before d : Dictionary) (k : ℕ) → Reset before d k → length d.values ≤ k → d ≡ record before { values = wanted before }
reset-all before d k r e =
    let same = r.same in
    let long = length-map before.kind.init (first_value before) in
    let all : d.values ≡ wanted before
    = same_lists d.values (wanted before) (r.same ∙ sym long) (λ j x l.
    sym (unwrap_or-slice_get d.values j x) ∙ (ap (λ (o : Option SdoValue). unwrap_or o x) (r.front j (omega (arith, e))) ∙ unwrap_or-slice_get (wanted before) j x)) in
    r.is ∙ ap (λ (xs : List SdoValue). record before { values = xs }) all

-- a dictionary with all PDOs assigned is new once its parameters are reset
pub fresh : (d : Dictionary) → d.outs ≡ all_assigned d.kind.outputs → d.ins ≡ all_assigned d.kind.inputs → record d { values = wanted d } ≡ new_dictionary d.kind d.identity
unfolding object_values
fresh d e f =
    ap (λ (a : Assignment). let x : Dictionary = record d { outs = a } in record x { values = wanted x }) e
    ∙ ap (λ (a : Assignment). let x : Dictionary = record d { outs = all_assigned d.kind.outputs; ins = a } in record x { values = wanted x }) f

-- ---- a value that isn't a parameter

err-apart : (v : SdoValue) (code : AbortCode) → missing code ≡ found v → ⊥
err-apart v code e = cc

subindex-apart : missing NoSubindex ≡ missing NoObject → ⊥
subindex-apart e = cc

-- an object with values isn't missing
never-missing : (o : Option SdoValue) → value_or_abort o ≡ missing NoObject → ⊥
never-missing None e = subindex-apart e
never-missing (Some v) e = err-apart v NoObject (sym e)

-- there for parameters alone
pub own-listed : (o : Option (List SdoValue)) (subindex : ℕ) → value_at o subindex ≡ missing NoObject → value_at (option_or o (no_values_if true)) subindex ≡ missing NoSubindex
own-listed None subindex e = refl
own-listed (Some values) subindex e = absurd (never-missing (slice_get values subindex) e)

pub own-unlisted : (o : Option (List SdoValue)) (subindex : ℕ) → value_at (option_or o (no_values_if false)) subindex ≡ value_at o subindex
own-unlisted None subindex = refl
own-unlisted (Some values) subindex = refl

pub own-there : (o : Option (List SdoValue)) (b : Bool) (subindex : ℕ) → (value_at o subindex ≡ missing NoObject → ⊥) → value_at (option_or o (no_values_if b)) subindex ≡ value_at o subindex
own-there None b subindex n = absurd (n refl)
own-there (Some values) b subindex n = refl

-- ---- the place of a parameter

pub inside-found : (qs : List Parameter) (index subindex : ℕ) (o : Option ℕ) → o ≡ parameter_at qs index subindex → IfSome o (λ (place : ℕ). place < length qs)
inside-found qs index subindex None e = tt
inside-found qs index subindex (Some place) e = (position-Some (is_of index subindex) qs place no_row (sym e)).0
  where
    no_row : Parameter
    no_row = record { index = 0; subindex = 0; size = OneByte; value = 0 }
