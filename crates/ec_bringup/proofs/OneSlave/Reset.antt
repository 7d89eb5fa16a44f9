-- A slave that is reset stands where it stood, if it has no station address yet, and else is gone.
use Rattle.ec_bringup.proofs.Words.{ℕ, zero, suc, ◌+◌, ◌≡◌, ◌⊎◌, Bool, true, refl, sym, ◌∙◌, ap, subst, inl, inr, List, [], ◌∷◌, length, get_or, both_ways, length-map, zeros, Identity, Pdo, SlaveKind, SyncManager, no_manager, Assignment, all_assigned, Al, manager_at, power_on, switched_on, Stage, Before, Called, Down, Lowered, Up, IsOfKind, HoldsZeros, IsInInit, HasFallen, AreClear, IsDownAt, IsLoweredAt, Reached, IsGone, HadFault, Stands, map, Dictionary, size_number, Parameter, byte_count, sizes_of, sizes_in}
use Rattle.ec_device.specs.declared.parameter.ParameterSize.{ParameterSize}
use Rattle.ec_device.specs.declared.parameter.ParameterSize.TheVariants.{One as OneByte, Two as TwoBytes, Four as FourBytes}
use Rattle.ec_coe.specs.SwitchedOn.{bare_dictionary, first_value, value_size}

pub get_or-zeros : (n k : ℕ) → get_or (zeros n) k 0 ≡ 0
get_or-zeros zero k = refl
get_or-zeros (suc n) zero = refl
get_or-zeros (suc n) (suc k) = get_or-zeros n k

empty_at : (n : ℕ) → manager_at (no_manager ∷ no_manager ∷ no_manager ∷ no_manager ∷ []) n ≡ no_manager
empty_at (suc (suc (suc (suc n)))) = refl
empty_at _ = refl

-- the values of the parameters have their sizes
size-is : (z : ParameterSize) → size_number (value_size z) ≡ byte_count z
size-is OneByte = refl
size-is TwoBytes = refl
size-is FourBytes = refl

first-sizes : (d : Dictionary) (qs : List Parameter) → sizes_of (map (first_value d) qs) ≡ sizes_in qs
first-sizes d [] = refl
first-sizes d (q ∷ qs) =
    ap (λ (n : ℕ). n ∷ sizes_of (map (first_value d) qs)) (size-is q.size) ∙ ap (λ (ns : List ℕ). byte_count q.size ∷ ns) (first-sizes d qs)

pub power_on_is : (kind : SlaveKind) (identity : Identity) → IsOfKind kind (power_on kind identity)
power_on_is kind identity =
    let on = switched_on kind identity in record {
      kind_is = on.kind_is;
      room = on.room;
      four = ap length on.managers;
      outs = ap (λ (a : Assignment). length a.slots) on.outs ∙ length-map kind.outputs (λ (p : Pdo). p.index);
      ins = ap (λ (a : Assignment). length a.slots) on.ins ∙ length-map kind.inputs (λ (p : Pdo). p.index);
      fixed = λ _. record {
        outs = on.outs ∙ ap (λ (k : SlaveKind). all_assigned k.outputs) (sym on.kind_is);
        ins = on.ins ∙ ap (λ (k : SlaveKind). all_assigned k.inputs) (sym on.kind_is);
      };
      sizes = ap sizes_of on.values ∙ first-sizes (bare_dictionary kind identity) kind.init;
      unlocked_in_init = λ _ n l. ap (λ (ms : List SyncManager). (manager_at ms n).locked) on.managers ∙ ap (λ (m : SyncManager). m.locked) (empty_at n);
      missing = λ a e. on.memory a;
    }

power_on_init : (kind : SlaveKind) (identity : Identity) → IsInInit (power_on kind identity)
power_on_init kind identity =
    let on = switched_on kind identity in record {
      state = ap (λ (a : Al). a.state) on.al;
      no_error = λ f. ap (λ (a : Al). a.error) on.al;
      asked = λ e. absurd (both_ways (power_on kind identity).al.requested (ap (λ (a : Al). a.requested) on.al) e);
    }

power_on_fallen : (kind : SlaveKind) (identity : Identity) → HasFallen (power_on kind identity)
power_on_fallen kind identity = let h = power_on_init kind identity in record { state = h.state; no_error = λ f q. h.no_error f; asked = h.asked }

power_on_clear : (kind : SlaveKind) (identity : Identity) → AreClear (power_on kind identity)
power_on_clear kind identity =
    let on = switched_on kind identity in
    record {
      settings = λ n l. ap (λ (ms : List SyncManager). (manager_at ms n).settings) on.managers ∙ ap (λ (x : SyncManager). x.settings) (empty_at n);
      no_messages = λ n l. ap (λ (ms : List SyncManager). (manager_at ms n).mail) on.managers ∙ ap (λ (x : SyncManager). x.mail) (empty_at n);
      outputs = subst (λ (ms : List SyncManager). HoldsZeros (manager_at ms 2)) (sym on.managers) refl;
    }

power_on_down : (kind : SlaveKind) (identity : Identity) (f m : Bool) → IsDownAt f m (power_on kind identity)
power_on_down kind identity f m = record {
  init = power_on_init kind identity;
  fmmus = λ _ k l. (switched_on kind identity).memory (0x0600 + k);
  managers = λ _. power_on_clear kind identity;
}

power_on_lowered : (kind : SlaveKind) (identity : Identity) (f m : Bool) → IsLoweredAt f m (power_on kind identity)
power_on_lowered kind identity f m = record {
  low = power_on_fallen kind identity;
  fmmus = λ _ k l. (switched_on kind identity).memory (0x0600 + k);
  managers = λ _. power_on_clear kind identity;
}

power_on_same : (kind : SlaveKind) (identity : Identity) → power_on kind identity ≡ power_on (power_on kind identity).kind (power_on kind identity).identity
power_on_same kind identity =
    let on = switched_on kind identity in
    sym (ap (λ (k : SlaveKind). power_on k (power_on kind identity).identity) on.kind_is ∙ ap (λ (i : Identity). power_on kind i) on.identity_is)

pub reset_reached : (kind : SlaveKind) (identity : Identity) (i : ℕ) (st : Stage)
    → Reached i st (power_on kind identity) ⊎ ((true ≡ true) × (IsGone st (power_on kind identity) ⊎ HadFault i st (power_on kind identity)))
reset_reached kind identity i Before = inl tt
reset_reached kind identity i Called = inl (inr (power_on_fallen kind identity))
reset_reached kind identity i (Down f m) = inl (power_on_down kind identity f m)
reset_reached kind identity i (Lowered f m) = inl (power_on_lowered kind identity f m)
reset_reached kind identity i (Up c) = inr (refl, inl (power_on_same kind identity))

-- whatever it was
pub reset_stands : (kind : SlaveKind) (identity : Identity) (i : ℕ) (st : Stage) → Stands kind i st true (power_on kind identity)
reset_stands kind identity i st = record { slave = power_on_is kind identity; at = reset_reached kind identity i st }
