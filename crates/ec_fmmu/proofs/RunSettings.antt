-- The settings made of a run map it.
use Rattle.std.proofs.Common.{◌≡◌, ℕ, ◌+◌, ◌/◌, ◌%◌, ◌<◌, ◌≤◌, eqb, Bool, true, false, refl, sym, ap, ◌∙◌, subst, arith, inl, inr}
use Rattle.std.proofs.lemmas.Bool.{cases_Bool, cases_eq}
use Rattle.std.proofs.lemmas.Bool.Decides.{nat_tests}
use Rattle.ec_bits.specs.Bits.{bytes_of_bits}
use Rattle.ec_regs.specs.declared.fmmu.FmmuSettings.{FmmuSettings}
use Rattle.ec_regs.specs.Memory.{ram_start, ram_end}
use Rattle.ec_regs.specs.Fmmus.{no_fmmu}
use Rattle.ec_fmmu.specs.Runs.{MapsRun, RunOf, RunInRam, Mapping, Nothing, run_settings}
use Rattle.ec_fmmu.specs.Laws.{RunSettingsMapTheRun}

-- those of a run with bits
abbrev run : (reads writes : Bool) → (from bits start : ℕ) → FmmuSettings
run reads writes from bits start = record {
  logical_start = from / 8;
  length = (from % 8 + bits + 7) / 8;
  start_bit = from % 8;
  stop_bit = (from % 8 + bits + 7) % 8;
  physical_start = start;
  physical_bit = 0;
  reads = reads;
  writes = writes;
  active = true;
}

pub run_is : (reads writes : Bool) (from bits start : ℕ) → 0 < bits → run_settings reads writes from bits start ≡ run reads writes from bits start
unfolding run_settings
run_is reads writes from bits start some = let e : eqb bits 0 ≡ false = grind (arith, nat_tests, some) in rw e refl

pub run_is_none : (reads writes : Bool) (from start : ℕ) → run_settings reads writes from 0 start ≡ no_fmmu
unfolding run_settings
run_is_none reads writes from start = refl

maps : (reads writes : Bool) (from bits start : ℕ) → 0 < bits → ram_start ≤ start → start + bytes_of_bits bits ≤ ram_end → MapsRun (run reads writes from bits start) from bits start
maps reads writes from bits start some low high = record {
  count = omega (arith);
  logical = omega arith;
  physical = omega arith;
  from_ram = low;
  to_ram = high;
}

pub run_maps : (reads writes : Bool) (from bits start : ℕ) → 0 < bits → ram_start ≤ start → start + bytes_of_bits bits ≤ ram_end → MapsRun (run_settings reads writes from bits start) from bits start
run_maps reads writes from bits start some low high = subst (λ (f : FmmuSettings). MapsRun f from bits start) (sym (run_is reads writes from bits start some)) (maps reads writes from bits start some low high)

pub run_reads : (reads writes : Bool) (from bits start : ℕ) → RunInRam bits start → reads ≡ true → RunOf (run_settings reads writes from bits start) (run_settings reads writes from bits start).reads from bits start
run_reads reads writes from bits start h t =
    elim (cases_eq bits 0) [
      | inl z ↦ Nothing (ap (λ (n : ℕ). (run_settings reads writes from n start).reads) z ∙ ap (λ (f : FmmuSettings). f.reads) (run_is_none reads writes from start)) z
      | inr some ↦ let lt : 0 < bits = omega (arith, some) in
          Mapping (ap (λ (f : FmmuSettings). f.reads) (run_is reads writes from bits start lt) ∙ t) (run_maps reads writes from bits start lt (h lt).0 (h lt).1)
    ]

pub run_writes : (reads writes : Bool) (from bits start : ℕ) → RunInRam bits start → writes ≡ true → RunOf (run_settings reads writes from bits start) (run_settings reads writes from bits start).writes from bits start
run_writes reads writes from bits start h t =
    elim (cases_eq bits 0) [
      | inl z ↦ Nothing (ap (λ (n : ℕ). (run_settings reads writes from n start).writes) z ∙ ap (λ (f : FmmuSettings). f.writes) (run_is_none reads writes from start)) z
      | inr some ↦ let lt : 0 < bits = omega (arith, some) in
          Mapping (ap (λ (f : FmmuSettings). f.writes) (run_is reads writes from bits start lt) ∙ t) (run_maps reads writes from bits start lt (h lt).0 (h lt).1)
    ]

pub run_no_reads : (writes : Bool) (from bits start : ℕ) → (run_settings false writes from bits start).reads ≡ false
unfolding run_settings
run_no_reads writes from bits start = elim (cases_Bool (eqb bits 0)) [ inl t ↦ rw t refl | inr f ↦ rw f refl ]

pub run_no_writes : (reads : Bool) (from bits start : ℕ) → (run_settings reads false from bits start).writes ≡ false
unfolding run_settings
run_no_writes reads from bits start = elim (cases_Bool (eqb bits 0)) [ inl t ↦ rw t refl | inr f ↦ rw f refl ]

pub run_settings_map_the_run : RunSettingsMapTheRun
run_settings_map_the_run reads writes from bits start h = (
  run_reads reads writes from bits start h,
  run_writes reads writes from bits start h,
  λ f. subst (λ (r : Bool). (run_settings r writes from bits start).reads ≡ false) (sym f) (run_no_reads writes from bits start),
  λ f. subst (λ (w : Bool). (run_settings reads w from bits start).writes ≡ false) (sym f) (run_no_writes reads from bits start),
)
