-- A table of one slave with four output bits, one variable and one link: it is sound, and no fault is in it.
use Rattle.std.proofs.Common.{◌≡◌, ℕ, zero, suc, ◌<◌, true, false, [], ◌∷◌, length, get_or, refl, subst, arith, is_some, Option, Some, None}
use Rattle.std.specs.List.{All, Contains}
use Rattle.ec_device.specs.declared.slave_type.Pdo.{Pdo}
use Rattle.ec_device.specs.Types.{IsEntry, IsPdo, ArePdos, first_output_index, first_input_index}
use Rattle.ec_table.specs.declared.rows.Version.TheVariants.{One}
use Rattle.ec_table.specs.declared.rows.Direction.TheVariants.{Out, In}
use Rattle.ec_table.specs.declared.rows.Direction.{Direction}
use Rattle.ec_device.specs.declared.slave_type.Mailbox.{Mailbox}
use Rattle.ec_device.specs.declared.hardware.Hardware.{Hardware}
use Rattle.ec_device.specs.Hardware.{IsHardware, is_assignable, usual_inputs}
use Rattle.ec_table.specs.Sound as table
use Rattle.ec_table.specs.Pdos.{indices_of}
use Rattle.ec_table.specs.declared.rows.TypeRow.{TypeRow}
use Rattle.ec_table.specs.declared.rows.SlaveRow.{SlaveRow}
use Rattle.ec_table.specs.declared.rows.VariableRow.{VariableRow}
use Rattle.ec_table.specs.Contents.{pdos_toward, assigned_toward}
use Rattle.ec_table.specs.Objects.{entries_of}
use Rattle.ec_link.specs.LinkRuns.{run_of, link_run_of}
use Rattle.ec_link.specs.SlavePlan.{managers_of}
use Rattle.ec_link.specs.Layout.{layout, units_below, unit_count, seated, joined, opened, with_slave, joins}
use Rattle.ec_link.specs.Faults.{compile_fault, link_fault, slave_fault, part_fault, memory_fault, variable_fault, managers_at}
use Rattle.ec_link.specs.Example.{small_type, small_slave, small_variable, small_link, small_table, AcceptedLaw, pins_type, pins_table, AcceptedPinsLaw}

pub accepted : compile_fault small_table ≡ None
unfolding compile_fault link_fault slave_fault part_fault memory_fault variable_fault managers_at entries_of run_of link_run_of managers_of layout units_below unit_count seated joined opened with_slave joins
accepted = refl

-- ---- it is sound

none_box : (m : Mailbox) → None ≡ Some m → ⊥
none_box m e = cc

none_hardware : (h : Hardware) → None ≡ Some h → ⊥
none_hardware h e = cc

-- of a list of one
one : {X : Type 0} (P : X → Type 0) (x : X) → P x → (k : ℕ) (d : X) → k < length (x ∷ []) → P (get_or (x ∷ []) k d)
one P x h zero d l = h
one P x h (suc k) d l = absurd (omega (arith, l))

entry_small : IsEntry (record { index = 0x7000; subindex = 1; bits = 4 })
entry_small = record { some = omega arith; few = omega arith; gap = λ e. absurd (omega (arith, e)) }

outputs_small : ArePdos first_output_index small_type.process.outputs
outputs_small = record {
  few = omega arith;
  each = one (IsPdo first_output_index) _ (record { from = omega arith; below = omega arith; few = omega arith; entries = one IsEntry _ entry_small });
  apart = λ i j d a b. absurd (omega (arith, a, b));
}

inputs_small : ArePdos first_input_index small_type.process.inputs
inputs_small = record { few = omega arith; each = λ k d l. absurd (omega (arith, l)); apart = λ i j d a b. absurd (omega (arith, a, b)) }

entries_named : (d : Direction) → All (λ (q : Pdo). All table.HasName q.entries) (pdos_toward d small_type)
entries_named Out = one (λ (q : Pdo). All table.HasName q.entries) _ (one table.HasName _ (record { index = omega arith; subindex = omega arith }))
entries_named In = λ k d l. absurd (omega (arith, l))

-- nothing is downloaded
no_downloads : (m : Option Mailbox) → table.AreDownloads m []
no_downloads m = record { few = omega arith; each = λ k d l. absurd (omega (arith, l)); mailbox = λ e. refl }

type_sound : table.IsType small_type
type_sound = record {
  name = refl;
  device = record { vendor = omega arith; product = omega arith; revision = omega arith };
  limits = record { mailbox = λ m e. absurd (none_box m e); outputs = outputs_small; inputs = inputs_small };
  mailbox = λ m e. absurd (none_box m e);
  out_start = omega arith;
  in_start = omega arith;
  entries = entries_named;
  hardware = λ h e. absurd (none_hardware h e);
  init = no_downloads None;
}

same_type : (t : TypeRow) → Some small_type ≡ Some t → small_type ≡ t
same_type t e = cc

assigned : (d : Direction) → table.IsAssignment false (pdos_toward d small_type) (assigned_toward d small_slave)
assigned Out = record { known = one (Contains (indices_of small_type.process.outputs)) 0x1600 (0, omega arith, refl); once = λ i j d a b. absurd (omega (arith, a, b)); fixed = λ e. refl }
assigned In = record { known = λ k d l. absurd (omega (arith, l)); once = λ i j d a b. absurd (omega (arith, a, b)); fixed = λ e. refl }

pub sound : table.IsSound small_table
sound = record {
  types = record { each = one table.IsType small_type type_sound; once = λ i j d a b. absurd (omega (arith, a, b)) };
  slaves = record {
    each = one (table.IsSlave One (small_type ∷ [])) small_slave (record {
      name = refl;
      known = omega arith;
      assigned = λ t d e. subst (λ (x : TypeRow). table.IsAssignment (is_assignable x.mailbox x.hardware) (pdos_toward d x) (assigned_toward d small_slave)) (same_type t e) (assigned d);
      serial = omega arith;
      unit = omega arith;
      one_unit = λ e. refl;
      init = λ t e. no_downloads t.mailbox;
    });
    once = λ i j d a b. absurd (omega (arith, a, b));
  };
  variables = record { each = one table.IsVariable small_variable (record { name = refl; least = omega arith; most = omega arith }); once = λ i j d a b. absurd (omega (arith, a, b)) };
  links = one (table.IsLink (small_slave ∷ []) (small_variable ∷ [])) small_link (record {
    variable = omega arith;
    slave = omega arith;
    least = omega arith;
    most = omega arith;
    subindex = omega arith;
    bits = record { variable_bit = omega arith; entry_bit = omega arith; least = omega arith; most = omega arith };
  });
  format = record {
    types = one (λ (t : TypeRow). is_some t.hardware ≡ false) small_type refl;
    type_init = λ e. one (λ (t : TypeRow). t.init ≡ []) small_type refl;
    slave_init = λ e. one (λ (s : SlaveRow). s.init ≡ []) small_slave refl;
    variables = λ e. one (λ (w : VariableRow). w.signed ≡ false) small_variable refl;
  };
}

pub accepted_law : AcceptedLaw
accepted_law = (sound, accepted)

-- ---- the terminal

pub accepted_pins_too : compile_fault pins_table ≡ None
unfolding compile_fault link_fault slave_fault part_fault memory_fault variable_fault managers_at entries_of run_of link_run_of managers_of layout units_below unit_count seated joined opened with_slave joins
accepted_pins_too = refl

abbrev pins : Hardware
pins = record { out_manager = record { number = 0; control = 0x44 }; in_manager = usual_inputs; has_pins = true; has_firmware = false; is_fixed = false; slow = 0; has_emergency = false; fmmus = 3; any_revision = true }

pins_limits : IsHardware None pins
pins_limits = record {
  out_number = omega arith;
  in_number = omega arith;
  apart = λ e. absurd (omega (arith, e));
  out_mode = refl;
  in_mode = refl;
  out_byte = omega arith;
  in_byte = omega arith;
  mailbox = λ m e. absurd (none_box m e);
  fixed = λ e. absurd (let z : false ≡ true = e in cc);
  slow = omega arith;
  some_fmmus = omega arith;
  few_fmmus = omega arith;
}

same_pins : (h : Hardware) → Some pins ≡ Some h → pins ≡ h
same_pins h e = cc

pins_named : (d : Direction) → All (λ (q : Pdo). All table.HasName q.entries) (pdos_toward d pins_type)
pins_named Out = entries_named Out
pins_named In = entries_named In

pins_sound : table.IsType pins_type
pins_sound = record {
  name = refl;
  device = record { vendor = omega arith; product = omega arith; revision = omega arith };
  limits = record { mailbox = λ m e. absurd (none_box m e); outputs = outputs_small; inputs = inputs_small };
  mailbox = λ m e. absurd (none_box m e);
  out_start = omega arith;
  in_start = omega arith;
  entries = pins_named;
  hardware = λ h e. subst (table.IsDescribed pins_type) (same_pins h e) (record { limits = pins_limits; pins = refl; revision = λ any. refl });
  init = no_downloads None;
}

same_pins_type : (t : TypeRow) → Some pins_type ≡ Some t → pins_type ≡ t
same_pins_type t e = cc

pins_assigned : (d : Direction) → table.IsAssignment false (pdos_toward d pins_type) (assigned_toward d small_slave)
pins_assigned Out = assigned Out
pins_assigned In = assigned In

pub pins_table_sound : table.IsSound pins_table
pins_table_sound = record {
  types = record { each = one table.IsType pins_type pins_sound; once = λ i j d a b. absurd (omega (arith, a, b)) };
  slaves = record {
    each = one (table.IsSlave One (pins_type ∷ [])) small_slave (record {
      name = refl;
      known = omega arith;
      assigned = λ t d e. subst (λ (x : TypeRow). table.IsAssignment (is_assignable x.mailbox x.hardware) (pdos_toward d x) (assigned_toward d small_slave)) (same_pins_type t e) (pins_assigned d);
      serial = omega arith;
      unit = omega arith;
      one_unit = λ e. refl;
      init = λ t e. no_downloads t.mailbox;
    });
    once = λ i j d a b. absurd (omega (arith, a, b));
  };
  variables = sound.variables;
  links = sound.links;
  format = record { types = one (λ (t : TypeRow). is_some t.hardware ≡ true) pins_type refl; type_init = λ e. absurd (cc); slave_init = λ e. absurd (cc); variables = λ e. absurd (cc) };
}

pub accepted_pins_law : AcceptedPinsLaw
accepted_pins_law = (pins_table_sound, accepted_pins_too)
