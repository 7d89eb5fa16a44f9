-- A table advertised in full has the table's faults, and its plan with faces.
use Rattle.std.proofs.Common.{◌≡◌, ℕ, ◌+◌, List, [], ◌∷◌, Option, Some, None, option_map, option_and_then, unwrap_or, refl, ap, ◌∙◌}
use Rattle.ec_device.specs.Types.{SlaveKind, plain_kind}
use Rattle.ec_table.specs.declared.rows.Direction.TheVariants.{Out, In}
use Rattle.ec_table.specs.declared.rows.SlaveRow.{SlaveRow}
use Rattle.ec_table.specs.declared.rows.TypeRow.{TypeRow}
use Rattle.ec_table.specs.Contents.{Contents, advertised_full}
use Rattle.ec_table.specs.Objects.{type_of, face_shown, kind_at, entries_of}
use Rattle.ec_link.specs.declared.layout.Seat.{Seat}
use Rattle.ec_link.specs.declared.plan.PartPlan.{PartPlan}
use Rattle.ec_link.specs.declared.settings.SlavePlan.{SlavePlan}
use Rattle.ec_link.specs.Layout.{seat_at, layout}
use Rattle.ec_link.specs.SlavePlan.{managers_of, fmmus_of}
use Rattle.ec_link.specs.declared.sizes.EntryBits.{EntryBits}
use Rattle.ec_link.specs.Sizes.{each_from, slave_entry_bits, slave_bits, table_sizes}
use Rattle.ec_link.specs.LinkRuns.{run_of, link_run_of}
use Rattle.ec_link.specs.Faults.{managers_at, link_fault, slave_fault, part_fault, memory_fault, variable_fault, compile_fault}
use Rattle.ec_link.specs.Plan.{logical_from, settings_at, part_plans, plan_of}
use Rattle.ec_link.specs.AdvertisedFull.{with_face, with_faces, AdvertisedFullGivesFaces}

same_fault : (t : Contents) → compile_fault (advertised_full t) ≡ compile_fault t
unfolding entries_of run_of link_run_of managers_at link_fault slave_fault part_fault memory_fault variable_fault compile_fault
same_fault t = refl

-- the kind of a slave of that type, or of none
abbrev kind_from : Contents → ℕ → Option TypeRow → SlaveKind
kind_from t s o = unwrap_or (option_map (kind_at t s) o) plain_kind

-- the settings of a slave of that kind, with so many bits
abbrev made : List PartPlan → List Seat → ℕ → SlaveRow → EntryBits → (outs ins : ℕ) → SlaveKind → SlavePlan
made ps qs s r bits outs ins kind = record {
  kind = kind;
  outputs = r.outputs;
  inputs = r.inputs;
  managers = managers_of kind.mailbox kind.hardware kind.out_start kind.in_start outs ins;
  fmmus = fmmus_of (logical_from ps (seat_at qs s)) kind.out_start kind.in_start outs ins;
  from = logical_from ps (seat_at qs s);
  bits = bits;
  share = record { outs = outs; ins = ins; part = (seat_at qs s).part };
}

made_faced : (t : Contents) (ps : List PartPlan) (qs : List Seat) (s : ℕ) (r : SlaveRow) (bits : EntryBits) (outs ins : ℕ) (o : Option TypeRow)
    → made ps qs s r bits outs ins (kind_from (advertised_full t) s o) ≡ made ps qs s r bits outs ins (record (kind_from t s o) { face = option_and_then (face_shown t s) o })
made_faced t ps qs s r bits outs ins None = refl
made_faced t ps qs s r bits outs ins (Some k) = refl

slave_faced : (t : Contents) (ps : List PartPlan) (qs : List Seat) (s : ℕ) (r : SlaveRow) → settings_at (advertised_full t) ps qs s r ≡ with_face t s (settings_at t ps qs s r)
unfolding settings_at entries_of
slave_faced t ps qs s r = made_faced t ps qs s r (slave_entry_bits t s) (slave_bits t s Out) (slave_bits t s In) (type_of t s)

slaves_faced : (t : Contents) (ps : List PartPlan) (qs : List Seat) (n : ℕ) (rs : List SlaveRow) → each_from (settings_at (advertised_full t) ps qs) n rs ≡ each_from (with_face t) n (each_from (settings_at t ps qs) n rs)
slaves_faced t ps qs n [] = refl
slaves_faced t ps qs n (r ∷ rs) =
    ap (λ (x : SlavePlan). x ∷ each_from (settings_at (advertised_full t) ps qs) (n + 1) rs) (slave_faced t ps qs n r)
    ∙ ap (λ (xs : List SlavePlan). with_face t n (settings_at t ps qs n r) ∷ xs) (slaves_faced t ps qs (n + 1) rs)

plan_faced : (t : Contents) → plan_of (advertised_full t) ≡ with_faces t (plan_of t)
unfolding entries_of run_of link_run_of plan_of
plan_faced t = ap (λ (xs : List SlavePlan). record (plan_of t) { slaves = xs }) (slaves_faced t (part_plans t) (layout (table_sizes t)).seats 0 t.slaves)

pub faces : AdvertisedFullGivesFaces
faces = record { fault = same_fault; plan = plan_faced }
