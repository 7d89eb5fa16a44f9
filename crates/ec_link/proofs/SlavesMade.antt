-- The settings of one slave, as they are made of its kind, its assignment, its size and its seat.
use Rattle.std.proofs.Common.{◌≡◌, ℕ, ◌<◌, List, [], length, get_or, refl, ap, ◌∙◌}
use Rattle.ec_device.specs.Types.{SlaveKind}
use Rattle.ec_table.specs.Contents.{Contents}
use Rattle.ec_table.specs.declared.rows.Direction.TheVariants.{Out, In}
use Rattle.ec_table.specs.declared.rows.SlaveRow.{SlaveRow}
use Rattle.ec_link.specs.Layout.{seat_at}
use Rattle.ec_link.specs.Plan.{kind_of, logical_from, settings_at}
use Rattle.ec_link.specs.Sizes.{size_of, slave_bits, slave_entry_bits, table_sizes}
use Rattle.ec_link.specs.SlavePlan.{fmmus_of, managers_of}
use Rattle.ec_link.specs.declared.layout.Seat.{Seat}
use Rattle.ec_link.specs.declared.plan.PartPlan.{PartPlan}
use Rattle.ec_link.specs.declared.settings.SlavePlan.{SlavePlan}
use Rattle.ec_link.specs.declared.sizes.EntryBits.{EntryBits}
use Rattle.ec_link.specs.declared.sizes.SlaveSize.{SlaveSize}
use Rattle.ec_link.proofs.EachFrom.{get_or-each}

-- the bits of its entries are those of the size at its place
pub bits_at : (t : Contents) (zs : List SlaveSize) (k : ℕ) (d : SlaveSize) → zs ≡ table_sizes t → k < length t.slaves → (get_or zs k d).bits ≡ slave_entry_bits t k
bits_at t zs k d e h =
    let none : SlaveRow = record { name = []; type_index = 0; outputs = []; inputs = []; serial = 0; unit = 0; init = [] } in
    ap (λ (ys : List SlaveSize). (get_or ys k d).bits) e ∙ ap (λ (z : SlaveSize). z.bits) (get_or-each (size_of t) t.slaves k d none h)

-- of this kind, assignment and size, from a logical bit of a part on
abbrev pub made_of : SlaveKind → (outputs inputs : List ℕ) → (outs ins : ℕ) → EntryBits → (from part : ℕ) → SlavePlan
made_of kind outputs inputs outs ins bits from part = record {
  kind = kind;
  outputs = outputs;
  inputs = inputs;
  managers = managers_of kind.mailbox kind.hardware kind.out_start kind.in_start outs ins;
  fmmus = fmmus_of from kind.out_start kind.in_start outs ins;
  from = from;
  bits = bits;
  share = record { outs = outs; ins = ins; part = part };
}

pub settings_made : (t : Contents) (ps : List PartPlan) (qs : List Seat) (s : ℕ) (r : SlaveRow) (kind : SlaveKind) (outputs inputs : List ℕ) (outs ins : ℕ) (bits : EntryBits) (from part : ℕ) (x : SlavePlan)
    → x ≡ made_of kind outputs inputs outs ins bits from part → kind ≡ kind_of t s → outputs ≡ r.outputs → inputs ≡ r.inputs
    → outs ≡ slave_bits t s Out → ins ≡ slave_bits t s In → bits ≡ slave_entry_bits t s
    → from ≡ logical_from ps (seat_at qs s) → part ≡ (seat_at qs s).part → x ≡ settings_at t ps qs s r
unfolding settings_at
settings_made t ps qs s r kind outputs inputs outs ins bits from part x made kind_is outputs_are inputs_are outs_are ins_are bits_are from_is part_is =
    made ∙ rw (kind_is, outputs_are, inputs_are, outs_are, ins_are, bits_are, from_is, part_is) refl
