-- The links of a table as runs of bits: which bits of a variable go to, or come from, which object bits of a slave.
use Rattle.std.specs.Prelude.{ℕ, ◌+◌, ◌≡◌, ◌<◌, ◌==◌, ◌&&◌, ◌||◌, not, Bool, true, false, nat_lt, List, map, take, slice_get, Option, Some}
use Rattle.std.specs.Option.{option_map_or}
use Rattle.std.specs.List.{list_any}
use Rattle.ec_table.specs.declared.rows.Direction.{Direction}
use Rattle.ec_table.specs.declared.rows.Direction.TheVariants.{Out, In}
use Rattle.ec_table.specs.declared.rows.VariableRow.{VariableRow}
use Rattle.ec_table.specs.declared.rows.LinkRow.{LinkRow}
use Rattle.ec_table.specs.Contents.{Contents}
use Rattle.ec_table.specs.Objects.{entries_of, object_bits}
use Rattle.ec_link.specs.declared.objects.EntryRun.{EntryRun}
use Rattle.ec_link.specs.declared.link_runs.LinkRun.{LinkRun}
use Rattle.ec_link.specs.Entries.{entry_run}

abbrev pub is_out : Direction → Bool
is_out Out = true
is_out In = false

abbrev pub other : Direction → Direction
other Out = In
other In = Out

abbrev pub variable_at : Contents → LinkRow → Option VariableRow
variable_at t l = slice_get t.variables l.variable

abbrev pub direction_of : Contents → LinkRow → Direction
direction_of t l = option_map_or (λ (w : VariableRow). w.direction) (variable_at t l) Out

abbrev pub variable_bits : Contents → LinkRow → ℕ
variable_bits t l = option_map_or (λ (w : VariableRow). w.bits) (variable_at t l) 0

-- the bits of the link's entry among a direction's object bits; if the entry is assigned twice, the first is meant
abbrev pub run_toward : Contents → Direction → LinkRow → Option EntryRun
run_toward t d l = entry_run (entries_of t l.slave d) l.index l.subindex

unfoldable pub run_of : Contents → LinkRow → Option EntryRun
run_of t l = run_toward t (direction_of t l) l

abbrev pub run_from : Option EntryRun → ℕ
run_from o = option_map_or (λ (r : EntryRun). r.from) o 0

abbrev pub run_bits : Option EntryRun → ℕ
run_bits o = option_map_or (λ (r : EntryRun). r.bits) o 0

unfoldable pub link_run_of : Contents → LinkRow → LinkRun
link_run_of t l = record {
  direction = direction_of t l;
  variable = l.variable;
  variable_bit = l.bits.variable_bit;
  slave = l.slave;
  object_bit = run_from (run_of t l) + l.bits.entry_bit;
  count = l.bits.count;
}

abbrev pub table_link_runs : Contents → List LinkRun
table_link_runs t = map (link_run_of t) t.links

-- whether the link run goes in a direction
abbrev pub goes : Direction → LinkRun → Bool
goes Out w = is_out w.direction
goes In w = not (is_out w.direction)

-- ---- what a link means

-- Object bit `object` of slave `slave` and bit `bit` of a variable are linked: some link names both.
pub record IsLinked (t : Contents) (d : Direction) (variable bit slave object : ℕ) : Type 0 where
  pub place : ℕ
  pub link : LinkRow
  pub i : ℕ
  pub there : slice_get t.links place ≡ Some link
  pub way : direction_of t link ≡ d
  pub inside : i < link.bits.count
  pub variable_is : variable ≡ link.variable
  pub bit_is : bit ≡ link.bits.variable_bit + i
  pub slave_is : slave ≡ link.slave
  pub object_is : slice_get (object_bits t slave d) object ≡ Some (Some (record { index = link.index; subindex = link.subindex; bit = link.bits.entry_bit + i }))

-- ---- a bit linked twice

-- n bits that begin at a, and m bits that begin at b, share one
abbrev pub runs_meet : (a n b m : ℕ) → Bool
runs_meet a n b m = nat_lt a (b + m) && nat_lt b (a + n)

-- both give one output object bit, or one input variable bit
abbrev pub give_one_bit : LinkRun → LinkRun → Bool
give_one_bit w x =
    ((is_out w.direction && is_out x.direction) && ((w.slave == x.slave) && runs_meet w.object_bit w.count x.object_bit x.count))
    || ((not (is_out w.direction) && not (is_out x.direction)) && ((w.variable == x.variable) && runs_meet w.variable_bit w.count x.variable_bit x.count))

abbrev pub linked_twice : List LinkRun → ℕ → LinkRun → Bool
linked_twice ws n w = list_any (give_one_bit w) (take n ws)
