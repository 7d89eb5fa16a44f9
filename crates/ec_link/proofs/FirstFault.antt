-- The fault that is returned for a table is the first that it has.
use Rattle.std.proofs.Common.{length, refl}
use Rattle.ec_table.specs.declared.rows.SlaveRow.{SlaveRow}
use Rattle.ec_table.specs.Contents.{Contents}
use Rattle.ec_table.specs.Sound as table
use Rattle.ec_link.specs.Sizes.{table_sizes}
use Rattle.ec_link.specs.Layout.{layout}
use Rattle.ec_link.specs.LinkRuns.{table_link_runs, linked_twice}
use Rattle.ec_link.specs.Faults.{wrong_direction, no_entry, outside_entry, entry_twice, too_many_bits, areas_overlap, outside_ram, split_variable, link_fault, slave_fault, part_fault, memory_fault, variable_fault, compile_fault}
use Rattle.ec_link.specs.FaultLaw.{FirstLinkFault}
use Rattle.ec_link.proofs.FaultSteps.{Step, join, step_at, count_step, over_the_gap, told_first, told_none}
use Rattle.ec_link.proofs.FaultLinks.{wrong_tells, no_entry_tells, outside_tells, linked_tells}
use Rattle.ec_link.proofs.FaultPlaces.{twice_tells, bits_tells, overlap_tells, ram_tells, split_tells}

links : (t : Contents) → table.IsSound t → Step t 16 20 (link_fault t)
unfolding link_fault
links t sound =
    join t 16 17 20 _ _ (step_at t 16 t.links (λ n l. wrong_direction t l) (record { number = λ k. refl; value = λ k. refl }) (wrong_tells t))
    (join t 17 18 20 _ _ (step_at t 17 t.links (λ n l. no_entry t l) (record { number = λ k. refl; value = λ k. refl }) (no_entry_tells t))
    (join t 18 19 20 _ _ (step_at t 18 t.links (λ n l. outside_entry t l) (record { number = λ k. refl; value = λ k. refl }) (outside_tells t))
    (step_at t 19 (table_link_runs t) (linked_twice (table_link_runs t)) (record { number = λ k. refl; value = λ k. refl }) (linked_tells t sound))))

slaves : (t : Contents) → Step t 20 23 (slave_fault t)
unfolding slave_fault
slaves t =
    join t 20 21 23 _ _ (step_at t 20 t.slaves (λ n (s : SlaveRow). entry_twice t n) (record { number = λ k. refl; value = λ k. refl }) (twice_tells t))
    (join t 21 22 23 _ _ (step_at t 21 t.slaves (λ n (s : SlaveRow). too_many_bits t n) (record { number = λ k. refl; value = λ k. refl }) (bits_tells t))
    (count_step t 22 64 (length t.slaves) (record { number = λ k. refl; value = λ k. refl }) (record { is = λ h. (refl, h); was = λ k h. h })))

parts : (t : Contents) → Step t 23 24 (part_fault t)
unfolding part_fault
parts t = count_step t 23 32 (length (layout (table_sizes t)).parts) (record { number = λ k. refl; value = λ k. refl }) (record { is = λ h. (refl, h); was = λ k h. h })

managers : (t : Contents) → table.IsSound t → Step t 24 26 (memory_fault t)
unfolding memory_fault
managers t sound =
    join t 24 25 26 _ _ (step_at t 24 t.slaves (λ n (s : SlaveRow). areas_overlap t n) (record { number = λ k. refl; value = λ k. refl }) (overlap_tells t sound))
    (step_at t 25 t.slaves (λ n (s : SlaveRow). outside_ram t n) (record { number = λ k. refl; value = λ k. refl }) (ram_tells t))

variables : (t : Contents) → table.IsSound t → Step t 44 45 (variable_fault t)
unfolding variable_fault
variables t sound = step_at t 44 t.variables (split_variable t) (record { number = λ k. refl; value = λ k. refl }) (split_tells t sound)

whole : (t : Contents) → table.IsSound t → Step t 16 45 (compile_fault t)
unfolding compile_fault
whole t sound =
    join t 16 20 45 _ _ (links t sound)
    (join t 20 23 45 _ _ (slaves t)
    (join t 23 24 45 _ _ (parts t)
    (join t 24 26 45 _ _ (managers t sound) (over_the_gap t _ (variables t sound)))))

pub first_link_fault : FirstLinkFault
first_link_fault = record {
  told = λ t f sound h. told_first t (compile_fault t) (whole t sound) f h;
  none = λ t f sound h has. told_none t (compile_fault t) (whole t sound) h f has;
}
