use Rattle.std.proofs.Common.{◌≡◌, ◌==◌, ◌&&◌, drop, not}
use Rattle.std.specs.List.{list_any}
use Rattle.ec_device.specs.declared.slave_type.Entry.{Entry}
use Rattle.ec_link.specs.Entries.{is_named}
use Rattle.ec_found.proofs.assigned.share_name.Given as goal

abbrev pub invariant-loop-entry : goal.invariant-loop-entry
invariant-loop-entry l =
    list_any (λ (e : Entry). not (e.index == 0) && list_any (is_named e.index e.subindex) l.others) (drop l.entry-index l.entries)
    ≡ list_any (λ (e : Entry). not (e.index == 0) && list_any (is_named e.index e.subindex) l.others) l.entries
