-- Areas in the RAM make managers.
use Rattle.std.proofs.Common.{◌≡◌, ℕ, ◌+◌, ◌*◌, ◌<◌, ◌≤◌, true, false, nat_lt, nat_le, refl, arith}
use Rattle.std.proofs.lemmas.Bool.Decides.{nat_tests}
use Rattle.ec_regs.specs.Memory.{ram_start, ram_end}
use Rattle.ec_regs.specs.Managers.{IsSetAs, UsualAreasAreSet, area_settings, is_set, mailbox_out_control, mailbox_in_control, outputs_control, inputs_control}

mailbox_areas : (start length : ℕ) → 0 < length → ram_start ≤ start → start + length ≤ ram_end
    → IsSetAs (area_settings start length mailbox_out_control) true true × IsSetAs (area_settings start length mailbox_in_control) true false
unfolding is_set
mailbox_areas start length some low high =
    let a : nat_lt 0 length ≡ true = grind (arith, nat_tests, some) in
    let b : nat_le ram_start start ≡ true = grind (arith, nat_tests, low) in
    let c : nat_le (start + length) ram_end ≡ true = grind (arith, nat_tests, high) in (
      record { set = rw (a, b, c) refl; mailbox_mode = refl; buffered_mode = refl; written = refl; read = refl },
      record { set = rw (a, b, c) refl; mailbox_mode = refl; buffered_mode = refl; written = refl; read = refl },
    )

buffered_areas : (start length : ℕ) → 0 < length → ram_start ≤ start → start + 3 * length ≤ ram_end
    → IsSetAs (area_settings start length outputs_control) false true × IsSetAs (area_settings start length inputs_control) false false
unfolding is_set
buffered_areas start length some low high =
    let a : nat_lt 0 length ≡ true = grind (arith, nat_tests, some) in
    let b : nat_le ram_start start ≡ true = grind (arith, nat_tests, low) in
    let c : nat_le (start + 3 * length) ram_end ≡ true = grind (arith, nat_tests, high) in (
      record { set = rw (a, b, c) refl; mailbox_mode = refl; buffered_mode = refl; written = refl; read = refl },
      record { set = rw (a, b, c) refl; mailbox_mode = refl; buffered_mode = refl; written = refl; read = refl },
    )

pub usual_areas : UsualAreasAreSet
usual_areas = record { mailboxes = mailbox_areas; buffers = buffered_areas }
