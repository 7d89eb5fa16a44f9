-- What the test of hardware is worth: the limits of a table.
use Rattle.std.proofs.Common.{◌%◌, ◌≤◌, ◌≡◌, ◌==◌, ◌&&◌, ◌||◌, not, nat_le, true, IsTrue, Option, None, Some, is_none, is_some, refl, arith}
use Rattle.std.specs.Int.{bit_at}
use Rattle.std.specs.Option.{ForSome}
use Rattle.std.proofs.lemmas.Bool.{and_parts, both_ways, eqb-true, eq-eqb, leb-true, not-true}
use Rattle.ec_device.specs.declared.hardware.Hardware.{Hardware}
use Rattle.ec_device.specs.declared.slave_type.Mailbox.{Mailbox}
use Rattle.ec_device.specs.Hardware.{IsBesideMailbox, IsHardware}
use Rattle.ec_sii.specs.Reading.{category_found}
use Rattle.ec_scan.specs.declared.shown.Shown.{Shown}
use Rattle.ec_scan.specs.Showing.{usable}
use Rattle.ec_found.specs.declared.areas.Areas.{Areas}
use Rattle.ec_found.specs.Founds.{areas_shown, byte_in, is_hardware, usual_areas, words_of}

none_there : {A P : Type 0} (a : A) → None ≡ Some a → P
none_there a e = cc

beside : (m : Option Mailbox) (h : Hardware) → (is_none m || (nat_le 2 h.out_manager.number && (nat_le 2 h.in_manager.number && h.has_firmware))) ≡ true → ForSome m (λ (b : Mailbox). IsBesideMailbox h)
beside None h t = λ b e. none_there b e
beside (Some m) h t = λ b e.
    let outs = and_parts (nat_le 2 h.out_manager.number) (nat_le 2 h.in_manager.number && h.has_firmware) t in
    let ins = and_parts (nat_le 2 h.in_manager.number) h.has_firmware outs.1 in
    record { outputs = leb-true 2 h.out_manager.number outs.0; inputs = leb-true 2 h.in_manager.number ins.0; firmware = ins.1 }

pub limits_of : (m : Option Mailbox) (h : Hardware) → h.fmmus ≡ 4 → h.slow ≡ 0 → (IsTrue h.is_fixed → IsTrue (is_some m)) → h.out_manager.control ≤ 255 → h.in_manager.control ≤ 255
    → is_hardware m h ≡ true → IsHardware m h
limits_of m h fmmus slow fixed out_byte in_byte t =
    let p = and_parts (nat_le h.out_manager.number 3 && nat_le h.in_manager.number 3) _ t in
    let numbers = and_parts (nat_le h.out_manager.number 3) (nat_le h.in_manager.number 3) p.0 in
    let q = and_parts (not (h.out_manager.number == h.in_manager.number)) _ p.1 in
    let r = and_parts ((h.out_manager.control % 16 == 4) && (h.in_manager.control % 16 == 0)) _ q.1 in
    let modes = and_parts (h.out_manager.control % 16 == 4) (h.in_manager.control % 16 == 0) r.0 in
    record {
      out_number = leb-true h.out_manager.number 3 numbers.0;
      in_number = leb-true h.in_manager.number 3 numbers.1;
      apart = λ e. both_ways (h.out_manager.number == h.in_manager.number) (not-true (h.out_manager.number == h.in_manager.number) q.0) (eq-eqb h.out_manager.number h.in_manager.number e);
      out_mode = eqb-true (h.out_manager.control % 16) 4 modes.0;
      in_mode = eqb-true (h.in_manager.control % 16) 0 modes.1;
      out_byte = out_byte;
      in_byte = in_byte;
      mailbox = beside m h r.1;
      fixed = fixed;
      slow = omega (arith, slow);
      some_fmmus = omega (arith, fmmus);
      few_fmmus = omega (arith, fmmus);
    }

pub usual_limits : (m : Option Mailbox) (a : Areas) → (IsTrue a.hardware.is_fixed → IsTrue (is_some m)) → IsHardware m (usual_areas a).hardware
usual_limits m a fixed = record {
  out_number = omega arith;
  in_number = omega arith;
  apart = λ e. absurd (omega (arith, e));
  out_mode = omega arith;
  in_mode = omega arith;
  out_byte = omega arith;
  in_byte = omega arith;
  mailbox = λ b e. record { outputs = omega arith; inputs = omega arith; firmware = refl };
  fixed = fixed;
  slow = omega arith;
  some_fmmus = omega arith;
  few_fmmus = omega arith;
}

-- only a slave that takes CoE shows a fixed assignment
pub fixed_has_mailbox : (s : Shown) → IsTrue (areas_shown s).hardware.is_fixed → IsTrue (is_some (usable s.mailbox))
fixed_has_mailbox s h = (and_parts (is_some (usable s.mailbox)) (is_some (category_found 30 s.categories) && not (bit_at (byte_in (words_of 30 s) 5) 2 == 1)) h).0
