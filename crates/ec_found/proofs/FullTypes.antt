-- The full slaves of a table are found as its types.
use Rattle.std.proofs.Common.{ℕ, ◌+◌, ◌≤◌, ◌≡◌, ◌≢◌, ◌==◌, ◌&&◌, ◌||◌, not, List, [], ◌∷◌, ◌++◌, length, map, filter, Bool, true, false, Option, None, Some, is_some, is_none, unwrap_or, nat_le, nat_lt, slice_index, if◌then◌else◌, refl, sym, ap, ◌∙◌, arith}
use Rattle.std.specs.Int.{bit_at}
use Rattle.std.specs.List.{list_any}
use Rattle.std.specs.Option.{ForSome, option_map}
use Rattle.std.proofs.lemmas.Bool.{and_right, eq-eqb, le-leb, le-ltb, ne_eqb}
use Rattle.ec_bits.specs.Bits.{bytes_of_bits}
use Rattle.ec_device.specs.declared.slave_type.Device.{Device}
use Rattle.ec_device.specs.declared.slave_type.Face.{Face}
use Rattle.ec_device.specs.declared.slave_type.Mailbox.{Mailbox}
use Rattle.ec_device.specs.declared.slave_type.Pdo.{Pdo}
use Rattle.ec_device.specs.declared.hardware.Hardware.{Hardware}
use Rattle.ec_device.specs.Hardware.{are_pins, other_name, usual_inputs, usual_outputs}
use Rattle.ec_device.specs.Objects.{assigned_entries}
use Rattle.ec_device.specs.Types.{ArePdos, SlaveKind, device_of, first_input_index, first_output_index, pdos_bits}
use Rattle.ec_table.specs.declared.rows.Direction.TheVariants.{In, Out}
use Rattle.ec_table.specs.declared.rows.SlaveRow.{SlaveRow}
use Rattle.ec_table.specs.Contents.{Contents}
use Rattle.ec_link.specs.Entries.{names_twice}
use Rattle.ec_sii.specs.Categories.{coe_details, data_managers, general_flags, mailbox_managers, sii_managers}
use Rattle.ec_sii.specs.Laws.{FitsKind, ReadsType, found_pdos, general_bytes}
use Rattle.ec_sii.specs.Reading.{area_read, bytes_of, category_found, managers_read, pdos_read, ReadPdo}
use Rattle.ec_sii.specs.SiiImage.{image_of}
use Rattle.ec_sii.proofs.ReadTypes.{types_law}
use Rattle.ec_scan.specs.declared.shown.Shown.{Shown}
use Rattle.ec_scan.specs.declared.shown.ShownMailbox.{ShownMailbox}
use Rattle.ec_scan.specs.Showing.{IsUsable, usable}
use Rattle.ec_found.specs.declared.areas.Areas.{Areas}
use Rattle.ec_found.specs.declared.found.Gaps.{Gaps}
use Rattle.ec_found.specs.declared.found.Unsaid.TheVariants as unsaid
use Rattle.ec_found.specs.declared.reading.UsedManager.{UsedManager}
use Rattle.ec_found.specs.Founds.{ShownManager, all_pdos, areas_of, areas_shown, areas_with, assigned_of, byte_in, exchanged_of, gaps_noted, gaps_of, has_lrw, has_other_size, has_second, has_stray, in_used, indices, is_assignable, is_fixed, is_hardware, is_silent, is_spread, is_stray, is_whole, kept, kind_of, lacks, left_out, listed, listed_of, manager_of, managers_in, merged, noted, out_used, pdos_in, plain_pdo, unsaid_of, used_for, used_from, usual_areas, words_of}
use Rattle.ec_found.specs.Laws.{ExchangesOnce, FoundAssignsOnce, FullTypesAreFound, IsSlaveOf, RowsExchangeOnce, SaysExchanged, ShowsType, as_hardware}
use Rattle.ec_found.proofs.Ended.{category_alike}
use Rattle.ec_found.proofs.EntryWords.{no_pdos}
use Rattle.ec_found.proofs.KeptPdos.{kept_same, plain_pdos_same}
use Rattle.ec_found.proofs.Planned.{all_inputs_once, all_outputs_once, inputs_once, outputs_once}
use Rattle.ec_found.proofs.SamePdos.{merged_same}
use Rattle.ec_found.proofs.Together.{listed_same, none_left_out, together_once}

-- ---- what is read of the categories

no_truth : {P : Type 0} → false ≡ true → P
no_truth h = cc

from_some : {A : Type 0} (a b : A) → Some a ≡ Some b → a ≡ b
from_some a b h = cc

some_no : {A P : Type 0} (a : A) → Some a ≡ None → P
some_no a h = cc

no_some : {A P : Type 0} (a : A) → None ≡ Some a → P
no_some a h = cc

read_of : {A : Type 0} (f : List ℕ → A) (o : Option (List ℕ)) (a : A) → option_map f o ≡ Some a → f (unwrap_or o []) ≡ a
read_of f None a h = no_some a h
read_of f (Some ws) a h = from_some (f ws) a h

-- a category is found as in all words of the image
found_in : (k : SlaveKind) (s : Shown) (wanted : ℕ) → ShowsType k s → category_found wanted s.categories ≡ category_found wanted (area_read (image_of k s.identity))
found_in k s wanted h = category_alike wanted s.categories h.categories.0 h.ended ∙ ap (category_found wanted) h.categories.1

-- those of a manager
abbrev of_manager : ℕ → List Pdo → List ReadPdo
of_manager manager ps = map (λ (q : Pdo). record { manager = manager; pdo = q }) ps

abbrev taken : Bool → ℕ → List ReadPdo → List Pdo
taken all manager rs = map (λ (r : ReadPdo). plain_pdo r.pdo) (filter (λ (r : ReadPdo). all || (r.manager == manager)) rs)

all_plain : (all : Bool) (manager : ℕ) (ps : List Pdo) → taken all manager (of_manager manager ps) ≡ map plain_pdo ps
all_plain all manager [] = refl
all_plain true manager (p ∷ ps) = ap (λ (qs : List Pdo). plain_pdo p ∷ qs) (all_plain true manager ps)
all_plain false manager (p ∷ ps) =
    let own : (manager == manager) ≡ true = eq-eqb manager manager refl in
    rw own (ap (λ (qs : List Pdo). plain_pdo p ∷ qs) (all_plain false manager ps))

direction : (all : Bool) (manager first : ℕ) (o : Option (List ℕ)) (ps : List Pdo) → ArePdos first ps
    → option_map pdos_read o ≡ found_pdos manager ps → pdos_in all manager (unwrap_or o []) ≡ ps
direction all manager first None [] limits h = ap (taken all manager) (no_pdos [] (omega arith))
direction all manager first None (p ∷ ps) limits h = no_some _ h
direction all manager first (Some ws) [] limits h = some_no _ h
direction all manager first (Some ws) (p ∷ ps) limits h =
    ap (taken all manager) (from_some _ _ h)
    ∙ all_plain all manager (p ∷ ps)
    ∙ plain_pdos_same first (p ∷ ps) limits.each

-- none of them is of another manager
none_strays : (manager : ℕ) (ps : List Pdo) → list_any (is_stray manager) (of_manager manager ps) ≡ false
none_strays manager [] = refl
none_strays manager (p ∷ ps) =
    let own : (manager == manager) ≡ true = eq-eqb manager manager refl in
    let stays : (nat_lt manager 16 && not (manager == manager)) ≡ false = and_right (nat_lt manager 16) (not (manager == manager)) (ap not own) in
    rw stays (none_strays manager ps)

no_strays : (manager : ℕ) (o : Option (List ℕ)) (ps : List Pdo) → option_map pdos_read o ≡ found_pdos manager ps → has_stray manager (unwrap_or o []) ≡ false
no_strays manager None [] h = ap (list_any (is_stray manager)) (no_pdos [] (omega arith))
no_strays manager None (p ∷ ps) h = no_some _ h
no_strays manager (Some ws) [] h = some_no _ h
no_strays manager (Some ws) (p ∷ ps) h = ap (list_any (is_stray manager)) (from_some _ _ h) ∙ none_strays manager (p ∷ ps)

-- ---- the mailbox

usable_there : (m : Mailbox) → IsUsable m → usable (record { place = m; protocols = 4 }) ≡ Some m
usable_there m u =
    let sizes = u.sizes in
    let some : (m.receive_size == 0) ≡ false = ne_zero m.receive_size sizes.receive_some in
    let a : nat_le 16 m.receive_size ≡ true = le-leb 16 m.receive_size sizes.receive_some in
    let b : nat_le m.receive_size 1024 ≡ true = le-leb m.receive_size 1024 sizes.receive_few in
    let c : nat_le 16 m.send_size ≡ true = le-leb 16 m.send_size sizes.send_some in
    let d : nat_le m.send_size 1024 ≡ true = le-leb m.send_size 1024 sizes.send_few in
    let e : nat_le 0x1000 m.receive_start ≡ true = le-leb 0x1000 m.receive_start u.receive in
    let f : nat_le (m.receive_start + m.receive_size) 65536 ≡ true = le-leb (m.receive_start + m.receive_size) 65536 u.receive_end in
    let g : nat_le 0x1000 m.send_start ≡ true = le-leb 0x1000 m.send_start u.send in
    let h : nat_le (m.send_start + m.send_size) 65536 ≡ true = le-leb (m.send_start + m.send_size) 65536 u.send_end in
    rw (some, a, b, c, d, e, f, g, h) refl
  where
    ne_zero : (n : ℕ) → 16 ≤ n → (n == 0) ≡ false
    ne_zero n l = ne_eqb n 0 (λ e. omega (arith, e, l))

no_mailbox_used : (m : ShownMailbox) → m.place.receive_size ≡ 0 → usable m ≡ None
no_mailbox_used m e =
    let z : (m.place.receive_size == 0) ≡ true = eq-eqb m.place.receive_size 0 e in
    rw z refl

mailbox_found : (k : SlaveKind) (s : Shown) → ForSome k.mailbox IsUsable → ShowsType k s → usable s.mailbox ≡ k.mailbox
mailbox_found k s u h = by k.mailbox refl
  where
    by : (o : Option Mailbox) → k.mailbox ≡ o → usable s.mailbox ≡ o
    by None e = no_mailbox_used s.mailbox (h.no_mailbox e)
    by (Some m) e =
        let both = h.mailbox m e in
        ap (λ (p : Mailbox). usable (record { place = p; protocols = s.mailbox.protocols })) both.0
        ∙ ap (λ (n : ℕ). usable (record { place = m; protocols = n })) both.1
        ∙ usable_there m (u m e)

-- ---- the sync managers

abbrev used : (number start long control : ℕ) → UsedManager
used number start long control = record { number = number; start = start; long = long; control = control }

-- what is shown of all four
abbrev four_shown : SlaveKind → Option Mailbox → List ShownManager
four_shown k m = map (λ x. record { usage = x.usage; start = x.settings.start; long = x.settings.length; control = x.settings.control }) (mailbox_managers m ++ data_managers k)

abbrev outs_found : SlaveKind → UsedManager
outs_found k = used 2 k.out_start (bytes_of_bits (pdos_bits k.outputs)) 0x24

abbrev ins_found : SlaveKind → UsedManager
ins_found k = used 3 k.in_start (bytes_of_bits (pdos_bits k.inputs)) 0x20

outs_used : (k : SlaveKind) (m : Option Mailbox) → used_from 3 0 (four_shown k m) ≡ Some (outs_found k)
outs_used k None = refl
outs_used k (Some m) = refl

ins_used : (k : SlaveKind) (m : Option Mailbox) → used_from 4 0 (four_shown k m) ≡ Some (ins_found k)
ins_used k None = refl
ins_used k (Some m) = refl

outs_alone : (k : SlaveKind) (m : Option Mailbox) → has_second false 3 (four_shown k m) ≡ false
outs_alone k None = refl
outs_alone k (Some m) = refl

ins_alone : (k : SlaveKind) (m : Option Mailbox) → has_second false 4 (four_shown k m) ≡ false
ins_alone k None = refl
ins_alone k (Some m) = refl

outs_of : (k : SlaveKind) (ws : List ℕ) → managers_read ws ≡ sii_managers k → used_from 3 0 (managers_in ws) ≡ Some (outs_found k)
outs_of k ws e = rw e (outs_used k k.mailbox)

ins_of : (k : SlaveKind) (ws : List ℕ) → managers_read ws ≡ sii_managers k → used_from 4 0 (managers_in ws) ≡ Some (ins_found k)
ins_of k ws e = rw e (ins_used k k.mailbox)

no_second_outs : (k : SlaveKind) (ws : List ℕ) → managers_read ws ≡ sii_managers k → has_second false 3 (managers_in ws) ≡ false
no_second_outs k ws e = rw e (outs_alone k k.mailbox)

no_second_ins : (k : SlaveKind) (ws : List ℕ) → managers_read ws ≡ sii_managers k → has_second false 4 (managers_in ws) ≡ false
no_second_ins k ws e = rw e (ins_alone k k.mailbox)

-- the managers of the directions
outs_are : (k : SlaveKind) (s : Shown) → managers_read (words_of 41 s) ≡ sii_managers k → manager_of Out s ≡ outs_found k
outs_are k s e = ap (λ (o : Option UsedManager). out_used o (used_for 4 s)) (outs_of k (words_of 41 s) e)

ins_are : (k : SlaveKind) (s : Shown) → managers_read (words_of 41 s) ≡ sii_managers k → manager_of In s ≡ ins_found k
ins_are k s e =
    ap (λ (i : Option UsedManager). in_used (used_for 3 s) i) (ins_of k (words_of 41 s) e)

abbrev full_hardware : Bool → Hardware
full_hardware pins = record {
  out_manager = usual_outputs;
  in_manager = usual_inputs;
  has_pins = pins;
  has_firmware = true;
  is_fixed = false;
  slow = 0;
  has_emergency = false;
  fmmus = 4;
  any_revision = false;
}

abbrev full_areas : SlaveKind → Bool → Areas
full_areas k pins = record { out_start = k.out_start; in_start = k.in_start; hardware = full_hardware pins }

areas_alike : (k : SlaveKind) (s : Shown) → manager_of Out s ≡ outs_found k → manager_of In s ≡ ins_found k → s.has_firmware ≡ true → is_fixed s ≡ false → are_pins k.out_start ≡ false
    → areas_shown s ≡ full_areas k false
areas_alike k s outs ins firmware fixed no_pins =
    ap (λ (m : UsedManager). areas_with m (manager_of In s) s.has_firmware (is_fixed s)) outs
    ∙ ap (λ (m : UsedManager). areas_with (outs_found k) m s.has_firmware (is_fixed s)) ins
    ∙ ap (λ (b : Bool). areas_with (outs_found k) (ins_found k) b (is_fixed s)) firmware
    ∙ ap (areas_with (outs_found k) (ins_found k) true) fixed
    ∙ ap (full_areas k) no_pins

full_said : (o : Option Mailbox) → is_hardware o (full_hardware false) ≡ true
full_said None = refl
full_said (Some m) = refl

-- ---- all of it

abbrev made : Device → Option Mailbox → Areas → List Pdo → List Pdo → Bool → SlaveKind
made device mailbox areas outputs inputs lrw = record {
  device = device;
  mailbox = mailbox;
  out_start = other_name (Some areas.hardware) areas.out_start;
  in_start = areas.in_start;
  outputs = outputs;
  inputs = inputs;
  lrw = lrw;
  face = None;
  hardware = Some areas.hardware;
  init = [];
}

alike : (f : Device → Option Mailbox → Areas → List Pdo → List Pdo → Bool → SlaveKind)
    (d d2 : Device) (m m2 : Option Mailbox) (a a2 : Areas) (os os2 is is2 : List Pdo) (l l2 : Bool)
    → d ≡ d2 → m ≡ m2 → a ≡ a2 → os ≡ os2 → is ≡ is2 → l ≡ l2 → f d m a os is l ≡ f d2 m2 a2 os2 is2 l2
alike f d d2 m m2 a a2 os os2 is is2 l l2 e1 e2 e3 e4 e5 e6 = cc

flag_back : (b : Bool) → not (bit_at (general_flags b) 1 == 1) ≡ b
flag_back true = refl
flag_back false = refl

-- its assignment can be written
not_fixed : (k : SlaveKind) (s : Shown) → usable s.mailbox ≡ k.mailbox → bytes_of (words_of 30 s) ≡ general_bytes k → (o : Option Mailbox) → k.mailbox ≡ o → is_fixed s ≡ false
not_fixed k s mailbox general None e =
    ap (λ (o : Option Mailbox). is_some o && (is_some (category_found 30 s.categories) && not (bit_at (byte_in (words_of 30 s) 5) 2 == 1))) (mailbox ∙ e)
not_fixed k s mailbox general (Some m) e =
    let byte : byte_in (words_of 30 s) 5 ≡ 5 = ap (λ (bs : List ℕ). slice_index bs 5) general ∙ ap coe_details e in
    and_right (is_some (usable s.mailbox)) (is_some (category_found 30 s.categories) && not (bit_at (byte_in (words_of 30 s) 5) 2 == 1))
    (and_right (is_some (category_found 30 s.categories)) (not (bit_at (byte_in (words_of 30 s) 5) 2 == 1)) (ap (λ (n : ℕ). not (bit_at n 2 == 1)) byte))

-- no second manager, and no PDO of another
unspread : (second said stray : Bool) → second ≡ false → stray ≡ false → (second || (not said && stray)) ≡ false
unspread second said stray e f = rw (e, f) (and_right (not said) false refl)

-- what a slave is found by
record IsRead (k : SlaveKind) (s : Shown) : Type 0 where
  pub mailbox : usable s.mailbox ≡ k.mailbox
  pub shown : areas_shown s ≡ full_areas k false
  pub said : is_hardware (usable s.mailbox) (areas_shown s).hardware ≡ true
  pub outs : manager_of Out s ≡ outs_found k
  pub ins : manager_of In s ≡ ins_found k
  pub outs_unspread : is_spread Out s ≡ false
  pub ins_unspread : is_spread In s ≡ false
  pub outputs : all_pdos Out s ≡ k.outputs
  pub inputs : all_pdos In s ≡ k.inputs
  pub general : bytes_of (words_of 30 s) ≡ general_bytes k
  pub fixed : is_fixed s ≡ false

read_all : (k : SlaveKind) (face : Face) (s : Shown) → FitsKind k → k.face ≡ Some face → ForSome k.mailbox IsUsable → are_pins k.out_start ≡ false → ShowsType k s → IsRead k s
read_all k face s fits is_face used no_pins shows =
    let back : ReadsType k face.name (area_read (image_of k s.identity)) = (types_law k s.identity face fits is_face).1 in
    let mailbox : usable s.mailbox ≡ k.mailbox = mailbox_found k s used shows in
    let managers : managers_read (words_of 41 s) ≡ sii_managers k =
    read_of managers_read (category_found 41 s.categories) (sii_managers k) (ap (option_map managers_read) (found_in k s 41 shows) ∙ back.managers) in
    let general : bytes_of (words_of 30 s) ≡ general_bytes k =
    read_of bytes_of (category_found 30 s.categories) (general_bytes k) (ap (option_map bytes_of) (found_in k s 30 shows) ∙ back.general) in
    let fixed : is_fixed s ≡ false = not_fixed k s mailbox general k.mailbox refl in
    let outs : manager_of Out s ≡ outs_found k = outs_are k s managers in
    let ins : manager_of In s ≡ ins_found k = ins_are k s managers in
    let shown : areas_shown s ≡ full_areas k false = areas_alike k s outs ins shows.firmware fixed no_pins in
    let outs_read : option_map pdos_read (category_found 51 s.categories) ≡ found_pdos 2 k.outputs = ap (option_map pdos_read) (found_in k s 51 shows) ∙ back.outputs in
    let ins_read : option_map pdos_read (category_found 50 s.categories) ≡ found_pdos 3 k.inputs = ap (option_map pdos_read) (found_in k s 50 shows) ∙ back.inputs in
    let out_pdos : pdos_in (is_some s.outputs) (manager_of Out s).number (words_of 51 s) ≡ k.outputs =
    ap (λ (m : UsedManager). pdos_in (is_some s.outputs) m.number (words_of 51 s)) outs
    ∙ direction (is_some s.outputs) 2 first_output_index (category_found 51 s.categories) k.outputs fits.limits.outputs outs_read in
    let in_pdos : pdos_in (is_some s.inputs) (manager_of In s).number (words_of 50 s) ≡ k.inputs =
    ap (λ (m : UsedManager). pdos_in (is_some s.inputs) m.number (words_of 50 s)) ins
    ∙ direction (is_some s.inputs) 3 first_input_index (category_found 50 s.categories) k.inputs fits.limits.inputs ins_read in
    let out_strays : has_stray (manager_of Out s).number (words_of 51 s) ≡ false =
    ap (λ (m : UsedManager). has_stray m.number (words_of 51 s)) outs ∙ no_strays 2 (category_found 51 s.categories) k.outputs outs_read in
    let in_strays : has_stray (manager_of In s).number (words_of 50 s) ≡ false =
    ap (λ (m : UsedManager). has_stray m.number (words_of 50 s)) ins ∙ no_strays 3 (category_found 50 s.categories) k.inputs ins_read in
    record {
      mailbox = mailbox;
      shown = shown;
      said = ap (λ (o : Option Mailbox). is_hardware o (areas_shown s).hardware) mailbox ∙ ap (λ (a : Areas). is_hardware k.mailbox a.hardware) shown ∙ full_said k.mailbox;
      outs = outs;
      ins = ins;
      outs_unspread = unspread (has_second false 3 (managers_in (words_of 41 s))) (is_some s.outputs) (has_stray (manager_of Out s).number (words_of 51 s)) (no_second_outs k (words_of 41 s) managers) out_strays;
      ins_unspread = unspread (has_second false 4 (managers_in (words_of 41 s))) (is_some s.inputs) (has_stray (manager_of In s).number (words_of 50 s)) (no_second_ins k (words_of 41 s) managers) in_strays;
      outputs = ap (λ (b : Bool). merged b (pdos_in (is_some s.outputs) (manager_of Out s).number (words_of 51 s)) s.outputs) fixed ∙ ap (λ (ps : List Pdo). merged false ps s.outputs) out_pdos ∙ merged_same k.outputs s.outputs fits.limits.outputs.apart fits.limits.outputs.few shows.outputs;
      inputs = ap (λ (b : Bool). merged b (pdos_in (is_some s.inputs) (manager_of In s).number (words_of 50 s)) s.inputs) fixed ∙ ap (λ (ps : List Pdo). merged false ps s.inputs) in_pdos ∙ merged_same k.inputs s.inputs fits.limits.inputs.apart fits.limits.inputs.few shows.inputs;
      general = general;
      fixed = fixed;
    }

assignable_if : (k : SlaveKind) (s : Shown) → IsRead k s → (is_assignable s ≡ false → k.mailbox ≡ None)
assignable_if k s r h = by k.mailbox refl
  where
    by : (o : Option Mailbox) → k.mailbox ≡ o → k.mailbox ≡ None
    by None e = e
    by (Some m) e =
        let t : is_assignable s ≡ true = ap (λ (o : Option Mailbox). is_some o && not (is_fixed s)) (r.mailbox ∙ e) ∙ ap not r.fixed in
        no_truth (sym h ∙ t)

same_pdos : (first : ℕ) (assignable : Bool) (all ps : List Pdo) → all ≡ ps → ArePdos first ps → (assignable ≡ false → names_twice (assigned_entries ps (indices ps)) ≡ false)
    → listed assignable first all ≡ ps
same_pdos first assignable all ps e limits once = ap (listed assignable first) e ∙ listed_same assignable first ps limits once

outs_listed : (c : Contents) (place : ℕ) (row : SlaveRow) (k : SlaveKind) (s : Shown) → IsSlaveOf c place row k → FitsKind k → IsRead k s → listed_of Out s ≡ k.outputs
outs_listed c place row k s own fits r =
    same_pdos first_output_index (is_assignable s) (all_pdos Out s) k.outputs r.outputs fits.limits.outputs (λ h. all_outputs_once c place row k own (assignable_if k s r h))

ins_listed : (c : Contents) (place : ℕ) (row : SlaveRow) (k : SlaveKind) (s : Shown) → IsSlaveOf c place row k → FitsKind k → IsRead k s → listed_of In s ≡ k.inputs
ins_listed c place row k s own fits r =
    same_pdos first_input_index (is_assignable s) (all_pdos In s) k.inputs r.inputs fits.limits.inputs (λ h. all_inputs_once c place row k own (assignable_if k s r h))

same_kind : (c : Contents) (place : ℕ) (row : SlaveRow) (k : SlaveKind) (s : Shown) → IsSlaveOf c place row k → FitsKind k → device_of s.identity ≡ k.device → IsRead k s → kind_of s ≡ as_hardware k
same_kind c place row k s own fits device r =
    alike made (device_of s.identity) k.device (usable s.mailbox) k.mailbox (areas_of s) (full_areas k false)
    (listed_of Out s) k.outputs (listed_of In s) k.inputs (has_lrw s) k.lrw
    device r.mailbox
    (ap (λ (b : Bool). if b then areas_shown s else usual_areas (areas_shown s)) r.said ∙ r.shown)
    (outs_listed c place row k s own fits r)
    (ins_listed c place row k s own fits r)
    (ap (λ (bs : List ℕ). not (bit_at (slice_index bs 11) 1 == 1)) r.general ∙ flag_back k.lrw)

-- ---- nothing is left unsaid

abbrev no_gaps : Gaps
no_gaps = record { is_spread = false; is_silent = false; lacks = false; left_out = None }

gapless : (spread silent lack : Bool) (out : Option ℕ) → spread ≡ false → silent ≡ false → lack ≡ false → out ≡ None
    → record { is_spread = spread; is_silent = silent; lacks = lack; left_out = out } ≡ no_gaps
gapless spread silent lack out e f g h = cc

nothing_noted : (a b x y : Bool) (g h : Gaps) → a ≡ false → b ≡ false → g ≡ no_gaps → h ≡ no_gaps → x ≡ false → y ≡ false
    → gaps_noted (gaps_noted (noted (noted [] a unsaid.Mailbox) b unsaid.Managers) Out g x) In h y ≡ []
nothing_noted a b x y g h p q r s t u = rw (p, q, r, s, t, u) refl

left_out_none : (first : ℕ) (all ps : List Pdo) (exchanged : Option (List Pdo)) → all ≡ ps → ArePdos first ps → names_twice (assigned_entries ps (exchanged_of first ps exchanged)) ≡ false
    → left_out first (kept first all) exchanged ≡ None
left_out_none first all ps exchanged e limits once =
    ap (λ (qs : List Pdo). left_out first qs exchanged) (ap (kept first) e ∙ kept_same first ps limits) ∙ none_left_out ps (exchanged_of first ps exchanged) once

lacks_none : (first : ℕ) (ps qs : List Pdo) → ps ≡ qs → ArePdos first qs → lacks first ps ≡ false
lacks_none first ps qs e limits =
    ap (lacks first) e
    ∙ ap (λ (xs : List Pdo). nat_lt (length xs) (length qs)) (kept_same first qs limits)
    ∙ le-ltb (length qs) (length qs) (omega arith)

-- it has no mailbox, or says what it exchanges, or there is nothing to say
not_silent : (usable : Option Mailbox) (said : Bool) (all ps : List Pdo) (o : Option Mailbox) → usable ≡ o → all ≡ ps → ((m : Mailbox) → o ≡ Some m → ps ≢ [] → said ≡ true)
    → (is_some usable && (not said && not (length all == 0))) ≡ false
not_silent usable said all ps None e f h = ap (λ (m : Option Mailbox). is_some m && (not said && not (length all == 0))) e
not_silent usable said all [] (Some m) e f h =
    and_right (is_some usable) (not said && not (length all == 0))
    (and_right (not said) (not (length all == 0)) (ap (λ (qs : List Pdo). not (length qs == 0)) f))
not_silent usable said all (p ∷ ps) (Some m) e f h =
    let t : said ≡ true = h m refl (λ z. cc) in
    and_right (is_some usable) (not said && not (length all == 0)) (ap (λ (b : Bool). not b && not (length all == 0)) t)

-- the length is that of the PDOs
not_other_size : (said whole : Bool) (long size : ℕ) → long ≡ size → (not said && (whole && (not (long == 0) && not (long == size)))) ≡ false
not_other_size said whole long size e =
    let t : (long == size) ≡ true = eq-eqb long size e in
    and_right (not said) (whole && (not (long == 0) && not (long == size)))
    (and_right whole (not (long == 0) && not (long == size)) (and_right (not (long == 0)) (not (long == size)) (ap not t)))

nothing_unsaid : (c : Contents) (place : ℕ) (row : SlaveRow) (k : SlaveKind) (s : Shown) → IsSlaveOf c place row k → FitsKind k → ShowsType k s → IsRead k s → ExchangesOnce k s → SaysExchanged k s
    → unsaid_of s ≡ []
nothing_unsaid c place row k s own fits shows r once says =
    nothing_noted (not (s.mailbox.place.receive_size == 0) && is_none (usable s.mailbox)) (not (is_hardware (usable s.mailbox) (areas_shown s).hardware))
    (has_other_size Out s) (has_other_size In s) (gaps_of Out s) (gaps_of In s)
    (mailboxes k.mailbox refl) (ap not r.said)
    (gapless (is_spread Out s) (is_silent Out s) (lacks first_output_index (all_pdos Out s)) (left_out first_output_index (kept first_output_index (all_pdos Out s)) s.outputs)
    r.outs_unspread (not_silent (usable s.mailbox) (is_some s.outputs) (all_pdos Out s) k.outputs k.mailbox r.mailbox r.outputs says.outputs)
    (lacks_none first_output_index (all_pdos Out s) k.outputs r.outputs fits.limits.outputs)
    (left_out_none first_output_index (all_pdos Out s) k.outputs s.outputs r.outputs fits.limits.outputs once.outputs))
    (gapless (is_spread In s) (is_silent In s) (lacks first_input_index (all_pdos In s)) (left_out first_input_index (kept first_input_index (all_pdos In s)) s.inputs)
    r.ins_unspread (not_silent (usable s.mailbox) (is_some s.inputs) (all_pdos In s) k.inputs k.mailbox r.mailbox r.inputs says.inputs)
    (lacks_none first_input_index (all_pdos In s) k.inputs r.inputs fits.limits.inputs)
    (left_out_none first_input_index (all_pdos In s) k.inputs s.inputs r.inputs fits.limits.inputs once.inputs))
    (not_other_size (is_some s.outputs) (is_whole (gaps_of Out s)) (manager_of Out s).long (bytes_of_bits (pdos_bits (listed_of Out s)))
    (ap (λ (m : UsedManager). m.long) r.outs ∙ ap (λ (ps : List Pdo). bytes_of_bits (pdos_bits ps)) (sym (outs_listed c place row k s own fits r))))
    (not_other_size (is_some s.inputs) (is_whole (gaps_of In s)) (manager_of In s).long (bytes_of_bits (pdos_bits (listed_of In s)))
    (ap (λ (m : UsedManager). m.long) r.ins ∙ ap (λ (ps : List Pdo). bytes_of_bits (pdos_bits ps)) (sym (ins_listed c place row k s own fits r))))
  where
    mailboxes : (o : Option Mailbox) → k.mailbox ≡ o → (not (s.mailbox.place.receive_size == 0) && is_none (usable s.mailbox)) ≡ false
    mailboxes None e =
        let z : (s.mailbox.place.receive_size == 0) ≡ true = eq-eqb s.mailbox.place.receive_size 0 (shows.no_mailbox e) in
        ap (λ (b : Bool). not b && is_none (usable s.mailbox)) z
    mailboxes (Some m) e = and_right (not (s.mailbox.place.receive_size == 0)) (is_none (usable s.mailbox)) (ap (λ (o : Option Mailbox). is_none o) (r.mailbox ∙ e))

pub full_types_are_found : FullTypesAreFound
full_types_are_found c place row k face s own fits is_face plain usable no_pins shows =
    let r : IsRead k s = read_all k face s fits is_face usable no_pins shows in
    (same_kind c place row k s own fits shows.identity r, nothing_unsaid c place row k s own fits shows r)

pub rows_exchange_once : RowsExchangeOnce
rows_exchange_once c place row k s own outs ins = record {
  outputs = ap (λ (is : List ℕ). names_twice (assigned_entries k.outputs is)) outs ∙ outputs_once c place row k own;
  inputs = ap (λ (is : List ℕ). names_twice (assigned_entries k.inputs is)) ins ∙ inputs_once c place row k own;
}

-- ---- what is found

assigned_once : (first : ℕ) (ps qs : List Pdo) (is : List ℕ) (exchanged : Option (List Pdo)) → ps ≡ qs → is ≡ assigned_of first qs exchanged → names_twice (assigned_entries ps is) ≡ false
assigned_once first ps qs is exchanged e f =
    ap (λ (xs : List Pdo). names_twice (assigned_entries xs is)) e ∙ ap (λ (js : List ℕ). names_twice (assigned_entries qs js)) f ∙ together_once qs (exchanged_of first qs exchanged)

pub found_assigns_once : FoundAssignsOnce
found_assigns_once s f h = (
  assigned_once first_output_index f.kind.outputs (kind_of s).outputs f.outputs s.outputs (ap (λ (k : SlaveKind). k.outputs) h.kind) h.outputs,
  assigned_once first_input_index f.kind.inputs (kind_of s).inputs f.inputs s.inputs (ap (λ (k : SlaveKind). k.inputs) h.kind) h.inputs,
)
