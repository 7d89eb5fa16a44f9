-- A type whose values were found under its keys.
use Rattle.std.proofs.Common.{◌≡◌, ℕ, Bool, true, false, not, ◌||◌, List, get_or, Option, None, Result, Ok, Err, codes, refl, sym, ap, ◌∙◌}
use Rattle.std.specs.Borrow.{Bor}
use Rattle.toml.specs.Data.{Members, get_member}
use Rattle.toml.specs.declared.value.Value.{Value}
use Rattle.ec_device.specs.declared.slave_type.Device.{Device}
use Rattle.ec_device.specs.declared.slave_type.Mailbox.{Mailbox}
use Rattle.ec_device.specs.declared.hardware.Hardware.{Hardware}
use Rattle.ec_device.specs.declared.parameter.Parameter.{Parameter}
use Rattle.ec_table.specs.declared.fault.Fault.{Fault}
use Rattle.ec_table.specs.declared.fault.Fault.TheVariants.{BadValue, TwiceNamed}
use Rattle.ec_table.specs.declared.fault.Position.{Position}
use Rattle.ec_table.specs.declared.keys.Shape.TheVariants as shape
use Rattle.ec_table.specs.declared.rows.Format.{Format}
use Rattle.ec_table.specs.declared.rows.ProcessData.{ProcessData}
use Rattle.ec_table.specs.declared.rows.TypeRow.{TypeRow}
use Rattle.ec_table.specs.Fields.{◌>>=◌, must, full_format, keys_are, name_in, mailbox_in, truth_in, viewed}
use Rattle.ec_table.specs.Keys.{names_of}
use Rattle.ec_table.specs.Names.{is_named}
use Rattle.ec_table.specs.Errors.{TableError}
use Rattle.std.specs.Result.{IsErr, IsErrAnd}
use Rattle.ec_table.specs.InOrder.{Fails, Gives}
use Rattle.ec_table.specs.Parameters.{parameters_in}
use Rattle.ec_table.specs.Reading.{device_in, process_in, process_twice, hardware_by, hardware_in, is_possible, type_at, type_named}
use Rattle.ec_table.specs.declared.or_memory.OrMemory.TheVariants.{Memory, Refused}
use Rattle.ec_table.specs.Values.{AreUnder}

same_3 : {A B : Type 0} (f : A → A → A → B) (a b c x y z : A) → a ≡ x → b ≡ y → c ≡ z → f a b c ≡ f x y z
same_3 f a b c x y z p q r = cc

same_4 : {A B : Type 0} (f : A → A → A → A → B) (a b c d x y z w : A) → a ≡ x → b ≡ y → c ≡ z → d ≡ w → f a b c d ≡ f x y z w
same_4 f a b c d x y z w p q r s = cc

same_8 : {A B : Type 0} (f : A → A → A → A → A → A → A → A → B) (a b c d e g h i k l m n o p q r : A) → a ≡ k → b ≡ l → c ≡ m → d ≡ n → e ≡ o → g ≡ p → h ≡ q → i ≡ r → f a b c d e g h i ≡ f k l m n o p q r
same_8 f a b c d e g h i k l m n o p q r s t u v w x y z = cc

-- the tests behind those of its values
abbrev pub tested : Position → TypeRow → (twice possible : Bool) → Result TypeRow Fault
tested p row twice possible = must (not twice) (TwiceNamed p) >>= (λ _. must possible (BadValue p) >>= (λ _. Ok row))

pub tested_twice : (p : Position) (row : TypeRow) (twice possible : Bool) → twice ≡ true → tested p row twice possible ≡ Err (TwiceNamed p)
tested_twice p row true possible h = refl
tested_twice p row false possible h = absurd (let z : false ≡ true = h in cc)

pub tested_impossible : (p : Position) (row : TypeRow) (twice possible : Bool) → twice ≡ false → possible ≡ false → tested p row twice possible ≡ Err (BadValue p)
tested_impossible p row true possible h k = absurd (let z : true ≡ false = h in cc)
tested_impossible p row false true h k = absurd (let z : true ≡ false = k in cc)
tested_impossible p row false false h k = refl

pub tested_possible : (p : Position) (row : TypeRow) (twice possible : Bool) → twice ≡ false → possible ≡ true → tested p row twice possible ≡ Ok row
tested_possible p row true possible h k = absurd (let z : true ≡ false = h in cc)
tested_possible p row false false h k = absurd (let z : false ≡ true = k in cc)
tested_possible p row false true h k = refl

pub neither : (a b : Bool) → a ≡ false → b ≡ false → (a || b) ≡ false
neither true b h k = h
neither false b h k = k

-- whether its name, or an object in its direction, stands twice
abbrev pub stands_twice : List TypeRow → List ℕ → ProcessData → Bool
stands_twice rows name process = is_named (λ (t : TypeRow). t.name) name rows || process_twice process

-- the type by what was read of it: all but what it says of real devices is good
pub type_told : (f : Format) (p : Position) (found : List (Option (Bor Value))) (ms : Members) (rows : List TypeRow)
    (name : List ℕ) (device : Device) (mailbox : Option Mailbox) (process : ProcessData) (lrw : Bool) (r : Result (Option Hardware) Fault) (q : Result (List Parameter) Fault) (v0 v4 v9 v14 : Option (Bor Value))
    → true ≡ keys_are shape.Type f ms → AreUnder found 0 (names_of shape.Type full_format) ms
    → v0 ≡ get_or found 0 None → v4 ≡ get_or found 4 None → v9 ≡ get_or found 9 None → v14 ≡ get_or found 14 None
    → Ok name ≡ name_in p (viewed v0)
    → Ok device ≡ device_in p (viewed (get_or found 1 None)) (viewed (get_or found 2 None)) (viewed (get_or found 3 None))
    → Ok mailbox ≡ mailbox_in p (viewed v4)
    → process_in p (viewed (get_or found 5 None)) (viewed (get_or found 6 None)) (viewed (get_or found 7 None)) (viewed (get_or found 8 None)) ≡ Ok process
    → Ok lrw ≡ truth_in p true (viewed v9)
    → r
    ≡ hardware_by f p process (viewed (get_or found 10 None)) (viewed (get_or found 11 None)) (viewed (get_or found 12 None)) (viewed (get_or found 13 None)) (viewed (get_or found 15 None))
    (viewed (get_or found 16 None)) (viewed (get_or found 17 None)) (viewed (get_or found 3 None))
    → parameters_in p (viewed v14) ≡ q
    → type_at f p ms rows
    ≡ (r >>= (λ hardware. q >>= (λ init. tested p (record { name = name; device = device; mailbox = mailbox; process = process; lrw = lrw; hardware = hardware; init = init }) (stands_twice rows name process) (is_possible mailbox hardware init))))
unfolding type_at type_named
type_told f p found ms rows name device mailbox process lrw r q v0 v4 v9 v14 keys u0 e0 e4 e9 e14 n d m s l h i =
    let u1 = u0.1 in
    let u2 = u1.1 in
    let u3 = u2.1 in
    let u4 = u3.1 in
    let u5 = u4.1 in
    let u6 = u5.1 in
    let u7 = u6.1 in
    let u8 = u7.1 in
    let u9 = u8.1 in
    let u10 = u9.1 in
    let u11 = u10.1 in
    let u12 = u11.1 in
    let u13 = u12.1 in
    let u14 = u13.1 in
    let u15 = u14.1 in
    let u16 = u15.1 in
    let u17 = u16.1 in
    let name_is : name_in p (get_member (codes "name") ms) ≡ Ok name = ap (name_in p) (sym u0.0 ∙ ap viewed (sym e0)) ∙ sym n in
    let device_is : device_in p (get_member (codes "vendor") ms) (get_member (codes "product") ms) (get_member (codes "revision") ms) ≡ Ok device
    = same_3 (device_in p) _ _ _ _ _ _ (sym u1.0) (sym u2.0) (sym u3.0) ∙ sym d in
    let mailbox_is : mailbox_in p (get_member (codes "mailbox") ms) ≡ Ok mailbox = ap (mailbox_in p) (sym u4.0 ∙ ap viewed (sym e4)) ∙ sym m in
    let process_is : process_in p (get_member (codes "out_start") ms) (get_member (codes "in_start") ms) (get_member (codes "rxpdo") ms) (get_member (codes "txpdo") ms) ≡ Ok process
    = same_4 (process_in p) _ _ _ _ _ _ _ _ (sym u5.0) (sym u6.0) (sym u7.0) (sym u8.0) ∙ s in
    let lrw_is : truth_in p true (get_member (codes "lrw") ms) ≡ Ok lrw = ap (truth_in p true) (sym u9.0 ∙ ap viewed (sym e9)) ∙ sym l in
    let hardware_is : hardware_in f p process ms ≡ r
    = same_8 (hardware_by f p process) _ _ _ _ _ _ _ _ _ _ _ _ _ _ _ _ (sym u10.0) (sym u11.0) (sym u12.0) (sym u13.0) (sym u15.0) (sym u16.0) (sym u17.0) (sym u3.0) ∙ sym h in
    let init_is : parameters_in p (get_member (codes "init") ms) ≡ q = ap (parameters_in p) (sym u14.0 ∙ ap viewed (sym e14)) ∙ i in
    rw (sym keys, name_is, device_is, mailbox_is, process_is, lrw_is, hardware_is, init_is) refl

-- downloads that couldn't be read are the fault of the type, unless memory ran out
init_told : (e : TableError) (read : Result (List Parameter) Fault) (whole : Result TypeRow Fault) → Fails e read → ((f : Fault) → read ≡ Err f → whole ≡ Err f) → Fails e whole
init_told Memory read whole h told = tt
init_told (Refused f) read whole h told = told f h

pub init_failed : (result : Result TypeRow TableError) (e : TableError) (read : Result (List Parameter) Fault) (whole : Result TypeRow Fault) → IsErr result × IsErrAnd result (λ x. x ≡ e) → Fails e read → ((f : Fault) → read ≡ Err f → whole ≡ Err f) → Gives result whole
init_failed (Ok t) e read whole h fails told = absurd h.1
init_failed (Err x) e read whole h fails told = rw h.1 (init_told e read whole fails told)
