-- A slave whose values were found under its keys.
use Rattle.std.proofs.Common.{◌≡◌, ℕ, Bool, true, false, not, ◌||◌, List, [], get_or, Option, None, Result, Ok, Err, codes, refl, sym, ap, ◌∙◌}
use Rattle.std.specs.Prelude.{unwrap_or}
use Rattle.std.specs.Borrow.{Bor}
use Rattle.toml.specs.Data.{Members, get_member}
use Rattle.toml.specs.declared.value.Value.{Value}
use Rattle.ec_device.specs.Types.{first_output_index, first_input_index}
use Rattle.ec_device.specs.declared.parameter.Parameter.{Parameter}
use Rattle.ec_table.specs.declared.fault.Fault.{Fault}
use Rattle.ec_table.specs.declared.fault.Fault.TheVariants.{TwiceNamed}
use Rattle.ec_table.specs.declared.fault.Position.{Position}
use Rattle.ec_table.specs.declared.keys.Shape.TheVariants as shape
use Rattle.ec_table.specs.declared.rows.Format.{Format}
use Rattle.ec_table.specs.declared.rows.SlaveRow.{SlaveRow}
use Rattle.ec_table.specs.declared.rows.TypeRow.{TypeRow}
use Rattle.ec_table.specs.declared.slaves.Written.{Written}
use Rattle.ec_table.specs.Fields.{◌>>=◌, must, full_format, keys_are, name_in, number_or_0, viewed}
use Rattle.ec_table.specs.Keys.{names_of}
use Rattle.ec_table.specs.Names.{is_named}
use Rattle.ec_table.specs.Parameters.{parameters_in}
use Rattle.ec_table.specs.Pdos.{last_output_index, last_input_index, has_twice, numbers_in}
use Rattle.ec_table.specs.Reading.{slave_at, slave_named, slave_of_type, written_in}
use Rattle.ec_table.specs.Values.{AreUnder}

-- values that are put together and then used
put_together : {A B C D F W X : Type 0} (a : Result A Fault) (b : Result B Fault) (c : Result C Fault) (d : Result D Fault) (f : Result F Fault) (make : A → B → C → D → F → W) (use_it : W → Result X Fault)
    → (a >>= (λ x. b >>= (λ y. c >>= (λ z. d >>= (λ u. f >>= (λ v. use_it (make x y z u v)))))))
    ≡ ((a >>= (λ x. b >>= (λ y. c >>= (λ z. d >>= (λ u. f >>= (λ v. Ok (make x y z u v))))))) >>= use_it)
put_together (Err e) b c d f make use_it = refl
put_together (Ok x) (Err e) c d f make use_it = refl
put_together (Ok x) (Ok y) (Err e) d f make use_it = refl
put_together (Ok x) (Ok y) (Ok z) (Err e) f make use_it = refl
put_together (Ok x) (Ok y) (Ok z) (Ok u) (Err e) make use_it = refl
put_together (Ok x) (Ok y) (Ok z) (Ok u) (Ok v) make use_it = refl

then_same : {A B : Type 0} (r : Result A Fault) (f g : A → Result B Fault) → ((x : A) → f x ≡ g x) → (r >>= f) ≡ (r >>= g)
then_same (Ok x) f g h = h x
then_same (Err e) f g h = refl

same_5 : {A B C D F W : Type 0} (h : A → B → C → D → F → W) (a k : A) (b l : B) (c m : C) (d n : D) (e o : F) → a ≡ k → b ≡ l → c ≡ m → d ≡ n → e ≡ o → h a b c d e ≡ h k l m n o
same_5 h a k b l c m d n e o p q r s t = cc

two_same : {A B C : Type 0} (r s : Result A Fault) (v w : Result B Fault) (k : A → B → Result C Fault) → r ≡ s → v ≡ w → (r >>= (λ x. v >>= k x)) ≡ (s >>= (λ x. w >>= k x))
two_same {A = A} {B = B} r s v w k p q = ap (λ (z : Result A Fault). z >>= (λ x. v >>= k x)) p ∙ ap (λ (z : Result B Fault). s >>= (λ x. z >>= k x)) q

-- what is left once the values are read: the slave of these names
abbrev pub checked : List TypeRow → Position → List ℕ → Bool → List ℕ → Written → Result SlaveRow Fault
checked types p name taken type_name w = must (not (taken || (has_twice (unwrap_or w.outputs []) || has_twice (unwrap_or w.inputs [])))) (TwiceNamed p) >>= (λ _. slave_of_type types p name type_name w)

pub checked_twice : (types : List TypeRow) (p : Position) (name : List ℕ) (taken : Bool) (type_name : List ℕ) (w : Written) → (taken || (has_twice (unwrap_or w.outputs []) || has_twice (unwrap_or w.inputs []))) ≡ true
    → checked types p name taken type_name w ≡ Err (TwiceNamed p)
checked_twice types p name taken type_name w h = ap (λ (b : Bool). must (not b) (TwiceNamed p) >>= (λ _. slave_of_type types p name type_name w)) h

pub checked_once : (types : List TypeRow) (p : Position) (name : List ℕ) (taken : Bool) (type_name : List ℕ) (w : Written) → (taken || (has_twice (unwrap_or w.outputs []) || has_twice (unwrap_or w.inputs []))) ≡ false
    → checked types p name taken type_name w ≡ slave_of_type types p name type_name w
checked_once types p name taken type_name w h = ap (λ (b : Bool). must (not b) (TwiceNamed p) >>= (λ _. slave_of_type types p name type_name w)) h

slave_parts : (types : List TypeRow) (p : Position) (ms : Members) (name : List ℕ) (taken : Bool) → slave_named types p ms name taken
    ≡ (name_in p (get_member (codes "type") ms) >>= (λ type_name. written_in p (get_member (codes "out") ms) (get_member (codes "in") ms) (get_member (codes "serial") ms) (get_member (codes "unit") ms) (get_member (codes "init") ms) >>= checked types p name taken type_name))
unfolding slave_named written_in
slave_parts types p ms name taken =
    let make : Option (List ℕ) → Option (List ℕ) → ℕ → ℕ → List Parameter → Written = λ o i s u q. record { outputs = o; inputs = i; serial = s; unit = u; init = q } in
    then_same (name_in p (get_member (codes "type") ms)) _ _ (λ type_name.
    put_together (numbers_in p first_output_index last_output_index (get_member (codes "out") ms)) (numbers_in p first_input_index last_input_index (get_member (codes "in") ms))
    (number_or_0 p 4294967295 (get_member (codes "serial") ms)) (number_or_0 p 63 (get_member (codes "unit") ms)) (parameters_in p (get_member (codes "init") ms)) make (checked types p name taken type_name))

-- the slave, once its own name is known
pub slave_at_named : (f : Format) (types : List TypeRow) (p : Position) (found : List (Option (Bor Value))) (ms : Members) (rows : List SlaveRow) (name : List ℕ) (taken : Bool) (v0 : Option (Bor Value))
    → true ≡ keys_are shape.Slave f ms → AreUnder found 0 (names_of shape.Slave full_format) ms → v0 ≡ get_or found 0 None → Ok name ≡ name_in p (viewed v0) → taken ≡ is_named (λ (s : SlaveRow). s.name) name rows
    → slave_at f types p ms rows ≡ slave_named types p ms name taken
unfolding slave_at
slave_at_named f types p found ms rows name taken v0 keys u0 e0 n has =
    let name_is : name_in p (get_member (codes "name") ms) ≡ Ok name = ap (name_in p) (sym u0.0 ∙ ap viewed (sym e0)) ∙ sym n in
    let named : slave_at f types p ms rows ≡ slave_named types p ms name (is_named (λ (s : SlaveRow). s.name) name rows) = rw (sym keys, name_is) refl in
    named ∙ ap (slave_named types p ms name) (sym has)

-- the slave by what was read of it
pub slave_told : (types : List TypeRow) (p : Position) (found : List (Option (Bor Value))) (ms : Members) (name : List ℕ) (taken : Bool) (r : Result (List ℕ) Fault) (w : Result Written Fault) (v1 : Option (Bor Value))
    → AreUnder found 0 (names_of shape.Slave full_format) ms → v1 ≡ get_or found 1 None → r ≡ name_in p (viewed v1)
    → written_in p (viewed (get_or found 2 None)) (viewed (get_or found 3 None)) (viewed (get_or found 4 None)) (viewed (get_or found 5 None)) (viewed (get_or found 6 None)) ≡ w
    → slave_named types p ms name taken ≡ (r >>= (λ type_name. w >>= checked types p name taken type_name))
slave_told types p found ms name taken r w v1 u0 e1 n i =
    let u1 = u0.1 in
    let u2 = u1.1 in
    let u3 = u2.1 in
    let u4 = u3.1 in
    let u5 = u4.1 in
    let u6 = u5.1 in
    let type_is : name_in p (get_member (codes "type") ms) ≡ r = ap (name_in p) (sym u1.0 ∙ ap viewed (sym e1)) ∙ sym n in
    let written_is : written_in p (get_member (codes "out") ms) (get_member (codes "in") ms) (get_member (codes "serial") ms) (get_member (codes "unit") ms) (get_member (codes "init") ms) ≡ w
    = same_5 (written_in p) _ _ _ _ _ _ _ _ _ _ (sym u2.0) (sym u3.0) (sym u4.0) (sym u5.0) (sym u6.0) ∙ i in
    slave_parts types p ms name taken ∙ two_same _ _ _ _ (checked types p name taken) type_is written_is
