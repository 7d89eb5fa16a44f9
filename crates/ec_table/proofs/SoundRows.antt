-- What was read is sound: slaves, links, and the whole.
use Rattle.std.proofs.Common.{◌≡◌, ◌≢◌, ℕ, ◌<◌, ◌≤◌, Bool, true, false, not, ◌&&◌, ◌||◌, ◌==◌, List, [], ◌∷◌, ◌++◌, length, get_or, Ok, Option, Some, None, is_some, All, Contains, unwrap_or, position, subst, arith, refl, codes, slice_get}
use Rattle.std.specs.List.{list_any}
use Rattle.std.specs.Option.{ok_or}
use Rattle.std.proofs.lemmas.Bool.{or_parts, and_parts}
use Rattle.std.proofs.lemmas.Bool.Decides.{Decides-eqb}
use Rattle.std.proofs.lemmas.Slice.Eq.{bytes_eq-Decides}
use Rattle.std.proofs.lemmas.List.Folds.{Any-from_list_any}
use Rattle.std.proofs.lemmas.List.Elements.{All-push, All-nil, All-cons, All-get_or}
use Rattle.std.proofs.lemmas.List.Quantifiers.{all_pairs_push, position-Some}
use Rattle.std.proofs.lemmas.Option.{slice_get_within, get_or_from_slice_get}
use Rattle.toml.specs.Parse.{parse_document}
use Rattle.toml.specs.Data.{Data, Members, Items, at, get_member}
use Rattle.ec_table.specs.declared.fault.Fault.TheVariants.{Toml, BadKey, BadValue, TwiceNamed, UnknownName}
use Rattle.ec_table.specs.declared.fault.Position.{Position}
use Rattle.ec_table.specs.declared.rows.Format.{Format}
use Rattle.ec_table.specs.declared.rows.Version.{Version}
use Rattle.ec_table.specs.declared.rows.Version.TheVariants.{One, Two}
use Rattle.ec_table.specs.declared.rows.Direction.{Direction}
use Rattle.ec_table.specs.declared.rows.Direction.TheVariants.{Out, In}
use Rattle.ec_table.specs.declared.rows.TypeRow.{TypeRow}
use Rattle.ec_table.specs.declared.rows.SlaveRow.{SlaveRow}
use Rattle.ec_table.specs.declared.rows.VariableRow.{VariableRow}
use Rattle.ec_table.specs.declared.rows.LinkBits.{LinkBits}
use Rattle.ec_table.specs.declared.rows.LinkRow.{LinkRow}
use Rattle.ec_table.specs.declared.keys.Shape.TheVariants as shape
use Rattle.ec_table.specs.Contents.{pdos_toward, assigned_toward}
use Rattle.ec_table.specs.Fields.{must, each_key, is_key, has_required, keys_are, link_bits_of, link_bits_in, section_in}
use Rattle.ec_table.specs.InOrder.{rows_after}
use Rattle.ec_table.specs.Pdos.{indices_of, has_twice, numbers_in}
use Rattle.ec_device.specs.Hardware.{is_assignable}
use Rattle.ec_table.specs.Parameters.{are_taken}
use Rattle.ec_table.specs.Reading.{all_in, same_list, suits, assigned_in, slave_at, slave_named, slave_of_type, slave_element, all_bits, link_at, link_element, type_element, variable_element, top, stated_format, table_of_document, table_of_sections, table_of}
use Rattle.ec_table.specs.Names.{is_named, index_named}
use Rattle.ec_table.specs.Sound.{IsOnce, IsType, AreTypes, IsAssignment, AreDownloads, IsSlave, AreSlaves, IsVariable, AreVariables, IsBits, IsLink, IsSound, IsName}
use Rattle.ec_table.proofs.Ranges.{pdos_toward_read}
use Rattle.ec_table.specs.Laws.{AcceptedIsSound}
use Rattle.ec_table.proofs.ValueTests.{Meets, meets_ok, meets_then, any_met, must_met, ok_or_met, number_met, name_met, rows_met}
use Rattle.ec_table.proofs.SoundReads.{once_from_test, not_true, fresh, no_such_key, members_met, number_or_0_met, parameters_met, taken, types_met, types_of_format, variables_met, variables_of_format}

-- ---- keys

-- version 1 has no key `unit`
unit_in : (v : Version) (hardware : Bool) (ms : Members) → let f : Format = record { version = v; hardware = hardware } in keys_are shape.Slave f ms ≡ true → v ≡ One → get_member (codes "unit") ms ≡ None
unit_in One false ms keys e =
    let f : Format = record { version = One; hardware = false } in
    no_such_key (is_key shape.Slave f) (codes "unit") ms refl (and_parts (each_key (is_key shape.Slave f) ms) (has_required shape.Slave f ms) keys).0
unit_in One true ms keys e =
    let f : Format = record { version = One; hardware = true } in
    no_such_key (is_key shape.Slave f) (codes "unit") ms refl (and_parts (each_key (is_key shape.Slave f) ms) (has_required shape.Slave f ms) keys).0
unit_in Two hardware ms keys e = cc

pub no_unit : (f : Format) (ms : Members) → keys_are shape.Slave f ms ≡ true → f.version ≡ One → get_member (codes "unit") ms ≡ None
no_unit f ms keys e = unit_in f.version f.hardware ms keys e

-- a table that isn't for hardware has no key `init`
init_in : (v : Version) (hardware : Bool) (ms : Members) → let f : Format = record { version = v; hardware = hardware } in keys_are shape.Slave f ms ≡ true → hardware ≡ false → get_member (codes "init") ms ≡ None
init_in One false ms keys e =
    let f : Format = record { version = One; hardware = false } in
    no_such_key (is_key shape.Slave f) (codes "init") ms refl (and_parts (each_key (is_key shape.Slave f) ms) (has_required shape.Slave f ms) keys).0
init_in Two false ms keys e =
    let f : Format = record { version = Two; hardware = false } in
    no_such_key (is_key shape.Slave f) (codes "init") ms refl (and_parts (each_key (is_key shape.Slave f) ms) (has_required shape.Slave f ms) keys).0
init_in v true ms keys e = absurd (let z : true ≡ false = e in cc)

no_init : (f : Format) (ms : Members) → keys_are shape.Slave f ms ≡ true → f.hardware ≡ false → get_member (codes "init") ms ≡ None
no_init f ms keys e = init_in f.version f.hardware ms keys e

-- ---- slaves

contained : (x : ℕ) (ys : List ℕ) → list_any (λ y. y == x) ys ≡ true → Contains ys x
contained x ys h =
    let any = Any-from_list_any (λ y. y == x) ys h in
    let e : any.1 ≡ x = (Decides-eqb any.1 x).0 any.4 in
    subst (Contains ys) e (any.0, any.2, any.3)

all_contained : (xs ys : List ℕ) → all_in xs ys ≡ true → All (Contains ys) xs
all_contained [] ys h = All-nil (Contains ys)
all_contained (x ∷ xs) ys h =
    let parts : (list_any (λ y. y == x) ys ≡ true) × (all_in xs ys ≡ true) = and_parts (list_any (λ y. y == x) ys) (all_in xs ys) h in
    All-cons (Contains ys) x xs (contained x ys parts.0) (all_contained xs ys parts.1)

pub record Fits (t : TypeRow) (s r : SlaveRow) : Type 0 where
  pub same : s ≡ r
  pub known : (d : Direction) → All (Contains (indices_of (pdos_toward d t))) (assigned_toward d s)
  pub fixed : (d : Direction) → is_assignable t.mailbox t.hardware ≡ false → assigned_toward d s ≡ indices_of (pdos_toward d t)
  pub taken : t.mailbox ≡ None → s.init ≡ []

either : (a b : Bool) → (a || b) ≡ true → a ≡ false → b ≡ true
either false b h e = h
either true b h e = absurd (let z : true ≡ false = e in cc)

pub assigned_met : (p : Position) (t : TypeRow) (s : SlaveRow) → Meets (assigned_in p t s) (Fits t s)
unfolding assigned_in
assigned_met p t s =
    let outs : Bool = all_in s.outputs (indices_of t.process.outputs) in
    let ins : Bool = all_in s.inputs (indices_of t.process.inputs) in
    let same_outs : Bool = same_list s.outputs (indices_of t.process.outputs) in
    let same_ins : Bool = same_list s.inputs (indices_of t.process.inputs) in
    meets_then _ (Fits t s) _ _ (must_met (outs && ins) (UnknownName p)) (λ u hu.
    meets_then _ (Fits t s) _ _ (must_met (suits t s) (BadValue p)) (λ w hw.
    let last = and_parts (is_assignable t.mailbox t.hardware || (same_outs && same_ins)) (are_taken t.mailbox s.init) hw in
    meets_ok (Fits t s) s (record {
      same = refl;
      known = λ d. elim d as (λ d. All (Contains (indices_of (pdos_toward d t))) (assigned_toward d s)) [
        | Out ↦ all_contained s.outputs (indices_of t.process.outputs) (and_parts outs ins hu).0
        | In ↦ all_contained s.inputs (indices_of t.process.inputs) (and_parts outs ins hu).1
      ];
      fixed = λ d none. elim d as (λ d. assigned_toward d s ≡ indices_of (pdos_toward d t)) [
        | Out ↦ (bytes_eq-Decides s.outputs (indices_of t.process.outputs)).0 (and_parts same_outs same_ins (either (is_assignable t.mailbox t.hardware) (same_outs && same_ins) last.0 none)).0
        | In ↦ (bytes_eq-Decides s.inputs (indices_of t.process.inputs)).0 (and_parts same_outs same_ins (either (is_assignable t.mailbox t.hardware) (same_outs && same_ins) last.0 none)).1
      ];
      taken = taken t.mailbox s.init last.1;
    })))

-- written without a double, or all of the type's
once_or_all : (o : Option (List ℕ)) (all : List ℕ) → has_twice (unwrap_or o []) ≡ false → IsOnce all → IsOnce (unwrap_or o all)
once_or_all None all h a = a
once_or_all (Some xs) all h a = once_from_test xs h

pub record NewSlave (v : Format) (ts : List TypeRow) (found : List SlaveRow) (s : SlaveRow) : Type 0 where
  pub sound : IsSlave v.version ts s
  pub fresh : (k : ℕ) (d : SlaveRow) → k < length found → (get_or found k d).name ≢ s.name
  pub plain : v.hardware ≡ false → s.init ≡ []

pub type_at_place : (ts : List TypeRow) (k : ℕ) (t : TypeRow) → AreTypes ts → slice_get ts k ≡ Some t → IsType t
type_at_place ts k t h is = subst IsType (get_or_from_slice_get ts k t t is) (All-get_or IsType ts k t (slice_get_within ts k t is) h.each)

-- the row that the tests of a slave end with
pub slave_sound : (v : Format) (ts : List TypeRow) (k : ℕ) (t : TypeRow) (s : SlaveRow) → AreTypes ts → slice_get ts k ≡ Some t → s.type_index ≡ k → Fits t s s → ((d : Direction) → IsOnce (assigned_toward d s)) → IsName s.name → s.serial ≤ 4294967295 → s.unit ≤ 63 → (v.version ≡ One → s.unit ≡ 0) → AreDownloads t.mailbox s.init → IsSlave v.version ts s
slave_sound v ts k t s types is place fits once name serial unit one init = record {
  name = name;
  known = rw place (slice_get_within ts k t is);
  assigned = λ r d other. let here : slice_get ts k ≡ Some r = rw place at other in let e : t ≡ r = cc in
      subst (λ (r : TypeRow). IsAssignment (is_assignable r.mailbox r.hardware) (pdos_toward d r) (assigned_toward d s)) e (record { known = fits.known d; once = once d; fixed = fits.fixed d });
  serial = serial;
  unit = unit;
  one_unit = one;
  init = λ r other. let here : slice_get ts k ≡ Some r = rw place at other in let e : t ≡ r = cc in subst (λ (r : TypeRow). AreDownloads r.mailbox s.init) e init;
}

pub slave_met : (v : Format) (ts : List TypeRow) (p : Position) (ms : Members) (found : List SlaveRow) → AreTypes ts → Meets (slave_at v ts p ms found) (NewSlave v ts found)
unfolding slave_at slave_named slave_of_type
slave_met v ts p ms found types =
    meets_then _ (NewSlave v ts found) _ _ (must_met (keys_are shape.Slave v ms) (BadKey p)) (λ u keys.
    meets_then _ (NewSlave v ts found) _ _ (name_met p (get_member (codes "name") ms)) (λ name hname.
    meets_then _ (NewSlave v ts found) _ _ (name_met p (get_member (codes "type") ms)) (λ type_name _.
    meets_then _ (NewSlave v ts found) _ _ (any_met (numbers_in p 0x1600 0x17FF (get_member (codes "out") ms))) (λ outputs _.
    meets_then _ (NewSlave v ts found) _ _ (any_met (numbers_in p 0x1A00 0x1BFF (get_member (codes "in") ms))) (λ inputs _.
    meets_then _ (NewSlave v ts found) _ _ (number_or_0_met p 4294967295 (get_member (codes "serial") ms)) (λ serial hserial.
    meets_then _ (NewSlave v ts found) _ _ (number_or_0_met p 63 (get_member (codes "unit") ms)) (λ unit hunit.
    meets_then _ (NewSlave v ts found) _ _ (parameters_met p (get_member (codes "init") ms)) (λ init hinit.
    meets_then _ (NewSlave v ts found) _ _ (must_met (not (is_named (λ (s : SlaveRow). s.name) name found || (has_twice (unwrap_or outputs []) || has_twice (unwrap_or inputs [])))) (TwiceNamed p)) (λ w hw.
    meets_then _ (NewSlave v ts found) _ _ (any_met (ok_or (index_named (λ (t : TypeRow). t.name) type_name ts) (UnknownName p))) (λ place _.
    meets_then _ (NewSlave v ts found) _ _ (ok_or_met (slice_get ts place) (UnknownName p)) (λ t is.
    let row : SlaveRow = record { name = name; type_index = place; outputs = unwrap_or outputs (indices_of t.process.outputs); inputs = unwrap_or inputs (indices_of t.process.inputs); serial = serial; unit = unit; init = init } in
    let twice : (is_named (λ (s : SlaveRow). s.name) name found ≡ false) × ((has_twice (unwrap_or outputs []) || has_twice (unwrap_or inputs [])) ≡ false) = or_parts (is_named (λ (s : SlaveRow). s.name) name found) (has_twice (unwrap_or outputs []) || has_twice (unwrap_or inputs [])) (not_true _ hw) in
    let lists : (has_twice (unwrap_or outputs []) ≡ false) × (has_twice (unwrap_or inputs []) ≡ false) = or_parts (has_twice (unwrap_or outputs [])) (has_twice (unwrap_or inputs [])) twice.1 in
    let kind : IsType t = type_at_place ts place t types is in
    record {
      all = λ s done.
          let fits : Fits t row s = (assigned_met p t row).all s done in
          subst (NewSlave v ts found) fits.same (record {
            sound = slave_sound v ts place t row types is refl (record { same = refl; known = fits.known; fixed = fits.fixed; taken = fits.taken })
                (λ d. elim d as (λ d. IsOnce (assigned_toward d row)) [
                  | Out ↦ once_or_all outputs (indices_of t.process.outputs) lists.0 (pdos_toward_read t kind Out).once
                  | In ↦ once_or_all inputs (indices_of t.process.inputs) lists.1 (pdos_toward_read t kind In).once
                ])
                hname hserial.0 hunit.0 (λ one. hunit.1 (no_unit v ms keys one))
                (record { few = hinit.0.1; each = hinit.0.0; mailbox = fits.taken });
            fresh = fresh (λ (s : SlaveRow). s.name) name found twice.0;
            plain = λ none. hinit.1 (no_init v ms keys none);
          });
    })))))))))))

pub slave_added : (v : Format) (ts : List TypeRow) (found : List SlaveRow) (s : SlaveRow) → AreSlaves v.version ts found → NewSlave v ts found s → AreSlaves v.version ts (found ++ s ∷ [])
slave_added v ts found s h n = record { each = All-push (IsSlave v.version ts) found s h.each n.sound; once = all_pairs_push (λ (s r : SlaveRow). s.name ≢ r.name) found s h.once n.fresh }

pub slaves_met : (v : Format) (ts : List TypeRow) (ds : Items) → AreTypes ts → Meets (rows_after (slave_element v ts) [] 0 ds) (AreSlaves v.version ts)
slaves_met v ts ds types = rows_met (AreSlaves v.version ts) (NewSlave v ts) (slave_element v ts) (λ n d found. members_met (NewSlave v ts found) _ d _ (λ ms. slave_met v ts _ ms found types)) (slave_added v ts) [] 0 ds (record { each = All-nil (IsSlave v.version ts); once = λ i j d p q. absurd (omega arith) })

pub slaves_of_format : (v : Format) (ts : List TypeRow) (ds : Items) → AreTypes ts → Meets (rows_after (slave_element v ts) [] 0 ds) (All (λ (s : SlaveRow). v.hardware ≡ false → s.init ≡ []))
slaves_of_format v ts ds types =
    let P : SlaveRow → Type 0 = λ s. v.hardware ≡ false → s.init ≡ [] in
    rows_met (All P) (λ found s. P s) (slave_element v ts) (λ n d found. members_met P _ d _ (λ ms. record { all = λ s is. ((slave_met v ts _ ms found types).all s is).plain })) (λ found s h n. All-push P found s h n) [] 0 ds (All-nil P)

-- ---- links

pub link_bits_of_met : (p : Position) (d : Data) → Meets (link_bits_of p d) IsBits
unfolding link_bits_of
link_bits_of_met p d =
    meets_then _ IsBits _ _ (number_met p 0 63 (at 0 d)) (λ a ha.
    meets_then _ IsBits _ _ (number_met p 0 63 (at 1 d)) (λ b hb.
    meets_then _ IsBits _ _ (number_met p 1 64 (at 2 d)) (λ n hn.
    meets_then _ IsBits _ _ (any_met (must (not (is_some (at 3 d))) (BadValue p))) (λ u _.
    meets_ok IsBits (record { variable_bit = a; entry_bit = b; count = n }) (record { variable_bit = ha.1; entry_bit = hb.1; least = hn.0; most = hn.1 })))))

pub link_bits_met : (p : Position) (v : Option Data) → Meets (link_bits_in p v) (λ o. (b : LinkBits) → o ≡ Some b → IsBits b)
unfolding link_bits_in
link_bits_met p None = meets_ok (λ o. (b : LinkBits) → o ≡ Some b → IsBits b) None (λ m is. cc)
link_bits_met p (Some d) = meets_then IsBits (λ o. (b : LinkBits) → o ≡ Some b → IsBits b) _ _ (link_bits_of_met p d) (λ m hm. meets_ok (λ o. (k : LinkBits) → o ≡ Some k → IsBits k) (Some m) (λ k is. let e : m ≡ k = cc in subst IsBits e hm))

bits_or_all : (o : Option LinkBits) (w : VariableRow) → ((b : LinkBits) → o ≡ Some b → IsBits b) → IsVariable w → IsBits (unwrap_or o (all_bits w))
bits_or_all None w h var = record { variable_bit = omega arith; entry_bit = omega arith; least = var.least; most = var.most }
bits_or_all (Some b) w h var = h b refl

position_within : {X : Type 0} (test : X → Bool) (xs : List X) (k : ℕ) → position test xs ≡ Some k → k < length xs
position_within test [] k h = cc
position_within test (x ∷ xs) k h = (position-Some test (x ∷ xs) k x h).0

variable_at_place : (ws : List VariableRow) (k : ℕ) (w : VariableRow) → AreVariables ws → slice_get ws k ≡ Some w → IsVariable w
variable_at_place ws k w h is = subst IsVariable (get_or_from_slice_get ws k w w is) (All-get_or IsVariable ws k w (slice_get_within ws k w is) h.each)

pub link_met : (v : Format) (ss : List SlaveRow) (ws : List VariableRow) (p : Position) (ms : Members) → AreVariables ws → Meets (link_at v ss ws p ms) (IsLink ss ws)
unfolding link_at
link_met v ss ws p ms variables =
    meets_then _ (IsLink ss ws) _ _ (any_met (must (keys_are shape.Link v ms) (BadKey p))) (λ u keys.
    meets_then _ (IsLink ss ws) _ _ (name_met p (get_member (codes "var") ms)) (λ variable_name _.
    meets_then _ (IsLink ss ws) _ _ (name_met p (get_member (codes "slave") ms)) (λ slave_name _.
    meets_then _ (IsLink ss ws) _ _ (number_met p 1 65535 (get_member (codes "index") ms)) (λ index hindex.
    meets_then _ (IsLink ss ws) _ _ (number_met p 0 255 (get_member (codes "sub") ms)) (λ subindex hsubindex.
    meets_then _ (IsLink ss ws) _ _ (link_bits_met p (get_member (codes "bits") ms)) (λ bits hbits.
    meets_then _ (IsLink ss ws) _ _ (any_met (ok_or (index_named (λ (w : VariableRow). w.name) variable_name ws) (UnknownName p))) (λ variable _.
    meets_then _ (IsLink ss ws) _ _ (ok_or_met (slice_get ws variable) (UnknownName p)) (λ w is.
    meets_then _ (IsLink ss ws) _ _ (ok_or_met (index_named (λ (s : SlaveRow). s.name) slave_name ss) (UnknownName p)) (λ slave hslave.
    meets_ok (IsLink ss ws) (record { variable = variable; slave = slave; index = index; subindex = subindex; bits = unwrap_or bits (all_bits w) })
    (record {
      variable = slice_get_within ws variable w is;
      slave = position_within _ ss slave hslave;
      least = hindex.0;
      most = hindex.1;
      subindex = hsubindex.1;
      bits = bits_or_all bits w hbits (variable_at_place ws variable w variables is);
    }))))))))))

pub links_met : (v : Format) (ss : List SlaveRow) (ws : List VariableRow) (ds : Items) → AreVariables ws → Meets (rows_after (link_element v ss ws) [] 0 ds) (All (IsLink ss ws))
links_met v ss ws ds variables = rows_met (All (IsLink ss ws)) (λ found x. IsLink ss ws x) (link_element v ss ws) (λ n d found. members_met (IsLink ss ws) _ d _ (λ ms. link_met v ss ws _ ms variables)) (λ found x h n. All-push (IsLink ss ws) found x h n) [] 0 ds (All-nil (IsLink ss ws))

-- ---- the whole

pub read_sound : (v : Format) (type_items slave_items variable_items link_items : Items) (ts : List TypeRow) (ss : List SlaveRow) (ws : List VariableRow) (ls : List LinkRow) → rows_after (type_element v) [] 0 type_items ≡ Ok ts → rows_after (slave_element v ts) [] 0 slave_items ≡ Ok ss → rows_after (variable_element v) [] 0 variable_items ≡ Ok ws → rows_after (link_element v ss ws) [] 0 link_items ≡ Ok ls → IsSound (record { version = v.version; hardware = v.hardware; types = ts; slaves = ss; variables = ws; links = ls; full = false })
read_sound v type_items slave_items variable_items link_items ts ss ws ls it is iw il =
    let types : AreTypes ts = (types_met v type_items).all ts it in
    let variables : AreVariables ws = (variables_met v variable_items).all ws iw in
    record {
      types = types;
      slaves = (slaves_met v ts slave_items types).all ss is;
      variables = variables;
      links = (links_met v ss ws link_items variables).all ls il;
      format = record {
        types = λ k t lt. ((types_of_format v type_items).all ts it k t lt).0;
        type_init = λ none k t lt. ((types_of_format v type_items).all ts it k t lt).1 none;
        slave_init = λ none k s lt. (slaves_of_format v ts slave_items types).all ss is k s lt none;
        variables = λ none k w lt. (variables_of_format v variable_items).all ws iw k w lt none;
      };
    }

pub document_met : (ms : Members) → Meets (table_of_document ms) IsSound
unfolding table_of_document table_of_sections
document_met ms =
    meets_then _ IsSound _ _ (any_met (stated_format ms)) (λ v _.
    meets_then _ IsSound _ _ (any_met (must (keys_are shape.Document v ms) (BadKey top))) (λ u _.
    meets_then _ IsSound _ _ (any_met (section_in top (get_member (codes "type") ms))) (λ type_items _.
    meets_then _ IsSound _ _ (any_met (section_in top (get_member (codes "slave") ms))) (λ slave_items _.
    meets_then _ IsSound _ _ (any_met (section_in top (get_member (codes "variable") ms))) (λ variable_items _.
    meets_then _ IsSound _ _ (any_met (section_in top (get_member (codes "link") ms))) (λ link_items _.
    meets_then (λ ts. rows_after (type_element v) [] 0 type_items ≡ Ok ts) IsSound _ _ (record { all = λ ts is. is }) (λ ts it.
    meets_then (λ ss. rows_after (slave_element v ts) [] 0 slave_items ≡ Ok ss) IsSound _ _ (record { all = λ ss is. is }) (λ ss is.
    meets_then (λ ws. rows_after (variable_element v) [] 0 variable_items ≡ Ok ws) IsSound _ _ (record { all = λ ws is. is }) (λ ws iw.
    meets_then (λ ls. rows_after (link_element v ss ws) [] 0 link_items ≡ Ok ls) IsSound _ _ (record { all = λ ls is. is }) (λ ls il.
    meets_ok IsSound _ (read_sound v type_items slave_items variable_items link_items ts ss ws ls it is iw il)))))))))))

pub text_met : (text : List ℕ) → Meets (table_of text) IsSound
unfolding table_of
text_met text = meets_then _ IsSound _ _ (any_met (ok_or (parse_document text) Toml)) (λ ms _. document_met ms)

pub accepted_sound : AcceptedIsSound
accepted_sound text c is = (text_met text).all c is
