-- What is left out has its default.
use Rattle.std.proofs.Common.{◌≡◌, ℕ, List, [], Bool, true, false, not, is_none, ap, ◌∙◌, ◌||◌, Result, Option, Some, None, codes, slice_get, unwrap_or, refl, subst}
use Rattle.std.specs.Option.{ok_or}
use Rattle.toml.specs.Data.{Data, Items, no_items, item, Members, get_member}
use Rattle.ec_table.specs.declared.fault.Fault.{Fault}
use Rattle.ec_table.specs.declared.fault.Fault.TheVariants.{BadKey, BadValue, TwiceNamed, UnknownName}
use Rattle.ec_table.specs.declared.fault.Position.{Position}
use Rattle.ec_table.specs.declared.rows.Format.{Format}
use Rattle.ec_table.specs.declared.rows.Version.TheVariants.{One}
use Rattle.ec_table.specs.declared.rows.ProcessData.{ProcessData}
use Rattle.ec_table.specs.declared.rows.TypeRow.{TypeRow}
use Rattle.ec_table.specs.declared.rows.SlaveRow.{SlaveRow}
use Rattle.ec_table.specs.declared.rows.VariableRow.{VariableRow}
use Rattle.ec_table.specs.declared.keys.Shape.TheVariants as shape
use Rattle.ec_table.specs.Fields.{must, keys_are, number_in, name_in, direction_in, mailbox_in, truth_in, version_in, format_in, section_in, link_bits_in}
use Rattle.ec_table.specs.InOrder.{rows_after}
use Rattle.ec_table.specs.Names.{is_named, index_named}
use Rattle.ec_table.specs.Pdos.{pdos_in, numbers_in, indices_of, has_twice}
use Rattle.ec_table.specs.Reading.{device_in, process_in, process_twice, type_at, type_named, type_element, slave_at, slave_named, slave_of_type, slave_element, variable_at, variable_element, is_possible, all_bits, link_at, link_element, top, table_of_document, table_of_sections}
use Rattle.ec_table.specs.Laws.{TypeDefaults, SlaveDefaults, VariableDefaults, LinkDefaults, DocumentDefaults, LeftOutIsDefault}
use Rattle.ec_table.proofs.ValueTests.{Meets, meets_ok, meets_then, any_met, ok_or_met}
use Rattle.ec_table.proofs.SoundReads.{number_or_0_met, parameters_met, truth_met, described_met, described_if_met}
use Rattle.ec_table.proofs.SoundRows.{Fits, assigned_met}

-- ---- values

no_mailbox : (p : Position) (v : Option Data) → Meets (mailbox_in p v) (λ o. v ≡ None → o ≡ None)
unfolding mailbox_in
no_mailbox p None = meets_ok (λ o. None ≡ None → o ≡ None) None (λ e. refl)
no_mailbox p (Some d) = record { all = λ o is none. cc }

no_pdos : (p : Position) (low high : ℕ) (v : Option Data) → Meets (pdos_in p low high v) (λ qs. v ≡ None → qs ≡ [])
no_pdos p low high None = meets_ok (λ qs. None ≡ None → qs ≡ []) [] (λ e. refl)
no_pdos p low high (Some d) = record { all = λ qs is none. cc }

truth : (p : Position) (left_out : Bool) (v : Option Data) → Meets (truth_in p left_out v) (λ b. v ≡ None → b ≡ left_out)
truth p left_out v = truth_met p left_out v

no_numbers : (p : Position) (low high : ℕ) (v : Option Data) → Meets (numbers_in p low high v) (λ o. v ≡ None → o ≡ None)
no_numbers p low high None = meets_ok (λ o. None ≡ None → o ≡ None) None (λ e. refl)
no_numbers p low high (Some d) = record { all = λ o is none. cc }

no_bits : (p : Position) (v : Option Data) → Meets (link_bits_in p v) (λ o. v ≡ None → o ≡ None)
unfolding link_bits_in
no_bits p None = meets_ok (λ o. None ≡ None → o ≡ None) None (λ e. refl)
no_bits p (Some d) = record { all = λ o is none. cc }

first_version : (p : Position) (v : Option Data) → Meets (version_in p v) (λ o. v ≡ None → o ≡ One)
unfolding version_in
first_version p None = meets_ok (λ o. None ≡ None → o ≡ One) One (λ e. refl)
first_version p (Some d) = record { all = λ o is none. cc }

first_format : (p : Position) (version hardware : Option Data) → Meets (format_in p version hardware) (λ f. (version ≡ None → f.version ≡ One) × (hardware ≡ None → f.hardware ≡ false))
unfolding format_in
first_format p version hardware =
    let P : Format → Type 0 = λ f. (version ≡ None → f.version ≡ One) × (hardware ≡ None → f.hardware ≡ false) in
    meets_then _ P _ _ (first_version p version) (λ v hv.
    meets_then _ P _ _ (truth p false hardware) (λ h hh. meets_ok P (record { version = v; hardware = h }) (hv, hh)))

no_section : (p : Position) (v : Option Data) → Meets (section_in p v) (λ ds. v ≡ None → ds ≡ no_items)
unfolding section_in
no_section p None = meets_ok (λ ds. None ≡ None → ds ≡ no_items) no_items (λ e. refl)
no_section p (Some d) = record { all = λ ds is none. cc }

no_rows : {X : Type 0} (row : ℕ → Data → List X → Result X Fault) (ds : Items) → Meets (rows_after row [] 0 ds) (λ xs. ds ≡ no_items → xs ≡ [])
unfolding rows_after
no_rows row no_items = meets_ok (λ xs. no_items ≡ no_items → xs ≡ []) [] (λ e. refl)
no_rows row (item d ds) = record { all = λ xs is none. cc }

-- ---- elements

pub record Left (out_start in_start rxpdo txpdo : Option Data) (d : ProcessData) : Type 0 where
  pub outputs_at : out_start ≡ None → d.out_start ≡ 0
  pub inputs_at : in_start ≡ None → d.in_start ≡ 0
  pub no_outputs : rxpdo ≡ None → d.outputs ≡ []
  pub no_inputs : txpdo ≡ None → d.inputs ≡ []

no_process : (p : Position) (out_start in_start rxpdo txpdo : Option Data) → Meets (process_in p out_start in_start rxpdo txpdo) (Left out_start in_start rxpdo txpdo)
unfolding process_in
no_process p out_start in_start rxpdo txpdo =
    let P : ProcessData → Type 0 = Left out_start in_start rxpdo txpdo in
    meets_then _ P _ _ (number_or_0_met p 65535 out_start) (λ a ha.
    meets_then _ P _ _ (number_or_0_met p 65535 in_start) (λ b hb.
    meets_then _ P _ _ (no_pdos p 0x1600 0x17FF rxpdo) (λ os hos.
    meets_then _ P _ _ (no_pdos p 0x1A00 0x1BFF txpdo) (λ is his.
    meets_ok P (record { out_start = a; in_start = b; outputs = os; inputs = is }) (record { outputs_at = ha.1; inputs_at = hb.1; no_outputs = hos; no_inputs = his })))))

type_defaults : (v : Format) (p : Position) (ms : Members) (found : List TypeRow) → Meets (type_at v p ms found) (TypeDefaults ms)
unfolding type_at type_named
type_defaults v p ms found =
    meets_then _ (TypeDefaults ms) _ _ (any_met (must (keys_are shape.Type v ms) (BadKey p))) (λ u _.
    meets_then _ (TypeDefaults ms) _ _ (any_met (name_in p (get_member (codes "name") ms))) (λ name _.
    meets_then _ (TypeDefaults ms) _ _ (any_met (device_in p _ _ _)) (λ device _.
    meets_then _ (TypeDefaults ms) _ _ (no_mailbox p (get_member (codes "mailbox") ms)) (λ mailbox hmailbox.
    meets_then _ (TypeDefaults ms) _ _ (no_process p _ _ _ _) (λ process hprocess.
    meets_then _ (TypeDefaults ms) _ _ (truth p true (get_member (codes "lrw") ms)) (λ lrw hlrw.
    meets_then _ (TypeDefaults ms) _ _ (described_if_met v.hardware _ _ (described_met p process (get_member (codes "out_manager") ms) (get_member (codes "in_manager") ms) (get_member (codes "firmware") ms) (get_member (codes "fixed") ms) (get_member (codes "slow") ms) (get_member (codes "emergency") ms) (get_member (codes "fmmus") ms) (get_member (codes "revision") ms))) (λ hardware hhardware.
    meets_then _ (TypeDefaults ms) _ _ (parameters_met p (get_member (codes "init") ms)) (λ init hinit.
    meets_then _ (TypeDefaults ms) _ _ (any_met (must (not (is_named (λ (t : TypeRow). t.name) name found || process_twice process)) (TwiceNamed p))) (λ w _.
    meets_then _ (TypeDefaults ms) _ _ (any_met (must (is_possible mailbox hardware init) (BadValue p))) (λ x _.
    meets_ok (TypeDefaults ms) (record { name = name; device = device; mailbox = mailbox; process = process; lrw = lrw; hardware = hardware; init = init })
    (record {
      mailbox = hmailbox;
      outputs = hprocess.no_outputs;
      inputs = hprocess.no_inputs;
      lrw = hlrw;
      hardware = λ h is. let read = hhardware.each h is in record {
        out_manager = read.out_usual;
        in_manager = read.in_usual;
        firmware = read.firmware_usual;
        fixed = read.fixed_usual;
        slow = read.slow_usual;
        emergency = read.emergency_usual;
        fmmus = read.fmmus_usual;
        revision = λ none. read.any ∙ ap is_none none;
        out_start = hprocess.outputs_at;
        in_start = hprocess.inputs_at;
      };
      init = hinit.1;
    })))))))))))

slave_defaults : (v : Format) (ts : List TypeRow) (p : Position) (ms : Members) (found : List SlaveRow) → Meets (slave_at v ts p ms found) (SlaveDefaults ts ms)
unfolding slave_at slave_named slave_of_type
slave_defaults v ts p ms found =
    meets_then _ (SlaveDefaults ts ms) _ _ (any_met (must (keys_are shape.Slave v ms) (BadKey p))) (λ u _.
    meets_then _ (SlaveDefaults ts ms) _ _ (any_met (name_in p (get_member (codes "name") ms))) (λ name _.
    meets_then _ (SlaveDefaults ts ms) _ _ (any_met (name_in p (get_member (codes "type") ms))) (λ type_name _.
    meets_then _ (SlaveDefaults ts ms) _ _ (no_numbers p 0x1600 0x17FF (get_member (codes "out") ms)) (λ outputs houtputs.
    meets_then _ (SlaveDefaults ts ms) _ _ (no_numbers p 0x1A00 0x1BFF (get_member (codes "in") ms)) (λ inputs hinputs.
    meets_then _ (SlaveDefaults ts ms) _ _ (number_or_0_met p 4294967295 (get_member (codes "serial") ms)) (λ serial hserial.
    meets_then _ (SlaveDefaults ts ms) _ _ (number_or_0_met p 63 (get_member (codes "unit") ms)) (λ unit hunit.
    meets_then _ (SlaveDefaults ts ms) _ _ (parameters_met p (get_member (codes "init") ms)) (λ init hinit.
    meets_then _ (SlaveDefaults ts ms) _ _ (any_met (must (not (is_named (λ (s : SlaveRow). s.name) name found || (has_twice (unwrap_or outputs []) || has_twice (unwrap_or inputs [])))) (TwiceNamed p))) (λ w _.
    meets_then _ (SlaveDefaults ts ms) _ _ (any_met (ok_or (index_named (λ (t : TypeRow). t.name) type_name ts) (UnknownName p))) (λ place _.
    meets_then _ (SlaveDefaults ts ms) _ _ (ok_or_met (slice_get ts place) (UnknownName p)) (λ t is.
    let row : SlaveRow = record { name = name; type_index = place; outputs = unwrap_or outputs (indices_of t.process.outputs); inputs = unwrap_or inputs (indices_of t.process.inputs); serial = serial; unit = unit; init = init } in
    record {
      all = λ s done.
          let fits : Fits t row s = (assigned_met p t row).all s done in
          subst (SlaveDefaults ts ms) fits.same (record {
            outputs = λ none r at. let none_written : outputs ≡ None = houtputs none in let same : t ≡ r = cc in rw (none_written, same) refl;
            inputs = λ none r at. let none_written : inputs ≡ None = hinputs none in let same : t ≡ r = cc in rw (none_written, same) refl;
            serial = hserial.1;
            unit = hunit.1;
            init = hinit.1;
          });
    })))))))))))

variable_defaults : (v : Format) (p : Position) (ms : Members) (found : List VariableRow) → Meets (variable_at v p ms found) (VariableDefaults ms)
unfolding variable_at
variable_defaults v p ms found =
    meets_then _ (VariableDefaults ms) _ _ (any_met (must (keys_are shape.Variable v ms) (BadKey p))) (λ u _.
    meets_then _ (VariableDefaults ms) _ _ (any_met (name_in p (get_member (codes "name") ms))) (λ name _.
    meets_then _ (VariableDefaults ms) _ _ (any_met (direction_in p (get_member (codes "dir") ms))) (λ direction _.
    meets_then _ (VariableDefaults ms) _ _ (any_met (number_in p 1 64 (get_member (codes "bits") ms))) (λ bits _.
    meets_then _ (VariableDefaults ms) _ _ (truth p false (get_member (codes "signed") ms)) (λ signed hsigned.
    meets_then _ (VariableDefaults ms) _ _ (any_met (must (not (is_named (λ (w : VariableRow). w.name) name found)) (TwiceNamed p))) (λ w _.
    meets_ok (VariableDefaults ms) (record { name = name; direction = direction; bits = bits; signed = signed }) (record { signed = hsigned })))))))

link_defaults : (v : Format) (ss : List SlaveRow) (ws : List VariableRow) (p : Position) (ms : Members) → Meets (link_at v ss ws p ms) (LinkDefaults ws ms)
unfolding link_at
link_defaults v ss ws p ms =
    meets_then _ (LinkDefaults ws ms) _ _ (any_met (must (keys_are shape.Link v ms) (BadKey p))) (λ u _.
    meets_then _ (LinkDefaults ws ms) _ _ (any_met (name_in p (get_member (codes "var") ms))) (λ variable_name _.
    meets_then _ (LinkDefaults ws ms) _ _ (any_met (name_in p (get_member (codes "slave") ms))) (λ slave_name _.
    meets_then _ (LinkDefaults ws ms) _ _ (any_met (number_in p 1 65535 (get_member (codes "index") ms))) (λ index _.
    meets_then _ (LinkDefaults ws ms) _ _ (any_met (number_in p 0 255 (get_member (codes "sub") ms))) (λ subindex _.
    meets_then _ (LinkDefaults ws ms) _ _ (no_bits p (get_member (codes "bits") ms)) (λ bits hbits.
    meets_then _ (LinkDefaults ws ms) _ _ (any_met (ok_or (index_named (λ (w : VariableRow). w.name) variable_name ws) (UnknownName p))) (λ variable _.
    meets_then _ (LinkDefaults ws ms) _ _ (ok_or_met (slice_get ws variable) (UnknownName p)) (λ w is.
    meets_then _ (LinkDefaults ws ms) _ _ (any_met (ok_or (index_named (λ (s : SlaveRow). s.name) slave_name ss) (UnknownName p))) (λ slave _.
    meets_ok (LinkDefaults ws ms) (record { variable = variable; slave = slave; index = index; subindex = subindex; bits = unwrap_or bits (all_bits w) })
    (record { bits = λ none x at. let none_written : bits ≡ None = hbits none in let same : w ≡ x = cc in rw (none_written, same) refl }))))))))))

document_defaults : (ms : Members) → Meets (table_of_document ms) (DocumentDefaults ms)
unfolding table_of_document table_of_sections
document_defaults ms =
    meets_then _ (DocumentDefaults ms) _ _ (first_format top (get_member (codes "version") ms) (get_member (codes "hardware") ms)) (λ v hv.
    meets_then _ (DocumentDefaults ms) _ _ (any_met (must (keys_are shape.Document v ms) (BadKey top))) (λ u _.
    meets_then _ (DocumentDefaults ms) _ _ (no_section top (get_member (codes "type") ms)) (λ type_items it.
    meets_then _ (DocumentDefaults ms) _ _ (no_section top (get_member (codes "slave") ms)) (λ slave_items is.
    meets_then _ (DocumentDefaults ms) _ _ (no_section top (get_member (codes "variable") ms)) (λ variable_items iw.
    meets_then _ (DocumentDefaults ms) _ _ (no_section top (get_member (codes "link") ms)) (λ link_items il.
    meets_then _ (DocumentDefaults ms) _ _ (no_rows (type_element v) type_items) (λ ts hts.
    meets_then _ (DocumentDefaults ms) _ _ (no_rows (slave_element v ts) slave_items) (λ ss hss.
    meets_then _ (DocumentDefaults ms) _ _ (no_rows (variable_element v) variable_items) (λ ws hws.
    meets_then _ (DocumentDefaults ms) _ _ (no_rows (link_element v ss ws) link_items) (λ ls hls.
    meets_ok (DocumentDefaults ms) (record { version = v.version; hardware = v.hardware; types = ts; slaves = ss; variables = ws; links = ls; full = false }) (record {
      version = hv.0;
      hardware = hv.1;
      types = λ none. hts (it none);
      slaves = λ none. hss (is none);
      variables = λ none. hws (iw none);
      links = λ none. hls (il none);
      full = refl;
    })))))))))))

pub defaults : LeftOutIsDefault
defaults = record {
  types = λ v p ms found t is. (type_defaults v p ms found).all t is;
  slaves = λ v ts p ms found s is. (slave_defaults v ts p ms found).all s is;
  variables = λ v p ms found w is. (variable_defaults v p ms found).all w is;
  links = λ v ss ws p ms l is. (link_defaults v ss ws p ms).all l is;
  documents = λ ms c is. (document_defaults ms).all c is;
}
