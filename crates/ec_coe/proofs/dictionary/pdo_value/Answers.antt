use Rattle.std.proofs.Common.{◌-◌, ◌≡◌, ◌∙◌, ap, sym, refl, List, Some, length, slice_get}
use Rattle.std.proofs.lemmas.Option.{slice_get_read}
use Rattle.ec_device.specs.declared.slave_type.Entry.{Entry}
use Rattle.ec_coe.specs.declared.value.SdoValue.{SdoValue}
use Rattle.ec_coe.specs.Objects.{byte_value, long_value, entry_number}
use Rattle.ec_coe.proofs.Finding.{value-behind}
use Rattle.ec_coe.proofs.dictionary.pdo_value.Goals as goal

pub returns : goal.returns
returns c =
    let h = c.in_ok-entry.ensures.lookup in
    let found : slice_get c.as_slice.result.now (c.args.subindex - 1) ≡ Some c.in_ok-entry.entry.now = slice_get_read _ _ _ _ refl h.3.0 h.1 in
    ap (λ (v : SdoValue). Some v) (c.long.ensures ∙ ap long_value c.entry_number.ensures)
    ∙ value-behind (λ (e : Entry). long_value (entry_number e)) (byte_value (length c.args.pdo.now.entries)) c.args.pdo.now.entries c.args.subindex c.in_ok-entry.entry.now c.if-subindex-eq0.false
    (sym (ap (λ (xs : List Entry). slice_get xs (c.args.subindex - 1)) c.as_slice.ensures) ∙ found)
