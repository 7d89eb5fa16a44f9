use Rattle.std.proofs.Common.{◌-◌, ◌∙◌, ap, sym, arith, length}
use Rattle.ec_coe.specs.Objects.{long_value}
use Rattle.ec_start.specs.declared.requests.Seek.TheVariants.{Found, Past}
use Rattle.ec_start.specs.Scripts.{uploads}
use Rattle.ec_start.proofs.RequestRuns.{seek_entry, seek_past_pdo}
use Rattle.ec_start.proofs.requests.pdo_upload.Goals as goal

pub returns-then-place-entries : goal.returns-then-place-entries
returns-then-place-entries c =
    let own = c.as_slice-entries.ensures in
    ap Found (c.upload-then-place-entries.ensures ∙ ap (λ v. uploads c.args.pdo.now.index c.args.place v) (c.long-entry.ensures ∙ ap long_value (rw own at c.entry_number.ensures)))
    ∙ sym (seek_entry c.args.pdo.now c.args.place _ c.if-place-eq0.false (omega (arith, c.if-place-entries.true, ap length own)))

pub returns : goal.returns
returns c =
    let own = c.as_slice-entries.ensures in
    ap (λ xs. Past (c.args.place - 1 - length xs)) own ∙ sym (seek_past_pdo c.args.pdo.now c.args.place (omega (arith, c.if-place-entries.false, ap length own)))
