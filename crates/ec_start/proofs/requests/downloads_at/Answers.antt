use Rattle.std.proofs.Common.{◌∙◌, ap, sym, arith}
use Rattle.ec_start.specs.declared.requests.Seek.TheVariants.{Found}
use Rattle.ec_start.specs.Scripts.{downloads}
use Rattle.ec_start.proofs.RequestRuns.{seek_slot, seek_count, seek_past_assignment}
use Rattle.ec_start.proofs.requests.downloads_at.Goals as goal

pub returns-then-place-count : goal.returns-then-place-count
returns-then-place-count c =
    rw c.if-not-has_pdos.false
    (ap Found (c.download-then-place-count.ensures ∙ ap (λ v. downloads c.args.object c.args.place v) c.word-slot.ensures)
    ∙ sym (seek_slot c.args.object c.args.indices.now c.args.place c.if-place-eq0.false c.if-place-count.true))

pub returns-then-place-count-2 : goal.returns-then-place-count-2
returns-then-place-count-2 c =
    rw c.if-not-has_pdos.false
    (ap Found (c.download-then-place-count-2.ensures ∙ ap (λ v. downloads c.args.object 0 v) c.byte-then-place-count-2.ensures)
    ∙ sym (seek_count c.args.object c.args.indices.now c.args.place c.if-count-eq0.false c.if-place-count-2.true))

pub returns : goal.returns
returns c =
    rw c.if-not-has_pdos.false
    (sym (seek_past_assignment c.args.object c.args.indices.now c.args.place c.if-count-eq0.false (omega (arith, c.if-place-count.false, c.if-place-count-2.false))))
