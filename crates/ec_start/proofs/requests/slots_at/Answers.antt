use Rattle.std.proofs.Common.{◌∙◌, ap, sym, arith}
use Rattle.ec_start.specs.declared.requests.Seek.TheVariants.{Found}
use Rattle.ec_start.specs.Scripts.{uploads}
use Rattle.ec_start.proofs.RequestRuns.{seek_slot_read, seek_past_read}
use Rattle.ec_start.proofs.requests.slots_at.Goals as goal

pub returns-then-place-count : goal.returns-then-place-count
returns-then-place-count c =
    rw c.if-not-has_pdos.false
    (ap Found (c.upload-then-place-count.ensures ∙ ap (λ v. uploads c.args.object c.args.place v) c.word-slot.ensures)
    ∙ sym (seek_slot_read c.args.object c.args.indices.now c.args.place c.if-place-eq0.false c.if-place-count.true))

pub returns : goal.returns
returns c = rw c.if-not-has_pdos.false (sym (seek_past_read c.args.object c.args.indices.now c.args.place (omega (arith, c.if-place-count.false))))
