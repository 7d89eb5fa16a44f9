use Rattle.ec_text.proofs.Lines.{fmmu_added}
use Rattle.ec_text.proofs.plan.write_fmmu.Goals as goal

pub returns-then-fmmu : goal.returns-then-fmmu
returns-then-fmmu c =
    fmmu_added c.write_record.result c.args.kind.now.hardware c.args.number c.args.fmmu.now _ _ _ _ c.if-fmmu.true c.shown_fmmu.ensures c.encode_fmmu-bytes.ensures c.write_record.ensures
