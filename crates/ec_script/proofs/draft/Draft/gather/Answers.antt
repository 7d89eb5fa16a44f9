use Rattle.std.proofs.Common.{subst, sym}
use Rattle.ec_script.specs.Stages.{IsBegunIf}
use Rattle.ec_script.proofs.Begun.{text_begun}
use Rattle.ec_script.proofs.draft.Draft.gather.Goals as goal

pub push_reading-requires : goal.push_reading-requires
push_reading-requires c = subst IsBegunIf (sym c.in_ok-piece.ensures) (text_begun c.args.text.now c.args.reading)
