use Rattle.std.proofs.Common.{◌∙◌, false, sym, ap}
use Rattle.ec_asking.specs.Questions.{told_in}
use Rattle.ec_asking.proofs.answer.take_answer.Goals as goal

pub returns : goal.returns
returns c =
    let at = c.in_ok-span.ensures in
    (at.frame, at.spelled, at.answer, c.told_by.ensures false at.datagram at.good at.there ∙ sym (ap told_in at.both))
