use Rattle.std.proofs.Common.{◌∙◌}
use Rattle.ec_live.proofs.Doing.{meets_carried}
use Rattle.ec_live.proofs.live.Live.meet.Goals as goal

pub returns-then-carry : goal.returns-then-carry
returns-then-carry c =
    let i = c.self.inside in
    meets_carried c.args.self.now i.simulation c.carry.new.self i.drops i.answered i.refused c.saturating_add-self-inside.result c.args.payload.now c.carry.new.payload
    (c.self.view_is ∙ c.drops_frame.ensures.same c.if-drops_frame.false) (c.drops_frame.ensures.kept c.if-drops_frame.false) (c.carry.ensures.carried c.if-carry.true) c.carry.ensures.others
    c.saturating_add-self-inside.ensures
