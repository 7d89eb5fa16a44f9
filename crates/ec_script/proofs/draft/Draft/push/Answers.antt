use Rattle.std.proofs.Common.{◌∙◌, [], ◌∷◌, ◌++◌, ap, length, subst}
use Rattle.ec_script.specs.Stages.{IsBegun}
use Rattle.ec_script.proofs.Drafting.{nested_close, nested_line, nested_open, one_less, room_left}
use Rattle.ec_script.proofs.draft.Draft.push.Goals as goal

pub invariant_of-self : goal.invariant_of-self
invariant_of-self c =
    let i = c.self.inside in
    nested_line (length i.around.items) c.in-Line.field-0 i.pieces.items c.push.new.self.items c.self.invariant (c.in_ok-push-in-Line.ensures.items ∙ ap (λ x. i.pieces.items ++ (x ∷ [])) c.in-Line.is)

pub invariant_of-self-in-Open : goal.invariant_of-self-in-Open
invariant_of-self-in-Open c =
    let i = c.self.inside in
    nested_open (length i.around.items) (length c.push-in-Open-2.new.self.items) c.in-Open.field-0 i.pieces.items c.push-in-Open.new.self.items c.self.invariant (subst IsBegun c.in-Open.is c.requires).0
    (room_left (length i.around.items) c.is_full.result c.is_full.ensures.value c.if-is_full.false c.is_full.ensures.fits) c.push-in-Open-2.ensures.len
    (c.in_ok-push-in-Open.ensures.items ∙ ap (λ x. i.pieces.items ++ (x ∷ [])) c.in-Open.is)

pub invariant_of-self-in-Close : goal.invariant_of-self-in-Close
invariant_of-self-in-Close c =
    let i = c.self.inside in
    nested_close (length i.around.items) (length c.pop.new.self.items) i.pieces.items c.close.new.pieces.items c.self.invariant
    (one_less i.around.items c.pop.new.self.items c.is_empty.result c.is_empty.ensures c.if-is_empty.false c.pop.ensures.rest) c.in_ok-close-in-Close.ensures.closed
