use Rattle.ec_found.proofs.Noted.{all_noted}
use Rattle.ec_found.proofs.found.unsaid_of.Goals as goal

pub returns : goal.returns
returns c =
    all_noted c.args.shown.now c.new-found.result c.note.new.found c.note-2.new.found c.note_gaps.new.found c.note_gaps-2.new.found _ _ _ _ _ _
    c.new-found.ensures c.in_ok-note.ensures c.in_ok-note-2.ensures c.in_ok-note_gaps.ensures c.in_ok-note_gaps-2.ensures
    c.has_unusable.ensures c.are_said.ensures c.requires.outputs c.requires.inputs c.has_other_size-out_size.ensures c.has_other_size-in_size.ensures
