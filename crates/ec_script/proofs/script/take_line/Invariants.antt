use Rattle.std.proofs.Common.{◌≡◌, length, reverse}
use Rattle.ec_script.specs.Stages.{IsAt, lines_left, pieces_left}
use Rattle.ec_script.proofs.script.take_line.Given as goal

-- the lines that were left are left
abbrev pub invariant-loop-piece : goal.invariant-loop-piece
invariant-loop-piece l = record {
  at : IsAt l.pieces l.place (reverse l.around.items);
  same : lines_left l.pieces l.place (reverse l.around.items) ≡ lines_left l.pieces l.initial.place (reverse l.initial.around.items);
}

abbrev pub decreases-loop-piece : goal.decreases-loop-piece
decreases-loop-piece l = length (pieces_left l.pieces l.place (reverse l.around.items))
