use Rattle.std.proofs.Common.{◌∙◌, ◌+◌, ◌<◌, length, reverse, sym, ap, subst}
use Rattle.ec_script.specs.Stages.{IsAt, lines_left, pieces_left}
use Rattle.ec_script.proofs.Stacks.{pushed}
use Rattle.ec_script.proofs.Unrolling.{all_done, begun, begun_nearer, line_at, line_taken, open_at, piece_here, round_ended}
use Rattle.ec_script.proofs.script.take_line.Goals as goal

pub returns-in-Line-clause-at : goal.returns-in-Line-clause-at
returns-in-Line-clause-at c =
    let e = piece_here c.args.pieces.now c.loop-piece.place c.in-Some.piece.now _ c.in-Some.ensures.lookup.3.0 c.in-Some.ensures.lookup.1 c.in-Line.is in
    line_at c.args.pieces.now c.loop-piece.place (reverse c.loop-piece.around.items) c.in-Line.line e c.loop-piece.invariant.at

pub returns-in-Line-clause-gives : goal.returns-in-Line-clause-gives
returns-in-Line-clause-gives c =
    let e = piece_here c.args.pieces.now c.loop-piece.place c.in-Some.piece.now _ c.in-Some.ensures.lookup.3.0 c.in-Some.ensures.lookup.1 c.in-Line.is in
    sym c.loop-piece.invariant.same ∙ line_taken c.args.pieces.now c.loop-piece.place (reverse c.loop-piece.around.items) c.in-Line.line e

pub loop-piece-smaller-in-Open : goal.loop-piece-smaller-in-Open
loop-piece-smaller-in-Open c =
    let e = piece_here c.args.pieces.now c.loop-piece.place c.in-Some.piece.now _ c.in-Some.ensures.lookup.3.0 c.in-Some.ensures.lookup.1 c.in-Open.is in
    let stack = pushed c.loop-piece.around.items c.push.new.self.items _ c.push.ensures.items in
    subst (λ rs. length (pieces_left c.args.pieces.now (c.loop-piece.place + 1) rs) < length (pieces_left c.args.pieces.now c.loop-piece.place (reverse c.loop-piece.around.items))) (sym stack)
    (begun_nearer c.args.pieces.now c.loop-piece.place (reverse c.loop-piece.around.items) c.in-Open.times e c.loop-piece.invariant.at)

pub loop-piece-preserved-in-Open : goal.loop-piece-preserved-in-Open
loop-piece-preserved-in-Open c =
    let e = piece_here c.args.pieces.now c.loop-piece.place c.in-Some.piece.now _ c.in-Some.ensures.lookup.3.0 c.in-Some.ensures.lookup.1 c.in-Open.is in
    let stack = pushed c.loop-piece.around.items c.push.new.self.items _ c.push.ensures.items in
    let at = open_at c.args.pieces.now c.loop-piece.place (reverse c.loop-piece.around.items) c.in-Open.times e c.loop-piece.invariant.at in
    record {
      at = subst (λ rs. IsAt c.args.pieces.now (c.loop-piece.place + 1) rs) (sym stack) at.2;
      same = ap (λ rs. lines_left c.args.pieces.now (c.loop-piece.place + 1) rs) stack
          ∙ (begun c.args.pieces.now c.loop-piece.place (reverse c.loop-piece.around.items) c.in-Open.times e c.loop-piece.invariant.at ∙ c.loop-piece.invariant.same);
    }

pub loop-piece-smaller : goal.loop-piece-smaller
loop-piece-smaller c =
    let e = piece_here c.args.pieces.now c.loop-piece.place c.in-Some.piece.now _ c.in-Some.ensures.lookup.3.0 c.in-Some.ensures.lookup.1 c.in-Close.is in
    (round_ended c.args.pieces.now c.loop-piece.place (reverse c.loop-piece.around.items) c.turn.result (reverse c.turn.new.around.items) e c.loop-piece.invariant.at c.turn.ensures.place c.turn.ensures.around).2

pub loop-piece-preserved : goal.loop-piece-preserved
loop-piece-preserved c =
    let e = piece_here c.args.pieces.now c.loop-piece.place c.in-Some.piece.now _ c.in-Some.ensures.lookup.3.0 c.in-Some.ensures.lookup.1 c.in-Close.is in
    let ended =
    round_ended c.args.pieces.now c.loop-piece.place (reverse c.loop-piece.around.items) c.turn.result (reverse c.turn.new.around.items) e c.loop-piece.invariant.at c.turn.ensures.place c.turn.ensures.around in
    record { at = ended.0; same = ended.1 ∙ c.loop-piece.invariant.same }

pub returns-clause-gives : goal.returns-clause-gives
returns-clause-gives c =
    let none = all_done c.args.pieces.now c.loop-piece.place (reverse c.loop-piece.around.items) c.in_default.ensures.lookup.3 c.loop-piece.invariant.at in
    (sym c.loop-piece.invariant.same ∙ none, none)
