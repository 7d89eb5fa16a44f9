use Rattle.std.proofs.Common.{◌≡◌, ◌∙◌, IfOk, Result, ℕ, ap, arith, false, refl, subst}
use Rattle.std.specs.Io.KnownBytes.{IsAtEnd}
use denote.Enum.Bare.{sameb}
use Rattle.std.specs.contracts.io.ErrorKind.{the_type}
use Rattle.std.specs.declared.io.ErrorKind.TheVariants.{Interrupted}
use Rattle.ec_lines.specs.Inputs.{bytes_left}
use Rattle.ec_lines.proofs.BlockLemmas.{ahead_same}
use Rattle.ec_lines.proofs.TakeLemmas.{input_ends, line_ends, more_taken, none_so_far, on_err, part_refused, still_so_far}
use Rattle.ec_lines.proofs.TextLemmas.{interrupted_only, not_refused}
use Rattle.ec_lines.proofs.lines.take_bytes.Goals as goal
use Rattle.ec_lines.proofs.lines.take_bytes.Goals.{in-Ok+in_ok-take_ahead-in-Ok+else-branch-2, in-Err}

-- ---- before a read: memory ran out; the line's end is ahead; no byte is ahead any more

pub returns-in_err-take_ahead-clause-left : goal.returns-in_err-take_ahead-clause-left
returns-in_err-take_ahead-clause-left g c =
    let old = bytes_left g.R.Read.remaining c.args.input.now in
    on_err c.from_residual.result (part_refused old old (bytes_left g.R.Read.remaining c.take_ahead.new.self) c.args.most c.new-line.result.items (none_so_far old c.args.most c.new-line.result.items c.new-line.ensures.items) c.in_err-take_ahead.ensures.left)

pub returns-then-branch-clause-taken : goal.returns-then-branch-clause-taken
returns-then-branch-clause-taken g c =
    let old = bytes_left g.R.Read.remaining c.args.input.now in
    line_ends old old (bytes_left g.R.Read.remaining c.take_ahead.new.self) c.args.most c.new-line.result.items c.take_ahead.new.line.items c.in_ok-take_ahead.field-0 c.if-branch.true (none_so_far old c.args.most c.new-line.result.items c.new-line.ensures.items) c.in_ok-take_ahead.ensures.taken

pub loop-init : goal.loop-init
loop-init g c =
    let old = bytes_left g.R.Read.remaining c.args.input.now in
    record {
      line = more_taken old old (bytes_left g.R.Read.remaining c.take_ahead.new.self) c.args.most c.new-line.result.items c.take_ahead.new.line.items c.in_ok-take_ahead.field-0 c.if-branch.false (none_so_far old c.args.most c.new-line.result.items c.new-line.ensures.items) c.in_ok-take_ahead.ensures.taken;
      none = c.in_ok-take_ahead.ensures.whole c.if-branch.false;
      kept = c.take_ahead.ensures.refused;
      counted = omega arith;
    }

-- ---- a read: the input's end; memory ran out; the line's end; more of the line, or an interruption

pub returns-in-Ok-eq0-clause-taken : goal.returns-in-Ok-eq0-clause-taken
returns-in-Ok-eq0-clause-taken g c =
    input_ends (bytes_left g.R.Read.remaining c.args.input.now) (bytes_left g.R.Read.remaining c.loop.input) (bytes_left g.R.Read.remaining c.read_ahead.new.self) c.args.most c.loop.line.items c.loop.invariant.line c.read_ahead.ensures.left
    (subst (λ (read : Result ℕ _). IfOk read (λ count. count ≡ 0 → IsAtEnd (bytes_left g.R.Read.remaining c.read_ahead.new.self))) c.in-Ok-eq0.is c.read_ahead.ensures.end c.in-Ok-eq0.field-0-test)

pub returns-in_err-take_ahead-in-Ok-clause-left : goal.returns-in_err-take_ahead-in-Ok-clause-left
returns-in_err-take_ahead-in-Ok-clause-left g c =
    let old = bytes_left g.R.Read.remaining c.args.input.now in
    let mid = bytes_left g.R.Read.remaining c.read_ahead.new.self in
    on_err c.from_residual-in_err-take_ahead-in-Ok.result
    (part_refused old mid (bytes_left g.R.Read.remaining c.take_ahead-in-Ok.new.self) c.args.most c.loop.line.items
    (still_so_far old (bytes_left g.R.Read.remaining c.loop.input) mid c.args.most c.loop.line.items c.loop.invariant.line c.read_ahead.ensures.left) c.in_err-take_ahead-in-Ok.ensures.left)

pub returns-then-branch-2-clause-taken : goal.returns-then-branch-2-clause-taken
returns-then-branch-2-clause-taken g c =
    let old = bytes_left g.R.Read.remaining c.args.input.now in
    let mid = bytes_left g.R.Read.remaining c.read_ahead.new.self in
    line_ends old mid (bytes_left g.R.Read.remaining c.take_ahead-in-Ok.new.self) c.args.most c.loop.line.items c.take_ahead-in-Ok.new.line.items c.in_ok-take_ahead-in-Ok.field-0 c.if-branch-2.true
    (still_so_far old (bytes_left g.R.Read.remaining c.loop.input) mid c.args.most c.loop.line.items c.loop.invariant.line c.read_ahead.ensures.left) c.in_ok-take_ahead-in-Ok.ensures.taken

pub loop-preserved : goal.loop-preserved
loop-preserved g c =
    let old = bytes_left g.R.Read.remaining c.args.input.now in
    let mid = bytes_left g.R.Read.remaining c.read_ahead.new.self in
    let still = still_so_far old (bytes_left g.R.Read.remaining c.loop.input) mid c.args.most c.loop.line.items c.loop.invariant.line c.read_ahead.ensures.left in
    elim c.match-read_ahead.branch [
      | in-Ok+in_ok-take_ahead-in-Ok+else-branch-2 w ↦ record {
        line = rw (w.input-is, w.line-is) (more_taken old mid (bytes_left g.R.Read.remaining w.take_ahead-in-Ok.new.self) c.args.most c.loop.line.items w.take_ahead-in-Ok.new.line.items w.in_ok-take_ahead-in-Ok.field-0 w.if-branch-2.false still w.in_ok-take_ahead-in-Ok.ensures.taken);
        none = rw w.input-is (w.in_ok-take_ahead-in-Ok.ensures.whole w.if-branch-2.false);
        kept = rw w.input-is (w.take_ahead-in-Ok.ensures.refused ∙ (not_refused _ _ false w.in-Ok.ensures.refused refl ∙ c.loop.invariant.kept));
        counted = rw w.input-is (omega (arith, w.take_ahead-in-Ok.ensures.counted, w.in-Ok.ensures.counted, c.loop.invariant.counted, c.loop-test.true));
      }
      | in-Err w ↦ record {
        line = rw (w.input-is, w.line-is) still;
        none = rw w.input-is w.in-Err.ensures.none;
        kept = rw w.input-is (not_refused _ _ _ w.in-Err.ensures.refused (interrupted_only _ (w.if-eq.ensures ∙ ap (λ kind. sameb the_type kind Interrupted) w.kind.ensures)) ∙ c.loop.invariant.kept);
        counted = rw w.input-is (omega (arith, w.in-Err.ensures.counted, c.loop.invariant.counted, c.loop-test.true));
      }
    ]

-- ---- the read is refused; no number is left for a read

pub returns-in-Err-2-clause-left : goal.returns-in-Err-2-clause-left
returns-in-Err-2-clause-left g c =
    part_refused (bytes_left g.R.Read.remaining c.args.input.now) (bytes_left g.R.Read.remaining c.loop.input) (bytes_left g.R.Read.remaining c.read_ahead.new.self) c.args.most c.loop.line.items c.loop.invariant.line c.read_ahead.ensures.left

pub returns-clause-left : goal.returns-clause-left
returns-clause-left g c =
    part_refused (bytes_left g.R.Read.remaining c.args.input.now) (bytes_left g.R.Read.remaining c.loop.input) (bytes_left g.R.Read.remaining c.give_up.new.self) c.args.most c.loop.line.items c.loop.invariant.line
    (ahead_same c.loop.input.ahead c.give_up.new.self.ahead (g.R.Read.remaining c.loop.input.stream) (g.R.Read.remaining c.give_up.new.self.stream) c.give_up.ensures.ahead (ap g.R.Read.remaining c.give_up.ensures.stream))
