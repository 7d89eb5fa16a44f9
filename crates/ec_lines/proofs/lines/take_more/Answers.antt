use Rattle.std.proofs.Common.{◌≡◌, IfOk, Result, ℕ, subst}
use Rattle.std.specs.Io.KnownBytes.{IsAtEnd}
use Rattle.ec_lines.specs.Inputs.{bytes_left}
use Rattle.ec_lines.specs.Taking.{max_kept}
use Rattle.ec_lines.proofs.TakeLemmas.{goes_more, input_ends, still_so_far}
use Rattle.ec_lines.proofs.lines.take_more.Goals as goal

-- bytes are ahead
pub returns-then-is_ahead-clause-more : goal.returns-then-is_ahead-clause-more
returns-then-is_ahead-clause-more g c = λ start h.
    goes_more start (bytes_left g.R.Read.remaining c.args.input.now) (bytes_left g.R.Read.remaining c.take_ahead.new.self) c.args.line.now.items c.take_ahead.new.line.items c.in_ok-take_ahead.field-0 h c.in_ok-take_ahead.ensures.taken

-- a read: the input's end; more bytes; an interruption
pub returns-in-Ok-eq0-clause-more : goal.returns-in-Ok-eq0-clause-more
returns-in-Ok-eq0-clause-more g c = λ start h.
    input_ends start (bytes_left g.R.Read.remaining c.args.input.now) (bytes_left g.R.Read.remaining c.read_ahead.new.self) max_kept c.args.line.now.items h c.read_ahead.ensures.left
    (subst (λ (read : Result ℕ _). IfOk read (λ count. count ≡ 0 → IsAtEnd (bytes_left g.R.Read.remaining c.read_ahead.new.self))) c.in-Ok-eq0.is c.read_ahead.ensures.end c.in-Ok-eq0.field-0-test)

pub returns-in_ok-take_ahead-in-Ok-clause-more : goal.returns-in_ok-take_ahead-in-Ok-clause-more
returns-in_ok-take_ahead-in-Ok-clause-more g c = λ start h.
    let mid = bytes_left g.R.Read.remaining c.read_ahead.new.self in
    goes_more start mid (bytes_left g.R.Read.remaining c.take_ahead-in-Ok.new.self) c.args.line.now.items c.take_ahead-in-Ok.new.line.items c.in_ok-take_ahead-in-Ok.field-0
    (still_so_far start (bytes_left g.R.Read.remaining c.args.input.now) mid max_kept c.args.line.now.items h c.read_ahead.ensures.left) c.in_ok-take_ahead-in-Ok.ensures.taken

pub returns-in-Err-clause-more : goal.returns-in-Err-clause-more
returns-in-Err-clause-more g c = λ start h.
    still_so_far start (bytes_left g.R.Read.remaining c.args.input.now) (bytes_left g.R.Read.remaining c.read_ahead.new.self) max_kept c.args.line.now.items h c.read_ahead.ensures.left
