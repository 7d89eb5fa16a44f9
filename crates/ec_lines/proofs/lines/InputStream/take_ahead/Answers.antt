use Rattle.std.proofs.Common.{refl}
use Rattle.ec_lines.proofs.BlockLemmas.{line_left, line_taken, line_whole}
use Rattle.ec_lines.proofs.lines.InputStream.take_ahead.Goals as goal

pub returns-clause-taken : goal.returns-clause-taken
returns-clause-taken g c =
    rw (← c.self.view_is) (line_taken c.take_part.result c.self.inside.ahead c.take_part.new.self (g.R.Read.remaining c.self.inside.stream) (g.R.Read.remaining c.self.inside.stream) c.args.most c.args.line.now.items c.take_part.new.line.items refl c.take_part.ensures.taken)

pub returns-clause-whole : goal.returns-clause-whole
returns-clause-whole g c = line_whole c.take_part.result c.self.inside.ahead c.take_part.new.self c.args.most c.args.line.now.items c.take_part.new.line.items c.take_part.ensures.taken

pub returns-clause-left : goal.returns-clause-left
returns-clause-left g c = rw (← c.self.view_is) (line_left c.take_part.result c.self.inside.ahead c.take_part.new.self (g.R.Read.remaining c.self.inside.stream) (g.R.Read.remaining c.self.inside.stream) refl c.take_part.ensures.left)
