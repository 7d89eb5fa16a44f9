use Rattle.std.proofs.Common.{◌∙◌, ap}
use Rattle.ec_lines.specs.Inputs.{InputState}
use Rattle.ec_lines.proofs.BlockLemmas.{read_ends, read_left}
use Rattle.ec_lines.proofs.lines.InputStream.read_ahead.Goals as goal

pub returns-clause-left : goal.returns-clause-left
returns-clause-left g c =
    rw (← c.self.view_is)
    (read_left c.fill-read.result c.self.inside.ahead c.fill-read.new.self (g.R.Read.remaining c.self.inside.stream) (g.R.Read.remaining c.fill-read.new.stream) (ap (λ (s : InputState _). s.ahead) c.self.view_is ∙ c.requires) c.fill-read.ensures.bytes c.fill-read.ensures.none)

pub returns-clause-end : goal.returns-clause-end
returns-clause-end g c = read_ends c.fill-read.result c.fill-read.new.self (g.R.Read.remaining c.fill-read.new.stream) c.fill-read.ensures.count c.fill-read.ensures.end
