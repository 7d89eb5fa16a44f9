use Rattle.std.proofs.Common.{◌∙◌, List, ℕ, ap, length, subst, sym}
use Rattle.std.specs.Io.KnownBytes.{Consumes}
use Rattle.ec_lines.proofs.BlockLemmas.{front_is}
use Rattle.ec_lines.proofs.lines.Block.fill.Goals as goal

pub returns-clause-count : goal.returns-clause-count
returns-clause-count g c = ap length (front_is c.in_ok-count.count c.read.new.buf) ∙ sym c.in_ok-count.ensures.bound.1

pub returns-clause-bytes : goal.returns-clause-bytes
returns-clause-bytes g c = subst (λ (l : List ℕ). Consumes (g.R.Read.remaining c.args.stream.now) (g.R.Read.remaining c.read.new.self) l) (sym (front_is c.in_ok-count.count c.read.new.buf)) c.in_ok-count.ensures.bytes.0
