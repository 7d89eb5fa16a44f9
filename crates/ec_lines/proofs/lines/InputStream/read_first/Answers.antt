use Rattle.ec_lines.proofs.BlockLemmas.{first_known}
use Rattle.ec_lines.proofs.lines.InputStream.read_first.Goals as goal
use Rattle.ec_lines.proofs.lines.InputStream.read_first.Goals.{in-Ok, in-Err}

pub returns-clause-bytes : goal.returns-clause-bytes
returns-clause-bytes g c = elim c.match-read.branch [
  | in-Ok w ↦ rw (w.result-is, ← c.self.view_is)
      (first_known c.args.most c.in_ok-count.count c.args.bytes.now.items c.self.inside.ahead c.take_first.new.bytes.items c.read_first-read.new.bytes.items (g.R.Read.remaining c.self.inside.stream) c.in_ok-count.ensures.count c.in_ok-count.ensures.bytes w.in-Ok.ensures.bytes)
  | in-Err w ↦ rw w.result-is tt
]
