use Rattle.ec_lines.specs.Inputs.{bytes_left}
use Rattle.ec_wire.specs.Wires.{silent}
use Rattle.cmd_segment.proofs.plant.live_opened.Goals as goal

pub returns-in-Err-clause-lives : goal.returns-in-Err-clause-lives
returns-in-Err-clause-lives g c = c.print_unserved.ensures c.args.endpoint.frames (silent 0) (bytes_left g.R.Read.remaining c.args.console.now.input)
