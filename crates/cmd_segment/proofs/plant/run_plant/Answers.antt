use Rattle.std.proofs.Common.{inl, inr, sym, subst}
use Rattle.std.specs.Net.Addr.{ipv4_octets}
use Rattle.ec_lines.specs.Inputs.{bytes_left}
use Rattle.cmd_segment.specs.Opening.{TellsOpened}
use Rattle.cmd_segment.proofs.SegmentLemmas.{unopened}
use Rattle.cmd_segment.proofs.plant.run_plant.Goals as goal

pub returns-in_err-wire-clause-lives : goal.returns-in_err-wire-clause-lives
returns-in_err-wire-clause-lives g c =
    inl (c.in_ok-live.live, c.in_ok-live.ensures, inr (unopened _ _ _ _ _ c.from_residual-in_err-wire.ensures.1 c.in_err-wire.ensures.refused))

pub returns-clause-lives : goal.returns-clause-lives
returns-clause-lives g c =
    let e = c.args.endpoint in
    inl (
      c.in_ok-live.live,
      c.in_ok-live.ensures,
      inl (
        subst (TellsOpened e.descriptor (ipv4_octets e.address) e.port c.args.console.now.faults) (sym c.live_opened.ensures.faults) c.in_ok-wire.ensures.tells,
        (bytes_left g.R.Read.remaining c.live_opened.new.console.input, c.live_opened.ensures.lives),
      ),
    )
