use Rattle.std.proofs.Common.{inl, inr}
use Rattle.cmd_segment.proofs.SegmentLemmas.{no_slaves, opened_serves, unopened}
use Rattle.cmd_segment.proofs.segment.run_segment.Goals as goal

pub returns-in_err-slaves-clause-serves : goal.returns-in_err-slaves-clause-serves
returns-in_err-slaves-clause-serves g c = inr (no_slaves _ _ _ c.from_residual.ensures.1)

pub returns-in_err-wire-clause-serves : goal.returns-in_err-wire-clause-serves
returns-in_err-wire-clause-serves g c =
    inl (c.in_ok-slaves.slaves, c.in_ok-slaves.ensures, inr (unopened _ _ _ _ _ c.from_residual-in_err-wire.ensures.1 c.in_err-wire.ensures.refused))

pub returns-clause-serves : goal.returns-clause-serves
returns-clause-serves g c = inl (
  c.in_ok-slaves.slaves,
  c.in_ok-slaves.ensures,
  inl (record {
    tells = c.in_ok-wire.ensures.tells;
    serves = opened_serves c.serve_tapped.result c.args.endpoint.frames _ _ _ _ _ _ c.serve_tapped.new.slaves c.in_ok-wire.ensures.fresh c.serve_tapped.ensures.serves.1;
  }),
)
