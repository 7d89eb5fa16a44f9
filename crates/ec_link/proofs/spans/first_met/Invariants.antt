use Rattle.ec_link.proofs.SpanMaps.{Spanned}
use Rattle.ec_link.proofs.spans.first_met.Given as goal

abbrev pub invariant-loop-place : goal.invariant-loop-place
invariant-loop-place l = Spanned l.link_runs l.ends l.place
