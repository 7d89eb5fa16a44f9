use Rattle.std.proofs.Common.{ℕ, ◌<◌, ◌≡◌, drop, get_or, length, slice_get}
use Rattle.ec_frame.specs.Cursor.{IsAhead}
use Rattle.ec_frame.specs.Frame.{Payload, IsFrame}
use Rattle.ec_cycle.specs.Matching.{StandsFor, nowhere}
use Rattle.ec_cycle.proofs.matching.first_spans.Given as goal

abbrev pub invariant-loop-n : goal.invariant-loop-n
invariant-loop-n l = record {
  size : length l.spans ≡ 4;
  stand : (p : Payload) → IsFrame l.payload p → IsAhead l.payload l.places (drop l.n p.datagrams) × ((k : ℕ) → k < l.n → StandsFor l.payload (get_or l.spans k nowhere) (slice_get p.datagrams k));
}
