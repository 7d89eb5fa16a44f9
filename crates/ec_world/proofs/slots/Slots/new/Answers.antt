use Rattle.std.proofs.Math.ListN.{get_or-replicate}
use Rattle.ec_world.proofs.Words.{ℕ, ◌≡◌, ◌∙◌, List, Option, None, ap, arith, cases_lt, get_or, get_or_past, inl, inr, length-replicate, replicate, Flight}
use Rattle.ec_world.proofs.slots.Slots.new.Goals as goal

abbrev no_flight : Option Flight
no_flight = None

none_at : (n i : ℕ) → get_or (replicate n no_flight) i no_flight ≡ no_flight
none_at n i = elim (cases_lt i n) [
  | inl l ↦ get_or-replicate n i no_flight no_flight l
  | inr l ↦ let long = length-replicate n no_flight in get_or_past (replicate n no_flight) i no_flight (omega (arith, long, l))
]

pub invariant_of-result : goal.invariant_of-result
invariant_of-result c = record {
  free = record {
    within = omega arith;
    free = λ i l. ap (λ (xs : List (Option Flight)). get_or xs i None) c.loop-n.invariant ∙ none_at c.loop-n.n i;
  };
  clearance = λ i f g a b older. omega (arith, c.none.ensures);
}
