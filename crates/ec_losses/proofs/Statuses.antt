-- AL states that are read by frames are those of the world.
use Rattle.std.proofs.Common.{◌≡◌, ◌∙◌, ◌==◌, ℕ, length, true, false, Some, None, inl, inr, refl, sym, ap, subst}
use Rattle.std.specs.Prelude.{slice_get}
use Rattle.std.proofs.lemmas.Bool.{cases_eq, eq-eqb, lt-ltb, ne_eqb}
use Rattle.std.proofs.lemmas.Option.{get_or_from_slice_get, slice_get-get_or, slice_get_within}
use Rattle.ec_slave.specs.State.{station_of}
use Rattle.ec_start.specs.Actions.{station}
use Rattle.ec_world.specs.World.{is_slave, no_slave, slave_of}
use Rattle.ec_simulation.specs.Statuses.{status_of}
use Rattle.ec_asking.specs.Laws.{register_word}
use Rattle.ec_asking.proofs.Reading.{nobody_is_nothing, status_is_the_slaves}
use Rattle.ec_losses.specs.Statuses.{StatusesAreRead}

pub statuses_are_read : StatusesAreRead
statuses_are_read w s count there few others = elim (cases_eq (station_of (slave_of w s)) (station s)) [
  | inl own ↦
      let is : slice_get w.slaves s ≡ Some (slave_of w s) = slice_get-get_or w.slaves s no_slave there in
      let told = status_is_the_slaves w.slaves s count s (slave_of w s) few is own (λ j t here ne e. others j (slice_get_within w.slaves j t here) ne (e ∙ ap station_of (sym (get_or_from_slice_get w.slaves j t no_slave here)))) in
      let inside : is_slave w s ≡ true = lt-ltb s (length w.slaves) there in
      let tested : (station_of (slave_of w s) == station s) ≡ true = eq-eqb _ _ own in
      let here : status_of w s ≡ Some (record { word = register_word (slave_of w s) 0x0130; code = register_word (slave_of w s) 0x0134 }) = rw (inside, tested) refl in
      told ∙ sym here
  | inr other ↦
      let told = nobody_is_nothing w.slaves s count few (λ j t here e. elim (cases_eq j s) [
        | inl same ↦ other (ap station_of (subst (λ (i : ℕ). slave_of w i ≡ t) same (get_or_from_slice_get w.slaves j t no_slave here)) ∙ sym e)
        | inr ne ↦ others j (slice_get_within w.slaves j t here) ne (e ∙ ap station_of (sym (get_or_from_slice_get w.slaves j t no_slave here)))
      ]) in
      let inside : is_slave w s ≡ true = lt-ltb s (length w.slaves) there in
      let tested : (station_of (slave_of w s) == station s) ≡ false = ne_eqb _ _ other in
      let here : status_of w s ≡ None = rw (inside, tested) refl in
      told ∙ sym here
]
