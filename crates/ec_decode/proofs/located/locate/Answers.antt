use Rattle.std.proofs.Common.{◌≡◌, ◌<◌, List, ℕ, length, nat_eq, refl, sym, ap, subst, ◌∙◌, false, arith}
use Rattle.std.proofs.lemmas.Bool.Decides.{nat_tests}
use Rattle.ec_frame.specs.Frame.{area}
use Rattle.ec_decode.specs.Stopping.{Stops}
use Rattle.ec_decode.proofs.Places.{in_area}
use Rattle.ec_decode.proofs.located.locate.Goals as goal

some_from : (xs ys : List ℕ) → xs ≡ ys → nat_eq (length xs) 0 ≡ false → 0 < length ys
some_from xs ys e h = grind (arith, nat_tests, ap length e)

pub returns-in_default-2 : goal.returns-in_default-2
returns-in_default-2 c =
    let payload = c.args.payload.now in
    let stops : Stops (area payload) c.front_of-whole.result = subst (λ (xs : List ℕ). Stops xs c.front_of-whole.result) c.area_of-area.ensures c.front_of-whole.ensures in
    let some : 0 < length (area payload) = some_from _ _ c.area_of-area.ensures (sym c.is_empty.ensures ∙ c.if-is_empty.false) in (
      stops.datagrams,
      record { refused = c.requires; placed = in_area payload c.args.error c.front_of-whole.result c.requires c.in_default.not-Short c.in_default.not-BadType c.in_default.not-TooLong some stops; whole = stops.whole },
      refl,
    )
