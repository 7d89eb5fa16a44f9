use Rattle.std.proofs.Common.{◌∙◌, ap}
use Rattle.ec_link.specs.Layout.{LayoutState, some_part, units_seated, layout}
use Rattle.ec_link.proofs.Seats.{units_none, units_all}
use Rattle.std.proofs.Common.{refl}
use Rattle.ec_link.proofs.Seats.{units_more}
use Rattle.ec_link.proofs.layout.lay_out.Goals as goal

pub loop-unit-preserved : goal.loop-unit-preserved
loop-unit-preserved c =
    units_more c.args.sizes.now c.args.used.now c.in_ok-layout.layout c.loop-unit.layout c.seat_unit.new.self c.loop-unit.unit-index _ 0 c.loop-unit-test.true refl
    c.in_ok-seat_unit.ensures.value c.in_ok-seat_unit.ensures.few c.in_ok-seat_unit.ensures.there c.loop-unit.invariant

pub returns : goal.returns
unfolding layout
returns c =
    c.in_ok-close.ensures ∙ ap some_part (units_all c.args.sizes.now c.args.used.now c.in_ok-layout.layout c.loop-unit.layout c.loop-unit.unit-index c.loop-unit-test.false c.loop-unit.invariant
    ∙ ap (λ (l : LayoutState). units_seated c.args.sizes.now l c.args.used.now) c.in_ok-layout.ensures ∙ ap (units_seated c.args.sizes.now _) c.requires.used)

pub loop-unit-init : goal.loop-unit-init
loop-unit-init c = units_none c.args.sizes.now c.args.used.now c.in_ok-layout.layout c.in_ok-layout.ensures

pub seat_unit-requires : goal.seat_unit-requires
seat_unit-requires c = record { few = c.loop-unit.invariant.small; small = c.requires.small; there = c.loop-unit.invariant.seats }
