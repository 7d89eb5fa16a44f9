use Rattle.std.proofs.Common.{◌∙◌, ap, List, [], map}
use Rattle.std.proofs.lemmas.List.{take_all}
use Rattle.ec_link.specs.declared.layout.Part.{Part}
use Rattle.ec_link.specs.declared.layout.Seat.{Seat}
use Rattle.ec_link.specs.declared.sizes.SlaveSize.{SlaveSize}
use Rattle.ec_link.specs.Layout.{LayoutState, no_seat}
use Rattle.ec_link.proofs.Seats.{fresh_more}
use Rattle.ec_link.proofs.layout.Layout.new.Goals as goal

pub loop-size-preserved : goal.loop-size-preserved
loop-size-preserved c = fresh_more c.args.sizes.now c.loop-size.seats.items c.push.new.self.items c.loop-size._size-index c.loop-size-test.true c.loop-size.invariant c.in_ok-push.ensures.items

pub returns : goal.returns
returns c =
    let of : List Part → List Seat → LayoutState = λ ps ss. record { parts = ps; seats = ss } in
    ap (λ (ps : List Part). of ps c.loop-size.seats.items) c.new.ensures.items ∙ ap (of []) (c.loop-size.invariant ∙ ap (λ (zs : List SlaveSize). map (λ z. no_seat) zs) (take_all c.loop-size._size-index c.args.sizes.now c.loop-size-test.false))

pub loop-size-init : goal.loop-size-init
loop-size-init c = c.new-seats.ensures.items
