use Rattle.ec_world.proofs.Words.{ℕ, ◌∙◌, Option, is_none, List, ap, set, position, sym, Flight}
use Rattle.ec_world.proofs.SlotLaws.Filled.{filled_in, not_filled}
use Rattle.ec_world.proofs.slots.Slots.fill.Goals as goal

abbrev flight : List ℕ → ℕ → ℕ → Flight
flight bytes number part = record { bytes = bytes; number = number; part = part; passed = 0 }

pub returns-in-Some : goal.returns-in-Some
returns-in-Some c =
    let f = flight c.args.bytes.now c.args.number c.args.part in
    rw (← c.self.view_is) (ap (λ (o : Option Flight). set c.self.inside.slots.items c.in-Some.place o) c.put.ensures
    ∙ filled_in f c.self.inside.slots.items c.in-Some.place (c.in-Some.ensures ∙ ap (λ (os : List (Option Flight)). position (λ o. is_none o) os) (sym c.self.view_is)))

pub returns-in_default : goal.returns-in_default
returns-in_default c =
    let f = flight c.args.bytes.now c.args.number c.args.part in
    not_filled f c.args.self.now c.in_default.ensures
