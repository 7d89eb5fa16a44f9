use Rattle.ec_world.proofs.Words.{ℕ, ◌≡◌, ◌∙◌, List, Option, Some, None, ap, get_or, nat_lt, option_map, subst, sym, lt-ltb, fold, list_all, lets_by, Flight, flight_progress, flights_progress, HasClearance, no_end, clearance_behind}
use Rattle.ec_world.proofs.StartUp.HasTurned.{behind_in_use}
use Rattle.ec_world.proofs.SlotLaws.Clearance.{finds_clearance, clearance_open, clearance_passes}
use Rattle.ec_world.proofs.slots.Slots.clearance_of.Goals as goal

abbrev Slots : Type 0
Slots = List (Option Flight)

pub returns-then-frame-self-clause-clearance : goal.returns-then-frame-self-clause-clearance
returns-then-frame-self-clause-clearance c =
    let items : Slots = c.self.inside.slots.items in
    let until = c.self.inside.clearance.until in
    let f = c.args.frame.now in
    let is : option_map flight_progress (get_or items c.args.slot None) ≡ Some f = ap (λ (xs : Slots). option_map flight_progress (get_or xs c.args.slot None)) c.self.view_is ∙ c.requires.there in
    let clearance : HasClearance items c.args.slot until = subst (λ (k : ℕ). HasClearance items k until) c.if-self-slot.true c.self.invariant.clearance in
    lt-ltb f.passed until c.if-frame-self.true
    ∙ (sym (clearance_passes items c.args.slot until f is clearance c.if-frame-self.true) ∙ ap (λ (xs : Slots). list_all (lets_by f) (flights_progress xs)) c.self.view_is)

pub invariant_of-self : goal.invariant_of-self
invariant_of-self c =
    let items : Slots = c.self.inside.slots.items in
    let f = c.args.frame.now in
    let is : option_map flight_progress (get_or items c.args.slot None) ≡ Some f = ap (λ (xs : Slots). option_map flight_progress (get_or xs c.args.slot None)) c.self.view_is ∙ c.requires.there in
    let until : c.clearance_behind-until.result ≡ fold (clearance_behind f) no_end (flights_progress items) =
    c.clearance_behind-until.ensures ∙ (behind_in_use f no_end c.args.self.now c.in_use.result.now c.in_use.ensures ∙ ap (λ (xs : Slots). fold (clearance_behind f) no_end (flights_progress xs)) (sym c.self.view_is)) in
    record {
      free = c.self.invariant.free;
      clearance = subst (λ (n : ℕ). HasClearance items c.args.slot n) (sym until) (finds_clearance items c.args.slot f is);
    }

pub returns-clause-clearance : goal.returns-clause-clearance
returns-clause-clearance c =
    let f = c.args.frame.now in
    ap (λ (n : ℕ). nat_lt f.passed n) (c.clearance_behind-until.ensures ∙ behind_in_use f no_end c.args.self.now c.in_use.result.now c.in_use.ensures)
    ∙ clearance_open f (flights_progress c.args.self.now) c.requires.few
