use Rattle.std.proofs.lemmas.List.{get_or_default}
use Rattle.std.proofs.lemmas.List.Sums.{fold_more}
use Rattle.ec_world.proofs.Words.{ℕ, ◌<◌, ◌≡◌, ◌∙◌, List, Option, None, ap, arith, get_or, get_or-map, length, length-map, option_map, sym, take_all, fold, Progress, Flight, flight_progress, flights_progress, no_end, clearance_behind}
use Rattle.ec_world.proofs.slots.clearance_behind.Goals as goal

pub loop-slot-preserved : goal.loop-slot-preserved
loop-slot-preserved c =
    let slots : List (Option Flight) = c.args.slots.now in
    let f : Progress = c.args.frame.now in
    let i : ℕ = c.loop-slot.slot-index in
    let l : i < length slots = omega arith in
    let item = c.slot-item.is ∙ get_or_default slots i c.slot-item.result None l in
    let here : c.progress-other.result ≡ get_or (flights_progress slots) i None
    = c.progress-other.ensures ∙ (ap (λ (o : Option Flight). option_map flight_progress o) item ∙ sym (get_or-map (λ (o : Option Flight). option_map flight_progress o) slots i None)) in
    c.clearance_behind-far.ensures ∙ (ap (clearance_behind f c.loop-slot.far) here
    ∙ (ap (λ (n : ℕ). clearance_behind f n (get_or (flights_progress slots) i None)) c.loop-slot.invariant
    ∙ sym (fold_more (clearance_behind f) no_end (flights_progress slots) i None (omega (arith, l, length-map slots (λ (o : Option Flight). option_map flight_progress o))))))

pub returns : goal.returns
returns c =
    let slots : List (Option Flight) = c.args.slots.now in
    let all : length (flights_progress slots) ≡ length slots = length-map slots (λ (o : Option Flight). option_map flight_progress o) in
    c.loop-slot.invariant ∙ ap (fold (clearance_behind c.args.frame.now) no_end) (take_all c.loop-slot.slot-index (flights_progress slots) (omega (arith, all)))
