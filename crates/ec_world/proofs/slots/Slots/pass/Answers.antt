use Rattle.ec_world.proofs.Words.{◌<◌, ◌≡◌, ◌∙◌, List, Option, None, get_or, length, subst, sym, Flight}
use Rattle.ec_world.proofs.SlotLaws.Clearance.{free_stays, has_moved, same_default, clearance_stays}
use Rattle.ec_world.proofs.slots.Slots.pass.Goals as goal

abbrev Slots : Type 0
Slots = List (Option Flight)

pub invariant_of-self : goal.invariant_of-self
invariant_of-self c =
    let items : Slots = c.self.inside.slots.items in
    let there : c.args.slot < length items = subst (λ (xs : Slots). c.args.slot < length xs) (sym c.self.view_is) c.requires.there in
    let before : get_or items c.args.slot None ≡ c.index_mut.result.now = same_default items c.args.slot None c.index_mut.result.now there ∙ sym c.index_mut.ensures.value in
    let free : get_or items c.args.slot None ≡ None → c.pass.new.self ≡ None = λ e. c.pass.ensures.free (sym before ∙ e) in
    record {
      free = free_stays items c.self.inside.used c.args.slot c.pass.new.self c.self.invariant.free free;
      clearance = clearance_stays items c.self.inside.clearance.slot c.self.inside.clearance.until c.args.slot c.pass.new.self c.self.invariant.clearance
          (has_moved c.args.ring.now c.pass.new.ring (get_or items c.args.slot None) c.pass.new.self (λ f e. c.pass.ensures.passed f (sym before ∙ e)) free);
    }
