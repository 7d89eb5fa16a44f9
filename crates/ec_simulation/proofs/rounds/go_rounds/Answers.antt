use Rattle.std.proofs.Common.{◌∙◌, ◌+◌, ◌<◌, ◌≤◌, length, sym, subst}
use Rattle.ec_simulation.specs.Rounds.{greatest, rounds, slots_with}
use Rattle.ec_simulation.specs.Work.{MakesAll}
use Rattle.ec_simulation.proofs.Going.{AreGone, all_gone, gone_on, gone_wrong, passed_over}
use Rattle.ec_simulation.specs.Observing.{Observes}
use Rattle.ec_simulation.proofs.Seeing.{observes_same, observes_then}
use Rattle.ec_simulation.proofs.rounds.go_rounds.Goals as goal
use Rattle.ec_simulation.proofs.rounds.go_rounds.Goals.{then-holds+else-not-is_done, else-holds}

pub returns-then-not-is_done-clause-made : goal.returns-then-not-is_done-clause-made
returns-then-not-is_done-clause-made g c =
    let old = c.args.world.now in
    let serving = c.args.serving in
    let lt : c.loop-slot.slot < length old.slots = subst (λ n. c.loop-slot.slot < n) c.slots-slot-end.ensures c.loop-slot-test.true in
    let made = gone_wrong c.slaves-slaves.result serving c.newest-number.result old c.loop-slot.slot c.loop-slot.world c.loop-slot.said c.loop-slot.invariant.gone
    c.go_round-said.new.world c.go_round-said.result lt (sym c.holds.ensures ∙ c.if-holds.true) c.go_round-said.ensures.made (sym c.is_done.ensures ∙ c.if-not-is_done.true) in
    subst (λ n. MakesAll (rounds n serving (slots_with (greatest old.slots) 0 old.slots)) old c.go_round-said.new.world c.go_round-said.result) c.slaves-slaves.ensures
    (subst (λ k. MakesAll (rounds c.slaves-slaves.result serving (slots_with k 0 old.slots)) old c.go_round-said.new.world c.go_round-said.result) c.newest-number.ensures made)

pub loop-slot-preserved : goal.loop-slot-preserved
loop-slot-preserved g c =
    let old = c.args.world.now in
    let n = c.slaves-slaves.result in
    let number = c.newest-number.result in
    let i = c.loop-slot.slot in
    let lt : i < length old.slots = subst (λ n. i < n) c.slots-slot-end.ensures c.loop-slot-test.true in
    let gone : AreGone n c.args.serving number old (i + 1) c.if-holds.world c.if-holds.said = elim c.if-holds.branch [
      | then-holds+else-not-is_done w ↦
          let on = gone_on n c.args.serving number old i c.loop-slot.world c.loop-slot.said c.loop-slot.invariant.gone w.go_round-said.new.world w.go_round-said.result lt
          (sym c.holds.ensures ∙ w.if-holds.true) w.go_round-said.ensures.made (sym w.is_done.ensures ∙ w.if-not-is_done.false) in
          subst (λ v. AreGone n c.args.serving number old (i + 1) v c.if-holds.said) (sym w.world-is)
          (subst (λ s. AreGone n c.args.serving number old (i + 1) w.go_round-said.new.world s) (sym w.said-is) on)
      | else-holds w ↦
          let over = passed_over n c.args.serving number old i c.loop-slot.world c.loop-slot.said c.loop-slot.invariant.gone lt (sym c.holds.ensures ∙ w.if-holds.false) in
          subst (λ v. AreGone n c.args.serving number old (i + 1) v c.if-holds.said) (sym w.world-is)
          (subst (λ s. AreGone n c.args.serving number old (i + 1) c.loop-slot.world s) (sym w.said-is) over)
    ] in
    let observed = g.S.Watcher.observed in
    let seen : Observes observed c.args.watcher.now old c.if-holds.world c.if-holds.watcher = elim c.if-holds.branch [
      | then-holds+else-not-is_done w ↦ observes_same observed c.args.watcher.now w.go_round-said.new.watcher c.if-holds.watcher old w.go_round-said.new.world c.if-holds.world w.watcher-is w.world-is
          (observes_then observed c.args.watcher.now c.loop-slot.watcher w.go_round-said.new.watcher old c.loop-slot.world w.go_round-said.new.world c.loop-slot.invariant.seen w.go_round-said.ensures.observed)
      | else-holds w ↦ observes_same observed c.args.watcher.now c.loop-slot.watcher c.if-holds.watcher old c.loop-slot.world c.if-holds.world w.watcher-is w.world-is c.loop-slot.invariant.seen
    ] in
    record { gone = gone; seen = seen }

pub returns-clause-made : goal.returns-clause-made
returns-clause-made g c =
    let old = c.args.world.now in
    let serving = c.args.serving in
    let le : length old.slots ≤ c.loop-slot.slot = subst (λ n. n ≤ c.loop-slot.slot) c.slots-slot-end.ensures c.loop-slot-test.false in
    let made = all_gone c.slaves-slaves.result serving c.newest-number.result old c.loop-slot.slot c.loop-slot.world c.loop-slot.said c.loop-slot.invariant.gone le in
    subst (λ n. MakesAll (rounds n serving (slots_with (greatest old.slots) 0 old.slots)) old c.loop-slot.world c.loop-slot.said) c.slaves-slaves.ensures
    (subst (λ k. MakesAll (rounds c.slaves-slaves.result serving (slots_with k 0 old.slots)) old c.loop-slot.world c.loop-slot.said) c.newest-number.ensures made)
