use Rattle.std.proofs.Common.{◌≡◌, ◌∙◌, true, false, sym, ap, arith}
use Rattle.ec_bits.proofs.AnyLaws.{if_true, if_false}
use Rattle.ec_al.specs.Al.{Al, waiting}
use Rattle.ec_al.specs.declared.state.State.{State}
use Rattle.ec_slave.specs.State.{SlaveState, manager_at}
use Rattle.ec_slave.specs.Serving.{al_decided, emergency_counted, emergency_put, greets, has_outputs, is_awaiting, managers_entered, outputs_awaited, replies_entered, request_decided, with_al}
use Rattle.ec_slave.proofs.slave.Slave.decide_waiting.Goals as goal

pub wait-requires : goal.wait-requires
wait-requires c =
    let few = c.is_slow.ensures.few c.if-is_slow.true in
    let own = ap (λ (x : SlaveState). x.al.waited) c.self.view_is in
    omega (arith, few, own)

pub returns-then-is_slow : goal.returns-then-is_slow
unfolding request_decided
returns-then-is_slow c =
    let s : SlaveState = c.args.self.now in
    ap (λ (x : SlaveState). record x { al = c.wait.new.self }) c.self.view_is
    ∙ (ap (λ (a : Al). record s { al = a }) (c.wait.ensures ∙ ap (λ (x : SlaveState). waiting x.al) c.self.view_is)
    ∙ sym (if_true _ _ _ c.requires ∙ if_true _ _ _ (sym c.is_slow.ensures.slow ∙ c.if-is_slow.true)))

pub returns-then-is_awaiting : goal.returns-then-is_awaiting
unfolding request_decided
returns-then-is_awaiting c =
    sym (if_true _ _ _ c.requires ∙ (if_false _ _ _ (sym c.is_slow.ensures.slow ∙ c.if-is_slow.false) ∙ if_true _ _ _ (sym c.is_awaiting.ensures ∙ c.if-is_awaiting.true)))

-- the state is entered, outputs awaited, and an emergency sent, of the slave with the new state machine
entered-from : (s : SlaveState) (old : State) (t u v w : SlaveState) → old ≡ s.al.state → t ≡ record s { al = al_decided s.kind.hardware s }
    → u ≡ record t { managers = managers_entered old t.al.state t.managers; replies = replies_entered old t.al.state t.replies }
    → v ≡ record u { managers = outputs_awaited u.kind.hardware (has_outputs u) old u.al.state u.managers }
    → w ≡ record v { managers = emergency_put (greets v.kind old v.al.state (manager_at v.managers 1)) v.replies v.managers; replies = emergency_counted (greets v.kind old v.al.state (manager_at v.managers 1)) v.replies }
    → w ≡ with_al s (al_decided s.kind.hardware s)
entered-from s old t u v w e decided entered awaited greeted =
    greeted
    ∙ (ap (loud old) (awaited
    ∙ (ap (λ (x : SlaveState). record x { managers = outputs_awaited x.kind.hardware (has_outputs x) old x.al.state x.managers }) entered
    ∙ ap (settled old) decided))
    ∙ ap (λ (x : State). loud x (settled x (record s { al = al_decided s.kind.hardware s }))) e)
  where
    settled : State → SlaveState → SlaveState
    settled x y = record y {
      managers = outputs_awaited y.kind.hardware (has_outputs y) x y.al.state (managers_entered x y.al.state y.managers);
      replies = replies_entered x y.al.state y.replies;
    }

    loud : State → SlaveState → SlaveState
    loud x y = record y {
      managers = emergency_put (greets y.kind x y.al.state (manager_at y.managers 1)) y.replies y.managers;
      replies = emergency_counted (greets y.kind x y.al.state (manager_at y.managers 1)) y.replies;
    }

pub returns : goal.returns
unfolding request_decided
returns c =
    let s : SlaveState = c.args.self.now in
    let old : c.state-old.result ≡ s.al.state = c.state-old.ensures ∙ ap (λ (x : SlaveState). x.al.state) c.self.view_is in
    entered-from s c.state-old.result c.step_al.new.self c.enter.new.self c.await_outputs.new.self c.greet.new.self old c.step_al.ensures c.enter.ensures c.await_outputs.ensures c.greet.ensures
    ∙ sym (if_true _ _ _ c.requires ∙ (if_false _ _ _ (sym c.is_slow.ensures.slow ∙ c.if-is_slow.false) ∙ if_false _ _ _ (sym c.is_awaiting.ensures ∙ c.if-is_awaiting.false)))

pub step_al-requires-clause-control : goal.step_al-requires-clause-control
step_al-requires-clause-control c = c.control_word-control.ensures
