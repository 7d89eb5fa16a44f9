use Rattle.std.proofs.Common.{◌≡◌, ◌∙◌, ◌++◌, ℕ, List, length, take, drop, arith, ap}
use Rattle.ec_sync.specs.SyncManager.{SyncManager}
use Rattle.ec_al.specs.declared.state.State.{State}
use Rattle.ec_al.specs.Al.{Al}
use Rattle.ec_slave.specs.State.{SlaveState}
use Rattle.ec_slave.specs.Serving.{managers_entered, replies_entered}
use Rattle.ec_slave.proofs.LogicalAccess.ExchangedFrom.{take_front}
use Rattle.ec_slave.proofs.slave.Slave.enter.Goals as goal

pub returns : goal.returns
returns c =
    let s : SlaveState = c.args.self.now in
    let old : State = c.args.old in
    let al = ap (λ (x : SlaveState). x.al) c.self.view_is in
    let managers = ap (λ (x : SlaveState). x.managers) c.self.view_is in
    let replies = ap (λ (x : SlaveState). x.replies) c.self.view_is in
    let new : c.state-new.result ≡ s.al.state = c.state-new.ensures ∙ ap (λ (x : Al). x.state) al in
    let met : List SyncManager = c.enter_state.new.managers in
    let own = c.deref_mut.ensures.value in
    let ok = c.self.inside.managers.ok in
    let long = c.enter_state.auto.managers in
    let all : List SyncManager = take c.self.inside.managers.len (met ++ drop (length met) c.self.inside.managers.items) in
    let front : all ≡ met = take_front met _ c.self.inside.managers.len (omega (arith, ap length own, ok, long)) in
    ap (λ (x : SlaveState). record x { managers = all; replies = c.replies_in-self-inside.result }) c.self.view_is
    ∙ (ap (λ (ms : List SyncManager). record s { managers = ms; replies = c.replies_in-self-inside.result })
    (front ∙ (c.enter_state.ensures ∙ (ap (λ (x : State). managers_entered old x c.deref_mut.result.now) new ∙ ap (managers_entered old s.al.state) (own ∙ managers))))
    ∙ ap (λ (n : ℕ). record s { managers = managers_entered old s.al.state s.managers; replies = n })
    (c.replies_in-self-inside.ensures ∙ (ap (λ (x : State). replies_entered old x c.self.inside.replies) new ∙ ap (replies_entered old s.al.state) replies)))

pub invariant_of-self : goal.invariant_of-self
invariant_of-self c =
    let met : List SyncManager = c.enter_state.new.managers in
    let own = c.deref_mut.ensures.value in
    let ok = c.self.inside.managers.ok in
    let long = c.enter_state.auto.managers in
    record {
      room = c.self.invariant.room;
      four = ap length (take_front met _ c.self.inside.managers.len (omega (arith, ap length own, ok, long))) ∙ (long ∙ (ap length own ∙ c.self.invariant.four));
      decoded = c.self.invariant.decoded;
      image = c.self.invariant.image;
    }

pub enter_state-requires : goal.enter_state-requires
enter_state-requires c = ap length c.deref_mut.ensures.value ∙ c.self.invariant.four
