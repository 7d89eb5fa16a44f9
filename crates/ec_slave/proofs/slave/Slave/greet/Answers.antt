use Rattle.std.proofs.Common.{◌<◌, ◌≡◌, ◌∙◌, Bool, true, false, length, arith, sym, ap}
use Rattle.ec_device.specs.Types.{SlaveKind}
use Rattle.ec_al.specs.declared.state.State.{State}
use Rattle.ec_coe.specs.Emergency.{emergency_bytes}
use Rattle.ec_sync.specs.SyncManager.{SyncManager}
use Rattle.ec_slave.specs.State.{SlaveState, manager_at}
use Rattle.ec_slave.specs.Serving.{emergency_counted, emergency_put, greets, reply_counter, sent}
use Rattle.ec_slave.proofs.AppAccess.Bytes.{indexed}
use Rattle.ec_slave.proofs.slave.Slave.greet.Goals as goal

-- the slave as it sends an emergency, or as it is
abbrev greeted : SlaveState → Bool → SlaveState
greeted s b = record s { managers = emergency_put b s.replies s.managers; replies = emergency_counted b s.replies }

-- what was asked is what the slave is asked
same-question : (s : SlaveState) (old new : State) (kind : SlaveKind) (m : SyncManager) → kind ≡ s.kind → new ≡ s.al.state → m ≡ manager_at s.managers 1
    → greets kind old new m ≡ greets s.kind old s.al.state (manager_at s.managers 1)
same-question s old new kind m e f g =
    ap (λ (k : SlaveKind). greets k old new m) e
    ∙ (ap (λ (x : State). greets s.kind old x m) f ∙ ap (greets s.kind old s.al.state) g)

pub returns-then-greets : goal.returns-then-greets
returns-then-greets c =
    let s : SlaveState = c.args.self.now in
    let four : 1 < length c.self.inside.managers.items = omega (arith, c.self.invariant.four) in
    let here : c.index.result.now ≡ manager_at s.managers 1 = indexed _ s.managers 1 _ four c.index.ensures (ap (λ (x : SlaveState). x.managers) c.self.view_is) in
    let kind : c.kind.result.now ≡ s.kind = c.kind.ensures ∙ ap (λ (x : SlaveState). x.kind) c.self.view_is in
    let new : c.state-new.result ≡ s.al.state = c.state-new.ensures ∙ ap (λ (x : SlaveState). x.al.state) c.self.view_is in
    let asked = same-question s c.args.old c.state-new.result c.kind.result.now c.index.result.now kind new here in
    let is : greets s.kind c.args.old s.al.state (manager_at s.managers 1) ≡ true = sym (c.greets.ensures ∙ asked) ∙ c.if-greets.true in
    let bytes : c.emergency_bytes-bytes.result ≡ emergency_bytes (reply_counter s.replies) = c.emergency_bytes-bytes.ensures ∙ ap (λ (x : SlaveState). emergency_bytes (reply_counter x.replies)) c.self.view_is in
    c.put_message.ensures ∙ (ap (sent s) bytes ∙ ap (greeted s) (sym is))

pub returns-else-greets : goal.returns-else-greets
returns-else-greets c =
    let s : SlaveState = c.args.self.now in
    let four : 1 < length c.self.inside.managers.items = omega (arith, c.self.invariant.four) in
    let here : c.index.result.now ≡ manager_at s.managers 1 = indexed _ s.managers 1 _ four c.index.ensures (ap (λ (x : SlaveState). x.managers) c.self.view_is) in
    let kind : c.kind.result.now ≡ s.kind = c.kind.ensures ∙ ap (λ (x : SlaveState). x.kind) c.self.view_is in
    let new : c.state-new.result ≡ s.al.state = c.state-new.ensures ∙ ap (λ (x : SlaveState). x.al.state) c.self.view_is in
    let asked = same-question s c.args.old c.state-new.result c.kind.result.now c.index.result.now kind new here in
    let is : greets s.kind c.args.old s.al.state (manager_at s.managers 1) ≡ false = sym (c.greets.ensures ∙ asked) ∙ c.if-greets.false in
    ap (greeted s) (sym is)
