use Rattle.std.proofs.Common.{ℕ, ◌≡◌, ◌∙◌, ◌&&◌, Bool, true, false, refl, if◌then◌else◌, Option, Some, None, Result, Ok, Err, List, sym, ap, arith, option_and_then, rules}
use Rattle.std.specs.Result.{MatchResult, result_ok}
use Rattle.std.specs.Bool.{then_some}
use Rattle.ec_coe.specs.declared.message.Message.{Message}
use Rattle.ec_coe.specs.Messages.{message_read}
use Rattle.ec_sync.specs.SyncManager.{SyncManager, message_in}
use Rattle.ec_slave.specs.State.{SlaveState, manager_at}
use Rattle.ec_slave.specs.Serving.{has_room, is_request, request_for}
use Rattle.ec_slave.proofs.AppAccess.Bytes.{indexed}
use Rattle.ec_slave.proofs.slave.Slave.request.Goals as goal
use Rattle.ec_slave.proofs.slave.Slave.request.Goals.{then-eq, else-eq}

read_ok : {E : Type 0} (r : Result Message E) (m : Message) (o : Option Message) → MatchResult r (λ x. o ≡ Some x) (λ _. o ≡ None) → Some m ≡ result_ok r → o ≡ Some m
read_ok (Ok x) m o h e = h ∙ sym e
read_ok (Err y) m o h e = absurd (let z : Some m ≡ None = e in cc)

some-if : (b : Bool) (m : Message) → then_some b m ≡ (if b then Some m else None)
some-if true m = refl
some-if false m = refl

pub returns : goal.returns
returns c =
    let s : SlaveState = c.args.self.now in
    let r : Message = c.in_ok-message-2.message in
    let four = c.self.invariant.four in
    let managers = ap (λ (x : SlaveState). x.managers) c.self.view_is in
    let first = indexed c.self.inside.managers.items s.managers 0 c.index.result.now (omega (arith, four)) c.index.ensures managers in
    let second = indexed c.self.inside.managers.items s.managers 1 c.index-2.result.now (omega (arith, four)) c.index-2.ensures managers in
    let found : option_and_then message_read (message_in (manager_at s.managers 0)) ≡ Some r
    = ap (λ (m : SyncManager). option_and_then message_read (message_in m)) (sym first)
    ∙ (ap (λ (o : Option (List ℕ)). option_and_then message_read o) (sym c.in_ok-message.ensures)
    ∙ read_ok c.read_message.result r (message_read c.in_ok-message.field-0.now) c.read_message.ensures c.in_ok-message-2.ensures.value) in
    let meant : c.if-eq.then_some ≡ (is_request r.service && has_room c.index-2.result.now)
    = elim c.if-eq.branch [ then-eq w ↦ search rules | else-eq w ↦ search rules ] in
    c.then_some.ensures
    ∙ (ap (λ b. then_some b r) meant
    ∙ (some-if (is_request r.service && has_room c.index-2.result.now) r
    ∙ (ap (λ (m : SyncManager). request_for m (Some r)) second ∙ sym (ap (request_for (manager_at s.managers 1)) found))))
