-- What a firmware step does to the PDOs that are assigned.
use Rattle.std.proofs.Common.{◌≡◌, ◌≢◌, Bool, true, false, Option, Some, None, List, ℕ, refl, sym, ◌∙◌, ap, subst, if◌then◌else◌}
use Rattle.ec_al.specs.declared.state.State.{State}
use Rattle.ec_al.specs.declared.state.State.TheVariants.{Init, PreOp, SafeOp, Op}
use Rattle.ec_device.specs.Types.{SlaveKind}
use Rattle.ec_sync.specs.SyncManager.{message_taken}
use Rattle.ec_coe.specs.declared.message.Message.{Message}
use Rattle.ec_coe.specs.Objects.{Dictionary}
use Rattle.ec_coe.specs.Answers.{answered}
use Rattle.ec_coe.specs.Laws.{IsAssignment, KeepsAssignments}
use Rattle.ec_device.specs.Hardware.{is_fixed}
use Rattle.ec_coe.proofs.AssignmentsStay.{assignments_kept, preop_alone}
use Rattle.ec_coe.proofs.Devices.{fixed_stays}
use Rattle.ec_slave.specs.State.{SlaveState, manager_at}
use Rattle.ec_slave.specs.Application.{with_manager}
use Rattle.ec_slave.specs.Serving.{served, request_decided, read_finished, message_served, is_served, reply_given, request_in, refusal_in, is_preop, dictionary_of, reply_counter}
use Rattle.ec_slave.specs.FirmwareLaws.{KeepsAssigned, ServesKeepAssignments}
use Rattle.ec_slave.proofs.FirmwareRuns.RestsQuietly.{decided-same}

no-preop : (s : State) → s ≢ PreOp → is_preop s ≡ false
no-preop Init n = refl
no-preop PreOp n = absurd (n refl)
no-preop SafeOp n = refl
no-preop Op n = refl

given-keeps : (s : SlaveState) (f : Option (List ℕ)) (o : Option Message) → KeepsAssigned s (reply_given (with_manager s 0 (message_taken (manager_at s.managers 0))) f o)
given-keeps s None None = record { elsewhere = λ n. (refl, refl); fixed = λ g. (refl, refl); outputs = λ h. h; inputs = λ h. h }
given-keeps s (Some bytes) None = record { elsewhere = λ n. (refl, refl); fixed = λ g. (refl, refl); outputs = λ h. h; inputs = λ h. h }
given-keeps s f (Some r) =
    let k : KeepsAssignments (dictionary_of s) (answered (is_preop s.al.state) (dictionary_of s) r (reply_counter s.replies)).dictionary = assignments_kept (is_preop s.al.state) (dictionary_of s) r (reply_counter s.replies) in
    record {
      elsewhere = λ n.
          let same = ap (λ (b : Bool). (answered b (dictionary_of s) r (reply_counter s.replies)).dictionary) (no-preop s.al.state n) in
          let e = preop_alone.assignments (dictionary_of s) r (reply_counter s.replies) in
          (ap (λ (d : Dictionary). d.outs) same ∙ ap (λ (d : Dictionary). d.outs) e, ap (λ (d : Dictionary). d.ins) same ∙ ap (λ (d : Dictionary). d.ins) e);
      fixed = λ g. let l = fixed_stays (is_preop s.al.state) (dictionary_of s) r (reply_counter s.replies) g in (l.outs, l.ins);
      outputs = k.outputs;
      inputs = k.inputs;
    }

either-keeps : (b : Bool) (s t : SlaveState) → KeepsAssigned s t → KeepsAssigned s (if b then t else s)
either-keeps true s t k = k
either-keeps false s t k = record { elsewhere = λ n. (refl, refl); fixed = λ g. (refl, refl); outputs = λ h. h; inputs = λ h. h }

message-keeps : (s : SlaveState) → KeepsAssigned s (message_served s)
unfolding message_served
message-keeps s = either-keeps (is_served s) s _ (given-keeps s (refusal_in s) (request_in s))

-- the read of the SII touches no assignment
read-same : (s : SlaveState) → ((read_finished s).kind ≡ s.kind) × ((read_finished s).outs ≡ s.outs) × ((read_finished s).ins ≡ s.ins)
unfolding read_finished
read-same s = (refl, refl, refl)

pub assignments_served : ServesKeepAssignments
unfolding served
assignments_served s =
    let d : SlaveState = request_decided s in
    let r : SlaveState = read_finished d in
    let k : KeepsAssigned r (message_served r) = message-keeps r in
    let kind : r.kind ≡ s.kind = (read-same d).0 ∙ (decided-same s).kind in
    let outs : r.outs ≡ s.outs = (read-same d).1 ∙ (decided-same s).outs in
    let ins : r.ins ≡ s.ins = (read-same d).2 ∙ (decided-same s).ins in
    record {
      elsewhere = λ n. ((k.elsewhere n).0 ∙ outs, (k.elsewhere n).1 ∙ ins);
      fixed = λ g. let own = ap (λ (x : SlaveKind). is_fixed x.hardware) kind ∙ g in ((k.fixed own).0 ∙ outs, (k.fixed own).1 ∙ ins);
      outputs = λ h. subst (λ (x : SlaveKind). IsAssignment x.outputs (message_served r).outs) kind (k.outputs (subst (λ (x : SlaveKind). IsAssignment x.outputs r.outs) (sym kind) (subst (IsAssignment s.kind.outputs) (sym outs) h)));
      inputs = λ h. subst (λ (x : SlaveKind). IsAssignment x.inputs (message_served r).ins) kind (k.inputs (subst (λ (x : SlaveKind). IsAssignment x.inputs r.ins) (sym kind) (subst (IsAssignment s.kind.inputs) (sym ins) h)));
    }
