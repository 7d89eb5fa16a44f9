-- Without `hardware` a start-up sends what it sent before.
use Rattle.std.proofs.Common.{◌≡◌, ℕ, zero, suc, ◌+◌, List, [], ◌∷◌, ◌++◌, All, Option, None, Some, is_some, Bool, false, refl, ap, ◌∙◌, arith}
use Rattle.ec_device.specs.declared.slave_type.Mailbox.{Mailbox}
use Rattle.ec_device.specs.declared.hardware.Hardware.{Hardware}
use Rattle.ec_device.specs.Hardware.{manager_number, other_name, takes_any_revision}
use Rattle.ec_al.specs.declared.state.State.TheVariants.{PreOp, SafeOp, Op}
use Rattle.ec_link.specs.declared.settings.SlavePlan.{SlavePlan}
use Rattle.ec_start.specs.declared.action.Action.{Action}
use Rattle.ec_start.specs.declared.action.SdoRequest.{SdoRequest}
use Rattle.ec_start.specs.declared.action.Action.TheVariants.{CountSlaves, SendRequest, AwaitReply}
use Rattle.ec_start.specs.Scripts.{is_hardware, named, settled_by, settled, identified, mailbox_set, raised, exchanged, talked, mapped, each_slave, cleared, opened, closed, phases, script}
use Rattle.ec_start.specs.Running.{type_of}
use Rattle.ec_start.specs.PlainScripts.{IsPlain, plain_requests, plain_exchanged, plain_talked, plain_phases, plain_script, PlainTablesSendTheSame}
use Rattle.ec_start.proofs.Feedings.{plain_feeds}

abbrev ArePlain : List SlavePlan → Type 0
ArePlain ps = All IsPlain ps

first_plain : (p : SlavePlan) (ps : List SlavePlan) → ArePlain (p ∷ ps) → IsPlain p
first_plain p ps h = h 0 p (omega arith)

rest_plain : (p : SlavePlan) (ps : List SlavePlan) → ArePlain (p ∷ ps) → ArePlain ps
rest_plain p ps h = λ k d l. h (suc k) d (omega (arith, l))

not_hardware : (ps : List SlavePlan) → ArePlain ps → is_hardware ps ≡ false
not_hardware [] h = refl
not_hardware (p ∷ ps) h = ap is_some (first_plain p ps h).hardware

none_settled : (i : ℕ) (ps : List SlavePlan) → ArePlain ps → each_slave settled i ps ≡ []
none_settled i [] h = refl
none_settled i (p ∷ ps) h =
    ap (λ (o : Option Hardware). settled_by i o ++ each_slave settled (i + 1) ps) (first_plain p ps h).hardware ∙ none_settled (i + 1) ps (rest_plain p ps h)

-- requests and replies
exchanged_plain : (i : ℕ) (b : Mailbox) (before : ℕ) (rs : List SdoRequest) → exchanged false i b before rs ≡ plain_exchanged i b before rs
exchanged_plain i b before [] = refl
exchanged_plain i b before (r ∷ rs) = ap (λ (xs : List Action). SendRequest i before b r ∷ AwaitReply i b r ∷ xs) (exchanged_plain i b (before + 1) rs)

talked_plain : (i : ℕ) (p : SlavePlan) (o : Option Mailbox) → IsPlain p → talked i p o ≡ plain_talked i p o
talked_plain i p None h = refl
talked_plain i p (Some b) h = rw (h.hardware, h.parameters) (exchanged_plain i b 0 (plain_requests p))

abbrev talks : ℕ → List SlavePlan → List Action
talks i ps = each_slave (λ i p. talked i p p.kind.mailbox) i ps

abbrev plain_talks : ℕ → List SlavePlan → List Action
plain_talks i ps = each_slave (λ i p. plain_talked i p p.kind.mailbox) i ps

same_talks : (i : ℕ) (ps : List SlavePlan) → ArePlain ps → talks i ps ≡ plain_talks i ps
same_talks i [] h = refl
same_talks i (p ∷ ps) h =
    ap (λ (xs : List Action). xs ++ talks (i + 1) ps) (talked_plain i p p.kind.mailbox (first_plain p ps h))
    ∙ ap (λ (xs : List Action). plain_talked i p p.kind.mailbox ++ xs) (same_talks (i + 1) ps (rest_plain p ps h))

-- what follows the identities
abbrev behind : List Action → List SlavePlan → List Action
behind xs ps =
    each_slave (λ i p. mailbox_set i p p.kind.mailbox) 0 ps
    ++ (each_slave (raised PreOp) 0 ps
    ++ (xs
    ++ (each_slave mapped 0 ps
    ++ (each_slave (raised SafeOp) 0 ps
    ++ each_slave (raised Op) 0 ps))))

same_phases : (ps : List SlavePlan) → ArePlain ps → phases ps ≡ plain_phases ps
same_phases ps h =
    ap (λ (b : Bool). opened b ++ (each_slave named 0 ps ++ (each_slave settled 0 ps ++ (each_slave identified 0 ps ++ (closed b ++ behind (talks 0 ps) ps))))) (not_hardware ps h)
    ∙ (ap (λ (xs : List Action). cleared ++ (each_slave named 0 ps ++ (xs ++ (each_slave identified 0 ps ++ behind (talks 0 ps) ps)))) (none_settled 0 ps h)
    ∙ ap (λ (xs : List Action). cleared ++ (each_slave named 0 ps ++ (each_slave identified 0 ps ++ behind xs ps))) (same_talks 0 ps h))

same_script : (ps : List SlavePlan) → ArePlain ps → script ps ≡ plain_script ps
same_script [] h = refl
same_script (p ∷ ps) h = ap (λ (xs : List Action). CountSlaves ∷ xs) (same_phases (p ∷ ps) h)

exact : (ps : List SlavePlan) (i : ℕ) → ArePlain ps → (type_of ps i).any_revision ≡ false
exact [] i h = refl
exact (p ∷ ps) zero h = ap takes_any_revision (first_plain p ps h).hardware
exact (p ∷ ps) (suc i) h = exact ps i (rest_plain p ps h)

pub plain_law : PlainTablesSendTheSame
plain_law = record {
  sends = λ p h. record { actions = same_script p.slaves h; no_feeds = plain_feeds p (not_hardware p.slaves h); revisions = λ i. exact p.slaves i h };
  names = λ kind e. record {
    number = λ n m. ap (λ (o : Option Hardware). manager_number o n) e;
    start = λ n m. ap (λ (o : Option Hardware). other_name o m.start) e;
    address = λ a. ap (λ (o : Option Hardware). other_name o a) e;
  };
}
