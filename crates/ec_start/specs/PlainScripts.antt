-- Without `hardware` a start-up sends what it sent before there was `hardware`: these are its actions, written out.
use Rattle.std.specs.Prelude.{ℕ, ◌+◌, ◌≡◌, List, [], ◌∷◌, ◌++◌, All, false, Option, None, Some}
use Rattle.std.specs.List.{flat_map}
use Rattle.ec_device.specs.declared.slave_type.Mailbox.{Mailbox}
use Rattle.ec_regs.specs.declared.manager.SyncManagerSettings.{SyncManagerSettings}
use Rattle.ec_device.specs.Types.{SlaveKind}
use Rattle.ec_device.specs.Hardware.{other_name}
use Rattle.ec_device.specs.Objects.{pdo_at}
use Rattle.ec_coe.specs.Objects.{output_assignment, input_assignment, has_some}
use Rattle.ec_al.specs.declared.state.State.TheVariants.{PreOp, SafeOp, Op}
use Rattle.ec_link.specs.declared.settings.SlavePlan.{SlavePlan}
use Rattle.ec_link.specs.Plan.{PlanState}
use Rattle.ec_start.specs.declared.action.Action.{Action}
use Rattle.ec_start.specs.declared.action.SdoRequest.{SdoRequest}
use Rattle.ec_start.specs.declared.action.Action.TheVariants.{CountSlaves, SendRequest, AwaitReply}
use Rattle.ec_start.specs.Scripts.{pdo_read, assignment_written, named, identified, register_of, mailbox_set, raised, mapped, each_slave, cleared, script}
use Rattle.ec_start.specs.Running.{type_of}
use Rattle.ec_start.specs.Feeding.{feeds_of}

-- mappings are read back, then assignments are written
abbrev pub plain_requests : SlavePlan → List SdoRequest
plain_requests p =
    flat_map (λ index. pdo_read (pdo_at p.kind.outputs index)) p.outputs
    ++ (flat_map (λ index. pdo_read (pdo_at p.kind.inputs index)) p.inputs
    ++ (assignment_written output_assignment p.outputs (has_some p.kind.outputs)
    ++ assignment_written input_assignment p.inputs (has_some p.kind.inputs)))

-- a request, and the wait for its reply
abbrev pub plain_exchanged : ℕ → Mailbox → ℕ → List SdoRequest → List Action
plain_exchanged i b before [] = []
plain_exchanged i b before (r ∷ rs) = SendRequest i before b r ∷ AwaitReply i b r ∷ plain_exchanged i b (before + 1) rs

abbrev pub plain_talked : ℕ → SlavePlan → Option Mailbox → List Action
plain_talked i p None = []
plain_talked i p (Some b) = plain_exchanged i b 0 (plain_requests p)

abbrev pub plain_phases : List SlavePlan → List Action
plain_phases ps =
    cleared
    ++ (each_slave named 0 ps
    ++ (each_slave identified 0 ps
    ++ (each_slave (λ i p. mailbox_set i p p.kind.mailbox) 0 ps
    ++ (each_slave (raised PreOp) 0 ps
    ++ (each_slave (λ i p. plain_talked i p p.kind.mailbox) 0 ps
    ++ (each_slave mapped 0 ps
    ++ (each_slave (raised SafeOp) 0 ps
    ++ each_slave (raised Op) 0 ps)))))))

abbrev pub plain_script : List SlavePlan → List Action
plain_script [] = CountSlaves ∷ []
plain_script (p ∷ ps) = CountSlaves ∷ plain_phases (p ∷ ps)

-- A slave of a table without `hardware`: its type says nothing of real devices, and it has no parameters.
pub record IsPlain (p : SlavePlan) : Type 0 where
  pub hardware : p.kind.hardware ≡ None
  pub parameters : p.kind.init ≡ []

pub record SendsAsBefore (p : PlanState) : Type 0 where
  pub actions : script p.slaves ≡ plain_script p.slaves
  pub no_feeds : feeds_of p ≡ []
  pub revisions : (i : ℕ) → (type_of p.slaves i).any_revision ≡ false

-- the numbers and the addresses of what it sets are the plan's
pub record HasPlanNames (kind : SlaveKind) : Type 0 where
  pub number : (n : ℕ) (m : SyncManagerSettings) → (register_of kind n m).number ≡ n
  pub start : (n : ℕ) (m : SyncManagerSettings) → (register_of kind n m).start ≡ m.start
  pub address : (a : ℕ) → other_name kind.hardware a ≡ a

pub record PlainTablesSendTheSame : Type 0 where
  pub sends : (p : PlanState) → All IsPlain p.slaves → SendsAsBefore p
  pub names : (kind : SlaveKind) → kind.hardware ≡ None → HasPlanNames kind
