-- When a slave refines a plain slave: in OP with what the start-up wrote, fallen back to SAFEOP by a fault, or as the power
-- comes on (ETG.1000.6, "EtherCAT state machine").
use Rattle.std.specs.Prelude.{ℕ, ◌+◌, ◌≡◌, ◌≢◌, map, true, false, None}
use Rattle.ec_bits.specs.Bits.{bytes_of_bits}
use Rattle.ec_al.specs.declared.state.State.TheVariants.{SafeOp, Op}
use Rattle.ec_slave.specs.State.{SlaveState, manager_at, station_of, fmmus, power_on}
use Rattle.ec_coe.specs.Objects.{assigned}
use Rattle.ec_link.specs.declared.settings.SlavePlan.{SlavePlan}
use Rattle.ec_world.specs.Plain.{PlainSlave, Health, Working, Faulted, Reset}
use Rattle.ec_world.specs.Lengths.{IsOfLength}

-- the slave has what a start-up wrote: its station address, its FMMUs, the settings of its sync managers, its objects
pub record Holds (i : ℕ) (p : SlavePlan) (s : SlaveState) : Type 0 where
  pub kind : s.kind ≡ p.kind
  pub station : station_of s ≡ 0x1001 + i
  pub fmmus : fmmus s ≡ p.fmmus
  pub managers : map (λ m. m.settings) s.managers ≡ p.managers
  pub outputs : assigned s.outs ≡ p.outputs
  pub inputs : assigned s.ins ≡ p.inputs

-- no AL request, no SII read and no message for it waits; one that it sent may lie in sync manager 1
pub record IsQuiet (s : SlaveState) : Type 0 where
  pub no_request : s.al.requested ≡ false
  pub no_read : s.sii.busy ≡ false
  pub no_message : (n : ℕ) → n ≢ 1 → (manager_at s.managers n).mail ≡ None

-- sync managers 2 and 3 hold the outputs and the inputs, each as long as its bits in whole bytes
pub record HoldsData (p : SlavePlan) (s : SlaveState) (q : PlainSlave) : Type 0 where
  pub outputs : (manager_at s.managers 2).buffer ≡ q.outputs
  pub inputs : (manager_at s.managers 3).buffer ≡ q.inputs
  pub out_bytes : IsOfLength (bytes_of_bits p.share.outs) q.outputs
  pub in_bytes : IsOfLength (bytes_of_bits p.share.ins) q.inputs

-- in OP without error
pub record IsWorking (i : ℕ) (p : SlavePlan) (s : SlaveState) (q : PlainSlave) : Type 0 where
  pub holds : Holds i p s
  pub quiet : IsQuiet s
  pub process : HoldsData p s q
  pub state : s.al.state ≡ Op
  pub no_error : s.al.error ≡ false
  pub out_unlocked : (manager_at s.managers 2).locked ≡ false
  pub out_free : (manager_at s.managers 2).awaited ≡ false
  pub in_unlocked : (manager_at s.managers 3).locked ≡ false

-- in SAFEOP with an error, its outputs locked
pub record IsFaulted (i : ℕ) (p : SlavePlan) (s : SlaveState) (q : PlainSlave) : Type 0 where
  pub holds : Holds i p s
  pub quiet : IsQuiet s
  pub process : HoldsData p s q
  pub state : s.al.state ≡ SafeOp
  pub error : s.al.error ≡ true
  pub out_locked : (manager_at s.managers 2).locked ≡ true
  pub in_unlocked : (manager_at s.managers 3).locked ≡ false

-- as it is switched on
pub record IsReset (p : SlavePlan) (s : SlaveState) : Type 0 where
  pub kind : s.kind ≡ p.kind
  pub as_on : s ≡ power_on s.kind s.identity

abbrev pub IsAs : ℕ → SlavePlan → SlaveState → PlainSlave → Health → Type 0
IsAs i p s q Working = IsWorking i p s q
IsAs i p s q Faulted = IsFaulted i p s q
IsAs i p s q Reset = IsReset p s

-- slave i refines a plain slave
abbrev pub SlaveRefines : ℕ → SlavePlan → SlaveState → PlainSlave → Type 0
SlaveRefines i p s q = IsAs i p s q q.health
