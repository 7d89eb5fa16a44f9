-- What holds of every slave since the power-on, whatever datagrams, firmware and application do.
use Rattle.std.specs.Prelude.{ℕ, ◌≡◌, ◌<◌, ◌≤◌, ◌^◌, List, length, slice_index}
use Rattle.ec_sync.specs.Sound.{IsManager}
use Rattle.ec_device.specs.declared.slave_type.Identity.{Identity}
use Rattle.ec_regs.specs.Memory.{ram_end}
use Rattle.ec_device.specs.Types.{SlaveKind}
use Rattle.ec_frame.specs.Datagram.{Datagram}
use Rattle.ec_sii.specs.SiiImage.{image_of}
use Rattle.ec_slave.specs.State.{SlaveState, manager_at, power_on}
use Rattle.ec_slave.specs.Meeting.{slave_met}

pub record IsSlave (s : SlaveState) : Type 0 where
  -- the memory has all its addresses
  pub memory : length s.memory ≡ ram_end
  -- there are four managers, and their values are as long as their settings say
  pub managers : length s.managers ≡ 4
  pub each_manager : (n : ℕ) → IsManager (manager_at s.managers n)
  -- the SII shows the slave's identity, its type's mailbox and the categories of a full slave, and a word address has 32 bits
  pub image : s.sii.image ≡ image_of s.kind s.identity
  pub word_address : s.sii.address < 2 ^ 32
  -- as many slots as the type has PDOs, of which no more count than there are
  pub out_slots : length s.outs.slots ≡ length s.kind.outputs
  pub in_slots : length s.ins.slots ≡ length s.kind.inputs
  pub out_count : s.outs.count ≤ length s.outs.slots
  pub in_count : s.ins.count ≤ length s.ins.slots
  -- a value for each download of the type
  pub parameters : length s.values ≡ length s.kind.init

-- each number has eight bits
abbrev pub AreBytes : List ℕ → Type 0
AreBytes bytes = (k : ℕ) → slice_index bytes k < 256

-- it holds of a slave that was just switched on, whatever its type
abbrev pub PowerOnIsSlave : Type 0
PowerOnIsSlave = (kind : SlaveKind) (identity : Identity) → IsSlave (power_on kind identity)

-- and of one that a datagram met
abbrev pub MetIsSlave : Type 0
MetIsSlave = (s : SlaveState) (d : Datagram) → AreBytes d.data_bytes → IsSlave s → IsSlave (slave_met s d)
