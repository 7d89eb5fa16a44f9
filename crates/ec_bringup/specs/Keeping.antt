-- A slave keeps what is known of it during a start-up, whatever its firmware and its application do. It keeps it at a fault or a
-- reset, which leave a slave that is known to have had one, and at each frame of the start-up that passes it.
use Rattle.std.specs.Prelude.{ℕ, ◌+◌, ◌<◌, ◌≡◌, ◌≢◌, ◌⊎◌, ◌≤◌, List, length, Bool, true, unwrap_or}
use Rattle.ec_device.specs.Types.{SlaveKind}
use Rattle.ec_frame.specs.declared.command.Command.TheVariants.{Fprd, Fpwr}
use Rattle.ec_frame.specs.Datagram.{Datagram, IsDatagram}
use Rattle.ec_al.specs.declared.state.State.TheVariants.{Op}
use Rattle.ec_slave.specs.State.{SlaveState, power_on, station_of}
use Rattle.ec_slave.specs.Application.{input_put, output_got, output_taken}
use Rattle.ec_slave.specs.Serving.{served}
use Rattle.ec_slave.specs.Faulting.{faulted}
use Rattle.ec_slave.specs.Meeting.{meets, slave_met, datagram_met}
use Rattle.ec_link.specs.declared.settings.SlavePlan.{SlavePlan}
use Rattle.ec_start.specs.declared.action.Action.{Action}
use Rattle.ec_start.specs.declared.action.Feed.{Feed}
use Rattle.ec_start.specs.Actions.{station, at}
use Rattle.ec_bringup.specs.Stages.{Stage, Up, Config, Fits, IsNamed, IsUp}
use Rattle.ec_bringup.specs.Standing.{Stands, IsGone}
use Rattle.ec_bringup.specs.Frames.{Arrives, Met}
use Rattle.ec_bringup.specs.Fed.{planned, IsFeedOf, IsFeedAt, IsLeft}

-- it stands where it stood after a firmware step and after a byte of its application; a fault or a reset is noted
pub record StaysStanding (kind : SlaveKind) (i : ℕ) (st : Stage) (trouble : Bool) (s : SlaveState) : Type 0 where
  pub serves : Stands kind i st trouble (served s)
  pub puts : (offset byte : ℕ) → Stands kind i st trouble (unwrap_or (input_put s offset byte) s)
  pub gets : (offset : ℕ) → Stands kind i st trouble (output_taken s (output_got s offset))
  pub faults : s.al.state ≡ Op → Stands kind i st true (faulted s)
  pub resets : Stands kind i st true (power_on s.kind s.identity)

abbrev pub StandingLaw : Type 0
StandingLaw = (kind : SlaveKind) (i : ℕ) (st : Stage) (trouble : Bool) (s : SlaveState) → Stands kind i st trouble s → StaysStanding kind i st trouble s

-- A slave that was reset since it got its station address has lost it.
abbrev pub GoneLaw : Type 0
GoneLaw = (st : Stage) (s : SlaveState) → IsGone st s → station_of s ≡ 0

-- A slave that has, or had, its station address lets each datagram to another station pass as it is, and stays as it is. If it
-- was reset, all of the start-up's frames are then for others.
abbrev pub ForOthersLaw : Type 0
ForOthersLaw =
    (kind : SlaveKind) (i t ado : ℕ) (st : Stage) (trouble : Bool) (s : SlaveState) (d : Datagram) → i < 64 → t < 64 → t ≢ i → IsUp st → Stands kind i st trouble s
    → IsDatagram d → (d.command ≡ Fprd) ⊎ (d.command ≡ Fpwr) → d.address ≡ at (station t) ado
    → meets s d ≡ record { slave = s; datagram = d }

-- A frame of the start-up passes slave i. If its action isn't for this slave, or may be tried again, the slave stands where it
-- stood. If it may be done, as far as the frame shows so far, the slave stands where the action leads.
abbrev pub FrameLaw : Type 0
FrameLaw =
    (kind : SlaveKind) (i : ℕ) (st : Stage) (trouble : Bool) (a : Action) (number : ℕ) (d : Datagram) (s : SlaveState) → i < 64 → IsDatagram d → Fits i st a → IsNamed kind i a → Arrives a number i d → Stands kind i st trouble s
    → Met kind i st trouble a (datagram_met s d) (slave_met s d) × Arrives a number (i + 1) (datagram_met s d)

-- A frame that feeds a part passes slave i, which has all that the plan sets in it: it is left as it was, but that its outputs are
-- awaited no more, and the outputs of the slaves behind it are still zeros.
abbrev pub FeedLaw : Type 0
FeedLaw =
    (ps : List SlavePlan) (f : Feed) (number i : ℕ) (c : Config) (trouble : Bool) (d : Datagram) (s : SlaveState) → IsFeedOf ps f → i < length ps → length ps ≤ 64 → IsDatagram d
    → c.managers ≡ (planned ps i).managers → c.fmmus ≡ (planned ps i).fmmus → IsFeedAt ps f number i d → Stands (planned ps i).kind i (Up c) trouble s
    → IsLeft s (slave_met s d) × IsFeedAt ps f number (i + 1) (datagram_met s d)
