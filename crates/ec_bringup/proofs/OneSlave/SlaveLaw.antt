-- What befalls a slave keeps what is known of it.
use Rattle.ec_bringup.proofs.Words.{true, refl, sym, subst, ◌∙◌, SlaveKind, power_on, slave_met, Up, Stands, inside_kept, ForOthersLaw, GoneLaw, SlaveLaw, StandingLaw, is_missing, ap}
use Rattle.ec_bringup.proofs.OneSlave.Fault.{fault-stands, put-stands, got-stands}
use Rattle.ec_bringup.proofs.OneSlave.MailboxServed.{stands-served}
use Rattle.ec_bringup.proofs.OneFrame.OtherSlaves.{station-zero, one-passes}
use Rattle.ec_bringup.proofs.OneSlave.Reset.{reset_stands}
use Rattle.ec_bringup.proofs.OneSlave.Alike.{kind-kept}

pub stays-standing : StandingLaw
stays-standing kind i st trouble s h = record {
  serves = stands-served kind i st trouble s h;
  puts = λ place byte. put-stands kind i st trouble s place byte h;
  gets = λ place. got-stands kind i st trouble s place h;
  faults = λ op. fault-stands kind i st trouble s op h;
  resets = subst (λ (k : SlaveKind). Stands kind i st true (power_on k s.identity)) (sym h.slave.kind_is) (reset_stands kind s.identity i st);
}

pub gone-is-silent : GoneLaw
gone-is-silent (Up c) s h = station-zero s h
gone-is-silent _ s h = absurd h

pub for-others : ForOthersLaw
for-others kind i t ado st trouble s d li lt ne up h good c a = one-passes kind i t st trouble s d d ado li lt ne up h good c a (record { command = refl; address = refl })

-- ---- whatever a datagram does, a slave stays one of its type, and its locks stay

pub slave-law : SlaveLaw
slave-law kind s d h =
    let k = inside_kept s d in
    kind-kept kind s (slave_met s d) k.kind k.room k.count k.outs k.ins k.values (λ e n l. k.locked n ∙ h.unlocked_in_init (sym k.state ∙ e) n l)
    (λ a e. k.missing a (ap (λ (x : SlaveKind). is_missing x.hardware a) h.kind_is ∙ e)) h
