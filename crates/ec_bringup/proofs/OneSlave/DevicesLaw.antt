-- Devices stay devices, one and a ring of them.
use Rattle.ec_bringup.proofs.Words.{ℕ, zero, suc, ◌<◌, ◌≡◌, false, refl, sym, ◌∙◌, ap, subst, inl, inr, arith, List, [], ◌∷◌, length, slice_index, unwrap_or, length-set, cases_lt, set_past, SlaveKind, Datagram, State, Op, faults, by_bytes, SlaveState, power_on, slave_met, passes, input_put, inputs_put, output_got, output_taken, outputs_taken, served, faulted, passes_ring, SlavePlan, Before, IsOfKind, Stands, plan_at, slave_of, IsGenuine, SwitchedOnLaw, DevicesLaw, RingLaw}
use Rattle.ec_al.specs.Al as al
use Rattle.ec_bringup.proofs.StartUp.Keeps.{set_one}
use Rattle.ec_bringup.proofs.OneSlave.AgainLaw.{Same, true-on, met-same, served-same, put-same, got-by, fault-same, on-true, reset-true, device-of}
use Rattle.ec_bringup.proofs.OneSlave.Fault.{fault-stands, put-stands, got-stands}
use Rattle.ec_bringup.proofs.OneSlave.SlaveLaw.{slave-law}
use Rattle.ec_bringup.proofs.OneSlave.MailboxServed.{stands-served}
use Rattle.ec_bringup.proofs.OneSlave.Reset.{power_on_is}

pub switched_on : SwitchedOnLaw
switched_on kind identity h = record { slave = power_on_is kind identity; own = on-true kind kind identity h }

-- nothing is known of it but its kind
stands : (kind : SlaveKind) (s : SlaveState) → IsOfKind kind s → Stands kind 0 Before false s
stands kind s h = record { slave = h; at = inl tt }

on : (kind : SlaveKind) (s t : SlaveState) → IsGenuine kind s → IsOfKind kind t → Same s t → IsGenuine kind t
on kind s t h k e = record { slave = k; own = true-on kind s t e h.own }

met : (kind : SlaveKind) (s : SlaveState) (d : Datagram) → IsGenuine kind s → IsGenuine kind (slave_met s d)
met kind s d h = on kind s (slave_met s d) h (slave-law kind s d h.slave) (met-same s d)

passed : (kind : SlaveKind) (ds : List Datagram) (s : SlaveState) → IsGenuine kind s → IsGenuine kind (passes s ds).slave
passed kind [] s h = h
passed kind (d ∷ ds) s h = passed kind ds (slave_met s d) (met kind s d h)

put : (kind : SlaveKind) (s : SlaveState) (place byte : ℕ) → IsGenuine kind s → IsGenuine kind (unwrap_or (input_put s place byte) s)
put kind s place byte h = on kind s (unwrap_or (input_put s place byte) s) h (put-stands kind 0 Before false s place byte (stands kind s h.slave)).slave (put-same s place byte)

put-all : (kind : SlaveKind) (s : SlaveState) (inputs : List ℕ) (count : ℕ) → IsGenuine kind s → IsGenuine kind (inputs_put s inputs count)
put-all kind s inputs zero h = subst (IsGenuine kind) (sym (by_bytes s inputs).none_put) h
put-all kind s inputs (suc n) h = subst (IsGenuine kind) (sym ((by_bytes s inputs).more_put n)) (put kind (inputs_put s inputs n) n (slice_index inputs n) (put-all kind s inputs n h))

got : (kind : SlaveKind) (s : SlaveState) (place : ℕ) → IsGenuine kind s → IsGenuine kind (output_taken s (output_got s place))
got kind s place h = on kind s (output_taken s (output_got s place)) h (got-stands kind 0 Before false s place (stands kind s h.slave)).slave (got-by s (output_got s place))

got-all : (kind : SlaveKind) (s : SlaveState) (count : ℕ) → IsGenuine kind s → IsGenuine kind (outputs_taken s count)
got-all kind s zero h = subst (IsGenuine kind) (sym (by_bytes s []).none_taken) h
got-all kind s (suc n) h = subst (IsGenuine kind) (sym ((by_bytes s []).more_taken n)) (got kind (outputs_taken s n) n (got-all kind s n h))

fault-kind : (kind : SlaveKind) (s : SlaveState) → IsOfKind kind s → IsOfKind kind (faulted s)
fault-kind kind s h = by s.al.state refl
  where
    none : al.is_operational s.al.state ≡ false → IsOfKind kind (faulted s)
    none e = subst (IsOfKind kind) (sym ((faults s).elsewhere e)) h

    by : (a : State) → s.al.state ≡ a → IsOfKind kind (faulted s)
    by Op e = (fault-stands kind 0 Before false s e (stands kind s h)).slave
    by _ e = none (ap al.is_operational e)

reset : (kind : SlaveKind) (s : SlaveState) → IsGenuine kind s → IsGenuine kind (power_on s.kind s.identity)
reset kind s h = record {
  slave = subst (λ (k : SlaveKind). IsOfKind k (power_on s.kind s.identity)) h.slave.kind_is (power_on_is s.kind s.identity);
  own = reset-true kind s h.own;
}

pub stays : DevicesLaw
stays kind s h = record {
  meets = λ d. met kind s d h;
  passes = λ ds. passed kind ds s h;
  serves = on kind s (served s) h (stands-served kind 0 Before false s (stands kind s h.slave)).slave (served-same s);
  puts = λ place byte. put kind s place byte h;
  puts_all = λ inputs count. put-all kind s inputs count h;
  gets = λ place. got kind s place h;
  gets_all = λ count. got-all kind s count h;
  faults = on kind s (faulted s) h (fault-kind kind s h.slave) (fault-same s);
  resets = reset kind s h;
}

-- ---- a ring

-- as `AreGenuine` has it, of the lists alone
Each : List SlavePlan → List SlaveState → Type 0
Each ps ss = (i : ℕ) → i < length ps → IsGenuine (plan_at ps i).kind (slave_of ss i)

count-passed : (ss : List SlaveState) (ds : List Datagram) → length (passes_ring ss ds).slaves ≡ length ss
count-passed [] ds = refl
count-passed (s ∷ ss) ds = ap (λ (n : ℕ). suc n) (count-passed ss (passes s ds).datagrams)

each-passed : (ps : List SlavePlan) (ss : List SlaveState) (ds : List Datagram) → length ss ≡ length ps → Each ps ss → Each ps (passes_ring ss ds).slaves
unfolding Each
each-passed [] ss ds e h i l = absurd (omega (arith, l))
each-passed (p ∷ ps) [] ds e h i l = absurd (omega (arith, e))
each-passed (p ∷ ps) (s ∷ ss) ds e h zero l = passed p.kind ds s (h 0 l)
each-passed (p ∷ ps) (s ∷ ss) ds e h (suc i) l =
    each-passed ps ss (passes s ds).datagrams (omega (arith, e)) (λ k m. h (suc k) (omega (arith, m))) i (omega (arith, l))

pub stay : RingLaw
unfolding Each
stay ps ss h = record {
  passed = λ ds. record { count = count-passed ss ds ∙ h.count; few = h.few; each = each-passed ps ss ds h.count h.each };
  one = λ k s g. record {
    count = length-set ss k s ∙ h.count;
    few = h.few;
    each = λ i b. elim (cases_lt k (length ps)) [
      | inl l ↦ set_one (λ n t. IsGenuine (plan_at ps n).kind t) ss k s i (let e = h.count in omega (arith, e, l)) (λ e. g l) (λ ne. h.each i b)
      | inr past ↦ subst (λ (xs : List SlaveState). IsGenuine (plan_at ps i).kind (slave_of xs i)) (sym (set_past ss k s (let e = h.count in omega (arith, e, past)))) (h.each i b)
    ];
  };
  devices = record { count = h.count; few = h.few; each = λ i l. device-of (plan_at ps i).kind (slave_of ss i) (h.each i l).slave (h.each i l).own };
}
