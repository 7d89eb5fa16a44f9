-- The assignments of a slave as the power comes on, and whatever happens to it then.
use Rattle.std.proofs.Common.{ℕ, zero, suc, ◌+◌, ◌<◌, ◌≡◌, ◌≢◌, ◌==◌, Bool, true, false, Option, Some, None, refl, sym, ◌∙◌, ap, ap₂, subst, inl, inr, arith, if◌then◌else◌, List, [], ◌∷◌, length, get_or, slice_index, is_some, option_map, AllPairs, sum_by}
use Rattle.std.proofs.lemmas.Bool.{cases_Bool, ne_eqb, eq-eqb}
use Rattle.std.proofs.lemmas.List.{take_all, length-map}
use Rattle.std.proofs.lemmas.List.Sums.{sum_by-cons}
use Rattle.ec_bits.proofs.AnyLaws.{if_true, if_false}
use Rattle.ec_device.specs.declared.slave_type.Pdo.{Pdo}
use Rattle.ec_device.specs.Types.{SlaveKind, pdo_bits, pdos_bits}
use Rattle.ec_device.specs.Objects.{pdo_at, bits_at, bits_assigned}
use Rattle.ec_frame.specs.declared.command.Command.{Command}
use Rattle.ec_frame.specs.declared.command.Command.TheVariants.{Nop, Aprd, Apwr, Aprw, Fprd, Fpwr, Fprw, Brd, Bwr, Brw, Lrd, Lwr, Lrw, Armw, Frmw}
use Rattle.ec_frame.specs.Datagram.{Datagram}
use Rattle.ec_al.specs.Al as al
use Rattle.ec_sync.specs.Buffer.{Got}
use Rattle.ec_sync.specs.SyncManager.{SyncManager, app_put}
use Rattle.ec_coe.specs.Objects.{indices, all_assigned, assigned}
use Rattle.ec_coe.specs.Transfers.{contains, distinct}
use Rattle.ec_coe.specs.Laws.{IsAssignment}
use Rattle.ec_slave.specs.State.{SlaveState, manager_at, power_on}
use Rattle.ec_slave.specs.Physical.{physical_met, physical_after}
use Rattle.ec_slave.specs.Logical.{meets_logically}
use Rattle.ec_slave.specs.Meeting.{meets, meets_by, meets_physically, slave_met}
use Rattle.ec_slave.specs.Application.{is_running, with_manager, output_got, output_taken}
use Rattle.ec_slave.specs.Faulting.{faulted}
use Rattle.ec_slave.specs.Serving.{served}
use Rattle.ec_slave.specs.FirmwareLaws.{IsAssigned, FitTogether, PowerOnAssigns, AssignmentsStay}
use Rattle.ec_slave.proofs.FirmwareRuns.ServesKeepAssignments.{assignments_served}
use Rattle.ec_slave.proofs.FirmwareRuns.RestsQuietly.{settings_kept}

-- ---- as the power comes on

abbrev Apart : List Pdo → Type 0
Apart ps = AllPairs (λ p q. p.index ≢ q.index) ps

apart-behind : (p : Pdo) (ps : List Pdo) → Apart (p ∷ ps) → Apart ps
apart-behind p ps h = λ i j d a b. h (suc i) (suc j) d (omega arith) (omega arith)

-- no PDO of a list has the index
abbrev Lacks : List Pdo → ℕ → Type 0
Lacks ps x = (k : ℕ) (d : Pdo) → k < length ps → x ≢ (get_or ps k d).index

lacks-first : (p : Pdo) (ps : List Pdo) → Apart (p ∷ ps) → Lacks ps p.index
lacks-first p ps h = λ k d l. h 0 (suc k) d (omega arith) (omega arith)

lacks-behind : (p : Pdo) (ps : List Pdo) (x : ℕ) → Lacks (p ∷ ps) x → Lacks ps x
lacks-behind p ps x h = λ k d l. h (suc k) d (omega arith)

not-listed : (ps : List Pdo) (x : ℕ) → Lacks ps x → contains (indices ps) x ≡ false
not-listed [] x h = refl
not-listed (p ∷ ps) x h =
    let off : (p.index == x) ≡ false = ne_eqb p.index x (λ e. h 0 p (omega arith) (sym e)) in
    rw off (not-listed ps x (lacks-behind p ps x h))

distinct-indices : (ps : List Pdo) → Apart ps → distinct (indices ps) ≡ true
distinct-indices [] h = refl
distinct-indices (p ∷ ps) h =
    let off : contains (indices ps) p.index ≡ false = not-listed ps p.index (lacks-first p ps h) in
    rw off (distinct-indices ps (apart-behind p ps h))

own-found : (ps : List Pdo) (k : ℕ) → k < length ps → is_some (pdo_at ps (slice_index (indices ps) k)) ≡ true
own-found [] k l = absurd (omega arith)
own-found (p ∷ ps) zero l = let same : (p.index == p.index) ≡ true = eq-eqb p.index p.index refl in rw same refl
own-found (p ∷ ps) (suc k) l = elim (cases_Bool (p.index == slice_index (indices ps) k)) [
  | inl t ↦ ap is_some (if_true (p.index == slice_index (indices ps) k) (Some p) (pdo_at ps (slice_index (indices ps) k)) t)
  | inr f ↦ ap is_some (if_false (p.index == slice_index (indices ps) k) (Some p) (pdo_at ps (slice_index (indices ps) k)) f) ∙ own-found ps k (omega arith)
]

bits-behind : (p : Pdo) (ps qs : List Pdo) → Lacks qs p.index → sum_by (bits_at (p ∷ ps)) (indices qs) ≡ sum_by (bits_at ps) (indices qs)
bits-behind p ps [] h = refl
bits-behind p ps (q ∷ qs) h =
    let off : (p.index == q.index) ≡ false = ne_eqb p.index q.index (h 0 q (omega arith)) in
    let one : bits_at (p ∷ ps) q.index ≡ bits_at ps q.index = rw off refl in
    sum_by-cons (bits_at (p ∷ ps)) q.index (indices qs)
    ∙ (ap₂ (λ (a b : ℕ). a + b) one (bits-behind p ps qs (lacks-behind q qs p.index h))
    ∙ sym (sum_by-cons (bits_at ps) q.index (indices qs)))

all-bits : (ps : List Pdo) → Apart ps → bits_assigned ps (indices ps) ≡ pdos_bits ps
all-bits [] h = refl
all-bits (p ∷ ps) h =
    let same : (p.index == p.index) ≡ true = eq-eqb p.index p.index refl in
    let one : bits_at (p ∷ ps) p.index ≡ pdo_bits p = rw same refl in
    sum_by-cons (bits_at (p ∷ ps)) p.index (indices ps)
    ∙ (ap₂ (λ (a b : ℕ). a + b) one (bits-behind p ps ps (lacks-first p ps h) ∙ all-bits ps (apart-behind p ps h))
    ∙ sym (sum_by-cons pdo_bits p ps))

all-of : (ps : List Pdo) → assigned (all_assigned ps) ≡ indices ps
all-of ps = take_all (length ps) (indices ps) (omega (arith, length-map ps (λ (p : Pdo). p.index)))

all-proper : (ps : List Pdo) → FitTogether ps → IsAssignment ps (all_assigned ps)
all-proper ps h =
    let bits : bits_assigned ps (assigned (all_assigned ps)) ≡ pdos_bits ps = ap (bits_assigned ps) (all-of ps) ∙ all-bits ps h.apart in
    record {
      own = λ k l. own-found ps k (omega (arith, l, length-map ps (λ (p : Pdo). p.index)));
      apart = ap distinct (all-of ps) ∙ distinct-indices ps h.apart;
      bits = omega (arith, bits, h.bits);
    }

pub power_on_assigns : PowerOnAssigns
unfolding power_on
power_on_assigns kind identity outs ins = record { outputs = all-proper kind.outputs outs; inputs = all-proper kind.inputs ins }

-- ---- whatever happens then

either-assigned : (b : Bool) (x y : SlaveState) → IsAssigned x → IsAssigned y → IsAssigned (if b then x else y)
either-assigned true x y h k = h
either-assigned false x y h k = k

served-stays : (s : SlaveState) → IsAssigned s → IsAssigned (served s)
served-stays s h =
    let kind : (served s).kind ≡ s.kind = (settings_kept s).kind in
    record {
      outputs = subst (λ (k : SlaveKind). IsAssignment k.outputs (served s).outs) (sym kind) ((assignments_served s).outputs h.outputs);
      inputs = subst (λ (k : SlaveKind). IsAssignment k.inputs (served s).ins) (sym kind) ((assignments_served s).inputs h.inputs);
    }

physically-stays : (s : SlaveState) (d : Datagram) → IsAssigned s → IsAssigned (meets_physically s d).slave
unfolding physical_met physical_after
physically-stays s d h = record { outputs = h.outputs; inputs = h.inputs }

logically-stays : (reading writing : Bool) (weight : ℕ) (s : SlaveState) (d : Datagram) → IsAssigned s → IsAssigned (meets_logically reading writing weight s d).slave
unfolding meets_logically
logically-stays reading writing weight s d h = record { outputs = h.outputs; inputs = h.inputs }

exchanging-stays : (b : Bool) (s : SlaveState) (d : Datagram) → IsAssigned s → IsAssigned (if b then meets_logically true true 2 s d else record { slave = s; datagram = d }).slave
exchanging-stays true s d h = logically-stays true true 2 s d h
exchanging-stays false s d h = h

by-stays : (c : Command) (s : SlaveState) (d : Datagram) → IsAssigned s → IsAssigned (meets_by c s d).slave
by-stays Nop s d h = h
by-stays Aprd s d h = physically-stays s d h
by-stays Apwr s d h = physically-stays s d h
by-stays Aprw s d h = physically-stays s d h
by-stays Fprd s d h = physically-stays s d h
by-stays Fpwr s d h = physically-stays s d h
by-stays Fprw s d h = physically-stays s d h
by-stays Brd s d h = physically-stays s d h
by-stays Bwr s d h = physically-stays s d h
by-stays Brw s d h = physically-stays s d h
by-stays Lrd s d h = logically-stays true false 1 s d h
by-stays Lwr s d h = logically-stays false true 1 s d h
by-stays Lrw s d h = exchanging-stays s.kind.lrw s d h
by-stays Armw s d h = physically-stays s d h
by-stays Frmw s d h = physically-stays s d h

met-stays : (s : SlaveState) (d : Datagram) → IsAssigned s → IsAssigned (slave_met s d)
unfolding meets
met-stays s d h = by-stays d.command s d h

faulted-stays : (s : SlaveState) → IsAssigned s → IsAssigned (faulted s)
unfolding faulted
faulted-stays s h = either-assigned (al.is_operational s.al.state) _ s (record { outputs = h.outputs; inputs = h.inputs }) h

put-stays : (s t : SlaveState) (b : Bool) (o : Option SyncManager) → IsAssigned s → (if b then option_map (with_manager s 3) o else None) ≡ Some t → IsAssigned t
put-stays s t true None h e = absurd (cc)
put-stays s t true (Some m) h e = let is : with_manager s 3 m ≡ t = cc in subst IsAssigned is (record { outputs = h.outputs; inputs = h.inputs })
put-stays s t false o h e = absurd (cc)

taken-stays : (s : SlaveState) (o : Option Got) → IsAssigned s → IsAssigned (output_taken s o)
taken-stays s None h = h
taken-stays s (Some got) h = record { outputs = h.outputs; inputs = h.inputs }

pub assignments_stay : AssignmentsStay
assignments_stay s h = record {
  served = served-stays s h;
  met = λ d. met-stays s d h;
  faulted = faulted-stays s h;
  put = λ place byte t e. put-stays s t (is_running s.al.state) (app_put (manager_at s.managers 3) place byte) h e;
  taken = λ place. taken-stays s (output_got s place) h;
}
