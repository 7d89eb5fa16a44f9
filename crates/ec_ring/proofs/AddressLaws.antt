-- Which slave of a ring a datagram means.
use Rattle.std.proofs.Common.{ℕ, zero, suc, ◌+◌, ◌*◌, ◌/◌, ◌%◌, ◌<◌, ◌≤◌, ◌≡◌, ◌≢◌, refl, sym, ◌∙◌, ap, subst, arith, inl, inr, List, [], ◌∷◌, length, set, slice_get, Some}
use Rattle.std.proofs.lemmas.Option.{slice_get_within}
use Rattle.ec_frame.specs.declared.command.Command.{Command}
use Rattle.ec_frame.specs.declared.command.Command.TheVariants.{Aprd, Apwr, Aprw, Fprd, Fpwr, Fprw}
use Rattle.ec_frame.specs.Datagram.{Datagram, IsDatagram, adp_of}
use Rattle.ec_frame.specs.Fields.{with_adp}
use Rattle.ec_frame.specs.FieldChanges.{IsDatagram-with_adp}
use Rattle.ec_slave.specs.State.{Met, SlaveState, station_of}
use Rattle.ec_slave.specs.Roles.{adp_after}
use Rattle.ec_slave.specs.Meeting.{datagram_met, meets, slave_met}
use Rattle.ec_slave.proofs.Commands.CommandLaws.{datagrams_stay, goes_on}
use Rattle.ec_slave.proofs.Commands.PassedBy.{heading_stays, other_position_passes, other_station_passes}
use Rattle.ec_ring.specs.Rings.{RingPassed, passes_ring}
use Rattle.ec_ring.specs.Addressing.{IsByPosition, IsByStation, PositionMeansOne, StationMeansOne, StationPassesOthers}

-- ---- the ADP that leaves a slave

adp_met : (c : Command) (n : ℕ) (s : SlaveState) (d : Datagram) → d.command ≡ c → adp_after c (adp_of d) ≡ n → n < 65536 → adp_of (datagram_met s d) ≡ n
adp_met c n s d e q l =
    let a = (goes_on s d).address in
    let k = ap (λ (x : Command). adp_after x (adp_of d)) e ∙ q in
    omega (arith, a, k, l)

position_adp : (s : SlaveState) (d : Datagram) → IsByPosition d.command → adp_of (datagram_met s d) ≡ (adp_of d + 1) % 65536
position_adp s d (inl e) = adp_met Aprd ((adp_of d + 1) % 65536) s d e refl (omega arith)
position_adp s d (inr (inl e)) = adp_met Apwr ((adp_of d + 1) % 65536) s d e refl (omega arith)
position_adp s d (inr (inr e)) = adp_met Aprw ((adp_of d + 1) % 65536) s d e refl (omega arith)

station_adp : (s : SlaveState) (d : Datagram) → IsByStation d.command → adp_of (datagram_met s d) ≡ adp_of d
station_adp s d (inl e) = adp_met Fprd (adp_of d) s d e refl (omega arith)
station_adp s d (inr (inl e)) = adp_met Fpwr (adp_of d) s d e refl (omega arith)
station_adp s d (inr (inr e)) = adp_met Fprw (adp_of d) s d e refl (omega arith)

command_met : (s : SlaveState) (d : Datagram) → IsDatagram d → d.command ≡ (datagram_met s d).command
command_met s d good = sym (heading_stays s d good).command

good_met : (s : SlaveState) (d : Datagram) → IsDatagram d → IsDatagram (datagram_met s d)
good_met s d good = (datagrams_stay s d good).0

-- ---- one datagram past the first slave

abbrev after_first : Met → List SlaveState → RingPassed
after_first m ss = record { slaves = m.slave ∷ (passes_ring ss (m.datagram ∷ [])).slaves; datagrams = (passes_ring ss (m.datagram ∷ [])).datagrams }

passes_first : (s : SlaveState) (ss : List SlaveState) (d : Datagram) (m : Met) → meets s d ≡ m → passes_ring (s ∷ ss) (d ∷ []) ≡ after_first m ss
passes_first s ss d m e = ap (λ (x : Met). after_first x ss) e

abbrev left : List SlaveState → Datagram → RingPassed
left ss d = record { slaves = ss; datagrams = d ∷ [] }

behind : (s : SlaveState) (x y : RingPassed) → x ≡ y → ◌≡◌ {A = RingPassed} (record { slaves = s ∷ x.slaves; datagrams = x.datagrams }) (record { slaves = s ∷ y.slaves; datagrams = y.datagrams })
behind s x y e = ap (λ (r : RingPassed). record { slaves = s ∷ r.slaves; datagrams = r.datagrams }) e

no_slave : {X : Type 0} (s : SlaveState) (i : ℕ) → slice_get [] i ≡ Some s → X
no_slave s zero is = absurd cc
no_slave s (suc i) is = absurd cc

some_same : (s t : SlaveState) → Some s ≡ Some t → s ≡ t
some_same s t e = cc

-- ---- by position

own_adp : (d : Datagram) (n : ℕ) → n ≡ adp_of d → with_adp d n ≡ d
own_adp d n e = let same : n + 65536 * (d.address / 65536) ≡ d.address = omega arith in ap (λ (t : ℕ). record d { address = t }) same

adp_again : (d : Datagram) (n m k : ℕ) → n < 65536 → m ≡ k → with_adp (with_adp d n) m ≡ with_adp d k
adp_again d n m k few e = let same : m + 65536 * ((n + 65536 * (d.address / 65536)) / 65536) ≡ k + 65536 * (d.address / 65536) = omega arith in ap (λ (t : ℕ). record d { address = t }) same

next_adp : (d : Datagram) → adp_of (with_adp d ((adp_of d + 1) % 65536)) ≡ (adp_of d + 1) % 65536
next_adp d = omega arith

turned : (a n : ℕ) → ((a + 1) % 65536 + n) % 65536 ≡ (a + suc n) % 65536
turned a n = omega arith

not_zero : (a n : ℕ) → a < 65536 → suc n < 65536 → (a + suc n) % 65536 ≡ 0 → a ≢ 0
not_zero a n small few e z = omega arith

none_meant : (ss : List SlaveState) (d : Datagram) → IsDatagram d → IsByPosition d.command → ((k : ℕ) → k < length ss → (adp_of d + k) % 65536 ≢ 0)
    → passes_ring ss (d ∷ []) ≡ left ss (with_adp d ((adp_of d + length ss) % 65536))
none_meant [] d good by ne = ap (λ (x : Datagram). left [] x) (sym (own_adp d ((adp_of d + 0) % 65536) (omega arith)))
none_meant (s ∷ ss) d good by ne =
    let first : adp_of d ≢ 0 = λ z. ne 0 (omega arith) (omega arith) in
    let one : Datagram = with_adp d ((adp_of d + 1) % 65536) in
    let adp = next_adp d in
    let rest = none_meant ss one (IsDatagram-with_adp d ((adp_of d + 1) % 65536) good (omega arith)) by
    (λ k l z. ne (suc k) (omega arith) (sym (turned (adp_of d) k) ∙ (ap (λ (t : ℕ). (t + k) % 65536) (sym adp) ∙ z))) in
    let adp_is : (adp_of one + length ss) % 65536 ≡ (adp_of d + suc (length ss)) % 65536 = ap (λ (t : ℕ). (t + length ss) % 65536) adp ∙ turned (adp_of d) (length ss) in
    passes_first s ss d (record { slave = s; datagram = one }) (other_position_passes s d good by first)
    ∙ (behind s _ _ rest ∙ ap (λ (x : Datagram). left (s ∷ ss) x) (adp_again d ((adp_of d + 1) % 65536) _ _ (omega arith) adp_is))

one_meant : (ss : List SlaveState) (i : ℕ) (s : SlaveState) (d : Datagram) → IsDatagram d → IsByPosition d.command → length ss ≤ 65536 → slice_get ss i ≡ Some s → (adp_of d + i) % 65536 ≡ 0
    → passes_ring ss (d ∷ []) ≡ left (set ss i (slave_met s (with_adp d 0))) (with_adp (datagram_met s (with_adp d 0)) ((adp_of d + length ss) % 65536))
one_meant [] i s d good by few is at = no_slave s i is
one_meant (t ∷ ss) zero s d good by few is at =
    let nought : 0 ≡ adp_of d = omega arith in
    let one : Datagram = datagram_met t d in
    let adp : adp_of one ≡ (adp_of d + 1) % 65536 = position_adp t d by in
    let rest = none_meant ss one (good_met t d good) (subst IsByPosition (command_met t d good) by) (λ k l z. omega (arith, adp)) in
    let adp_is : (adp_of one + length ss) % 65536 ≡ (adp_of d + suc (length ss)) % 65536 = ap (λ (x : ℕ). (x + length ss) % 65536) adp ∙ turned (adp_of d) (length ss) in
    let same : meets t d ≡ meets s (with_adp d 0) = ap (λ (x : SlaveState). meets x d) (some_same t s is) ∙ ap (λ (x : Datagram). meets s x) (sym (own_adp d 0 nought)) in
    passes_first t ss d (meets t d) refl
    ∙ (behind (slave_met t d) _ _ rest
    ∙ (ap (λ (n : ℕ). left (slave_met t d ∷ ss) (with_adp one n)) adp_is
    ∙ ap (λ (m : Met). left (m.slave ∷ ss) (with_adp m.datagram ((adp_of d + suc (length ss)) % 65536))) same))
one_meant (t ∷ ss) (suc i) s d good by few is at =
    let within = slice_get_within ss i s is in
    let first : adp_of d ≢ 0 = not_zero (adp_of d) i (omega arith) (omega arith) at in
    let one : Datagram = with_adp d ((adp_of d + 1) % 65536) in
    let adp = next_adp d in
    let rest = one_meant ss i s one (IsDatagram-with_adp d ((adp_of d + 1) % 65536) good (omega arith)) by (omega arith) is
    (ap (λ (x : ℕ). (x + i) % 65536) adp ∙ (turned (adp_of d) i ∙ at)) in
    let adp_is : (adp_of one + length ss) % 65536 ≡ (adp_of d + suc (length ss)) % 65536 = ap (λ (x : ℕ). (x + length ss) % 65536) adp ∙ turned (adp_of d) (length ss) in
    let same : with_adp one 0 ≡ with_adp d 0 = adp_again d ((adp_of d + 1) % 65536) 0 0 (omega arith) refl in
    passes_first t ss d (record { slave = t; datagram = one }) (other_position_passes t d good by first)
    ∙ (behind t _ _ rest
    ∙ (ap (λ (n : ℕ). left (t ∷ set ss i (slave_met s (with_adp one 0))) (with_adp (datagram_met s (with_adp one 0)) n)) adp_is
    ∙ ap (λ (x : Datagram). left (t ∷ set ss i (slave_met s x)) (with_adp (datagram_met s x) ((adp_of d + suc (length ss)) % 65536))) same))

pub position_means_one : PositionMeansOne
position_means_one ss i s d good by few is at = let within = slice_get_within ss i s is in one_meant ss i s d good by few is (omega arith)

-- ---- by station address

pub station_passes_others : StationPassesOthers
station_passes_others [] j t d good by is ne = no_slave t j is
station_passes_others (s ∷ ss) zero t d good by is ne =
    let same : s ≡ t = some_same s t is in
    ap (λ (m : Met). Some m.slave) (other_station_passes s d good by (λ e. ne (e ∙ ap (λ (x : SlaveState). station_of x) same))) ∙ is
station_passes_others (s ∷ ss) (suc j) t d good by is ne =
    station_passes_others ss j t (datagram_met s d) (good_met s d good) (subst IsByStation (command_met s d good) by) is (λ e. ne (sym (station_adp s d by) ∙ e))

nobody_named : (ss : List SlaveState) (d : Datagram) → IsDatagram d → IsByStation d.command → ((j : ℕ) (t : SlaveState) → slice_get ss j ≡ Some t → adp_of d ≢ station_of t) → passes_ring ss (d ∷ []) ≡ left ss d
nobody_named [] d good by ne = refl
nobody_named (s ∷ ss) d good by ne =
    passes_first s ss d (record { slave = s; datagram = d }) (other_station_passes s d good by (ne 0 s refl))
    ∙ behind s _ _ (nobody_named ss d good by (λ j t is. ne (suc j) t is))

zero_suc : (n : ℕ) → zero ≢ suc n
zero_suc n e = omega arith

suc_zero : (n : ℕ) → suc n ≢ zero
suc_zero n e = omega arith

pub station_means_one : StationMeansOne
station_means_one [] i s d good by is ne = no_slave s i is
station_means_one (t ∷ ss) zero s d good by is ne =
    let rest = nobody_named ss (datagram_met t d) (good_met t d good) (subst IsByStation (command_met t d good) by)
    (λ j u there e. ne (suc j) u there (suc_zero j) (sym (station_adp t d by) ∙ e)) in
    passes_first t ss d (meets t d) refl
    ∙ (behind (slave_met t d) _ _ rest
    ∙ ap (λ (x : SlaveState). left (slave_met x d ∷ ss) (datagram_met x d)) (some_same t s is))
station_means_one (t ∷ ss) (suc i) s d good by is ne =
    passes_first t ss d (record { slave = t; datagram = d }) (other_station_passes t d good by (ne 0 t refl (zero_suc i)))
    ∙ behind t _ _ (station_means_one ss i s d good by is (λ j u there other. ne (suc j) u there (λ e. other (omega (arith, e)))))
