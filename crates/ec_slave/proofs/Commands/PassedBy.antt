-- Datagrams that pass.
use Rattle.std.proofs.Common.{[], ◌∷◌, Bool, true, false, if◌then◌else◌, ℕ, ◌+◌, ◌*◌, ◌/◌, ◌%◌, ◌<◌, ◌≡◌, ◌==◌, inl, inr, List, false, refl, ◌∙◌, ap, arith}
use Rattle.std.proofs.lemmas.Bool.{ne_eqb}
use Rattle.ec_frame.specs.declared.command.Command.{Command}
use Rattle.ec_frame.specs.declared.command.Command.TheVariants.{Nop, Aprd, Apwr, Aprw, Fprd, Fpwr, Fprw, Brd, Bwr, Brw, Lrd, Lwr, Lrw, Armw, Frmw}
use Rattle.ec_frame.specs.Datagram.{Datagram, IsDatagram, adp_of, ado_of}
use Rattle.ec_frame.specs.Fields.{with_adp}
use Rattle.ec_slave.specs.declared.role.Role.{Role}
use Rattle.ec_slave.specs.declared.role.Role.TheVariants.{Nothing}
use Rattle.ec_slave.specs.Roles.{role_of, adp_after}
use Rattle.ec_slave.specs.State.{SlaveState, station_of, with_answer}
use Rattle.ec_slave.specs.Physical.{Window, physical_met, physical_after}
use Rattle.ec_slave.specs.Meeting.{window_of, meets, meets_by, meets_physically, passes, slave_met}
use Rattle.ec_slave.specs.Keeping.{adp_after-bound, length-physical_met}
use Rattle.ec_slave.specs.Laws.{OtherStationPasses, OtherPositionPasses, HeadingStays, KeepsHeading}
use Rattle.ec_bits.proofs.BitLaws.{length-overlay}
use Rattle.ec_bits.proofs.AnyLaws.{if_false}
use Rattle.ec_slave.specs.Logical.{meets_logically}
use Rattle.ec_slave.proofs.Memory.SlaveIdle.{slave_idle}

kept-nothing : (s : SlaveState) (w : Window) → (physical_met s Nothing w).slave ≡ s
unfolding physical_met
kept-nothing s w = slave_idle s w

bytes-nothing : (s : SlaveState) (w : Window) → (physical_met s Nothing w).bytes ≡ w.bytes
unfolding physical_met
bytes-nothing s w = refl

added-nothing : (s : SlaveState) (w : Window) → (physical_met s Nothing w).added ≡ 0
unfolding physical_met
added-nothing s w = refl

-- a slave that has nothing to do with a datagram
pub passed_by : (s : SlaveState) (d : Datagram) → IsDatagram d → role_of d.command (adp_of d) (station_of s) ≡ Nothing
    → meets_physically s d ≡ record { slave = s; datagram = with_adp d (adp_after d.command (adp_of d)) }
passed_by s d good e =
    let a : ℕ = adp_after d.command (adp_of d) + 65536 * ado_of d in
    let w : Window = window_of d in
    let fits : d.counter < 65536 = good.counter in
    let c : (d.counter + 0) % 65536 ≡ d.counter = omega arith in
    ap (λ (r : Role). record { slave = (physical_met s r w).slave; datagram = with_answer d a (physical_met s r w).bytes (physical_met s r w).added }) e
    ∙ (ap (λ (t : SlaveState). record { slave = t; datagram = with_answer d a (physical_met s Nothing w).bytes (physical_met s Nothing w).added }) (kept-nothing s w)
    ∙ (ap (λ (t : List ℕ). record { slave = s; datagram = with_answer d a t (physical_met s Nothing w).added }) (bytes-nothing s w)
    ∙ (ap (λ (t : ℕ). record { slave = s; datagram = with_answer d a d.data_bytes t }) (added-nothing s w)
    ∙ ap (λ (t : ℕ). record { slave = s; datagram = record d { address = a; counter = t } }) c)))

own_address : (d : Datagram) → with_adp d (adp_of d) ≡ d
own_address d = let e : d.address % 65536 + 65536 * (d.address / 65536) ≡ d.address = omega arith in ap (λ (t : ℕ). record d { address = t }) e

-- the same for a command of which that is known
passed_as : (s : SlaveState) (d : Datagram) (c : Command) → IsDatagram d → d.command ≡ c → meets_by c s d ≡ meets_physically s d
    → role_of c (adp_of d) (station_of s) ≡ Nothing → meets s d ≡ record { slave = s; datagram = with_adp d (adp_after c (adp_of d)) }
unfolding meets
passed_as s d c good e p r =
    ap (λ (k : Command). meets_by k s d) e ∙ (p
    ∙ (passed_by s d good (ap (λ (k : Command). role_of k (adp_of d) (station_of s)) e ∙ r)
    ∙ ap (λ (k : Command). record { slave = s; datagram = with_adp d (adp_after k (adp_of d)) }) e))

pub other_station_passes : OtherStationPasses
other_station_passes s d good h ne =
    let t : (adp_of d == station_of s) ≡ false = ne_eqb (adp_of d) (station_of s) ne in
    elim h [
      | inl e ↦ passed_as s d Fprd good e refl (if_false _ _ _ t) ∙ ap (λ (x : Datagram). record { slave = s; datagram = x }) (own_address d)
      | inr k ↦ elim k [
        | inl e ↦ passed_as s d Fpwr good e refl (if_false _ _ _ t) ∙ ap (λ (x : Datagram). record { slave = s; datagram = x }) (own_address d)
        | inr e ↦ passed_as s d Fprw good e refl (if_false _ _ _ t) ∙ ap (λ (x : Datagram). record { slave = s; datagram = x }) (own_address d)
      ]
    ]

pub other_position_passes : OtherPositionPasses
other_position_passes s d good h ne =
    let t : (adp_of d == 0) ≡ false = ne_eqb (adp_of d) 0 ne in
    elim h [
      | inl e ↦ passed_as s d Aprd good e refl (if_false _ _ _ t)
      | inr k ↦ elim k [
        | inl e ↦ passed_as s d Apwr good e refl (if_false _ _ _ t)
        | inr e ↦ passed_as s d Aprw good e refl (if_false _ _ _ t)
      ]
    ]

physical_heading : (s : SlaveState) (d : Datagram) → IsDatagram d → KeepsHeading d (meets_physically s d).datagram
physical_heading s d good =
    let role : Role = role_of d.command (adp_of d) (station_of s) in
    let a : ℕ = adp_after d.command (adp_of d) in
    let bound : a < 65536 = adp_after-bound d.command (adp_of d) (omega arith) in
    let e : (a + 65536 * (d.address / 65536)) / 65536 ≡ d.address / 65536 = omega arith in
    record { command = refl; index = refl; ado = e; reserved = refl; circulating = refl; irq = refl; data_length = length-physical_met s role (window_of d) }

same_heading : (d : Datagram) → KeepsHeading d d
same_heading d = record { command = refl; index = refl; ado = refl; reserved = refl; circulating = refl; irq = refl; data_length = refl }

logical_heading : (reading writing : Bool) (weight : ℕ) (s : SlaveState) (d : Datagram) → KeepsHeading d (meets_logically reading writing weight s d).datagram
unfolding meets_logically
logical_heading reading writing weight s d =
    record { command = refl; index = refl; ado = refl; reserved = refl; circulating = refl; irq = refl; data_length = length-overlay d.data_bytes _ }

lrw_heading : (b : Bool) (s : SlaveState) (d : Datagram) → KeepsHeading d (if b then meets_logically true true 2 s d else record { slave = s; datagram = d }).datagram
lrw_heading true s d = logical_heading true true 2 s d
lrw_heading false s d = same_heading d

heading_by : (c : Command) (s : SlaveState) (d : Datagram) → IsDatagram d → KeepsHeading d (meets_by c s d).datagram
heading_by Nop s d good = same_heading d
heading_by Aprd s d good = physical_heading s d good
heading_by Apwr s d good = physical_heading s d good
heading_by Aprw s d good = physical_heading s d good
heading_by Fprd s d good = physical_heading s d good
heading_by Fpwr s d good = physical_heading s d good
heading_by Fprw s d good = physical_heading s d good
heading_by Brd s d good = physical_heading s d good
heading_by Bwr s d good = physical_heading s d good
heading_by Brw s d good = physical_heading s d good
heading_by Lrd s d good = logical_heading true false 1 s d
heading_by Lwr s d good = logical_heading false true 1 s d
heading_by Lrw s d good = lrw_heading s.kind.lrw s d
heading_by Armw s d good = physical_heading s d good
heading_by Frmw s d good = physical_heading s d good

pub heading_stays : HeadingStays
unfolding meets
heading_stays s d good = heading_by d.command s d good

-- ---- what no datagram changes in a slave

physical_met-kept : (s : SlaveState) (role : Role) (w : Window) → ((physical_met s role w).slave.kind ≡ s.kind) × ((physical_met s role w).slave.identity ≡ s.identity)
unfolding physical_met physical_after
physical_met-kept s role w = (refl, refl)

logical-kept : (reading writing : Bool) (weight : ℕ) (s : SlaveState) (d : Datagram)
    → ((meets_logically reading writing weight s d).slave.kind ≡ s.kind) × ((meets_logically reading writing weight s d).slave.identity ≡ s.identity)
unfolding meets_logically
logical-kept reading writing weight s d = (refl, refl)

lrw-kept : (b : Bool) (s : SlaveState) (d : Datagram)
    → ((if b then meets_logically true true 2 s d else record { slave = s; datagram = d }).slave.kind ≡ s.kind)
    × ((if b then meets_logically true true 2 s d else record { slave = s; datagram = d }).slave.identity ≡ s.identity)
lrw-kept true s d = logical-kept true true 2 s d
lrw-kept false s d = (refl, refl)

kept_by : (c : Command) (s : SlaveState) (d : Datagram) → ((meets_by c s d).slave.kind ≡ s.kind) × ((meets_by c s d).slave.identity ≡ s.identity)
kept_by Nop s d = (refl, refl)
kept_by Aprd s d = physical_met-kept s _ _
kept_by Apwr s d = physical_met-kept s _ _
kept_by Aprw s d = physical_met-kept s _ _
kept_by Fprd s d = physical_met-kept s _ _
kept_by Fpwr s d = physical_met-kept s _ _
kept_by Fprw s d = physical_met-kept s _ _
kept_by Brd s d = physical_met-kept s _ _
kept_by Bwr s d = physical_met-kept s _ _
kept_by Brw s d = physical_met-kept s _ _
kept_by Lrd s d = logical-kept true false 1 s d
kept_by Lwr s d = logical-kept false true 1 s d
kept_by Lrw s d = lrw-kept s.kind.lrw s d
kept_by Armw s d = physical_met-kept s _ _
kept_by Frmw s d = physical_met-kept s _ _

met-kept : (s : SlaveState) (d : Datagram) → ((slave_met s d).kind ≡ s.kind) × ((slave_met s d).identity ≡ s.identity)
unfolding meets
met-kept s d = kept_by d.command s d

pub passes-kept : (s : SlaveState) (ds : List Datagram) → ((passes s ds).slave.kind ≡ s.kind) × ((passes s ds).slave.identity ≡ s.identity)
passes-kept s [] = (refl, refl)
passes-kept s (d ∷ ds) =
    let m = met-kept s d in
    let r = passes-kept (slave_met s d) ds in
    (r.0 ∙ m.0, r.1 ∙ m.1)
