-- What comes of a datagram by its command.
use Rattle.std.proofs.Common.{ℕ, ◌+◌, ◌*◌, ◌%◌, ◌≡◌, ◌⊎◌, ◌&&◌, Bool, true, false, Option, Some, None, refl, sym, ◌∙◌, ap, inl, inr, arith, if◌then◌else◌}
use Rattle.std.specs.Int.{from_bool}
use Rattle.ec_bits.proofs.AnyLaws.{if_true, if_false}
use Rattle.ec_frame.specs.declared.command.Command.{Command}
use Rattle.ec_frame.specs.declared.command.Command.TheVariants.{Nop, Aprd, Apwr, Aprw, Fprd, Fpwr, Fprw, Brd, Bwr, Brw, Lrd, Lwr, Lrw, Armw, Frmw}
use Rattle.ec_frame.specs.Datagram.{Datagram, adp_of, ado_of}
use Rattle.ec_slave.specs.Roles.{role_of, adp_after, is_reading, is_writing, is_joining}
use Rattle.ec_al.specs.declared.state.State.TheVariants.{SafeOp, Op}
use Rattle.ec_sync.specs.SyncManager.{SyncManager}
use Rattle.ec_slave.specs.State.{SlaveState, Met, manager_at, station_of}
use Rattle.ec_slave.specs.Physical.{Window, byte_read, updated, some_byte_read, is_written, physical_after, physical_met}
use Rattle.ec_slave.specs.Meeting.{window_of, meets, meets_by, meets_physically}
use Rattle.ec_slave.specs.Keeping.{meets-keeps, past-keeps}
use Rattle.ec_slave.specs.Logical.{meets_logically}
use Rattle.ec_slave.specs.Application.{inputs_put, outputs_taken}
use Rattle.ec_slave.specs.Serving.{awaited_by, awaited_if, has_outputs}
use Rattle.ec_slave.specs.Faulting.{faulted, locked_empty}
use Rattle.ec_slave.specs.Interface.{GoesOn, DatagramsGoOn, DatagramsStay, DatagramsStayPast, WritesMeet, ReadsMeet, LogicalCommandsMeet, FaultsAreInOp, IsLost, ApplicationsGoByBytes}

false-true : {X : Type 0} → false ≡ true → X
false-true e = absurd (let x : false ≡ true = e in cc)

-- a command by which a slave reads or writes is a physical one
physical-by : (c : Command) (s : SlaveState) (d : Datagram) (adp station : ℕ) → (is_writing (role_of c adp station) ≡ true) ⊎ (is_reading (role_of c adp station) ≡ true) → meets_by c s d ≡ meets_physically s d
physical-by Nop s d adp station (inl e) = false-true e
physical-by Nop s d adp station (inr e) = false-true e
physical-by Aprd s d adp station h = refl
physical-by Apwr s d adp station h = refl
physical-by Aprw s d adp station h = refl
physical-by Fprd s d adp station h = refl
physical-by Fpwr s d adp station h = refl
physical-by Fprw s d adp station h = refl
physical-by Brd s d adp station h = refl
physical-by Bwr s d adp station h = refl
physical-by Brw s d adp station h = refl
physical-by Lrd s d adp station (inl e) = false-true e
physical-by Lrd s d adp station (inr e) = false-true e
physical-by Lwr s d adp station (inl e) = false-true e
physical-by Lwr s d adp station (inr e) = false-true e
physical-by Lrw s d adp station (inl e) = false-true e
physical-by Lrw s d adp station (inr e) = false-true e
physical-by Armw s d adp station h = refl
physical-by Frmw s d adp station h = refl

physical : (s : SlaveState) (d : Datagram)
    → (is_writing (role_of d.command (adp_of d) (station_of s)) ≡ true) ⊎ (is_reading (role_of d.command (adp_of d) (station_of s)) ≡ true) → meets s d ≡ meets_physically s d
unfolding meets
physical s d h = physical-by d.command s d (adp_of d) (station_of s) h

-- what the counter grows by
abbrev added_by : Bool → Bool → SlaveState → Window → ℕ
added_by reads writes s w = from_bool (reads && some_byte_read s.managers w) + (if reads then 2 else 1) * from_bool (writes && is_written s w)

pub writes_meet : WritesMeet
unfolding physical_met
writes_meet s d h =
    let m = physical s d (inl h.writes) in
    record {
      slave = ap (λ (x : Met). x.slave) m
          ∙ (ap (λ (b : Bool). physical_after s b (is_writing (role_of d.command (adp_of d) (station_of s))) (window_of d)) h.reads
          ∙ ap (λ (b : Bool). physical_after s false b (window_of d)) h.writes);
      bytes = ap (λ (x : Met). x.datagram.data_bytes) m ∙ if_false _ _ _ h.reads;
      counter = ap (λ (x : Met). x.datagram.counter) m
          ∙ (ap (λ (b : Bool). (d.counter + added_by b (is_writing (role_of d.command (adp_of d) (station_of s))) s (window_of d)) % 65536) h.reads
          ∙ (ap (λ (b : Bool). (d.counter + added_by false b s (window_of d)) % 65536) h.writes
          ∙ ap (λ (n : ℕ). (d.counter + n) % 65536) (plain (from_bool (is_written s (window_of d))))));
    }
  where
    plain : (n : ℕ) → 0 + 1 * n ≡ n
    plain n = omega arith

pub reads_meet : ReadsMeet
unfolding physical_met
reads_meet s d h =
    let m = physical s d (inr h.reads) in
    record {
      slave = ap (λ (x : Met). x.slave) m
          ∙ (ap (λ (b : Bool). physical_after s b (is_writing (role_of d.command (adp_of d) (station_of s))) (window_of d)) h.reads
          ∙ ap (λ (b : Bool). physical_after s true b (window_of d)) h.writes);
      bytes = ap (λ (x : Met). x.datagram.data_bytes) m
          ∙ (ap (λ (b : Bool). if b then updated d.data_bytes (byte_read s (is_joining (role_of d.command (adp_of d) (station_of s))) (window_of d)) else d.data_bytes) h.reads
          ∙ ap (λ (b : Bool). updated d.data_bytes (byte_read s b (window_of d))) h.joins);
      counter = ap (λ (x : Met). x.datagram.counter) m
          ∙ (ap (λ (b : Bool). (d.counter + added_by b (is_writing (role_of d.command (adp_of d) (station_of s))) s (window_of d)) % 65536) h.reads
          ∙ (ap (λ (b : Bool). (d.counter + added_by true b s (window_of d)) % 65536) h.writes
          ∙ ap (λ (n : ℕ). (d.counter + n) % 65536) (plain (from_bool (some_byte_read s.managers (window_of d))))));
    }
  where
    plain : (n : ℕ) → n + 2 * 0 ≡ n
    plain n = omega arith

-- ---- the heading

whole : (d : Datagram) → d.address ≡ adp_of d + 65536 * ado_of d
whole d = omega arith

stays : (c : Command) (d : Datagram) → d.command ≡ c → adp_after c (adp_of d) ≡ adp_of d → d.address ≡ adp_after d.command (adp_of d) + 65536 * ado_of d
stays c d e k = whole d ∙ ap (λ (n : ℕ). n + 65536 * ado_of d) (sym (ap (λ (x : Command). adp_after x (adp_of d)) e ∙ k))

logical-on : (reading writing : Bool) (weight : ℕ) (c : Command) (s : SlaveState) (d : Datagram) → d.command ≡ c → adp_after c (adp_of d) ≡ adp_of d → GoesOn d (meets_logically reading writing weight s d).datagram
unfolding meets_logically
logical-on reading writing weight c s d e k = record { command = refl; address = stays c d e k }

physical-on : (s : SlaveState) (d : Datagram) → GoesOn d (meets_physically s d).datagram
physical-on s d = record { command = refl; address = refl }

by-on : (c : Command) (s : SlaveState) (d : Datagram) → d.command ≡ c → GoesOn d (meets_by c s d).datagram
by-on Nop s d e = record { command = refl; address = stays Nop d e refl }
by-on Aprd s d e = physical-on s d
by-on Apwr s d e = physical-on s d
by-on Aprw s d e = physical-on s d
by-on Fprd s d e = physical-on s d
by-on Fpwr s d e = physical-on s d
by-on Fprw s d e = physical-on s d
by-on Brd s d e = physical-on s d
by-on Bwr s d e = physical-on s d
by-on Brw s d e = physical-on s d
by-on Lrd s d e = logical-on true false 1 Lrd s d e refl
by-on Lwr s d e = logical-on false true 1 Lwr s d e refl
by-on Lrw s d e = lrw-on s.kind.lrw s d e
  where
    lrw-on : (b : Bool) (s : SlaveState) (d : Datagram) → d.command ≡ Lrw → (let m : Met = if b then meets_logically true true 2 s d else record { slave = s; datagram = d } in GoesOn d m.datagram)
    lrw-on true s d e = logical-on true true 2 Lrw s d e refl
    lrw-on false s d e = record { command = refl; address = stays Lrw d e refl }
by-on Armw s d e = physical-on s d
by-on Frmw s d e = physical-on s d

pub goes_on : DatagramsGoOn
unfolding meets
goes_on s d = by-on d.command s d refl

pub datagrams_stay : DatagramsStay
datagrams_stay = meets-keeps

pub datagrams_stay_past : DatagramsStayPast
datagrams_stay_past = past-keeps

pub logical_meet : LogicalCommandsMeet
unfolding meets
logical_meet s d = record {
  nop = λ e. ap (λ (c : Command). meets_by c s d) e;
  lrd = λ e. ap (λ (c : Command). meets_by c s d) e;
  lwr = λ e. ap (λ (c : Command). meets_by c s d) e;
  lrw = λ e k. ap (λ (c : Command). meets_by c s d) e ∙ if_true _ _ _ k;
  no_lrw = λ e k. ap (λ (c : Command). meets_by c s d) e ∙ if_false _ _ _ k;
}

-- ---- a fault and the application

lost-is : (o : Option Bool) (m : SyncManager) → IsLost m (awaited_if o (locked_empty m))
lost-is None m = record { settings = refl; locked = refl; buffer = refl; mail = refl }
lost-is (Some b) m = record { settings = refl; locked = refl; buffer = refl; mail = refl }

pub faults : FaultsAreInOp
unfolding faulted
faults s = record { in_op = λ e. if_true _ _ _ e; lost = lost-is (awaited_by s.kind.hardware (has_outputs s) Op SafeOp) (manager_at s.managers 2); elsewhere = λ e. if_false _ _ _ e }

pub by_bytes : ApplicationsGoByBytes
unfolding inputs_put outputs_taken
by_bytes s inputs = record { none_put = refl; more_put = λ n. refl; none_taken = refl; more_taken = λ n. refl }
