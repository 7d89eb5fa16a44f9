-- A question past slaves: a read of the AL status changes no slave, and brings what the slave's registers show.
use Rattle.std.proofs.Common.{ℕ, suc, ◌+◌, ◌%◌, ◌<◌, ◌≤◌, ◌≡◌, ◌≢◌, List, [], ◌∷◌, length, Bool, true, false, Some, refl, sym, ◌∙◌, ap, inl, inr, arith, slice_index}
use Rattle.std.specs.Prelude.{slice_get}
use Rattle.std.specs.Int.{from_bool}
use Rattle.std.proofs.lemmas.Bool.{cases_eq, eq-eqb}
use Rattle.ec_bits.proofs.AnyLaws.{any_below_from, if_true}
use Rattle.ec_frame.specs.declared.command.Command.{Command}
use Rattle.ec_frame.specs.declared.command.Command.TheVariants.{Fprd, Nop}
use Rattle.ec_slave.specs.Interface.{Datagram, IsDatagram, Met, OnlyReads, SlaveState, adp_after, adp_of, ado_of, byte_at, datagram_met, is_joining, is_reading, is_writing, may_read_byte, role_of, slave_met, some_byte_read, station_of, touches, window_of}
use Rattle.ec_slave.specs.Meeting.{passes}
use Rattle.ec_slave.proofs.Commands.PassedBy.{other_station_passes}
use Rattle.ec_slave.proofs.Memory.WritesByByte.{reads_by_byte}
use Rattle.ec_slave.proofs.Commands.CommandLaws.{datagrams_stay, goes_on, logical_meet, reads_meet}
use Rattle.ec_slave.proofs.Memory.RegisterLaws.{registers_open, registers_read}
use Rattle.ec_ring.specs.Rings.{RingPassed, passes_ring}
use Rattle.ec_ring.proofs.AddressLaws.{station_means_one}
use Rattle.ec_frame.specs.Names.{name_datagram}
use Rattle.ec_start.specs.Actions.{station}
use Rattle.ec_start.specs.Running.{last_number}
use Rattle.ec_asking.specs.declared.question.Question.TheVariants.{Status}
use Rattle.ec_asking.specs.Questions.{datagram_of, told_by, told_in}
use Rattle.ec_asking.specs.Laws.{NobodyIsNothing, StatusIsOnlyRead, StatusIsTheSlaves, register_word}

-- ---- the datagram that names the frame stands aside

pub nop_aside : (ss : List SlaveState) (n : Datagram) (ds : List Datagram) → n.command ≡ Nop → passes_ring ss (n ∷ ds) ≡ record { slaves = (passes_ring ss ds).slaves; datagrams = n ∷ (passes_ring ss ds).datagrams }
nop_aside [] n ds c = refl
nop_aside (s ∷ ss) n ds c =
    let met : Met → RingPassed = λ m. record {
      slaves = (passes m.slave ds).slave ∷ (passes_ring ss (m.datagram ∷ (passes m.slave ds).datagrams)).slaves;
      datagrams = (passes_ring ss (m.datagram ∷ (passes m.slave ds).datagrams)).datagrams;
    } in
    ap met ((logical_meet s n).nop c) ∙ ap (λ (r : RingPassed). record { slaves = (passes s ds).slave ∷ r.slaves; datagrams = r.datagrams }) (nop_aside ss n (passes s ds).datagrams c)

-- ---- the datagram that reads

record IsReader (d : Datagram) : Type 0 where
  pub good : IsDatagram d
  pub command : d.command ≡ Fprd
  pub ado : ado_of d ≡ 0x0130
  pub size : length d.data_bytes ≡ 6

sent_good : (slave : ℕ) → slave < 64 → IsDatagram (datagram_of (Status slave))
sent_good slave few = record {
  index = omega arith;
  address = omega (arith, few);
  reserved = omega arith;
  irq = omega arith;
  data_bytes = omega arith;
  counter = omega arith;
}

sent_adp : (slave : ℕ) → slave < 64 → adp_of (datagram_of (Status slave)) ≡ station slave
sent_adp slave few = omega (arith, few)

sent_ado : (slave : ℕ) → slave < 64 → ado_of (datagram_of (Status slave)) ≡ 0x0130
sent_ado slave few = omega (arith, few)

sent_reads : (slave : ℕ) → slave < 64 → IsReader (datagram_of (Status slave))
sent_reads slave few = record { good = sent_good slave few; command = refl; ado = sent_ado slave few; size = refl }

-- past a slave it reads there too
reads_on : (s : SlaveState) (d : Datagram) → IsReader d → IsReader (datagram_met s d)
reads_on s d r =
    let stays = datagrams_stay s d r.good in
    let goes = (goes_on s d).address in
    let adp : adp_after d.command (adp_of d) ≡ adp_of d = ap (λ (c : Command). adp_after c (adp_of d)) r.command in
    let ado = r.ado in
    record {
      good = stays.0;
      command = (goes_on s d).command ∙ r.command;
      ado = omega (arith, goes, adp, ado);
      size = stays.1 ∙ r.size;
    }

own_reads : (s : SlaveState) (d : Datagram) → d.command ≡ Fprd → adp_of d ≡ station_of s → OnlyReads s d
own_reads s d c e = record {
  reads = ap (λ (x : Command). is_reading (role_of x (adp_of d) (station_of s))) c ∙ ap is_reading (if_true _ _ _ (eq-eqb _ _ e));
  writes = ap (λ (x : Command). is_writing (role_of x (adp_of d) (station_of s))) c ∙ ap is_writing (if_true _ _ _ (eq-eqb _ _ e));
  joins = ap (λ (x : Command). is_joining (role_of x (adp_of d) (station_of s))) c ∙ ap is_joining (if_true _ _ _ (eq-eqb _ _ e));
}

below_ram : (d : Datagram) → IsReader d → ado_of d + length d.data_bytes ≤ 0x1000
below_ram d r = let a = r.ado in let b = r.size in omega (arith, a, b)

slave_stays : (s : SlaveState) (d : Datagram) → IsReader d → slave_met s d ≡ s
slave_stays s d r = elim (cases_eq (adp_of d) (station_of s)) [
  | inl e ↦ (reads_meet s d (own_reads s d r.command e)).slave ∙ registers_read s (window_of d) (below_ram d r)
  | inr ne ↦ ap (λ (m : Met). m.slave) (other_station_passes s d r.good (inl r.command) ne)
]

only_read : (ss : List SlaveState) (d : Datagram) → IsReader d → (passes_ring ss (d ∷ [])).slaves ≡ ss
only_read [] d r = refl
only_read (s ∷ ss) d r =
    ap (λ (t : SlaveState). t ∷ (passes_ring ss (datagram_met s d ∷ [])).slaves) (slave_stays s d r) ∙ ap (λ (xs : List SlaveState). s ∷ xs) (only_read ss (datagram_met s d) (reads_on s d r))

pub status_is_only_read : StatusIsOnlyRead
status_is_only_read ss slave count few =
    ap (λ (r : RingPassed). r.slaves) (nop_aside ss (name_datagram last_number count) (datagram_of (Status slave) ∷ []) refl) ∙ only_read ss (datagram_of (Status slave)) (sent_reads slave few)

-- ---- what it brings

read_byte : (s : SlaveState) (d : Datagram) (k : ℕ) → IsReader d → adp_of d ≡ station_of s → k < 6 → slice_index (datagram_met s d).data_bytes k ≡ byte_at s (0x0130 + k)
read_byte s d k r e few =
    let w = window_of d in
    let size = r.size in
    let ado = r.ado in
    ap (λ (xs : List ℕ). slice_index xs k) (reads_meet s d (own_reads s d r.command e)).bytes
    ∙ ((reads_by_byte s false w k (omega (arith, size, few))).given (registers_open s.managers (touches w) (ado_of d + k) (omega (arith, ado, few))).reads
    ∙ ap (λ (a : ℕ). byte_at s (a + k)) ado)

read_counts : (s : SlaveState) (d : Datagram) → IsReader d → adp_of d ≡ station_of s → d.counter ≡ 0 → (datagram_met s d).counter ≡ 1
read_counts s d r e none =
    let w = window_of d in
    let size = r.size in
    let ado = r.ado in
    let some : some_byte_read s.managers w ≡ true =
    any_below_from (length d.data_bytes) (λ j. may_read_byte s.managers (touches w) (ado_of d + j)) 0 (omega (arith, size)) (registers_open s.managers (touches w) (ado_of d + 0) (omega (arith, ado))).reads in
    (reads_meet s d (own_reads s d r.command e)).counter ∙ (ap (λ (b : Bool). (d.counter + from_bool b) % 65536) some ∙ ap (λ (n : ℕ). (n + 1) % 65536) none)

told_there : (s : SlaveState) (d : Datagram) → IsReader d → adp_of d ≡ station_of s → d.counter ≡ 0
    → told_by (datagram_met s d) ≡ Some (record { word = register_word s 0x0130; code = register_word s 0x0134 })
told_there s d r e none =
    let counts = read_counts s d r e none in
    let size = (reads_on s d r).size in
    let first = read_byte s d 0 r e (omega arith) in
    let second = read_byte s d 1 r e (omega arith) in
    let third = read_byte s d 4 r e (omega arith) in
    let fourth = read_byte s d 5 r e (omega arith) in
    rw (counts, size, first, second, third, fourth) refl

pub status_is_the_slaves : StatusIsTheSlaves
status_is_the_slaves ss slave count k s few is own others =
    let d = datagram_of (Status slave) in
    let n = name_datagram last_number count in
    let r = sent_reads slave few in
    let adp = sent_adp slave few in
    ap (λ (x : RingPassed). told_in x.datagrams) (nop_aside ss n (d ∷ []) refl)
    ∙ (ap (λ (x : RingPassed). told_in (n ∷ x.datagrams)) (station_means_one ss k s d r.good (inl refl) is (λ j t there ne e. others j t there ne (sym adp ∙ e)))
    ∙ told_there s d r (adp ∙ sym own) refl)

-- ---- nobody answers

nobody : (ss : List SlaveState) (d : Datagram) → IsReader d → ((j : ℕ) (t : SlaveState) → slice_get ss j ≡ Some t → adp_of d ≢ station_of t) → passes_ring ss (d ∷ []) ≡ record { slaves = ss; datagrams = d ∷ [] }
nobody [] d r ne = refl
nobody (s ∷ ss) d r ne =
    let met : Met → RingPassed = λ m. record { slaves = m.slave ∷ (passes_ring ss (m.datagram ∷ [])).slaves; datagrams = (passes_ring ss (m.datagram ∷ [])).datagrams } in
    ap met (other_station_passes s d r.good (inl r.command) (ne 0 s refl)) ∙ ap (λ (x : RingPassed). record { slaves = s ∷ x.slaves; datagrams = x.datagrams }) (nobody ss d r (λ j t there. ne (suc j) t there))

pub nobody_is_nothing : NobodyIsNothing
nobody_is_nothing ss slave count few none =
    let d = datagram_of (Status slave) in
    let n = name_datagram last_number count in
    let r = sent_reads slave few in
    let adp = sent_adp slave few in
    ap (λ (x : RingPassed). told_in x.datagrams) (nop_aside ss n (d ∷ []) refl)
    ∙ ap (λ (x : RingPassed). told_in (n ∷ x.datagrams)) (nobody ss d r (λ j t there e. none j t there (sym adp ∙ e)))
