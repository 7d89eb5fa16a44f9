-- The parts of a type as the reader finds them, each with its ranges, beside the limits of a slave's type.
use Rattle.std.proofs.Common.{◌≡◌, ◌≢◌, ℕ, ◌<◌, ◌≤◌, List, [], ◌∷◌, length, get_or, All, AllPairs, Some, Option, sym, ◌∙◌, arith}
use Rattle.std.specs.Option.{ForSome}
use Rattle.std.proofs.lemmas.List.{get_or-map, length-map}
use Rattle.ec_device.specs.declared.slave_type.Entry.{Entry}
use Rattle.ec_device.specs.declared.slave_type.Pdo.{Pdo}
use Rattle.ec_device.specs.declared.slave_type.Mailbox.{Mailbox}
use Rattle.ec_device.specs.Types.{IsEntry, IsPdo, ArePdos, IsMailbox}
use Rattle.ec_table.specs.declared.rows.Direction.{Direction}
use Rattle.ec_table.specs.declared.rows.Direction.TheVariants.{Out, In}
use Rattle.ec_table.specs.declared.rows.TypeRow.{TypeRow}
use Rattle.ec_table.specs.Contents.{pdos_toward}
use Rattle.ec_table.specs.Pdos.{indices_of}
use Rattle.ec_table.specs.Sound.{IsName, IsOnce, IsDevice, HasMailboxStarts, HasName, IsDescribed, AreDownloads, IsType, first_index}

pub record ReadMailbox (m : Mailbox) : Type 0 where
  pub receive_start : m.receive_start ≤ 65535
  pub receive_least : 16 ≤ m.receive_size
  pub receive_most : m.receive_size ≤ 1024
  pub send_start : m.send_start ≤ 65535
  pub send_least : 16 ≤ m.send_size
  pub send_most : m.send_size ≤ 1024

pub record ReadEntry (e : Entry) : Type 0 where
  pub index : e.index ≤ 65535
  pub subindex : e.subindex ≤ 255
  pub least : 1 ≤ e.bits
  pub most : e.bits ≤ 64
  pub gap : e.index ≡ 0 → e.subindex ≡ 0

abbrev pub last_index : Direction → ℕ
last_index Out = 0x17FF
last_index In = 0x1BFF

pub record ReadPdo (d : Direction) (q : Pdo) : Type 0 where
  pub first : first_index d ≤ q.index
  pub last : q.index ≤ last_index d
  pub entries : All ReadEntry q.entries
  pub few : length q.entries ≤ 64

pub record ReadPdos (d : Direction) (pdos : List Pdo) : Type 0 where
  pub each : All (ReadPdo d) pdos
  pub few : length pdos ≤ 16
  pub once : IsOnce (indices_of pdos)

-- ---- from what was read to the limits

entry_limits : (e : Entry) → ReadEntry e → IsEntry e
entry_limits e h = record { some = h.least; few = h.most; gap = h.gap }

pdo_limits : (d : Direction) (q : Pdo) → ReadPdo d q → IsPdo (first_index d) q
pdo_limits Out q h = record { from = h.first; below = omega (arith, h.last); few = h.few; entries = λ k e lt. entry_limits _ (h.entries k e lt) }
pdo_limits In q h = record { from = h.first; below = omega (arith, h.last); few = h.few; entries = λ k e lt. entry_limits _ (h.entries k e lt) }

apart_from_once : (pdos : List Pdo) → IsOnce (indices_of pdos) → AllPairs (λ p q. p.index ≢ q.index) pdos
apart_from_once pdos h i j d lt below same =
    let at : (k : ℕ) → k < length pdos → get_or (indices_of pdos) k d.index ≡ (get_or pdos k d).index = λ k b. get_or-map (λ (q : Pdo). q.index) pdos k d d.index b in
    h i j d.index lt (omega (arith, length-map pdos (λ (q : Pdo). q.index))) (at i (omega arith) ∙ same ∙ sym (at j below))

pdos_limits : (d : Direction) (pdos : List Pdo) → ReadPdos d pdos → ArePdos (first_index d) pdos
pdos_limits d pdos h = record { few = h.few; each = λ k e lt. pdo_limits d _ (h.each k e lt); apart = apart_from_once pdos h.once }

mailbox_limits : (o : Option Mailbox) → ((m : Mailbox) → o ≡ Some m → ReadMailbox m) → ForSome o IsMailbox
mailbox_limits o h = λ m is. record { receive_some = (h m is).receive_least; receive_few = (h m is).receive_most; send_some = (h m is).send_least; send_few = (h m is).send_most }

pub type_read : (t : TypeRow) → IsName t.name → IsDevice t.device → ((m : Mailbox) → t.mailbox ≡ Some m → ReadMailbox m) → t.process.out_start ≤ 65535 → t.process.in_start ≤ 65535 → ((d : Direction) → ReadPdos d (pdos_toward d t)) → ForSome t.hardware (IsDescribed t) → AreDownloads t.mailbox t.init → IsType t
type_read t name device mailbox out_start in_start pdos hardware init = record {
  name = name;
  device = device;
  limits = record { mailbox = mailbox_limits t.mailbox mailbox; outputs = pdos_limits Out t.process.outputs (pdos Out); inputs = pdos_limits In t.process.inputs (pdos In) };
  mailbox = λ m is. record { receive = (mailbox m is).receive_start; send = (mailbox m is).send_start };
  out_start = out_start;
  in_start = in_start;
  entries = λ d k q lt i e within. let is : ReadEntry _ = ((pdos d).each k q lt).entries i e within in record { index = is.index; subindex = is.subindex };
  hardware = hardware;
  init = init;
}

-- ---- and back

entry_ranges : (e : Entry) → IsEntry e → HasName e → ReadEntry e
entry_ranges e h n = record { index = n.index; subindex = n.subindex; least = h.some; most = h.few; gap = h.gap }

pdo_ranges : (d : Direction) (q : Pdo) → IsPdo (first_index d) q → All HasName q.entries → ReadPdo d q
pdo_ranges Out q h n = record { first = h.from; last = omega (arith, h.below); few = h.few; entries = λ k e lt. entry_ranges _ (h.entries k e lt) (n k e lt) }
pdo_ranges In q h n = record { first = h.from; last = omega (arith, h.below); few = h.few; entries = λ k e lt. entry_ranges _ (h.entries k e lt) (n k e lt) }

once_from_apart : (pdos : List Pdo) → AllPairs (λ p q. p.index ≢ q.index) pdos → IsOnce (indices_of pdos)
once_from_apart [] h i j d lt below = absurd (omega arith)
once_from_apart (p ∷ ps) h i j d lt below =
    let count : length (indices_of (p ∷ ps)) ≡ length (p ∷ ps) = length-map (p ∷ ps) (λ (q : Pdo). q.index) in
    let within : j < length (p ∷ ps) = omega (arith, count) in
    let earlier : i < length (p ∷ ps) = omega arith in
    λ same. h i j p lt within (sym (get_or-map (λ (q : Pdo). q.index) (p ∷ ps) i p d earlier) ∙ same ∙ get_or-map (λ (q : Pdo). q.index) (p ∷ ps) j p d within)

pub limits_toward : (t : TypeRow) → IsType t → (d : Direction) → ArePdos (first_index d) (pdos_toward d t)
limits_toward t h Out = h.limits.outputs
limits_toward t h In = h.limits.inputs

pub pdos_toward_read : (t : TypeRow) → IsType t → (d : Direction) → ReadPdos d (pdos_toward d t)
pdos_toward_read t h d =
    let limits : ArePdos (first_index d) (pdos_toward d t) = limits_toward t h d in
    record { each = λ k q lt. pdo_ranges d _ (limits.each k q lt) (h.entries d k q lt); few = limits.few; once = once_from_apart (pdos_toward d t) limits.apart }

pub mailbox_read : (t : TypeRow) → IsType t → (m : Mailbox) → t.mailbox ≡ Some m → ReadMailbox m
mailbox_read t h m is =
    let limits : IsMailbox m = h.limits.mailbox m is in
    let starts : HasMailboxStarts m = h.mailbox m is in
    record { receive_start = starts.receive; receive_least = limits.receive_some; receive_most = limits.receive_few; send_start = starts.send; send_least = limits.send_some; send_most = limits.send_few }
