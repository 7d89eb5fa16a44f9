-- A message is read back from its bytes, whatever follows them.
use Rattle.std.proofs.Common.{ℕ, ◌+◌, ◌*◌, ◌/◌, ◌%◌, ◌<◌, ◌≡◌, ◌==◌, not, nat_lt, true, false, Some, refl, ◌∙◌, ap, arith, List, ◌++◌, length, slice_index, length-append}
use Rattle.std.proofs.lemmas.Bool.{and_from, eq-eqb, le-ltb}
use Rattle.ec_bits.proofs.AnyLaws.{if_true}
use Rattle.ec_coe.specs.declared.message.Message.{Message}
use Rattle.ec_coe.specs.declared.message.Service.{Service}
use Rattle.ec_coe.specs.declared.message.SdoCommand.{SdoCommand}
use Rattle.ec_coe.specs.Messages.{message_bytes, message_in, message_read, message_length, service_of, service_number, command_of, command_number, IsMessage}

pub length-message : (m : Message) → length (message_bytes m) ≡ 16
unfolding message_bytes
length-message m = refl

-- the fields that the bytes say
pub command-read : (m : Message) (rest : List ℕ) → (message_in (message_bytes m ++ rest)).command ≡ command_of (command_number m.command)
unfolding message_bytes
command-read m rest = refl

pub service-read : (m : Message) (rest : List ℕ) → (message_in (message_bytes m ++ rest)).service ≡ service_of (service_number m.service)
unfolding message_bytes
service-read m rest = let e : 16 * service_number m.service / 16 ≡ service_number m.service = omega arith in ap service_of e

pub counter-read : (m : Message) (rest : List ℕ) → m.counter < 8 → (message_in (message_bytes m ++ rest)).counter ≡ m.counter
unfolding message_bytes
counter-read m rest l = let e : (3 + 16 * m.counter) / 16 % 8 ≡ m.counter = omega arith in e

pub index-read : (m : Message) (rest : List ℕ) → (message_in (message_bytes m ++ rest)).index ≡ m.index
unfolding message_bytes
index-read m rest = let e : m.index % 256 + 256 * (m.index / 256) ≡ m.index = omega arith in e

pub subindex-read : (m : Message) (rest : List ℕ) → (message_in (message_bytes m ++ rest)).subindex ≡ m.subindex
unfolding message_bytes
subindex-read m rest = refl

pub value-read : (m : Message) (rest : List ℕ) → (message_in (message_bytes m ++ rest)).value ≡ m.value
unfolding message_bytes
value-read m rest =
    let e : m.value % 256 + 256 * (m.value / 256 % 256) + 65536 * (m.value / 65536 % 256) + 16777216 * (m.value / 16777216) ≡ m.value = omega arith in e

message-alike : (m n : Message) → m.counter ≡ n.counter → m.service ≡ n.service → m.command ≡ n.command → m.index ≡ n.index → m.subindex ≡ n.subindex → m.value ≡ n.value → m ≡ n
message-alike m n a b c d e f =
    ap (λ (x : ℕ). record { counter = x; service = m.service; command = m.command; index = m.index; subindex = m.subindex; value = m.value }) a
    ∙ (ap (λ (x : Service). record { counter = n.counter; service = x; command = m.command; index = m.index; subindex = m.subindex; value = m.value }) b
    ∙ (ap (λ (x : SdoCommand). record { counter = n.counter; service = n.service; command = x; index = m.index; subindex = m.subindex; value = m.value }) c
    ∙ (ap (λ (x : ℕ). record { counter = n.counter; service = n.service; command = n.command; index = x; subindex = m.subindex; value = m.value }) d
    ∙ (ap (λ (x : ℕ). record { counter = n.counter; service = n.service; command = n.command; index = n.index; subindex = x; value = m.value }) e
    ∙ ap (λ (x : ℕ). record { counter = n.counter; service = n.service; command = n.command; index = n.index; subindex = n.subindex; value = x }) f))))

long-enough : (m : Message) (rest : List ℕ) → nat_lt (length (message_bytes m ++ rest)) message_length ≡ false
long-enough m rest =
    let a : length (message_bytes m ++ rest) ≡ length (message_bytes m) + length rest = length-append (message_bytes m) rest in
    let b = length-message m in
    le-ltb (length (message_bytes m ++ rest)) message_length (omega (arith, a, b))

has-length : (m : Message) (rest : List ℕ) → (slice_index (message_bytes m ++ rest) 0 + 256 * slice_index (message_bytes m ++ rest) 1 == 10) ≡ true
unfolding message_bytes
has-length m rest = refl

pub has-type : (m : Message) (rest : List ℕ) → (slice_index (message_bytes m ++ rest) 5 % 16 == 3) ≡ true
unfolding message_bytes
has-type m rest = eq-eqb ((3 + 16 * m.counter) % 16) 3 (omega arith)

pub reads-as-message : (m : Message) (rest : List ℕ) → message_read (message_bytes m ++ rest) ≡ Some (message_in (message_bytes m ++ rest))
unfolding message_read
reads-as-message m rest = if_true _ _ _ (and_from _ _ (ap not (long-enough m rest)) (and_from _ _ (has-length m rest) (has-type m rest)))

pub reads_back : (m : Message) (rest : List ℕ) → IsMessage m → message_read (message_bytes m ++ rest) ≡ Some m
reads_back m rest h =
    reads-as-message m rest
    ∙ ap (λ (x : Message). Some x) (message-alike (message_in (message_bytes m ++ rest)) m (counter-read m rest h.counter) (service-read m rest ∙ h.own_service) (command-read m rest ∙ h.own_command) (index-read m rest) (subindex-read m rest) (value-read m rest))
