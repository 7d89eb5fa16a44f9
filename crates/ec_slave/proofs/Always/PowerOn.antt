-- What an SII keeps, and a slave as the power comes on.
use Rattle.std.proofs.Common.{ℕ, ◌%◌, ◌==◌, ◌≡◌, List, [], ◌∷◌, Bool, true, false, if◌then◌else◌, nat_le, Option, Some, None, refl, ◌∙◌, ap}
use Rattle.ec_sii.specs.declared.image.SiiImage.{SiiImage}
use Rattle.ec_dl.specs.DataLink.{DataLink, new_data_link}
use Rattle.ec_sii.specs.SiiImage.{image_of}
use Rattle.ec_sii.specs.Port.{Sii, idle_port, addressed, address_written, byte_for, commanded, command_address, written, stepped, two_words, last_address}
use Rattle.ec_bits.specs.Bits.{zeros}
use Rattle.ec_al.specs.Al as al
use Rattle.ec_al.specs.Al.{Al}
use Rattle.ec_sync.specs.SyncManager.{SyncManager, no_manager}
use Rattle.ec_slave.specs.State.{SlaveState, memory_length, power_on}
use Rattle.ec_coe.specs.Objects.{Dictionary, all_assigned}
use Rattle.ec_coe.specs.SwitchedOn.{first_values, new_dictionary}

abbrev image-of : Sii → SiiImage
image-of p = p.image

either : (b : Bool) (x y : Sii) (i : SiiImage) → image-of x ≡ i → image-of y ≡ i → image-of (if b then x else y) ≡ i
either true x y i h k = h
either false x y i h k = k

commanded-image : (p : Sii) (o : Option ℕ) → image-of (commanded p o) ≡ p.image
commanded-image p None = refl
commanded-image p (Some n) =
    let clear : Sii = record { image = p.image; address = p.address; busy = p.busy; error = false; found = p.found } in
    let begin : Sii = record { image = p.image; address = p.address; busy = true; error = false; found = p.found } in
    let fault : Sii = record { image = p.image; address = p.address; busy = p.busy; error = true; found = p.found } in
    either (n % 8 == 0) clear (if n % 8 == 1 then begin else fault) p.image refl (either (n % 8 == 1) begin fault p.image refl refl)

-- no write changes what the SII holds
pub written-image : (p : Sii) (from : ℕ) (bytes : List ℕ) → (written p from bytes).image ≡ p.image
unfolding written
written-image p from bytes =
    let q : Sii = addressed p (address_written p.address from bytes) in
    either p.busy p (commanded q (byte_for from bytes command_address)) p.image refl (commanded-image q (byte_for from bytes command_address))

-- no firmware step changes what the SII holds
pub stepped-image : (p : Sii) → (stepped p).image ≡ p.image
unfolding stepped
stepped-image p =
    let done : Sii = record { image = p.image; address = p.address; busy = false; error = p.error; found = two_words p.image p.address } in
    let fault : Sii = record { image = p.image; address = p.address; busy = false; error = true; found = p.found } in
    either p.busy (if nat_le p.address (last_address p.image) then done else fault) p p.image (either (nat_le p.address (last_address p.image)) done fault p.image refl refl) refl

-- a slave of these parts
abbrev pub state_of : Dictionary → List ℕ → List SyncManager → Al → Sii → DataLink → ℕ → SlaveState
state_of d memory managers a sii link replies = record {
  kind = d.kind;
  identity = d.identity;
  memory = memory;
  managers = managers;
  al = a;
  sii = sii;
  link = link;
  outs = d.outs;
  ins = d.ins;
  values = d.values;
  replies = replies;
}

-- a slave all of whose parts are as the power comes on
pub powered : (s : SlaveState) → s.memory ≡ zeros memory_length → s.managers ≡ (no_manager ∷ no_manager ∷ no_manager ∷ no_manager ∷ []) → s.al ≡ al.power_on
    → s.sii ≡ idle_port (image_of s.kind s.identity) → s.link ≡ new_data_link s.kind.face → s.outs ≡ all_assigned s.kind.outputs → s.ins ≡ all_assigned s.kind.inputs
    → s.values ≡ first_values s.kind s.identity → s.replies ≡ 0 → s ≡ power_on s.kind s.identity
unfolding power_on
powered s memory managers al sii link outs ins values replies =
    ap (λ x. record s { memory = x }) memory
    ∙ (ap (λ x. record s { memory = zeros memory_length; managers = x }) managers
    ∙ (ap (λ x. record (power_on s.kind s.identity) { al = x; sii = s.sii; link = s.link; outs = s.outs; ins = s.ins; values = s.values; replies = s.replies }) al
    ∙ (ap (λ x. record (power_on s.kind s.identity) { sii = x; link = s.link; outs = s.outs; ins = s.ins; values = s.values; replies = s.replies }) sii
    ∙ (ap (λ x. record (power_on s.kind s.identity) { link = x; outs = s.outs; ins = s.ins; values = s.values; replies = s.replies }) link
    ∙ (ap (λ x. record (power_on s.kind s.identity) { outs = x; ins = s.ins; values = s.values; replies = s.replies }) outs
    ∙ (ap (λ x. record (power_on s.kind s.identity) { ins = x; values = s.values; replies = s.replies }) ins
    ∙ (ap (λ x. record (power_on s.kind s.identity) { values = x; replies = s.replies }) values
    ∙ ap (λ x. record (power_on s.kind s.identity) { replies = x }) replies)))))))

-- a slave whose dictionary was reset, and whose other parts are as the power comes on
pub reset-as-new : (old new : Dictionary) (memory : List ℕ) (managers : List SyncManager) (a : Al) (sii : Sii) (link : DataLink) → new ≡ new_dictionary old.kind old.identity
    → memory ≡ zeros memory_length → managers ≡ (no_manager ∷ no_manager ∷ no_manager ∷ no_manager ∷ []) → a ≡ al.power_on
    → sii ≡ idle_port (image_of old.kind old.identity) → link ≡ new_data_link old.kind.face
    → state_of new memory managers a sii link 0 ≡ power_on old.kind old.identity
unfolding power_on
reset-as-new old new memory managers a sii link d m ms e i l =
    ap (λ (x : Dictionary). state_of x memory managers a sii link 0) d
    ∙ powered (state_of (new_dictionary old.kind old.identity) memory managers a sii link 0) m ms e i l refl refl refl refl
