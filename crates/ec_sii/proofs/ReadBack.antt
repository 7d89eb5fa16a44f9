-- What stands in a category is read back.
use Rattle.std.proofs.Common.{ℕ, suc, ◌/◌, ◌%◌, ◌<◌, ◌≡◌, List, [], ◌∷◌, ◌++◌, length, map, take, Bool, true, false, if◌then◌else◌, All, Option, Some, None, refl, ap, ◌∙◌, arith, append-nil, lit<, ◌==◌}
use Rattle.std.specs.List.{flat_map}
use Rattle.std.proofs.lemmas.List.Elements.{All-cons, All-append}
use Rattle.ec_device.specs.declared.slave_type.Entry.{Entry}
use Rattle.ec_device.specs.declared.slave_type.Pdo.{Pdo}
use Rattle.ec_device.specs.declared.slave_type.Mailbox.{Mailbox}
use Rattle.ec_regs.specs.declared.manager.SyncManagerSettings.{SyncManagerSettings}
use Rattle.ec_regs.specs.Managers.{no_settings, area_settings, mailbox_out_control, mailbox_in_control, outputs_control, inputs_control}
use Rattle.ec_device.specs.Types.{SlaveKind, pdos_bits}
use Rattle.ec_sii.specs.declared.categories.SiiManager.{SiiManager}
use Rattle.ec_sii.specs.Categories.{pair, words_of, strings_words, entry_words, pdo_words, mailbox_managers, data_settings, data_managers, manager_words, managers_words, sii_managers}
use Rattle.ec_sii.specs.Reading.{bytes_of, strings_read, managers_read, ReadPdos, entries_read}

first_of_all : {X : Type 0} (P : X → Type 0) → (x : X) (xs : List X) → All P (x ∷ xs) → P x
first_of_all P x xs h = h 0 x (omega arith)

rest_of_all : {X : Type 0} (P : X → Type 0) → (x : X) (xs : List X) → All P (x ∷ xs) → All P xs
rest_of_all P x xs h k d below = h (suc k) d (omega arith)

-- ---- PDOs

-- subindices and numbers of entries that are bytes
abbrev pub HasBytes : Entry → Type 0
HasBytes e = e.subindex < 256

entry-back : (e : Entry) → HasBytes e → record { index = e.index; subindex = pair e.subindex 0 % 256; bits = pair 0 e.bits / 256 } ≡ e
entry-back e h =
    let s : pair e.subindex 0 % 256 ≡ e.subindex = omega arith in
    let b : pair 0 e.bits / 256 ≡ e.bits = omega arith in
    rw (s, b) refl

-- entries are read back, and then what stands behind them
entries-back : (es : List Entry) (ws : List ℕ) → All HasBytes es → entries_read (length es) (flat_map entry_words es ++ ws) ≡ record { entries = es ++ (entries_read 0 ws).entries; pdos = (entries_read 0 ws).pdos }
unfolding entries_read
entries-back [] ws h = refl
entries-back (e ∷ es) ws h = rw (entries-back es ws (rest_of_all HasBytes e es h), entry-back e (first_of_all HasBytes e es h)) refl

pdo-back : (manager : ℕ) (p : Pdo) (ws : List ℕ) → length p.entries < 256 → All HasBytes p.entries → (entries_read 0 ws).entries ≡ []
    → entries_read 0 (pdo_words manager p ++ ws) ≡ record { entries = []; pdos = record { manager = manager; pdo = p } ∷ (entries_read 0 ws).pdos }
unfolding entries_read
pdo-back manager p ws few bytes none =
    let number : pair (length p.entries) manager % 256 ≡ length p.entries = omega arith in
    let mover : pair (length p.entries) manager / 256 ≡ manager = omega arith in
    rw (number, mover, entries-back p.entries ws bytes, none, append-nil) refl

pub pdos-back : (manager : ℕ) (ps : List Pdo) → All (λ p. length p.entries < 256) ps → All (λ p. All HasBytes p.entries) ps
    → entries_read 0 (flat_map (pdo_words manager) ps) ≡ record { entries = []; pdos = map (λ p. record { manager = manager; pdo = p }) ps }
unfolding entries_read
pdos-back manager [] few bytes = refl
pdos-back manager (p ∷ ps) few bytes =
    let rest : entries_read 0 (flat_map (pdo_words manager) ps) ≡ record { entries = []; pdos = map (λ q. record { manager = manager; pdo = q }) ps } =
    pdos-back manager ps (rest_of_all (λ (q : Pdo). length q.entries < 256) p ps few) (rest_of_all (λ (q : Pdo). All HasBytes q.entries) p ps bytes) in
    pdo-back manager p (flat_map (pdo_words manager) ps) (first_of_all (λ (q : Pdo). length q.entries < 256) p ps few) (first_of_all (λ (q : Pdo). All HasBytes q.entries) p ps bytes) (ap (λ (r : ReadPdos). r.entries) rest)
    ∙ ap (λ (r : ReadPdos). let all : ReadPdos = record { entries = []; pdos = record { manager = manager; pdo = p } ∷ r.pdos } in all) rest

-- ---- sync managers

manager-back : (m : SiiManager) (ws : List ℕ) → m.settings.control < 256 → m.settings.activate < 256 → managers_read (manager_words m ++ ws) ≡ m ∷ managers_read ws
unfolding managers_read
manager-back m ws control activate =
    let c : pair m.settings.control 0 % 256 ≡ m.settings.control = omega arith in
    let a : pair m.settings.activate m.usage % 256 ≡ m.settings.activate = omega arith in
    let u : pair m.settings.activate m.usage / 256 ≡ m.usage = omega arith in
    rw (c, a, u) refl

-- the settings that a category can show
abbrev IsShown : SiiManager → Type 0
IsShown m = (m.settings.control < 256) × (m.settings.activate < 256)

all-back : (ms : List SiiManager) → All IsShown ms → managers_read (flat_map manager_words ms) ≡ ms
unfolding managers_read
all-back [] h = refl
all-back (m ∷ ms) h =
    let one : IsShown m = first_of_all IsShown m ms h in
    manager-back m (flat_map manager_words ms) one.0 one.1 ∙ ap (λ (rest : List SiiManager). m ∷ rest) (all-back ms (rest_of_all IsShown m ms h))

switch : (b : Bool) → (if b then 0 else 1) < 256
switch true = omega arith
switch false = omega arith

none_of_all : {X : Type 0} (P : X → Type 0) → All P []
none_of_all P k d below = absurd (omega arith)

two-shown : (a b : SiiManager) → IsShown a → IsShown b → All IsShown (a ∷ b ∷ [])
two-shown a b h k = All-cons IsShown a (b ∷ []) h (All-cons IsShown b [] k (none_of_all IsShown))

settings-shown : (s : SyncManagerSettings) (usage : ℕ) → s.control < 256 → s.activate < 256 → IsShown (record { settings = s; usage = usage })
settings-shown s usage h k = (h, k)

area-shown : (start length control usage : ℕ) → control < 256 → IsShown (record { settings = area_settings start length control; usage = usage })
area-shown start length control usage h = (h, lit< tt)

data-shown : (start bits control usage : ℕ) → control < 256 → IsShown (record { settings = data_settings start bits control; usage = usage })
data-shown start bits control usage h = (h, switch (bits == 0))

pair-shown : (kind : SlaveKind) → All IsShown (data_managers kind)
pair-shown kind = two-shown _ _ (data-shown kind.out_start (pdos_bits kind.outputs) outputs_control 3 (lit< tt)) (data-shown kind.in_start (pdos_bits kind.inputs) inputs_control 4 (lit< tt))

mailbox-shown : (o : Option Mailbox) → All IsShown (mailbox_managers o)
mailbox-shown None = two-shown _ _ (settings-shown no_settings 0 (lit< tt) (lit< tt)) (settings-shown no_settings 0 (lit< tt) (lit< tt))
mailbox-shown (Some m) = two-shown _ _ (area-shown m.receive_start m.receive_size mailbox_out_control 1 (lit< tt)) (area-shown m.send_start m.send_size mailbox_in_control 2 (lit< tt))

pub managers-back : (kind : SlaveKind) → managers_read (managers_words kind) ≡ sii_managers kind
managers-back kind = all-back (sii_managers kind) (All-append IsShown (mailbox_managers kind.mailbox) (data_managers kind) (mailbox-shown kind.mailbox) (pair-shown kind))

-- ---- bytes

-- the bytes of a text are read back, perhaps with a 0 behind them
text-back : (xs : List ℕ) → All (λ x. x < 256) xs → take (length xs) (bytes_of (words_of xs)) ≡ xs
text-back [] h = refl
text-back (x ∷ []) h =
    let small : x < 256 = first_of_all (λ (z : ℕ). z < 256) x [] h in
    let low : pair x 0 % 256 ≡ x = omega arith in ap (λ (z : ℕ). z ∷ []) low
text-back (x ∷ y ∷ xs) h =
    let small : x < 256 = first_of_all (λ (z : ℕ). z < 256) x (y ∷ xs) h in
    let low : pair x y % 256 ≡ x = omega arith in
    let high : pair x y / 256 ≡ y = omega arith in
    rw (low, high, text-back xs (rest_of_all (λ (z : ℕ). z < 256) y xs (rest_of_all (λ (z : ℕ). z < 256) x (y ∷ xs) h))) refl

pub strings-back : (name : List ℕ) → All (λ x. x < 256) name → strings_read (strings_words name) ≡ record { number = 1; first = name }
strings-back name h =
    let low : pair 1 (length name) % 256 ≡ 1 = omega arith in
    let high : pair 1 (length name) / 256 ≡ length name = omega arith in
    rw (low, high, text-back name h) refl
