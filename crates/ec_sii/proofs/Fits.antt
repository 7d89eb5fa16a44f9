-- Every word of a slave's image has 16 bits, and its categories are few enough for the size to fit in one.
use Rattle.std.proofs.Common.{ℕ, zero, suc, ◌-◌, ◌/◌, ◌%◌, ◌^◌, ◌<◌, ◌≤◌, ◌≡◌, ◌==◌, nat_le, Bool, true, false, if◌then◌else◌, List, [], ◌∷◌, ◌++◌, length, get_or, slice_index_or, All, Option, Some, None, unwrap_or, slice_get, refl, arith, lit<, lit≤, length-append}
use Rattle.std.specs.List.{flat_map}
use Rattle.std.specs.Option.{option_map, ForSome}
use Rattle.std.proofs.lemmas.List.Elements.{All-cons, All-append}
use Rattle.std.proofs.lemmas.List.Sums.{sum_by-le}
use Rattle.std.proofs.lemmas.Grind.{flat_map-append}
use Rattle.ec_bits.specs.Bits.{within, bytes_of_bits}
use Rattle.ec_device.specs.declared.slave_type.Entry.{Entry}
use Rattle.ec_device.specs.declared.slave_type.Pdo.{Pdo}
use Rattle.ec_device.specs.declared.slave_type.Mailbox.{Mailbox}
use Rattle.ec_device.specs.declared.slave_type.Identity.{Identity}
use Rattle.ec_device.specs.declared.slave_type.Face.{Face}
use Rattle.ec_device.specs.Types.{SlaveKind, IsPdo, ArePdos, IsMailbox, IsFace, pdo_bits, pdos_bits}
use Rattle.ec_device.proofs.Limits.{few_bits}
use Rattle.ec_sii.specs.Categories.{pair, words_of, category, strings_words, coe_details, general_flags, general_words, for_outputs, for_inputs, fmmus_words, mailbox_managers, data_settings, data_managers, manager_words, managers_words, entry_words, pdo_words, pdos_category, categories_of}
use Rattle.ec_sii.specs.SiiImage.{word_at, other_word, identity_words, mailbox_words, kibibits}
use Rattle.ec_sii.specs.Laws.{FitsEntry, FitsKind, FitsIdentity, WordsFit}
use Rattle.ec_sii.proofs.Lengths.{strings_few, managers_few, pdos_few, short_entries}

-- ---- the number of words

pdos-short : (number manager first : ℕ) (ps : List Pdo) → ArePdos first ps → length (pdos_category number manager ps) < 2 ^ 17
pdos-short number manager first [] h = lit< tt
pdos-short number manager first (p ∷ ps) h = omega (arith, pdos_few manager (p ∷ ps) h.few (short_entries first (p ∷ ps) h))

pub categories-few : (kind : SlaveKind) (face : Face) → FitsKind kind → kind.face ≡ Some face → length (categories_of kind face.name) < 2 ^ 22 - 2 ^ 7
unfolding categories_of
categories-few kind face h e =
    let named : IsFace face = h.face face e in
    simp length-append (omega (arith, strings_few face.name named.short, managers_few kind, pdos-short 50 3 0x1A00 kind.inputs h.limits.inputs, pdos-short 51 2 0x1600 kind.outputs h.limits.outputs))

-- ---- words of 16 bits

abbrev pub IsWord : ℕ → Type 0
IsWord w = w < 65536

-- all of a list, as a record
pub record AreWords (ws : List ℕ) : Type 0 where
  pub all : All IsWord ws

none : AreWords []
none = record { all = λ k d below. absurd (omega arith) }

add : (w : ℕ) {ws : List ℕ} → w < 65536 → AreWords ws → AreWords (w ∷ ws)
add w {ws} h hs = record { all = All-cons IsWord w ws h hs.all }

join : {xs ys : List ℕ} → AreWords xs → AreWords ys → AreWords (xs ++ ys)
join {xs} {ys} h k = record { all = All-append IsWord xs ys h.all k.all }

four : (a b c d : ℕ) → a < 65536 → b < 65536 → c < 65536 → d < 65536 → AreWords (a ∷ b ∷ c ∷ d ∷ [])
four a b c d ha hb hc hd = add a ha (add b hb (add c hc (add d hd none)))

pair-fits : (x y : ℕ) → x < 256 → y < 256 → pair x y < 65536
pair-fits x y h k = omega arith

all-flat : {X : Type 0} (Q : X → Type 0) (f : X → List ℕ) → (xs : List X) → All Q xs → ((x : X) → Q x → AreWords (f x)) → AreWords (flat_map f xs)
all-flat Q f [] h each = none
all-flat Q f (x ∷ xs) h each = join (each x (h 0 x (omega arith))) (all-flat Q f xs (λ k d below. h (suc k) d (omega arith)) each)

words-fit : (xs : List ℕ) → All (λ x. x < 256) xs → AreWords (words_of xs)
words-fit [] h = none
words-fit (x ∷ []) h = add (pair x 0) (pair-fits x 0 (h 0 x (omega arith)) (lit< tt)) none
words-fit (x ∷ y ∷ xs) h = add (pair x y) (pair-fits x y (h 0 x (omega arith)) (h 1 x (omega arith))) (words-fit xs (λ k d below. h (suc (suc k)) d (omega arith)))

category-fits : (number : ℕ) (ws : List ℕ) → number < 65536 → length ws < 65536 → AreWords ws → AreWords (category number ws)
category-fits number ws n l h = add number n (add (length ws) l h)

strings-fit : (name : List ℕ) → length name ≤ 32 → All (λ x. x < 256) name → AreWords (strings_words name)
strings-fit name short h = add (pair 1 (length name)) (pair-fits 1 (length name) (lit< tt) (omega arith)) (words-fit name h)

general-fits : (m : Option Mailbox) (lrw : Bool) → (pair 0 (coe_details m) < 65536) × (pair 0 (general_flags lrw) < 65536)
general-fits None true = (lit< tt, lit< tt)
general-fits None false = (lit< tt, lit< tt)
general-fits (Some m) true = (lit< tt, lit< tt)
general-fits (Some m) false = (lit< tt, lit< tt)

all-general : (a b : ℕ) → a < 65536 → b < 65536 → AreWords (0 ∷ 257 ∷ a ∷ 0 ∷ 0 ∷ b ∷ 0 ∷ 0 ∷ 17 ∷ 0 ∷ 0 ∷ 0 ∷ 0 ∷ 0 ∷ 0 ∷ 0 ∷ [])
all-general a b ha hb =
    join (four 0 257 a 0 (lit< tt) (lit< tt) ha (lit< tt)) (join (four 0 b 0 0 (lit< tt) hb (lit< tt) (lit< tt))
    (join (four 17 0 0 0 (lit< tt) (lit< tt) (lit< tt) (lit< tt)) (four 0 0 0 0 (lit< tt) (lit< tt) (lit< tt) (lit< tt))))

fmmus-fit : (os is : List Pdo) → pair (for_outputs os) (for_inputs is) < 65536
fmmus-fit [] [] = lit< tt
fmmus-fit [] (i ∷ is) = lit< tt
fmmus-fit (o ∷ os) [] = lit< tt
fmmus-fit (o ∷ os) (i ∷ is) = lit< tt

switch : (b : Bool) (usage : ℕ) → usage < 256 → pair (if b then 0 else 1) usage < 65536
switch true usage h = omega arith
switch false usage h = omega arith

bits-few : (first : ℕ) (ps : List Pdo) → ArePdos first ps → pdos_bits ps ≤ 65536
bits-few first ps h = omega (arith, sum_by-le pdo_bits 4096 ps (λ k d below. (few_bits first ps h k d below).1), h.few)

data-fits : (start bits control usage : ℕ) → start < 65536 → bits ≤ 65536 → control < 256 → usage < 256 → AreWords (manager_words (record { settings = data_settings start bits control; usage = usage }))
data-fits start bits control usage hs hb hc hu =
    four start (bytes_of_bits bits) (pair control 0) (pair (if bits == 0 then 0 else 1) usage) hs (omega arith) (pair-fits control 0 hc (lit< tt)) (switch (bits == 0) usage hu)

mailbox-fits : (o : Option Mailbox) → ForSome o (λ m. (m.receive_start < 65536) × (m.send_start < 65536)) → ForSome o IsMailbox → AreWords (flat_map manager_words (mailbox_managers o))
mailbox-fits None h limits = join (four 0 0 0 0 (lit< tt) (lit< tt) (lit< tt) (lit< tt)) (four 0 0 0 0 (lit< tt) (lit< tt) (lit< tt) (lit< tt))
mailbox-fits (Some m) h limits =
    let l : IsMailbox m = limits m refl in
    let s : (m.receive_start < 65536) × (m.send_start < 65536) = h m refl in
    join (four m.receive_start m.receive_size 38 257 s.0 (omega arith) (lit< tt) (lit< tt)) (four m.send_start m.send_size 34 513 s.1 (omega arith) (lit< tt) (lit< tt))

managers-fit : (o : Option Mailbox) (kind : SlaveKind) → ForSome o (λ m. (m.receive_start < 65536) × (m.send_start < 65536)) → ForSome o IsMailbox → FitsKind kind → AreWords (flat_map manager_words (mailbox_managers o ++ data_managers kind))
managers-fit o kind h limits fits =
    rw (flat_map-append manager_words (mailbox_managers o) (data_managers kind))
    (join (mailbox-fits o h limits)
    (join (data-fits kind.out_start (pdos_bits kind.outputs) 0x24 3 fits.out_start (bits-few 0x1600 kind.outputs fits.limits.outputs) (lit< tt) (lit< tt))
    (data-fits kind.in_start (pdos_bits kind.inputs) 0x20 4 fits.in_start (bits-few 0x1A00 kind.inputs fits.limits.inputs) (lit< tt) (lit< tt))))

-- an entry within its limits, whose numbers fit
abbrev IsGood : Entry → Type 0
IsGood e = (e.bits ≤ 64) × FitsEntry e

entry-fits : (e : Entry) → IsGood e → AreWords (entry_words e)
entry-fits e h = let f : FitsEntry e = h.1 in four e.index (pair e.subindex 0) (pair 0 e.bits) 0 f.index (omega (arith, f.subindex)) (omega (arith, h.0)) (lit< tt)

abbrev IsGoodPdo : Pdo → Type 0
IsGoodPdo p = (p.index < 65536) × (length p.entries ≤ 64) × All IsGood p.entries

pdo-fits : (manager : ℕ) → manager < 256 → (p : Pdo) → IsGoodPdo p → AreWords (pdo_words manager p)
pdo-fits manager small p h =
    join
    (four p.index (pair (length p.entries) manager) 0 0 h.0 (pair-fits (length p.entries) manager (omega (arith, h.1)) small) (lit< tt) (lit< tt))
    (all-flat IsGood entry_words p.entries h.2 entry-fits)

good : (first : ℕ) (ps : List Pdo) → first ≤ 0x1A00 → ArePdos first ps → All (λ p. All FitsEntry p.entries) ps → All IsGoodPdo ps
good first ps low h fits k d below =
    let p : Pdo = slice_index_or ps k d in
    let one : IsPdo first p = h.each k d below in (
      omega (arith, one.below),
      one.few,
      λ i e inside. ((one.entries i e inside).few, fits k d below i e inside),
    )

category-of-pdos : (number manager first : ℕ) (ps : List Pdo) → number < 65536 → manager < 256 → first ≤ 0x1A00 → ArePdos first ps → All (λ p. All FitsEntry p.entries) ps → AreWords (pdos_category number manager ps)
category-of-pdos number manager first [] n m low h fits = none
category-of-pdos number manager first (p ∷ ps) n m low h fits =
    category-fits number (flat_map (pdo_words manager) (p ∷ ps)) n (pdos_few manager (p ∷ ps) h.few (short_entries first (p ∷ ps) h))
    (all-flat IsGoodPdo (pdo_words manager) (p ∷ ps) (good first (p ∷ ps) low h fits) (pdo-fits manager m))

pub categories-fit : (kind : SlaveKind) (face : Face) → FitsKind kind → kind.face ≡ Some face → AreWords (categories_of kind face.name)
unfolding categories_of
categories-fit kind face h e =
    let named : IsFace face = h.face face e in
    let general : (pair 0 (coe_details kind.mailbox) < 65536) × (pair 0 (general_flags kind.lrw) < 65536) = general-fits kind.mailbox kind.lrw in
    join (join (join (join (join
    (category-fits 10 (strings_words face.name) (lit< tt) (strings_few face.name named.short) (strings-fit face.name named.short (h.letters face e)))
    (category-fits 30 (general_words kind) (lit< tt) (lit< tt) (all-general _ _ general.0 general.1)))
    (category-fits 40 (fmmus_words kind) (lit< tt) (lit< tt) (add (pair (for_outputs kind.outputs) (for_inputs kind.inputs)) (fmmus-fit kind.outputs kind.inputs) (add 0 (lit< tt) none))))
    (category-fits 41 (managers_words kind) (lit< tt) (managers_few kind) (managers-fit kind.mailbox kind h.mailbox h.limits.mailbox h)))
    (category-of-pdos 50 3 0x1A00 kind.inputs (lit< tt) (lit< tt) (lit≤ tt) h.limits.inputs h.inputs))
    (category-of-pdos 51 2 0x1600 kind.outputs (lit< tt) (lit< tt) (lit≤ tt) h.limits.outputs h.outputs)

-- ---- the words of an image

at-fits : {ws : List ℕ} (k : ℕ) → AreWords ws → get_or ws k 0 < 65536
at-fits {ws} k h = within-fits ws k h.all
  where
    within-fits : (xs : List ℕ) (i : ℕ) → All IsWord xs → get_or xs i 0 < 65536
    within-fits [] i all = lit< tt
    within-fits (x ∷ xs) zero all = all 0 x (omega arith)
    within-fits (x ∷ xs) (suc i) all = within-fits xs i (λ j d below. all (suc j) d (omega arith))

got-fits : (ws : List ℕ) (k : ℕ) → All IsWord ws → unwrap_or (slice_get ws k) 0xFFFF < 65536
got-fits [] k all = lit< tt
got-fits (x ∷ xs) zero all = all 0 x (omega arith)
got-fits (x ∷ xs) (suc k) all = got-fits xs k (λ j d below. all (suc j) d (omega arith))

identity-fits : (i : Identity) → FitsIdentity i → AreWords (identity_words i)
identity-fits i h =
    join (four (i.vendor % 65536) (i.vendor / 65536) (i.product % 65536) (i.product / 65536) (omega arith) (omega (arith, h.vendor)) (omega arith) (omega (arith, h.product)))
    (four (i.revision % 65536) (i.revision / 65536) (i.serial % 65536) (i.serial / 65536) (omega arith) (omega (arith, h.revision)) (omega arith) (omega (arith, h.serial)))

mailbox-words-fit : (o : Option Mailbox) → ForSome o (λ m. (m.receive_start < 65536) × (m.send_start < 65536)) → ForSome o IsMailbox → AreWords (mailbox_words o)
mailbox-words-fit None h limits = add 0 (lit< tt) (four 0 0 0 0 (lit< tt) (lit< tt) (lit< tt) (lit< tt))
mailbox-words-fit (Some m) h limits =
    let l : IsMailbox m = limits m refl in
    let s : (m.receive_start < 65536) × (m.send_start < 65536) = h m refl in
    join (four m.receive_start m.receive_size m.send_start m.send_size s.0 (omega (arith, l.receive_few)) s.1 (omega (arith, l.send_few))) (add 4 (lit< tt) none)

choose : (b : Bool) (x y : ℕ) → x < 65536 → y < 65536 → (if b then x else y) < 65536
choose true x y h k = h
choose false x y h k = k

other-fits : (kind : SlaveKind) (o : Option Face) (address : ℕ) → FitsKind kind → kind.face ≡ o → other_word (option_map (λ (f : Face). categories_of kind f.name) o) address < 65536
other-fits kind None address h e = lit< tt
other-fits kind (Some face) address h e =
    let cs : List ℕ = categories_of kind face.name in
    choose (address == 0x3E) ((kibibits cs - 1) % 65536) _ (omega arith)
    (choose (address == 0x3F) 1 _ (lit< tt)
    (choose (nat_le 0x40 address) (unwrap_or (slice_get cs (address - 0x40)) 0xFFFF) 0 (let all : AreWords cs = categories-fit kind face h e in got-fits cs (address - 0x40) all.all) (lit< tt)))

pub words_law : WordsFit
unfolding word_at
words_law kind identity h i address =
    choose (within 0x08 8 address) _ _ (at-fits (address - 0x08) (identity-fits identity i))
    (choose (within 0x18 5 address) _ _ (at-fits (address - 0x18) (mailbox-words-fit kind.mailbox h.mailbox h.limits.mailbox))
    (other-fits kind kind.face address h refl))
