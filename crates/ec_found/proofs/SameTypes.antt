-- Types are the same if all their parts are.
use Rattle.std.proofs.Common.{ℕ, ◌+◌, ◌<◌, ◌≡◌, ◌==◌, ◌&&◌, List, [], ◌∷◌, length, take, get_or, Bool, true, false, Option, refl, sym, ap, subst, ◌∙◌, arith}
use Rattle.std.proofs.lemmas.Bool.{and_from, and_parts, eq-eqb, eqb-true}
use Rattle.std.proofs.lemmas.List.{get_or_default, take_all, take_more_same}
use Rattle.ec_device.specs.declared.hardware.Hardware.{Hardware}
use Rattle.ec_device.specs.declared.hardware.ProcessManager.{ProcessManager}
use Rattle.ec_device.specs.declared.parameter.Parameter.{Parameter}
use Rattle.ec_device.specs.declared.slave_type.Device.{Device}
use Rattle.ec_device.specs.declared.slave_type.Entry.{Entry}
use Rattle.ec_device.specs.declared.slave_type.Face.{Face}
use Rattle.ec_device.specs.declared.slave_type.Mailbox.{Mailbox}
use Rattle.ec_device.specs.declared.slave_type.Pdo.{Pdo}
use Rattle.ec_device.specs.Types.{SlaveKind}
use Rattle.ec_found.specs.Differing.{same_entries, same_entry}

alike : (f : Device → Option Mailbox → ℕ → ℕ → List Pdo → List Pdo → Bool → Option Face → Option Hardware → List Parameter → SlaveKind)
    (d d2 : Device) (m m2 : Option Mailbox) (o o2 i i2 : ℕ) (os os2 is is2 : List Pdo) (l l2 : Bool) (f1 f2 : Option Face) (h h2 : Option Hardware) (n n2 : List Parameter)
    → d ≡ d2 → m ≡ m2 → o ≡ o2 → i ≡ i2 → os ≡ os2 → is ≡ is2 → l ≡ l2 → f1 ≡ f2 → h ≡ h2 → n ≡ n2
    → f d m o i os is l f1 h n ≡ f d2 m2 o2 i2 os2 is2 l2 f2 h2 n2
alike f d d2 m m2 o o2 i i2 os os2 is is2 l l2 f1 f2 h h2 n n2 e1 e2 e3 e4 e5 e6 e7 e8 e9 e10 = cc

abbrev made : Device → Option Mailbox → ℕ → ℕ → List Pdo → List Pdo → Bool → Option Face → Option Hardware → List Parameter → SlaveKind
made d m o i os is l f h n = record { device = d; mailbox = m; out_start = o; in_start = i; outputs = os; inputs = is; lrw = l; face = f; hardware = h; init = n }

pub same_kinds : (k l : SlaveKind) → k.device ≡ l.device → k.mailbox ≡ l.mailbox → k.lrw ≡ l.lrw → k.out_start ≡ l.out_start → k.in_start ≡ l.in_start → k.hardware ≡ l.hardware
    → k.outputs ≡ l.outputs → k.inputs ≡ l.inputs → k.face ≡ l.face → k.init ≡ l.init → k ≡ l
same_kinds k l device mailbox lrw outs ins hardware outputs inputs face init =
    alike made k.device l.device k.mailbox l.mailbox k.out_start l.out_start k.in_start l.in_start k.outputs l.outputs k.inputs l.inputs k.lrw l.lrw k.face l.face k.hardware l.hardware k.init l.init
    device mailbox outs ins outputs inputs lrw face hardware init

pub same_hardware : (h k : Hardware) → h.out_manager ≡ k.out_manager → h.in_manager ≡ k.in_manager → h.has_pins ≡ k.has_pins → h.has_firmware ≡ k.has_firmware → h.fmmus ≡ k.fmmus
    → h.is_fixed ≡ k.is_fixed → h.slow ≡ k.slow → h.has_emergency ≡ k.has_emergency → h.any_revision ≡ k.any_revision → h ≡ k
same_hardware h k outs ins pins firmware fmmus fixed slow emergency any =
    parts (λ o i p f x s e n a. record { out_manager = o; in_manager = i; has_pins = p; has_firmware = f; is_fixed = x; slow = s; has_emergency = e; fmmus = n; any_revision = a })
    h.out_manager k.out_manager h.in_manager k.in_manager h.has_pins k.has_pins h.has_firmware k.has_firmware h.is_fixed k.is_fixed h.slow k.slow h.has_emergency k.has_emergency h.fmmus k.fmmus h.any_revision k.any_revision
    outs ins pins firmware fixed slow emergency fmmus any
  where
    parts : (g : ProcessManager → ProcessManager → Bool → Bool → Bool → ℕ → Bool → ℕ → Bool → Hardware)
        (o o2 i i2 : ProcessManager) (p p2 f f2 x x2 : Bool) (s s2 : ℕ) (e e2 : Bool) (n n2 : ℕ) (a a2 : Bool)
        → o ≡ o2 → i ≡ i2 → p ≡ p2 → f ≡ f2 → x ≡ x2 → s ≡ s2 → e ≡ e2 → n ≡ n2 → a ≡ a2 → g o i p f x s e n a ≡ g o2 i2 p2 f2 x2 s2 e2 n2 a2
    parts g o o2 i i2 p p2 f f2 x x2 s s2 e e2 n n2 a a2 e1 e2h e3 e4 e5 e6 e7 e8 e9 = cc

pub same_pdo : (p q : Pdo) → p.index ≡ q.index → p.entries ≡ q.entries → p ≡ q
same_pdo p q e f = pair (λ i es. record { index = i; entries = es }) p.index q.index p.entries q.entries e f
  where
    pair : (f : ℕ → List Entry → Pdo) (i j : ℕ) (es ds : List Entry) → i ≡ j → es ≡ ds → f i es ≡ f j ds
    pair f i j es ds e d = cc

pub same_face : (f g : Face) → f.is_last ≡ g.is_last → f.name ≡ g.name → f ≡ g
same_face f g e d = pair (λ l n. record { name = n; is_last = l }) f.is_last g.is_last f.name g.name e d
  where
    pair : (f : Bool → List ℕ → Face) (a b : Bool) (m n : List ℕ) → a ≡ b → m ≡ n → f a m ≡ f b n
    pair f a b m n e d = cc

-- ---- entries

no_truth : {P : Type 0} → false ≡ true → P
no_truth h = cc

entry_same : (d e : Entry) → same_entry d e ≡ true → d ≡ e
entry_same d e h =
    let p = and_parts (d.index == e.index) ((d.subindex == e.subindex) && (d.bits == e.bits)) h in
    let q = and_parts (d.subindex == e.subindex) (d.bits == e.bits) p.1 in
    triple (λ i s b. record { index = i; subindex = s; bits = b }) d.index e.index d.subindex e.subindex d.bits e.bits
    (eqb-true d.index e.index p.0) (eqb-true d.subindex e.subindex q.0) (eqb-true d.bits e.bits q.1)
  where
    triple : (f : ℕ → ℕ → ℕ → Entry) (i j s t b c : ℕ) → i ≡ j → s ≡ t → b ≡ c → f i s b ≡ f j t c
    triple f i j s t b c e1 e2 e3 = cc

entries_same : (ds es : List Entry) → same_entries ds es ≡ true → ds ≡ es
entries_same [] [] h = refl
entries_same [] (e ∷ es) h = no_truth h
entries_same (d ∷ ds) [] h = no_truth h
entries_same (d ∷ ds) (e ∷ es) h =
    let p = and_parts (same_entry d e) (same_entries ds es) h in
    ap (λ (x : Entry). x ∷ ds) (entry_same d e p.0) ∙ ap (λ (xs : List Entry). e ∷ xs) (entries_same ds es p.1)

entries_itself : (ds : List Entry) → same_entries ds ds ≡ true
entries_itself [] = refl
entries_itself (d ∷ ds) =
    and_from (same_entry d d) (same_entries ds ds)
    (and_from (d.index == d.index) ((d.subindex == d.subindex) && (d.bits == d.bits)) (eq-eqb d.index d.index refl)
    (and_from (d.subindex == d.subindex) (d.bits == d.bits) (eq-eqb d.subindex d.subindex refl) (eq-eqb d.bits d.bits refl)))
    (entries_itself ds)

pub entries_decide : (ds es : List Entry) (r : Bool) → r ≡ same_entries ds es → (r ≡ true → ds ≡ es) × (ds ≡ es → r ≡ true)
entries_decide ds es r e = (λ t. entries_same ds es (sym e ∙ t), λ s. e ∙ subst (λ (xs : List Entry). same_entries ds xs ≡ true) s (entries_itself ds))

-- ---- lists, place by place

pub items_more : {A : Type 0} (ps qs : List A) (i : ℕ) (p q : A) → i < length ps → length ps ≡ length qs → p ≡ get_or ps i p → q ≡ get_or qs i q → p ≡ q → take i ps ≡ take i qs → take (i + 1) ps ≡ take (i + 1) qs
items_more ps qs i p q l long is its same before =
    let l2 : i < length qs = subst (λ (n : ℕ). i < n) long l in
    take_more_same ps qs i p l l2 before (sym is ∙ same ∙ its ∙ get_or_default qs i q p l2)

pub items_differ : {A : Type 0} (ps qs : List A) (i : ℕ) (p q : A) → i < length ps → p ≡ get_or ps i p → q ≡ get_or qs i q → ps ≡ qs → p ≡ q
items_differ {A} ps qs i p q l is its same =
    is ∙ ap (λ (xs : List A). get_or xs i p) same ∙ get_or_default qs i p q (subst (λ (xs : List A). i < length xs) same l) ∙ sym its

-- the same of items that are read by their places
pub next_same : {A : Type 0} (ps qs : List A) (i : ℕ) (d e : A) → i < length ps → length ps ≡ length qs → get_or ps i d ≡ get_or qs i e → take i ps ≡ take i qs → take (i + 1) ps ≡ take (i + 1) qs
next_same ps qs i d e l long same before =
    let l2 : i < length qs = subst (λ (n : ℕ). i < n) long l in
    take_more_same ps qs i d l l2 before (same ∙ get_or_default qs i e d l2)

pub here_same : {A : Type 0} (ps qs : List A) (i : ℕ) (d e : A) → i < length ps → ps ≡ qs → get_or ps i d ≡ get_or qs i e
here_same {A} ps qs i d e l same = ap (λ (xs : List A). get_or xs i d) same ∙ get_or_default qs i d e (subst (λ (xs : List A). i < length xs) same l)

pub items_same : {A : Type 0} (ps qs : List A) → length ps ≡ length qs → take (length ps) ps ≡ take (length ps) qs → ps ≡ qs
items_same ps qs long same =
    sym (take_all (length ps) ps (omega arith)) ∙ same ∙ take_all (length ps) qs (omega (arith, long))
