-- What a slave becomes by a logical datagram, as its code finds it.
use Rattle.std.proofs.Common.{ℕ, ◌-◌, ◌*◌, ◌<◌, ◌≡◌, ◌||◌, Bool, true, false, Option, None, refl, sym, ◌∙◌, ap, arith, List, [], ◌∷◌, ◌++◌, option_map, if◌then◌else◌}
use Rattle.std.proofs.lemmas.Bool.{and_right}
use Rattle.ec_bits.specs.Bits.{bit, overlay}
use Rattle.ec_bits.proofs.AnyLaws.{if_false, if_none, within_below}
use Rattle.ec_bits.proofs.BitLaws.{overlay_own}
use Rattle.ec_device.specs.declared.hardware.Hardware.{Hardware}
use Rattle.ec_regs.specs.declared.fmmu.FmmuSettings.{FmmuSettings}
use Rattle.ec_regs.specs.Memory.{al_control, ram_start, ram_end}
use Rattle.ec_sync.specs.SyncManager.{SyncManager}
use Rattle.ec_fmmu.specs.Pairs.{unmapped, reaches_physical, is_ram_bit}
use Rattle.ec_fmmu.specs.Sets.{source_after, writers}
use Rattle.ec_fmmu.specs.Applied.{LogicalSpan, inside_span, touched_by_reading, touched_by_writing}
use Rattle.ec_al.specs.Al.{Al, requesting}
use Rattle.ec_sii.specs.Port.{Sii, written}
use Rattle.ec_dl.specs.DataLink.{DataLink, dl_written}
use Rattle.ec_slave.specs.Physical.{Window, memory_written, physical_after, physical_managers, touches}
use Rattle.ec_slave.specs.State.{SlaveState, fmmus, fmmus_of, with_memory}
use Rattle.ec_slave.specs.Untouched.{byte-overlay}
use Rattle.ec_slave.specs.Managers.{is_ungoverned, manager_after}
use Rattle.ec_slave.specs.Logical.{logical_value, logical_managers, plain_bit, only_if, logical_after, some_written}
use Rattle.ec_slave.specs.Written.{some_plain_written, some_manager_written}
use Rattle.ec_slave.proofs.LogicalAccess.SomeWritten.{some_written-is}
use Rattle.ec_slave.proofs.LogicalAccess.FmmusOf.{fmmus_of-alike}

-- a read goes by where the bits lie, and not by what they are
managers-unwritten : (lower ms : List SyncManager) (fs : List FmmuSettings) (p : LogicalSpan) (b c : List ℕ)
    → logical_managers lower true false fs p b ms ≡ logical_managers lower true false fs p c ms
managers-unwritten lower [] fs p b c = refl
managers-unwritten lower (m ∷ ms) fs p b c =
    ap (λ (xs : List SyncManager). manager_after true false (touched_by_reading fs p) (touched_by_writing fs p) (is_ungoverned lower) (logical_value lower fs p b) m ∷ xs)
    (managers-unwritten (lower ++ m ∷ []) ms fs p b c)

pub slave_read : (s : SlaveState) (memory : List ℕ) (managers : List SyncManager) (fs : List FmmuSettings) (p q : LogicalSpan) (b c : List ℕ)
    → memory ≡ s.memory → fs ≡ fmmus s → q ≡ p → managers ≡ logical_managers [] true false fs q c s.managers
    → with_memory s memory managers ≡ logical_after s true false p b
slave_read s memory managers fs p q b c m f e x =
    let own : memory ≡ overlay s.memory (λ i. only_if false (plain_bit s.managers (fmmus s) p b i))
    = m ∙ sym (overlay_own s.memory (λ i. only_if false (plain_bit s.managers (fmmus s) p b i)) (λ i l. refl)) in
    let met : managers ≡ logical_managers [] true false (fmmus s) p b s.managers
    = x ∙ (ap (λ (g : List FmmuSettings). logical_managers [] true false g q c s.managers) f
    ∙ (ap (λ (r : LogicalSpan). logical_managers [] true false (fmmus s) r c s.managers) e
    ∙ managers-unwritten [] s.managers (fmmus s) p c b)) in
    ap (λ (y : List ℕ). with_memory s y managers) own
    ∙ ap (λ (y : List SyncManager). with_memory s (overlay s.memory (λ i. only_if false (plain_bit s.managers (fmmus s) p b i))) y) met

pub slave_written : (s : SlaveState) (reading : Bool) (memory : List ℕ) (managers : List SyncManager) (fs : List FmmuSettings) (p : LogicalSpan) (b : List ℕ)
    → memory ≡ overlay s.memory (plain_bit s.managers fs p b) → fs ≡ fmmus s → managers ≡ logical_managers [] reading true fs p b s.managers
    → with_memory s memory managers ≡ logical_after s reading true p b
slave_written s reading memory managers fs p b m f x =
    let own : memory ≡ overlay s.memory (plain_bit s.managers (fmmus s) p b)
    = m ∙ ap (λ (g : List FmmuSettings). overlay s.memory (plain_bit s.managers g p b)) f in
    let met : managers ≡ logical_managers [] reading true (fmmus s) p b s.managers
    = x ∙ ap (λ (g : List FmmuSettings). logical_managers [] reading true g p b s.managers) f in
    ap (λ (y : List ℕ). with_memory s y managers) own
    ∙ ap (λ (y : List SyncManager). with_memory s (overlay s.memory (plain_bit s.managers (fmmus s) p b)) y) met

-- ---- FMMUs lead into the RAM alone, so that what they write leaves the registers

unmapped-outside : (f : FmmuSettings) (q : ℕ) → q < 32768 → unmapped f q ≡ None
unfolding unmapped
unmapped-outside f q l = if_false _ _ _ (and_right (reaches_physical f q) (is_ram_bit q) (within_below (8 * ram_start) (8 * (ram_end - ram_start)) q (omega arith)))

source-outside : (lower fs : List FmmuSettings) (q : ℕ) → q < 32768 → source_after lower fs q ≡ None
source-outside lower [] q l = refl
source-outside lower (f ∷ fs) q l = rw (unmapped-outside f q l) (source-outside (lower ++ (f ∷ [])) fs q l)

pub plain-outside : (ms : List SyncManager) (fs : List FmmuSettings) (p : LogicalSpan) (b : List ℕ) (q : ℕ) → q < 32768 → plain_bit ms fs p b q ≡ None
plain-outside ms fs p b q l = if_none _ _ (ap (λ (o : Option ℕ). option_map (bit b) (inside_span p o)) (source-outside [] (writers fs) q l))

pub decoded-mapped : (o : Option Hardware) (ms : List SyncManager) (fs : List FmmuSettings) (p : LogicalSpan) (b memory : List ℕ) → fmmus_of o memory ≡ fmmus_of o (overlay memory (plain_bit ms fs p b))
decoded-mapped o ms fs p b memory = fmmus_of-alike o memory (overlay memory (plain_bit ms fs p b)) (λ a lo hi.
    sym (byte-overlay memory (plain_bit ms fs p b) a (λ i e. plain-outside ms fs p b i (omega arith))))

-- a bit was written in the memory itself, or in a manager's value
pub some_found : (ms a b : List SyncManager) (fs gs : List FmmuSettings) (p : LogicalSpan) (bytes : List ℕ) (x y : Bool)
    → x ≡ some_plain_written a fs p bytes → a ≡ ms → y ≡ some_manager_written [] fs p bytes b → b ≡ ms → fs ≡ gs
    → (x || y) ≡ some_written ms gs p bytes
some_found ms a b fs gs p bytes x y hx ha hy hb hf =
    let hx_2 : x ≡ some_plain_written ms gs p bytes
    = hx ∙ (ap (λ (k : List SyncManager). some_plain_written k fs p bytes) ha ∙ ap (λ (g : List FmmuSettings). some_plain_written ms g p bytes) hf) in
    let hy_2 : y ≡ some_manager_written [] gs p bytes ms
    = hy ∙ (ap (λ (k : List SyncManager). some_manager_written [] fs p bytes k) hb ∙ ap (λ (g : List FmmuSettings). some_manager_written [] g p bytes ms) hf) in
    ap (λ (z : Bool). z || y) hx_2 ∙ (ap (λ (z : Bool). some_plain_written ms gs p bytes || z) hy_2 ∙ sym (some_written-is ms gs p bytes))

-- ---- a physical datagram that writes

pub physically_written : (s : SlaveState) (reads : Bool) (w : Window) (memory : List ℕ) (managers : List SyncManager) (al : Al) (sii : Sii) (link : DataLink)
    → memory ≡ memory_written s.kind.hardware s.managers w s.memory → managers ≡ physical_managers s.kind.hardware [] reads true w 0 s.managers
    → al ≡ (if touches w al_control then requesting s.al else s.al) → sii ≡ written s.sii w.from w.bytes → link ≡ dl_written s.link w.from w.bytes
    → record s { memory = memory; managers = managers; al = al; sii = sii; link = link } ≡ physical_after s reads true w
unfolding physical_after
physically_written s reads w memory managers al sii link m n a p l =
    ap (λ (x : List ℕ). record s { memory = x; managers = managers; al = al; sii = sii; link = link }) m
    ∙ (ap (λ (x : List SyncManager). record s { memory = memory_written s.kind.hardware s.managers w s.memory; managers = x; al = al; sii = sii; link = link }) n
    ∙ (ap (λ (x : Al). record s { memory = memory_written s.kind.hardware s.managers w s.memory; managers = physical_managers s.kind.hardware [] reads true w 0 s.managers; al = x; sii = sii; link = link }) a
    ∙ (ap (λ (x : Sii). record s { memory = memory_written s.kind.hardware s.managers w s.memory; managers = physical_managers s.kind.hardware [] reads true w 0 s.managers; al = if touches w al_control then requesting s.al else s.al; sii = x; link = link }) p
    ∙ ap (λ (x : DataLink). record s { memory = memory_written s.kind.hardware s.managers w s.memory; managers = physical_managers s.kind.hardware [] reads true w 0 s.managers; al = if touches w al_control then requesting s.al else s.al; sii = written s.sii w.from w.bytes; link = x }) l)))

-- that only reads
pub physically_read : (s : SlaveState) (w : Window) (managers : List SyncManager) → managers ≡ physical_managers s.kind.hardware [] true false w 0 s.managers
    → record s { managers = managers } ≡ physical_after s true false w
unfolding physical_after
physically_read s w managers n = ap (λ (x : List SyncManager). record s { managers = x }) n
