use Rattle.std.proofs.Common.{ℕ, ◌≡◌, ◌<◌, ◌≤◌, ◌+◌, ◌-◌, ◌*◌, ◌/◌, ◌∙◌, Bool, true, false, Some, None, is_some, List, length, get_or, sym, ap, arith}
use Rattle.std.proofs.lemmas.List.{get_or_default}
use Rattle.ec_bits.specs.Bits.{bit}
use Rattle.ec_regs.specs.declared.manager.SyncManagerSettings.{SyncManagerSettings}
use Rattle.ec_sync.specs.SyncManager.{SyncManager, no_manager, visible}
use Rattle.ec_sync.specs.Governing.{governor, in_first_buffer}
use Rattle.ec_slave.specs.State.{manager_at}
use Rattle.ec_slave.specs.ReadViews.{view_bit}
use Rattle.ec_slave.proofs.LogicalAccess.ReadViews.{governor-start, governor-below}
use Rattle.ec_slave.proofs.Memory.GovernorRuns.{run_copied, run_counts, run_nothing, unreadable, readable_value, behind_value}
use Rattle.ec_slave.proofs.logical.reading.read_value.Goals as goal

pub bounds-view-place : goal.bounds-view-place
bounds-view-place c =
    let ms = c.args.view.now.managers.now in
    let q : ℕ = c.args.physical in
    let g : governor ms (q / 8) ≡ Some c.args.place = c.requires.governed (q / 8) (omega arith) (omega arith) in
    let below : c.args.place < length ms = governor-below ms (q / 8) c.args.place g in
    omega (arith, below, c.requires.four)

pub returns-then-not-view-place-clause-any : goal.returns-then-not-view-place-clause-any
returns-then-not-view-place-clause-any c =
    let s = c.args.view.now in
    let r : get_or s.readable.now c.args.place false ≡ false = c.if-not-view-place.true in
    (run_nothing c.args.bytes.now (view_bit s.memory.now s.managers.now s.readable.now) c.args.physical c.args.to c.args.count
    (λ i a b. unreadable s.memory.now s.managers.now s.readable.now c.args.place (c.args.physical + (i - c.args.to)) r
    (c.requires.governed ((c.args.physical + (i - c.args.to)) / 8) (omega arith) (omega arith)))).1

pub returns-then-not-view-place-clause-bits : goal.returns-then-not-view-place-clause-bits
returns-then-not-view-place-clause-bits c =
    let s = c.args.view.now in
    let r : get_or s.readable.now c.args.place false ≡ false = c.if-not-view-place.true in
    (run_nothing c.args.bytes.now (view_bit s.memory.now s.managers.now s.readable.now) c.args.physical c.args.to c.args.count
    (λ i a b. unreadable s.memory.now s.managers.now s.readable.now c.args.place (c.args.physical + (i - c.args.to)) r
    (c.requires.governed ((c.args.physical + (i - c.args.to)) / 8) (omega arith) (omega arith)))).0

-- the manager that an index gave is the one of that number, and begins at the run or before it
begins : (ms : List SyncManager) (q n : ℕ) (d : SyncManager) → governor ms (q / 8) ≡ Some n → (get_or ms n d ≡ manager_at ms n) × ((get_or ms n d).settings.start ≤ q / 8)
begins ms q n d g =
    let same : get_or ms n d ≡ manager_at ms n = get_or_default ms n d no_manager (governor-below ms (q / 8) n g) in
    let lo : (manager_at ms n).settings.start ≤ q / 8 = governor-start ms (q / 8) n g in
    let st : (get_or ms n d).settings.start ≡ (manager_at ms n).settings.start = ap (λ (x : SyncManager). x.settings.start) same in
    (same, omega (arith, lo, st))

-- no bit of the run shows a thing, behind the end of the value
unseen : (memory : List ℕ) (ms : List SyncManager) (rd : List Bool) (n q last : ℕ) (m : SyncManager) → (m ≡ manager_at ms n)
    → false ≡ in_first_buffer m last → in_first_buffer (manager_at ms n) (q / 8) ≡ in_first_buffer (manager_at ms n) last
    → governor ms (q / 8) ≡ Some n → view_bit memory ms rd q ≡ None
unseen memory ms rd n q last m same behind alike g =
    behind_value memory ms rd n q (alike ∙ sym (behind ∙ ap (λ (x : SyncManager). in_first_buffer x last) same)) g

pub returns-then-not-in_first_buffer-clause-any : goal.returns-then-not-in_first_buffer-clause-any
returns-then-not-in_first_buffer-clause-any c =
    let s = c.args.view.now in
    let ms = s.managers.now in
    let q : ℕ = c.args.physical in
    let n : ℕ = c.args.place in
    let some = c.requires.some in
    let last : ℕ = (q + c.args.count - 1) / 8 in
    let b = begins ms q n c.index-view-place.result (c.requires.governed (q / 8) (omega arith) (omega arith)) in
    let front : false ≡ in_first_buffer (get_or ms n c.index-view-place.result) last = sym c.if-not-in_first_buffer.true ∙ c.in_first_buffer.ensures in
    (run_nothing c.args.bytes.now (view_bit s.memory.now ms s.readable.now) q c.args.to c.args.count
    (λ i x y. unseen s.memory.now ms s.readable.now n (q + (i - c.args.to)) last _ b.0 front
    (c.requires.front ((q + (i - c.args.to)) / 8) (omega arith) (omega arith) ∙ sym (c.requires.front last (omega (arith, some)) (omega arith)))
    (c.requires.governed ((q + (i - c.args.to)) / 8) (omega arith) (omega arith)))).1

pub returns-then-not-in_first_buffer-clause-bits : goal.returns-then-not-in_first_buffer-clause-bits
returns-then-not-in_first_buffer-clause-bits c =
    let s = c.args.view.now in
    let ms = s.managers.now in
    let q : ℕ = c.args.physical in
    let n : ℕ = c.args.place in
    let some = c.requires.some in
    let last : ℕ = (q + c.args.count - 1) / 8 in
    let b = begins ms q n c.index-view-place.result (c.requires.governed (q / 8) (omega arith) (omega arith)) in
    let front : false ≡ in_first_buffer (get_or ms n c.index-view-place.result) last = sym c.if-not-in_first_buffer.true ∙ c.in_first_buffer.ensures in
    (run_nothing c.args.bytes.now (view_bit s.memory.now ms s.readable.now) q c.args.to c.args.count
    (λ i x y. unseen s.memory.now ms s.readable.now n (q + (i - c.args.to)) last _ b.0 front
    (c.requires.front ((q + (i - c.args.to)) / 8) (omega arith) (omega arith) ∙ sym (c.requires.front last (omega (arith, some)) (omega arith)))
    (c.requires.governed ((q + (i - c.args.to)) / 8) (omega arith) (omega arith)))).0

pub overflow_sub-last-2 : goal.overflow_sub-last-2
overflow_sub-last-2 c =
    let ms = c.args.view.now.managers.now in
    let q : ℕ = c.args.physical in
    let g : governor ms (q / 8) ≡ Some c.args.place = c.requires.governed (q / 8) (omega arith) (omega arith) in
    let lo = (begins ms q c.args.place c.index-view-place.result g).1 in
    let st : c.settings-start.result.start ≡ (get_or ms c.args.place c.index-view-place.result).settings.start = ap (λ (x : SyncManagerSettings). x.start) c.settings-start.ensures in
    let some = c.requires.some in
    omega (arith, lo, st, some)

pub overflow_sub-physical : goal.overflow_sub-physical
overflow_sub-physical c =
    let ms = c.args.view.now.managers.now in
    let q : ℕ = c.args.physical in
    let g : governor ms (q / 8) ≡ Some c.args.place = c.requires.governed (q / 8) (omega arith) (omega arith) in
    let lo = (begins ms q c.args.place c.index-view-place.result g).1 in
    let st : c.settings-start.result.start ≡ (get_or ms c.args.place c.index-view-place.result).settings.start = ap (λ (x : SyncManagerSettings). x.start) c.settings-start.ensures in
    omega (arith, lo, st)

pub copy_by_words-requires-clause-there : goal.copy_by_words-requires-clause-there
copy_by_words-requires-clause-there c =
    let ms = c.args.view.now.managers.now in
    let q : ℕ = c.args.physical in
    let g : governor ms (q / 8) ≡ Some c.args.place = c.requires.governed (q / 8) (omega arith) (omega arith) in
    let lo = (begins ms q c.args.place c.index-view-place.result g).1 in
    let st : c.settings-start.result.start ≡ (get_or ms c.args.place c.index-view-place.result).settings.start = ap (λ (x : SyncManagerSettings). x.start) c.settings-start.ensures in
    let some = c.requires.some in
    omega (arith, lo, st, some)

-- each bit of the run shows a bit of the value
shows : (memory : List ℕ) (ms : List SyncManager) (rd : List Bool) (n q0 k start last : ℕ) (m : SyncManager) (value : List ℕ)
    → (m ≡ manager_at ms n) → start ≡ m.settings.start → start ≤ q0 / 8 → value ≡ visible m → get_or rd n false ≡ true
    → governor ms ((q0 + k) / 8) ≡ Some n → true ≡ in_first_buffer m last → (q0 + k) / 8 ≤ last
    → view_bit memory ms rd (q0 + k) ≡ Some (bit value (q0 - 8 * start + k))
shows memory ms rd n q0 k start last m value same st lo v r g front below =
    let front_2 : in_first_buffer (manager_at ms n) last ≡ true = sym (front ∙ ap (λ (x : SyncManager). in_first_buffer x last) same) in
    let st_2 : start ≡ (manager_at ms n).settings.start = st ∙ ap (λ (x : SyncManager). x.settings.start) same in
    let v_2 : value ≡ visible (manager_at ms n) = v ∙ ap (λ (x : SyncManager). visible x) same in
    let at : q0 + k - 8 * (manager_at ms n).settings.start ≡ q0 - 8 * start + k = omega (arith, st_2, lo) in
    readable_value memory ms rd n (q0 + k) last r g front_2 below
    ∙ (ap (λ (i : ℕ). Some (bit (visible (manager_at ms n)) i)) at ∙ ap (λ (xs : List ℕ). Some (bit xs (q0 - 8 * start + k))) (sym v_2))

pub returns-clause-bits : goal.returns-clause-bits
returns-clause-bits c =
    let s = c.args.view.now in
    let ms = s.managers.now in
    let q : ℕ = c.args.physical in
    let n : ℕ = c.args.place in
    let m : SyncManager = get_or ms n c.index-view-place.result in
    let g : governor ms (q / 8) ≡ Some n = c.requires.governed (q / 8) (omega arith) (omega arith) in
    let b = begins ms q n c.index-view-place.result g in
    let st : c.settings-start.result.start ≡ m.settings.start = ap (λ (x : SyncManagerSettings). x.start) c.settings-start.ensures in
    let lo = b.1 in
    let r : get_or s.readable.now n false ≡ true = c.if-not-view-place.false in
    let front : true ≡ in_first_buffer m ((q + c.args.count - 1) / 8) = sym c.if-not-in_first_buffer.false ∙ c.in_first_buffer.ensures in
    let each : (i : ℕ) → c.args.to ≤ i → i < c.args.to + c.args.count → view_bit s.memory.now ms s.readable.now (q + (i - c.args.to)) ≡ Some (bit c.visible-value.result.now (q - 8 * c.settings-start.result.start + (i - c.args.to)))
    = λ i x y. shows s.memory.now ms s.readable.now n q (i - c.args.to) c.settings-start.result.start ((q + c.args.count - 1) / 8) m c.visible-value.result.now
    b.0 st (omega (arith, lo, st)) c.visible-value.ensures r (c.requires.governed ((q + (i - c.args.to)) / 8) (omega arith) (omega arith)) front (omega arith) in
    c.copy_by_words.ensures ∙ run_copied c.args.bytes.now (view_bit s.memory.now ms s.readable.now) q c.args.to c.args.count c.visible-value.result.now (q - 8 * c.settings-start.result.start) each

pub returns-clause-any : goal.returns-clause-any
returns-clause-any c =
    let s = c.args.view.now in
    let ms = s.managers.now in
    let q : ℕ = c.args.physical in
    let n : ℕ = c.args.place in
    let m : SyncManager = get_or ms n c.index-view-place.result in
    let g : governor ms (q / 8) ≡ Some n = c.requires.governed (q / 8) (omega arith) (omega arith) in
    let b = begins ms q n c.index-view-place.result g in
    let r : get_or s.readable.now n false ≡ true = c.if-not-view-place.false in
    let some = c.requires.some in
    let front : true ≡ in_first_buffer m ((q + c.args.count - 1) / 8) = sym c.if-not-in_first_buffer.false ∙ c.in_first_buffer.ensures in
    let front_2 : in_first_buffer (manager_at ms n) ((q + c.args.count - 1) / 8) ≡ true = sym (front ∙ ap (λ (x : SyncManager). in_first_buffer x ((q + c.args.count - 1) / 8)) b.0) in
    let one : is_some (view_bit s.memory.now ms s.readable.now q) ≡ true
    = ap is_some (readable_value s.memory.now ms s.readable.now n q ((q + c.args.count - 1) / 8) r g front_2 (omega (arith, some))) in
    sym (run_counts (8 * length c.args.bytes.now) (view_bit s.memory.now ms s.readable.now) q c.args.to c.args.count c.requires.some c.requires.run.1.0 one)

pub read_by_bits-requires-clause-can : goal.read_by_bits-requires-clause-can
read_by_bits-requires-clause-can c = (c.requires.room, c.requires.four)

pub returns-then-last-start-clause-any : goal.returns-then-last-start-clause-any
returns-then-last-start-clause-any c = c.read_by_bits.ensures.any

pub returns-then-last-start-clause-bits : goal.returns-then-last-start-clause-bits
returns-then-last-start-clause-bits c = c.read_by_bits.ensures.bits

pub read_by_bits-requires-clause-there : goal.read_by_bits-requires-clause-there
read_by_bits-requires-clause-there c = c.requires.run.1.0

pub copy_by_words-requires-clause-inside : goal.copy_by_words-requires-clause-inside
copy_by_words-requires-clause-inside c = c.requires.run.1.0
