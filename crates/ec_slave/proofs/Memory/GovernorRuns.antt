-- Runs of bytes that one sync manager governs, or none.
use Rattle.std.proofs.Common.{ℕ, suc, ◌+◌, ◌-◌, ◌*◌, ◌/◌, ◌<◌, ◌≤◌, ◌≡◌, ◌⊎◌, ◌&&◌, if◌then◌else◌, Bool, true, false, Option, Some, None, is_some, unwrap_or, List, [], ◌∷◌, length, get_or, refl, sym, ◌∙◌, ap, inl, inr, arith}
use Rattle.std.specs.List.{position_from}
use Rattle.std.proofs.lemmas.Bool.{cases_Bool, and_from, and_left, and_right, ltb-true, lt-ltb, le-ltb}
use Rattle.ec_bits.specs.Bits.{bit, within, overlay, any_below, copied, run_updates}
use Rattle.ec_bits.proofs.AnyLaws.{any_below_from, any_below_none, if_true, if_false, within_true, within_below, within_above, within_parts}
use Rattle.ec_bits.proofs.BitLaws.{overlay_alike, overlay_own}
use Rattle.ec_regs.specs.Managers.{is_set, span}
use Rattle.ec_sync.specs.Bounds.{span_end_of}
use Rattle.ec_sync.specs.SyncManager.{SyncManager, visible}
use Rattle.ec_sync.specs.Governing.{governor, governs, in_first_buffer}
use Rattle.ec_fmmu.specs.Apart.{run_visible}
use Rattle.ec_slave.specs.State.{manager_at}
use Rattle.ec_slave.specs.ReadViews.{view_bit, view_under}

-- a span that has all of the bytes, or none
pub governs_alike : (m : SyncManager) (start len a : ℕ)
    → (m.settings.start + span m.settings ≤ start) ⊎ ((start + len ≤ m.settings.start) ⊎ ((m.settings.start ≤ start) × (start + len ≤ m.settings.start + span m.settings)))
    → start ≤ a → a < start + len → governs m a ≡ governs m start
governs_alike m start len a h lo hi =
    let first = m.settings.start in
    let n = span m.settings in
    ap (λ (b : Bool). is_set m.settings && b) (elim h [
      | inl x ↦ within_above first n a (omega arith) ∙ sym (within_above first n start x)
      | inr y ↦ elim y [
        | inl x ↦ within_below first n a (omega arith) ∙ sym (within_below first n start (omega arith))
        | inr x ↦ within_true first n a (let p = x.0 in omega arith) (let p = x.1 in omega arith) ∙ sym (within_true first n start x.0 (let p = x.1 in omega arith))
      ]
    ])

position_alike : (i a b : ℕ) (ms : List SyncManager) → ((j : ℕ) → j < length ms → governs (manager_at ms j) a ≡ governs (manager_at ms j) b)
    → position_from (λ m. governs m a) i ms ≡ position_from (λ m. governs m b) i ms
position_alike i a b [] h = refl
position_alike i a b (m ∷ ms) h =
    let e : governs m a ≡ governs m b = h 0 (omega arith) in
    let rest = position_alike (i + 1) a b ms (λ j l. h (suc j) (omega arith)) in
    elim (cases_Bool (governs m b)) [
      | inl t ↦ if_true (governs m a) (Some i) (position_from (λ m. governs m a) (i + 1) ms) (e ∙ t) ∙ sym (if_true (governs m b) (Some i) (position_from (λ m. governs m b) (i + 1) ms) t)
      | inr f ↦ if_false (governs m a) (Some i) (position_from (λ m. governs m a) (i + 1) ms) (e ∙ f) ∙ (rest ∙ sym (if_false (governs m b) (Some i) (position_from (λ m. governs m b) (i + 1) ms) f))
    ]

-- bytes on one side of each border of what a manager governs
pub governs_cut : (m : SyncManager) (start stop a : ℕ) → (stop ≤ m.settings.start) ⊎ (m.settings.start ≤ start)
    → (stop ≤ span_end_of m.settings) ⊎ (span_end_of m.settings ≤ start) → start ≤ a → a < stop → governs m a ≡ governs m start
governs_cut m start stop a low high lo hi =
    let first = m.settings.start in
    let n = span m.settings in
    elim (cases_Bool (is_set m.settings)) [
      | inl t ↦
          let e : span_end_of m.settings ≡ first + n = if_true (is_set m.settings) (first + n) 0 t in
          governs_alike m start (stop - start) a (elim high [
            | inl y ↦ elim low [
              | inl x ↦ inr (inl (omega arith))
              | inr x ↦ inr (inr (x, omega (arith, e)))
            ]
            | inr y ↦ inl (omega (arith, e))
          ]) lo (omega arith)
      | inr f ↦ ap (λ (b : Bool). b && within first n a) f ∙ sym (ap (λ (b : Bool). b && within first n start) f)
    ]

-- bytes on one side of the end of its value
pub front_cut : (m : SyncManager) (start stop a : ℕ) → (stop ≤ m.settings.start + m.settings.length) ⊎ (m.settings.start + m.settings.length ≤ start)
    → start ≤ a → a < stop → in_first_buffer m a ≡ in_first_buffer m start
front_cut m start stop a side lo hi =
    let end = m.settings.start + m.settings.length in
    elim side [
      | inl x ↦ lt-ltb a end (omega arith) ∙ sym (lt-ltb start end (omega arith))
      | inr x ↦ le-ltb a end (omega arith) ∙ sym (le-ltb start end x)
    ]

-- where each manager has both bytes or none, the same one governs both
pub governor_alike : (ms : List SyncManager) (a b : ℕ) → ((j : ℕ) → j < length ms → governs (manager_at ms j) a ≡ governs (manager_at ms j) b)
    → governor ms a ≡ governor ms b
governor_alike ms a b h = position_alike 0 a b ms h

-- ---- runs that are copied at once

-- a run of which each bit shows what is copied
pub run_copied : (xs : List ℕ) (visible : ℕ → Option Bool) (physical to n : ℕ) (src : List ℕ) (from : ℕ)
    → ((i : ℕ) → to ≤ i → i < to + n → visible (physical + (i - to)) ≡ Some (bit src (from + (i - to))))
    → copied xs to src from n ≡ overlay xs (run_visible visible physical to n)
run_copied xs visible physical to n src from h = overlay_alike xs (run_updates to src from n) (run_visible visible physical to n)
    (λ i l. ap (λ (o : Option Bool). unwrap_or o (bit xs i)) (elim (cases_Bool (within to n i)) [
      | inl t ↦
          let w = within_parts to n i t in
          if_true (within to n i) (Some (bit src (from + (i - to)))) None t ∙ (sym (h i w.0 w.1) ∙ sym (if_true (within to n i) (visible (physical + (i - to))) None t))
      | inr f ↦ if_false (within to n i) (Some (bit src (from + (i - to)))) None f ∙ sym (if_false (within to n i) (visible (physical + (i - to))) None f)
    ]))

pub run_counts : (bits : ℕ) (visible : ℕ → Option Bool) (physical to n : ℕ) → 0 < n → to + n ≤ bits → is_some (visible physical) ≡ true
    → any_below bits (λ i. is_some (run_visible visible physical to n i)) ≡ true
run_counts bits visible physical to n some inside h =
    let z : physical + (to - to) ≡ physical = omega arith in
    any_below_from bits (λ i. is_some (run_visible visible physical to n i)) to (omega arith)
    (ap is_some (if_true (within to n to) (visible (physical + (to - to))) None (within_true to n to (omega arith) (omega arith))) ∙ (ap (λ (q : ℕ). is_some (visible q)) z ∙ h))

pub run_nothing : (xs : List ℕ) (visible : ℕ → Option Bool) (physical to n : ℕ) → ((i : ℕ) → to ≤ i → i < to + n → visible (physical + (i - to)) ≡ None)
    → (xs ≡ overlay xs (run_visible visible physical to n)) × (false ≡ any_below (8 * length xs) (λ i. is_some (run_visible visible physical to n i)))
run_nothing xs visible physical to n h =
    let none : (i : ℕ) → run_visible visible physical to n i ≡ None = λ i. elim (cases_Bool (within to n i)) [
      | inl t ↦ let w = within_parts to n i t in if_true (within to n i) (visible (physical + (i - to))) None t ∙ h i w.0 w.1
      | inr f ↦ if_false (within to n i) (visible (physical + (i - to))) None f
    ] in (
      sym (overlay_own xs (run_visible visible physical to n) (λ i l. ap (λ (o : Option Bool). unwrap_or o (bit xs i)) (none i))),
      sym (any_below_none (8 * length xs) (λ i. is_some (run_visible visible physical to n i)) (λ i l. ap is_some (none i))),
    )

-- ---- what a run of bits shows that one manager governs

pub unreadable : (memory : List ℕ) (ms : List SyncManager) (readable : List Bool) (n q : ℕ) → get_or readable n false ≡ false → governor ms (q / 8) ≡ Some n
    → view_bit memory ms readable q ≡ None
unreadable memory ms readable n q r g =
    ap (view_under memory ms readable q) g
    ∙ if_false (in_first_buffer (manager_at ms n) (q / 8) && get_or readable n false) _ None (and_right (in_first_buffer (manager_at ms n) (q / 8)) (get_or readable n false) r)

pub readable_value : (memory : List ℕ) (ms : List SyncManager) (readable : List Bool) (n q last : ℕ) → get_or readable n false ≡ true → governor ms (q / 8) ≡ Some n
    → in_first_buffer (manager_at ms n) last ≡ true → q / 8 ≤ last
    → view_bit memory ms readable q ≡ Some (bit (visible (manager_at ms n)) (q - 8 * (manager_at ms n).settings.start))
readable_value memory ms readable n q last r g front below =
    let m = manager_at ms n in
    let end = m.settings.start + m.settings.length in
    let l : last < end = ltb-true last end front in
    let here : in_first_buffer m (q / 8) ≡ true = lt-ltb (q / 8) end (omega arith) in
    ap (view_under memory ms readable q) g
    ∙ if_true (in_first_buffer m (q / 8) && get_or readable n false) (Some (bit (visible m) (q - 8 * m.settings.start))) None (and_from (in_first_buffer m (q / 8)) (get_or readable n false) here r)

-- behind the end of the value nothing is shown
pub behind_value : (memory : List ℕ) (ms : List SyncManager) (readable : List Bool) (n q : ℕ) → in_first_buffer (manager_at ms n) (q / 8) ≡ false → governor ms (q / 8) ≡ Some n
    → view_bit memory ms readable q ≡ None
behind_value memory ms readable n q behind g =
    ap (view_under memory ms readable q) g
    ∙ if_false (in_first_buffer (manager_at ms n) (q / 8) && get_or readable n false) _ None (and_left (in_first_buffer (manager_at ms n) (q / 8)) (get_or readable n false) behind)

-- a run that begins inside another one is a part of it
pub run_part : (visible : ℕ → Option Bool) (physical to n done m : ℕ) → done + m ≤ n → (i : ℕ)
    → run_visible visible (physical + done) (to + done) m i ≡ (if within (to + done) m i then run_visible visible physical to n i else None)
run_part visible physical to n done m fits i =
    elim (cases_Bool (within (to + done) m i)) [
      | inl t ↦
          let w = within_parts (to + done) m i t in
          let lo = w.0 in
          let hi = w.1 in
          let at : physical + done + (i - (to + done)) ≡ physical + (i - to) = omega arith in
          let inside : within to n i ≡ true = within_true to n i (omega arith) (omega arith) in
          if_true (within (to + done) m i) (visible (physical + done + (i - (to + done)))) None t
          ∙ (ap visible at ∙ (sym (if_true (within to n i) (visible (physical + (i - to))) None inside)
          ∙ sym (if_true (within (to + done) m i) (run_visible visible physical to n i) None t)))
      | inr f ↦ if_false (within (to + done) m i) (visible (physical + done + (i - (to + done)))) None f
          ∙ sym (if_false (within (to + done) m i) (run_visible visible physical to n i) None f)
    ]
