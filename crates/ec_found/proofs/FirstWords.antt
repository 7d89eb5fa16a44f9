-- What stands at the front of words: a category, a sync manager, a PDO or an entry; by the words at its places.
use Rattle.std.proofs.Common.{ℕ, zero, suc, ◌+◌, ◌*◌, ◌/◌, ◌%◌, ◌<◌, ◌≤◌, ◌≡◌, ◌≢◌, ◌==◌, ◌&&◌, ◌||◌, not, List, [], ◌∷◌, length, take, drop, map, filter, min, Bool, true, false, None, Some, get_or, refl, sym, ap, ◌∙◌, arith, inl, inr}
use Rattle.std.specs.List.{list_any}
use Rattle.std.proofs.lemmas.Bool.{cases_lt, eq-eqb, lt-leb, ne_eqb}
use Rattle.std.proofs.lemmas.List.{drop_all, drop_min, take_all, take_min}
use Rattle.ec_device.specs.declared.slave_type.Entry.{Entry}
use Rattle.ec_device.specs.declared.slave_type.Pdo.{Pdo}
use Rattle.ec_sii.specs.Reading.{category_found, found_behind, managers_read, pdos_read, ReadPdo}
use Rattle.ec_found.specs.Founds.{ShownManager, entries_of, has_second, has_stray, is_stray, managers_in, pdos_in, plain_entries, plain_entry, plain_pdo, used_from}
use Rattle.ec_found.proofs.EntryWords.{cut-pdo, headed, no_pdos, whole-pdo}
use Rattle.ec_found.proofs.Steps.{a_manager, at_category, no_manager, none_left, one_left, one_of_four, passed_end, passed_word, three_of_four, two_of_four}

-- ---- a category

passed_over : (count wanted : ℕ) (ws : List ℕ) → found_behind count wanted ws ≡ category_found wanted (drop count ws)
passed_over zero wanted ws = refl
passed_over (suc n) wanted [] = passed_end n wanted ∙ sym (none_left wanted)
passed_over (suc n) wanted (w ∷ ws) = passed_word n wanted w ws ∙ passed_over n wanted ws

pub category_none : (wanted : ℕ) (ws : List ℕ) → length ws < 2 → category_found wanted ws ≡ None
category_none wanted [] l = none_left wanted
category_none wanted (w ∷ []) l = one_left wanted w
category_none wanted (v ∷ w ∷ ws) l = absurd (omega (arith, l))

pub category_end : (wanted : ℕ) (ws : List ℕ) → 2 ≤ length ws → get_or ws 0 0 ≡ 0xFFFF → category_found wanted ws ≡ None
category_end wanted [] l e = absurd (omega (arith, l))
category_end wanted (w ∷ []) l e = absurd (omega (arith, l))
category_end wanted (number ∷ count ∷ ws) l e =
    let t : (number == 0xFFFF) ≡ true = eq-eqb number 0xFFFF e in
    at_category wanted number count ws ∙ rw t refl

pub category_here : (wanted : ℕ) (ws : List ℕ) → 2 ≤ length ws → get_or ws 0 0 ≢ 0xFFFF → get_or ws 0 0 ≡ wanted
    → category_found wanted ws ≡ Some (take (min (get_or ws 1 0) (length (drop 2 ws))) (drop 2 ws))
category_here wanted [] l g e = absurd (omega (arith, l))
category_here wanted (w ∷ []) l g e = absurd (omega (arith, l))
category_here wanted (number ∷ count ∷ ws) l g e =
    let f : (number == 0xFFFF) ≡ false = ne_eqb number 0xFFFF g in
    let t : (number == wanted) ≡ true = eq-eqb number wanted e in
    at_category wanted number count ws ∙ rw (f, t) (ap (λ (xs : List ℕ). Some xs) (sym (take_min count ws)))

pub category_passed : (wanted : ℕ) (ws : List ℕ) → 2 ≤ length ws → get_or ws 0 0 ≢ 0xFFFF → get_or ws 0 0 ≢ wanted
    → category_found wanted ws ≡ category_found wanted (drop (min (get_or ws 1 0) (length (drop 2 ws))) (drop 2 ws))
category_passed wanted [] l g e = absurd (omega (arith, l))
category_passed wanted (w ∷ []) l g e = absurd (omega (arith, l))
category_passed wanted (number ∷ count ∷ ws) l g e =
    let f : (number == 0xFFFF) ≡ false = ne_eqb number 0xFFFF g in
    let n : (number == wanted) ≡ false = ne_eqb number wanted e in
    at_category wanted number count ws ∙ rw (f, n) (passed_over count wanted ws ∙ ap (category_found wanted) (sym (drop_min count ws)))

-- ---- a sync manager

-- what is shown of the sync managers that are read
manager_none_read : (usage number : ℕ) (ws : List ℕ) → managers_read ws ≡ [] → used_from usage number (managers_in ws) ≡ None
manager_none_read usage number ws e = rw e refl

pub manager_none : (usage number : ℕ) (ws : List ℕ) → length ws < 4 → used_from usage number (managers_in ws) ≡ None
manager_none usage number [] l = manager_none_read usage number [] no_manager
manager_none usage number (a ∷ []) l = manager_none_read usage number (a ∷ []) (one_of_four a)
manager_none usage number (a ∷ b ∷ []) l = manager_none_read usage number (a ∷ b ∷ []) (two_of_four a b)
manager_none usage number (a ∷ b ∷ c ∷ []) l = manager_none_read usage number (a ∷ b ∷ c ∷ []) (three_of_four a b c)
manager_none usage number (a ∷ b ∷ c ∷ d ∷ ws) l = absurd (omega (arith, l))

past_all : (usage : ℕ) (ms : List ShownManager) → used_from usage 16 ms ≡ None
past_all usage [] = refl
past_all usage (m ∷ ms) = refl

pub manager_past : (usage : ℕ) (ws : List ℕ) → used_from usage 16 (managers_in ws) ≡ None
manager_past usage ws = past_all usage (managers_in ws)

first_manager : (a b c d : ℕ) (ws : List ℕ) → managers_in (a ∷ b ∷ c ∷ d ∷ ws) ≡ record { usage = d / 256; start = a; long = b; control = c % 256 } ∷ managers_in ws
first_manager a b c d ws = rw (a_manager a b c d ws) refl

pub manager_here : (usage number : ℕ) (ws : List ℕ) → number < 16 → 4 ≤ length ws → get_or ws 3 0 / 256 ≡ usage
    → used_from usage number (managers_in ws) ≡ Some (record { number = number; start = get_or ws 0 0; long = get_or ws 1 0; control = get_or ws 2 0 % 256 })
manager_here usage number [] few l e = absurd (omega (arith, l))
manager_here usage number (a ∷ []) few l e = absurd (omega (arith, l))
manager_here usage number (a ∷ b ∷ []) few l e = absurd (omega (arith, l))
manager_here usage number (a ∷ b ∷ c ∷ []) few l e = absurd (omega (arith, l))
manager_here usage number (a ∷ b ∷ c ∷ d ∷ ws) few l e =
    let t : (d / 256 == usage) ≡ true = eq-eqb (d / 256) usage e in
    let below = lt-leb 16 number few in
    ap (used_from usage number) (first_manager a b c d ws) ∙ rw (below, t) refl

pub manager_passed : (usage number : ℕ) (ws : List ℕ) → number < 16 → 4 ≤ length ws → get_or ws 3 0 / 256 ≢ usage
    → used_from usage number (managers_in ws) ≡ used_from usage (number + 1) (managers_in (drop 4 ws))
manager_passed usage number [] few l e = absurd (omega (arith, l))
manager_passed usage number (a ∷ []) few l e = absurd (omega (arith, l))
manager_passed usage number (a ∷ b ∷ []) few l e = absurd (omega (arith, l))
manager_passed usage number (a ∷ b ∷ c ∷ []) few l e = absurd (omega (arith, l))
manager_passed usage number (a ∷ b ∷ c ∷ d ∷ ws) few l e =
    let n : (d / 256 == usage) ≡ false = ne_eqb (d / 256) usage e in
    let below = lt-leb 16 number few in
    ap (used_from usage number) (first_manager a b c d ws) ∙ rw (below, n) refl

-- ---- a second one

second_none_read : (behind : Bool) (usage : ℕ) (ws : List ℕ) → managers_read ws ≡ [] → has_second behind usage (managers_in ws) ≡ false
second_none_read behind usage ws e = rw e refl

pub second_none : (behind : Bool) (usage : ℕ) (ws : List ℕ) → length ws < 4 → has_second behind usage (managers_in ws) ≡ false
second_none behind usage [] l = second_none_read behind usage [] no_manager
second_none behind usage (a ∷ []) l = second_none_read behind usage (a ∷ []) (one_of_four a)
second_none behind usage (a ∷ b ∷ []) l = second_none_read behind usage (a ∷ b ∷ []) (two_of_four a b)
second_none behind usage (a ∷ b ∷ c ∷ []) l = second_none_read behind usage (a ∷ b ∷ c ∷ []) (three_of_four a b c)
second_none behind usage (a ∷ b ∷ c ∷ d ∷ ws) l = absurd (omega (arith, l))

pub second_next : (behind : Bool) (usage : ℕ) (ws : List ℕ) → 4 ≤ length ws
    → has_second behind usage (managers_in ws)
    ≡ (behind && ((get_or ws 3 0 / 256 == usage) && not (get_or ws 1 0 == 0))) || has_second (behind || (get_or ws 3 0 / 256 == usage)) usage (managers_in (drop 4 ws))
second_next behind usage [] l = absurd (omega (arith, l))
second_next behind usage (a ∷ []) l = absurd (omega (arith, l))
second_next behind usage (a ∷ b ∷ []) l = absurd (omega (arith, l))
second_next behind usage (a ∷ b ∷ c ∷ []) l = absurd (omega (arith, l))
second_next behind usage (a ∷ b ∷ c ∷ d ∷ ws) l = ap (has_second behind usage) (first_manager a b c d ws)

pub second_here : (behind : Bool) (usage : ℕ) (ws : List ℕ) → 4 ≤ length ws → behind ≡ true → (get_or ws 3 0 / 256 == usage) ≡ true → get_or ws 1 0 ≢ 0 → has_second behind usage (managers_in ws) ≡ true
second_here behind usage ws l t u some =
    let long : (get_or ws 1 0 == 0) ≡ false = ne_eqb (get_or ws 1 0) 0 some in
    second_next behind usage ws l ∙ rw (t, u, long) refl

-- ---- a PDO

pdo_whole : (ws : List ℕ) → 4 ≤ length ws → 4 * (get_or ws 1 0 % 256) ≤ length (drop 4 ws)
    → pdos_read ws ≡ headed (get_or ws 0 0) (get_or ws 1 0) (entries_of (take (4 * (get_or ws 1 0 % 256)) (drop 4 ws))) (pdos_read (drop (4 * (get_or ws 1 0 % 256)) (drop 4 ws)))
pdo_whole [] l g = absurd (omega (arith, l))
pdo_whole (a ∷ []) l g = absurd (omega (arith, l))
pdo_whole (a ∷ b ∷ []) l g = absurd (omega (arith, l))
pdo_whole (a ∷ b ∷ c ∷ []) l g = absurd (omega (arith, l))
pdo_whole (a ∷ b ∷ c ∷ d ∷ ws) l g = whole-pdo a b c d ws g

pdo_cut : (ws : List ℕ) → 4 ≤ length ws → length (drop 4 ws) < 4 * (get_or ws 1 0 % 256)
    → pdos_read ws ≡ headed (get_or ws 0 0) (get_or ws 1 0) (entries_of (drop 4 ws)) (pdos_read (drop (length (drop 4 ws)) (drop 4 ws)))
pdo_cut [] l g = absurd (omega (arith, l))
pdo_cut (a ∷ []) l g = absurd (omega (arith, l))
pdo_cut (a ∷ b ∷ []) l g = absurd (omega (arith, l))
pdo_cut (a ∷ b ∷ c ∷ []) l g = absurd (omega (arith, l))
pdo_cut (a ∷ b ∷ c ∷ d ∷ ws) l g =
    cut-pdo a b c d ws g
    ∙ ap (headed a b (entries_of ws)) (sym (ap pdos_read (drop_all (length ws) ws (omega arith)) ∙ no_pdos [] (omega arith)))

-- its entries are those whose words are there
pub pdo_first : (ws : List ℕ) → 4 ≤ length ws
    → pdos_read ws
    ≡ headed (get_or ws 0 0) (get_or ws 1 0) (entries_of (take (min (4 * (get_or ws 1 0 % 256)) (length (drop 4 ws))) (drop 4 ws)))
    (pdos_read (drop (min (4 * (get_or ws 1 0 % 256)) (length (drop 4 ws))) (drop 4 ws)))
pdo_first ws l = elim (cases_lt (length (drop 4 ws)) (4 * (get_or ws 1 0 % 256))) [
  | inl g ↦
      let size : length (drop 4 ws) ≡ min (4 * (get_or ws 1 0 % 256)) (length (drop 4 ws)) = omega (arith, g) in
      let all : drop 4 ws ≡ take (length (drop 4 ws)) (drop 4 ws) = sym (take_all (length (drop 4 ws)) (drop 4 ws) (omega arith)) in
      pdo_cut ws l g
      ∙ ap (λ (xs : List ℕ). headed (get_or ws 0 0) (get_or ws 1 0) (entries_of xs) (pdos_read (drop (length (drop 4 ws)) (drop 4 ws)))) all
      ∙ ap (λ (n : ℕ). headed (get_or ws 0 0) (get_or ws 1 0) (entries_of (take n (drop 4 ws))) (pdos_read (drop n (drop 4 ws)))) size
  | inr g ↦
      let size : 4 * (get_or ws 1 0 % 256) ≡ min (4 * (get_or ws 1 0 % 256)) (length (drop 4 ws)) = omega (arith, g) in
      pdo_whole ws l g
      ∙ ap (λ (n : ℕ). headed (get_or ws 0 0) (get_or ws 1 0) (entries_of (take n (drop 4 ws))) (pdos_read (drop n (drop 4 ws)))) size
]

-- what is taken of PDOs
abbrev taken : Bool → ℕ → List ReadPdo → List Pdo
taken all manager rs = map (λ (r : ReadPdo). plain_pdo r.pdo) (filter (λ (r : ReadPdo). all || (r.manager == manager)) rs)

pub pdos_first : (all : Bool) (manager : ℕ) (ws behind : List ℕ) (r : ReadPdo) → pdos_read ws ≡ r ∷ pdos_read behind → (all || (r.manager == manager)) ≡ true
    → pdos_in all manager ws ≡ plain_pdo r.pdo ∷ pdos_in all manager behind
pdos_first all manager ws behind r e t = ap (taken all manager) e ∙ rw t refl

pub pdos_other : (all : Bool) (manager : ℕ) (ws behind : List ℕ) (r : ReadPdo) → pdos_read ws ≡ r ∷ pdos_read behind → (all || (r.manager == manager)) ≡ false
    → pdos_in all manager ws ≡ pdos_in all manager behind
pdos_other all manager ws behind r e t = ap (taken all manager) e ∙ rw t refl

pub pdos_end : (all : Bool) (manager : ℕ) (ws : List ℕ) → pdos_read ws ≡ [] → pdos_in all manager ws ≡ []
pdos_end all manager ws e = ap (taken all manager) e

pub stray_first : (manager : ℕ) (ws behind : List ℕ) (r : ReadPdo) → pdos_read ws ≡ r ∷ pdos_read behind → has_stray manager ws ≡ is_stray manager r || has_stray manager behind
stray_first manager ws behind r e = ap (list_any (is_stray manager)) e

pub stray_end : (manager : ℕ) (ws : List ℕ) → pdos_read ws ≡ [] → has_stray manager ws ≡ false
stray_end manager ws e = ap (list_any (is_stray manager)) e

-- ---- an entry

pub entries_none : (ws : List ℕ) → length ws < 4 → entries_of ws ≡ []
entries_none [] l = refl
entries_none (a ∷ []) l = refl
entries_none (a ∷ b ∷ []) l = refl
entries_none (a ∷ b ∷ c ∷ []) l = refl
entries_none (a ∷ b ∷ c ∷ d ∷ ws) l = absurd (omega (arith, l))

pub entries_here : (ws : List ℕ) → 4 ≤ length ws
    → entries_of ws ≡ record { index = get_or ws 0 0; subindex = get_or ws 1 0 % 256; bits = get_or ws 2 0 / 256 } ∷ entries_of (drop 4 ws)
entries_here [] l = absurd (omega (arith, l))
entries_here (a ∷ []) l = absurd (omega (arith, l))
entries_here (a ∷ b ∷ []) l = absurd (omega (arith, l))
entries_here (a ∷ b ∷ c ∷ []) l = absurd (omega (arith, l))
entries_here (a ∷ b ∷ c ∷ d ∷ ws) l = refl

pub plain_first : (e : Entry) (es : List Entry) → 0 < e.bits → plain_entries (e ∷ es) ≡ plain_entry e ∷ plain_entries es
plain_first e es l = let f : (e.bits == 0) ≡ false = ne_eqb e.bits 0 (λ z. omega (arith, z, l)) in rw f refl

pub plain_other : (e : Entry) (es : List Entry) → e.bits ≡ 0 → plain_entries (e ∷ es) ≡ plain_entries es
plain_other e es z = let t : (e.bits == 0) ≡ true = eq-eqb e.bits 0 z in rw t refl
