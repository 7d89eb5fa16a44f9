-- The buffers of a slave's sync managers, as the headline names them.
use Rattle.ec_world.proofs.Words.{ℕ, ◌+◌, ◌<◌, ◌≡◌, ◌≢◌, ◌==◌, nat_lt, Bool, true, false, Option, Some, None, refl, sym, ◌∙◌, ap, inl, inr, arith, List, [], length, set, if◌then◌else◌, option_map, option_map_or, slice_get, slice_set, cases_lt, eq-eqb, ne_eqb, ltb-true, and_left, if_true, if_false, length-set, length-replicate, get_or_past, slice_get-get_or, slice_get_past, get_or-set_same, zeros, app_written, app_read, Buffer, Got, drafted, draft_next, view_next, SyncManager, no_manager, SlaveState, manager_at, with_outputs, published, buffer_of, with_buffer, OnlyPublishes, IsOfLength, none_some, some_same}
use Rattle.ec_world.proofs.Refinement.ProcessManagers.{unset}

-- a sync manager that isn't there has no value
pub no_value : no_manager.buffer.published ≡ []
no_value = ap zeros (if_false _ _ _ (and_left _ _ unset))

pub published_is : (s : SlaveState) (n : ℕ) → published s n ≡ (manager_at s.managers n).buffer.published
published_is s n = elim (cases_lt n (length s.managers)) [
  | inl l ↦ ap of (slice_get-get_or s.managers n no_manager l)
  | inr past ↦ ap of (slice_get_past s.managers n past) ∙ (sym no_value ∙ ap (λ (m : SyncManager). m.buffer.published) (sym (get_or_past s.managers n no_manager past)))
]
  where
    of : Option SyncManager → List ℕ
    of o = option_map_or (λ (b : Buffer). b.published) (option_map (λ (m : SyncManager). m.buffer) o) []

pub buffer_is : (s : SlaveState) (n : ℕ) → n < length s.managers → buffer_of s n ≡ Some (manager_at s.managers n).buffer
buffer_is s n l = ap (option_map (λ (m : SyncManager). m.buffer)) (slice_get-get_or s.managers n no_manager l)

pub with_buffer_is : (s : SlaveState) (n : ℕ) (b : Buffer) → n < length s.managers → with_buffer s n b ≡ record s { managers = set s.managers n (record (manager_at s.managers n) { buffer = b }) }
with_buffer_is s n b l = ap (λ o. option_map_or (λ (m : SyncManager). record s { managers = set s.managers n (record m { buffer = b }) }) o s) (slice_get-get_or s.managers n no_manager l)

pub buffer_kept : (s : SlaveState) (n : ℕ) (b : Buffer) → n < length s.managers → published (with_buffer s n b) n ≡ b.published
buffer_kept s n b l =
    let m : SyncManager = record (manager_at s.managers n) { buffer = b } in
    ap (λ (x : SlaveState). published x n) (with_buffer_is s n b l)
    ∙ (published_is (record s { managers = set s.managers n m }) n
    ∙ ap (λ (x : SyncManager). x.buffer.published) (get_or-set_same s.managers n m no_manager l))

pub only_publishes : (s : SlaveState) (value : List ℕ) (new : SlaveState) → 2 < length s.managers → (manager_at s.managers 2).awaited ≡ false → new ≡ with_outputs s value → OnlyPublishes s 2 value new
only_publishes s value new l free e =
    let m : SyncManager = manager_at s.managers 2 in
    let b : Buffer = m.buffer in
    let c : Buffer = record b { published = value } in
    let same : with_outputs s value ≡ record s { managers = set s.managers 2 (record m { buffer = c }) }
    = ap (λ (x : Bool). record s { managers = set s.managers 2 (record m { buffer = c; awaited = x }) }) (sym free) in
    record { buffer = b; there = buffer_is s 2 l; is = e ∙ (same ∙ sym (with_buffer_is s 2 c l)) }

-- ---- a byte that an application writes

pub record Written (b : Buffer) (i x : ℕ) (c : Buffer) : Type 0 where
  pub draft : List ℕ
  pub long : length draft ≡ length b.published
  pub inside : i < length b.published
  pub is : drafted b i (slice_set draft i x) ≡ c

pub written : (n : ℕ) (b : Buffer) (i x : ℕ) (c : Buffer) → IsOfLength n b → app_written b i x ≡ Some c → Written b i x c
unfolding app_written
written n b i x c h e = by (nat_lt i (length b.published)) (i == 0) refl e
  where
    next : i < length b.published → (o : Option (List ℕ)) → ((d : List ℕ) → o ≡ Some d → length d ≡ length b.published) → draft_next b i x o ≡ Some c → Written b i x c
    next l None k q = absurd (none_some c q)
    next l (Some d) k q = record { draft = d; long = k d refl; inside = l; is = some_same _ c q }

    by : (a z : Bool) → nat_lt i (length b.published) ≡ a → (if a then draft_next b i x (if z then Some (zeros (length b.published)) else b.draft) else None) ≡ Some c → Written b i x c
    by false z l q = absurd (none_some c q)
    by true true l q = next (ltb-true i _ l) (Some (zeros (length b.published))) (λ d y. ap length (sym (some_same _ d y)) ∙ length-replicate (length b.published) 0) q
    by true false l q = next (ltb-true i _ l) b.draft (λ d y. h.draft d y ∙ sym h.published) q

pub last_published : (b : Buffer) (i x : ℕ) (c : Buffer) → Written b i x c → i + 1 ≡ length b.published → slice_get c.published i ≡ Some x
last_published b i x c w last =
    let d : List ℕ = slice_set w.draft i x in
    let now : c.published ≡ d = ap (λ (y : Buffer). y.published) (sym w.is) ∙ ap (λ (y : Buffer). y.published) (if_true _ _ _ (eq-eqb _ _ last)) in
    let l : i < length w.draft = let z = w.inside in let y = w.long in omega (arith, z, y) in
    let m : i < length d = let z = length-set w.draft i x in omega (arith, l, z) in
    ap (λ ys. slice_get ys i) now ∙ (slice_get-get_or d i 0 m ∙ ap (λ (n : ℕ). Some n) (get_or-set_same w.draft i x 0 l))

pub others_keep : (b : Buffer) (i x : ℕ) (c : Buffer) → Written b i x c → i + 1 ≢ length b.published → c.published ≡ b.published
others_keep b i x c w ne = ap (λ (y : Buffer). y.published) (sym w.is) ∙ ap (λ (y : Buffer). y.published) (if_false _ _ _ (ne_eqb _ _ ne))

-- ---- a byte that an application reads

pub read_keeps : (b : Buffer) (i : ℕ) (g : Got) → app_read b i ≡ Some g → g.buffer.published ≡ b.published
unfolding app_read
read_keeps b i g e = by (nat_lt i (length b.published)) (i == 0) e
  where
    next : (o : Option (List ℕ)) → view_next b i o ≡ Some g → g.buffer.published ≡ b.published
    next None q = absurd (none_some g q)
    next (Some v) q = ap (λ (y : Got). y.buffer.published) (sym (some_same _ g q))

    by : (a z : Bool) → (if a then view_next b i (if z then Some b.published else b.view) else None) ≡ Some g → g.buffer.published ≡ b.published
    by false z q = absurd (none_some g q)
    by true true q = next (Some b.published) q
    by true false q = next b.view q
