-- A view and a draft, once opened, stay what they are until they are closed.
use Rattle.std.proofs.Common.{ℕ, suc, ◌+◌, ◌%◌, ◌==◌, ◌&&◌, ◌⊎◌, ◌≡◌, List, [], ◌∷◌, length, Bool, true, false, if◌then◌else◌, nat_lt, slice_set, Option, Some, None, is_some, unwrap_or, option_map, refl, sym, subst, ◌∙◌, inl, inr, arith}
use Rattle.std.proofs.lemmas.Bool.{eqb-true, cases_Bool}
use Rattle.std.specs.List.{All}
use Rattle.std.proofs.lemmas.List.Elements.{All-head, All-tail}
use Rattle.ec_bits.specs.Bits.{zeros}
use Rattle.ec_sync.specs.Buffer.{app_written, app_read, publishing}
use Rattle.ec_sync.specs.SyncManager.{SyncManager, may_write, may_read, may_app_put, may_app_get, app_put, app_got, after_get, message_in, may_put_message, padded}
use Rattle.ec_sync.specs.Runs.{Operation, Configure, Lock, Empty, PublishZeros, Await, RingWrite, RingRead, AppPut, AppGet, MessageTake, MessagePut, step, run, draft_for, OpensNoView, OpensNoDraft, with_puts, ViewsStay, DraftsAreTheBytesPut}
use Rattle.ec_sync.proofs.WholeValues.{none_some, put_if, got_if}

-- none is open, or the one with these bytes
abbrev pub IsNoneOr : List ℕ → Option (List ℕ) → Type 0
IsNoneOr v o = (o ≡ None) ⊎ (o ≡ Some v)

-- ---- a place that isn't the first

not-zero : (i : ℕ) → ¬ (suc i ≡ 0)
not-zero i e = omega arith

not-first : (i : ℕ) → ¬ (i ≡ 0) → (i == 0) ≡ false
not-first i ne = elim (cases_Bool (i == 0)) [ inl t ↦ absurd (ne (eqb-true i 0 t)) | inr f ↦ f ]

opens-none : (i : ℕ) (a b : Option (List ℕ)) → ¬ (i ≡ 0) → (if i == 0 then a else b) ≡ b
opens-none i a b ne = rw (not-first i ne) refl

stays : (v : List ℕ) (i : ℕ) (a b : Option (List ℕ)) → ¬ (i ≡ 0) → IsNoneOr v b → IsNoneOr v (if i == 0 then a else b)
stays v i a b ne h = subst (λ (o : Option (List ℕ)). IsNoneOr v o) (sym (opens-none i a b ne)) h

-- ---- views

view-if : (v : List ℕ) (granted : Bool) (a b : SyncManager) → IsNoneOr v a.buffer.view → IsNoneOr v b.buffer.view → IsNoneOr v (if granted then a else b).buffer.view
view-if v true a b x y = x
view-if v false a b x y = y

view-put : (v : List ℕ) (m : SyncManager) (may below last : Bool) (i x : ℕ) (d : Option (List ℕ)) → IsNoneOr v m.buffer.view
    → IsNoneOr v (unwrap_or (put_if may below last m i x d) m).buffer.view
view-put v m false below last i x d a = a
view-put v m true false last i x d a = a
view-put v m true true last i x None a = a
view-put v m true true true i x (Some d) a = a
view-put v m true true false i x (Some d) a = a

view-got : (v : List ℕ) (m : SyncManager) (may below last : Bool) (i : ℕ) (d : Option (List ℕ)) → IsNoneOr v m.buffer.view → IsNoneOr v d
    → IsNoneOr v (after_get m (got_if may below last m.buffer i d)).buffer.view
view-got v m false below last i d a k = a
view-got v m true false last i d a k = a
view-got v m true true last i None a k = a
view-got v m true true true i (Some w) a k = inl refl
view-got v m true true false i (Some w) a k = k

view-step_put : (v : List ℕ) (m : SyncManager) (i x : ℕ) → IsNoneOr v m.buffer.view → IsNoneOr v (step m (AppPut i x)).buffer.view
unfolding app_written
view-step_put v m i x a = view-put v m (may_app_put m) (nat_lt i (length m.buffer.published)) (i + 1 == length m.buffer.published) i x (draft_for m i) a

view-step_get : (v : List ℕ) (m : SyncManager) (i : ℕ) → ¬ (i ≡ 0) → IsNoneOr v m.buffer.view → IsNoneOr v (step m (AppGet i)).buffer.view
unfolding app_read
view-step_get v m i ne a =
    view-got v m (may_app_get m) (nat_lt i (length m.buffer.published)) (i + 1 == length m.buffer.published) i (if i == 0 then Some m.buffer.published else m.buffer.view) a
    (stays v i (Some m.buffer.published) m.buffer.view ne a)

view-step : (v : List ℕ) (m : SyncManager) (o : Operation) → OpensNoView o → IsNoneOr v m.buffer.view → IsNoneOr v (step m o).buffer.view
view-step v m (Configure settings) h a = inl refl
view-step v m (Lock locked) h a = a
view-step v m Empty h a = inl refl
view-step v m PublishZeros h a = a
view-step v m (Await b) h a = a
view-step v m (RingWrite covered value) h a = view-if v (covered && may_write m) _ m (view-if v (m.settings.control % 4 == 2) (record m { mail = Some value }) (record m { buffer = publishing m.buffer value; awaited = false }) a a) a
view-step v m (RingRead covered) h a = view-if v (covered && may_read m) _ m (view-if v (m.settings.control % 4 == 2) (record m { mail = None }) m a a) a
view-step v m (AppPut i x) h a = view-step_put v m i x a
view-step v m (AppGet i) h a = view-step_get v m i h a
view-step v m MessageTake h a = view-if v (is_some (message_in m)) (record m { mail = None }) m a a
view-step v m (MessagePut message) h a = view-if v (may_put_message m (length message)) (record m { mail = Some (padded m message) }) m a a

view-run : (v : List ℕ) (m : SyncManager) (ops : List Operation) → All OpensNoView ops → IsNoneOr v m.buffer.view → IsNoneOr v (run m ops).buffer.view
view-run v m [] h a = a
view-run v m (o ∷ ops) h a = view-run v (step m o) ops (All-tail OpensNoView o ops h) (view-step v m o (All-head OpensNoView o ops h) a)

-- byte 0 opens a view of the published value
view-opened : (m : SyncManager) (may below last : Bool) (v : List ℕ) → is_some (got_if may below last m.buffer 0 (Some v)) ≡ true
    → IsNoneOr v (after_get m (got_if may below last m.buffer 0 (Some v))).buffer.view
view-opened m false below last v e = absurd (let f : false ≡ true = e in cc)
view-opened m true false last v e = absurd (let f : false ≡ true = e in cc)
view-opened m true true true v e = inl refl
view-opened m true true false v e = inr refl

view-first : (m : SyncManager) → is_some (app_got m 0) ≡ true → IsNoneOr m.buffer.published (step m (AppGet 0)).buffer.view
unfolding app_read
view-first m e = view-opened m (may_app_get m) (nat_lt 0 (length m.buffer.published)) (0 + 1 == length m.buffer.published) m.buffer.published e

same-value : (v w : List ℕ) (granted : Bool) (o : Option (List ℕ)) → IsNoneOr v o → (if granted then o else None) ≡ Some w → w ≡ v
same-value v w false o a e = absurd (none_some w e)
same-value v w true o (inl n) e = absurd (let f : None ≡ Some w = cc in none_some w f)
same-value v w true o (inr s) e = cc

pub views_stay : ViewsStay
views_stay m ops i value granted none e =
    let n : SyncManager = run (step m (AppGet 0)) ops in
    same-value m.buffer.published value (is_some (app_got n (suc i))) (if suc i == 0 then Some n.buffer.published else n.buffer.view)
    (stays m.buffer.published (suc i) (Some n.buffer.published) n.buffer.view (not-zero i) (view-run m.buffer.published (step m (AppGet 0)) ops none (view-first m granted))) e

-- ---- drafts

draft-if : (d : List ℕ) (granted : Bool) (a b : SyncManager) → IsNoneOr d a.buffer.draft → IsNoneOr d b.buffer.draft → IsNoneOr d (if granted then a else b).buffer.draft
draft-if d true a b x y = x
draft-if d false a b x y = y

draft-put : (d : List ℕ) (m : SyncManager) (may below last : Bool) (i x : ℕ) (o : Option (List ℕ)) → IsNoneOr d m.buffer.draft → IsNoneOr d o
    → IsNoneOr (if is_some (put_if may below last m i x o) then slice_set d i x else d) (unwrap_or (put_if may below last m i x o) m).buffer.draft
draft-put d m false below last i x o a k = a
draft-put d m true false last i x o a k = a
draft-put d m true true last i x None a k = a
draft-put d m true true true i x (Some w) a k = inl refl
draft-put d m true true false i x (Some w) a (inl n) = absurd (none_some w (sym n))
draft-put d m true true false i x (Some w) a (inr s) = let same : w ≡ d = cc in inr (rw same refl)

draft-got : (d : List ℕ) (m : SyncManager) (may below last : Bool) (i : ℕ) (o : Option (List ℕ)) → IsNoneOr d m.buffer.draft
    → IsNoneOr d (after_get m (got_if may below last m.buffer i o)).buffer.draft
draft-got d m false below last i o a = a
draft-got d m true false last i o a = a
draft-got d m true true last i None a = a
draft-got d m true true true i (Some w) a = a
draft-got d m true true false i (Some w) a = a

draft-step_get : (d : List ℕ) (m : SyncManager) (i : ℕ) → IsNoneOr d m.buffer.draft → IsNoneOr d (step m (AppGet i)).buffer.draft
unfolding app_read
draft-step_get d m i a = draft-got d m (may_app_get m) (nat_lt i (length m.buffer.published)) (i + 1 == length m.buffer.published) i (if i == 0 then Some m.buffer.published else m.buffer.view) a

draft-step_put : (d : List ℕ) (m : SyncManager) (i x : ℕ) → ¬ (i ≡ 0) → IsNoneOr d m.buffer.draft
    → IsNoneOr (if is_some (app_put m i x) then slice_set d i x else d) (step m (AppPut i x)).buffer.draft
unfolding app_written
draft-step_put d m i x ne a =
    draft-put d m (may_app_put m) (nat_lt i (length m.buffer.published)) (i + 1 == length m.buffer.published) i x (draft_for m i) a
    (stays d i (Some (zeros (length m.buffer.published))) m.buffer.draft ne a)

draft-run : (d : List ℕ) (m : SyncManager) (ops : List Operation) → All OpensNoDraft ops → IsNoneOr d m.buffer.draft → IsNoneOr (with_puts m ops d) (run m ops).buffer.draft
draft-run d m [] h a = a
draft-run d m (Configure settings ∷ ops) h a = draft-run d (step m (Configure settings)) ops (All-tail OpensNoDraft _ ops h) (inl refl)
draft-run d m (Lock locked ∷ ops) h a = draft-run d (step m (Lock locked)) ops (All-tail OpensNoDraft _ ops h) a
draft-run d m (Empty ∷ ops) h a = draft-run d (step m Empty) ops (All-tail OpensNoDraft _ ops h) (inl refl)
draft-run d m (PublishZeros ∷ ops) h a = draft-run d (step m PublishZeros) ops (All-tail OpensNoDraft _ ops h) a
draft-run d m (Await b ∷ ops) h a = draft-run d (step m (Await b)) ops (All-tail OpensNoDraft _ ops h) a
draft-run d m (RingWrite covered value ∷ ops) h a = draft-run d (step m (RingWrite covered value)) ops (All-tail OpensNoDraft _ ops h)
    (draft-if d (covered && may_write m) _ m (draft-if d (m.settings.control % 4 == 2) (record m { mail = Some value }) (record m { buffer = publishing m.buffer value; awaited = false }) a a) a)
draft-run d m (RingRead covered ∷ ops) h a = draft-run d (step m (RingRead covered)) ops (All-tail OpensNoDraft _ ops h)
    (draft-if d (covered && may_read m) _ m (draft-if d (m.settings.control % 4 == 2) (record m { mail = None }) m a a) a)
draft-run d m (AppPut i x ∷ ops) h a = draft-run (if is_some (app_put m i x) then slice_set d i x else d) (step m (AppPut i x)) ops (All-tail OpensNoDraft _ ops h)
    (draft-step_put d m i x (All-head OpensNoDraft (AppPut i x) ops h) a)
draft-run d m (AppGet i ∷ ops) h a = draft-run d (step m (AppGet i)) ops (All-tail OpensNoDraft _ ops h) (draft-step_get d m i a)
draft-run d m (MessageTake ∷ ops) h a = draft-run d (step m MessageTake) ops (All-tail OpensNoDraft _ ops h)
    (draft-if d (is_some (message_in m)) (record m { mail = None }) m a a)
draft-run d m (MessagePut message ∷ ops) h a = draft-run d (step m (MessagePut message)) ops (All-tail OpensNoDraft _ ops h)
    (draft-if d (may_put_message m (length message)) (record m { mail = Some (padded m message) }) m a a)

-- byte 0 opens a draft of zeros
draft-opened : (m : SyncManager) (may below last : Bool) (x : ℕ) (z : List ℕ) → is_some (put_if may below last m 0 x (Some z)) ≡ true
    → IsNoneOr (slice_set z 0 x) (unwrap_or (put_if may below last m 0 x (Some z)) m).buffer.draft
draft-opened m false below last x z e = absurd (let f : false ≡ true = e in cc)
draft-opened m true false last x z e = absurd (let f : false ≡ true = e in cc)
draft-opened m true true true x z e = inl refl
draft-opened m true true false x z e = inr refl

draft-first : (m : SyncManager) (x : ℕ) → is_some (app_put m 0 x) ≡ true → IsNoneOr (slice_set (zeros (length m.buffer.published)) 0 x) (step m (AppPut 0 x)).buffer.draft
unfolding app_written
draft-first m x e = draft-opened m (may_app_put m) (nat_lt 0 (length m.buffer.published)) (0 + 1 == length m.buffer.published) x (zeros (length m.buffer.published)) e

same-draft : (d w : List ℕ) (i y : ℕ) (closes : Bool) (o : Option (List ℕ)) → IsNoneOr d o → (if closes then option_map (λ e. slice_set e i y) o else None) ≡ Some w → w ≡ slice_set d i y
same-draft d w i y false o a e = absurd (none_some w e)
same-draft d w i y true None a e = absurd (none_some w e)
same-draft d w i y true (Some f) (inl n) e = absurd (none_some f (sym n))
same-draft d w i y true (Some f) (inr s) e = let same : f ≡ d = cc in let value : slice_set f i y ≡ w = cc in sym value ∙ rw same refl

pub drafts_are_the_bytes_put : DraftsAreTheBytesPut
unfolding DraftsAreTheBytesPut
drafts_are_the_bytes_put m ops x i y value granted none e =
    let n : SyncManager = run (step m (AppPut 0 x)) ops in
    let d : List ℕ = slice_set (zeros (length m.buffer.published)) 0 x in
    same-draft (with_puts (step m (AppPut 0 x)) ops d) value (suc i) y (is_some (app_put n (suc i) y) && (suc i + 1 == length n.buffer.published)) (draft_for n (suc i))
    (stays (with_puts (step m (AppPut 0 x)) ops d) (suc i) (Some (zeros (length n.buffer.published))) n.buffer.draft (not-zero i)
    (draft-run d (step m (AppPut 0 x)) ops none (draft-first m x granted))) e
