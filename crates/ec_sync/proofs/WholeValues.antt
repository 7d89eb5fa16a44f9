-- What readers get was published as a whole.
use Rattle.std.proofs.Common.{ℕ, ◌+◌, ◌/◌, ◌%◌, ◌==◌, ◌&&◌, ◌≡◌, List, [], ◌∷◌, ◌++◌, length, Bool, true, false, if◌then◌else◌, nat_lt, slice_index, slice_set, Option, Some, None, is_some, unwrap_or, option_map, refl, sym, ap, subst, append_assoc}
use Rattle.std.specs.List.{Contains}
use Rattle.std.proofs.lemmas.List.Elements.{Contains-append_left, Contains-push}
use Rattle.ec_bits.specs.Bits.{zeros}
use Rattle.ec_sync.specs.Buffer.{Buffer, Got, app_written, app_read, publishing}
use Rattle.ec_sync.specs.SyncManager.{SyncManager, no_manager, buffer_length, may_write, may_read, may_app_put, may_app_get, app_got, after_get, message_in, may_put_message, padded, is_enabled}
use Rattle.ec_sync.specs.Runs.{Operation, Configure, Lock, Empty, PublishZeros, Await, RingWrite, RingRead, AppPut, AppGet, MessageTake, MessagePut, step, run, draft_for, only, publications, history, visible_to, OnlyWholeValues, BytesOfTheView}

-- all that a reader could get is in the history
pub record Known (h : List (List ℕ)) (m : SyncManager) : Type 0 where
  pub published : Contains h m.buffer.published
  pub view : (v : List ℕ) → m.buffer.view ≡ Some v → Contains h v
  pub mail : (v : List ℕ) → m.mail ≡ Some v → Contains h v

pub none_some : (v : List ℕ) → None ≡ Some v → ⊥
none_some v e = cc

abbrev nothing : (h : List (List ℕ)) (v : List ℕ) → None ≡ Some v → Contains h v
nothing h v e = absurd (none_some v e)

some_same : (a b : List ℕ) → Some a ≡ Some b → a ≡ b
some_same a b e = cc

known-more : (h k : List (List ℕ)) (m : SyncManager) → Known h m → Known (h ++ k) m
known-more h k m a = record {
  published = Contains-append_left h k m.buffer.published a.published;
  view = λ v e. Contains-append_left h k v (a.view v e);
  mail = λ v e. Contains-append_left h k v (a.mail v e);
}

-- a value of the history, with one more behind it
pushed : (h : List (List ℕ)) (w v : List ℕ) → Some w ≡ Some v → Contains (h ++ w ∷ []) v
pushed h w v e = subst (λ (x : List ℕ). Contains (h ++ w ∷ []) x) (some_same w v e) (Contains-push h w)

known-emptied : (h : List (List ℕ)) (m : SyncManager) (n : ℕ) → m.buffer.published ≡ zeros n → m.buffer.view ≡ None → m.mail ≡ None → Known (h ++ zeros n ∷ []) m
known-emptied h m n p a b = record {
  published = subst (λ (x : List ℕ). Contains (h ++ zeros n ∷ []) x) (sym p) (Contains-push h (zeros n));
  view = λ v e. absurd (let f : None ≡ Some v = cc in none_some v f);
  mail = λ v e. absurd (let f : None ≡ Some v = cc in none_some v f);
}

known-publishing : (h : List (List ℕ)) (m : SyncManager) (w : List ℕ) (f : Bool) → Known h m → Known (h ++ w ∷ []) (record m { buffer = publishing m.buffer w; awaited = f })
known-publishing h m w f a = record {
  published = Contains-push h w;
  view = λ v e. Contains-append_left h (w ∷ []) v (a.view v e);
  mail = λ v e. Contains-append_left h (w ∷ []) v (a.mail v e);
}

known-mail : (h : List (List ℕ)) (m : SyncManager) (w : List ℕ) → Known h m → Known (h ++ w ∷ []) (record m { mail = Some w })
known-mail h m w a = record {
  published = Contains-append_left h (w ∷ []) m.buffer.published a.published;
  view = λ v e. Contains-append_left h (w ∷ []) v (a.view v e);
  mail = λ v e. pushed h w v e;
}

known-no_mail : (h : List (List ℕ)) (m : SyncManager) → Known h m → Known h (record m { mail = None })
known-no_mail h m a = record { published = a.published; view = a.view; mail = λ v e. nothing h v e }

known-stored : (h : List (List ℕ)) (m : SyncManager) (w : List ℕ) (is_mail : Bool) → Known h m
    → Known (h ++ w ∷ []) (if is_mail then record m { mail = Some w } else record m { buffer = publishing m.buffer w; awaited = false })
known-stored h m w true a = known-mail h m w a
known-stored h m w false a = known-publishing h m w false a

known-written : (h : List (List ℕ)) (m : SyncManager) (w : List ℕ) (granted is_mail : Bool) → Known h m
    → Known (h ++ (if granted then w ∷ [] else [])) (if granted then (if is_mail then record m { mail = Some w } else record m { buffer = publishing m.buffer w; awaited = false }) else m)
known-written h m w true is_mail a = known-stored h m w is_mail a
known-written h m w false is_mail a = known-more h [] m a

known-emptied_mail : (h : List (List ℕ)) (m : SyncManager) (is_mail : Bool) → Known h m → Known (h ++ []) (if is_mail then record m { mail = None } else m)
known-emptied_mail h m true a = known-more h [] _ (known-no_mail h m a)
known-emptied_mail h m false a = known-more h [] m a

known-read : (h : List (List ℕ)) (m : SyncManager) (granted is_mail : Bool) → Known h m → Known (h ++ []) (if granted then (if is_mail then record m { mail = None } else m) else m)
known-read h m true is_mail a = known-emptied_mail h m is_mail a
known-read h m false is_mail a = known-more h [] m a

known-message : (h : List (List ℕ)) (m : SyncManager) (w : List ℕ) (granted : Bool) → Known h m
    → Known (h ++ (if granted then w ∷ [] else [])) (if granted then record m { mail = Some w } else m)
known-message h m w true a = known-mail h m w a
known-message h m w false a = known-more h [] m a

-- ---- bytes of the application

abbrev pub drafted_if : Bool → Buffer → List ℕ → Buffer
drafted_if last b d = if last then record b { published = d; draft = None } else record b { draft = Some d }

abbrev pub draft_next_if : Bool → Buffer → ℕ → ℕ → Option (List ℕ) → Option Buffer
draft_next_if last b i x None = None
draft_next_if last b i x (Some d) = Some (drafted_if last b (slice_set d i x))

abbrev pub put_if : Bool → Bool → Bool → SyncManager → ℕ → ℕ → Option (List ℕ) → Option SyncManager
put_if may below last m i x d = if may then option_map (λ b. record m { buffer = b }) (if below then draft_next_if last m.buffer i x d else None) else None

abbrev pub closed_if : Bool → Bool → Bool → SyncManager → ℕ → ℕ → Option (List ℕ) → Option (List ℕ)
closed_if may below last m i x d = if is_some (put_if may below last m i x d) && last then option_map (λ e. slice_set e i x) d else None

known-put : (h : List (List ℕ)) (m : SyncManager) (may below last : Bool) (i x : ℕ) (d : Option (List ℕ)) → Known h m
    → Known (h ++ only (closed_if may below last m i x d)) (unwrap_or (put_if may below last m i x d) m)
known-put h m false below last i x d a = known-more h [] m a
known-put h m true false last i x d a = known-more h [] m a
known-put h m true true last i x None a = known-more h [] m a
known-put h m true true false i x (Some d) a = known-more h [] _ (record { published = a.published; view = a.view; mail = a.mail })
known-put h m true true true i x (Some d) a = record {
  published = Contains-push h (slice_set d i x);
  view = λ v e. Contains-append_left h (slice_set d i x ∷ []) v (a.view v e);
  mail = λ v e. Contains-append_left h (slice_set d i x ∷ []) v (a.mail v e);
}

abbrev pub view_next_if : Bool → Buffer → ℕ → Option (List ℕ) → Option Got
view_next_if last b i None = None
view_next_if last b i (Some v) = Some (record { byte = slice_index v i; buffer = record b { view = if last then None else Some v } })

abbrev pub got_if : Bool → Bool → Bool → Buffer → ℕ → Option (List ℕ) → Option Got
got_if may below last b i d = if may then (if below then view_next_if last b i d else None) else None

known-got : (h : List (List ℕ)) (m : SyncManager) (may below last : Bool) (i : ℕ) (d : Option (List ℕ)) → Known h m → ((v : List ℕ) → d ≡ Some v → Contains h v)
    → Known (h ++ []) (after_get m (got_if may below last m.buffer i d))
known-got h m false below last i d a k = known-more h [] m a
known-got h m true false last i d a k = known-more h [] m a
known-got h m true true last i None a k = known-more h [] m a
known-got h m true true true i (Some w) a k = known-more h [] _ (record { published = a.published; view = λ v e. nothing h v e; mail = a.mail })
known-got h m true true false i (Some w) a k = known-more h [] _ (record { published = a.published; view = λ v e. k v e; mail = a.mail })

-- the value that a byte is read of
known-viewed : (h : List (List ℕ)) (m : SyncManager) (first : Bool) (v : List ℕ) → Known h m → (if first then Some m.buffer.published else m.buffer.view) ≡ Some v → Contains h v
known-viewed h m true v a e = subst (λ (x : List ℕ). Contains h x) (some_same m.buffer.published v e) a.published
known-viewed h m false v a e = a.view v e

-- ---- each step

known-step_put : (h : List (List ℕ)) (m : SyncManager) (i x : ℕ) → Known h m → Known (h ++ publications m (AppPut i x)) (step m (AppPut i x))
unfolding app_written
known-step_put h m i x a = known-put h m (may_app_put m) (nat_lt i (length m.buffer.published)) (i + 1 == length m.buffer.published) i x (draft_for m i) a

known-step_get : (h : List (List ℕ)) (m : SyncManager) (i : ℕ) → Known h m → Known (h ++ publications m (AppGet i)) (step m (AppGet i))
unfolding app_read
known-step_get h m i a = known-got h m (may_app_get m) (nat_lt i (length m.buffer.published)) (i + 1 == length m.buffer.published) i (if i == 0 then Some m.buffer.published else m.buffer.view) a (λ v e. known-viewed h m (i == 0) v a e)

pub known-step : (h : List (List ℕ)) (m : SyncManager) (o : Operation) → Known h m → Known (h ++ publications m o) (step m o)
known-step h m (Configure settings) a = known-emptied h _ (buffer_length settings) refl refl refl
known-step h m (Lock locked) a = known-more h [] _ (record { published = a.published; view = a.view; mail = a.mail })
known-step h m Empty a = known-emptied h _ (buffer_length m.settings) refl refl refl
known-step h m PublishZeros a = known-publishing h m (zeros (length m.buffer.published)) m.awaited a
known-step h m (Await b) a = known-more h [] _ (record { published = a.published; view = a.view; mail = a.mail })
known-step h m (RingWrite covered value) a = known-written h m value (covered && may_write m) (m.settings.control % 4 == 2) a
known-step h m (RingRead covered) a = known-read h m (covered && may_read m) (m.settings.control % 4 == 2) a
known-step h m (AppPut i x) a = known-step_put h m i x a
known-step h m (AppGet i) a = known-step_get h m i a
known-step h m MessageTake a = known-emptied_mail h m (is_some (message_in m)) a
known-step h m (MessagePut message) a = known-message h m (padded m message) (may_put_message m (length message)) a

pub known-run : (h : List (List ℕ)) (m : SyncManager) (ops : List Operation) → Known h m → Known (h ++ history m ops) (run m ops)
known-run h m [] a = known-more h [] m a
known-run h m (o ∷ ops) a =
    subst (λ (k : List (List ℕ)). Known k (run (step m o) ops)) (append_assoc h (publications m o) (history (step m o) ops))
    (known-run (h ++ publications m o) (step m o) ops (known-step h m o a))

-- ---- what is shown

known-visible : (h : List (List ℕ)) (m : SyncManager) (covered enabled ring is_mail : Bool) (mail : Option (List ℕ)) (v : List ℕ) → Contains h m.buffer.published → ((w : List ℕ) → mail ≡ Some w → Contains h w)
    → (if covered && (enabled && (ring && (if is_mail then is_some mail else true))) then Some (if is_mail then unwrap_or mail [] else m.buffer.published) else None) ≡ Some v → Contains h v
known-visible h m false enabled ring is_mail mail v a k e = nothing h v e
known-visible h m true false ring is_mail mail v a k e = nothing h v e
known-visible h m true true false is_mail mail v a k e = nothing h v e
known-visible h m true true true false mail v a k e = subst (λ (x : List ℕ). Contains h x) (some_same m.buffer.published v e) a
known-visible h m true true true true None v a k e = nothing h v e
known-visible h m true true true true (Some w) v a k e = k v e

known-if : (h : List (List ℕ)) (granted : Bool) (o : Option (List ℕ)) (v : List ℕ) → ((w : List ℕ) → o ≡ Some w → Contains h w) → (if granted then o else None) ≡ Some v → Contains h v
known-if h true o v k e = k v e
known-if h false o v k e = nothing h v e

known-visible_to : (h : List (List ℕ)) (m : SyncManager) (o : Operation) (v : List ℕ) → Known h m → visible_to m o ≡ Some v → Contains h v
known-visible_to h m (Configure settings) v a e = nothing h v e
known-visible_to h m (Lock locked) v a e = nothing h v e
known-visible_to h m Empty v a e = nothing h v e
known-visible_to h m PublishZeros v a e = nothing h v e
known-visible_to h m (Await b) v a e = nothing h v e
known-visible_to h m (RingWrite covered value) v a e = nothing h v e
known-visible_to h m (RingRead covered) v a e = known-visible h m covered (is_enabled m) (m.settings.control / 4 % 4 == 0) (m.settings.control % 4 == 2) m.mail v a.published a.mail e
known-visible_to h m (AppPut i x) v a e = nothing h v e
known-visible_to h m (AppGet i) v a e = known-if h (is_some (app_got m i)) (if i == 0 then Some m.buffer.published else m.buffer.view) v (λ w f. known-viewed h m (i == 0) w a f) e
known-visible_to h m MessageTake v a e = known-if h _ m.mail v a.mail e
known-visible_to h m (MessagePut message) v a e = nothing h v e

pub whole_values : OnlyWholeValues
whole_values ops o v e =
    let first : List (List ℕ) = no_manager.buffer.published ∷ [] in
    let start : Known first no_manager = record { published = Contains-push [] no_manager.buffer.published; view = λ v e. nothing first v e; mail = λ v e. nothing first v e } in
    known-visible_to (first ++ history no_manager ops) (run no_manager ops) o v (known-run first no_manager ops start) e

-- ---- the bytes of a view

byte_of_view : (may below last : Bool) (b : Buffer) (i : ℕ) (d : Option (List ℕ)) (got : Got) → got_if may below last b i d ≡ Some got
    → option_map (λ v. slice_index v i) (if is_some (got_if may below last b i d) then d else None) ≡ Some got.byte
byte_of_view false below last b i d got e = cc
byte_of_view true false last b i d got e = cc
byte_of_view true true last b i None got e = cc
byte_of_view true true last b i (Some v) got e = ap (option_map (λ (g : Got). g.byte)) e

pub view_bytes : BytesOfTheView
unfolding app_read
view_bytes m i got e = byte_of_view (may_app_get m) (nat_lt i (length m.buffer.published)) (i + 1 == length m.buffer.published) m.buffer i (if i == 0 then Some m.buffer.published else m.buffer.view) got e
