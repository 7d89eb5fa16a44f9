-- What all bytes of a value come to that the application puts, or gets, one after the other.
use Rattle.std.proofs.Common.{ℕ, zero, suc, ◌+◌, ◌<◌, ◌≡◌, ◌==◌, List, [], ◌∷◌, ◌++◌, length, take, set, true, if◌then◌else◌, Option, Some, None, option_map, unwrap_or, refl, sym, ◌∙◌, ap, append_assoc, arith}
use Rattle.std.proofs.lemmas.Bool.{eq-eqb, ne_eqb, lt-ltb}
use Rattle.std.proofs.lemmas.List.{length-replicate, length-set, take_all, take_more_set}
use Rattle.std.proofs.lemmas.Grind.{common_steps}
use Rattle.ec_bits.specs.Bits.{zeros}
use Rattle.ec_bits.proofs.AnyLaws.{if_true, if_false}
use Rattle.ec_regs.specs.Managers.{is_set}
use Rattle.ec_sync.specs.Buffer.{Buffer, app_written, app_read, draft_next, drafted, view_next}
use Rattle.ec_sync.specs.SyncManager.{SyncManager, may_app_put, may_app_get, after_get}
use Rattle.ec_sync.specs.Sound.{IsManager}
use Rattle.ec_sync.specs.Runs.{AppPut, AppGet, step, run, draft_for, puts_from, gets_from}

-- a manager that the application may write, or read, has a byte at least
put-some : (m : SyncManager) → IsManager m → may_app_put m ≡ true → 0 < length m.buffer.published
unfolding is_set
put-some m good may = let e = good.published in grind (arith, common_steps, may, e)

get-some : (m : SyncManager) → IsManager m → may_app_get m ≡ true → 0 < length m.buffer.published
unfolding is_set
get-some m good may = let e = good.published in grind (arith, common_steps, may, e)

-- ---- puts

put-opened : (m : SyncManager) (i x : ℕ) (d : List ℕ) → may_app_put m ≡ true → i < length m.buffer.published → draft_for m i ≡ Some d
    → step m (AppPut i x) ≡ record m { buffer = drafted m.buffer i (set d i x) }
unfolding app_written
put-opened m i x d may l is_open =
    ap (λ (o : Option SyncManager). unwrap_or o m)
    (if_true _ _ _ may ∙ ap (option_map (λ (b : Buffer). record m { buffer = b })) (if_true _ _ _ (lt-ltb i (length m.buffer.published) l) ∙ ap (draft_next m.buffer i x) is_open))

abbrev with_published : SyncManager → List ℕ → SyncManager
with_published m value = record m { buffer = record m.buffer { published = value; draft = None } }

abbrev with_draft : SyncManager → List ℕ → SyncManager
with_draft m d = record m { buffer = record m.buffer { draft = Some d } }

put-all : (xs : List ℕ) (m : SyncManager) (i x : ℕ) (d : List ℕ) → may_app_put m ≡ true → i + length (x ∷ xs) ≡ length m.buffer.published → length d ≡ length m.buffer.published
    → draft_for m i ≡ Some d → run m (puts_from i (x ∷ xs)) ≡ with_published m (take i d ++ x ∷ xs)
put-all [] m i x d may l long is_open =
    let whole : set d i x ≡ take i d ++ x ∷ []
    = sym (take_all (i + 1) (set d i x) (let e = length-set d i x in omega (arith, e, l, long))) ∙ take_more_set d i x (omega (arith, l, long)) in
    put-opened m i x d may (omega (arith, l)) is_open
    ∙ (ap (λ (b : Buffer). record m { buffer = b }) (if_true _ _ _ (eq-eqb (i + 1) (length m.buffer.published) (omega (arith, l))))
    ∙ ap (with_published m) whole)
put-all (y ∷ ys) m i x d may l long is_open =
    let e : List ℕ = set d i x in
    let more : take (i + 1) e ≡ take i d ++ x ∷ [] = take_more_set d i x (omega (arith, l, long)) in
    let stepped : step m (AppPut i x) ≡ with_draft m e
    = put-opened m i x d may (omega (arith, l)) is_open
    ∙ ap (λ (b : Buffer). record m { buffer = b }) (if_false _ _ _ (ne_eqb (i + 1) (length m.buffer.published) (λ z. omega (arith, z, l)))) in
    ap (λ (t : SyncManager). run t (puts_from (i + 1) (y ∷ ys))) stepped
    ∙ (put-all ys (with_draft m e) (i + 1) y e may (omega (arith, l)) (length-set d i x ∙ long) (if_false _ _ _ (ne_eqb (i + 1) 0 (λ z. omega (arith, z))))
    ∙ ap (with_published m) (ap (λ (zs : List ℕ). zs ++ y ∷ ys) more ∙ append_assoc (take i d) (x ∷ []) (y ∷ ys)))

pub all_put : (m : SyncManager) (value : List ℕ) → IsManager m → may_app_put m ≡ true → length value ≡ length m.buffer.published
    → with_published m value ≡ run m (puts_from 0 value)
all_put m [] good may l = absurd (let some = put-some m good may in omega (arith, some, l))
all_put m (x ∷ xs) good may l =
    sym (put-all xs m 0 x (zeros (length m.buffer.published)) may (omega (arith, l)) (length-replicate (length m.buffer.published) 0) refl)

-- ---- gets

abbrev with_view : SyncManager → Option (List ℕ) → SyncManager
with_view m o = record m { buffer = record m.buffer { view = o } }

got-opened : (m : SyncManager) (i : ℕ) (v : List ℕ) → may_app_get m ≡ true → i < length m.buffer.published → (if i == 0 then Some m.buffer.published else m.buffer.view) ≡ Some v
    → step m (AppGet i) ≡ with_view m (if i + 1 == length m.buffer.published then None else Some v)
unfolding app_read
got-opened m i v may l is_open =
    ap (after_get m) (if_true _ _ _ may ∙ (if_true _ _ _ (lt-ltb i (length m.buffer.published) l) ∙ ap (view_next m.buffer i) is_open))

get-all : (k : ℕ) (m : SyncManager) (i : ℕ) (v : List ℕ) → may_app_get m ≡ true → i + suc k ≡ length m.buffer.published → (if i == 0 then Some m.buffer.published else m.buffer.view) ≡ Some v
    → run m (gets_from i (suc k)) ≡ with_view m None
get-all zero m i v may l is_open =
    got-opened m i v may (omega (arith, l)) is_open
    ∙ ap (with_view m) (if_true _ _ _ (eq-eqb (i + 1) (length m.buffer.published) (omega (arith, l))))
get-all (suc k) m i v may l is_open =
    let stepped : step m (AppGet i) ≡ with_view m (Some v)
    = got-opened m i v may (omega (arith, l)) is_open
    ∙ ap (with_view m) (if_false _ _ _ (ne_eqb (i + 1) (length m.buffer.published) (λ z. omega (arith, z, l)))) in
    ap (λ (t : SyncManager). run t (gets_from (i + 1) (suc k))) stepped
    ∙ get-all k (with_view m (Some v)) (i + 1) v may (omega (arith, l)) (if_false _ _ _ (ne_eqb (i + 1) 0 (λ z. omega (arith, z))))

got-count : (n : ℕ) (m : SyncManager) → n ≡ length m.buffer.published → 0 < n → may_app_get m ≡ true → with_view m None ≡ run m (gets_from 0 n)
got-count zero m e some may = absurd (omega (arith, some))
got-count (suc k) m e some may = sym (get-all k m 0 m.buffer.published may (omega (arith, e)) refl)

pub all_got : (m : SyncManager) → IsManager m → may_app_get m ≡ true → with_view m None ≡ run m (gets_from 0 (length m.buffer.published))
all_got m good may = got-count (length m.buffer.published) m refl (get-some m good may) may
