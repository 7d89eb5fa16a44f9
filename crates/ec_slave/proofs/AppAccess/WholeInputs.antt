-- What the bytes of an application's inputs come to, written one after the other.
use Rattle.std.proofs.Common.{ℕ, zero, suc, ◌+◌, ◌<◌, ◌≤◌, ◌≡◌, ◌==◌, ◌&&◌, List, [], ◌∷◌, ◌++◌, length, take, set, slice_index, Bool, true, false, if◌then◌else◌, Option, Some, None, option_map, unwrap_or, refl, sym, ◌∙◌, ap, subst, add-one, arith}
use Rattle.std.proofs.lemmas.Bool.{eq-eqb, eqb-true, ne_eqb, lt-ltb}
use Rattle.std.proofs.lemmas.List.{get_or-set_same, length-replicate, length-set, take_all, take_more, take_more_set}
use Rattle.ec_bits.proofs.AnyLaws.{if_true, if_false}
use Rattle.ec_bits.specs.Bits.{zeros}
use Rattle.ec_regs.specs.Managers.{is_set, is_buffered}
use Rattle.ec_sync.specs.Buffer.{Buffer, app_written, draft_next, drafted}
use Rattle.ec_sync.specs.SyncManager.{SyncManager, no_manager, is_enabled, may_app_get, may_app_put, app_put}
use Rattle.ec_sync.specs.Sound.{IsManager}
use Rattle.ec_slave.specs.State.{SlaveState, manager_at}
use Rattle.ec_slave.specs.Sound.{IsSlave}
use Rattle.ec_slave.specs.Application.{put_size, is_running, with_manager, input_put, inputs_put}
use Rattle.ec_slave.proofs.AppAccess.Bytes.{put_after}

-- ---- truth values

pub both_true : (a b : Bool) → (a && b) ≡ true → (a ≡ true) × (b ≡ true)
both_true true b e = (refl, e)
both_true false b e = absurd (let f : false ≡ true = e in cc)

-- a size that isn't 0 is the one of a test that holds
pub sized : (b : Bool) (x n : ℕ) → n ≡ (if b then x else 0) → 0 < n → (b ≡ true) × (n ≡ x)
sized true x n e l = (refl, e)
sized false x n e l = absurd (omega (arith, e, l))

-- ---- who may write

get-enabled : (m : SyncManager) → may_app_get m ≡ true → (is_set m.settings ≡ true) × (is_buffered m.settings ≡ true)
get-enabled m e =
    let a = both_true (is_enabled m) _ e in
    ((both_true (is_set m.settings) _ a.0).0, (both_true (is_buffered m.settings) _ a.1).0)

put-enabled : (m : SyncManager) → may_app_put m ≡ true → (is_set m.settings ≡ true) × (is_buffered m.settings ≡ true)
put-enabled m e =
    let a = both_true (is_enabled m) _ e in
    ((both_true (is_set m.settings) _ a.0).0, (both_true (is_buffered m.settings) _ a.1).0)

pub long_as : (m : SyncManager) (n : ℕ) → IsManager m → is_set m.settings ≡ true → is_buffered m.settings ≡ true → n ≡ m.settings.length → length m.buffer.published ≡ n
long_as m n good set buffered e =
    let both_set : (is_set m.settings && is_buffered m.settings) ≡ true = rw (set, buffered) refl in
    good.published ∙ if_true _ _ _ both_set ∙ sym e

-- there are so many bytes of inputs
record MayWrite (s : SlaveState) (n : ℕ) : Type 0 where
  running : is_running s.al.state ≡ true
  may : may_app_put (manager_at s.managers 3) ≡ true
  whole : length (manager_at s.managers 3).buffer.published ≡ n
  some : (put_size s == 0) ≡ false
  there : 3 < length s.managers

may-write : (s : SlaveState) (n : ℕ) → IsSlave s → n ≡ put_size s → 0 < n → MayWrite s n
may-write s n good e l =
    let m : SyncManager = manager_at s.managers 3 in
    let k = sized (is_running s.al.state && may_app_put m) m.settings.length n e l in
    let r = both_true (is_running s.al.state) _ k.0 in
    let set = put-enabled m r.1 in
    let four = good.managers in
    record {
      running = r.0;
      may = r.1;
      whole = long_as m n (good.each_manager 3) set.0 set.1 k.1;
      some = ne_eqb (put_size s) 0 (λ z. omega (arith, e, l, z));
      there = omega (arith, four);
    }

-- ---- a manager put in twice

set-twice : (ms : List SyncManager) (n : ℕ) (a b : SyncManager) → set (set ms n a) n b ≡ set ms n b
set-twice [] n a b = refl
set-twice (m ∷ ms) zero a b = refl
set-twice (m ∷ ms) (suc n) a b = ap (λ (k : List SyncManager). m ∷ k) (set-twice ms n a b)

pub with_twice : (s : SlaveState) (n : ℕ) (a b : SyncManager) → with_manager (with_manager s n a) n b ≡ with_manager s n b
with_twice s n a b = ap (λ (ms : List SyncManager). record s { managers = ms }) (set-twice s.managers n a b)

pub own_manager : (s : SlaveState) (n : ℕ) (a : SyncManager) → n < length s.managers → manager_at (with_manager s n a).managers n ≡ a
own_manager s n a l = get_or-set_same s.managers n a no_manager l

-- ---- a manager that publishes

abbrev pub with_published : SyncManager → List ℕ → SyncManager
with_published m inputs = record m { buffer = record m.buffer { published = inputs; draft = None } }

-- ---- writing

abbrev with_draft : SyncManager → List ℕ → SyncManager
with_draft m d = record m { buffer = record m.buffer { draft = Some d } }

-- a slave whose application wrote so many bytes of its inputs
record IsWriting (s : SlaveState) (inputs : List ℕ) (i : ℕ) (t : SlaveState) : Type 0 where
  none : i ≡ 0 → t ≡ s
  some : 0 < i → i < length inputs → (d : List ℕ) × (length d ≡ length inputs) × (take i d ≡ take i inputs) × (t ≡ with_manager s 3 (with_draft (manager_at s.managers 3) d))
  whole : 0 < i → i ≡ length inputs → t ≡ with_manager s 3 (with_published (manager_at s.managers 3) inputs)

writing_none : (s : SlaveState) (inputs : List ℕ) → IsWriting s inputs 0 s
writing_none s inputs = record { none = λ z. refl; some = λ l. absurd (omega (arith, l)); whole = λ l. absurd (omega (arith, l)) }

-- byte i of an open draft
put-opened : (m : SyncManager) (i x : ℕ) (d : List ℕ) → may_app_put m ≡ true → i < length m.buffer.published
    → (if i == 0 then Some (zeros (length m.buffer.published)) else m.buffer.draft) ≡ Some d
    → unwrap_or (app_put m i x) m ≡ record m { buffer = drafted m.buffer i (set d i x) }
unfolding app_written
put-opened m i x d may l is_open =
    ap (λ (o : Option SyncManager). unwrap_or o m)
    (if_true _ _ _ may ∙ ap (option_map (λ (b : Buffer). record m { buffer = b })) (if_true _ _ _ (lt-ltb i (length m.buffer.published) l) ∙ ap (draft_next m.buffer i x) is_open))

-- an older draft doesn't matter
again : (last : Bool) (b : Buffer) (o : Option (List ℕ)) (d : List ℕ)
    → (if last then record b { published = d; draft = None } else record b { draft = Some d })
    ≡ (if last then record (record b { draft = o }) { published = d; draft = None } else record (record b { draft = o }) { draft = Some d })
again true b o d = refl
again false b o d = refl

-- the draft with one byte more
one-more : (s u : SlaveState) (inputs d : List ℕ) (i : ℕ) → length d ≡ length inputs → take i d ≡ take i inputs → i < length inputs → length (manager_at s.managers 3).buffer.published ≡ length inputs
    → u ≡ with_manager s 3 (record (manager_at s.managers 3) { buffer = drafted (manager_at s.managers 3).buffer i (set d i (slice_index inputs i)) }) → IsWriting s inputs (i + 1) u
one-more s u inputs d i same begun l whole is =
    let m : SyncManager = manager_at s.managers 3 in
    let x : ℕ = slice_index inputs i in
    let e : List ℕ = set d i x in
    let long : length e ≡ length inputs = length-set d i x ∙ same in
    let more : take (i + 1) e ≡ take (i + 1) inputs
    = take_more_set d i x (omega (arith, l, same)) ∙ (ap (λ (ys : List ℕ). ys ++ x ∷ []) begun ∙ sym (take_more inputs i 0 l)) in
    record {
      none = λ z. absurd (omega (arith, z));
      some = λ p q. (
        e,
        long,
        more,
        is ∙ ap (λ (b : Buffer). with_manager s 3 (record m { buffer = b })) (if_false _ _ _ (ne_eqb (i + 1) (length m.buffer.published) (λ z. omega (arith, z, q, whole)))),
      );
      whole = λ p q.
          let all : e ≡ inputs = sym (take_all (i + 1) e (omega (arith, q, long))) ∙ (more ∙ take_all (i + 1) inputs (omega (arith, q))) in
          is ∙ (ap (λ (b : Buffer). with_manager s 3 (record m { buffer = b })) (if_true _ _ _ (eq-eqb (i + 1) (length m.buffer.published) (q ∙ sym whole)))
          ∙ ap (λ (v : List ℕ). with_manager s 3 (with_published m v)) all);
    }

first-byte : (s u : SlaveState) (inputs : List ℕ) → MayWrite s (length inputs) → 0 < length inputs → u ≡ unwrap_or (input_put s 0 (slice_index inputs 0)) s → IsWriting s inputs 1 u
first-byte s u inputs k l put =
    let m : SyncManager = manager_at s.managers 3 in
    let whole = k.whole in
    let x : ℕ = slice_index inputs 0 in
    let d : List ℕ = zeros (length m.buffer.published) in
    let after : SyncManager = record m { buffer = drafted m.buffer 0 (set d 0 x) } in
    let is : u ≡ with_manager s 3 after = put ∙ sym (put_after s 0 x after k.running (sym (put-opened m 0 x d k.may (omega (arith, whole, l)) refl))) in
    one-more s u inputs d 0 (length-replicate (length m.buffer.published) 0 ∙ whole) refl l whole is

later-byte : (s t u : SlaveState) (inputs d : List ℕ) (j : ℕ) → MayWrite s (length inputs) → suc j < length inputs → length d ≡ length inputs → take (suc j) d ≡ take (suc j) inputs
    → t ≡ with_manager s 3 (with_draft (manager_at s.managers 3) d) → u ≡ unwrap_or (input_put t (suc j) (slice_index inputs (suc j))) t → IsWriting s inputs (suc j + 1) u
later-byte s t u inputs d j k l same begun is_t put =
    let i : ℕ = suc j in
    let m : SyncManager = manager_at s.managers 3 in
    let n : SyncManager = with_draft m d in
    let whole = k.whole in
    let x : ℕ = slice_index inputs i in
    let t0 : SlaveState = with_manager s 3 n in
    let at : manager_at t0.managers 3 ≡ n = own_manager s 3 n k.there in
    let after : SyncManager = record n { buffer = drafted n.buffer i (set d i x) } in
    let there : (if i == 0 then Some (zeros (length n.buffer.published)) else n.buffer.draft) ≡ Some d = if_false _ _ _ (ne_eqb i 0 (λ z. omega (arith, z))) in
    let made : after ≡ unwrap_or (app_put n i x) n = sym (put-opened n i x d k.may (omega (arith, whole, l)) there) in
    let made_at : after ≡ unwrap_or (app_put (manager_at t0.managers 3) i x) (manager_at t0.managers 3) = subst (λ (y : SyncManager). after ≡ unwrap_or (app_put y i x) y) (sym at) made in
    let is_u : u ≡ with_manager t0 3 after = put ∙ (ap (λ (y : SlaveState). unwrap_or (input_put y i x) y) is_t ∙ sym (put_after t0 i x after k.running made_at)) in
    let fresh : after ≡ record m { buffer = drafted m.buffer i (set d i x) }
    = sym (ap (λ (b : Buffer). record m { buffer = b }) (again (i + 1 == length m.buffer.published) m.buffer (Some d) (set d i x))) in
    one-more s u inputs d i same begun l whole (is_u ∙ (with_twice s 3 n after ∙ ap (with_manager s 3) fresh))

writing_next : (s t u : SlaveState) (inputs : List ℕ) (i : ℕ) → IsSlave s → length inputs ≡ put_size s → i < length inputs → IsWriting s inputs i t
    → u ≡ unwrap_or (input_put t i (slice_index inputs i)) t → IsWriting s inputs (i + 1) u
writing_next s t u inputs zero good e l h put =
    first-byte s u inputs (may-write s (length inputs) good e l) l (put ∙ ap (λ (y : SlaveState). unwrap_or (input_put y 0 (slice_index inputs 0)) y) (h.none refl))
writing_next s t u inputs (suc j) good e l h put =
    let k = h.some (omega arith) l in
    later-byte s t u inputs k.0 j (may-write s (length inputs) good e (omega (arith, l))) l k.1 k.2 k.3 put

-- the first n bytes
below : (s : SlaveState) (inputs : List ℕ) (n : ℕ) → IsSlave s → length inputs ≡ put_size s → n ≤ length inputs → IsWriting s inputs n (inputs_put s inputs n)
unfolding inputs_put
below s inputs zero good e l = writing_none s inputs
below s inputs (suc n) good e l =
    subst (λ (k : ℕ). IsWriting s inputs k (inputs_put s inputs (suc n))) (add-one n)
    (writing_next s (inputs_put s inputs n) (inputs_put s inputs (suc n)) inputs n good e (omega (arith, l)) (below s inputs n good e (omega (arith, l))) refl)

-- all bytes of the inputs, one after the other, are published
pub all_put : (s : SlaveState) (inputs : List ℕ) → IsSlave s → length inputs ≡ put_size s → 0 < length inputs → inputs_put s inputs (length inputs) ≡ with_manager s 3 (with_published (manager_at s.managers 3) inputs)
all_put s inputs good e l = (below s inputs (length inputs) good e (omega arith)).whole l refl

-- a slave without inputs stays
pub none_put : (s : SlaveState) (inputs : List ℕ) → length inputs ≡ 0 → inputs_put s inputs (length inputs) ≡ s
unfolding inputs_put
none_put s inputs e = ap (inputs_put s inputs) e

-- the value has as many bytes as are written
pub whole_put : (s : SlaveState) (inputs : List ℕ) → IsSlave s → length inputs ≡ put_size s → 0 < length inputs → length inputs ≡ length (manager_at s.managers 3).buffer.published
whole_put s inputs good e l = let k = may-write s (length inputs) good e l in sym k.whole

-- the application has the right
pub allowed_put : (s : SlaveState) (inputs : List ℕ) → IsSlave s → length inputs ≡ put_size s → 0 < length inputs → may_app_put (manager_at s.managers 3) ≡ true
allowed_put s inputs good e l = let k = may-write s (length inputs) good e l in k.may

-- ---- a list that is empty, or not

pub not_empty : (b : Bool) (n : ℕ) → b ≡ (n == 0) → b ≡ false → 0 < n
not_empty b zero e f = absurd (let x : true ≡ false = sym e ∙ f in cc)
not_empty b (suc n) e f = omega arith

pub empty : (b : Bool) (n : ℕ) → b ≡ (n == 0) → b ≡ true → n ≡ 0
empty b n e f = eqb-true n 0 (sym e ∙ f)
