-- One row of a section, and the end.
use Rattle.std.proofs.Common.{◌≡◌, ℕ, ◌+◌, ◌<◌, ◌≤◌, List, [], ◌∷◌, ◌++◌, length, get_or, drop, Result, Ok, Err, IfErr, refl, sym, ap, subst, ◌∙◌, arith, length-append}
use Rattle.std.proofs.lemmas.List.{drop_all}
use Rattle.toml.specs.Data.{Data}
use Rattle.toml.specs.View.{view, items_view}
use Rattle.toml.specs.declared.value.Value.{Value}
use Rattle.toml.proofs.Views.{items_view-drop}
use Rattle.ec_table.specs.declared.fault.Fault.{Fault}
use Rattle.ec_table.specs.Fields.{◌>>=◌}
use Rattle.ec_table.specs.Errors.{TableError}
use Rattle.ec_table.specs.declared.or_memory.OrMemory.TheVariants.{Memory, Refused}
use Rattle.std.specs.Result.{IsErr, IsErrAnd}
use Rattle.ec_table.specs.InOrder.{rows_after, one_more, Fails, Gives}

pub rows_at : {X : Type 0} (row : ℕ → Data → List X → Result X Fault) (found : List X) (vs : List Value) (i : ℕ) (v : Value) → i < length vs → v ≡ get_or vs i v
    → rows_after row found i (items_view (drop i vs)) ≡ (row i (view v) found >>= (λ x. rows_after row (found ++ x ∷ []) (i + 1) (items_view (drop (i + 1) vs))))
unfolding rows_after
rows_at row found vs i v h is = rw (items_view-drop vs i v h, ← is)

pub rows_end : {X : Type 0} (row : ℕ → Data → List X → Result X Fault) (found : List X) (vs : List Value) (i : ℕ) → length vs ≤ i → rows_after row found i (items_view (drop i vs)) ≡ Ok found
unfolding rows_after
rows_end row found vs i h = rw (drop_all i vs h)

pub ruleset rows_steps = (rows_at, rows_end)

-- a row that reads
pub rows_ok : {X : Type 0} (row : ℕ → Data → List X → Result X Fault) (found more : List X) (vs : List Value) (i : ℕ) (v : Value) (x : X) → i < length vs → v ≡ get_or vs i v
    → row i (view v) found ≡ Ok x → more ≡ found ++ x ∷ []
    → rows_after row more (i + 1) (items_view (drop (i + 1) vs)) ≡ rows_after row found i (items_view (drop i vs))
rows_ok row found more vs i v x h is ok e = rw (rows_at row found vs i v h is, ok, e)

-- a row that fails, or memory that runs out
pub rows_fail : {X : Type 0} (row : ℕ → Data → List X → Result X Fault) (found : List X) (vs : List Value) (i : ℕ) (v : Value) (whole : Result (List X) Fault) (e : TableError) → i < length vs → v ≡ get_or vs i v
    → rows_after row found i (items_view (drop i vs)) ≡ whole → Fails e (row i (view v) found) → Fails e whole
rows_fail row found vs i v whole Memory h is same f = tt
rows_fail row found vs i v whole (Refused fault) h is inv f = sym inv ∙ rw (rows_at row found vs i v h is, f)

more_then : {X Y : Type 0} (found more : List X) (read : Result X Fault) (k : List X → Result Y Fault) → one_more found read ≡ Ok more → (read >>= (λ x. k (found ++ x ∷ []))) ≡ k more
more_then found more (Ok x) k h = let e : found ++ x ∷ [] ≡ more = cc in ap k e
more_then found more (Err f) k h = cc

-- a row that reads, put behind those found
pub rows_more : {X : Type 0} (row : ℕ → Data → List X → Result X Fault) (found more : List X) (vs : List Value) (i : ℕ) (v : Value) → i < length vs → v ≡ get_or vs i v
    → one_more found (row i (view v) found) ≡ Ok more
    → rows_after row more (i + 1) (items_view (drop (i + 1) vs)) ≡ rows_after row found i (items_view (drop i vs))
rows_more row found more vs i v h is ok = sym (rows_at row found vs i v h is ∙ more_then found more (row i (view v) found) (λ xs. rows_after row xs (i + 1) (items_view (drop (i + 1) vs))) ok)

more_fails : {X Y : Type 0} (found : List X) (read : Result X Fault) (k : X → Result Y Fault) (f : Fault) → one_more found read ≡ Err f → (read >>= k) ≡ Err f
more_fails found (Ok x) k f h = cc
more_fails found (Err g) k f h = let e : g ≡ f = cc in ap Err e

-- one that doesn't
pub rows_stop : {X : Type 0} (row : ℕ → Data → List X → Result X Fault) (found : List X) (vs : List Value) (i : ℕ) (v : Value) (whole : Result (List X) Fault) (e : TableError) → i < length vs → v ≡ get_or vs i v
    → rows_after row found i (items_view (drop i vs)) ≡ whole → Fails e (one_more found (row i (view v) found)) → Fails e whole
rows_stop row found vs i v whole Memory h is same f = tt
rows_stop row found vs i v whole (Refused fault) h is inv f = sym inv ∙ (rows_at row found vs i v h is ∙ more_fails found (row i (view v) found) _ fault f)

-- rows that are put behind those found
pub ruleset rows_more_all = (rows_more, rows_stop, rows_end)

pub ruleset rows_all = (rows_ok, rows_fail, rows_end)

-- ---- elements that are let go as they are read: what is left of them

pub rows_next : {X : Type 0} (row : ℕ → Data → List X → Result X Fault) (found more : List X) (vs left : List Value) (v : Value) (x : X) → vs ≡ v ∷ left
    → row (length found) (view v) found ≡ Ok x → more ≡ found ++ x ∷ []
    → rows_after row more (length more) (items_view left) ≡ rows_after row found (length found) (items_view vs)
unfolding rows_after
rows_next row found more vs left v x is ok e = rw (is, ok, e, length-append found (x ∷ []))

-- a row that fails, or memory that runs out
pub next_fails : {X : Type 0} (row : ℕ → Data → List X → Result X Fault) (found : List X) (vs left : List Value) (v : Value) (whole : Result (List X) Fault) (e : TableError) → vs ≡ v ∷ left
    → rows_after row found (length found) (items_view vs) ≡ whole → Fails e (row (length found) (view v) found) → Fails e whole
unfolding rows_after
next_fails row found vs left v whole Memory is same f = tt
next_fails row found vs left v whole (Refused fault) is same f = sym same ∙ rw (is, f)

pub told : {X : Type 0} (result : Result X TableError) (f : Fault) (whole : Result X Fault) → IsErr result × IsErrAnd result (λ e. e ≡ Refused f) → whole ≡ Err f → Gives result whole
told (Ok x) f whole h is = absurd h.1
told (Err e) f whole h is = rw h.1 is

-- what ends the reading ends what holds it
pub gives_err : {X : Type 0} (result : Result X TableError) (e : TableError) (whole : Result X Fault) → IsErr result × IsErrAnd result (λ x. x ≡ e) → Fails e whole → Gives result whole
gives_err (Ok x) e whole h fails = absurd h.1
gives_err (Err x) e whole h fails = rw h.1 fails

-- the same reading, by another name
pub gives_as : {X : Type 0} (result : Result X TableError) (whole read : Result X Fault) → whole ≡ read → Gives result read → Gives result whole
gives_as result whole read same h = subst (λ r. Gives result r) (sym same) h

-- a fault that ends a part ends the whole
pub ends_with : {X Y : Type 0} (result : Result X TableError) (f : Fault) (whole : Result Y Fault) → IsErr result × IsErrAnd result (λ e. e ≡ Refused f) → whole ≡ Err f → IfErr result (λ e. Fails e whole)
ends_with (Ok x) f whole h is = tt
ends_with (Err e) f whole h is = rw h.1 is

-- the same, unless memory ran out
pub part_fails : {X Y Z : Type 0} (result : Result X TableError) (e : TableError) (read : Result Y Fault) (whole : Result Z Fault) → IsErr result × IsErrAnd result (λ x. x ≡ e) → Fails e read → ((f : Fault) → read ≡ Err f → whole ≡ Err f) → IfErr result (λ x. Fails x whole)
part_fails (Ok x) e read whole h fails told = tt
part_fails (Err x) Memory read whole h fails told = rw h.1 tt
part_fails (Err x) (Refused f) read whole h fails told = rw h.1 (told f fails)

-- and what gives it
pub part_gives : {X Y : Type 0} (result : Result X TableError) (e : TableError) (read : Result Y Fault) (whole : Result X Fault) → IsErr result × IsErrAnd result (λ x. x ≡ e) → Fails e read → ((f : Fault) → read ≡ Err f → whole ≡ Err f) → Gives result whole
part_gives (Ok x) e read whole h fails told = absurd h.1
part_gives (Err x) Memory read whole h fails told = rw h.1 tt
part_gives (Err x) (Refused f) read whole h fails told = rw h.1 (told f fails)

-- the fault of a row ends the reading
pub row_told : {X : Type 0} (row : ℕ → Data → List X → Result X Fault) (found : List X) (vs left : List Value) (v : Value) (whole : Result (List X) Fault) (n : ℕ) (f : Fault) (result : Result (List X) TableError) → vs ≡ v ∷ left
    → rows_after row found (length found) (items_view vs) ≡ whole → n ≡ length found → Err f ≡ row n (view v) found → IsErr result × IsErrAnd result (λ e. e ≡ Refused f) → Gives result whole
row_told row found vs left v whole n f result is same count fails ends = told result f whole ends (next_fails row found vs left v whole (Refused f) is same (rw count at (sym fails)))

pub none_left : {X : Type 0} (row : ℕ → Data → List X → Result X Fault) (found : List X) (n : ℕ) (vs : List Value) → length vs ≡ 0 → rows_after row found n (items_view vs) ≡ Ok found
unfolding rows_after
none_left row found n [] h = refl
none_left row found n (v ∷ vs) h = absurd (omega arith)

pub ruleset rows_left = (rows_next, next_fails, none_left)
