-- A section, element by element.
use Rattle.std.proofs.Common.{◌≡◌, ℕ, ◌+◌, List, [], ◌∷◌, ◌++◌, length, take, Result, Ok, Err, Some, slice_get, refl, sym, ◌∙◌, ap, arith, append_assoc, length-append, add-one, add-zero, zero-add}
use Rattle.std.proofs.lemmas.List.{append-nil}
use Rattle.toml.specs.Data.{Data, Members}
use Rattle.toml.specs.View.{items_of}
use Rattle.ec_table.specs.declared.fault.Fault.{Fault}
use Rattle.ec_table.specs.declared.rows.Format.{Format}
use Rattle.ec_table.specs.declared.rows.TypeRow.{TypeRow}
use Rattle.ec_table.specs.declared.rows.SlaveRow.{SlaveRow}
use Rattle.ec_table.specs.declared.rows.VariableRow.{VariableRow}
use Rattle.ec_table.specs.declared.rows.LinkRow.{LinkRow}
use Rattle.ec_table.specs.Contents.{Contents, format_of, as_stated}
use Rattle.ec_table.specs.Fields.{◌>>=◌}
use Rattle.ec_table.specs.InOrder.{rows_after}
use Rattle.ec_table.specs.Reading.{type_element, slave_element, variable_element, link_element, table_of_document, table_of_sections}
use Rattle.ec_table.specs.Laws.{HasSections, EachReads, AllRead, FirstFaultIsReturned}

next_is : {X : Type 0} (x : X) (xs : List X) (k : ℕ) → slice_get (x ∷ xs) (k + 1) ≡ slice_get xs k
next_is x xs k = rw add-one refl

take_next : {X : Type 0} (x : X) (xs : List X) (k : ℕ) → take (k + 1) (x ∷ xs) ≡ x ∷ take k xs
take_next x xs k = rw add-one refl

-- each element reads, so the section does
rows_each : {X : Type 0} (row : ℕ → Data → List X → Result X Fault) (found : List X) (ds : List Data) (xs : List X) → length ds ≡ length xs
    → ((k : ℕ) (d : Data) (x : X) → slice_get ds k ≡ Some d → slice_get xs k ≡ Some x → row (length found + k) d (found ++ take k xs) ≡ Ok x)
    → rows_after row found (length found) (items_of ds) ≡ Ok (found ++ xs)
unfolding rows_after
rows_each row found [] [] same h = ap Ok (sym (append-nil found))
rows_each row found [] (x ∷ xs) same h = absurd (omega arith)
rows_each row found (d ∷ ds) [] same h = absurd (omega arith)
rows_each row found (d ∷ ds) (x ∷ xs) same h =
    let head : row (length found) d found ≡ Ok x = rw (add-zero, append-nil) at (h 0 d x refl refl) in
    let count : length (found ++ x ∷ []) ≡ length found + 1 = length-append found (x ∷ []) in
    let tail : rows_after row (found ++ x ∷ []) (length (found ++ x ∷ [])) (items_of ds) ≡ Ok ((found ++ x ∷ []) ++ xs) =
    rows_each row (found ++ x ∷ []) ds xs (omega arith) (λ k e y id iy.
    let here : row (length found + (k + 1)) e (found ++ take (k + 1) (x ∷ xs)) ≡ Ok y = h (k + 1) e y (next_is d ds k ∙ id) (next_is x xs k ∙ iy) in
    let place : length (found ++ x ∷ []) + k ≡ length found + (k + 1) = omega (arith, count) in
    let rows : (found ++ x ∷ []) ++ take k xs ≡ found ++ take (k + 1) (x ∷ xs) = append_assoc found (x ∷ []) (take k xs) ∙ ap (λ l. found ++ l) (sym (take_next x xs k)) in
    rw (place, rows) here) in
    rw (head, ← count, tail, append_assoc found (x ∷ []) xs) refl

pub section_each : {X : Type 0} (row : ℕ → Data → List X → Result X Fault) (ds : List Data) (xs : List X) → EachReads row ds xs → rows_after row [] 0 (items_of ds) ≡ Ok xs
section_each row ds xs h = rows_each row [] ds xs h.as_many (λ k d x id ix. rw zero-add (h.each k d x id ix))

bind_again : {A B : Type 0} (r : Result A Fault) (f g : A → Result B Fault) (k : B → Result B Fault) → ((x : A) → f x ≡ (g x >>= k)) → (r >>= f) ≡ ((r >>= g) >>= k)
bind_again (Ok x) f g k h = h x
bind_again (Err e) f g k h = refl

-- what stands behind is read after what stands before
rows_append : {X : Type 0} (row : ℕ → Data → List X → Result X Fault) (found : List X) (n : ℕ) (ds es : List Data) → rows_after row found n (items_of (ds ++ es)) ≡ (rows_after row found n (items_of ds) >>= (λ xs. rows_after row xs (n + length ds) (items_of es)))
unfolding rows_after
rows_append row found n [] es = rw add-zero refl
rows_append row found n (d ∷ ds) es = bind_again (row n d found) (λ x. rows_after row (found ++ x ∷ []) (n + 1) (items_of (ds ++ es))) (λ x. rows_after row (found ++ x ∷ []) (n + 1) (items_of ds)) (λ xs. rows_after row xs (n + length (d ∷ ds)) (items_of es))
    (λ x. let count : n + length (d ∷ ds) ≡ n + 1 + length ds = omega arith in rw count (rows_append row (found ++ x ∷ []) (n + 1) ds es))

rest : {X : Type 0} (row : ℕ → Data → List X → Result X Fault) (before : List Data) (d : Data) (after : List Data) (xs : List X) (f : Fault) → rows_after row [] 0 (items_of before) ≡ Ok xs → row (length before) d xs ≡ Err f → (rows_after row [] 0 (items_of before) >>= (λ ys. rows_after row ys (0 + length before) (items_of (d ∷ after)))) ≡ Err f
unfolding rows_after
rest row before d after xs f read fault = rw (read, zero-add, fault) refl

pub section_fails : {X : Type 0} (row : ℕ → Data → List X → Result X Fault) (before : List Data) (d : Data) (after : List Data) (xs : List X) (f : Fault) → EachReads row before xs → row (length before) d xs ≡ Err f → rows_after row [] 0 (items_of (before ++ d ∷ after)) ≡ Err f
section_fails row before d after xs f h fault = rows_append row [] 0 before (d ∷ after) ∙ rest row before d after xs f (section_each row before xs h) fault

pub accepted : (ms : Members) (types slaves variables links : List Data) (c : Contents) → HasSections ms (format_of c) types slaves variables links → AllRead types slaves variables links c → table_of_document ms ≡ Ok (as_stated c)
unfolding table_of_document table_of_sections
accepted ms types slaves variables links c h r =
    rw (h.format, h.keys, h.types, h.slaves, h.variables, h.links, section_each (type_element (format_of c)) types c.types r.types, section_each (slave_element (format_of c) c.types) slaves c.slaves r.slaves, section_each (variable_element (format_of c)) variables c.variables r.variables, section_each (link_element (format_of c) c.slaves c.variables) links c.links r.links) refl

pub type_told : (ms : Members) (v : Format) (before : List Data) (d : Data) (after slaves variables links : List Data) (ts : List TypeRow) (f : Fault) → HasSections ms v (before ++ d ∷ after) slaves variables links
    → EachReads (type_element v) before ts → type_element v (length before) d ts ≡ Err f → table_of_document ms ≡ Err f
unfolding table_of_document table_of_sections
type_told ms v before d after slaves variables links ts f h r fault =
    rw (h.format, h.keys, h.types, h.slaves, h.variables, h.links, section_fails (type_element v) before d after ts f r fault) refl

pub slave_told : (ms : Members) (v : Format) (types before : List Data) (d : Data) (after variables links : List Data) (ts : List TypeRow) (ss : List SlaveRow) (f : Fault) → HasSections ms v types (before ++ d ∷ after) variables links
    → EachReads (type_element v) types ts → EachReads (slave_element v ts) before ss → slave_element v ts (length before) d ss ≡ Err f → table_of_document ms ≡ Err f
unfolding table_of_document table_of_sections
slave_told ms v types before d after variables links ts ss f h rt rs fault =
    rw (h.format, h.keys, h.types, h.slaves, h.variables, h.links, section_each (type_element v) types ts rt, section_fails (slave_element v ts) before d after ss f rs fault) refl

pub variable_told : (ms : Members) (v : Format) (types slaves before : List Data) (d : Data) (after links : List Data) (ts : List TypeRow) (ss : List SlaveRow) (ws : List VariableRow) (f : Fault) → HasSections ms v types slaves (before ++ d ∷ after) links
    → EachReads (type_element v) types ts → EachReads (slave_element v ts) slaves ss → EachReads (variable_element v) before ws → variable_element v (length before) d ws ≡ Err f → table_of_document ms ≡ Err f
unfolding table_of_document table_of_sections
variable_told ms v types slaves before d after links ts ss ws f h rt rs rv fault =
    rw (h.format, h.keys, h.types, h.slaves, h.variables, h.links, section_each (type_element v) types ts rt, section_each (slave_element v ts) slaves ss rs, section_fails (variable_element v) before d after ws f rv fault) refl

pub link_told : (ms : Members) (v : Format) (types slaves variables before : List Data) (d : Data) (after : List Data) (ts : List TypeRow) (ss : List SlaveRow) (ws : List VariableRow) (ls : List LinkRow) (f : Fault) → HasSections ms v types slaves variables (before ++ d ∷ after)
    → EachReads (type_element v) types ts → EachReads (slave_element v ts) slaves ss → EachReads (variable_element v) variables ws → EachReads (link_element v ss ws) before ls → link_element v ss ws (length before) d ls ≡ Err f → table_of_document ms ≡ Err f
unfolding table_of_document table_of_sections
link_told ms v types slaves variables before d after ts ss ws ls f h rt rs rv rl fault =
    rw (h.format, h.keys, h.types, h.slaves, h.variables, h.links, section_each (type_element v) types ts rt, section_each (slave_element v ts) slaves ss rs, section_each (variable_element v) variables ws rv, section_fails (link_element v ss ws) before d after ls f rl fault) refl

pub first_told : FirstFaultIsReturned
first_told = record { types = type_told; slaves = slave_told; variables = variable_told; links = link_told }
