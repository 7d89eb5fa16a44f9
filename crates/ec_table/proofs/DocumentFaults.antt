-- The faults of a document before its elements.
use Rattle.std.proofs.Common.{◌≡◌, ℕ, List, Bool, true, false, IsTrue, Result, Ok, Err, Option, Some, None, if◌then◌else◌, option_and_then, codes, refl, ap}
use Rattle.std.specs.Option.{ok_or}
use Rattle.toml.specs.Data.{Data, no_items, Members, get_member, as_integer, as_bool, as_array}
use Rattle.toml.specs.Parse.{parse_document}
use Rattle.ec_table.specs.declared.fault.Fault.{Fault}
use Rattle.ec_table.specs.declared.fault.Fault.TheVariants.{Toml, BadKey, BadValue}
use Rattle.ec_table.specs.declared.fault.Position.{Position}
use Rattle.ec_table.specs.declared.rows.Format.{Format}
use Rattle.ec_table.specs.declared.keys.Shape.TheVariants as shape
use Rattle.ec_table.specs.Fields.{◌>>=◌, must, keys_are, number_in, in_range, magnitude, version_in, truth_in, format_in, section_in, are_tables}
use Rattle.ec_table.specs.Reading.{top, stated_format, table_of_document, table_of}
use Rattle.ec_table.specs.Laws.{DocumentFaultsInOrder}

-- no other fault
record Only {A : Type 0} (r : Result A Fault) (g : Fault) : Type 0 where
  only : (f : Fault) → r ≡ Err f → f ≡ g

only_ok : {A : Type 0} (x : A) (g : Fault) → Only (Ok x) g
only_ok x g = record { only = λ f is. cc }

only_err : {A : Type 0} (g : Fault) → Only {A = A} (Err g) g
only_err g = record { only = λ f is. cc }

only_then : {A B : Type 0} (m : Result A Fault) (f : A → Result B Fault) (g : Fault) → Only m g → ((x : A) → Only (f x) g) → Only (m >>= f) g
only_then (Ok x) f g h k = k x
only_then (Err e) f g h k = record { only = λ d is. let same : e ≡ d = cc in let first : e ≡ g = h.only e refl in cc }

only_none : {A : Type 0} (o : Option A) (g : Fault) → Only (ok_or o g) g
only_none (Some x) g = only_ok x g
only_none None g = only_err g

only_if : {A : Type 0} (b : Bool) (x : A) (g : Fault) → Only (if b then Ok x else Err g) g
only_if true x g = only_ok x g
only_if false x g = only_err g

number_only : (p : Position) (low high : ℕ) (v : Option Data) → Only (number_in p low high v) (BadValue p)
unfolding number_in
number_only p low high v = only_then (ok_or (option_and_then as_integer v) (BadValue p)) (λ z. if in_range low high z then Ok (magnitude z) else Err (BadValue p)) (BadValue p) (only_none _ (BadValue p)) (λ z. only_if (in_range low high z) (magnitude z) (BadValue p))

version_only : (p : Position) (v : Option Data) → Only (version_in p v) (BadValue p)
unfolding version_in
version_only p None = only_ok _ (BadValue p)
version_only p (Some d) = only_then (number_in p 1 2 (Some d)) _ (BadValue p) (number_only p 1 2 (Some d)) (λ n. only_ok _ (BadValue p))

truth_only : (p : Position) (left_out : Bool) (v : Option Data) → Only (truth_in p left_out v) (BadValue p)
truth_only p left_out None = only_ok left_out (BadValue p)
truth_only p left_out (Some d) = only_none (as_bool d) (BadValue p)

format_only : (p : Position) (version hardware : Option Data) → Only (format_in p version hardware) (BadValue p)
unfolding format_in
format_only p version hardware =
    only_then (version_in p version) _ (BadValue p) (version_only p version) (λ v.
    only_then (truth_in p false hardware) _ (BadValue p) (truth_only p false hardware) (λ h. only_ok _ (BadValue p)))

section_only : (p : Position) (v : Option Data) → Only (section_in p v) (BadValue p)
unfolding section_in
section_only p None = only_ok no_items (BadValue p)
section_only p (Some d) =
    only_then (ok_or (as_array d) (BadValue p)) _ (BadValue p) (only_none (as_array d) (BadValue p)) (λ ds.
    only_then (must (are_tables ds) (BadValue p)) _ (BadValue p) (only_if (are_tables ds) tt (BadValue p)) (λ u. only_ok ds (BadValue p)))

-- where all else fails so too
after : {A B : Type 0} (r : Result A Fault) (f : A → Result B Fault) (g : Fault) → Only r g → ((x : A) → f x ≡ Err g) → (r >>= f) ≡ Err g
after (Ok x) f g h k = k x
after (Err e) f g h k = ap Err (h.only e refl)

section_fails : (key : Option Data) (f : Fault) → section_in top key ≡ Err f → section_in top key ≡ Err (BadValue top)
section_fails key f h = let e : f ≡ BadValue top = (section_only top key).only f h in cc

text_told : (text : List ℕ) → parse_document text ≡ None → table_of text ≡ Err Toml
unfolding table_of
text_told text h = rw h refl

format_told : (ms : Members) (f : Fault) → stated_format ms ≡ Err f → table_of_document ms ≡ Err (BadValue top)
unfolding table_of_document
format_told ms f h = let e : f ≡ BadValue top = (format_only top (get_member (codes "version") ms) (get_member (codes "hardware") ms)).only f h in rw h (ap Err e)

keys_told : (ms : Members) (v : Format) → stated_format ms ≡ Ok v → keys_are shape.Document v ms ≡ false → table_of_document ms ≡ Err (BadKey top)
unfolding table_of_document
keys_told ms v h k = rw (h, k) refl

types_told : (ms : Members) (v : Format) (f : Fault) → stated_format ms ≡ Ok v → IsTrue (keys_are shape.Document v ms) → section_in top (get_member (codes "type") ms) ≡ Err f → table_of_document ms ≡ Err (BadValue top)
unfolding table_of_document
types_told ms v f h k s = rw (h, k, section_fails _ f s) refl

slaves_told : (ms : Members) (v : Format) (f : Fault) → stated_format ms ≡ Ok v → IsTrue (keys_are shape.Document v ms) → section_in top (get_member (codes "slave") ms) ≡ Err f → table_of_document ms ≡ Err (BadValue top)
unfolding table_of_document
slaves_told ms v f h k s =
    rw (h, k) (after (section_in top (get_member (codes "type") ms)) _ (BadValue top) (section_only top _) (λ ts. rw (section_fails _ f s) refl))

variables_told : (ms : Members) (v : Format) (f : Fault) → stated_format ms ≡ Ok v → IsTrue (keys_are shape.Document v ms) → section_in top (get_member (codes "variable") ms) ≡ Err f → table_of_document ms ≡ Err (BadValue top)
unfolding table_of_document
variables_told ms v f h k s =
    rw (h, k) (after (section_in top (get_member (codes "type") ms)) _ (BadValue top) (section_only top _) (λ ts.
    after (section_in top (get_member (codes "slave") ms)) _ (BadValue top) (section_only top _) (λ ss. rw (section_fails _ f s) refl)))

links_told : (ms : Members) (v : Format) (f : Fault) → stated_format ms ≡ Ok v → IsTrue (keys_are shape.Document v ms) → section_in top (get_member (codes "link") ms) ≡ Err f → table_of_document ms ≡ Err (BadValue top)
unfolding table_of_document
links_told ms v f h k s =
    rw (h, k) (after (section_in top (get_member (codes "type") ms)) _ (BadValue top) (section_only top _) (λ ts.
    after (section_in top (get_member (codes "slave") ms)) _ (BadValue top) (section_only top _) (λ ss.
    after (section_in top (get_member (codes "variable") ms)) _ (BadValue top) (section_only top _) (λ ws. rw (section_fails _ f s) refl))))

pub document_faults : DocumentFaultsInOrder
document_faults = record { text = text_told; format = format_told; keys = keys_told; types = types_told; slaves = slaves_told; variables = variables_told; links = links_told }
