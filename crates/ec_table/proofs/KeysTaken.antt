-- What stands under other keys once an entry is taken out of a table.
use Rattle.std.proofs.Common.{◌≡◌, ℕ, List, [], ◌∷◌, Bool, true, false, cond, Ordering, Less, Equal, Greater, nat_cmp, is_eq, Option, Some, string_bytes, refl, sym, ap, ◌∙◌}
use Rattle.std.proofs.lemmas.Cmp.{nat_list_cmp_total}
use Rattle.std.specs.BTreeMap.{is_at}
use Rattle.std.specs.Cmp.Lexicographic.{slice_cmp}
use Rattle.std.specs.Map.{remove_entry}
use Rattle.std.specs.Ordering.{match_ordering, ordering_reverse}
use Rattle.toml.specs.Data.{Data, get_member}
use Rattle.toml.specs.View.{view, members_view}
use Rattle.toml.proofs.Views.{Entry}

is_equal : (o : Ordering) → is_eq o ≡ true → o ≡ Equal
is_equal Less h = absurd (cc)
is_equal Equal h = refl
is_equal Greater h = absurd (cc)

not_here : (o : Ordering) (found : Option Data) (rest : Option Data) → is_eq o ≡ false → match_ordering o rest found rest ≡ rest
not_here Less found rest h = refl
not_here Equal found rest h = absurd (cc)
not_here Greater found rest h = refl

-- of two keys that are one, another key is before both, or behind
as_the_other : (key name at : List ℕ) → slice_cmp nat_cmp name at ≡ Equal → slice_cmp nat_cmp key at ≡ slice_cmp nat_cmp key name
as_the_other key name at same =
    nat_list_cmp_total.antisymm key at ∙ ap ordering_reverse (sym (nat_list_cmp_total.congr name at key same)) ∙ sym (nat_list_cmp_total.antisymm key name)

one_less : (b : Bool) (key name : List ℕ) (e : Entry) (es : List Entry) (less : List Entry) → is_eq (slice_cmp nat_cmp name (string_bytes e.0)) ≡ b → is_eq (slice_cmp nat_cmp key name) ≡ false
    → get_member key (members_view less) ≡ get_member key (members_view es) → get_member key (members_view (cond b es (e ∷ less))) ≡ get_member key (members_view (e ∷ es))
one_less true key name e es less here apart ih =
    sym (not_here (slice_cmp nat_cmp key (string_bytes e.0)) (Some (view e.1)) _ (ap is_eq (as_the_other key name (string_bytes e.0) (is_equal _ here)) ∙ apart))
one_less false key name e es less here apart ih = ap (λ rest. match_ordering (slice_cmp nat_cmp key (string_bytes e.0)) rest (Some (view e.1)) rest) ih

pub others_stay : (key name : List ℕ) (es : List Entry) → is_eq (slice_cmp nat_cmp key name) ≡ false
    → get_member key (members_view (remove_entry (is_at (λ k. slice_cmp nat_cmp name (string_bytes k))) es)) ≡ get_member key (members_view es)
others_stay key name [] apart = refl
others_stay key name (e ∷ es) apart = one_less (is_eq (slice_cmp nat_cmp name (string_bytes e.0))) key name e es _ refl apart (others_stay key name es apart)
