-- One more key of an element that is read in one pass.
use Rattle.std.proofs.Common.{◌≡◌, ℕ, List, Option, Some, None, Ordering, Less, Equal, Greater, nat_cmp, Bor, refl, ap, ◌∙◌}
use Rattle.std.specs.Cmp.Lexicographic.{slice_cmp}
use Rattle.std.specs.Ordering.{match_ordering}
use Rattle.std.specs.Option.{option_or}
use Rattle.toml.specs.Data.{Data, Members, no_members, member, get_member}
use Rattle.toml.specs.declared.value.Value.{Value}
use Rattle.ec_table.specs.Fields.{viewed}

one_key : (o : Ordering) (d : Data) (rest : Option Data) → option_or (match_ordering o None (Some d) None) rest ≡ match_ordering o rest (Some d) rest
one_key Less d rest = refl
one_key Equal d rest = refl
one_key Greater d rest = refl

first_of : (found : Option Data) (o : Ordering) (d : Data) (rest : Option Data) → option_or (option_or found (match_ordering o None (Some d) None)) rest ≡ option_or found (match_ordering o rest (Some d) rest)
first_of None o d rest = one_key o d rest
first_of (Some x) o d rest = refl

pub one_more_key : (found more : Option (Bor Value)) (name key : List ℕ) (d : Data) (rest : Members) (whole : Option Data) → viewed more ≡ option_or (viewed found) (get_member name (member key d no_members)) → option_or (viewed found) (get_member name (member key d rest)) ≡ whole → option_or (viewed more) (get_member name rest) ≡ whole
one_more_key found more name key d rest whole put before = ap (λ s. option_or s (get_member name rest)) put ∙ (first_of (viewed found) (slice_cmp nat_cmp name key) d (get_member name rest) ∙ before)

pub or_none : (found : Option Data) → option_or found None ≡ found
or_none None = refl
or_none (Some d) = refl
