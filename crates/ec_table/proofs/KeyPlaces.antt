-- The values under the keys of a table, found in one pass over its members.
use Rattle.std.proofs.Common.{◌≡◌, ◌≢◌, ◌<◌, ◌≤◌, ◌+◌, ℕ, zero, suc, slice_set, get_or-set_same, get_or-set_other, Bool, true, false, ◌&&◌, ◌||◌, not, List, [], ◌∷◌, ◌++◌, length, map, get_or, Option, Some, None, is_some, if◌then◌else◌, Ordering, Less, Equal, Greater, nat_cmp, Bor, codes, refl, ap, sym, ◌∙◌, subst, arith}
use mathlib.Core.Bool.{cond}
use Rattle.std.specs.List.{list_all, list_any, position, position_or_len}
use Rattle.std.specs.Str.{bytes_eq}
use Rattle.std.specs.Cmp.Lexicographic.{slice_cmp}
use Rattle.std.specs.Ordering.{match_ordering, is_eq}
use Rattle.std.specs.Option.{option_or}
use Rattle.std.proofs.lemmas.Slice.Eq.{bytes_eq-Decides}
use Rattle.std.proofs.lemmas.Map.Text.{is_eq-slice_cmp}
use Rattle.std.specs.Prelude.{nat_lt}
use Rattle.std.proofs.lemmas.Bool.Decides.{nat_tests}
use Rattle.std.proofs.lemmas.List.{length-map, get_or-map}
use Rattle.std.proofs.lemmas.List.Sums.{passes_at_first}
use Rattle.std.proofs.lemmas.List.Folds.{list_any-append}
use Rattle.toml.specs.Data.{Data, Members, no_members, member, get_member}
use Rattle.toml.specs.declared.value.Value.{Value}
use Rattle.ec_table.specs.declared.keys.Rule.{Rule}
use Rattle.ec_table.specs.declared.keys.Rule.TheVariants.{Tables}
use Rattle.ec_table.specs.declared.keys.Shape.{Shape}
use Rattle.ec_table.specs.declared.keys.Shape.TheVariants as shape
use Rattle.ec_table.specs.declared.rows.Format.{Format}
use Rattle.ec_table.specs.declared.rows.Version.{Version}
use Rattle.ec_table.specs.declared.rows.Version.TheVariants as versions
use Rattle.ec_table.specs.Fields.{viewed, full_format, required, optional, is_key, each_key, has_required, keys_are}
use Rattle.ec_table.specs.Keys.{KeyRow, key_row, keys_of, names_of, place_in, rule_at}
use Rattle.ec_table.specs.Values.{AreUnder}
use Rattle.ec_table.proofs.NameIndex.{before_end, has_place}
use Rattle.ec_table.proofs.OnePass.{one_more_key, or_none}

-- ---- names that are the same, in another order

-- each of some names is among others
abbrev AreAmong : List (List ℕ) → List (List ℕ) → Type 0
AreAmong xs ys = list_all (λ x. list_any (bytes_eq x) ys) xs ≡ true

both : (a b : Bool) → (a && b) ≡ true → (a ≡ true) × (b ≡ true)
both true b e = (refl, e)
both false b e = cc

same_bool : (a b : Bool) → (a ≡ true → b ≡ true) → (b ≡ true → a ≡ true) → a ≡ b
same_bool true true to back = refl
same_bool true false to back = sym (to refl)
same_bool false true to back = back refl
same_bool false false to back = refl

in_others : (name : List ℕ) (x : List ℕ) (rest : Bool) (ys : List (List ℕ)) (b : Bool) → bytes_eq name x ≡ b → (b || rest) ≡ true → list_any (bytes_eq x) ys ≡ true → (rest ≡ true → list_any (bytes_eq name) ys ≡ true) → list_any (bytes_eq name) ys ≡ true
in_others name x rest ys true is h here more = subst (λ n. list_any (bytes_eq n) ys ≡ true) (sym ((bytes_eq-Decides name x).0 is)) here
in_others name x rest ys false is h here more = more h

any_among : (name : List ℕ) (xs ys : List (List ℕ)) → AreAmong xs ys → list_any (bytes_eq name) xs ≡ true → list_any (bytes_eq name) ys ≡ true
any_among name [] ys among h = cc
any_among name (x ∷ xs) ys among h =
    let two = both (list_any (bytes_eq x) ys) (list_all (λ x. list_any (bytes_eq x) ys) xs) among in
    in_others name x (list_any (bytes_eq name) xs) ys (bytes_eq name x) refl h two.0 (any_among name xs ys two.1)

same_any : (name : List ℕ) (xs ys : List (List ℕ)) → AreAmong xs ys → AreAmong ys xs → list_any (bytes_eq name) xs ≡ list_any (bytes_eq name) ys
same_any name xs ys to back = same_bool _ _ (any_among name xs ys to) (any_among name ys xs back)

passes_at : (p : List ℕ → Bool) (name y : List ℕ) (rest : Bool) (b : Bool) → bytes_eq name y ≡ b → (b || rest) ≡ true → p y ≡ true → (rest ≡ true → p name ≡ true) → p name ≡ true
passes_at p name y rest true is h here more = subst (λ n. p n ≡ true) (sym ((bytes_eq-Decides name y).0 is)) here
passes_at p name y rest false is h here more = more h

passes_in : (p : List ℕ → Bool) (name : List ℕ) (ys : List (List ℕ)) → list_any (bytes_eq name) ys ≡ true → list_all p ys ≡ true → p name ≡ true
passes_in p name [] h all = cc
passes_in p name (y ∷ ys) h all =
    let two = both (p y) (list_all p ys) all in
    passes_at p name y (list_any (bytes_eq name) ys) (bytes_eq name y) refl h two.0 (λ e. passes_in p name ys e two.1)

all_among : (p : List ℕ → Bool) (xs ys : List (List ℕ)) → AreAmong xs ys → list_all p ys ≡ true → list_all p xs ≡ true
all_among p [] ys among all = refl
all_among p (x ∷ xs) ys among all =
    let two = both (list_any (bytes_eq x) ys) (list_all (λ x. list_any (bytes_eq x) ys) xs) among in
    rw (passes_in p x ys two.0 all, all_among p xs ys two.1 all) refl

same_all : (p : List ℕ → Bool) (xs ys : List (List ℕ)) → AreAmong xs ys → AreAmong ys xs → list_all p xs ≡ list_all p ys
same_all p xs ys to back = same_bool _ _ (all_among p ys xs back) (all_among p xs ys to)

-- ---- the keys of a format

-- the names of the keys that a table must have
abbrev needed : List KeyRow → List (List ℕ)
needed [] = []
needed ((name, rule, true) ∷ keys) = name ∷ needed keys
needed ((name, rule, false) ∷ keys) = needed keys

-- the table of keys has those that the definitions of a section name, and no others
abbrev IsOfKeys : Shape → Format → Type 0
IsOfKeys s v = AreAmong (names_of s v) (required s v ++ optional s v) × AreAmong (required s v ++ optional s v) (names_of s v) × AreAmong (needed (keys_of s v)) (required s v) × AreAmong (required s v) (needed (keys_of s v))

-- the format of a version, for hardware or not
abbrev format : Version → Bool → Format
format v hardware = record { version = v; hardware = hardware }

keys_in : (s : Shape) (v : Version) (hardware : Bool) → IsOfKeys s (format v hardware)
keys_in shape.Document v h = (refl, refl, refl, refl)
keys_in shape.Type v false = (refl, refl, refl, refl)
keys_in shape.Type v true = (refl, refl, refl, refl)
keys_in shape.Pdo v h = (refl, refl, refl, refl)
keys_in shape.Slave versions.One false = (refl, refl, refl, refl)
keys_in shape.Slave versions.One true = (refl, refl, refl, refl)
keys_in shape.Slave versions.Two false = (refl, refl, refl, refl)
keys_in shape.Slave versions.Two true = (refl, refl, refl, refl)
keys_in shape.Variable v false = (refl, refl, refl, refl)
keys_in shape.Variable v true = (refl, refl, refl, refl)
keys_in shape.Link v h = (refl, refl, refl, refl)

of_keys : (s : Shape) (f : Format) → IsOfKeys s f
of_keys s f = keys_in s f.version f.hardware

-- a key is known where it has a place
pub has_key : (s : Shape) (v : Format) (key : List ℕ) → is_some (position (bytes_eq key) (names_of s v)) ≡ is_key s v key
has_key s v key =
    let (to, back, _, _) = of_keys s v in
    has_place (bytes_eq key) (names_of s v) ∙ (same_any key (names_of s v) (required s v ++ optional s v) to back ∙ list_any-append (bytes_eq key) (required s v) (optional s v))

known_if : (b : Bool) (o : Option ℕ) (i : ℕ) → (if b then o else None) ≡ Some i → (b ≡ true) × (o ≡ Some i)
known_if true o i h = (refl, h)
known_if false o i h = absurd (let z : None ≡ Some i = h in cc)

-- a key with a place is known, and the place is that among all keys of its shape
pub known_place : (s : Shape) (f : Format) (key : List ℕ) (i : ℕ) → place_in s f key ≡ Some i → (is_key s f key ≡ true) × (position (bytes_eq key) (names_of s full_format) ≡ Some i)
known_place s f key i h =
    let both = known_if (is_some (position (bytes_eq key) (names_of s f))) (position (bytes_eq key) (names_of s full_format)) i h in
    (sym (has_key s f key) ∙ both.0, both.1)

-- a key without a place isn't known: each key of a format is one of all
unknown_if : (b : Bool) (o : Option ℕ) → (b ≡ true → is_some o ≡ true) → (if b then o else None) ≡ None → b ≡ false
unknown_if true (Some i) h e = absurd (let z : Some i ≡ None = e in cc)
unknown_if true None h e = absurd (let z : false ≡ true = h refl in cc)
unknown_if false o h e = refl

among_all : (s : Shape) (v : Version) (hardware : Bool) → AreAmong (names_of s (format v hardware)) (names_of s full_format)
among_all shape.Document v h = refl
among_all shape.Type v false = refl
among_all shape.Type v true = refl
among_all shape.Pdo v h = refl
among_all shape.Slave versions.One false = refl
among_all shape.Slave versions.One true = refl
among_all shape.Slave versions.Two false = refl
among_all shape.Slave versions.Two true = refl
among_all shape.Variable v false = refl
among_all shape.Variable v true = refl
among_all shape.Link v h = refl

pub no_place : (s : Shape) (f : Format) (key : List ℕ) → place_in s f key ≡ None → is_key s f key ≡ false
no_place s f key e =
    let here : (is_some (position (bytes_eq key) (names_of s f)) ≡ true) → is_some (position (bytes_eq key) (names_of s full_format)) ≡ true
    = λ h. has_place (bytes_eq key) (names_of s full_format) ∙ any_among key (names_of s f) (names_of s full_format) (among_all s f.version f.hardware) (sym (has_place (bytes_eq key) (names_of s f)) ∙ h) in
    sym (has_key s f key) ∙ unknown_if (is_some (position (bytes_eq key) (names_of s f))) (position (bytes_eq key) (names_of s full_format)) here e

-- what the place of a name is where it is no key of the format, and where it is one
unplaced_if : (b : Bool) (o : Option ℕ) → b ≡ false → None ≡ (if b then o else None)
unplaced_if true o h = absurd (let z : true ≡ false = h in cc)
unplaced_if false o h = refl

pub unplaced : (s : Shape) (f : Format) (name : List ℕ) (r : Option ℕ) → None ≡ position (bytes_eq name) (names_of s f) → r ≡ None → r ≡ place_in s f name
unplaced s f name r none is = is ∙ unplaced_if (is_some (position (bytes_eq name) (names_of s f))) (position (bytes_eq name) (names_of s full_format)) (ap is_some (sym none))

placed_if : (b : Bool) (o : Option ℕ) → b ≡ true → o ≡ (if b then o else None)
placed_if true o h = refl
placed_if false o h = absurd (let z : false ≡ true = h in cc)

pub placed : (s : Shape) (f : Format) (name : List ℕ) (i : ℕ) (r : Option ℕ) → Some i ≡ position (bytes_eq name) (names_of s f) → r ≡ position (bytes_eq name) (names_of s full_format) → r ≡ place_in s f name
placed s f name i r some is = is ∙ placed_if (is_some (position (bytes_eq name) (names_of s f))) (position (bytes_eq name) (names_of s full_format)) (ap is_some (sym some))

first_mapped : {A B : Type 0} (p : B → Bool) (f : A → B) (xs : List A) → position_or_len p (map f xs) ≡ position_or_len (λ x. p (f x)) xs
first_mapped p f [] = refl
first_mapped p f (x ∷ xs) = ap (λ n. cond (not (p (f x))) (1 + n) 0) (first_mapped p f xs)

place_mapped : {A B : Type 0} (p : B → Bool) (f : A → B) (xs : List A) → position p (map f xs) ≡ position (λ x. p (f x)) xs
place_mapped p f xs = rw (first_mapped p f xs, length-map xs f) refl

-- a key of the code
abbrev pub CodeKey : Type 0
CodeKey = Bor (List ℕ) × Rule × Bool

-- the keys that the code has are those that are known
pub place_known : (s : Shape) (v : Format) (keys : List CodeKey) (name : List ℕ) → map key_row keys ≡ keys_of s v → position (λ (k : CodeKey). bytes_eq name k.0.now) keys ≡ position (bytes_eq name) (names_of s v)
place_known s v keys name all =
    sym (place_mapped (λ (k : KeyRow). bytes_eq name k.0) key_row keys) ∙ (sym (place_mapped (bytes_eq name) (λ (k : KeyRow). k.0) (map key_row keys)) ∙ ap (λ (ks : List KeyRow). position (bytes_eq name) (map (λ k. k.0) ks)) all)

rules_mapped : (keys : List CodeKey) → map (λ (k : CodeKey). k.1) keys ≡ map (λ (k : KeyRow). k.1) (map key_row keys)
rules_mapped [] = refl
rules_mapped (k ∷ keys) = ap (λ rules. k.1 ∷ rules) (rules_mapped keys)

-- what the key at a place takes
pub rule_found : (s : Shape) (keys : List CodeKey) (place : ℕ) (d : CodeKey) → map key_row keys ≡ keys_of s full_format → place < length keys → (get_or keys place d).1 ≡ rule_at s place
rule_found s keys place d all lt =
    sym (get_or-map (λ (k : CodeKey). k.1) keys place d Tables lt) ∙ ap (λ (rules : List Rule). get_or rules place Tables) (rules_mapped keys ∙ ap (λ (ks : List KeyRow). map (λ k. k.1) ks) all)

-- ---- one more key

-- what was found of each key, with what the members left have, is what all members have
abbrev pub Finds : List (Option (Bor Value)) → List (List ℕ) → Members → Members → Type 0
Finds found keys rest whole = (name : List ℕ) (i : ℕ) → position (bytes_eq name) keys ≡ Some i → option_or (viewed (get_or found i None)) (get_member name rest) ≡ get_member name whole

at_place : {X : Type 0} (p : X → Bool) (xs : List X) (i : ℕ) (d : X) (b : Bool) → nat_lt (position_or_len p xs) (length xs) ≡ b → cond b (Some (position_or_len p xs)) None ≡ Some i → p (get_or xs i d) ≡ true
at_place p xs i d true lt is =
    let e : position_or_len p xs ≡ i = cc in
    subst (λ k. p (get_or xs k d) ≡ true) e (passes_at_first p xs d (grind (arith, nat_tests)))
at_place p xs i d false lt is = absurd (cc)

-- the key at a place
key_at : (name : List ℕ) (keys : List (List ℕ)) (i : ℕ) → position (bytes_eq name) keys ≡ Some i → name ≡ get_or keys i []
key_at name keys i is = (bytes_eq-Decides name (get_or keys i [])).0 (at_place (bytes_eq name) keys i [] (nat_lt (position_or_len (bytes_eq name) keys) (length keys)) refl is)

here_alone : (o : Ordering) (d : Data) → is_eq o ≡ true → match_ordering o None (Some d) None ≡ Some d
here_alone Less d e = cc
here_alone Equal d e = refl
here_alone Greater d e = cc

not_here : (o : Ordering) (d : Data) → is_eq o ≡ false → match_ordering o None (Some d) None ≡ None
not_here Less d e = refl
not_here Equal d e = cc
not_here Greater d e = refl

module _ (found : List (Option (Bor Value))) (keys : List (List ℕ)) (key : List ℕ) (d : Data) (p : ℕ) (new : Option (Bor Value)) (at : position (bytes_eq key) keys ≡ Some p) (inside : p < length found) (put : viewed new ≡ option_or (viewed (get_or found p None)) (Some d)) where
  puts : (name : List ℕ) (i : ℕ) → position (bytes_eq name) keys ≡ Some i → (b : Bool) → bytes_eq name key ≡ b → viewed (get_or (slice_set found p new) i None) ≡ option_or (viewed (get_or found i None)) (get_member name (member key d no_members))
  puts name i is true same =
      let e : name ≡ key = (bytes_eq-Decides name key).0 same in
      let i_is : p ≡ i = let f = ap (λ n. position (bytes_eq n) keys) e in cc in
      let one : get_member name (member key d no_members) ≡ Some d = here_alone (slice_cmp nat_cmp name key) d (is_eq-slice_cmp name key ∙ same) in
      rw (one, ← i_is, get_or-set_same found p new None inside) put
  puts name i is false other =
      let ne : i ≢ p = λ e.
      let here : name ≡ get_or keys i [] = key_at name keys i is in
      let there : key ≡ get_or keys p [] = key_at key keys p at in
      let n : bytes_eq name key ≡ true = (bytes_eq-Decides name key).1 (here ∙ (ap (λ k. get_or keys k []) e ∙ sym there)) in
      absurd (cc) in
      let none : get_member name (member key d no_members) ≡ None = not_here (slice_cmp nat_cmp name key) d (is_eq-slice_cmp name key ∙ other) in
      rw (none, get_or-set_other found p i new None ne) (sym (or_none (viewed (get_or found i None))))

  pub one_more : (rest whole : Members) → Finds found keys (member key d rest) whole → Finds (slice_set found p new) keys rest whole
  one_more rest whole before name i is = one_more_key (get_or found i None) (get_or (slice_set found p new) i None) name key d rest (get_member name whole) (puts name i is (bytes_eq name key) refl) (before name i is)

-- ---- the end of a pass

-- what was found of each key
abbrev pub Found : List (Option (Bor Value)) → List (List ℕ) → Members → Type 0
Found found keys ms = (name : List ℕ) (i : ℕ) → position (bytes_eq name) keys ≡ Some i → viewed (get_or found i None) ≡ get_member name ms

pub found_all : (found : List (Option (Bor Value))) (keys : List (List ℕ)) (ms : Members) → Finds found keys no_members ms → Found found keys ms
found_all found keys ms h name i is = sym (or_none (viewed (get_or found i None))) ∙ h name i is

under_in : (s : Shape) (found : List (Option (Bor Value))) (ms : Members) → Found found (names_of s full_format) ms → AreUnder found 0 (names_of s full_format) ms
under_in shape.Document found ms h = (h (codes "version") 0 refl, (h (codes "hardware") 1 refl, (h (codes "type") 2 refl, (h (codes "slave") 3 refl, (h (codes "variable") 4 refl, (h (codes "link") 5 refl, tt))))))
under_in shape.Type found ms h = (h (codes "name") 0 refl, (h (codes "vendor") 1 refl, (h (codes "product") 2 refl, (h (codes "revision") 3 refl, (h (codes "mailbox") 4 refl, (h (codes "out_start") 5 refl, (h (codes "in_start") 6 refl, (h (codes "rxpdo") 7 refl, (h (codes "txpdo") 8 refl, (h (codes "lrw") 9 refl, (h (codes "out_manager") 10 refl, (h (codes "in_manager") 11 refl, (h (codes "firmware") 12 refl, (h (codes "fixed") 13 refl, (h (codes "init") 14 refl, (h (codes "slow") 15 refl, (h (codes "emergency") 16 refl, (h (codes "fmmus") 17 refl, tt))))))))))))))))))
under_in shape.Pdo found ms h = (h (codes "index") 0 refl, (h (codes "entries") 1 refl, tt))
under_in shape.Slave found ms h = (h (codes "name") 0 refl, (h (codes "type") 1 refl, (h (codes "out") 2 refl, (h (codes "in") 3 refl, (h (codes "serial") 4 refl, (h (codes "unit") 5 refl, (h (codes "init") 6 refl, tt)))))))
under_in shape.Variable found ms h = (h (codes "name") 0 refl, (h (codes "dir") 1 refl, (h (codes "bits") 2 refl, (h (codes "signed") 3 refl, tt))))
under_in shape.Link found ms h = (h (codes "var") 0 refl, (h (codes "slave") 1 refl, (h (codes "index") 2 refl, (h (codes "sub") 3 refl, (h (codes "bits") 4 refl, tt)))))

-- ---- the keys that a table must have

pub is_seen : (o : Option (Bor Value)) → is_some o ≡ is_some (viewed o)
is_seen None = refl
is_seen (Some x) = refl

-- each key that a table must have has a value
abbrev HasNeeded : List KeyRow → Members → Bool
HasNeeded keys ms = list_all (λ (k : KeyRow). not k.2 || is_some (get_member k.0 ms)) keys

-- the same of the keys of the code
abbrev HasAll : List CodeKey → Members → Bool
HasAll keys ms = list_all (λ (k : CodeKey). not k.2 || is_some (get_member k.0.now ms)) keys

needed_from : (keys : List CodeKey) (ms : Members) → HasAll keys ms ≡ HasNeeded (map key_row keys) ms
needed_from [] ms = refl
needed_from (key ∷ keys) ms = ap (λ b. (not key.2 || is_some (get_member key.0.now ms)) && b) (needed_from keys ms)

needed_all : (keys : List KeyRow) (ms : Members) → HasNeeded keys ms ≡ list_all (λ key. is_some (get_member key ms)) (needed keys)
needed_all [] ms = refl
needed_all ((name, rule, true) ∷ keys) ms = ap (λ b. is_some (get_member name ms) && b) (needed_all keys ms)
needed_all ((name, rule, false) ∷ keys) ms = needed_all keys ms

has_all : (s : Shape) (v : Format) (keys : List CodeKey) (ms : Members) → map key_row keys ≡ keys_of s v → HasAll keys ms ≡ has_required s v ms
has_all s v keys ms all =
    let (_, _, to, back) = of_keys s v in
    needed_from keys ms ∙ (ap (λ ks. HasNeeded ks ms) all ∙ (needed_all (keys_of s v) ms ∙ same_all (λ key. is_some (get_member key ms)) (needed (keys_of s v)) (required s v) to back))

-- a member whose key isn't known
pub keys_not : (s : Shape) (f : Format) (ms rest : Members) (key : List ℕ) (d : Data) → each_key (is_key s f) (member key d rest) ≡ each_key (is_key s f) ms → is_key s f key ≡ false → false ≡ keys_are s f ms
keys_not s f ms rest key d each bad =
    let none : each_key (is_key s f) ms ≡ false = sym each ∙ ap (λ (b : Bool). b && each_key (is_key s f) rest) bad in
    ap (λ (b : Bool). b && has_required s f ms) (sym none)

-- after the last member: whether the keys are as they must be, and what stands under each
pub keys_at_end : (s : Shape) (v : Format) (ms : Members) (keys : List CodeKey) → each_key (is_key s v) no_members ≡ each_key (is_key s v) ms → map key_row keys ≡ keys_of s v → HasAll keys ms ≡ keys_are s v ms
keys_at_end s v ms keys each all = has_all s v keys ms all ∙ ap (λ b. b && has_required s v ms) each

pub values_at_end : (s : Shape) (found : List (Option (Bor Value))) (ms : Members) → Finds found (names_of s full_format) no_members ms → AreUnder found 0 (names_of s full_format) ms
values_at_end s found ms finds = under_in s found ms (found_all found (names_of s full_format) ms finds)

-- ---- places

few_keys : (s : Shape) → length (names_of s full_format) ≤ 18
few_keys shape.Document = omega arith
few_keys shape.Type = omega arith
few_keys shape.Pdo = omega arith
few_keys shape.Slave = omega arith
few_keys shape.Variable = omega arith
few_keys shape.Link = omega arith

-- a place of a key is one of eighteen
pub place_inside : (s : Shape) (key : List ℕ) (i : ℕ) → position (bytes_eq key) (names_of s full_format) ≡ Some i → i < 18
place_inside s key i is =
    let inside : i < length (names_of s full_format) = before_end (bytes_eq key) (names_of s full_format) i (nat_lt (position_or_len (bytes_eq key) (names_of s full_format)) (length (names_of s full_format))) refl is in
    omega (arith, inside, few_keys s)

pub place_short : (s : Shape) (f : Format) (key : List ℕ) (i : ℕ) → place_in s f key ≡ Some i → i < 18
place_short s f key i is = place_inside s key i (known_place s f key i is).1

-- ---- before the first member

abbrev pub AreNone : List (Option (Bor Value)) → Type 0
AreNone found = list_all (λ o. not (is_some o)) found ≡ true

none_at : (found : List (Option (Bor Value))) (i : ℕ) → AreNone found → get_or found i None ≡ None
none_at [] i all = refl
none_at (None ∷ found) zero all = refl
none_at (None ∷ found) (suc i) all = none_at found i all
none_at (Some v ∷ found) i all = absurd (let z : false ≡ true = all in cc)

pub none_found : (found : List (Option (Bor Value))) (keys : List (List ℕ)) (ms : Members) → AreNone found → Finds found keys ms ms
none_found found keys ms all name i is = ap (λ o. option_or (viewed o) (get_member name ms)) (none_at found i all)
