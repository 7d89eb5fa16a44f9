-- Events that are made one list after another.
use Rattle.std.proofs.Common.{◌≡◌, ◌∙◌, ℕ, zero, suc, ◌+◌, ◌-◌, ◌<◌, List, [], ◌∷◌, ◌++◌, length, replicate, Bool, true, false, refl, sym, ap, subst, append-nil, arith}
use Rattle.std.proofs.lemmas.List.{replicate-append-replicate}
use Rattle.ec_world.specs.declared.event.Event.{Event}
use Rattle.ec_world.specs.declared.event.Event.TheVariants.{Serve}
use Rattle.ec_world.specs.NewWorld.{servings}
use Rattle.ec_world.specs.World.{WorldState}
use Rattle.ec_script.specs.declared.output.LineOutput.{LineOutput}
use Rattle.ec_script.specs.Outputs.{is_done}
use Rattle.ec_simulation.specs.Work.{Makes, MakesAll, Onward, Then, always}

-- what stopped in the first part stopped before the second
carry : (X Y Z : Type 0) (b : Bool) (first mid new : WorldState) (said told word : LineOutput) → is_done said ≡ b
    → Onward b X ((mid ≡ first) × (told ≡ said)) → Onward (is_done told) Y ((new ≡ mid) × (word ≡ told)) → (X → Z)
    → Onward b Z ((new ≡ first) × (word ≡ said))
carry X Y Z true first mid new said told word is h rest f = f h
carry X Y Z false first mid new said told word is h rest f =
    let r : (new ≡ mid) × (word ≡ told) = subst (λ b. Onward b Y ((new ≡ mid) × (word ≡ told))) (ap is_done h.1 ∙ is) rest in
    (r.0 ∙ h.0, r.1 ∙ h.1)

pub joined : (xs ys : List Event) (old mid new : WorldState) (told word : LineOutput) → 0 < length ys → MakesAll xs old mid told
    → Onward (is_done told) (MakesAll ys mid new word) ((new ≡ mid) × (word ≡ told)) → MakesAll (xs ++ ys) old new word
joined [] ys old mid new told word ne h rest =
    let r : MakesAll ys mid new word = subst (λ t. Onward (is_done t) (MakesAll ys mid new word) ((new ≡ mid) × (word ≡ t))) h.1 rest in
    subst (λ m. MakesAll ys m new word) h.0 r
joined (e ∷ []) [] old mid new told word ne h rest = absurd (omega (arith, ne))
joined (e ∷ []) (y ∷ ys) old mid new told word ne h rest = record { mid = mid; told = told; begins = h; goes_on = rest }
joined (e ∷ f ∷ es) ys old mid new told word ne h rest = record {
  mid = h.mid;
  told = h.told;
  begins = h.begins;
  goes_on = carry (MakesAll (f ∷ es) h.mid mid told) (MakesAll ys mid new word) (MakesAll (f ∷ (es ++ ys)) h.mid new word) (is_done h.told) h.mid mid new h.told told word refl h.goes_on rest (λ x. joined (f ∷ es) ys h.mid mid new told word ne x rest);
}

onward_true : (X Y : Type 0) (b : Bool) → b ≡ true → X → Onward b X Y
onward_true X Y true h x = x
onward_true X Y false h x = let bad : false ≡ true = h in cc

onward_false : (X Y : Type 0) (b : Bool) → b ≡ false → Y → Onward b X Y
onward_false X Y true h y = let bad : true ≡ false = h in cc
onward_false X Y false h y = y

pub then_on : (xs ys : List Event) (old mid new : WorldState) (told word : LineOutput) → 0 < length ys → MakesAll xs old mid told → is_done told ≡ true
    → MakesAll ys mid new word → MakesAll (xs ++ ys) old new word
then_on xs ys old mid new told word ne h done rest = joined xs ys old mid new told word ne h (onward_true _ _ (is_done told) done rest)

-- nothing follows what stopped
pub stopped : (xs ys : List Event) (old new : WorldState) (word : LineOutput) → MakesAll xs old new word → is_done word ≡ false → MakesAll (xs ++ ys) old new word
stopped xs [] old new word h stop = subst (λ es. MakesAll es old new word) (sym (append-nil xs)) h
stopped xs (y ∷ ys) old new word h stop =
    let ne : 0 < length (y ∷ ys) = omega arith in
    joined xs (y ∷ ys) old new new word word ne h (onward_false _ _ (is_done word) stop (refl, refl))

pub nonempty : (xs : List Event) (y : Event) (ys : List Event) → 0 < length (xs ++ (y ∷ ys))
nonempty [] y ys = omega arith
nonempty (x ∷ xs) y ys = omega arith

-- ---- work and further work

pub goes_on : {Rest : WorldState → WorldState → LineOutput → Type 0} {First : WorldState → WorldState → LineOutput → Type 0} (old mid new : WorldState) (told word : LineOutput)
    → First old mid told → is_done told ≡ true → Rest mid new word → Then always First Rest old new word
goes_on old mid new told word first done rest = record { mid = mid; told = told; begins = first; goes_on = onward_true _ _ (is_done told) done rest }

pub ends_there : {Rest : WorldState → WorldState → LineOutput → Type 0} {First : WorldState → WorldState → LineOutput → Type 0} (old new : WorldState) (word : LineOutput)
    → First old new word → is_done word ≡ false → Then always First Rest old new word
ends_there old new word first stop = record { mid = new; told = word; begins = first; goes_on = onward_false _ _ (is_done word) stop (refl, refl) }

-- ---- an event so many times

pub once_more : (e : Event) (i : ℕ) (old mid new : WorldState) (told word : LineOutput) → MakesAll (replicate i e) old mid told → is_done told ≡ true → Makes e mid new word
    → MakesAll (replicate (i + 1) e) old new word
once_more e i old mid new told word h done one =
    let ne : 0 < length (e ∷ []) = omega arith in
    subst (λ es. MakesAll es old new word) (replicate-append-replicate i 1 e) (then_on (replicate i e) (e ∷ []) old mid new told word ne h done one)

pub stopped_at : (e : Event) (n i : ℕ) (old mid new : WorldState) (told word : LineOutput) → i < n → MakesAll (replicate i e) old mid told → is_done told ≡ true → Makes e mid new word
    → is_done word ≡ false → MakesAll (replicate n e) old new word
stopped_at e n i old mid new told word lt h done one stop =
    let here : MakesAll (replicate (i + 1) e) old new word = once_more e i old mid new told word h done one in
    let all : i + 1 + (n - (i + 1)) ≡ n = omega arith in
    subst (λ k. MakesAll (replicate k e) old new word) all
    (subst (λ es. MakesAll es old new word) (replicate-append-replicate (i + 1) (n - (i + 1)) e)
    (stopped (replicate (i + 1) e) (replicate (n - (i + 1)) e) old new word here stop))

-- ---- firmware steps in their order

servings-append : (s i m : ℕ) → servings s i ++ servings (s + i) m ≡ servings s (i + m)
servings-append s zero m = let e : s + 0 ≡ s = omega arith in let f : 0 + m ≡ m = omega arith in rw (e, f) refl
servings-append s (suc i) m =
    let e : s + suc i ≡ s + 1 + i = omega arith in
    let f : suc i + m ≡ suc (i + m) = omega arith in
    rw (e, f) (ap (λ es. Serve s ∷ es) (servings-append (s + 1) i m))

pub serve_more : (i : ℕ) (old mid new : WorldState) (told word : LineOutput) → MakesAll (servings 0 i) old mid told → is_done told ≡ true → Makes (Serve i) mid new word
    → MakesAll (servings 0 (i + 1)) old new word
serve_more i old mid new told word h done one =
    let ne : 0 < length (Serve i ∷ []) = omega arith in
    let e : 0 + i ≡ i = omega arith in
    let same : servings 0 i ++ (Serve i ∷ []) ≡ servings 0 (i + 1) = subst (λ k. servings 0 i ++ servings k 1 ≡ servings 0 (i + 1)) e (servings-append 0 i 1) in
    subst (λ es. MakesAll es old new word) same (then_on (servings 0 i) (Serve i ∷ []) old mid new told word ne h done one)

pub serve_stopped : (n i : ℕ) (old mid new : WorldState) (told word : LineOutput) → i < n → MakesAll (servings 0 i) old mid told → is_done told ≡ true → Makes (Serve i) mid new word
    → is_done word ≡ false → MakesAll (servings 0 n) old new word
serve_stopped n i old mid new told word lt h done one stop =
    let here = serve_more i old mid new told word h done one in
    let all : i + 1 + (n - (i + 1)) ≡ n = omega arith in
    subst (λ k. MakesAll (servings 0 k) old new word) all
    (subst (λ es. MakesAll es old new word) (servings-append 0 (i + 1) (n - (i + 1)))
    (stopped (servings 0 (i + 1)) (servings (0 + (i + 1)) (n - (i + 1))) old new word here stop))
