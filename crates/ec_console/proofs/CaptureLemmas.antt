-- The names of interfaces, and how a command ends that has a capture.
use Rattle.std.proofs.Common.{◌≡◌, ◌||◌, not, if◌then◌else◌, inl, inr, ℕ, List, [], ◌∷◌, ◌++◌, All, map, refl, sym, subst, Bool, true, false, Option, None, Some, is_some, Result, Ok, Err, IsErrAnd}
use Rattle.std.proofs.lemmas.List.{map-append}
use Rattle.std.proofs.lemmas.List.Elements.{All-append, All-cons, All-nil}
use Rattle.ec_capture.specs.Captures.{IsText}
use Rattle.ec_capture.specs.Recordings.{Recording}
use Rattle.ec_console.specs.declared.refusal.Refusal.{Refusal}
use Rattle.ec_console.specs.declared.refusal.Refusal.TheVariants.{Output}
use Rattle.ec_console.specs.Capturing.{EndsCaptured, EndsWith, IsUnopened, finished, is_complete, is_through}

-- a name more
pub texts_more : {X : Type 0} (f : X → List ℕ) (xs ys : List X) (x : X) → All IsText (map f xs) → IsText (f x) → ys ≡ xs ++ x ∷ [] → All IsText (map f ys)
texts_more {X} f xs ys x all one is =
    subst (λ (zs : List X). All IsText (map f zs)) (sym is)
    (subst (λ (ts : List (List ℕ)). All IsText ts) (sym (map-append f xs (x ∷ []))) (All-append IsText (map f xs) (f x ∷ []) all (All-cons IsText (f x) [] one (All-nil IsText))))

-- the file couldn't be opened
pub captured_refused : (file : Option (List ℕ)) (Ends : Result Unit Refusal → Type 0) (Nothing : Type 0) (r : Result Unit Refusal) (x : Refusal) → IsErrAnd r (λ e. e ≡ x) → is_some file ≡ true → IsUnopened x
    → Nothing → EndsWith file Ends Nothing r
captured_refused None Ends Nothing r x is named why nothing = let bad : false ≡ true = named in cc
captured_refused (Some file) Ends Nothing (Ok done) x is named why nothing = absurd is
captured_refused (Some file) Ends Nothing (Err e) x is named why nothing = inr (inr (e, refl, subst IsUnopened (sym is) why, nothing))

-- it ended, and then the capture did
ended_whole : (is_whole through : Bool) (Ends : Result Unit Refusal → Type 0) (Nothing : Type 0) (ended : Result Unit Refusal) → is_through ended ≡ through → Ends ended
    → EndsCaptured Ends Nothing (if is_whole || not through then ended else Err Output)
ended_whole true through Ends Nothing ended is ends = inl ends
ended_whole false false Ends Nothing ended is ends = inl ends
ended_whole false true Ends Nothing ended is ends = inr (inl (refl, (ended, is, ends)))

pub captured_end : (file : Option (List ℕ)) (capture : Option Recording) (Ends : Result Unit Refusal → Type 0) (Nothing : Type 0) (ended r : Result Unit Refusal) → is_some capture ≡ is_some file
    → r ≡ finished (is_complete capture) ended → Ends ended → EndsWith file Ends Nothing r
captured_end None None Ends Nothing ended r same is ends = subst Ends (sym is) ends
captured_end None (Some recording) Ends Nothing ended r same is ends = let bad : true ≡ false = same in cc
captured_end (Some file) capture Ends Nothing ended r same is ends =
    subst (EndsCaptured Ends Nothing) (sym is) (ended_whole (is_complete capture) (is_through ended) Ends Nothing ended refl ends)
