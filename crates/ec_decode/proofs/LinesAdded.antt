-- Lines of hex whose texts are added one after another.
use Rattle.std.proofs.Common.{◌≡◌, ◌∙◌, inl, inr, ℕ, ◌+◌, ◌<◌, ◌≤◌, List, [], ◌∷◌, ◌++◌, length, map, drop, get_or, Bool, true, false, refl, sym, ap, subst, append_assoc, append-nil}
use Rattle.std.proofs.lemmas.List.{drop_all, drop_more}
use Rattle.ec_decode.specs.Answers.{DecodesLines}
use Rattle.ec_decode.specs.FrameText.{Text}
use Rattle.ec_decode.specs.Steps.{AddsLine, AddsLines}

-- the first i lines are added: whatever those ahead are printed as, all are printed as that behind what stands
pub record AreAdded {X : Type 0} (f : X → Text) (xs : List X) (i : ℕ) (first now : Text) : Type 0 where
  pub so_far : Text
  pub is : now ≡ first ++ so_far
  pub ahead : (more : Text) (whole : Bool) → DecodesLines (map f (drop i xs)) more whole → DecodesLines (map f xs) (so_far ++ more) whole

pub none_added : {X : Type 0} (f : X → Text) (xs : List X) (first : Text) → AreAdded f xs 0 first first
none_added f xs first = record { so_far = []; is = sym (append-nil first); ahead = λ more whole h. h }

pub added_more : {X : Type 0} (f : X → Text) (xs : List X) (i : ℕ) (d : X) (first now new : Text) → AreAdded f xs i first now → i < length xs → AddsLine (f (get_or xs i d)) now new true
    → AreAdded f xs (i + 1) first new
added_more {X} f xs i d first now new h lt (text, is_text, is) = record {
  so_far = h.so_far ++ text;
  is = is ∙ (ap (λ (t : Text). t ++ text) h.is ∙ append_assoc first h.so_far text);
  ahead = λ more whole r.
      let here : DecodesLines (map f (get_or xs i d ∷ drop (i + 1) xs)) (text ++ more) whole = inr (text, more, is_text, r, refl) in
      let there : DecodesLines (map f (drop i xs)) (text ++ more) whole = subst (λ (ls : List X). DecodesLines (map f ls) (text ++ more) whole) (sym (drop_more xs i d lt)) here in
      subst (λ (t : Text). DecodesLines (map f xs) t whole) (sym (append_assoc h.so_far text more)) (h.ahead (text ++ more) whole there);
}

pub no_more : {X : Type 0} (f : X → Text) (xs : List X) (i : ℕ) (d : X) (first now new : Text) → AreAdded f xs i first now → i < length xs → AddsLine (f (get_or xs i d)) now new false
    → AddsLines (map f xs) first new false
no_more {X} f xs i d first now new h lt (no_hex, is) =
    let here : DecodesLines (map f (get_or xs i d ∷ drop (i + 1) xs)) [] false = inl (no_hex, refl, refl) in
    let there : DecodesLines (map f (drop i xs)) [] false = subst (λ (ls : List X). DecodesLines (map f ls) [] false) (sym (drop_more xs i d lt)) here in
    (h.so_far, subst (λ (t : Text). DecodesLines (map f xs) t false) (append-nil h.so_far) (h.ahead [] false there), is ∙ h.is)

pub all_added : {X : Type 0} (f : X → Text) (xs : List X) (i : ℕ) (first now : Text) → AreAdded f xs i first now → length xs ≤ i → AddsLines (map f xs) first now true
all_added {X} f xs i first now h le =
    let none : DecodesLines (map f (drop i xs)) [] true = subst (λ (ls : List X). DecodesLines (map f ls) [] true) (sym (drop_all i xs le)) (refl, refl) in
    (h.so_far, subst (λ (t : Text). DecodesLines (map f xs) t true) (append-nil h.so_far) (h.ahead [] true none), h.is)
