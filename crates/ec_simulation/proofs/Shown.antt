-- An output variable as the slaves publish it, link after link.
use Rattle.std.proofs.Common.{◌≡◌, ◌∙◌, ℕ, ◌+◌, ◌<◌, ◌≤◌, List, length, drop, get_or, Option, Some, None, option_and_then, sym, ap}
use Rattle.std.proofs.lemmas.List.{at_drop_more, drop_all}
use Rattle.ec_link.specs.declared.image.Variable.{Variable}
use Rattle.ec_link.specs.declared.plan.Link.{Link}
use Rattle.ec_world.specs.World.{WorldState}
use Rattle.ec_simulation.specs.Showing.{with_all_shown, with_shown}

-- the links ahead make of the bytes what all links make of none
abbrev pub GoesOnShowing : WorldState → Variable → List Link → ℕ → List ℕ → Option (List ℕ) → Type 0
GoesOnShowing w v links i bytes whole = with_all_shown w v (drop i links) bytes ≡ whole

next : (w : WorldState) (v : Variable) (links : List Link) (i : ℕ) (d : Link) (bytes : List ℕ) (whole : Option (List ℕ)) → i < length links → GoesOnShowing w v links i bytes whole
    → option_and_then (with_all_shown w v (drop (i + 1) links)) (with_shown w v (get_or links i d) bytes) ≡ whole
unfolding with_all_shown
next w v links i d bytes whole lt h = sym (at_drop_more (λ ls. with_all_shown w v ls bytes) links i d lt) ∙ h

pub shown_more : (w : WorldState) (v : Variable) (links : List Link) (i : ℕ) (d : Link) (bytes new : List ℕ) (whole : Option (List ℕ)) → i < length links → GoesOnShowing w v links i bytes whole
    → with_shown w v (get_or links i d) bytes ≡ Some new → GoesOnShowing w v links (i + 1) new whole
shown_more w v links i d bytes new whole lt h is = sym (ap (option_and_then (with_all_shown w v (drop (i + 1) links))) is) ∙ next w v links i d bytes whole lt h

pub shown_none : (w : WorldState) (v : Variable) (links : List Link) (i : ℕ) (d : Link) (bytes : List ℕ) (whole : Option (List ℕ)) → i < length links → GoesOnShowing w v links i bytes whole
    → with_shown w v (get_or links i d) bytes ≡ None → whole ≡ None
shown_none w v links i d bytes whole lt h is = sym (next w v links i d bytes whole lt h) ∙ ap (option_and_then (with_all_shown w v (drop (i + 1) links))) is

pub shown_end : (w : WorldState) (v : Variable) (links : List Link) (i : ℕ) (bytes : List ℕ) (whole : Option (List ℕ)) → length links ≤ i → GoesOnShowing w v links i bytes whole → whole ≡ Some bytes
unfolding with_all_shown
shown_end w v links i bytes whole le h = sym h ∙ ap (λ ls. with_all_shown w v ls bytes) (drop_all i links le)
