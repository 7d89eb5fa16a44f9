-- Slaves that are found one after another.
use Rattle.std.proofs.Common.{◌≡◌, ℕ, ◌+◌, ◌<◌, List, [], ◌∷◌, ◌++◌, length, take, get_or, subst, sym, ap, ◌∙◌}
use Rattle.std.proofs.lemmas.List.{take_more}
use Rattle.ec_scan.specs.declared.shown.Shown.{Shown}
use Rattle.ec_found.specs.declared.found.Found.{Found}
use Rattle.ec_found.specs.Founds.{IsFound}
use Rattle.cmd_scan.specs.Scans.{AreFound}

found_push : (ss : List Shown) (fs : List Found) (s : Shown) (f : Found) → AreFound ss fs → IsFound s f → AreFound (ss ++ s ∷ []) (fs ++ f ∷ [])
found_push [] [] s f h r = (r, tt)
found_push [] (g ∷ fs) s f h r = absurd h
found_push (t ∷ ss) [] s f h r = absurd h
found_push (t ∷ ss) (g ∷ fs) s f h r = (h.0, found_push ss fs s f h.1 r)

pub found_more : (ss : List Shown) (fs : List Found) (i : ℕ) (s : Shown) (f : Found) → i < length ss → s ≡ get_or ss i s → AreFound (take i ss) fs → IsFound s f
    → AreFound (take (i + 1) ss) (fs ++ f ∷ [])
found_more ss fs i s f lt is h r = subst (λ l. AreFound l (fs ++ f ∷ [])) (ap (λ z. take i ss ++ z ∷ []) is ∙ sym (take_more ss i s lt)) (found_push (take i ss) fs s f h r)
