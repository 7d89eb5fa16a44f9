-- Lines without the blanks before them.
use Rattle.std.proofs.Common.{◌≡◌, ◌≢◌, ◌∙◌, ℕ, ◌+◌, ◌==◌, List, [], ◌∷◌, Bool, true, false, Option, Some, None, IfSome, refl, sym, ap, arith}
use Rattle.std.specs.Str.Pattern.{CutsPrefixes, FindsCharPrefix, IsTrimStartMatches}
use Rattle.std.proofs.lemmas.Bool.Decides.{nat_tests}
use Rattle.std.proofs.lemmas.Str.Pattern.{drop_at_char, strip_prefix_char}
use Rattle.ec_script.specs.Words.{Text, without_start_blanks}

-- one is cut
blank_before : (rest : Text) → without_start_blanks (32 ∷ rest) ≡ without_start_blanks rest
unfolding without_start_blanks
blank_before rest = refl

cuts : (s : Text) (ns : List ℕ) (r : Text) → CutsPrefixes (FindsCharPrefix 32) s ns r → without_start_blanks s ≡ without_start_blanks r
cuts s [] r h = ap without_start_blanks (sym h)
cuts s (n ∷ ns) r (m, h, finds, is) =
    cuts s ns m h
    ∙ (ap without_start_blanks (drop_at_char 32 m 0 n finds (omega arith) ∙ ap (λ (l : Text). 32 ∷ l) (sym is))
    ∙ blank_before r)

-- and where there is none, nothing
first_kept : (c : ℕ) (cs : Text) (b : Bool) → (c == 32) ≡ b → (c ≡ 32 → ⊥) → without_start_blanks (c ∷ cs) ≡ c ∷ cs
unfolding without_start_blanks
first_kept c cs true e other = absurd (other (grind (arith, nat_tests)))
first_kept c cs false e other = rw e refl

none_cut : (r : Text) → ((rest : Text) → r ≢ 32 ∷ rest) → without_start_blanks r ≡ r
unfolding without_start_blanks
none_cut [] h = refl
none_cut (c ∷ cs) h = first_kept c cs (c == 32) refl (λ is. h cs (ap (λ (x : ℕ). x ∷ cs) is))

full : (r : Text) (o : Option ℕ) → FindsCharPrefix 32 r o → IfSome o (λ n. n ≡ 0) → (rest : Text) → r ≢ 32 ∷ rest
full r None h z = strip_prefix_char 32 r None h (omega arith)
full r (Some n) h z = absurd (let one : n ≡ 0 + 1 = h.ends in omega arith)

pub trimmed_start : (s r : Text) → IsTrimStartMatches (FindsCharPrefix 32) s r → r ≡ without_start_blanks s
trimmed_start s r ((ns, h), (o, finds, z)) = sym (none_cut r (full r o finds z)) ∙ sym (cuts s ns r h)
