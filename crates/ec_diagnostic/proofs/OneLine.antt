-- Words that are on one line.
use Rattle.std.proofs.Common.{◌≡◌, ◌≢◌, ◌∙◌, ℕ, ◌==◌, List, true, false, not, All, refl, sym, ap}
use Rattle.std.specs.Prelude.{codes}
use Rattle.std.specs.List.{list_all}
use Rattle.std.proofs.lemmas.List.Folds.{list_all_at}

-- by a test of each byte
on_one_line : (xs : List ℕ) → list_all (λ b. not (b == 10)) xs ≡ true → All (λ b. b ≢ 10) xs
on_one_line xs all k d lt is =
    let failed : list_all (λ b. not (b == 10)) xs ≡ false = list_all_at (λ b. not (b == 10)) xs k d lt (ap (λ (b : ℕ). not (b == 10)) is) in
    let f : true ≡ false = sym all ∙ failed in
    cc

pub plain_on_one_line : All (λ b. b ≢ 10) (codes "an event of the line can't be made")
plain_on_one_line = on_one_line (codes "an event of the line can't be made") refl
