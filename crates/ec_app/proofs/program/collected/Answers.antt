use Rattle.std.proofs.Common.{◌≡◌, Result, Ok, Err, IfOk, vec_len, length, refl}
use Rattle.std.proofs.lemmas.Iterator.Adapters.{YieldsList-from_vec, fact_from_collect}
use Rattle.std.specs.Vec.Iter.{into_iter_items}
use Rattle.ec_app.proofs.program.collected.Goals as goal

first_of_both : {V E : Type 0} (r : Result V E) (P Q : V → Type 0) → IfOk r (λ v. P v × Q v) → IfOk r P
first_of_both (Ok v) P Q both = both.0
first_of_both (Err e) P Q both = tt

pub returns : goal.returns
returns c =
    let words = into_iter_items c.args.given in
    first_of_both c.collect.result (λ v. v.items ≡ words) (λ v. vec_len v ≡ length words)
    (fact_from_collect (λ xs v. (v.items ≡ xs) × (vec_len v ≡ length xs)) c.collect.result c.collect.ensures.ran
    (YieldsList-from_vec words refl c.args.given.rest.ok.0))
