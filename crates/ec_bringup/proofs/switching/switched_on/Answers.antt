use Rattle.ec_bringup.proofs.Words.{◌+◌, ◌<◌, ◌≤◌, ◌≡◌, ◌∙◌, List, [], ◌∷◌, ◌++◌, length, get_or, length-take-le, take, ap, arith, refl, sym, take_more, SlaveKind, Identity, SlaveState, power_on, SlavePlan, bringup_switched_on as switched_on, no_identity}
use Rattle.ec_bringup.proofs.switching.switched_on.Goals as goal

-- one slave more
more : (ps : List SlavePlan) (is : List Identity) (p : SlavePlan) (i : Identity) → length is ≡ length ps → switched_on (ps ++ p ∷ []) (is ++ i ∷ []) ≡ switched_on ps is ++ power_on p.kind i ∷ []
more [] [] p i e = refl
more (q ∷ ps) (j ∷ is) p i e = ap (λ xs. power_on q.kind j ∷ xs) (more ps is p i (omega (arith, e)))
more _ _ p i e = absurd (omega (arith, e))

pub loop-place-preserved : goal.loop-place-preserved
loop-place-preserved c =
    let i = c.loop-place.place in
    let ps = c.args.slaves.now in
    let is = c.args.identities.now in
    let p = c.index-slaves-place.result in
    let l : i < length ps = c.loop-place-test.true in
    let m : i < length is = omega (arith, l, c.requires) in
    let kind : c.in_ok-new.field-0 ≡ power_on p.kind (get_or is i no_identity) = c.in_ok-new.ensures {u = tt} ∙ ap (λ (k : SlaveKind). power_on k (get_or is i no_identity)) (c.in_ok-kind.ensures {u = tt}) in
    let cut : length (take i is) ≡ length (take i ps) = let few : i ≤ length is = omega arith in let some : i ≤ length ps = omega arith in omega (arith, length-take-le i is few, length-take-le i ps some) in
    (c.in_ok-push.ensures {u = tt}).items
    ∙ (ap (λ (xs : List SlaveState). xs ++ c.in_ok-new.field-0 ∷ []) c.loop-place.invariant
    ∙ (ap (λ (x : SlaveState). switched_on (take i ps) (take i is) ++ x ∷ []) kind
    ∙ (sym (more (take i ps) (take i is) p (get_or is i no_identity) cut)
    ∙ (ap (λ (x : SlavePlan). switched_on (take i ps ++ x ∷ []) (take i is ++ get_or is i no_identity ∷ [])) c.index-slaves-place.is
    ∙ (ap (λ (xs : List SlavePlan). switched_on xs (take i is ++ get_or is i no_identity ∷ [])) (sym (take_more ps i p l))
    ∙ ap (λ (xs : List Identity). switched_on (take (i + 1) ps) xs) (sym (take_more is i no_identity m)))))))
