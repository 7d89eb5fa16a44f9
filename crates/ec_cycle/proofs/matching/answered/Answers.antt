use Rattle.std.proofs.Common.{◌<◌, ◌≡◌, ◌∙◌, List, ℕ, [], arith, get_or, length, subst, sym, true, false}
use Rattle.std.proofs.lemmas.List.{get_or_default}
use Rattle.ec_frame.specs.Frame.{IsFrame}
use Rattle.ec_cycle.proofs.Comparing.{names_one}
use Rattle.ec_cycle.proofs.matching.answered.Goals as goal

pub answers-requires-clause-sent : goal.answers-requires-clause-sent
answers-requires-clause-sent c =
    let l : c.in-Some.part < length c.args.frames.now = omega arith in
    let s = c.requires.sent c.in-Some.part l in
    let same : c.bytes.result.now ≡ get_or c.args.frames.now c.in-Some.part [] = c.bytes.ensures ∙ (c.index-frames-part.is ∙ get_or_default c.args.frames.now c.in-Some.part c.index-frames-part.result [] l) in
    (s.0, subst (λ (xs : List ℕ). IsFrame xs s.0) (sym same) s.1)

pub returns-else-answers : goal.returns-else-answers
returns-else-answers c = λ p h f k a.
    let l : c.in-Some.part < length c.args.frames.now = omega arith in
    let s = c.requires.sent c.in-Some.part l in
    let same : c.bytes.result.now ≡ get_or c.args.frames.now c.in-Some.part [] = c.bytes.ensures ∙ (c.index-frames-part.is ∙ get_or_default c.args.frames.now c.in-Some.part c.index-frames-part.result [] l) in
    let place : c.in-Some.part ≡ k = names_one _ c.in-Some.part k (c.in-Some.ensures.named _ (f 0 (omega arith))) a.named in
    let there : IsFrame (get_or c.args.frames.now k []) s.0 = subst (λ (n : ℕ). IsFrame (get_or c.args.frames.now n []) s.0) place s.1 in
    let yes : c.answers.result ≡ true = (c.answers.ensures p s.0 h (subst (λ (xs : List ℕ). IsFrame xs s.0) (sym same) s.1)).1 (a.same s.0 there) in
    let no : false ≡ true = sym c.if-answers.false ∙ yes in
    (cc)
