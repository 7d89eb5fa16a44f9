use Rattle.std.proofs.Common.{List, ℕ, ◌≡◌, true, subst, inl}
use Rattle.ec_scan.specs.Showing.{Leads, is_ended}
use Rattle.ec_scan.proofs.WalkLemmas.{goes_on, pushed, reached}
use Rattle.ec_scan.proofs.sii.read_categories.Goals as goal

pub returns-then-is_end-clause-whole : goal.returns-then-is_end-clause-whole
returns-then-is_end-clause-whole g c =
    let words : List ℕ = c.push-in-Some.new.self in
    let from : ℕ = c.loop-place.header in
    let to : ℕ = c.header_behind-header.result in
    let one : Leads c.push.new.self 0 from = pushed c.loop-place.words c.push.new.self c.in-Some.low 0 from c.in_ok-push-in-Some.ensures.ok c.loop-place.invariant.leads in
    let two : Leads words 0 from = pushed c.push.new.self words c.in-Some.high 0 from c.in_ok-push-in-Some-2.ensures.ok one in
    let on : Leads words from to = subst (λ (xs : List ℕ). Leads xs from to) c.as_slice.ensures c.header_behind-header.ensures in
    let mark : is_ended to words ≡ true = subst (λ (xs : List ℕ). is_ended to xs ≡ true) c.as_slice-in-loop-place.ensures (c.is_end.ensures c.if-is_end.true) in
    inl (reached words to (goes_on words 0 from to two on) mark)
