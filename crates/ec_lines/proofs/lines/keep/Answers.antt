use Rattle.std.proofs.Common.{◌≡◌, ◌++◌, ◌-◌, ◌∙◌, List, ℕ, ap, arith, length, take}
use Rattle.std.proofs.lemmas.List.{take_min}
use Rattle.ec_lines.proofs.lines.keep.Goals as goal

pub returns : goal.returns
returns c =
    let part = c.args.part.now in
    let room : c.saturating_sub-room.result ≡ c.args.most - length c.args.line.now.items = omega (arith, c.saturating_sub-room.ensures, c.len.ensures) in
    c.in_ok-extend_from_slice.ensures.items
    ∙ ap (λ (l : List ℕ). c.args.line.now.items ++ l) (ap (λ (k : ℕ). take k part) c.min.ensures ∙ take_min c.saturating_sub-room.result part ∙ ap (λ (k : ℕ). take k part) room)
