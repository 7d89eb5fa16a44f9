use Rattle.std.proofs.Common.{◌≡◌, ◌++◌, take, string_bytes}
use Rattle.std.specs.List.{flat_map}
use Rattle.ec_decode.specs.Indented.{indented_line}
use Rattle.ec_decode.proofs.weaving.push_indented.Given as goal

abbrev pub invariant-loop-line : goal.invariant-loop-line
invariant-loop-line l = string_bytes l.text ≡ string_bytes l.initial.text ++ flat_map (λ x. indented_line x.now) (take l.line-index l.line-items)
