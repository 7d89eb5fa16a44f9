use Rattle.std.proofs.Common.{ℕ, ap, ◌+◌, ◌-◌, ◌≡◌, ◌∙◌, arith, Some}
use Rattle.std.proofs.lemmas.Option.{IfSome_then}
use Rattle.ec_bits.proofs.AnyLaws.{within_parts}
use Rattle.ec_fmmu.proofs.AloneWriting.{alone_wholly}
use Rattle.ec_fmmu.proofs.writing.source_of.Goals as goal

pub returns-in-Alone-clause-pairs : goal.returns-in-Alone-clause-pairs
returns-in-Alone-clause-pairs c =
    let fs = c.args.fmmus.now in
    let place = c.args.index in
    let from = c.args.from in
    let bits = c.args.bits in
    let w = c.in-Alone.ensures.mode in
    let logical = c.in-Alone.run'.logical in
    let physical = c.in-Alone.run'.physical in
    let n = c.in-Alone.run'.count in
    IfSome_then c.source.result c.source.ensures.pairs (λ at h q a b.
    let x = h q a b in
    let y = within_parts physical n q x.0 in
    let z = within_parts from bits (logical + (q - physical)) x.1 in
    let e : logical + (q - physical) ≡ from + (at + (q - c.args.physical)) = x.2 in
    let same : logical + (q - physical) - from ≡ at + (q - c.args.physical) = omega (arith, e) in
    alone_wholly fs place from bits q logical physical n c.in-Alone.ensures.there w.goes w.alone w.pairs y.0 y.1 z.0 z.1
    ∙ ap (λ (k : ℕ). Some k) same)
