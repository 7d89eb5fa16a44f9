use Rattle.std.proofs.Common.{ℕ, ◌≡◌, ◌+◌, ◌-◌, ◌*◌, ◌/◌, ◌∙◌, ap, arith, Some, None, true, length, option_map}
use Rattle.std.proofs.lemmas.Option.{IfSome_then}
use Rattle.ec_bits.specs.Bits.{bit}
use Rattle.ec_bits.proofs.AnyLaws.{if_true}
use Rattle.ec_fmmu.specs.Applied.{LogicalSpan}
use Rattle.ec_slave.specs.Managers.{is_ungoverned}
use Rattle.ec_slave.specs.Logical.{brought}
use Rattle.ec_slave.proofs.logical.managers.Bits.source.Goals as goal

pub returns-clause-bits : goal.returns-clause-bits
returns-clause-bits c =
    let me = c.args.self.now in
    let lower = me.lower.now in
    let fs = me.fmmus.now in
    let bytes = me.bytes.now in
    let p : LogicalSpan = record { from = me.from; bits = 8 * length bytes } in
    let start = c.args.start in
    IfSome_then c.whole_source.result c.whole_source.ensures.pairs (λ at h k l.
    let q : ℕ = 8 * start + k in
    let own : is_ungoverned lower (q / 8) ≡ true = c.if-not-are_ungoverned.ensures (q / 8) (omega arith) (omega (arith, l)) in
    let same : at + (q - 8 * start) ≡ at + k = omega arith in
    if_true (is_ungoverned lower (q / 8)) (brought fs p bytes q) None own
    ∙ ap (option_map (bit bytes)) (h q (omega arith) (omega (arith, l)) ∙ ap (λ (n : ℕ). Some n) same))
