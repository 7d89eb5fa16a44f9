use Rattle.std.proofs.Common.{ℕ, ◌≡◌, ◌+◌, ◌*◌, ◌∙◌, Bool, Option, List, length, ap}
use Rattle.ec_bits.specs.Bits.{overlay, zeros}
use Rattle.ec_fmmu.specs.Applied.{LogicalSpan}
use Rattle.ec_slave.specs.Logical.{plain_bit}
use Rattle.ec_slave.proofs.logical.managers.Bits.bring.Goals as goal

pub returns : goal.returns
returns c =
    let me = c.args.self.now in
    let p : LogicalSpan = record { from = me.from; bits = 8 * length me.bytes.now } in
    let told : ℕ → Option Bool = λ k. plain_bit me.lower.now me.fmmus.now p me.bytes.now (8 * c.args.start + k) in
    let zero : c.fill.new.self ≡ zeros (length c.args.value.now) = c.fill.ensures.after (λ y e. e) in
    c.apply_write.ensures.bits ∙ ap (λ (xs : List ℕ). overlay xs told) zero
