use Rattle.std.proofs.Common.{◌≡◌, ◌==◌, false, arith}
use Rattle.std.proofs.lemmas.Bool.{ne_eqb}
use Rattle.ec_scan.proofs.Flags.{coe_bit}
use Rattle.ec_scan.proofs.shown.ShownMailbox.speaks_coe.Goals as goal

pub returns-then-self-gt0 : goal.returns-then-self-gt0
returns-then-self-gt0 c =
    let some = c.if-self-gt0.true in
    let f : (c.args.self.now.place.receive_size == 0) ≡ false = ne_eqb c.args.self.now.place.receive_size 0 (λ z. omega (arith, z, some)) in
    rw f (coe_bit c.args.self.now.protocols)
