use Rattle.std.proofs.Common.{arith}
use Rattle.ec_frame.proofs.Numbers.{number_most}
use Rattle.ec_decode.proofs.Places.{whole_found}
use Rattle.ec_decode.proofs.located.whole_length.Goals as goal

pub returns-clause-found : goal.returns-clause-found
returns-clause-found c =
    whole_found c.args.bytes.now c.length_at-len.result (λ i. omega (arith, c.type_inv.bytes i)) (omega arith) c.length_at-len.ensures (omega arith)
    (omega (arith, c.in_ok-_command.ensures.found, number_most c.in_ok-_command._command))
