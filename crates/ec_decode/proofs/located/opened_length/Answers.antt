use Rattle.std.proofs.Common.{Option, None, Some, IfNone}
use Rattle.ec_decode.proofs.Places.{none_opened}
use Rattle.ec_decode.proofs.located.opened_length.Goals as goal

any_none : {X : Type 0} {P : Type 0} (o : Option X) → P → IfNone o P
any_none None p = p
any_none (Some x) p = tt

pub returns-in_err-len-clause-none : goal.returns-in_err-len-clause-none
returns-in_err-len-clause-none c = any_none c.from_residual.result (none_opened c.args.bytes.now c.in_err-len.ensures.none)
