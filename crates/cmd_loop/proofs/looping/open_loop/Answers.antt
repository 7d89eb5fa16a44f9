use Rattle.std.proofs.Common.{inl, inr, refl}
use Rattle.cmd_loop.proofs.LoopLemmas.{if_unbound}
use Rattle.cmd_loop.proofs.looping.open_loop.Goals as goal

pub returns-in_err-slaves-clause-refused : goal.returns-in_err-slaves-clause-refused
returns-in_err-slaves-clause-refused g c = if_unbound _ _ c.from_residual.ensures.1 (inl refl)

pub returns-in_err-wire-clause-refused : goal.returns-in_err-wire-clause-refused
returns-in_err-wire-clause-refused g c = if_unbound _ _ c.from_residual-in_err-wire.ensures.1 (inr tt)
