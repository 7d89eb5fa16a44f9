-- The names of states.
use Rattle.std.proofs.Common.{refl}
use Rattle.ec_al.specs.States.{state_named}
use Rattle.ec_al.specs.Laws.{NamesReadBack}
use Rattle.ec_al.specs.declared.state.State.TheVariants.{Init, PreOp, SafeOp, Op}

pub names_read_back : NamesReadBack
unfolding state_named
names_read_back Init = refl
names_read_back PreOp = refl
names_read_back SafeOp = refl
names_read_back Op = refl
