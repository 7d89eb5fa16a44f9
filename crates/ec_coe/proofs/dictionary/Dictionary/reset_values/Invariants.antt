use Rattle.std.proofs.Common.{◌≡◌, length}
use Rattle.ec_coe.proofs.Resetting.{Reset}
use Rattle.ec_coe.proofs.dictionary.Dictionary.reset_values.Given as goal

abbrev pub invariant-loop-place : goal.invariant-loop-place
invariant-loop-place l = record { reset : Reset l.initial.self l.self l.place; end : l.place-end ≡ length l.self.values }
