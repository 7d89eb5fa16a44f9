-- The control and status word of the port, by its bytes.
use Rattle.std.proofs.Common.{◌≡◌, ◌+◌, ◌*◌, ◌/◌, ◌%◌, Bool, true, false, refl, ap, arith}
use Rattle.std.specs.Int.{from_bool}
use Rattle.ec_regs.specs.Words.{sii_word}
use Rattle.ec_sii.specs.Port.{sii_byte}
use Rattle.ec_sii.specs.Laws.{StatusIsTheWord, CommandsAreTheWords}

by_bytes : (error busy : Bool) → 0 + 256 * (sii_word (from_bool busy) error busy / 256) ≡ sii_word (from_bool busy) error busy
by_bytes true true = refl
by_bytes true false = refl
by_bytes false true = refl
by_bytes false false = refl

pub status_law : StatusIsTheWord
unfolding sii_byte
status_law p = by_bytes p.error p.busy

pub command_law : CommandsAreTheWords
command_law low high few = let h : (low + 256 * high) / 256 ≡ high = omega (arith, few) in ap (λ n. n % 8) h
