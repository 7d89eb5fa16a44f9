use Rattle.std.proofs.Common.{◌≡◌, ◌++◌, take}
use Rattle.ec_script.proofs.tasks.push_bytes.Given as goal

abbrev pub invariant-loop-byte : goal.invariant-loop-byte
invariant-loop-byte l = l.text ≡ l.initial.text ++ take l.byte-index l.bytes
