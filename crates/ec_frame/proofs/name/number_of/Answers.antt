use Rattle.std.proofs.Common.{arith, sym}
use Rattle.std.proofs.lemmas.Nat.{le_bytes_8}
use Rattle.ec_frame.proofs.name.number_of.Goals as goal

pub returns : goal.returns
returns c =
    let copy = c.copy_from_slice.ensures.after in
    sym (le_bytes_8 c.args.bytes.now c.from_le_bytes.result c.requires (λ i. omega (arith, c.type_inv.bytes i)) (rw copy at c.from_le_bytes.ensures))
