use Rattle.std.proofs.Common.{ℕ, List, ◌++◌, ap, ◌∙◌, arith}
use Rattle.byteorder.specs.Endian.{little_bytes}
use Rattle.ec_frame.proofs.Numbers.{all_append, all_bytes, word_bytes}
use Rattle.ec_decode.proofs.ReaderFields.{four_parts}
use Rattle.ec_decode.proofs.begun.payload_of.Goals as goal

pub returns-clause-parts : goal.returns-clause-parts
returns-clause-parts c = four_parts _ _ _ _ _ (little_bytes 2 c.args.header) c.args.area.now c.args.last.now c.args.rest.now c.new-payload.ensures.items (c.in_ok-extend_from_slice.ensures.items ∙ ap (λ (xs : List ℕ). c.new-payload.result.items ++ xs) c.to_le_bytes.ensures) c.in_ok-extend_from_slice-2.ensures.items c.in_ok-extend_from_slice-3.ensures.items c.in_ok-extend_from_slice-4.ensures.items

pub returns-clause-bytes : goal.returns-clause-bytes
returns-clause-bytes c =
    let parts = returns-clause-parts c in
    rw parts (all_append (little_bytes 2 c.args.header) _ (word_bytes c.args.header) (all_append c.args.area.now _ (all_bytes c.args.area.now (λ i. omega (arith, c.type_inv.area i))) (all_append c.args.last.now c.args.rest.now (all_bytes c.args.last.now (λ i. omega (arith, c.type_inv.last i))) (all_bytes c.args.rest.now (λ i. omega (arith, c.type_inv.rest i))))))
