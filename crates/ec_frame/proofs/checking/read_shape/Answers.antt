use Rattle.std.proofs.Common.{ℕ, List, leb, refl, ap, ◌∙◌, arith}
use Rattle.std.proofs.lemmas.List.{take_rest}
use Rattle.byteorder.specs.Endian.{little_number}
use Rattle.ec_frame.proofs.Numbers.{known_command, unknown_command}
use Rattle.ec_frame.proofs.Shapes.{shape_found, bad_command, bad_more}
use Rattle.ec_frame.proofs.checking.read_shape.Goals as goal

pub returns-then-is_none : goal.returns-then-is_none
returns-then-is_none c =
    let bytes = c.args.rest.now in
    let w = c.read_u16-flags.result in
    let is = c.read_u16-flags.ensures ∙ ap (λ (xs : List ℕ). little_number 2 xs) (take_rest bytes 6) in
    let more = leb 32768 w in
    bad_command bytes w c.from-len.result more (λ i. omega (arith, c.type_inv.rest i)) is (omega arith) refl (omega arith) (omega arith)
    (unknown_command c.from_number.result c.is_none.result _ c.from_number.ensures.unknown c.is_none.ensures c.if-is_none.true)

pub returns-then-is_last-rest : goal.returns-then-is_last-rest
returns-then-is_last-rest c =
    let bytes = c.args.rest.now in
    let is = c.read_u16-flags.ensures ∙ ap (λ (xs : List ℕ). little_number 2 xs) (take_rest bytes 6) in
    bad_more bytes c.read_u16-flags.result c.from-len.result c.says_more-is_last.result (λ i. omega (arith, c.type_inv.rest i)) is (omega arith) c.says_more-is_last.ensures (omega arith) (omega arith)
    (known_command c.from_number.result c.is_none.result _ c.from_number.ensures.found c.is_none.ensures c.if-is_none.false) c.if-is_last-rest.true

pub returns : goal.returns
returns c =
    let bytes = c.args.rest.now in
    let is = c.read_u16-flags.ensures ∙ ap (λ (xs : List ℕ). little_number 2 xs) (take_rest bytes 6) in
    shape_found bytes c.read_u16-flags.result c.from-len.result c.says_more-is_last.result (λ i. omega (arith, c.type_inv.rest i)) is (omega arith) c.says_more-is_last.ensures (omega arith) (omega arith)
    (known_command c.from_number.result c.is_none.result _ c.from_number.ensures.found c.is_none.ensures c.if-is_none.false) c.if-is_last-rest.false
