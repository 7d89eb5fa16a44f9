use Rattle.std.proofs.Common.{rules, arith}
use Rattle.std.proofs.lemmas.List.{places}
use Rattle.ec_bits.proofs.Numerals.{word_bits}
use Rattle.ec_bits.proofs.by_words.word_at.Goals as goal

pub returns : goal.returns
returns c = λ i l. word_bits c.copy_from_slice.new.self c.args.bytes.now c.args.at c.from_le_bytes.result i c.from_le_bytes.ensures
    (λ k h. search (rules, places)) (λ k. omega (arith, c.type_inv.bytes k)) l
