use Rattle.std.proofs.Common.{◌≡◌, ◌∙◌, List, ℕ, ◌++◌, sym, subst, take, drop, suc, get_or}
use Rattle.std.specs.List.{flat_map}
use Rattle.std.specs.Io.KnownBytes.{Appends}
use Rattle.ec_capture.specs.Blocks.{number}
use Rattle.ec_capture.specs.Writing.{AppendsPart}
use Rattle.ec_capture.proofs.AppendedBytes.{appends_more, part_first, part_then, refused}
use Rattle.ec_capture.proofs.BlockBytes.{number_spelled, numbers_more, numbers_split}
use Rattle.ec_capture.proofs.blocks.write_numbers.Goals as goal

pub returns-in_err-write_bytes : goal.returns-in_err-write_bytes
returns-in_err-write_bytes g c =
    let ns = c.args.numbers.now in let k = c.loop-number.number-index in
    let known = g.W.Write.contents in
    let spelled : c.to_le_bytes.result ≡ number (get_or ns k 0) = c.to_le_bytes.ensures ∙ number_spelled (get_or ns k 0) in
    let part = subst (λ (xs : List ℕ). AppendsPart (known c.loop-number.file) (known c.write_bytes.new.file) xs) spelled c.in_err-write_bytes.ensures.part in
    refused _ _ _ _ c.from_residual.ensures.0
    (subst (λ (xs : List ℕ). AppendsPart (known c.args.file.now) (known c.write_bytes.new.file) xs) (sym (numbers_split ns k c.loop-number-test.true))
    (part_then (flat_map number (take k ns)) (number (get_or ns k 0) ++ flat_map number (drop (suc k) ns)) _ _ _ c.loop-number.invariant (part_first _ _ _ _ part)))

pub loop-number-preserved : goal.loop-number-preserved
loop-number-preserved g c =
    let ns = c.args.numbers.now in let k = c.loop-number.number-index in
    let known = g.W.Write.contents in
    let spelled : c.to_le_bytes.result ≡ number (get_or ns k 0) = c.to_le_bytes.ensures ∙ number_spelled (get_or ns k 0) in
    let all = subst (λ (xs : List ℕ). Appends (known c.loop-number.file) (known c.write_bytes.new.file) xs) spelled c.in_ok-write_bytes.ensures.all in
    subst (λ (xs : List ℕ). Appends (known c.args.file.now) (known c.write_bytes.new.file) xs) (numbers_more ns k c.loop-number-test.true)
    (appends_more _ _ _ _ _ c.loop-number.invariant all)
