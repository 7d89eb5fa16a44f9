use Rattle.std.proofs.Common.{◌≡◌, ◌∙◌, List, ℕ, ◌++◌, ap, sym, subst, take, drop, suc, get_or}
use Rattle.std.specs.Io.KnownBytes.{Appends}
use Rattle.ec_capture.specs.Blocks.{block_bytes}
use Rattle.ec_capture.specs.Captures.{IsText, interface_block}
use Rattle.ec_capture.specs.Writing.{AppendsPart}
use Rattle.ec_capture.proofs.AppendedBytes.{appends_more, part_first, part_then, refused}
use Rattle.ec_capture.proofs.Named.{named, names_more, names_split, text_at}
use Rattle.ec_capture.proofs.recorder.write_interfaces.Goals as goal

pub write_interface-requires : goal.write_interface-requires
write_interface-requires g c =
    let text = g.S.AsStr.text in let xs = c.args.names.now in let k = c.loop-name.name-index in let d = c.name-item.result in
    let e : c.as_str.result.now ≡ text (get_or xs k d) = c.as_str.ensures ∙ ap text c.name-item.is in
    subst (λ (t : List ℕ). IsText t) (sym e) (text_at text xs k d c.loop-name-test.true c.requires)

pub returns-in_err-write_interface : goal.returns-in_err-write_interface
returns-in_err-write_interface g c =
    let text = g.S.AsStr.text in let xs = c.args.names.now in let k = c.loop-name.name-index in let d = c.name-item.result in
    let known = g.W.Write.contents in
    let e : c.as_str.result.now ≡ text (get_or xs k d) = c.as_str.ensures ∙ ap text c.name-item.is in
    let part = subst (λ (t : List ℕ). AppendsPart (known c.loop-name.file) (known c.write_interface.new.file) (block_bytes (interface_block t))) e c.in_err-write_interface.ensures.part in
    refused _ _ _ _ c.from_residual.ensures.0
    (subst (λ (bs : List ℕ). AppendsPart (known c.args.file.now) (known c.write_interface.new.file) bs) (sym (names_split text xs k d c.loop-name-test.true))
    (part_then (named text (take k xs)) (block_bytes (interface_block (text (get_or xs k d))) ++ named text (drop (suc k) xs)) _ _ _ c.loop-name.invariant (part_first _ _ _ _ part)))

pub loop-name-preserved : goal.loop-name-preserved
loop-name-preserved g c =
    let text = g.S.AsStr.text in let xs = c.args.names.now in let k = c.loop-name.name-index in let d = c.name-item.result in
    let known = g.W.Write.contents in
    let e : c.as_str.result.now ≡ text (get_or xs k d) = c.as_str.ensures ∙ ap text c.name-item.is in
    let all = subst (λ (t : List ℕ). Appends (known c.loop-name.file) (known c.write_interface.new.file) (block_bytes (interface_block t))) e c.in_ok-write_interface.ensures.all in
    subst (λ (bs : List ℕ). Appends (known c.args.file.now) (known c.write_interface.new.file) bs) (names_more text xs k d c.loop-name-test.true)
    (appends_more _ _ _ _ _ c.loop-name.invariant all)
