use Rattle.std.proofs.Common.{string_bytes}
use Rattle.std.proofs.lemmas.Result.{on_ok_weaker}
use Rattle.ec_decode.specs.FrameText.{newline}
use Rattle.ec_decode.proofs.Lines.{heading_of_parts, pushed}
use Rattle.ec_decode.proofs.frame.write_heading.Goals as goal

pub returns : goal.returns
returns c =
    on_ok_weaker c.push_str.result
    (heading_of_parts c.args.count c.args.reserved c.args.rest.now _ _ _ _ _ c.in_ok-write.ensures.bytes c.in_ok-write_reserved.ensures c.in_ok-write_rest.ensures)
    (pushed c.push_str.result (string_bytes c.push_str.new.self) (string_bytes c.write_rest.new.text) newline c.push_str.ensures.bytes)
