-- Remarks behind the lines of what lines of hex are printed as.
use Rattle.std.proofs.Common.{◌≡◌, ◌∙◌, List, Bool}
use Rattle.ec_decode.specs.Answers.{DecodesLines}
use Rattle.ec_decode.specs.FrameText.{Text}
use Rattle.ec_decode.specs.Indented.{without_indented}
use Rattle.ec_decode.specs.Laws.{TextsHaveNoIndentedLines}
use Rattle.ec_annotate.specs.Annotating.{Annotates, IsWoven}

pub annotated : (lines : List Text) (plain text : Text) (whole : Bool) → TextsHaveNoIndentedLines → DecodesLines lines plain whole → IsWoven plain text → without_indented text ≡ without_indented plain → Annotates lines text whole
annotated lines plain text whole law decodes woven same = (plain, decodes, woven, same ∙ law lines plain whole decodes)
