use Rattle.std.proofs.Common.{◌∙◌, rules}
use Rattle.std.proofs.lemmas.Iterator.{YieldsList-from_slice}
use Rattle.std.proofs.lemmas.Iterator.Search.{find_from_yields_List}
use Rattle.ec_script.specs.declared.line.LineAction.{LineAction}
use Rattle.ec_script.specs.Tasks.{is_unsettable}
use Rattle.ec_script.proofs.tasks.unsettable_of.Goals as goal

pub returns : goal.returns
returns c =
    let yields = YieldsList-from_slice _ c.iter.ensures.rest in
    c.copied.ensures ∙ find_from_yields_List (λ (a : LineAction). is_unsettable c.args.table.now.variables a) _ _ c.find.result c.find.ensures.ran yields (λ x b q k. search rules)
