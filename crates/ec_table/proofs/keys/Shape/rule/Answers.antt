use Rattle.std.proofs.Common.{◌∙◌, ap}
use Rattle.ec_table.specs.Keys.{keys_of}
use Rattle.ec_table.proofs.KeyPlaces.{rule_found}
use Rattle.ec_table.proofs.keys.Shape.rule.Goals as goal

pub returns-then-place-keys : goal.returns-then-place-keys
returns-then-place-keys c = rule_found c.args.self c.keys-keys.result.now c.args.place _ (c.keys-keys.ensures ∙ ap (keys_of c.args.self) c.full.ensures) c.if-place-keys.true
