use Rattle.std.proofs.Common.{ap, ◌∙◌, option_map}
use Rattle.toml.specs.Data.{get_member}
use Rattle.toml.specs.View.{members_view, view}
use Rattle.toml.proofs.Views.{view-lookup}
use Rattle.ec_table.proofs.KeysTaken.{others_stay}
use Rattle.ec_table.proofs.read.take_member.Goals as goal

pub returns-clause-value : goal.returns-clause-value
returns-clause-value c = ap (option_map view) c.remove.ensures.value ∙ view-lookup c.args.key.now c.args.document.now.entries

pub returns-clause-others : goal.returns-clause-others
returns-clause-others c = λ other apart. ap (λ es. get_member other (members_view es)) c.remove.ensures.entries ∙ others_stay other c.args.key.now c.args.document.now.entries apart
