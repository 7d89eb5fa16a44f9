use Rattle.std.proofs.Common.{◌∙◌, ap, string_bytes}
use Rattle.ec_script.specs.declared.line.LineAction.TheVariants as act
use Rattle.ec_console.specs.Unmet.{unmet_of}
use Rattle.ec_console.specs.declared.target.Said.{Said}
use Rattle.ec_live.specs.State.{LiveState}
use Rattle.ec_live.proofs.Doing.{on_any, on_err, said_else, says_as, some_served, unsaid_else}
use Rattle.ec_live.proofs.live.LiveTarget.obey.Goals as goal

pub returns-in-Served-clause-unsaid : goal.returns-in-Served-clause-unsaid
returns-in-Served-clause-unsaid c =
    let s = c.args.self.now in
    let line = c.args.step.now in
    let some = some_served s line line.expects_no in
    on_any _ c.tell_served.result (some.0, some.1, says_as line.action act.Served s s line some.0 some.1 c.in-Served.is some.2)

pub returns-in-Lose-clause-unsaid : goal.returns-in-Lose-clause-unsaid
returns-in-Lose-clause-unsaid c =
    let s = c.args.self.now in
    let line = c.args.step.now in
    on_err _ _ c.drop_next.result
    (λ h. (h.0, h.1, says_as line.action (act.Lose c.in-Lose.count) s c.drop_next.new.self line h.0 h.1 c.in-Lose.is h.2)) c.drop_next.ensures.unsaid

pub returns-in-LosePart-clause-unsaid : goal.returns-in-LosePart-clause-unsaid
returns-in-LosePart-clause-unsaid c =
    let s = c.args.self.now in
    let line = c.args.step.now in
    on_err _ _ c.drop_part.result
    (λ h. (h.0, h.1, says_as line.action (act.LosePart c.in-LosePart.count c.in-LosePart.part) s c.drop_part.new.self line h.0 h.1 c.in-LosePart.is h.2)) c.drop_part.ensures.unsaid

pub returns-in_default : goal.returns-in_default
returns-in_default c =
    let i = c.self.inside in
    let s = c.args.self.now in
    let not = c.in_default in
    record {
      said = said_else _ c.obey.result (λ (v : Said). string_bytes v.text) (λ (v : Said). unmet_of v.is_unmet) i.simulation c.obey.new.self i.drops i.answered i.refused s c.args.step.now c.self.view_is
          not.not-Lose not.not-LosePart not.not-Served c.obey.ensures.said;
      unsaid = unsaid_else _ c.obey.result i.simulation c.obey.new.self i.drops i.answered i.refused s c.args.step.now c.self.view_is not.not-Lose not.not-LosePart not.not-Served c.obey.ensures.unsaid;
      table = c.obey.ensures.table ∙ ap (λ (x : LiveState). x.table) c.self.view_is;
    }
