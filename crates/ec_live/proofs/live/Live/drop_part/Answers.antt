use Rattle.std.proofs.Common.{◌∙◌, string_bytes, sym}
use Rattle.ec_console.specs.Unmet.{unmet_of}
use Rattle.ec_console.specs.declared.target.Said.{Said}
use Rattle.ec_live.proofs.Doing.{drops_of_part, drops_same, has_part, live_of, on_any, part_told, part_untold, some_part}
use Rattle.ec_live.proofs.live.Live.drop_part.Goals as goal

pub returns-then-drop_part-clause-said : goal.returns-then-drop_part-clause-said
returns-then-drop_part-clause-said c =
    let i = c.self.inside in
    let s = c.args.self.now in
    part_told c.tell.result (λ (v : Said). string_bytes v.text) (λ (v : Said). unmet_of v.is_unmet) c.args.count c.args.part s (live_of i.simulation c.drop_part.new.self i.answered i.refused) c.args.step.now
    (sym (has_part i.simulation i.drops i.answered i.refused c.args.part s c.drop_part.result c.self.view_is c.drop_part.ensures.there) ∙ c.if-drop_part.true)
    (drops_of_part i.simulation i.drops c.drop_part.new.self i.answered i.refused c.args.count c.args.part s c.self.view_is (c.drop_part.ensures.dropped c.if-drop_part.true)) c.tell.ensures

pub returns-then-drop_part-clause-unsaid : goal.returns-then-drop_part-clause-unsaid
returns-then-drop_part-clause-unsaid c =
    let i = c.self.inside in
    let s = c.args.self.now in
    on_any _ c.tell.result (some_part c.args.count c.args.part s (live_of i.simulation c.drop_part.new.self i.answered i.refused) c.args.step.now c.drop_part.result
    (has_part i.simulation i.drops i.answered i.refused c.args.part s c.drop_part.result c.self.view_is c.drop_part.ensures.there)
    (λ is. drops_of_part i.simulation i.drops c.drop_part.new.self i.answered i.refused c.args.count c.args.part s c.self.view_is (c.drop_part.ensures.dropped is))
    (λ is. drops_same i.simulation i.drops c.drop_part.new.self i.answered i.refused s c.self.view_is (c.drop_part.ensures.none is)))

pub returns-clause-said : goal.returns-clause-said
returns-clause-said c =
    let i = c.self.inside in
    let s = c.args.self.now in
    part_untold c.tell-2.result (λ (v : Said). string_bytes v.text) (λ (v : Said). unmet_of v.is_unmet) c.args.count c.args.part s (live_of i.simulation c.drop_part.new.self i.answered i.refused) c.args.step.now
    (sym (has_part i.simulation i.drops i.answered i.refused c.args.part s c.drop_part.result c.self.view_is c.drop_part.ensures.there) ∙ c.if-drop_part.false)
    (drops_same i.simulation i.drops c.drop_part.new.self i.answered i.refused s c.self.view_is (c.drop_part.ensures.none c.if-drop_part.false)) c.tell-2.ensures

pub returns-clause-unsaid : goal.returns-clause-unsaid
returns-clause-unsaid c =
    let i = c.self.inside in
    let s = c.args.self.now in
    on_any _ c.tell-2.result (some_part c.args.count c.args.part s (live_of i.simulation c.drop_part.new.self i.answered i.refused) c.args.step.now c.drop_part.result
    (has_part i.simulation i.drops i.answered i.refused c.args.part s c.drop_part.result c.self.view_is c.drop_part.ensures.there)
    (λ is. drops_of_part i.simulation i.drops c.drop_part.new.self i.answered i.refused c.args.count c.args.part s c.self.view_is (c.drop_part.ensures.dropped is))
    (λ is. drops_same i.simulation i.drops c.drop_part.new.self i.answered i.refused s c.self.view_is (c.drop_part.ensures.none is)))
