use Rattle.std.proofs.Common.{string_bytes}
use Rattle.ec_script.specs.declared.output.LineOutput.TheVariants.{Nothing}
use Rattle.ec_console.specs.Unmet.{unmet_of}
use Rattle.ec_console.specs.declared.target.Said.{Said}
use Rattle.ec_live.specs.Drops.{dropping}
use Rattle.ec_live.proofs.Doing.{drops_next, live_of, on_any, some_tells, tells_as}
use Rattle.ec_live.proofs.live.Live.drop_next.Goals as goal

pub returns-clause-said : goal.returns-clause-said
returns-clause-said c =
    let i = c.self.inside in
    let s = c.args.self.now in
    tells_as c.tell.result (λ (v : Said). string_bytes v.text) (λ (v : Said). unmet_of v.is_unmet) Nothing (record s { drops = dropping c.args.count s.drops }) (live_of i.simulation c.drop_next.new.self i.answered i.refused) c.args.step.now
    (drops_next i.simulation i.drops c.drop_next.new.self i.answered i.refused c.args.count s c.self.view_is c.drop_next.ensures) c.tell.ensures

pub returns-clause-unsaid : goal.returns-clause-unsaid
returns-clause-unsaid c =
    let i = c.self.inside in
    let s = c.args.self.now in
    on_any _ c.tell.result (some_tells Nothing (record s { drops = dropping c.args.count s.drops }) (live_of i.simulation c.drop_next.new.self i.answered i.refused) c.args.step.now
    (drops_next i.simulation i.drops c.drop_next.new.self i.answered i.refused c.args.count s c.self.view_is c.drop_next.ensures))
