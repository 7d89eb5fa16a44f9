use Rattle.std.proofs.Common.{◌≤◌, sym, ℕ}
use Rattle.std.proofs.lemmas.List.Elements.{All-get_or}
use Rattle.ec_link.specs.Limits.{IsSize}
use Rattle.ec_link.proofs.EachFrom.{each_all}
use Rattle.ec_link.proofs.FaultTests.{sizes_count, outs_at, ins_at}
use Rattle.std.proofs.Common.{◌<◌, ◌++◌, ◌∙◌, List, [], ◌∷◌, ap, subst, length, get_or}
use Rattle.ec_table.specs.declared.rows.SlaveRow.{SlaveRow}
use Rattle.ec_link.specs.declared.settings.SlavePlan.{SlavePlan}
use Rattle.ec_link.specs.Sizes.{each_from}
use Rattle.ec_link.specs.Plan.{settings_at}
use Rattle.ec_link.proofs.EachFrom.{each_more}
use Rattle.ec_link.proofs.SlavesMade.{bits_at}
use Rattle.ec_link.proofs.plan.slaves_of.Goals as goal

pub loop-slave-preserved : goal.loop-slave-preserved
loop-slave-preserved c =
    let lt : c.loop-slave.slave < length c.args.table.now.slaves = subst (λ (rs : List SlaveRow). c.loop-slave.slave < length rs) c.slaves-row-items.ensures.value c.loop-slave-test.true in
    each_more (settings_at c.args.table.now c.args.parts.now c.args.seats.now) c.args.table.now.slaves c.loop-slave.found.items c.push.new.self.items
    (each_from (settings_at c.args.table.now c.args.parts.now c.args.seats.now) 0 c.args.table.now.slaves) c.loop-slave.slave c.row-item.result lt
    (c.row-item.is ∙ ap (λ (rs : List SlaveRow). get_or rs c.loop-slave.slave c.row-item.result) c.slaves-row-items.ensures.value)
    (c.in_ok-push.ensures.items ∙ ap (λ (x : SlavePlan). c.loop-slave.found.items ++ x ∷ []) c.in_ok-settings_at.ensures) c.loop-slave.invariant

pub returns : goal.returns
returns c =
    each_all (settings_at c.args.table.now c.args.parts.now c.args.seats.now) c.args.table.now.slaves c.loop-slave.found.items
    (each_from (settings_at c.args.table.now c.args.parts.now c.args.seats.now) 0 c.args.table.now.slaves) c.loop-slave.slave
    (subst (λ (rs : List SlaveRow). length rs ≤ c.loop-slave.slave) c.slaves-row-items.ensures.value c.loop-slave-test.false) c.loop-slave.invariant

pub settings_at-requires : goal.settings_at-requires
settings_at-requires c =
    let lt : c.loop-slave.slave < length c.args.table.now.slaves = subst (λ (rs : List SlaveRow). c.loop-slave.slave < length rs) c.slaves-row-items.ensures.value c.loop-slave-test.true in
    record {
      there = lt;
      seated = c.requires.seated;
      outs = outs_at c.args.table.now c.args.sizes.now c.loop-slave.slave _ c.requires.sizes lt;
      ins = ins_at c.args.table.now c.args.sizes.now c.loop-slave.slave _ c.requires.sizes lt;
      bits = bits_at c.args.table.now c.args.sizes.now c.loop-slave.slave _ c.requires.sizes lt;
      few = All-get_or IsSize c.args.sizes.now c.loop-slave.slave _ (subst (λ (n : ℕ). c.loop-slave.slave < n) (sym (sizes_count c.args.table.now c.args.sizes.now c.requires.sizes)) lt) c.requires.few;
    }
