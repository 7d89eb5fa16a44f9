use Rattle.std.proofs.Common.{ℕ, ◌≡◌, ◌<◌, ◌≤◌, ◌+◌, ◌-◌, ◌*◌, ◌/◌, ◌∙◌, true, Option, Some, is_some, length, sym, ap, arith}
use Rattle.ec_bits.specs.Bits.{bit}
use Rattle.ec_slave.specs.ReadViews.{view_bit, view_under}
use Rattle.ec_slave.proofs.Memory.GovernorRuns.{run_copied, run_counts}
use Rattle.ec_slave.proofs.logical.reading.read_plain.Goals as goal

pub returns-clause-bits : goal.returns-clause-bits
returns-clause-bits c =
    let s = c.args.view.now in
    let sees = view_bit s.memory.now s.managers.now s.readable.now in
    let each : (i : ℕ) → c.args.to ≤ i → i < c.args.to + c.args.count → sees (c.args.physical + (i - c.args.to)) ≡ Some (bit s.memory.now (c.args.physical + (i - c.args.to)))
    = λ i a b. ap (view_under s.memory.now s.managers.now s.readable.now (c.args.physical + (i - c.args.to)))
    (c.requires.plain ((c.args.physical + (i - c.args.to)) / 8) (omega arith) (omega arith)) in
    c.copy_by_words.ensures ∙ run_copied c.args.bytes.now sees c.args.physical c.args.to c.args.count s.memory.now c.args.physical each

pub returns-clause-any : goal.returns-clause-any
returns-clause-any c =
    let s = c.args.view.now in
    let sees = view_bit s.memory.now s.managers.now s.readable.now in
    let one : is_some (sees c.args.physical) ≡ true
    = ap (λ (o : Option ℕ). is_some (view_under s.memory.now s.managers.now s.readable.now c.args.physical o)) (c.requires.plain (c.args.physical / 8) (omega arith) (omega arith)) in
    sym (run_counts (8 * length c.args.bytes.now) sees c.args.physical c.args.to c.args.count c.requires.some c.requires.run.1.0 one)
