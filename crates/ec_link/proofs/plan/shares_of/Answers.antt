use Rattle.std.proofs.Common.{◌+◌, ap, arith, ℕ}
use Rattle.ec_link.proofs.Shares.{write_more, read_more}
use Rattle.ec_link.proofs.plan.shares_of.Goals as goal

pub loop-slave-preserved : goal.loop-slave-preserved
loop-slave-preserved c = record {
  write_rest = write_more c.args.slaves.now c.args.part c.loop-slave.slave-index c.loop-slave.write _ c.slave-item.result c.loop-slave-test.true c.slave-item.is (ap (λ (n : ℕ). c.loop-slave.write + n) c.counted-write.ensures.value) c.loop-slave.invariant.write_rest;
  read_rest = read_more c.args.slaves.now c.args.part c.loop-slave.slave-index c.loop-slave.read _ c.slave-item.result c.loop-slave-test.true c.slave-item.is (ap (λ (n : ℕ). c.loop-slave.read + n) c.counted-read.ensures.value) c.loop-slave.invariant.read_rest;
  few_write = omega (arith, c.counted-write.ensures.few);
  few_read = omega (arith, c.counted-read.ensures.few);
}
