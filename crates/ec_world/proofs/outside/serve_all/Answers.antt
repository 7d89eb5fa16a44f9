use Rattle.std.proofs.Common.{◌≡◌, ◌<◌, ◌∙◌, ap, arith, length, refl}
use Rattle.ec_world.proofs.ServedAll.{as_many, served_all, served_next}
use Rattle.ec_world.proofs.outside.serve_all.Goals as goal

pub slave_mut-requires : goal.slave_mut-requires
slave_mut-requires c =
    let size = ap length c.loop-place.invariant.served ∙ as_many c.loop-place.place c.args.ring.now in
    let here = c.loop-place-test.true in
    let end = c.loop-place.invariant.end in
    omega (arith, size, here, end)

pub loop-place-preserved : goal.loop-place-preserved
loop-place-preserved c = record {
  served = served_next c.loop-place.place c.args.ring.now c.loop-place.ring _ c.slave_mut.result.now c.serve.new.self c.loop-place.invariant.served c.slave_mut.ensures.value c.serve.ensures refl;
  end = c.loop-place.invariant.end;
}

pub returns : goal.returns
returns c =
    let done = c.loop-place-test.false in
    let end = c.loop-place.invariant.end in
    c.loop-place.invariant.served ∙ served_all c.loop-place.place c.args.ring.now (omega (arith, done, end))
