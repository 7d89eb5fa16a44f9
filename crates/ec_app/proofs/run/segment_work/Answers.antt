use Rattle.std.proofs.Common.{refl}
use Rattle.cmd_segment.specs.declared.endpoint.Endpoint.{Endpoint}
use Rattle.ec_app.proofs.WrongLemmas.{is_bound, live_work, still_work}
use Rattle.ec_app.proofs.run.segment_work.Goals as goal

pub returns-then-options : goal.returns-then-options
returns-then-options c =
    let o = c.args.options in
    let e : Endpoint = record { frames = o.frames; address = c.unwrap_or.result; port = o.port; descriptor = o.descriptor; idle = o.idle } in (
      e,
      record { frames = refl; bound = is_bound o.bind.now c.parse.result _ c.unwrap_or.result c.parse.ensures.value c.unwrap_or.ensures refl; port = refl; descriptor = refl },
      live_work o.live o.full c.args.explained o.strict e c.of-form.result c.of.result c.if-options.true c.of-form.ensures c.of.ensures,
    )

pub returns-else-options : goal.returns-else-options
returns-else-options c =
    let o = c.args.options in
    let e : Endpoint = record { frames = o.frames; address = c.unwrap_or.result; port = o.port; descriptor = o.descriptor; idle = o.idle } in (
      e,
      record { frames = refl; bound = is_bound o.bind.now c.parse.result _ c.unwrap_or.result c.parse.ensures.value c.unwrap_or.ensures refl; port = refl; descriptor = refl },
      still_work o.live o.full c.args.explained o.strict e c.of-form.result c.if-options.false c.of-form.ensures,
    )
