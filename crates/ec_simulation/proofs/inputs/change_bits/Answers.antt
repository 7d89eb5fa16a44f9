use Rattle.std.proofs.Common.{◌∙◌, sym}
use Rattle.ec_simulation.proofs.InputPuts.{link_done, link_passed, links_end, links_more}
use Rattle.ec_simulation.proofs.inputs.change_bits.Goals as goal
use Rattle.ec_simulation.proofs.inputs.change_bits.Goals.{then-is_to, else-is_to}

pub loop-link-preserved : goal.loop-link-preserved
loop-link-preserved c =
    elim c.if-is_to.branch [
      | then-is_to w ↦
          links_more c.args.variable c.args.value c.args.slave c.args.links.now c.loop-link.link-index _ c.loop-link.bytes c.if-is_to.bytes _ c.loop-link-test.true c.loop-link.invariant
          (link_done c.args.variable c.args.value c.args.slave _ c.loop-link.bytes c.if-is_to.bytes (sym c.is_to.ensures ∙ w.if-is_to.true)
          (w.bytes-is ∙ (rw w.to_le_bytes.ensures at w.copy_bits.ensures.bits)))
      | else-is_to w ↦
          links_more c.args.variable c.args.value c.args.slave c.args.links.now c.loop-link.link-index _ c.loop-link.bytes c.if-is_to.bytes _ c.loop-link-test.true c.loop-link.invariant
          (link_passed c.args.variable c.args.value c.args.slave _ c.loop-link.bytes c.if-is_to.bytes (sym c.is_to.ensures ∙ w.if-is_to.false) w.bytes-is)
    ]

pub returns : goal.returns
returns c =
    links_end c.args.variable c.args.value c.args.slave c.args.links.now c.loop-link.link-index c.loop-link.bytes _ c.loop-link-test.false c.loop-link.invariant
