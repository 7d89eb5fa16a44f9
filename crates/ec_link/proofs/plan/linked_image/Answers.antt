use Rattle.std.proofs.Common.{◌∙◌, ap}
use Rattle.std.proofs.lemmas.List.Elements.{All-same}
use Rattle.ec_table.specs.declared.rows.Direction.TheVariants.{Out, In}
use Rattle.ec_link.specs.Image.{image, image_bits}
use Rattle.ec_link.specs.Limits.{IsPlacedLow}
use Rattle.ec_link.proofs.plan.linked_image.Goals as goal

pub returns : goal.returns
returns c = record {
  variables = c.in_ok-image.ensures.variables ∙ ap image c.variables.ensures.value;
  outs = c.in_ok-image.ensures.outs ∙ ap (image_bits Out) c.variables.ensures.value;
  ins = c.in_ok-image.ensures.ins ∙ ap (image_bits In) c.variables.ensures.value;
  out_links = c.in_ok-out_links.ensures;
  in_links = c.in_ok-in_links.ensures;
}

pub links_toward-requires : goal.links_toward-requires
links_toward-requires c = record {
  variables = c.as_slice-variables.ensures ∙ c.in_ok-image.ensures.variables ∙ ap image c.variables.ensures.value;
  low = All-same IsPlacedLow _ _ c.as_slice-variables.ensures c.in_ok-image.ensures.low;
  link_runs = c.requires.link_runs;
  there = c.requires.there;
  few = c.requires.few;
}
