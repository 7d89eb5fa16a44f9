use Rattle.std.proofs.Common.{◌∙◌, ap, arith}
use Rattle.ec_link.specs.Layout.{layout}
use Rattle.ec_link.proofs.compiling.compiled_of_sizes.Goals as goal

pub planned-requires : goal.planned-requires
planned-requires c = record {
  slaves = c.requires.slaves;
  used = c.in_ok-used.ensures;
  parts = omega (arith, c.in_ok-test_layout.ensures.few);
  sizes = c.requires.sizes;
  fit = c.requires.fit;
  layout = c.in_ok-laid.ensures ∙ ap layout c.requires.sizes;
  link_runs = c.requires.link_runs;
  short = c.requires.short;
  there = c.requires.there;
}

pub returns : goal.returns
returns c = record { plan = c.in_ok-planned.ensures; accepted = c.in_ok-test_layout.ensures.accepted; fault = tt }
