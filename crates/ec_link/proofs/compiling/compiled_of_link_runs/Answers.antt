use Rattle.std.proofs.Common.{◌≡◌, ◌∙◌, Option, None, ap, subst, sym}
use Rattle.std.proofs.lemmas.List.Elements.{All-same}
use Rattle.std.specs.Prelude.{IfErr, OnOk}
use Rattle.ec_link.specs.declared.fault.LinkFault.{LinkFault}
use Rattle.ec_link.specs.Faults.{◌orelse◌, Fails}
use Rattle.ec_link.specs.Limits.{IsSize, fault_of_layout, fault_of_slaves}
use Rattle.ec_link.proofs.compiling.compiled_of_link_runs.Goals as goal

pub compiled_of_sizes-requires : goal.compiled_of_sizes-requires
compiled_of_sizes-requires c = record {
  slaves = c.in_ok-test_slaves.ensures.few;
  sizes = c.as_slice-2.ensures ∙ c.in_ok-sizes.ensures;
  fit = All-same IsSize _ _ (c.as_slice-2.ensures ∙ sym c.as_slice.ensures) c.in_ok-test_slaves.ensures.fit;
  link_runs = c.requires.link_runs;
  short = c.requires.short;
  there = c.requires.there;
}

pub returns : goal.returns
returns c =
    let same : fault_of_layout c.args.table.now ≡ fault_of_slaves c.args.table.now = sym (ap (λ (f : Option LinkFault). f orelse fault_of_layout c.args.table.now) c.in_ok-test_slaves.ensures.tested) in
    record {
      plan = c.compiled_of_sizes.ensures.plan;
      accepted = subst (λ (f : Option LinkFault). OnOk c.compiled_of_sizes.result (f ≡ None)) same c.compiled_of_sizes.ensures.accepted;
      fault = subst (λ (f : Option LinkFault). IfErr c.compiled_of_sizes.result (λ e. Fails e f)) same c.compiled_of_sizes.ensures.fault;
    }
