use Rattle.std.proofs.Common.{◌≡◌, ◌∙◌, Option, None, ap, subst, sym}
use Rattle.std.proofs.lemmas.List.Elements.{All-same}
use Rattle.std.specs.Prelude.{IfErr, OnOk}
use Rattle.ec_link.specs.declared.fault.LinkFault.{LinkFault}
use Rattle.ec_link.specs.Faults.{◌orelse◌, Fails, compile_fault}
use Rattle.ec_link.specs.Limits.{IsShortRun, HasVariable, fault_of_slaves}
use Rattle.ec_link.proofs.compiling.compiled_of_objects.Goals as goal

pub compiled_of_link_runs-requires : goal.compiled_of_link_runs-requires
compiled_of_link_runs-requires c = record {
  known = c.requires;
  link_runs = c.as_slice.ensures ∙ c.in_ok-link_runs.ensures.link_runs;
  short = All-same IsShortRun _ _ c.as_slice.ensures c.in_ok-link_runs.ensures.few;
  there = All-same (HasVariable c.args.table.now.variables) _ _ c.as_slice.ensures c.in_ok-link_runs.ensures.there;
}

pub returns : goal.returns
unfolding compile_fault
returns c =
    let same : fault_of_slaves c.args.table.now ≡ compile_fault c.args.table.now = sym (ap (λ (f : Option LinkFault). f orelse fault_of_slaves c.args.table.now) c.in_ok-test_links.ensures.accepted) in
    record {
      plan = c.compiled_of_link_runs.ensures.plan;
      accepted = subst (λ (f : Option LinkFault). OnOk c.compiled_of_link_runs.result (f ≡ None)) same c.compiled_of_link_runs.ensures.accepted;
      fault = subst (λ (f : Option LinkFault). IfErr c.compiled_of_link_runs.result (λ e. Fails e f)) same c.compiled_of_link_runs.ensures.fault;
    }
