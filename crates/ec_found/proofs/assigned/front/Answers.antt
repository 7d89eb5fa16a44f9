use Rattle.std.proofs.Common.{◌+◌, ◌≡◌, ◌∙◌, ◌++◌, [], ◌∷◌, ℕ, List, true, false, drop, ap, sym, subst}
use Rattle.ec_device.specs.declared.slave_type.Pdo.{Pdo}
use Rattle.ec_device.specs.Objects.{assigned_entries}
use Rattle.ec_device.specs.Types.{ArePdos}
use Rattle.ec_link.specs.Entries.{names_twice}
use Rattle.ec_found.specs.Founds.{front_behind, indices, takes}
use Rattle.ec_found.proofs.KeptPdos.{limits_push}
use Rattle.ec_found.proofs.Together.{front_taken, indices_push}
use Rattle.ec_found.proofs.assigned.front.Goals as goal

pub loop-pdo-preserved : goal.loop-pdo-preserved
loop-pdo-preserved c =
    let t : takes c.args.first c.loop-pdo.found c.pdo-item.result ≡ true =
    let a = c.takes.ensures in let b = c.as_slice.ensures in let d = c.if-not-takes.false in cc in
    let f : names_twice (assigned_entries c.args.all.now (c.loop-pdo.indices ++ c.pdo-item.result.index ∷ [])) ≡ false =
    let a = c.in_ok-is_repeated.ensures in let b = c.as_slice-in-loop-pdo.ensures in let d = c.if-branch.false in let e = c.in_ok-is_repeated.is in cc in
    let grown : c.push_copy.new.found ≡ c.loop-pdo.found ++ c.pdo-item.result ∷ [] = c.in_ok-push_copy.ensures in
    let named : c.push.new.self ≡ c.loop-pdo.indices ++ c.pdo-item.result.index ∷ [] = c.in_ok-push.ensures.ok in
    let taken = front_taken c.args.first c.args.all.now c.loop-pdo.found c.loop-pdo.indices c.loop-pdo.pdo-index c.pdo-item.result c.loop-pdo-test.true c.pdo-item.is c.loop-pdo.invariant.named t f in
    record {
      same = ap (λ (qs : List Pdo). front_behind c.args.first c.args.all.now qs (drop (c.loop-pdo.pdo-index + 1) c.args.all.now)) grown ∙ sym taken ∙ c.loop-pdo.invariant.same;
      named = named ∙ ap (λ (is : List ℕ). is ++ c.pdo-item.result.index ∷ []) c.loop-pdo.invariant.named ∙ sym (indices_push c.loop-pdo.found c.pdo-item.result) ∙ ap indices (sym grown);
      once = ap (λ (is : List ℕ). names_twice (assigned_entries c.args.all.now is)) named ∙ f;
      limits = subst (ArePdos c.args.first) (sym grown) (limits_push c.args.first c.loop-pdo.found c.pdo-item.result c.loop-pdo.invariant.limits t);
    }
