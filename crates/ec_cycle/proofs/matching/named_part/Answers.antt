use Rattle.std.proofs.Common.{ℕ, ◌<◌, ◌^◌, Option, Some, rules, subst, sym}
use Rattle.ec_cycle.specs.Matching.{Names}
use Rattle.ec_cycle.proofs.Comparing.{reads_name, reads_none}
use Rattle.ec_cycle.proofs.matching.named_part.Goals as goal

pub returns-in_err-name : goal.returns-in_err-name
returns-in_err-name c = record { named = λ o h. subst (λ (r : Option ℕ). Names o r) (sym c.from_residual.ensures) (reads_none o c.data_at.result.now (c.data_at.ensures o h) c.in_err-name.ensures.none) }

pub returns : goal.returns
returns c = record {
  named = λ o h.
      let fits : c.in_ok-name.name.part < 2 ^ 16 = search (rules) in
      subst (λ (k : ℕ). Names o (Some k)) (sym c.from.ensures) (reads_name o c.data_at.result.now c.in_ok-name.name (c.data_at.ensures o h) c.in_ok-name.ensures.name fits);
}
