use Rattle.std.proofs.Common.{Bool, List, ℕ, sym, subst}
use Rattle.ec_console.specs.Printing.{IsEprinted}
use Rattle.ec_app.specs.Running.{Announces}
use Rattle.ec_app.proofs.run.announce.Goals as goal

pub returns-then-is_waiting : goal.returns-then-is_waiting
returns-then-is_waiting g c =
    subst (λ (b : Bool). Announces b c.args.faults.now c.eprint_text.new.self) (sym c.if-is_waiting.true)
    (subst (λ (text : List ℕ). IsEprinted text c.args.faults.now c.eprint_text.new.self) c.as_bytes.ensures.value c.eprint_text.ensures)
