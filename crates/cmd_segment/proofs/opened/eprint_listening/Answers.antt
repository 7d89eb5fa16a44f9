use Rattle.std.proofs.Common.{◌∙◌, ℕ, List, subst}
use Rattle.ec_console.specs.Printing.{IsEprinted}
use Rattle.cmd_segment.proofs.opened.eprint_listening.Goals as goal

pub returns : goal.returns
returns g c =
    subst (λ (text : List ℕ). IsEprinted text c.args.faults.now c.eprint_text.new.self) (c.as_bytes.ensures.value ∙ (c.deref.ensures.0 ∙ c.listening-line.ensures)) c.eprint_text.ensures
