use Rattle.std.proofs.Common.{◌≡◌, ◌∙◌, true, false, inr, refl, ap, subst}
use Rattle.std.specs.contracts.io.ErrorKind.{the_type}
use Rattle.std.specs.declared.io.ErrorKind.TheVariants.{OutOfMemory}
use denote.Enum.Bare.{sameb}
use Rattle.ec_console.specs.Printing.{IsEprinted}
use Rattle.ec_app.proofs.program.eprint_unread.Goals as goal

pub returns-clause-eprints : goal.returns-clause-eprints
returns-clause-eprints g c =
    inr (
      λ is. let bad : false ≡ true = c.if-eq.ensures ∙ ap (λ kind. sameb the_type kind OutOfMemory) (c.kind.ensures ∙ is) in cc,
      refl,
      subst (λ text. IsEprinted text c.args.faults.now c.eprint_text.new.self) c.as_bytes.ensures.value c.eprint_text.ensures,
    )
