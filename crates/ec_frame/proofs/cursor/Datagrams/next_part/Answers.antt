use Rattle.std.proofs.Common.{◌∷◌, []}
use Rattle.ec_frame.proofs.cursor.Datagrams.next_part.Goals as goal

pub returns-in_err-span-clause-some : goal.returns-in_err-span-clause-some
returns-in_err-span-clause-some c = λ d ds h. absurd (let e = (c.in_err-span.ensures.steps (d ∷ ds) h).0 in cc)

pub returns-clause-none : goal.returns-clause-none
returns-clause-none c = λ h. absurd (let e = (c.in_ok-span.ensures.steps [] h).0 in cc)
