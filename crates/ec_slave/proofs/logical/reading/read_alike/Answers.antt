use Rattle.std.proofs.Common.{◌∙◌, sym}
use Rattle.ec_slave.proofs.logical.reading.read_alike.Goals as goal

pub read_plain-requires-clause-plain : goal.read_plain-requires-clause-plain
read_plain-requires-clause-plain c = λ a lo hi. c.requires.alike a lo hi ∙ (sym c.governor.ensures.value ∙ c.in-None.is)

pub read_value-requires-clause-governed : goal.read_value-requires-clause-governed
read_value-requires-clause-governed c = λ a lo hi. c.requires.alike a lo hi ∙ (sym c.governor.ensures.value ∙ c.in-Some.is)

pub read_value-requires-clause-front : goal.read_value-requires-clause-front
read_value-requires-clause-front c = λ a lo hi.
    c.requires.front c.in-Some.place a (sym c.governor.ensures.value ∙ c.in-Some.is) lo hi

pub read_plain-requires-clause-run : goal.read_plain-requires-clause-run
read_plain-requires-clause-run c = c.requires.run

pub read_value-requires-clause-run : goal.read_value-requires-clause-run
read_value-requires-clause-run c = c.requires.run

pub returns-in-None-clause-any : goal.returns-in-None-clause-any
returns-in-None-clause-any c = c.read_plain.ensures.any

pub returns-in-None-clause-bits : goal.returns-in-None-clause-bits
returns-in-None-clause-bits c = c.read_plain.ensures.bits

pub returns-in-Some-clause-any : goal.returns-in-Some-clause-any
returns-in-Some-clause-any c = c.read_value.ensures.any

pub returns-in-Some-clause-bits : goal.returns-in-Some-clause-bits
returns-in-Some-clause-bits c = c.read_value.ensures.bits
