use Rattle.std.proofs.Common.{◌<◌, ◌^◌, ◌∙◌, ap, length, rules, sym}
use Rattle.ec_start.proofs.Answering.{number_read, no_number}
use Rattle.ec_start.proofs.answer.has_number.Goals as goal

pub returns-in-Some : goal.returns-in-Some
returns-in-Some c = λ more d good e.
    let fits : c.in-Some.name.number < 2 ^ 64 = search (rules) in
    number_read d.data_bytes c.in-Some.name c.args.number (sym (c.read_data.ensures more d good e) ∙ c.in-Some.ensures.name) fits c.ranges.number.fits

pub returns-in-None : goal.returns-in-None
returns-in-None c = λ more d good e. no_number d.data_bytes c.args.number (λ ten. c.in-None.ensures.none (ap length (c.read_data.ensures more d good e) ∙ ten))
