use Rattle.std.proofs.Common.{map}
use Rattle.clap.proofs.TakesLemmas.{passed_up}
use Rattle.clap.specs.Simple.{app_of}
use Rattle.clap.specs.Values.{kind_of}
use Rattle.ec_args.specs.Requests.{IsFault}
use Rattle.ec_args.proofs.RequestLemmas.{found_asks, missing_fault, none_wrong, refused_fault}
use Rattle.ec_args.proofs.request.read_request.Goals as goal

pub returns-in_err-matches-clause-fault : goal.returns-in_err-matches-clause-fault
returns-in_err-matches-clause-fault g c =
    passed_up c.from_residual-in_err-matches.result c.in_err-matches.field-0.0 (λ error. IsFault (map g.S.AsStr.text c.args.args.now) (kind_of error))
    c.from_residual-in_err-matches.ensures.1
    (refused_fault (app_of c.in_ok-command.command) _ c.in_err-matches.field-0.0 c.in_ok-command.ensures c.in_err-matches.ensures.kinds)

pub returns-in-Some-clause-faultless : goal.returns-in-Some-clause-faultless
returns-in-Some-clause-faultless g c = none_wrong (app_of c.in_ok-command.command) _ c.in_ok-command.ensures c.in_ok-matches.ensures.kinds

pub returns-clause-fault : goal.returns-clause-fault
returns-clause-fault g c =
    missing_fault (app_of c.in_ok-command.command) _ c.in_ok-matches.matches _ c.in_ok-command.ensures c.in_ok-matches.ensures.ok.2 c.in-None.ensures.none c.no_command.ensures

pub returns-in-Some-clause-found : goal.returns-in-Some-clause-found
returns-in-Some-clause-found g c =
    found_asks (app_of c.in_ok-command.command) _ c.in_ok-matches.matches c.in-Some.arguments c.in_ok-command.ensures c.in_ok-matches.ensures.ok.2 c.in-Some.ensures.some
