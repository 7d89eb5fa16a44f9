use Rattle.ec_slave.proofs.FirmwareRuns.StepLaws.{messages_keep, messages_rest, requests_answered}
use Rattle.ec_slave.proofs.laws.messages_are_answered.Goals as goal

pub returns-clause-keep : goal.returns-clause-keep
returns-clause-keep c = messages_keep

pub returns-clause-rest : goal.returns-clause-rest
returns-clause-rest c = messages_rest

pub returns-clause-answered : goal.returns-clause-answered
returns-clause-answered c = requests_answered
