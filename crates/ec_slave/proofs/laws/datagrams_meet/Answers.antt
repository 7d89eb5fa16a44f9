use Rattle.ec_slave.proofs.Commands.CommandLaws.{goes_on, datagrams_stay, datagrams_stay_past, writes_meet, reads_meet, logical_meet}
use Rattle.ec_slave.proofs.laws.datagrams_meet.Goals as goal

pub returns-clause-on : goal.returns-clause-on
returns-clause-on c = goes_on

pub returns-clause-stay : goal.returns-clause-stay
returns-clause-stay c = datagrams_stay

pub returns-clause-stay_past : goal.returns-clause-stay_past
returns-clause-stay_past c = datagrams_stay_past

pub returns-clause-writes : goal.returns-clause-writes
returns-clause-writes c = writes_meet

pub returns-clause-reads : goal.returns-clause-reads
returns-clause-reads c = reads_meet

pub returns-clause-logical : goal.returns-clause-logical
returns-clause-logical c = logical_meet
