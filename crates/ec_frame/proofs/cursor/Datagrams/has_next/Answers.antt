use Rattle.ec_frame.proofs.Lending.{ends, more}
use Rattle.ec_frame.proofs.cursor.Datagrams.has_next.Goals as goal

pub returns-clause-ahead : goal.returns-clause-ahead
returns-clause-ahead c = λ bytes p past rest h. ends bytes c.args.self.now p past rest h

pub returns-clause-more : goal.returns-clause-more
returns-clause-more c = λ bytes p past rest h on. more bytes c.args.self.now p past rest h on
