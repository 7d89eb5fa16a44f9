use Rattle.ec_card.proofs.PayloadsComeThrough.{one_payload}
use Rattle.ec_card.proofs.laws.payloads_have_one_reading.Goals as goal

pub returns : goal.returns
returns c = one_payload
