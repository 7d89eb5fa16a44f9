use Rattle.std.proofs.Common.{true, false, ap, length}
use Rattle.ec_asking.proofs.Answering.{is_pair, answer_at, of_answer, no_truth}
use Rattle.ec_asking.proofs.answer.answer_to.Goals as goal

pub returns-then-not-is_naming : goal.returns-then-not-is_naming
returns-then-not-is_naming c = λ p f h.
    let a = c.is_pair-has_two.ensures.0 c.if-not-has_two.false in
    let pair = is_pair c.args.payload.now c.in_ok-name.name c.in_ok-answer.answer c.new-places.result c.next_place.new.self a.0 a.1 a.2 (c.new-places.ensures.ahead a.0 a.1)
    c.in_ok-name.ensures.first c.in_ok-name.ensures.others c.in_ok-answer.ensures.first in
    let o = of_answer c.args.payload.now c.args.question c.args.count c.in_ok-name.name c.in_ok-answer.answer c.command-command.result (length c.content-bytes.result.now) pair p c.command-command.ensures (ap length c.content-bytes.ensures) f h in
    no_truth _ c.if-not-is_naming.true ((c.has_shape-is_naming.ensures true pair.first pair.good_first pair.there_first).1 o.name)

pub returns-then-not-is_named : goal.returns-then-not-is_named
returns-then-not-is_named c = λ p f h.
    let a = c.is_pair-has_two.ensures.0 c.if-not-has_two.false in
    let pair = is_pair c.args.payload.now c.in_ok-name.name c.in_ok-answer.answer c.new-places.result c.next_place.new.self a.0 a.1 a.2 (c.new-places.ensures.ahead a.0 a.1)
    c.in_ok-name.ensures.first c.in_ok-name.ensures.others c.in_ok-answer.ensures.first in
    let o = of_answer c.args.payload.now c.args.question c.args.count c.in_ok-name.name c.in_ok-answer.answer c.command-command.result (length c.content-bytes.result.now) pair p c.command-command.ensures (ap length c.content-bytes.ensures) f h in
    no_truth _ c.if-not-is_named.true ((c.is_name-is_named.ensures true pair.first pair.good_first pair.there_first).1 o.told)

pub returns-then-not-is_answer : goal.returns-then-not-is_answer
returns-then-not-is_answer c = λ p f h.
    let a = c.is_pair-has_two.ensures.0 c.if-not-has_two.false in
    let pair = is_pair c.args.payload.now c.in_ok-name.name c.in_ok-answer.answer c.new-places.result c.next_place.new.self a.0 a.1 a.2 (c.new-places.ensures.ahead a.0 a.1)
    c.in_ok-name.ensures.first c.in_ok-name.ensures.others c.in_ok-answer.ensures.first in
    let o = of_answer c.args.payload.now c.args.question c.args.count c.in_ok-name.name c.in_ok-answer.answer c.command-command.result (length c.content-bytes.result.now) pair p c.command-command.ensures (ap length c.content-bytes.ensures) f h in
    no_truth _ c.if-not-is_answer.true ((c.has_shape-is_answer.ensures false pair.datagram pair.good pair.there).1 o.asking)

pub returns : goal.returns
returns c =
    let a = c.is_pair-has_two.ensures.0 c.if-not-has_two.false in
    let pair = is_pair c.args.payload.now c.in_ok-name.name c.in_ok-answer.answer c.new-places.result c.next_place.new.self a.0 a.1 a.2 (c.new-places.ensures.ahead a.0 a.1)
    c.in_ok-name.ensures.first c.in_ok-name.ensures.others c.in_ok-answer.ensures.first in
    answer_at c.args.payload.now c.args.question c.args.count c.in_ok-name.name c.in_ok-answer.answer c.command-command.result (length c.content-bytes.result.now) pair c.command-command.ensures (ap length c.content-bytes.ensures)
    ((c.has_shape-is_naming.ensures true pair.first pair.good_first pair.there_first).0 c.if-not-is_naming.false)
    ((c.is_name-is_named.ensures true pair.first pair.good_first pair.there_first).0 c.if-not-is_named.false)
    ((c.has_shape-is_answer.ensures false pair.datagram pair.good pair.there).0 c.if-not-is_answer.false) c.in_ok-answer.ensures.within
