use Rattle.std.proofs.Common.{◌≡◌, [], true, false, ap}
use Rattle.ec_start.specs.Running.{Shape}
use Rattle.ec_start.proofs.Answering.{is_pair, second_ahead, answer_at, of_answer, no_truth}
use Rattle.ec_start.proofs.answer.answer_in.Goals as goal

pub returns-in_err-answer : goal.returns-in_err-answer
returns-in_err-answer c =
    let a = c.is_pair-has_two.ensures.0 c.if-not-has_two.false in
    let t = second_ahead c.args.payload.now c.new-datagrams.result c.next_part.new.self a.0.datagrams a.2 (c.new-datagrams.ensures.ahead a.0 a.1) c.in_ok-name.ensures.others in
    absurd (let e : false ≡ true = c.in_err-answer.ensures.some t.0 [] t.1 in cc)

pub returns-then-not-is_named : goal.returns-then-not-is_named
returns-then-not-is_named c = λ p f h.
    let a = c.is_pair-has_two.ensures.0 c.if-not-has_two.false in
    let pair = is_pair c.args.payload.now c.in_ok-name.name.now c.in_ok-answer.answer.now c.new-datagrams.result c.next_part.new.self a.0 a.1 a.2 (c.new-datagrams.ensures.ahead a.0 a.1)
    c.in_ok-name.ensures.first c.in_ok-name.ensures.others c.in_ok-answer.ensures.first in
    let o = of_answer c.args.payload.now c.args.action.now c.args.number c.in_ok-name.name.now c.in_ok-answer.answer.now c.command-command.result c.data_length-bytes.result pair p c.command-command.ensures c.data_length-bytes.ensures.value f h in
    no_truth _ c.if-not-is_named.true ((c.has_shape-is_named.ensures true pair.first pair.good_first pair.there_first).1 o.name)

pub returns-then-not-is_numbered : goal.returns-then-not-is_numbered
returns-then-not-is_numbered c = λ p f h.
    let a = c.is_pair-has_two.ensures.0 c.if-not-has_two.false in
    let pair = is_pair c.args.payload.now c.in_ok-name.name.now c.in_ok-answer.answer.now c.new-datagrams.result c.next_part.new.self a.0 a.1 a.2 (c.new-datagrams.ensures.ahead a.0 a.1)
    c.in_ok-name.ensures.first c.in_ok-name.ensures.others c.in_ok-answer.ensures.first in
    let o = of_answer c.args.payload.now c.args.action.now c.args.number c.in_ok-name.name.now c.in_ok-answer.answer.now c.command-command.result c.data_length-bytes.result pair p c.command-command.ensures c.data_length-bytes.ensures.value f h in
    no_truth _ c.if-not-is_numbered.true ((c.has_number-is_numbered.ensures true pair.first pair.good_first pair.there_first).1 (ap (λ (s : Shape). s.bytes) o.name, o.told))

pub returns-then-not-is_answer : goal.returns-then-not-is_answer
returns-then-not-is_answer c = λ p f h.
    let a = c.is_pair-has_two.ensures.0 c.if-not-has_two.false in
    let pair = is_pair c.args.payload.now c.in_ok-name.name.now c.in_ok-answer.answer.now c.new-datagrams.result c.next_part.new.self a.0 a.1 a.2 (c.new-datagrams.ensures.ahead a.0 a.1)
    c.in_ok-name.ensures.first c.in_ok-name.ensures.others c.in_ok-answer.ensures.first in
    let o = of_answer c.args.payload.now c.args.action.now c.args.number c.in_ok-name.name.now c.in_ok-answer.answer.now c.command-command.result c.data_length-bytes.result pair p c.command-command.ensures c.data_length-bytes.ensures.value f h in
    no_truth _ c.if-not-is_answer.true ((c.has_shape-is_answer.ensures false pair.datagram pair.good pair.there).1 o.answer)

pub returns : goal.returns
returns c =
    let a = c.is_pair-has_two.ensures.0 c.if-not-has_two.false in
    let pair = is_pair c.args.payload.now c.in_ok-name.name.now c.in_ok-answer.answer.now c.new-datagrams.result c.next_part.new.self a.0 a.1 a.2 (c.new-datagrams.ensures.ahead a.0 a.1)
    c.in_ok-name.ensures.first c.in_ok-name.ensures.others c.in_ok-answer.ensures.first in
    answer_at c.args.payload.now c.args.action.now c.args.number c.in_ok-name.name.now c.in_ok-answer.answer.now c.command-command.result c.data_length-bytes.result pair c.command-command.ensures c.data_length-bytes.ensures.value
    ((c.has_shape-is_named.ensures true pair.first pair.good_first pair.there_first).0 c.if-not-is_named.false)
    ((c.has_number-is_numbered.ensures true pair.first pair.good_first pair.there_first).0 c.if-not-is_numbered.false).1
    ((c.has_shape-is_answer.ensures false pair.datagram pair.good pair.there).0 c.if-not-is_answer.false)
