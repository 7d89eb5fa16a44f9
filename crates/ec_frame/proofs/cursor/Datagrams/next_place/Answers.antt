use Rattle.std.proofs.Common.{ap, ◌∙◌, arith}
use Rattle.ec_frame.specs.Datagram.{is_followed, data_length}
use Rattle.ec_frame.proofs.DatagramsAhead.{begins, has_first, step_taken, ahead_first, ahead_rest}
use Rattle.ec_frame.proofs.cursor.Datagrams.next_place.Goals as goal

pub split_at-requires : goal.split_at-requires
split_at-requires c =
    let f = has_first c.args.frame.now c.args.self.now c.requires.0 c.requires.1 c.if-self.false in
    let b = begins c.args.frame.now c.args.self.now f.first f.others f.ahead in
    omega arith

pub data_length-requires : goal.data_length-requires
data_length-requires c =
    let f = has_first c.args.frame.now c.args.self.now c.requires.0 c.requires.1 c.if-self.false in
    let b = begins c.args.frame.now c.args.self.now f.first f.others f.ahead in
    let e = c.split_at.ensures in
    omega arith

pub returns-clause-within : goal.returns-clause-within
returns-clause-within c =
    let f = has_first c.args.frame.now c.args.self.now c.requires.0 c.requires.1 c.if-self.false in
    let b = begins c.args.frame.now c.args.self.now f.first f.others f.ahead in
    let is = c.data_length.ensures.value ∙ ap data_length c.split_at.ensures.back in
    (omega arith, omega arith)

pub returns-clause-steps : goal.returns-clause-steps
returns-clause-steps c = λ ds h. step_taken c.args.frame.now c.args.self.now c.data_length.result ds h c.if-self.false (c.data_length.ensures.value ∙ ap data_length c.split_at.ensures.back)

pub returns-clause-spelled : goal.returns-clause-spelled
returns-clause-spelled c =
    let f = has_first c.args.frame.now c.args.self.now c.requires.0 c.requires.1 c.if-self.false in
    let b = begins c.args.frame.now c.args.self.now f.first f.others f.ahead in
    let is = c.data_length.ensures.value ∙ ap data_length c.split_at.ensures.back ∙ b.read in
    (is_followed f.others, f.first, f.ahead.each.0, ahead_first c.args.frame.now c.args.self.now c.data_length.result f.first f.others f.ahead is)

pub returns-clause-first : goal.returns-clause-first
returns-clause-first c = λ d ds h.
    let b = begins c.args.frame.now c.args.self.now d ds h in
    let is = c.data_length.ensures.value ∙ ap data_length c.split_at.ensures.back ∙ b.read in
    ahead_first c.args.frame.now c.args.self.now c.data_length.result d ds h is

pub returns-clause-others : goal.returns-clause-others
returns-clause-others c = λ d ds h.
    let b = begins c.args.frame.now c.args.self.now d ds h in
    let is = c.data_length.ensures.value ∙ ap data_length c.split_at.ensures.back ∙ b.read in
    ahead_rest c.args.frame.now c.args.self.now c.data_length.result d ds h is

pub returns-clause-ahead : goal.returns-clause-ahead
returns-clause-ahead c =
    let f = has_first c.args.frame.now c.args.self.now c.requires.0 c.requires.1 c.if-self.false in
    let b = begins c.args.frame.now c.args.self.now f.first f.others f.ahead in
    let is = c.data_length.ensures.value ∙ ap data_length c.split_at.ensures.back ∙ b.read in
    (f.others, ahead_rest c.args.frame.now c.args.self.now c.data_length.result f.first f.others f.ahead is)
