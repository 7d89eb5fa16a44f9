use Rattle.ec_world.proofs.Words.{◌∙◌, sym, refl, is_accepted, awaits, IsAnswered, IsTakenIn}
use Rattle.ec_world.proofs.Refinement.IsStep.{by-start, by-master}
use Rattle.ec_world.proofs.making.hand_in.Goals as goal

pub returns-then-awaits : goal.returns-then-awaits
returns-then-awaits c =
    let s = c.args.start.now in
    let m = c.args.master.now in
    let t = c.answer.new.start in
    let n = c.answer.new.master in
    by-start (awaits s) (IsAnswered s m c.args.payload.now t n) (IsTakenIn s m c.args.payload.now t n) (sym c.awaits.ensures ∙ c.if-awaits.true)
    (record { is_accepted = c.answer.ensures.taken.0; start = c.answer.ensures.taken.1; master = c.answer.ensures.ready })

pub returns : goal.returns
returns c =
    let s = c.args.start.now in
    let m = c.args.master.now in
    let n = c.take.new.self in
    by-master (awaits s) (IsAnswered s m c.args.payload.now s n) (IsTakenIn s m c.args.payload.now s n) (sym c.awaits.ensures ∙ c.if-awaits.false)
    (record { is_accepted = is_accepted c.take.result; master = c.take.ensures; start = refl })
