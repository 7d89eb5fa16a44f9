use Rattle.std.proofs.Common.{◌∷◌, rules}
use Rattle.ec_frame.proofs.Lending.{ahead, passed, smaller, stepped}
use Rattle.ec_frame.proofs.cursor.Datagrams.next.Goals as goal

pub next_place-requires : goal.next_place-requires
next_place-requires c = let s = c.requires.0 in (s.datagram ∷ s.ahead, ahead c.args.frame.now c.args.self.now s.payload s.past (s.datagram ∷ s.ahead) c.requires.1)

pub unwrap-span-requires : goal.unwrap-span-requires
unwrap-span-requires c =
    let s = c.requires.0 in
    let step = c.next_place.ensures.steps (s.datagram ∷ s.ahead) (ahead c.args.frame.now c.args.self.now s.payload s.past (s.datagram ∷ s.ahead) c.requires.1) in
    rw step.0 (search rules)

pub returns-clause-lent : goal.returns-clause-lent
returns-clause-lent c = λ s h.
    let step = c.next_place.ensures.steps (s.datagram ∷ s.ahead) (ahead c.args.frame.now c.args.self.now s.payload s.past (s.datagram ∷ s.ahead) h) in
    stepped c.args.frame.now c.args.self.now c.next_place.new.self c.next_place.result c.unwrap-span.result s h step c.unwrap-span.ensures

pub returns-clause-passed : goal.returns-clause-passed
returns-clause-passed c = λ s e bytes h there.
    let step = c.next_place.ensures.steps (s.datagram ∷ s.ahead) (ahead c.args.frame.now c.args.self.now s.payload s.past (s.datagram ∷ s.ahead) h) in
    passed c.args.frame.now bytes c.args.self.now c.next_place.new.self c.next_place.result c.unwrap-span.result s e h step c.unwrap-span.ensures there

pub returns-clause-smaller : goal.returns-clause-smaller
returns-clause-smaller c =
    let s = c.requires.0 in
    let step = c.next_place.ensures.steps (s.datagram ∷ s.ahead) (ahead c.args.frame.now c.args.self.now s.payload s.past (s.datagram ∷ s.ahead) c.requires.1) in
    smaller c.args.frame.now c.args.self.now c.next_place.new.self c.next_place.result s c.requires.1 step

pub returns-clause-some : goal.returns-clause-some
returns-clause-some c =
    let s = c.requires.0 in
    let step = c.next_place.ensures.steps (s.datagram ∷ s.ahead) (ahead c.args.frame.now c.args.self.now s.payload s.past (s.datagram ∷ s.ahead) c.requires.1) in
    (s, stepped c.args.frame.now c.args.self.now c.next_place.new.self c.next_place.result c.unwrap-span.result s c.requires.1 step c.unwrap-span.ensures)
