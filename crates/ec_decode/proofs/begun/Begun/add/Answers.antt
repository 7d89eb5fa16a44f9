use Rattle.std.proofs.Common.{◌+◌, ◌++◌, List, ℕ, length, refl, ap, ◌∙◌, arith}
use Rattle.ec_frame.specs.Datagram.{Datagram}
use Rattle.ec_decode.specs.Holding.{datagrams_held}
use Rattle.ec_decode.specs.Stating.{datagram_of, heading_of}
use Rattle.ec_decode.proofs.ReaderFields.{held_push, opened_long, short_data}
use Rattle.ec_decode.proofs.begun.Begun.add.Goals as goal

pub overflow_add-self : goal.overflow_add-self
overflow_add-self c = let h = c.requires.held in omega (arith, opened_long (datagrams_held c.args.self.now.area.items), ap length h.area)

pub returns-clause-held : goal.returns-clause-held
returns-clause-held c =
    let spelled = c.in_ok-extend_from_slice.ensures.items ∙ ap (λ (xs : List ℕ). c.args.self.now.area.items ++ xs) (c.as_slice.ensures.value ∙ c.in_ok-bytes.ensures.value) in
    (held_push c.args.self.now (record { heading = c.args.self.now.heading; read = c.args.self.now.read + 1; area = c.extend_from_slice.new.self }) (datagram_of c.args.stated.now) c.requires.held c.in_ok-bytes.ensures.good spelled refl refl c.requires.fits c.requires.more).0

pub returns-clause-ok : goal.returns-clause-ok
returns-clause-ok c =
    let spelled = c.in_ok-extend_from_slice.ensures.items ∙ ap (λ (xs : List ℕ). c.args.self.now.area.items ++ xs) (c.as_slice.ensures.value ∙ c.in_ok-bytes.ensures.value) in
    let held = (held_push c.args.self.now (record { heading = c.args.self.now.heading; read = c.args.self.now.read + 1; area = c.extend_from_slice.new.self }) (datagram_of c.args.stated.now) c.requires.held c.in_ok-bytes.ensures.good spelled refl refl c.requires.fits c.requires.more).1 in
    ap (λ (ds : List Datagram). record { heading = heading_of c.args.self.now.heading; datagrams = ds }) held

pub spell-requires-clause-length : goal.spell-requires-clause-length
spell-requires-clause-length c = short_data (datagrams_held c.args.self.now.area.items) (datagram_of c.args.stated.now) c.requires.fits
