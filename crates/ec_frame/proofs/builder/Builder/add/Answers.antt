use Rattle.std.proofs.Common.{arith}
use Rattle.ec_frame.proofs.Numbers.{all_bytes}
use Rattle.ec_frame.proofs.BuilderCalls.{added, added_built, added_view, built_length, seen_built}
use Rattle.ec_frame.proofs.builder.Builder.add.Goals as goal
use Rattle.ec_frame.proofs.builder.Builder.add.Goals.{then-room-lt-OVERHEAD-via-then-room-lt-OVERHEAD, then-room-lt-OVERHEAD-via-else-room-lt-OVERHEAD+then-room-content}

pub returns-then-room-lt-OVERHEAD-clause-full : goal.returns-then-room-lt-OVERHEAD-clause-full
returns-then-room-lt-OVERHEAD-clause-full c =
    let h = seen_built c.self.inside.frame.items c.self.inside.last c.args.self.now c.self.invariant c.self.view_is in
    let size = built_length c.self.inside.frame.items c.self.inside.last c.args.self.now h in
    elim c.then-room-lt-OVERHEAD.branch [ then-room-lt-OVERHEAD-via-then-room-lt-OVERHEAD w ↦ omega arith | then-room-lt-OVERHEAD-via-else-room-lt-OVERHEAD+then-room-content w ↦ omega arith ]

pub invariant_of-self : goal.invariant_of-self
invariant_of-self c =
    let h = seen_built c.self.inside.frame.items c.self.inside.last c.args.self.now c.self.invariant c.self.view_is in
    added_built c.append_datagram.new.frame.items c.len-self-inside.result _ (added c.self.inside.frame.items c.append_datagram.new.frame.items c.self.inside.last c.len-self-inside.result c.args.self.now c.args.command c.args.index c.args.address c.args.content.now h c.ranges.index.fits c.ranges.address.fits (all_bytes c.args.content.now (λ i. omega (arith, c.type_inv.content i))) (omega arith) c.len-self-inside.ensures.value c.append_datagram.ensures.bytes)

pub returns-clause-ok : goal.returns-clause-ok
returns-clause-ok c =
    let h = seen_built c.self.inside.frame.items c.self.inside.last c.args.self.now c.self.invariant c.self.view_is in
    added_view c.append_datagram.new.frame.items c.len-self-inside.result _ (added c.self.inside.frame.items c.append_datagram.new.frame.items c.self.inside.last c.len-self-inside.result c.args.self.now c.args.command c.args.index c.args.address c.args.content.now h c.ranges.index.fits c.ranges.address.fits (all_bytes c.args.content.now (λ i. omega (arith, c.type_inv.content i))) (omega arith) c.len-self-inside.ensures.value c.append_datagram.ensures.bytes)

pub returns-clause-fits : goal.returns-clause-fits
returns-clause-fits c =
    let h = seen_built c.self.inside.frame.items c.self.inside.last c.args.self.now c.self.invariant c.self.view_is in
    let size = built_length c.self.inside.frame.items c.self.inside.last c.args.self.now h in
    omega arith
