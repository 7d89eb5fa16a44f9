use Rattle.std.proofs.Common.{ℕ, ◌≡◌, ◌-◌, ◌*◌, ◌++◌, ◌∙◌, Bool, true, false, List, length, take, drop, if◌then◌else◌, refl, sym, ap, arith}
use Rattle.ec_bits.specs.Bits.{copied}
use Rattle.ec_fmmu.specs.Applied.{LogicalSpan}
use Rattle.ec_fmmu.specs.Areas.{Area, Spans, area}
use Rattle.ec_slave.specs.State.{SlaveState, MetBytes, fmmus, fmmus_of, with_memory}
use Rattle.ec_slave.specs.Roles.{is_reading, is_writing}
use Rattle.ec_slave.specs.Mapped.{at_bits, weight}
use Rattle.ec_slave.specs.Usual.{IsPlain}
use Rattle.ec_slave.proofs.LogicalAccess.ExchangedFrom.{take_front}
use Rattle.ec_slave.proofs.LogicalAccess.SlaveWritten.{decoded-mapped}
use Rattle.ec_slave.proofs.LogicalAccess.PlainArea.{memory_put, plain_placed, read_after}
use Rattle.ec_slave.proofs.slave.Slave.exchange_plain.Goals as goal

abbrev put_if : Bool → SlaveState → Area → LogicalSpan → List ℕ → List ℕ → List ℕ
put_if b s a p bytes memory = if b then copied memory (8 * a.out_start) bytes (a.out_at - p.from) a.outs else memory

still_decoded : (b : Bool) (s : SlaveState) (a : Area) (p : LogicalSpan) (bytes : List ℕ) → IsPlain s a → Spans p a → fmmus s ≡ fmmus_of s.kind.hardware (put_if b s a p bytes s.memory)
still_decoded true s a p bytes h c = decoded-mapped s.kind.hardware s.managers (fmmus s) p bytes s.memory ∙ ap (fmmus_of s.kind.hardware) (memory_put s a p bytes h c)
still_decoded false s a p bytes h c = refl

gotten : (b : Bool) (s : SlaveState) (a : Area) (p : LogicalSpan) (bytes : List ℕ) → IsPlain s a
    → copied bytes (a.in_at - p.from) (put_if b s a p bytes s.memory) (8 * a.in_start) a.ins ≡ copied bytes (a.in_at - p.from) s.memory (8 * a.in_start) a.ins
gotten true s a p bytes h = read_after s a bytes bytes (a.out_at - p.from) (a.in_at - p.from) h
gotten false s a p bytes h = refl

pub invariant_of-self : goal.invariant_of-self
invariant_of-self c =
    let s : SlaveState = c.args.self.now in
    let a : Area = area c.args.mapped.now in
    let bytes : List ℕ = c.args.bytes.now in
    let p : LogicalSpan = at_bits c.args.from bytes in
    let new : List ℕ = c.exchange_memory.new.memory in
    let own = c.deref_mut.ensures.value in
    let ok = c.self.inside.memory.ok in
    let long = c.exchange_memory.auto.memory in
    let memory = ap (λ (x : SlaveState). x.memory) c.self.view_is in
    let all : List ℕ = take c.self.inside.memory.len (new ++ drop (length new) c.self.inside.memory.items) in
    let front : all ≡ new
    = take_front new _ c.self.inside.memory.len (omega (arith, ap length own, ok, long)) in
    let put : new ≡ put_if (is_writing c.args.role) s a p bytes s.memory
    = c.exchange_memory.ensures.memory ∙ ap (put_if (is_writing c.args.role) s a p bytes) (own ∙ memory) in
    record {
      room = ap length front ∙ (long ∙ (ap length own ∙ c.self.invariant.room));
      four = c.self.invariant.four;
      decoded = c.self.invariant.decoded ∙ (ap fmmus c.self.view_is
          ∙ (still_decoded (is_writing c.args.role) s a p bytes c.requires.plain c.requires.spans
          ∙ (ap (fmmus_of s.kind.hardware) (sym (front ∙ put)) ∙ ap (λ (x : SlaveState). fmmus_of x.kind.hardware all) (sym c.self.view_is))));
      image = c.self.invariant.image;
    }

pub returns-clause-slave : goal.returns-clause-slave
returns-clause-slave c =
    let s : SlaveState = c.args.self.now in
    let a : Area = area c.args.mapped.now in
    let bytes : List ℕ = c.args.bytes.now in
    let p : LogicalSpan = at_bits c.args.from bytes in
    let role = c.args.role in
    let new : List ℕ = c.exchange_memory.new.memory in
    let own = c.deref_mut.ensures.value in
    let ok = c.self.inside.memory.ok in
    let long = c.exchange_memory.auto.memory in
    let all : List ℕ = take c.self.inside.memory.len (new ++ drop (length new) c.self.inside.memory.items) in
    let front : all ≡ new = take_front new _ c.self.inside.memory.len (omega (arith, ap length own, ok, long)) in
    let memory = own ∙ ap (λ (x : SlaveState). x.memory) c.self.view_is in
    ap (λ (x : SlaveState). with_memory x all x.managers) c.self.view_is
    ∙ (ap (λ (xs : List ℕ). with_memory s xs s.managers) (front ∙ (c.exchange_memory.ensures.memory ∙ ap (put_if (is_writing role) s a p bytes) memory))
    ∙ sym (ap (λ (m : MetBytes). m.slave) (plain_placed (is_reading role) (is_writing role) (weight role) s a p bytes c.requires.plain c.requires.spans)))

pub returns-clause-bytes : goal.returns-clause-bytes
returns-clause-bytes c =
    let s : SlaveState = c.args.self.now in
    let a : Area = area c.args.mapped.now in
    let bytes : List ℕ = c.args.bytes.now in
    let p : LogicalSpan = at_bits c.args.from bytes in
    let role = c.args.role in
    let memory = c.deref_mut.ensures.value ∙ ap (λ (x : SlaveState). x.memory) c.self.view_is in
    let put = c.exchange_memory.ensures.memory ∙ ap (put_if (is_writing role) s a p bytes) memory in
    c.exchange_memory.ensures.bytes
    ∙ (ap (λ (xs : List ℕ). if is_reading role then copied bytes (a.in_at - p.from) xs (8 * a.in_start) a.ins else bytes) put
    ∙ (ap (λ (xs : List ℕ). if is_reading role then xs else bytes) (gotten (is_writing role) s a p bytes c.requires.plain)
    ∙ sym (ap (λ (m : MetBytes). m.bytes) (plain_placed (is_reading role) (is_writing role) (weight role) s a p bytes c.requires.plain c.requires.spans))))

pub returns-clause-added : goal.returns-clause-added
returns-clause-added c =
    let bytes : List ℕ = c.args.bytes.now in
    let role = c.args.role in
    c.exchange_memory.ensures.added
    ∙ sym (ap (λ (m : MetBytes). m.added) (plain_placed (is_reading role) (is_writing role) (weight role) c.args.self.now (area c.args.mapped.now) (at_bits c.args.from bytes) bytes c.requires.plain c.requires.spans))
