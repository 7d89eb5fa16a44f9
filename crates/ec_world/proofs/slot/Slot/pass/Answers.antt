use Rattle.ec_world.proofs.Words.{ℕ, ◌+◌, ◌≡◌, ◌≤◌, ◌∙◌, List, Option, Some, ap, arith, drop, length, set, slice_get, subst, sym, option_map, refill, take-append-le, take_all, Payload, IsFrame, with_datagrams, IsPassed, passes, SlaveState, IsPassedAt, Progress, Flight, HasPassed, HoldsFrame}
use Rattle.ec_world.proofs.slot.Slot.pass.Goals as goal

-- as many bytes as there were
refilled : (xs ws : List ℕ) → length ws ≡ length xs → refill (length xs) xs ws ≡ ws
refilled xs ws e =
    let few : length xs ≤ length ws = omega (arith, e) in
    let all : length ws ≤ length xs = omega (arith, e) in
    take-append-le (length xs) ws (drop (length ws) xs) few ∙ take_all (length xs) ws all

abbrev flight : List ℕ → Progress → Flight
flight bytes p = record { bytes = bytes; number = p.number; part = p.part; passed = p.passed }

some_same : (x y : Flight) → Some x ≡ Some y → x ≡ y
some_same x y e = cc

passed_at : (slaves : List SlaveState) (place : ℕ) (s t new : SlaveState) (before after : List ℕ) → slice_get slaves place ≡ Some s → slice_get slaves place ≡ Some t → IsPassed t before new after
    → IsPassedAt slaves place s before (set slaves place new) after
passed_at slaves place s t new before after is there h =
    let same : t ≡ s = some_slave t s (sym there ∙ is) in
    let met : IsPassed s before new after = subst (λ (x : SlaveState). IsPassed x before new after) same h in
    record { slaves = λ p f. ap (λ (x : SlaveState). set slaves place x) (met.slave p f); frame = met.frame }
  where
    some_slave : (x y : SlaveState) → Some x ≡ Some y → x ≡ y
    some_slave x y e = cc

pub returns-clause-passed : goal.returns-clause-passed
returns-clause-passed c = λ f is.
    let items = c.self.inside.frame.items in
    let g = flight items c.in-Some.progress in
    let after = set c.args.ring.now c.in-Some.progress.passed c.pass.new.self in
    let same : g ≡ f = some_same g f (ap (λ (o : Option Progress). option_map (flight items) o) (sym c.in-Some.is) ∙ (c.self.view_is ∙ is)) in
    let bytes : refill (length items) items c.pass.new.frame ≡ c.pass.new.frame = refilled items c.pass.new.frame (c.pass.auto.frame ∙ ap length c.as_mut_slice.ensures.value) in
    subst (λ (h : Flight). HasPassed c.args.ring.now h after (Some (record g { bytes = refill (length items) items c.pass.new.frame; passed = g.passed + 1 }))) same (record {
      bytes = c.pass.new.frame;
      met = λ s there. subst (λ (xs : List ℕ). IsPassedAt c.args.ring.now g.passed s xs after c.pass.new.frame) c.as_mut_slice.ensures.value
          (passed_at c.args.ring.now g.passed s c.slave_mut-slave.result.now c.pass.new.self c.as_mut_slice.result.now c.pass.new.frame there c.slave_mut-slave.ensures.value c.pass.ensures.meets);
      is = ap (λ (xs : List ℕ). Some (record g { bytes = xs; passed = g.passed + 1 })) bytes;
    })

pub invariant_of-self-2 : goal.invariant_of-self-2
invariant_of-self-2 c =
    let items = c.self.inside.frame.items in
    let bytes : refill (length items) items c.pass.new.frame ≡ c.pass.new.frame = refilled items c.pass.new.frame (c.pass.auto.frame ∙ ap length c.as_mut_slice.ensures.value) in
    let held : HoldsFrame (Some c.in-Some.progress) items = subst (λ (o : Option Progress). HoldsFrame o items) c.in-Some.is c.self.invariant in
    let spelled : IsFrame c.as_mut_slice.result.now held.0 = subst (λ (xs : List ℕ). IsFrame xs held.0) (sym c.as_mut_slice.ensures.value) held.1 in
    subst (λ (xs : List ℕ). (p : Payload) × IsFrame xs p) (sym bytes)
    (with_datagrams held.0 (passes c.slave_mut-slave.result.now held.0.datagrams).datagrams, c.pass.ensures.meets.frame held.0 spelled)
