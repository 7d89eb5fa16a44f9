use Rattle.ec_world.proofs.Words.{◌≡◌, ◌∙◌, ◌∷◌, [], List, ℕ, ap, subst, sym, true, Payload, IsFrame, bare_payload, frame_of, StartState, action_of, filled, Flight, can_start}
use Rattle.ec_world.proofs.Refinement.StepsRefine.{asked_plan, resumed_plan}
use Rattle.ec_world.proofs.Refinement.IsStep.{world_of, next-sends, start-step}
use Rattle.ec_world.proofs.world.World.start_next.Goals as goal

abbrev flight : List ℕ → ℕ → Flight
flight bytes number = record { bytes = bytes; number = number; part = 0; passed = 0 }

pub fill-requires-clause-frame : goal.fill-requires-clause-frame
fill-requires-clause-frame c =
    let v = c.self.inside in
    let w = world_of v.plan.now v.start v.master v.ring v.slots v.got v.report in
    let can : can_start w ≡ true = ap can_start c.self.view_is ∙ (sym c.can_start.ensures ∙ c.if-not-can_start.false) in
    let s = c.resume.new.start in
    subst (λ (xs : List ℕ). (p : Payload) × IsFrame xs p) (sym c.as_slice.ensures.value)
    (bare_payload (frame_of (action_of s) s.next), c.next.ensures.written (c.next.ensures.answer ∙ next-sends w s can c.resume.ensures))

pub invariant_of-self : goal.invariant_of-self
invariant_of-self c =
    let i = c.self.invariant in
    let s = c.self.inside.start in
    record {
      usable = i.usable;
      start = ap (λ (x : StartState). x.plan) c.next.ensures.state ∙ ((asked_plan c.resume.new.start).plan ∙ (ap (λ (x : StartState). x.plan) c.resume.ensures ∙ ((resumed_plan s s.phase).plan ∙ i.start)));
      feeds = ap (λ (x : StartState). x.feeds) c.next.ensures.state ∙ ((asked_plan c.resume.new.start).feeds ∙ (ap (λ (x : StartState). x.feeds) c.resume.ensures ∙ ((resumed_plan s s.phase).feeds ∙ i.feeds)));
      master = i.master;
    }

pub returns : goal.returns
returns c =
    let v = c.self.inside in
    let w = world_of v.plan.now v.start v.master v.ring v.slots v.got v.report in
    let can : can_start w ≡ true = ap can_start c.self.view_is ∙ (sym c.can_start.ensures ∙ c.if-not-can_start.false) in
    rw (← c.self.view_is) (start-step w c.resume.new.start c.next.new.self c.next.new.frame.items c.fill.new.self can c.resume.ensures c.next.ensures.state (λ e. c.next.ensures.written (c.next.ensures.answer ∙ e))
    (c.fill.ensures ∙ (ap (λ (xs : List ℕ). filled (flight xs c.next_number-number.result ∷ []) v.slots) c.as_slice.ensures.value
    ∙ ap (λ (n : ℕ). filled (flight c.next.new.frame.items n ∷ []) v.slots) c.next_number-number.ensures)))
