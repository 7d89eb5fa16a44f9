-- Events on frames: a pass, a loss, a beginning.
use Rattle.ec_world.proofs.Words.{ℕ, ◌+◌, ◌<◌, ◌≡◌, true, Option, Some, None, refl, sym, ◌∙◌, ap, subst, inl, inr, arith, length, get_or, set, is_some, option_map, unwrap_or, nat_lt, get_or-set_same, get_or-set_other, list_all, cases_eq, and_parts, ltb-true, length_push, map-set, if_true, Payload, SlaveState, IsPassed, passes as passes_all, IsPassedAt, one_payload, meaning, IsUsable, Plain, PlainFrame, progress_of, all_progress, may_pass, lets_by, passing, moved, losing, plain_slave, met_slave, met_note, with_note, WorldState, Flight, flight_progress, flights_progress, flight_at, slave_of, Passes, Refines, FrameRefines, get_or-set_default, same_progress, flight_pairs, passes_there, is_some-guarded, none_some, some_same, within_of, with_slave, Pairs, List, is_some-mapped, some_guarded, frame_at, Progress}
use Rattle.ec_world.proofs.Refinement.AlWord.{frame_pass, FramePassed}
use Rattle.ec_world.proofs.Refinement.ApplicationEvents.{slave_changed}
use Rattle.ec_world.specs.Plain as plain

-- ---- a loss

-- a slot has a frame on both sides
both_there : (w : WorldState) (p : Plain) (k : ℕ) → Refines w p → is_some (flight_at w k) ≡ is_some (frame_at p k)
both_there w p k s = sym (is_some-mapped flight_progress (flight_at w k)) ∙ (ap (λ o. is_some o) (same_progress w.slots p.slots k s.progress) ∙ is_some-mapped progress_of (frame_at p k))

pub lose_can : (w : WorldState) (p : Plain) (k : ℕ) → Refines w p → is_some (flight_at w k) ≡ is_some (losing p k)
lose_can w p k s = both_there w p k s ∙ some_guarded (is_some (frame_at p k)) (record p { slots = set p.slots k None })

-- what is in a slot changes on both sides, alike
slot_changed : (w : WorldState) (p : Plain) (k : ℕ) (o : Option Flight) (q : Option PlainFrame) → Refines w p → option_map flight_progress o ≡ option_map progress_of q
    → get_or (set w.slots k o) k None ≡ o → get_or (set p.slots k q) k None ≡ q → ((x : Flight) (f : PlainFrame) → o ≡ Some x → q ≡ Some f → FrameRefines w.plan f x.bytes)
    → Refines (record w { slots = set w.slots k o }) (record p { slots = set p.slots k q })
slot_changed w p k o q s alike own plain_own shows = assumption (progress, frames)
  where
    progress : flights_progress (set w.slots k o) ≡ all_progress (set p.slots k q)
    progress =
        map-set (λ o. option_map flight_progress o) w.slots k o
        ∙ (ap (λ os. set os k (option_map flight_progress o)) s.progress
        ∙ (ap (λ x. set (all_progress p.slots) k x) alike ∙ sym (map-set (λ o. option_map progress_of o) p.slots k q)))

    frames : (j : ℕ) (x : Flight) (f : PlainFrame) → get_or (set w.slots k o) j None ≡ Some x → get_or (set p.slots k q) j None ≡ Some f → FrameRefines w.plan f x.bytes
    frames j x f a b = elim (cases_eq j k) [
      | inl e ↦ shows x f (sym own ∙ subst (λ (i : ℕ). get_or (set w.slots k o) i None ≡ Some x) e a) (sym plain_own ∙ subst (λ (i : ℕ). get_or (set p.slots k q) i None ≡ Some f) e b)
      | inr ne ↦ s.frames j x f (sym (get_or-set_other w.slots k j o None ne) ∙ a) (sym (get_or-set_other p.slots k j q None ne) ∙ b)
    ]

pub emptied_shows : (w : WorldState) (p : Plain) (k : ℕ) → Refines w p → Refines (record w { slots = set w.slots k None }) (record p { slots = set p.slots k None })
emptied_shows w p k s = slot_changed w p k None None s refl (get_or-set_default w.slots k None) (get_or-set_default p.slots k None) (λ x f a b. absurd (none_some x a))

pub lose_shows : (w : WorldState) (p : Plain) (k : ℕ) → Refines w p → is_some (flight_at w k) ≡ true → Refines (record w { slots = set w.slots k None }) (unwrap_or (losing p k) p)
lose_shows w p k s e = subst (λ (q : Plain). Refines (record w { slots = set w.slots k None }) q)
    (sym (ap (λ (o : Option Plain). unwrap_or o p) (if_true _ _ _ (sym (both_there w p k s) ∙ e)))) (emptied_shows w p k s)

-- ---- a pass

pub pass_can : (w : WorldState) (p : Plain) (k : ℕ) → Refines w p
    → may_pass (length w.slaves) (flights_progress w.slots) (option_map flight_progress (flight_at w k)) ≡ may_pass (length p.slaves) (all_progress p.slots) (option_map progress_of (get_or p.slots k None))
pass_can w p k s =
    ap (λ n. may_pass n (flights_progress w.slots) (option_map flight_progress (flight_at w k))) (s.count ∙ sym s.plain_count)
    ∙ (ap (λ os. may_pass (length p.slaves) os (option_map flight_progress (flight_at w k))) s.progress
    ∙ ap (may_pass (length p.slaves) (all_progress p.slots)) (same_progress w.slots p.slots k s.progress))

pub pass_made : (w : WorldState) (p : Plain) (k : ℕ) → Refines w p
    → may_pass (length w.slaves) (flights_progress w.slots) (option_map flight_progress (flight_at w k)) ≡ is_some (passing (meaning w.plan) p k)
pass_made w p k s = pass_can w p k s ∙ sym (is_some-guarded _ (moved (meaning w.plan) p k) (get_or p.slots k None) (passes_there (length p.slaves) (all_progress p.slots) progress_of (get_or p.slots k None)))

-- a flight goes as its plain frame does
pub same_way : (x : Flight) (g : PlainFrame) → x.number ≡ g.number → x.part ≡ g.part → x.passed ≡ length g.notes → flight_progress x ≡ progress_of g
same_way x g number part passed = rw (number, part, passed) refl

-- a frame passes its next slave: what the slave leaves of it, and it of the slave
pub record HasMet (w : WorldState) (p : Plain) (k : ℕ) (w2 : WorldState) (x : Flight) (bytes : List ℕ) : Type 0 where
  pub both : Pairs x (get_or p.slots k None)
  pub here : length both.frame.notes < length w.plan.slaves
  pub after : SlaveState
  pub slaves : w2.slaves ≡ set w.slaves (length both.frame.notes) after
  pub one : FramePassed w.plan both.frame (plain_slave p (length both.frame.notes)) (slave_of w (length both.frame.notes)) after bytes

pub has_met : (w : WorldState) (p : Plain) (k : ℕ) (w2 : WorldState) → IsUsable w.plan → Refines w p
    → may_pass (length w.slaves) (flights_progress w.slots) (option_map flight_progress (flight_at w k)) ≡ true → (pass : Passes w k w2) → HasMet w p k w2 pass.flight pass.bytes
has_met w p k w2 sound s can pass =
    let x = pass.flight in
    let both = flight_pairs w.slots p.slots k x s.progress pass.there in
    let f = both.frame in
    let t = length f.notes in
    let may : may_pass (length p.slaves) (all_progress p.slots) (option_map progress_of (Some f)) ≡ true
    = ap (λ o. may_pass (length p.slaves) (all_progress p.slots) (option_map progress_of o)) (sym both.there) ∙ (sym (pass_can w p k s) ∙ can) in
    let here : t < length w.plan.slaves = let y = ltb-true t (length p.slaves) (and_parts (nat_lt t (length p.slaves)) (list_all (lets_by (progress_of f)) (all_progress p.slots)) may).0 in let z = s.plain_count in omega arith in
    let shows = s.frames k x f pass.there both.there in
    let y = slave_of w t in
    let after = (passes_all y shows.payload.datagrams).slave in
    let by_ring : IsPassedAt w.slaves t y x.bytes w2.slaves pass.bytes = subst (λ (n : ℕ). IsPassedAt w.slaves n (slave_of w n) x.bytes w2.slaves pass.bytes) both.passed pass.passed in
    let moved_on : IsPassed y x.bytes after pass.bytes = record {
      slave = λ p2 h. ap (λ (p : Payload). (passes_all y p.datagrams).slave) (one_payload x.bytes shows.payload p2 shows.spelled h);
      frame = by_ring.frame;
    } in
    record {
      both = both;
      here = here;
      after = after;
      slaves = by_ring.slaves shows.payload shows.spelled;
      one = frame_pass w.plan f (plain_slave p t) y after x.bytes pass.bytes sound here (s.slaves t here) shows moved_on;
    }

pub pass_shows : (w : WorldState) (p : Plain) (k : ℕ) (w2 : WorldState) → IsUsable w.plan → Refines w p
    → may_pass (length w.slaves) (flights_progress w.slots) (option_map flight_progress (flight_at w k)) ≡ true → Passes w k w2
    → Refines w2 (unwrap_or (passing (meaning w.plan) p k) p)
pass_shows w p k w2 sound s can pass =
    let m = meaning w.plan in
    let x = pass.flight in
    let met = has_met w p k w2 sound s can pass in
    let f = met.both.frame in
    let t = length f.notes in
    let q = plain_slave p t in
    let made : passing m p k ≡ Some (moved m p k f) = if_true _ _ _ (sym (pass_can w p k s) ∙ can) ∙ ap (option_map (moved m p k)) met.both.there in
    let n = met_note m t f q in
    let x2 : Flight = record x { bytes = pass.bytes; passed = x.passed + 1 } in
    let w4 = record w { slaves = set w.slaves t met.after; slots = set w.slots k (Some x2) } in
    let is : w2 ≡ w4 = pass.is ∙ ap (λ ss. record w { slaves = ss; slots = set w.slots k (Some x2) }) met.slaves in
    let stands : flight_progress x2 ≡ progress_of (with_note f n)
    = ap (λ (r : Progress). record { number = r.number; part = r.part; passed = r.passed + 1 }) (same_way x f met.both.number met.both.part met.both.passed)
    ∙ ap (λ (a : ℕ). record { number = f.number; part = f.part; passed = a }) (sym (length_push f.notes n)) in
    subst (λ (y : WorldState). Refines y (unwrap_or (passing m p k) p)) (sym is)
    (subst (λ (o : Option Plain). Refines w4 (unwrap_or o p)) (sym made)
    (slot_changed (with_slave w t met.after) (plain.with_slave p t (met_slave m t f q)) k (Some x2) (Some (with_note f n)) (slave_changed w p t met.after (met_slave m t f q) s met.one.shows met.here) (ap (λ y. Some y) stands)
    (get_or-set_same w.slots k (Some x2) None (within_of w.slots k x pass.there)) (get_or-set_same p.slots k (Some (with_note f n)) None (within_of p.slots k f met.both.there))
    (λ y g a b. subst (λ (y : Flight). FrameRefines w.plan g y.bytes) (some_same x2 y a) (subst (λ (g : PlainFrame). FrameRefines w.plan g pass.bytes) (some_same (with_note f n) g b) met.one.frame))))
