-- A start-up is at its beginning until its first frame is sent, and never again.
use Rattle.ec_bringup.proofs.Words.{ℕ, ◌+◌, ◌≡◌, ◌==◌, ◌&&◌, ◌≢◌, Bool, true, false, refl, ◌∙◌, ap, inl, inr, arith, if◌then◌else◌, List, [], ◌∷◌, length, get_or, nat_lt, cases_eq, ne_eqb, Datagram, SlavePlan, TooSlow, Count, Action, CountSlaves, Phase, Idle, Sent, Ready, Failed, Verdict, Next, Again, Fails, script, verdict, StartState, action_of, type_of, begun, judged, taken, given_up_by, max_polls, is_idle, is_beginning, BeginningLaw, Fed, step_of, is_fed, feed_or, slice_get, Aside, Some}

begins : (s : StartState) (number : ℕ) → is_beginning (begun s.plan s.feeds number) ≡ true
unfolding begun
begins s number = refl

-- behind the first action
further : (s : StartState) (p : Phase) (n : ℕ) → (is_idle p && (n + 1 == 0)) ≡ false
further s p n = let z : (n + 1 == 0) ≡ false = ne_eqb (n + 1) 0 (λ e. omega (arith, e)) in ap (λ b. is_idle p && b) z ∙ (elim (is_idle p) as (λ b. (b && false) ≡ false) [ true ↦ refl | false ↦ refl ])

-- what was tried again is no first action
tried : (s : StartState) (b : Bool) → s.place ≢ 0 → is_beginning (if b then record s { phase = Failed (TooSlow s.place) } else record s { fed = 0; polls = s.polls + 1; phase = Idle }) ≡ false
tried s true ne = refl
tried s false ne = ne_eqb s.place 0 ne

later : (s : StartState) → s.place ≢ 0 → (x : Verdict) → is_beginning (judged s x) ≡ false
later s ne Again = tried s (s.polls + 1 == max_polls) ne
later s ne (Aside heard) = tried (record s { heard = Some heard }) (s.polls + 1 == max_polls) ne
later s ne (Fails failure) = refl
later s ne Fed = ne_eqb s.place 0 ne
later s ne _ = further s (if nat_lt (s.place + 1) (length (script s.plan)) then Idle else Ready) s.place

-- the first action counts the slaves
first-action : (ps : List SlavePlan) → get_or (script ps) 0 CountSlaves ≡ CountSlaves
first-action [] = refl
first-action (p ∷ ps) = refl

counts : (s : StartState) (seen : ℕ) (b : Bool) → is_beginning (judged s (if b then Next else Fails (Count seen))) ≡ false
counts s seen true = further s (if nat_lt (s.place + 1) (length (script s.plan)) then Idle else Ready) s.place
counts s seen false = refl

answered : (s : StartState) (d : Datagram) → is_beginning (taken s d) ≡ false
answered s d = elim (cases_eq s.place 0) [
  | inl e ↦
      let step : step_of s ≡ CountSlaves = ap (λ (k : ℕ). get_or (script s.plan) k CountSlaves) e ∙ first-action s.plan in
      -- no part is fed before it
      let first : action_of s ≡ CountSlaves = ap (λ (a : Action). if is_fed a then feed_or (slice_get s.feeds s.fed) a else a) step in
      ap (λ (a : Action). is_beginning (judged s (verdict (length s.plan) s.place s.seen (type_of s.plan) a d))) first ∙ counts s d.counter (d.counter == length s.plan)
  | inr ne ↦ later s ne (verdict (length s.plan) s.place s.seen (type_of s.plan) (action_of s) d)
]

over : (s : StartState) (p : Phase) → is_beginning (given_up_by (record s { phase = p }) p) ≡ false
over s Idle = refl
over s (Sent number) = refl
over s Ready = refl
over s (Failed error) = refl

pub beginning : BeginningLaw
beginning s = record { begins = begins s; sent = refl; answered = answered s; ends = over s s.phase }
