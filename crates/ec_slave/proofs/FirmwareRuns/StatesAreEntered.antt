-- Which states a firmware step enters, and what it checks before.
use Rattle.std.proofs.Common.{ℕ, ◌≡◌, ◌≢◌, ◌&&◌, not, Bool, true, false, Result, Ok, Err, refl, sym, ◌∙◌, ap, subst, arith, if◌then◌else◌, Option, Some, None}
use Rattle.std.proofs.lemmas.Bool.{and_parts}
use Rattle.ec_bits.proofs.AnyLaws.{if_true}
use Rattle.ec_device.specs.declared.hardware.Hardware.{Hardware}
use Rattle.ec_device.specs.Hardware.{has_firmware}
use Rattle.ec_al.specs.States.{state_number}
use Rattle.ec_al.specs.Transitions.{requested_number, requested_by, acknowledges, answer}
use Rattle.ec_al.specs.Al.{Al, decided, ignored, answered, waiting}
use Rattle.ec_al.specs.declared.state.State.{State}
use Rattle.ec_al.specs.declared.state.State.TheVariants.{Init, PreOp, SafeOp, Op}
use Rattle.ec_al.specs.declared.status_code.StatusCode.{StatusCode}
use Rattle.ec_al.specs.declared.transition.Requested.{Requested}
use Rattle.ec_al.specs.declared.transition.Requested.TheVariants.{To, Bootstrap, Unknown}
use Rattle.ec_al.specs.declared.transition.Checks.{Checks}
use Rattle.ec_slave.specs.State.{SlaveState}
use Rattle.ec_slave.specs.Checking.{checks_of, control_word}
use Rattle.ec_slave.specs.Serving.{served, al_decided, emergency_counted, greets_by, replies_decided, replies_entered, reply_counter, with_al}
use Rattle.ec_slave.specs.FirmwareLaws.{StatesAreEntered, FirstReplyIsOne}
use Rattle.ec_slave.proofs.FirmwareRuns.RestsQuietly.{served-al, decided-al, decided-if, decides, lets_wait, rested, waiting-state}

-- another state was granted, by the request that waited
changed-by : (b d : Bool) (al : Al) (r : Result State StatusCode) (s : State) → al.state ≢ s → (if b then (if d then ignored al else answered al r) else al).state ≡ s → (b ≡ true) × (r ≡ Ok s)
changed-by true false al (Ok t) s other now = (refl, ap (λ (x : State). Ok x) now)
changed-by true false al (Err code) s other now = absurd (other now)
changed-by true true al r s other now = absurd (other now)
changed-by false d al r s other now = absurd (other now)

pub granted : (b : Bool) (al : Al) (control : ℕ) (checks : Checks) (s : State) → al.state ≢ s → (if b then decided al control checks else al).state ≡ s → (b ≡ true) × (answer al.state (requested_by control) checks ≡ Ok s)
granted b al control checks s other now = changed-by b (al.error && not (acknowledges control)) al (answer al.state (requested_by control) checks) s other now

both-passed : (a b : Bool) (x y : StatusCode) → (if a then (if b then Ok SafeOp else Err x) else Err y) ≡ Ok SafeOp → (a ≡ true) × (b ≡ true)
both-passed true true x y e = (refl, refl)
both-passed true false x y e = cc
both-passed false b x y e = cc

one-passed : (a : Bool) (x : StatusCode) → (if a then Ok PreOp else Err x) ≡ Ok PreOp → a ≡ true
one-passed true x e = refl
one-passed false x e = cc

safeop-answer : (wanted : Requested) (checks : Checks) → answer PreOp wanted checks ≡ Ok SafeOp → (checks.outputs ≡ true) × (checks.inputs ≡ true)
safeop-answer (To Init) checks e = cc
safeop-answer (To PreOp) checks e = cc
safeop-answer (To SafeOp) checks e = both-passed checks.outputs checks.inputs _ _ e
safeop-answer (To Op) checks e = cc
safeop-answer Bootstrap checks e = cc
safeop-answer Unknown checks e = cc

preop-answer : (wanted : Requested) (checks : Checks) → answer Init wanted checks ≡ Ok PreOp → checks.mailbox ≡ true
preop-answer (To Init) checks e = cc
preop-answer (To PreOp) checks e = one-passed checks.mailbox _ e
preop-answer (To SafeOp) checks e = cc
preop-answer (To Op) checks e = cc
preop-answer Bootstrap checks e = cc
preop-answer Unknown checks e = cc

pub op-answer : (state : State) (wanted : Requested) (checks : Checks) → state ≢ Op → answer state wanted checks ≡ Ok Op → (state ≡ SafeOp) × (wanted ≡ To Op)
op-answer Init (To Init) checks below entered = cc
op-answer Init (To PreOp) checks below entered = grind arith
op-answer Init (To SafeOp) checks below entered = cc
op-answer Init (To Op) checks below entered = cc
op-answer PreOp (To Init) checks below entered = cc
op-answer PreOp (To PreOp) checks below entered = cc
op-answer PreOp (To SafeOp) checks below entered = grind arith
op-answer PreOp (To Op) checks below entered = cc
op-answer SafeOp (To Init) checks below entered = cc
op-answer SafeOp (To PreOp) checks below entered = cc
op-answer SafeOp (To SafeOp) checks below entered = cc
op-answer SafeOp (To Op) checks below entered = (refl, refl)
op-answer Op wanted checks below entered = absurd (below refl)
op-answer Init Bootstrap checks below entered = cc
op-answer state Bootstrap checks below entered = cc
op-answer state Unknown checks below entered = cc

pub asked-op : (control : ℕ) → requested_by control ≡ To Op → requested_number control ≡ state_number Op
asked-op control e = grind arith

-- firmware decides by the checks
pub by-firmware : (o : Option Hardware) (s : SlaveState) → has_firmware o ≡ true → al_decided o s ≡ decided s.al (control_word s) (checks_of s)
by-firmware None s e = refl
by-firmware (Some h) s e = if_true _ _ _ e

-- a decision by the checks, or the same state
same-state : (b c : Bool) (x y : Al) → (if b then x else (if c then waiting y else y)).state ≡ (if b then x else y).state
same-state true c x y = refl
same-state false c x y = waiting-state c y

pub served-state : (s : SlaveState) → has_firmware s.kind.hardware ≡ true → (served s).al.state ≡ (if decides s then decided s.al (control_word s) (checks_of s) else s.al).state
served-state s f =
    ap (λ (a : Al). a.state) (served-al s ∙ (decided-al s ∙ ap (λ (a : Al). if decides s then a else (rested s).al) (by-firmware s.kind.hardware s f)))
    ∙ same-state (decides s) (lets_wait s) (decided s.al (control_word s) (checks_of s)) s.al

-- a request that is decided waits
pub waits : (s : SlaveState) → decides s ≡ true → s.al.requested ≡ true
waits s d = (and_parts s.al.requested _ d).0

pub states_entered : StatesAreEntered
states_entered s f = (
  λ there other.
      let g = granted (decides s) s.al (control_word s) (checks_of s) Op other (sym (served-state s f) ∙ there) in
      let w = op-answer s.al.state (requested_by (control_word s)) (checks_of s) other g.1 in
      record { from = w.0; waits = waits s g.0; asked = asked-op (control_word s) w.1 },
  λ there was.
      let g = granted (decides s) s.al (control_word s) (checks_of s) SafeOp (λ e. let g : PreOp ≡ SafeOp = sym was ∙ e in cc) (sym (served-state s f) ∙ there) in
      safeop-answer (requested_by (control_word s)) (checks_of s) (sym (ap (λ (x : State). answer x (requested_by (control_word s)) (checks_of s)) was) ∙ g.1),
  λ there was.
      let g = granted (decides s) s.al (control_word s) (checks_of s) PreOp (λ e. let g : Init ≡ PreOp = sym was ∙ e in cc) (sym (served-state s f) ∙ there) in
      preop-answer (requested_by (control_word s)) (checks_of s) (sym (ap (λ (x : State). answer x (requested_by (control_word s)) (checks_of s)) was) ∙ g.1),
)

-- the counter behind an emergency, or without one
counted : (b : Bool) (replies : ℕ) → replies ≡ 0 → reply_counter (emergency_counted b replies) ≡ (if b then 2 else 1)
counted true replies e = ap (λ (n : ℕ). reply_counter (emergency_counted true n)) e
counted false replies e = ap (λ (n : ℕ). reply_counter (emergency_counted false n)) e

first-by : (b : Bool) (s : SlaveState) (a : Al) → s.al.state ≡ Init → (if b then with_al s a else rested s).al.state ≡ PreOp
    → reply_counter (if b then with_al s a else rested s).replies ≡ (if greets_by s (if b then with_al s a else rested s).al then 2 else 1)
first-by true s a was now =
    counted (greets_by s a) (replies_decided s a) (ap (λ (x : State). replies_entered x a.state s.replies) was ∙ ap (λ (x : State). replies_entered Init x s.replies) now)
first-by false s a was now = let f : Init ≡ PreOp = sym was ∙ (sym (waiting-state (lets_wait s) s.al) ∙ now) in cc

pub first_is_one : FirstReplyIsOne
first_is_one s was now =
    let e = decided-if s in
    subst (λ (t : SlaveState). reply_counter t.replies ≡ (if greets_by s t.al then 2 else 1)) (sym e)
    (first-by (decides s) s (al_decided s.kind.hardware s) was (ap (λ (t : SlaveState). t.al.state) (sym e) ∙ now))
