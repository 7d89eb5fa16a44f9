-- Outputs that aren't awaited stay so while a slave is in SAFEOP or OP: a firmware step awaits them only as SAFEOP is entered.
use Rattle.ec_bringup.proofs.Words.{ℕ, ◌≡◌, ◌⊎◌, Bool, false, Option, Some, None, sym, ◌∙◌, ap, subst, inl, inr, arith, List, cases_Bool, Hardware, SlaveKind, SyncManager, manager_at, SlaveState, Al, State, Init, PreOp, SafeOp, Op, served, request_decided, read_finished, three_parts, messages_keep, finished, requests_decided, al_decided, is_awaiting, has_outputs, outputs_awaited, managers_entered, Rise, Falls, Stays, Climbs, Config, Up, Rises, IsUpAt, IsOfKind, IsGone, station_of, station, is_slow, greets_by, managers_decided, replies_decided}
use Rattle.ec_bringup.proofs.OneFrame.OtherSlaves.{station-zero}
use Rattle.ec_bringup.proofs.OneSlave.AlRequest.{Climbed, Granted, Refused, decided-up, decided-is, waits-none, waits-slow, put-others}
use Rattle.ec_bringup.proofs.Script.FedSteps.{IsRunning}

-- from SAFEOP nothing new is awaited
entered : (o : Option Hardware) (b : Bool) (new : State) (ms : List SyncManager) → (new ≡ SafeOp) ⊎ (new ≡ Op) → (manager_at ms 2).awaited ≡ false
    → (manager_at (outputs_awaited o b SafeOp new (managers_entered SafeOp new ms)) 2).awaited ≡ false
entered None b SafeOp ms w h = h
entered None b Op ms w h = h
entered (Some x) b SafeOp ms w h = h
entered (Some x) b Op ms w h = h
entered o b Init ms (inl e) h = absurd (cc e)
entered o b Init ms (inr e) h = absurd (cc e)
entered o b PreOp ms (inl e) h = absurd (cc e)
entered o b PreOp ms (inr e) h = absurd (cc e)

-- the state after a request for OP
after : (a : Al) → Climbed SafeOp Op a → (a.state ≡ SafeOp) ⊎ (a.state ≡ Op)
after a (Granted e) = inr (ap (λ (x : Al). x.state) e)
after a (Refused code e) = inl (ap (λ (x : Al). x.state) e)

module _ (s : SlaveState) where
  abbrev Off : SlaveState → Type 0
  Off x = (manager_at x.managers 2).awaited ≡ false

  rests : s.al.requested ≡ false → Off s → Off (request_decided s)
  rests e h = subst Off (sym (waits-none s e)) h

  decided : (r : Rise) → IsRunning r → Rises r s → Off s → Off (request_decided s)
  decided (Stays SafeOp) run g h = rests g.no_request h
  decided (Stays Op) run g h = rests g.no_request h
  decided (Climbs SafeOp Op) run (up, inl g) h = elim (cases_Bool (is_slow s.kind.hardware s)) [
    | inl q ↦ subst Off (sym (waits-slow s g.request q)) h
    | inr q ↦ elim (cases_Bool (is_awaiting s.kind.hardware s)) [
      | inl w ↦ subst Off (sym ((requests_decided s).awaits q w)) h
      | inr w ↦
          let a : Al = al_decided s.kind.hardware s in
          let d : Climbed SafeOp Op a = decided-up s.kind.hardware s SafeOp Op up g.state g.control_is in
          subst Off (sym (decided-is s g.request q w))
          (ap (λ (m : SyncManager). m.awaited) (put-others (greets_by s a) (replies_decided s a) 2 (managers_decided s a) (λ e. omega (arith, e)))
          ∙ subst (λ (old : State). (manager_at (outputs_awaited s.kind.hardware (has_outputs s) old a.state (managers_entered old a.state s.managers)) 2).awaited ≡ false) (sym g.state)
          (entered s.kind.hardware (has_outputs s) a.state s.managers (after a d) h))
    ]
  ]
  decided (Climbs SafeOp Op) run (up, inr (inl g)) h = rests g.no_request h
  decided (Climbs SafeOp Op) run (up, inr (inr g)) h = rests g.no_request h
  decided Falls run g h = absurd run
  decided (Stays Init) run g h = absurd run
  decided (Stays PreOp) run g h = absurd run
  decided (Climbs Init to) run g h = absurd run
  decided (Climbs PreOp to) run g h = absurd run
  decided (Climbs Op to) run g h = absurd run
  decided (Climbs SafeOp Init) run g h = absurd run
  decided (Climbs SafeOp PreOp) run g h = absurd run
  decided (Climbs SafeOp SafeOp) run g h = absurd run

  stays-off : Off (request_decided s) → Off (served s)
  stays-off h =
      ap (λ (x : SlaveState). (manager_at x.managers 2).awaited) (three_parts s)
      ∙ ((messages_keep (read_finished (request_decided s))).awaited 2
      ∙ (ap (λ (x : SlaveState). (manager_at x.managers 2).awaited) (finished (request_decided s)).is ∙ h))

pub awaited-kept : (kind : SlaveKind) (i : ℕ) (c : Config) (s : SlaveState) → IsRunning c.rise → IsUpAt i c s → IsOfKind kind s → (manager_at s.managers 2).awaited ≡ false → (manager_at (served s).managers 2).awaited ≡ false
awaited-kept kind i c s run u of h = stays-off s (decided s c.rise run u.rises h)

-- a slave that has its station address wasn't reset
pub not-gone : (i : ℕ) (c : Config) (s : SlaveState) → IsUpAt i c s → IsGone (Up c) s → ⊥
not-gone i c s u g = let z = station-zero s g in let e : station_of s ≡ station i = u.configured.station_is in omega (arith, z, e)
