-- Applications that step between the frames of a start-up change nothing of what its next frame relies on.
use Rattle.ec_bringup.proofs.Words.{ℕ, zero, suc, ◌+◌, ◌<◌, ◌≡◌, ◌≢◌, true, false, refl, sym, ◌∙◌, ap, arith, List, [], ◌∷◌, length, get_or-set_other, SlaveKind, Buffer, SyncManager, no_manager, Al, SlaveState, manager_at, is_running, with_manager, Action, CountSlaves, AskInit, AskWord, AwaitWord, AwaitState, AwaitReply, AwaitFreeReply, Stage, Before, Called, Down, Lowered, Up, unviewed, set, Stands, IsOfType, Rising, turned, turns, rising, Applied, Rests, Reads, Writes, AreApplied, TurnsTo, AppliedStays as Stays, Turns}
use Rattle.ec_bringup.proofs.OneSlave.Fault.{Changed, buffered-stands}
use Rattle.ec_bringup.proofs.OneSlave.Dry.{Dry, DryAt}
use Rattle.ec_bringup.proofs.AllSlaves.Delays.{LateAt, late-same}
use Rattle.ec_bringup.proofs.AllSlaves.NextAction.{Sure, climbs-met}
use Rattle.ec_bringup.proofs.AllSlaves.FramePasses.{Each}

-- what each slave shows before an action
pub record Stood (kind : SlaveKind) (i : ℕ) (st : Stage) (x : Al) (n more here : ℕ) (a : Action) (s : SlaveState) : Type 0 where
  pub stands : Stands kind i st false s
  pub spelled : IsOfType kind s.sii.image.identity
  pub sure : Sure kind i x more here a s
  pub late : LateAt kind x n st s
  pub dry : DryAt st s

-- another buffer of a manager of process data
abbrev pub with_buffer : SlaveState → ℕ → Buffer → SlaveState
with_buffer s n b = with_manager s n (record (manager_at s.managers n) { buffer = b })

awaited-buffered : (ms : List SyncManager) (k j : ℕ) (x : Buffer) → (manager_at (set ms k (record (manager_at ms k) { buffer = x })) j).awaited ≡ (manager_at ms j).awaited
awaited-buffered [] k j x = refl
awaited-buffered (m ∷ ms) zero zero x = refl
awaited-buffered (m ∷ ms) zero (suc j) x = refl
awaited-buffered (m ∷ ms) (suc k) zero x = refl
awaited-buffered (m ∷ ms) (suc k) (suc j) x = awaited-buffered ms k j x

mail-buffered : (s : SlaveState) (n : ℕ) (b : Buffer) → n ≢ 1 → (manager_at (with_buffer s n b).managers 1).mail ≡ (manager_at s.managers 1).mail
mail-buffered s n b ne = ap (λ (m : SyncManager). m.mail) (get_or-set_other s.managers n 1 (record (manager_at s.managers n) { buffer = b }) no_manager (λ e. ne (sym e)))

-- a start-up sends its first frame before any application steps
sure-buffered : (kind : SlaveKind) (i : ℕ) (x : Al) (more here : ℕ) (a : Action) (s : SlaveState) (n : ℕ) (b : Buffer) → n ≢ 1 → (a ≡ CountSlaves → ⊥) → Sure kind i x more here a s
    → Sure kind i x more here a (with_buffer s n b)
sure-buffered kind i x more here CountSlaves s n b ne begun h = absurd (begun refl)
sure-buffered kind i x more here AskInit s n b ne begun h = h
sure-buffered kind i x more here (AskWord t which) s n b ne begun h = h
sure-buffered kind i x more here (AwaitWord t which) s n b ne begun h = h
sure-buffered kind i x more here (AwaitState t to) s n b ne begun h = λ q. climbs-met kind to (here + 1) s (with_buffer s n b) refl (λ e. awaited-buffered s.managers n 2 b ∙ e) (h q)
sure-buffered kind i x more here (AwaitReply t y r) s n b ne begun h = λ q.
    let g = h q in
    record { raw = g.raw; long = g.long; mail = mail-buffered s n b ne ∙ g.mail; fits = g.fits }
sure-buffered kind i x more here (AwaitFreeReply t y r) s n b ne begun h = λ q. (
  λ l. let g = (h q).0 l in record { raw = g.raw; long = g.long; mail = mail-buffered s n b ne ∙ g.mail; aside = g.aside },
  λ l. let g = (h q).1 l in record { raw = g.raw; long = g.long; mail = mail-buffered s n b ne ∙ g.mail; fits = g.fits },
)
sure-buffered kind i x more here _ s n b ne begun h = tt

dry-one : (s : SlaveState) (n : ℕ) (b : Buffer) → Dry s → Dry (with_buffer s n b)
dry-one s n b h = record { off = λ w e safe none. awaited-buffered s.managers n 2 b ∙ h.off w e safe none }

dry-buffered : (st : Stage) (s : SlaveState) (n : ℕ) (b : Buffer) → DryAt st s → DryAt st (with_buffer s n b)
dry-buffered Before s n b h = tt
dry-buffered Called s n b h = tt
dry-buffered (Down f m) s n b h = dry-one s n b h
dry-buffered (Lowered f m) s n b h = dry-one s n b h
dry-buffered (Up c) s n b h = dry-one s n b h

stood-buffered : (kind : SlaveKind) (i : ℕ) (st : Stage) (x : Al) (sent more here : ℕ) (a : Action) (s : SlaveState) (n : ℕ) (b : Buffer) → (a ≡ CountSlaves → ⊥) → n < 4 → n ≢ 1 → is_running s.al.state ≡ true
    → (n ≡ 2 → unviewed b ≡ unviewed (manager_at s.managers n).buffer) → Stood kind i st x sent more here a s → Stood kind i st x sent more here a (with_buffer s n b)
stood-buffered kind i st x sent more here a s n b begun l ne run same h = record {
  stands = buffered-stands kind i st false s (with_buffer s n b) n l (Changed b run same refl) h.stands;
  spelled = h.spelled;
  sure = sure-buffered kind i x more here a s n b ne begun h.sure;
  late = λ low. late-same kind x sent s (with_buffer s n b) refl (h.late low);
  dry = dry-buffered st s n b h.dry;
}

pub stood-applied : (kind : SlaveKind) (i : ℕ) (st : Stage) (x : Al) (sent more here : ℕ) (a : Action) (s t : SlaveState) → (a ≡ CountSlaves → ⊥) → Applied s t → Stood kind i st x sent more here a s → Stood kind i st x sent more here a t
stood-applied kind i st x sent more here a s t begun (Rests _) h = h
stood-applied kind i st x sent more here a s t begun (Reads _ _ view run on) h =
    stood-applied kind i st x sent more here a _ t begun on
    (stood-buffered kind i st x sent more here a s 2 (record (manager_at s.managers 2).buffer { view = view }) begun (omega arith) (λ e. omega (arith, e)) run (λ e. refl) h)
stood-applied kind i st x sent more here a s t begun (Writes _ _ inputs run on) h =
    stood-applied kind i st x sent more here a _ t begun on (stood-buffered kind i st x sent more here a s 3 inputs begun (omega arith) (λ e. omega (arith, e)) run (λ e. absurd (omega (arith, e))) h)

-- ---- all slaves

pub each-applied : (P : ℕ → SlaveState → Type 0) (j : ℕ) (ss ts : List SlaveState) → ((i : ℕ) (s t : SlaveState) → Applied s t → P i s → P i t) → AreApplied ss ts → Each P j ss → Each P j ts
each-applied P j [] [] keep app h = tt
each-applied P j (s ∷ ss) (t ∷ ts) keep app h = (keep j s t app.0 h.0, each-applied P (j + 1) ss ts keep app.1 h.1)
each-applied P j _ _ keep app h = absurd app

pub applied-length : (ss ts : List SlaveState) → AreApplied ss ts → length ts ≡ length ss
applied-length [] [] app = refl
applied-length (s ∷ ss) (t ∷ ts) app = ap (λ (n : ℕ). suc n) (applied-length ss ts app.1)
applied-length _ _ app = absurd app

-- ---- turns

all-rest : (ss : List SlaveState) → AreApplied ss ss
all-rest [] = tt
all-rest (s ∷ ss) = (Rests s, all-rest ss)

-- no application steps
pub turns-to : (k : ℕ) (r : Rising) → TurnsTo k r (turns k r)
turns-to zero r = Stays r
turns-to (suc k) r = Turns k r (turns k (turned r)) (turned r).slaves (all-rest (turned r).slaves) (turns-to k (turned r))

-- one turn more
pub turns-on : (k : ℕ) (r e : Rising) (ss : List SlaveState) → TurnsTo k r e → AreApplied (turned e).slaves ss → TurnsTo (suc k) r (rising (turned e).start ss)
turns-on zero r e ss (Stays _) app = Turns 0 r (rising (turned r).start ss) ss app (Stays (rising (turned r).start ss))
turns-on (suc k) r e ss (Turns _ _ _ ts first more) app = Turns (suc k) r (rising (turned e).start ss) ts first (turns-on k (rising (turned r).start ts) e ss more app)
