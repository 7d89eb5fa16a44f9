-- What the datagrams of a scan can't do, action by action.
use Rattle.std.proofs.Common.{ℕ, ◌+◌, ◌-◌, ◌*◌, ◌/◌, ◌%◌, ◌<◌, ◌≤◌, ◌≡◌, List, [], ◌∷◌, ◌++◌, length, slice_index, true, false, refl, sym, ◌∙◌, ap, subst, arith, inl, inr}
use Rattle.std.proofs.lemmas.Bool.{cases_lt, and_parts}
use Rattle.std.proofs.lemmas.List.{get_or-replicate, get_or_past, length-replicate}
use Rattle.ec_bits.specs.Bits.{within, zeros}
use Rattle.ec_bits.proofs.AnyLaws.{within_parts}
use Rattle.ec_al.specs.declared.state.State.{State}
use Rattle.ec_al.specs.declared.state.State.TheVariants.{Init, PreOp, SafeOp, Op}
use Rattle.ec_al.specs.States.{state_number}
use Rattle.ec_frame.specs.Datagram.{Datagram, ado_of}
use Rattle.ec_start.specs.declared.action.Transfer.{Transfer}
use Rattle.ec_start.specs.declared.action.Transfer.TheVariants.{Download, Upload}
use Rattle.ec_start.specs.declared.action.SdoRequest.{SdoRequest}
use Rattle.ec_start.specs.declared.action.Action.TheVariants.{CountSlaves, AskInit, AwaitInit, ClearFmmus, ClearManagers, ClearStations, NameSlave, AskWord, AwaitWord, SetManager, SetFmmu, AskState, AwaitState, SendRequest, AwaitReply, AwaitFreeReply, AwaitInitState, ClearAllFmmus, ClearAllManagers, AssignSii, ClearSiiError, AwaitCleanInit, FeedPart}
use Rattle.ec_start.specs.Actions.{request_bytes, request_command, request_message}
use Rattle.ec_scan.specs.Laws.{HarmlessActions}
use Rattle.ec_scan.specs.Scanning.{IsHarmless, IsRequest, al_control, is_logical, is_low, is_upload, is_write, sii_command, writes, written_at}

-- ---- what is written, by where it begins and how long it is

-- what a write of these bytes from an address on does no harm by
pub record IsMild (from : ℕ) (bytes : List ℕ) : Type 0 where
  pub low : from ≤ 0x0120 → 0x0120 < from + length bytes → slice_index bytes (0x0120 - from) % 16 ≤ 2
  pub sii : from ≤ 0x0503 → 0x0503 < from + length bytes → slice_index bytes (0x0503 - from) ≤ 1
  pub request : 0x1000 < from + length bytes → IsRequest bytes
  pub clears : (a : ℕ) → from ≤ a → a < from + length bytes → 0x0600 ≤ a → a < 0x0700 → slice_index bytes (a - from) ≡ 0
  pub unset : (a : ℕ) → from ≤ a → a < from + length bytes → 0x0810 ≤ a → a < 0x1000 → slice_index bytes (a - from) ≡ 0

there : (d : Datagram) (from a : ℕ) → ado_of d ≡ from → writes d a ≡ true → (from ≤ a) × (a < from + length d.data_bytes)
there d from a e h =
    let p = and_parts (is_write d.command) (within (ado_of d) (length d.data_bytes) a) h in
    within_parts from (length d.data_bytes) a (subst (λ (x : ℕ). within x (length d.data_bytes) a ≡ true) e p.1)

at_there : (d : Datagram) (from a : ℕ) → ado_of d ≡ from → written_at d a ≡ slice_index d.data_bytes (a - from)
at_there d from a e = ap (λ (x : ℕ). slice_index d.data_bytes (a - x)) e

pub mild : (d : Datagram) (from : ℕ) → ado_of d ≡ from → is_logical d.command ≡ false → IsMild from d.data_bytes → IsHarmless d
mild d from e physical m = record {
  physical = physical;
  low = λ h.
      let p = there d from al_control e h in
      subst (λ (x : ℕ). x % 16 ≤ 2) (sym (at_there d from al_control e)) (m.low p.0 p.1);
  reads_sii = λ h.
      let p = there d from sii_command e h in
      subst (λ (x : ℕ). x ≤ 1) (sym (at_there d from sii_command e)) (m.sii p.0 p.1);
  uploads = λ a l h.
      let p = there d from a e h in
      m.request (omega (arith, l, p.1));
  clears = λ a l g h.
      let p = there d from a e h in
      at_there d from a e ∙ m.clears a p.0 p.1 l g;
  unset = λ a l g h.
      let p = there d from a e h in
      at_there d from a e ∙ m.unset a p.0 p.1 l g;
}

-- a datagram that reads writes nothing
quiet : (d : Datagram) → is_logical d.command ≡ false → is_write d.command ≡ false → IsHarmless d
quiet d physical read = record {
  physical = physical;
  low = λ h. absurd (no al_control h);
  reads_sii = λ h. absurd (no sii_command h);
  uploads = λ a l h. absurd (no a h);
  clears = λ a l g h. absurd (no a h);
  unset = λ a l g h. absurd (no a h);
}
  where
    no : (a : ℕ) → writes d a ≡ true → ⊥
    no a h =
        let p = and_parts (is_write d.command) (within (ado_of d) (length d.data_bytes) a) h in
        let bad : false ≡ true = sym read ∙ p.0 in
        cc

-- ---- bytes

zero_at : (n k : ℕ) → slice_index (zeros n) k ≡ 0
zero_at n k = elim (cases_lt k n) [
  | inl l ↦ get_or-replicate n k 0 0 l
  | inr g ↦ get_or_past (zeros n) k 0 (let e = length-replicate {A = ℕ} n 0 in omega (arith, e, g))
]

-- zeros do no harm, wherever they end before the RAM
zeros_mild : (from n : ℕ) → from + n ≤ 0x1000 → IsMild from (zeros n)
zeros_mild from n l =
    let e = length-replicate {A = ℕ} n 0 in
    record {
      low = λ a b. let z = zero_at n (0x0120 - from) in omega (arith, z);
      sii = λ a b. let z = zero_at n (0x0503 - from) in omega (arith, z);
      request = λ b. absurd (omega (arith, e, l, b));
      clears = λ a b c g h. zero_at n (a - from);
      unset = λ a b c g h. zero_at n (a - from);
    }

-- nor do bytes that end before all that matters, or lie between
aside : (from : ℕ) (bytes : List ℕ) → from + length bytes ≤ 0x0120 → IsMild from bytes
aside from bytes l = record {
  low = λ a b. absurd (omega (arith, l, b));
  sii = λ a b. absurd (omega (arith, l, b));
  request = λ b. absurd (omega (arith, l, b));
  clears = λ a b c g h. absurd (omega (arith, l, c, g));
  unset = λ a b c g h. absurd (omega (arith, l, c, g));
}

-- the state that is asked for
state_mild : (state : State) → is_low state ≡ true → IsMild 0x0120 (state_number state ∷ 0 ∷ [])
state_mild state low = record {
  low = λ a b. number state low;
  sii = λ a b. absurd (omega (arith, b));
  request = λ b. absurd (omega (arith, b));
  clears = λ a b c g h. absurd (omega (arith, c, g));
  unset = λ a b c g h. absurd (omega (arith, c, g));
}
  where
    number : (state : State) → is_low state ≡ true → state_number state % 16 ≤ 2
    number Init low = omega arith
    number PreOp low = omega arith
    number SafeOp low = let bad : false ≡ true = low in cc
    number Op low = let bad : false ≡ true = low in cc

init_mild : IsMild 0x0120 (0x11 ∷ 0 ∷ [])
init_mild = record {
  low = λ a b. omega arith;
  sii = λ a b. absurd (omega (arith, b));
  request = λ b. absurd (omega (arith, b));
  clears = λ a b c g h. absurd (omega (arith, c, g));
  unset = λ a b c g h. absurd (omega (arith, c, g));
}

-- a command that reads the SII
sii_mild : (w x y z : ℕ) → IsMild 0x0502 (0x00 ∷ 0x01 ∷ w ∷ x ∷ y ∷ z ∷ [])
sii_mild w x y z = record {
  low = λ a b. absurd (omega (arith, a));
  sii = λ a b. omega arith;
  request = λ b. absurd (omega (arith, b));
  clears = λ a b c g h. absurd (omega (arith, c, g));
  unset = λ a b c g h. absurd (omega (arith, c, g));
}

access_mild : (n : ℕ) → IsMild 0x0500 (n ∷ [])
access_mild n = record {
  low = λ a b. absurd (omega (arith, a));
  sii = λ a b. absurd (omega (arith, b));
  request = λ b. absurd (omega (arith, b));
  clears = λ a b c g h. absurd (omega (arith, c, g));
  unset = λ a b c g h. absurd (omega (arith, c, g));
}

-- the eight bytes of a mailbox's manager
manager_mild : (n : ℕ) (bytes : List ℕ) → n < 2 → length bytes ≡ 8 → IsMild (0x0800 + 8 * n) bytes
manager_mild n bytes l e = record {
  low = λ a b. absurd (omega (arith, a));
  sii = λ a b. absurd (omega (arith, a));
  request = λ b. absurd (omega (arith, b, e, l));
  clears = λ a b c g h. absurd (omega (arith, b, h));
  unset = λ a b c g h. absurd (omega (arith, c, e, l, g));
}

-- a mailbox in the RAM with a request to upload
request_mild : (from : ℕ) (bytes : List ℕ) → 0x1000 ≤ from → IsRequest bytes → IsMild from bytes
request_mild from bytes l r = record {
  low = λ a b. absurd (omega (arith, a, l));
  sii = λ a b. absurd (omega (arith, a, l));
  request = λ b. r;
  clears = λ a b c g h. absurd (omega (arith, b, l, h));
  unset = λ a b c g h. absurd (omega (arith, b, l, h));
}

asks_to_upload : (before : ℕ) (r : SdoRequest) (rest : List ℕ) → is_upload r.transfer ≡ true → IsRequest (request_bytes before r ++ rest)
asks_to_upload before r rest up = by r.transfer refl
  where
    by : (t : Transfer) → r.transfer ≡ t → IsRequest (request_bytes before r ++ rest)
    by (Download value) e = let bad : false ≡ true = sym (ap is_upload e) ∙ up in cc
    by (Upload value) e = record {
      message = request_message before r;
      rest = rest;
      spelled = refl;
      upload = ap request_command e;
    }

-- ---- the actions

ado_sent : (adp ado : ℕ) → (adp % 65536 + 65536 * ado) / 65536 ≡ ado
ado_sent adp ado = omega arith

pub harmless_actions : HarmlessActions
harmless_actions CountSlaves number doable of_scan = quiet _ refl refl
harmless_actions AskInit number doable of_scan = mild _ 0x0120 (ado_sent 0 0x0120) refl init_mild
harmless_actions AwaitInit number doable of_scan = absurd of_scan
harmless_actions ClearFmmus number doable of_scan = absurd of_scan
harmless_actions ClearManagers number doable of_scan = absurd of_scan
harmless_actions ClearStations number doable of_scan = mild _ 0x0010 (ado_sent 0 0x0010) refl (zeros_mild 0x0010 2 (omega arith))
harmless_actions (NameSlave i) number doable of_scan = mild _ 0x0010 (ado_sent (65536 - i) 0x0010) refl (aside 0x0010 _ (omega arith))
harmless_actions (AskWord i which) number doable of_scan = mild _ 0x0502 (ado_sent (0x1001 + i) 0x0502) refl (sii_mild _ _ _ _)
harmless_actions (AwaitWord i which) number doable of_scan = quiet _ refl refl
harmless_actions (SetManager i place m r) number doable of_scan =
    mild _ (0x0800 + 8 * r.number) (ado_sent (0x1001 + i) (0x0800 + 8 * r.number)) refl (manager_mild r.number _ of_scan refl)
harmless_actions (SetFmmu i n f start) number doable of_scan = absurd of_scan
harmless_actions (AskState i state) number doable of_scan = mild _ 0x0120 (ado_sent (0x1001 + i) 0x0120) refl (state_mild state of_scan)
harmless_actions (AwaitState i state) number doable of_scan = quiet _ refl refl
harmless_actions (SendRequest i before b r) number doable of_scan =
    mild _ b.receive_start (ado_sent (0x1001 + i) b.receive_start) refl
    (request_mild b.receive_start _ of_scan.1 (asks_to_upload before r _ of_scan.0))
harmless_actions (AwaitReply i b r) number doable of_scan = quiet _ refl refl
harmless_actions (AwaitFreeReply i b r) number doable of_scan = quiet _ refl refl
harmless_actions AwaitInitState number doable of_scan = quiet _ refl refl
harmless_actions ClearAllFmmus number doable of_scan = mild _ 0x0600 (ado_sent 0 0x0600) refl (zeros_mild 0x0600 256 (omega arith))
harmless_actions ClearAllManagers number doable of_scan = mild _ 0x0800 (ado_sent 0 0x0800) refl (zeros_mild 0x0800 128 (omega arith))
harmless_actions (AssignSii access) number doable of_scan = mild _ 0x0500 (ado_sent 0 0x0500) refl (access_mild _)
harmless_actions ClearSiiError number doable of_scan = mild _ 0x0502 (ado_sent 0 0x0502) refl (zeros_mild 0x0502 2 (omega arith))
harmless_actions (AwaitCleanInit i) number doable of_scan = quiet _ refl refl
harmless_actions (FeedPart f) number doable of_scan = absurd of_scan
