-- What a session asks over a wire.
use Rattle.std.proofs.Common.{ℕ, zero, suc, ◌+◌, ◌≡◌, ◌∙◌, ◌<◌, ◌≤◌, List, [], ◌∷◌, ◌++◌, length, set, take, max, nat_lt, Bool, true, false, if◌then◌else◌, Option, None, Result, Ok, Err, refl, sym, ap, subst, arith}
use Rattle.std.specs.Prelude.{IsErrAnd, slice_get}
use Rattle.std.proofs.lemmas.List.{length-take, take_all, take_more_set}
use Rattle.ec_link.specs.declared.settings.SlavePlan.{SlavePlan}
use Rattle.ec_start.specs.declared.action.Feed.{Feed}
use Rattle.ec_start.specs.Running.{StartState, begun}
use Rattle.ec_start.specs.Feeding.{feeds_of}
use Rattle.ec_cycle.specs.Master.{MasterState, holds_value, variable_set}
use Rattle.ec_wire.specs.declared.error.RunError.{RunError}
use Rattle.ec_wire.specs.declared.error.SocketFault.{SocketFault}
use Rattle.ec_wire.specs.Wires.{WireState}
use Rattle.ec_asking.specs.declared.answer.AlStatus.{AlStatus}
use Rattle.ec_session.specs.Asking.{AreRead, AsksInit, IsReadPart, ReadsBy, ReadsStates, ReadsStatus, Stops, cleared, stopped}
use Rattle.ec_session.specs.Laws.{ClearingKeepsTheRest, ReadsKeepTheRest, StatusReadsKeepTheRest}
use Rattle.ec_session.specs.Sessions.{SessionState, zero_set, zeros_set}
use Rattle.ec_session.specs.Wired.{LosesAndCycles, run_refusal}

-- ---- the outputs become 0

-- one more
pub next_zero : (m x new : MasterState) (n : ℕ) → x ≡ zeros_set m n → new ≡ zero_set x n → new ≡ zeros_set m (n + 1)
next_zero m x new n so is =
    let more : suc n ≡ n + 1 = omega arith in
    subst (λ (k : ℕ). new ≡ zeros_set m k) more (subst (λ (y : MasterState). new ≡ zero_set y n) so is)

zero-keeps : (m : MasterState) (v : ℕ) (b : Bool) → (let x : MasterState = if b then variable_set m v 0 else m in x ≡ record m { outputs = x.outputs })
zero-keeps m v true = refl
zero-keeps m v false = refl

zeros-keep : (m : MasterState) (n : ℕ) → zeros_set m n ≡ record m { outputs = (zeros_set m n).outputs }
zeros-keep m zero = refl
zeros-keep m (suc n) =
    let x = zeros_set m n in
    zero-keeps x n (holds_value 0 (slice_get x.plan.variables n)) ∙ ap (λ (y : MasterState). record y { outputs = (zeros_set m (suc n)).outputs }) (zeros-keep m n)

pub clearing_keeps_the_rest : ClearingKeepsTheRest
clearing_keeps_the_rest m = zeros-keep m (length m.plan.variables)

pub zeros_plan : (m : MasterState) (n : ℕ) → (zeros_set m n).plan ≡ m.plan
zeros_plan m n = ap (λ (x : MasterState). x.plan) (zeros-keep m n)

-- ---- AL states are read

-- one that is read changes the count of questions alone
status_keeps : (b : Bool) (slave : ℕ) (s : SessionState) (w : WireState) (t : SessionState) (v : WireState) (told : Result (Option AlStatus) SocketFault) → ReadsBy b slave s w t v told → t ≡ record s { asked = t.asked }
status_keeps true slave s w t v told h = h.is ∙ ap (λ (n : ℕ). record s { asked = n }) (sym (ap (λ (x : SessionState). x.asked) h.is))
status_keeps false slave s w t v told (same, still, none) = same ∙ ap (λ (n : ℕ). record s { asked = n }) (sym (ap (λ (x : SessionState). x.asked) same))

pub status_reads_keep_the_rest : StatusReadsKeepTheRest
status_reads_keep_the_rest slave s t w v told h = status_keeps (nat_lt slave (length s.master.plan.slaves)) slave s w t v told h

one_keeps : (slave : ℕ) (s : SessionState) (w : WireState) (t : SessionState) (v : WireState) (told : Result (Option AlStatus) SocketFault) → ReadsStatus slave s w t v told → t ≡ record s { asked = t.asked }
one_keeps slave s w t v told h = status_keeps (nat_lt slave (length s.master.plan.slaves)) slave s w t v told h

all_keep : (k : ℕ) (s : SessionState) (w : WireState) (told : List (Option AlStatus)) (t : SessionState) (v : WireState) → AreRead k s w told t v → t ≡ record s { asked = t.asked }
all_keep k s w [] t v (same, still) = same ∙ ap (λ (n : ℕ). record s { asked = n }) (sym (ap (λ (x : SessionState). x.asked) same))
all_keep k s w (one ∷ more) t v (mid, between, first, rest) =
    all_keep (k + 1) mid between more t v rest ∙ ap (λ (x : SessionState). record x { asked = t.asked }) (one_keeps k s w mid between (Ok one) first)

pub reads_keep_the_rest : ReadsKeepTheRest
reads_keep_the_rest s t w v told (Ok done) h = all_keep 0 s w told t v h
reads_keep_the_rest s t w v told (Err fault) h =
    one_keeps (length h.told) h.mid h.between t v (Err h.fault) h.cut ∙ ap (λ (x : SessionState). record x { asked = t.asked }) (all_keep 0 s w h.told h.mid h.between h.read)

-- one more behind those that were read
pub read_push : (k : ℕ) (s mid t : SessionState) (w x v : WireState) (told : List (Option AlStatus)) (one : Option AlStatus) → AreRead k s w told mid x → ReadsStatus (k + length told) mid x t v (Ok one) → AreRead k s w (told ++ one ∷ []) t v
read_push k s mid t w x v [] one (same, still) h =
    let at : k + 0 ≡ k = omega arith in
    (t, v, subst (λ (n : ℕ). ReadsStatus n s w t v (Ok one)) at (subst (λ (y : WireState). ReadsStatus (k + 0) s y t v (Ok one)) still (subst (λ (y : SessionState). ReadsStatus (k + 0) y x t v (Ok one)) same h)), (refl, refl))
read_push k s mid t w x v (o ∷ told) one (next, between, first, rest) h =
    let at : k + length (o ∷ told) ≡ k + 1 + length told = omega arith in
    (next, between, first, read_push (k + 1) next mid t between x v told one rest (subst (λ (n : ℕ). ReadsStatus n mid x t v (Ok one)) at h))

-- the states of the first slaves are read, and then one more
pub read_on : (s mid t : SessionState) (w x v : WireState) (states : List (Option AlStatus)) (k : ℕ) (one : Option AlStatus) → k < length states → AreRead 0 s w (take k states) mid x → ReadsStatus k mid x t v (Ok one)
    → AreRead 0 s w (take (k + 1) (set states k one)) t v
read_on s mid t w x v states k one inside read h =
    let here : 0 + length (take k states) ≡ k = let l = length-take k states in omega (arith, l) in
    subst (λ (told : List (Option AlStatus)). AreRead 0 s w told t v) (sym (take_more_set states k one inside))
    (read_push 0 s mid t w x v (take k states) one read (subst (λ (n : ℕ). ReadsStatus n mid x t v (Ok one)) (sym here) h))

-- or a call of the wire was a fault
pub read_cut : (s mid t : SessionState) (w x v : WireState) (states : List (Option AlStatus)) (k : ℕ) (fault : SocketFault) → k < length states → AreRead 0 s w (take k states) mid x → ReadsStatus k mid x t v (Err fault)
    → IsReadPart s w t v
read_cut s mid t w x v states k fault inside read h =
    let here : length (take k states) ≡ k = let l = length-take k states in omega (arith, l) in
    record { told = take k states; mid = mid; between = x; read = read; fault = fault; cut = subst (λ (n : ℕ). ReadsStatus n mid x t v (Err fault)) (sym here) h }

-- what is returned then
pub part_read : (P : SocketFault → Type 0) (s t : SessionState) (w v : WireState) (told : List (Option AlStatus)) (r : Result Unit SocketFault) → IsErrAnd r P → IsReadPart s w t v → ReadsStates s w told t v r
part_read P s t w v told (Ok done) why part = absurd why
part_read P s t w v told (Err fault) why part = part

-- all of them
pub read_all : (s t : SessionState) (w v : WireState) (states : List (Option AlStatus)) (k : ℕ) → length states ≤ k → AreRead 0 s w (take k states) t v → AreRead 0 s w states t v
read_all s t w v states k all read = subst (λ (told : List (Option AlStatus)). AreRead 0 s w told t v) (take_all k states all) read

-- ---- the machine is stopped

-- cleared outputs refuse no cycle
pub cleared_refusal : (s : SessionState) → run_refusal (cleared s) ≡ run_refusal s
cleared_refusal s = ap (λ (m : MasterState). run_refusal (record s { master = m })) (clearing_keeps_the_rest s.master)

-- a start-up of the master's plan begins again, with a number that is new
pub begun_again : (s : SessionState) (start : StartState) (number : ℕ) → s.startup.plan ≡ s.master.plan.slaves → s.startup.feeds ≡ feeds_of s.master.plan → start ≡ begun s.startup.plan s.startup.feeds number → number ≡ max s.startup.next s.master.next → record s { startup = start } ≡ stopped s
begun_again s start number same fed is most =
    ap (λ (x : StartState). record s { startup = x })
    (is ∙ (ap (λ (n : ℕ). begun s.startup.plan s.startup.feeds n) most ∙ (ap (λ (ps : List SlavePlan). begun ps s.startup.feeds (max s.startup.next s.master.next)) same
    ∙ ap (λ (fs : List Feed). begun s.master.plan.slaves fs (max s.startup.next s.master.next)) fed)))

-- the cycle had a fault, and nothing is asked
pub stop_cut : (s empty mid : SessionState) (w v : WireState) (r : Result Unit RunError) (error : RunError) → IsErrAnd r (λ e. e ≡ error) → empty ≡ cleared s
    → (run_refusal empty ≡ None → LosesAndCycles empty w mid v (Err error)) → run_refusal s ≡ None → Stops s w mid v r
stop_cut s empty mid w v (Ok done) error why is ran free = absurd why
stop_cut s empty mid w v (Err e) error why is ran free =
    let cycles : LosesAndCycles (cleared s) w mid v (Err error) = subst (λ (x : SessionState). run_refusal x ≡ None → LosesAndCycles x w mid v (Err error)) is ran (cleared_refusal s ∙ free) in
    record { mid = mid; between = v; ran = Err e; cycles = subst (λ (x : RunError). LosesAndCycles (cleared s) w mid v (Err x)) (sym why) cycles; goes_on = (refl, refl, refl) }

-- or all slaves are asked
pub stop_on : (s empty mid t : SessionState) (w x v : WireState) (answer : Result Unit RunError) → empty ≡ cleared s → (run_refusal empty ≡ None → LosesAndCycles empty w mid x (Ok tt)) → AsksInit mid x t v answer → run_refusal s ≡ None
    → Stops s w t v answer
stop_on s empty mid t w x v answer is ran asks free =
    let cycles : LosesAndCycles (cleared s) w mid x (Ok tt) = subst (λ (y : SessionState). run_refusal y ≡ None → LosesAndCycles y w mid x (Ok tt)) is ran (cleared_refusal s ∙ free) in
    record { mid = mid; between = x; ran = Ok tt; cycles = cycles; goes_on = asks }
