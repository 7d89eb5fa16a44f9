-- The managers of a slave go by runs.
use Rattle.std.proofs.Common.{ℕ, zero, suc, ◌+◌, ◌≡◌, ◌≤◌, ◌==◌, ◌&&◌, not, Bool, true, false, Option, Some, None, is_some, option_map, unwrap_or, refl, sym, ◌∙◌, ap, subst, inl, inr, if◌then◌else◌, List, [], ◌∷◌, ◌++◌, map, slice_set, ◌<◌, length-append, arith, append-nil, length, length-set}
use Rattle.std.proofs.lemmas.List.Elements.{All-nil, All-cons, All-append}
use Rattle.std.proofs.lemmas.Bool.{cases_Bool, and_parts, eq-eqb, ne_eqb}
use Rattle.ec_bits.proofs.AnyLaws.{if_true, if_false}
use Rattle.ec_device.specs.declared.hardware.Hardware.{Hardware}
use Rattle.ec_device.specs.Hardware.{has_emergency}
use Rattle.ec_al.specs.Al.{Al, is_operational}
use Rattle.ec_al.specs.declared.state.State.{State}
use Rattle.ec_al.specs.declared.state.State.TheVariants.{Init, PreOp, SafeOp, Op}
use Rattle.ec_coe.specs.declared.message.Message.{Message}
use Rattle.ec_coe.specs.Emergency.{emergency_bytes}
use Rattle.ec_frame.specs.declared.command.Command.{Command}
use Rattle.ec_frame.specs.declared.command.Command.TheVariants.{Nop, Aprd, Apwr, Aprw, Fprd, Fpwr, Fprw, Brd, Bwr, Brw, Lrd, Lwr, Lrw, Armw, Frmw}
use Rattle.ec_frame.specs.Datagram.{Datagram, adp_of}
use Rattle.ec_sync.specs.Buffer.{Got}
use Rattle.ec_sync.specs.SyncManager.{SyncManager, awaiting, zeros_published, app_put, app_got, after_get, may_write, may_read, message_taken, message_put}
use Rattle.ec_sync.specs.Runs.{Operation, Configure, Lock, Empty, PublishZeros, Await, RingWrite, RingRead, AppPut, AppGet, MessageTake, MessagePut, step, run}
use Rattle.ec_fmmu.specs.Applied.{touched_by_reading, touched_by_writing}
use Rattle.ec_slave.specs.Roles.{role_of, is_reading, is_writing}
use Rattle.ec_slave.specs.State.{SlaveState, manager_at, fmmus, station_of}
use Rattle.ec_slave.specs.Managers.{gets_at, is_written_by, manager_after}
use Rattle.ec_slave.specs.Physical.{touches, is_configured, settings_written, physical_after, physical_met}
use Rattle.ec_slave.specs.AgainstAll.{each_from, governs_among, value_among, bits_among}
use Rattle.ec_slave.specs.Logical.{meets_logically, span_of}
use Rattle.ec_slave.specs.Meeting.{meets, meets_by, meets_physically, window_of}
use Rattle.ec_slave.specs.Application.{is_running, with_manager, output_taken}
use Rattle.ec_slave.specs.Serving.{served, al_decided, awaited_by, awaited_if, has_outputs, is_slow, is_awaiting, waited_once, outputs_awaited, emergency_put, greets_by, replies_decided, reply_counter, with_al, request_decided, read_finished, message_served, managers_entered, unlocked_empty, reply_given, request_in, refusal_in, sent, bytes_to, is_served, is_init, is_safeop, is_preop}
use Rattle.ec_slave.specs.Faulting.{faulted, locked_empty}
use Rattle.ec_slave.specs.Steps.{AccessesAreSteps, IsRunTo, ManagersGoByRuns, is_of_ring, is_of_firmware, is_of_application, said_from, to_each, to_one, access_steps, physical_steps, logical_steps, steps_met, steps_awaited, steps_entered, steps_greeted, steps_decided, steps_said, steps_to, bytes_back, message_steps, steps_answered}
use Rattle.ec_slave.proofs.Memory.AgainstAll.{physical_against_all, logical_against_all}
use Rattle.ec_slave.proofs.AppAccess.WholeInputs.{both_true}

-- ---- one access

swapped : (a b : Bool) (x y : SyncManager) → (if a && b then x else y) ≡ (if b && a then x else y)
swapped true true x y = refl
swapped true false x y = refl
swapped false true x y = refl
swapped false false x y = refl

writes_one : (read_touches write_touches own : ℕ → Bool) (value : ℕ → ℕ → List ℕ) (m : SyncManager)
    → manager_after false true read_touches write_touches own value m
    ≡ step m (RingWrite (gets_at write_touches own m) (value m.settings.start m.settings.length))
writes_one rt wt own value m = swapped (may_write m) (gets_at wt own m) _ m

reads_one : (read_touches write_touches own : ℕ → Bool) (value : ℕ → ℕ → List ℕ) (m : SyncManager)
    → manager_after true false read_touches write_touches own value m ≡ step m (RingRead (gets_at read_touches own m))
reads_one rt wt own value m = swapped (may_read m) (gets_at rt own m) _ m

does_one : (read_touches write_touches own : ℕ → Bool) (value : ℕ → ℕ → List ℕ) (m : SyncManager)
    → manager_after true true read_touches write_touches own value m
    ≡ step m (if is_written_by write_touches own m then RingWrite true (value m.settings.start m.settings.length) else RingRead (gets_at read_touches own m))
does_one rt wt own value m = elim (cases_Bool (is_written_by wt own m)) [
  | inl t ↦
      let may : may_write m ≡ true = (both_true (may_write m) _ t).0 in
      if_true _ _ _ t
      ∙ (sym (if_true _ _ _ may)
      ∙ ap (step m) (sym (if_true _ (RingWrite true (value m.settings.start m.settings.length)) (RingRead (gets_at rt own m)) t)))
  | inr f ↦
      if_false _ _ _ f
      ∙ (swapped (may_read m) (gets_at rt own m) _ m
      ∙ ap (step m) (sym (if_false _ (RingWrite true (value m.settings.start m.settings.length)) (RingRead (gets_at rt own m)) f)))
]

pub accesses_are_steps : AccessesAreSteps
accesses_are_steps = record { writes = writes_one; reads = reads_one; both = does_one }

-- ---- runs

abbrev IsOf : (Operation → Bool) → Operation → Type 0
IsOf kind o = kind o ≡ true

no_run : (kind : Operation → Bool) (most : ℕ) (m : SyncManager) → IsRunTo kind most [] m m
no_run kind most m = record { of_kind = All-nil (IsOf kind); few = omega arith; leads = refl }

one_step : (kind : Operation → Bool) (most : ℕ) (m after : SyncManager) (o : Operation) → 0 < most → kind o ≡ true → step m o ≡ after → IsRunTo kind most (o ∷ []) m after
one_step kind most m after o l k e = record { of_kind = All-cons (IsOf kind) o [] k (All-nil (IsOf kind)); few = omega (arith, l); leads = e }

two_steps : (kind : Operation → Bool) (m after : SyncManager) (o p : Operation) → kind o ≡ true → kind p ≡ true → step (step m o) p ≡ after → IsRunTo kind 2 (o ∷ p ∷ []) m after
two_steps kind m after o p k l e = record { of_kind = All-cons (IsOf kind) o (p ∷ []) k (All-cons (IsOf kind) p [] l (All-nil (IsOf kind))); few = omega arith; leads = e }

pub run-append : (m : SyncManager) (xs ys : List Operation) → run m (xs ++ ys) ≡ run (run m xs) ys
run-append m [] ys = refl
run-append m (x ∷ xs) ys = run-append (step m x) xs ys

then_run : (kind : Operation → Bool) (i j : ℕ) (xs ys : List Operation) (a b c : SyncManager) → IsRunTo kind i xs a b → IsRunTo kind j ys b c → IsRunTo kind (i + j) (xs ++ ys) a c
then_run kind i j xs ys a b c x y =
    let few_xs = x.few in
    let few_ys = y.few in
    record {
      of_kind = All-append (IsOf kind) xs ys x.of_kind y.of_kind;
      few = let long = length-append xs ys in omega (arith, long, few_xs, few_ys);
      leads = run-append a xs ys ∙ (ap (λ (m : SyncManager). run m ys) x.leads ∙ y.leads);
    }

either_run : (kind : Operation → Bool) (most : ℕ) (b : Bool) (xs ys : List Operation) (m x y : SyncManager) → IsRunTo kind most xs m x → IsRunTo kind most ys m y
    → IsRunTo kind most (if b then xs else ys) m (if b then x else y)
either_run kind most true xs ys m x y p q = p
either_run kind most false xs ys m x y p q = q

-- ---- each manager of a list

abbrev AllRunTo : (Operation → Bool) → ℕ → (ℕ → List Operation) → List SyncManager → List SyncManager → Type 0
AllRunTo kind most steps ms ns = (n : ℕ) → IsRunTo kind most (steps n) (manager_at ms n) (manager_at ns n)

none_run : (kind : Operation → Bool) (most : ℕ) (steps : List Operation) (m : SyncManager) → steps ≡ [] → IsRunTo kind most steps m m
none_run kind most steps m e = subst (λ (os : List Operation). IsRunTo kind most os m m) (sym e) (no_run kind most m)

beyond : (i : ℕ) (f : ℕ → SyncManager → List Operation) (ms : List SyncManager) (n : ℕ) → ((j : ℕ) (m : SyncManager) → i ≤ j → f j m ≡ []) → said_from i f ms n ≡ []
beyond i f [] n none = refl
beyond i f (m ∷ ms) zero none = none i m (omega arith)
beyond i f (m ∷ ms) (suc n) none = beyond (i + 1) f ms n (λ j x l. none j x (omega (arith, l)))

set_from : (kind : Operation → Bool) (most i k t : ℕ) (ops : List Operation) (ms : List SyncManager) (m : SyncManager) → t ≡ i + k → IsRunTo kind most ops (manager_at ms k) m
    → AllRunTo kind most (λ n. said_from i (λ j x. if j == t then ops else []) ms n) ms (slice_set ms k m)
set_from kind most i k t ops [] m e r n = no_run kind most _
set_from kind most i zero t ops (x ∷ ms) m e r zero =
    subst (λ (os : List Operation). IsRunTo kind most os x m) (sym (if_true _ ops [] (eq-eqb i t (omega (arith, e))))) r
set_from kind most i zero t ops (x ∷ ms) m e r (suc n) =
    none_run kind most _ _ (beyond (i + 1) (λ j y. if j == t then ops else []) ms n (λ j y l. if_false _ ops [] (ne_eqb j t (λ q. omega (arith, e, l, q)))))
set_from kind most i (suc k) t ops (x ∷ ms) m e r zero = none_run kind most _ _ (if_false _ ops [] (ne_eqb i t (λ q. omega (arith, e, q))))
set_from kind most i (suc k) t ops (x ∷ ms) m e r (suc n) = set_from kind most (i + 1) k t ops ms m (omega (arith, e)) r n

set_run : (kind : Operation → Bool) (most : ℕ) (ms : List SyncManager) (k : ℕ) (ops : List Operation) (m : SyncManager) → IsRunTo kind most ops (manager_at ms k) m
    → AllRunTo kind most (to_one k ops ms) ms (slice_set ms k m)
set_run kind most ms k ops m r n = set_from kind most 0 k k ops ms m (omega arith) r n

map_from : (kind : Operation → Bool) (most i : ℕ) (ops : List Operation) (f : SyncManager → SyncManager) (ms : List SyncManager) → ((m : SyncManager) → IsRunTo kind most ops m (f m))
    → AllRunTo kind most (λ n. said_from i (λ j m. ops) ms n) ms (map f ms)
map_from kind most i ops f [] r n = no_run kind most _
map_from kind most i ops f (x ∷ ms) r zero = r x
map_from kind most i ops f (x ∷ ms) r (suc n) = map_from kind most (i + 1) ops f ms r n

each_run : (kind : Operation → Bool) (most i : ℕ) (ops : ℕ → SyncManager → List Operation) (f : ℕ → SyncManager → SyncManager) (ms : List SyncManager)
    → ((k : ℕ) (m : SyncManager) → IsRunTo kind most (ops k m) m (f k m)) → AllRunTo kind most (λ n. said_from i ops ms n) ms (each_from i f ms)
each_run kind most i ops f [] r n = no_run kind most _
each_run kind most i ops f (x ∷ ms) r zero = r i x
each_run kind most i ops f (x ∷ ms) r (suc n) = each_run kind most (i + 1) ops f ms r n

either_all : (kind : Operation → Bool) (most : ℕ) (b : Bool) (p q : ℕ → List Operation) (ms xs ys : List SyncManager) → AllRunTo kind most p ms xs → AllRunTo kind most q ms ys
    → AllRunTo kind most (λ n. if b then p n else q n) ms (if b then xs else ys)
either_all kind most true p q ms xs ys r o = r
either_all kind most false p q ms xs ys r o = o

none_all : (kind : Operation → Bool) (most : ℕ) (ms : List SyncManager) → AllRunTo kind most (λ n. []) ms ms
none_all kind most ms n = no_run kind most _

-- the managers of a slave that became another
abbrev SlaveRuns : (Operation → Bool) → ℕ → (ℕ → List Operation) → SlaveState → SlaveState → Type 0
SlaveRuns kind most steps s t = AllRunTo kind most steps s.managers t.managers

either_slave : (kind : Operation → Bool) (most : ℕ) (b : Bool) (p : ℕ → List Operation) (s x : SlaveState) → SlaveRuns kind most p s x
    → SlaveRuns kind most (λ n. if b then p n else []) s (if b then x else s)
either_slave kind most true p s x r = r
either_slave kind most false p s x r = none_all kind most s.managers

-- ---- datagrams

either_of_ring : (b : Bool) (o p : Operation) → is_of_ring o ≡ true → is_of_ring p ≡ true → is_of_ring (if b then o else p) ≡ true
either_of_ring true o p x y = x
either_of_ring false o p x y = y

accessed : (reads writes : Bool) (read_touches write_touches own : ℕ → Bool) (value : ℕ → ℕ → List ℕ) (m : SyncManager)
    → IsRunTo is_of_ring 1 (access_steps reads writes read_touches write_touches own value m) m (manager_after reads writes read_touches write_touches own value m)
accessed true true rt wt own value m =
    one_step is_of_ring 1 m _ (if is_written_by wt own m then RingWrite true (value m.settings.start m.settings.length) else RingRead (gets_at rt own m)) (omega arith)
    (either_of_ring (is_written_by wt own m) (RingWrite true (value m.settings.start m.settings.length)) (RingRead (gets_at rt own m)) refl refl)
    (sym (does_one rt wt own value m))
accessed true false rt wt own value m = one_step is_of_ring 1 m _ (RingRead (gets_at rt own m)) (omega arith) refl (sym (reads_one rt wt own value m))
accessed false true rt wt own value m =
    one_step is_of_ring 1 m _ (RingWrite (gets_at wt own m) (value m.settings.start m.settings.length)) (omega arith) refl (sym (writes_one rt wt own value m))
accessed false false rt wt own value m = no_run is_of_ring 1 m

physically_run : (s : SlaveState) (d : Datagram) → SlaveRuns is_of_ring 1 (physical_steps s d) s (meets_physically s d).slave
unfolding physical_met physical_after
physically_run s d =
    let role = role_of d.command (adp_of d) (station_of s) in
    let reads : Bool = is_reading role in
    let writes : Bool = is_writing role in
    let w = window_of d in
    subst (λ (ms : List SyncManager). AllRunTo is_of_ring 1 (physical_steps s d) s.managers ms) (sym (physical_against_all s.kind.hardware reads writes w s.managers))
    (each_run is_of_ring 1 0 _ _ s.managers (λ n m. either_run is_of_ring 1 (writes && is_configured s.kind.hardware w n) _ _ m _ _
    (one_step is_of_ring 1 m _ (Configure (settings_written s.kind.hardware w n m)) (omega arith) refl refl) (accessed reads writes (touches w) (touches w) (governs_among s.managers n) (value_among s.managers w n) m)))

logically_run : (s : SlaveState) (reading writing : Bool) (weight : ℕ) (d : Datagram) → SlaveRuns is_of_ring 1 (logical_steps s reading writing d) s (meets_logically reading writing weight s d).slave
unfolding meets_logically
logically_run s reading writing weight d =
    subst (λ (ms : List SyncManager). AllRunTo is_of_ring 1 (logical_steps s reading writing d) s.managers ms) (sym (logical_against_all reading writing (fmmus s) (span_of d) d.data_bytes s.managers))
    (each_run is_of_ring 1 0 _ _ s.managers (λ n m. accessed reading writing (touched_by_reading (fmmus s) (span_of d)) (touched_by_writing (fmmus s) (span_of d))
    (governs_among s.managers n) (bits_among s.managers (fmmus s) (span_of d) d.data_bytes n) m))

lrw_run : (b : Bool) (s : SlaveState) (d : Datagram)
    → SlaveRuns is_of_ring 1 (λ n. if b then logical_steps s true true d n else []) s (if b then meets_logically true true 2 s d else record { slave = s; datagram = d }).slave
lrw_run true s d = logically_run s true true 2 d
lrw_run false s d = none_all is_of_ring 1 s.managers

by_run : (c : Command) (s : SlaveState) (d : Datagram) → SlaveRuns is_of_ring 1 (steps_met c s d) s (meets_by c s d).slave
by_run Nop s d = none_all is_of_ring 1 s.managers
by_run Aprd s d = physically_run s d
by_run Apwr s d = physically_run s d
by_run Aprw s d = physically_run s d
by_run Fprd s d = physically_run s d
by_run Fpwr s d = physically_run s d
by_run Fprw s d = physically_run s d
by_run Brd s d = physically_run s d
by_run Bwr s d = physically_run s d
by_run Brw s d = physically_run s d
by_run Lrd s d = logically_run s true false 1 d
by_run Lwr s d = logically_run s false true 1 d
by_run Lrw s d = lrw_run s.kind.lrw s d
by_run Armw s d = physically_run s d
by_run Frmw s d = physically_run s d

met_run : (s : SlaveState) (d : Datagram) → SlaveRuns is_of_ring 1 (steps_met d.command s d) s (meets s d).slave
unfolding meets
met_run s d = by_run d.command s d

-- ---- the firmware

entered_run : (old new : State) (ms : List SyncManager) → AllRunTo is_of_firmware 2 (steps_entered old new ms) ms (managers_entered old new ms)
entered_run old new ms =
    either_all is_of_firmware 2 (is_init new && not (is_init old)) (to_each (Lock false ∷ Empty ∷ []) ms) (λ n. if is_safeop new && is_preop old then to_one 3 (PublishZeros ∷ []) ms n else []) ms _ _
    (map_from is_of_firmware 2 0 (Lock false ∷ Empty ∷ []) unlocked_empty ms (λ m. two_steps is_of_firmware m _ (Lock false) Empty refl refl refl))
    (either_all is_of_firmware 2 (is_safeop new && is_preop old) (to_one 3 (PublishZeros ∷ []) ms) (λ n. []) ms _ _
    (set_run is_of_firmware 2 ms 3 (PublishZeros ∷ []) _ (one_step is_of_firmware 2 (manager_at ms 3) _ PublishZeros (omega arith) refl refl))
    (none_all is_of_firmware 2 ms))

-- SAFEOP is entered: zeros at most
safeop_run : (old : State) (ms : List SyncManager) → AllRunTo is_of_firmware 1 (steps_entered old SafeOp ms) ms (managers_entered old SafeOp ms)
safeop_run old ms =
    either_all is_of_firmware 1 (is_preop old) (to_one 3 (PublishZeros ∷ []) ms) (λ n. []) ms _ _
    (set_run is_of_firmware 1 ms 3 (PublishZeros ∷ []) _ (one_step is_of_firmware 1 (manager_at ms 3) _ PublishZeros (omega arith) refl refl))
    (none_all is_of_firmware 1 ms)

awaited_run : (outputs : Bool) (ms : List SyncManager) → AllRunTo is_of_firmware 1 (to_one 2 (Await outputs ∷ []) ms) ms (slice_set ms 2 (awaiting (manager_at ms 2) outputs))
awaited_run outputs ms = set_run is_of_firmware 1 ms 2 (Await outputs ∷ []) _ (one_step is_of_firmware 1 (manager_at ms 2) _ (Await outputs) (omega arith) refl refl)

-- the steps that are given by the managers before are those of the managers then: there are as many
as_long : (k : ℕ) (ops : List Operation) (i : ℕ) (xs ys : List SyncManager) (n : ℕ) → length xs ≡ length ys
    → said_from i (λ j m. if j == k then ops else []) xs n ≡ said_from i (λ j m. if j == k then ops else []) ys n
as_long k ops i [] [] n e = refl
as_long k ops i [] (y ∷ ys) n e = absurd (omega (arith, e))
as_long k ops i (x ∷ xs) [] n e = absurd (omega (arith, e))
as_long k ops i (x ∷ xs) (y ∷ ys) zero e = refl
as_long k ops i (x ∷ xs) (y ∷ ys) (suc n) e = as_long k ops (i + 1) xs ys n (omega (arith, e))

zeros_long : (b : Bool) (ms : List SyncManager) → length (if b then slice_set ms 3 (zeros_published (manager_at ms 3)) else ms) ≡ length ms
zeros_long true ms = length-set ms 3 (zeros_published (manager_at ms 3))
zeros_long false ms = refl

-- nothing follows
followed_by_none : (kind : Operation → Bool) (most : ℕ) (ops : List Operation) (m after : SyncManager) → IsRunTo kind most ops m after → IsRunTo kind most (ops ++ []) m after
followed_by_none kind most ops m after r = subst (λ (os : List Operation). IsRunTo kind most os m after) (sym (append-nil ops)) r

-- a state is entered, and outputs are awaited
state_run : (o : Option Hardware) (outputs : Bool) (old new : State) (ms : List SyncManager)
    → AllRunTo is_of_firmware 2 (λ n. steps_entered old new ms n ++ steps_awaited o outputs old new ms n) ms (outputs_awaited o outputs old new (managers_entered old new ms))
state_run None outputs old new ms n = followed_by_none is_of_firmware 2 _ _ _ (entered_run old new ms n)
state_run (Some h) outputs old Init ms n = followed_by_none is_of_firmware 2 _ _ _ (entered_run old Init ms n)
state_run (Some h) outputs old PreOp ms n = followed_by_none is_of_firmware 2 _ _ _ (entered_run old PreOp ms n)
state_run (Some h) outputs old SafeOp ms n = by (is_safeop old)
  where
    entered : List SyncManager
    entered = managers_entered old SafeOp ms

    first : Bool
    first = h.has_firmware && outputs

    then_awaited : IsRunTo is_of_firmware 2 (steps_entered old SafeOp ms n ++ to_one 2 (Await first ∷ []) ms n) (manager_at ms n) (manager_at (slice_set entered 2 (awaiting (manager_at entered 2) first)) n)
    then_awaited =
        then_run is_of_firmware 1 1 (steps_entered old SafeOp ms n) (to_one 2 (Await first ∷ []) ms n) (manager_at ms n) (manager_at entered n) _ (safeop_run old ms n)
        (subst (λ (os : List Operation). IsRunTo is_of_firmware 1 os (manager_at entered n) (manager_at (slice_set entered 2 (awaiting (manager_at entered 2) first)) n))
        (as_long 2 (Await first ∷ []) 0 entered ms n (zeros_long (is_preop old) ms)) (awaited_run first entered n))

    by : (b : Bool) → IsRunTo is_of_firmware 2 (steps_entered old SafeOp ms n ++ (if not b then to_one 2 (Await first ∷ []) ms n else [])) (manager_at ms n)
        (let xs : List SyncManager = if not b then slice_set entered 2 (awaiting (manager_at entered 2) first) else entered in manager_at xs n)
    by true = followed_by_none is_of_firmware 2 _ _ _ (entered_run old SafeOp ms n)
    by false = then_awaited
state_run (Some h) outputs old Op ms n = followed_by_none is_of_firmware 2 _ _ _ (entered_run old Op ms n)

-- an emergency is put as PREOP is entered from INIT: nothing else is done to a manager then
put_alone : (o : Option Hardware) (outputs : Bool) (ms : List SyncManager) (bytes : List ℕ)
    → AllRunTo is_of_firmware 2 (λ n. (steps_entered Init PreOp ms n ++ steps_awaited o outputs Init PreOp ms n) ++ to_one 1 (MessagePut bytes ∷ []) ms n) ms
    (let xs : List SyncManager = outputs_awaited o outputs Init PreOp (managers_entered Init PreOp ms) in slice_set xs 1 (message_put (manager_at xs 1) bytes))
put_alone None outputs ms bytes = set_run is_of_firmware 2 ms 1 (MessagePut bytes ∷ []) _ (one_step is_of_firmware 2 (manager_at ms 1) _ (MessagePut bytes) (omega arith) refl refl)
put_alone (Some h) outputs ms bytes = set_run is_of_firmware 2 ms 1 (MessagePut bytes ∷ []) _ (one_step is_of_firmware 2 (manager_at ms 1) _ (MessagePut bytes) (omega arith) refl refl)

-- a state is entered, outputs are awaited, and an emergency is sent
greeted_run : (o : Option Hardware) (outputs : Bool) (old new : State) (ms : List SyncManager) (g : Bool) (replies : ℕ) → (g ≡ true → (old ≡ Init) × (new ≡ PreOp))
    → AllRunTo is_of_firmware 2 (λ n. (steps_entered old new ms n ++ steps_awaited o outputs old new ms n) ++ steps_greeted g replies ms n) ms
    (emergency_put g replies (outputs_awaited o outputs old new (managers_entered old new ms)))
greeted_run o outputs old new ms false replies h = λ n. followed_by_none is_of_firmware 2 _ _ _ (state_run o outputs old new ms n)
greeted_run o outputs old new ms true replies h =
    subst (λ (x : State). AllRunTo is_of_firmware 2 (λ n. (steps_entered x new ms n ++ steps_awaited o outputs x new ms n) ++ steps_greeted true replies ms n) ms
    (emergency_put true replies (outputs_awaited o outputs x new (managers_entered x new ms)))) (sym (h refl).0)
    (subst (λ (x : State). AllRunTo is_of_firmware 2 (λ n. (steps_entered Init x ms n ++ steps_awaited o outputs Init x ms n) ++ steps_greeted true replies ms n) ms
    (emergency_put true replies (outputs_awaited o outputs Init x (managers_entered Init x ms)))) (sym (h refl).1)
    (put_alone o outputs ms (emergency_bytes (reply_counter replies))))

init-is : (x : State) → is_init x ≡ true → x ≡ Init
init-is Init e = refl
init-is PreOp e = cc
init-is SafeOp e = cc
init-is Op e = cc

preop-is : (x : State) → is_preop x ≡ true → x ≡ PreOp
preop-is Init e = cc
preop-is PreOp e = refl
preop-is SafeOp e = cc
preop-is Op e = cc

pub greets-between : (s : SlaveState) (a : Al) → greets_by s a ≡ true → (s.al.state ≡ Init) × (a.state ≡ PreOp)
greets-between s a e =
    let behind = (and_parts (has_emergency s.kind.hardware) _ e).1 in
    let new = and_parts (is_preop a.state) _ behind in
    let old = and_parts (is_init s.al.state) _ new.1 in
    (init-is s.al.state old.0, preop-is a.state new.0)

decided_run : (s : SlaveState) → SlaveRuns is_of_firmware 2 (steps_decided s) s (request_decided s)
unfolding request_decided
decided_run s =
    either_slave is_of_firmware 2 s.al.requested (λ n. if is_slow s.kind.hardware s then [] else (if is_awaiting s.kind.hardware s then [] else steps_to s a n)) s _
    (by (is_slow s.kind.hardware s) (is_awaiting s.kind.hardware s))
  where
    a : Al
    a = al_decided s.kind.hardware s

    by : (b c : Bool) → SlaveRuns is_of_firmware 2 (λ n. if b then [] else (if c then [] else steps_to s a n)) s (if b then waited_once s else (if c then s else with_al s a))
    by true c = none_all is_of_firmware 2 s.managers
    by false true = none_all is_of_firmware 2 s.managers
    by false false = greeted_run s.kind.hardware (has_outputs s) s.al.state a.state s.managers (greets_by s a) (replies_decided s a) (greets-between s a)

same_managers : (s : SlaveState) → (read_finished s).managers ≡ s.managers
unfolding read_finished
same_managers s = refl

either_way : (b : Bool) (steps : List Operation) → (if b then steps else steps) ≡ steps
either_way true steps = refl
either_way false steps = refl

-- of the managers behind the first two no one gets or gives a message
far_off : (back : Option (List ℕ)) (j : ℕ) (m : SyncManager) → 2 ≤ j → message_steps back j m ≡ []
far_off back j m l = if_false _ _ _ (ne_eqb j 0 (λ q. omega (arith, l, q))) ∙ if_false _ _ _ (ne_eqb j 1 (λ q. omega (arith, l, q)))

-- a message is taken out of manager 0, and a reply put into manager 1
apart_run : (ms : List SyncManager) (bytes : List ℕ)
    → AllRunTo is_of_firmware 1 (λ n. said_from 0 (message_steps (Some bytes)) ms n) ms (slice_set (slice_set ms 0 (message_taken (manager_at ms 0))) 1 (message_put (manager_at ms 1) bytes))
apart_run [] bytes n = no_run is_of_firmware 1 _
apart_run (x ∷ []) bytes zero = one_step is_of_firmware 1 x _ MessageTake (omega arith) refl refl
apart_run (x ∷ []) bytes (suc n) = no_run is_of_firmware 1 _
apart_run (x ∷ y ∷ ms) bytes zero = one_step is_of_firmware 1 x _ MessageTake (omega arith) refl refl
apart_run (x ∷ y ∷ ms) bytes (suc zero) = one_step is_of_firmware 1 y _ (MessagePut bytes) (omega arith) refl refl
apart_run (x ∷ y ∷ ms) bytes (suc (suc n)) = none_run is_of_firmware 1 _ _ (beyond 2 (message_steps (Some bytes)) ms n (far_off (Some bytes)))

-- or nothing is put
alone_run : (ms : List SyncManager)
    → AllRunTo is_of_firmware 1 (λ n. said_from 0 (message_steps None) ms n) ms (slice_set ms 0 (message_taken (manager_at ms 0)))
alone_run [] n = no_run is_of_firmware 1 _
alone_run (x ∷ ms) zero = one_step is_of_firmware 1 x _ MessageTake (omega arith) refl refl
alone_run (x ∷ ms) (suc n) = none_run is_of_firmware 1 _ _ (beyond 1 (message_steps None) ms n (λ j m l. if_false _ _ _ (ne_eqb j 0 (λ q. omega (arith, l, q))) ∙ either_way (j == 1) []))

put_one : (s : SlaveState) (bytes : List ℕ) → SlaveRuns is_of_firmware 1 (λ n. said_from 0 (message_steps (Some bytes)) s.managers n) s (sent (with_manager s 0 (message_taken (manager_at s.managers 0))) bytes)
put_one s bytes =
    let t : SlaveState = with_manager s 0 (message_taken (manager_at s.managers 0)) in
    subst (λ (m : SyncManager). AllRunTo is_of_firmware 1 (λ n. said_from 0 (message_steps (Some bytes)) s.managers n) s.managers (slice_set t.managers 1 (message_put m bytes))) (sym (next s.managers (message_taken (manager_at s.managers 0))))
    (apart_run s.managers bytes)
  where
    next : (ms : List SyncManager) (m : SyncManager) → manager_at (slice_set ms 0 m) 1 ≡ manager_at ms 1
    next [] m = refl
    next (x ∷ ms) m = refl

abbrev emptied : SlaveState → SlaveState
emptied s = with_manager s 0 (message_taken (manager_at s.managers 0))

message_one : (s : SlaveState) (f : Option (List ℕ)) (o : Option Message)
    → SlaveRuns is_of_firmware 1 (λ n. said_from 0 (message_steps (bytes_back (emptied s) f o)) s.managers n) s (reply_given (emptied s) f o)
message_one s None None = alone_run s.managers
message_one s (Some bytes) None = put_one s bytes
message_one s f (Some r) = put_one s (bytes_to (emptied s) r)

message_run : (s : SlaveState) → SlaveRuns is_of_firmware 1 (steps_answered s) s (message_served s)
unfolding message_served
message_run s = either_slave is_of_firmware 1 (is_served s) _ s _ (message_one s (refusal_in s) (request_in s))

served_run : (s : SlaveState) (n : ℕ) → IsRunTo is_of_firmware 3 (steps_decided s n ++ steps_answered (read_finished (request_decided s)) n) (manager_at s.managers n) (manager_at (served s).managers n)
unfolding served
served_run s n =
    let t : SlaveState = request_decided s in
    let u : SlaveState = read_finished t in
    then_run is_of_firmware 2 1 (steps_decided s n) (steps_answered u n) _ (manager_at u.managers n) _
    (subst (λ (ms : List SyncManager). IsRunTo is_of_firmware 2 (steps_decided s n) (manager_at s.managers n) (manager_at ms n)) (sym (same_managers t)) (decided_run s n)) (message_run u n)

-- a manager is locked and emptied, and awaits a value if that is said
lost_run : (o : Option Bool) (m : SyncManager) → IsRunTo is_of_firmware 3 (Lock true ∷ Empty ∷ steps_said o) m (awaited_if o (locked_empty m))
lost_run o m = then_run is_of_firmware 2 1 (Lock true ∷ Empty ∷ []) (steps_said o) m (locked_empty m) _ (two_steps is_of_firmware m _ (Lock true) Empty refl refl refl) (said_run o (locked_empty m))
  where
    said_run : (o : Option Bool) (m : SyncManager) → IsRunTo is_of_firmware 1 (steps_said o) m (awaited_if o m)
    said_run None m = no_run is_of_firmware 1 m
    said_run (Some b) m = one_step is_of_firmware 1 m _ (Await b) (omega arith) refl refl

faulted_run : (s : SlaveState) → SlaveRuns is_of_firmware 3 (λ n. if is_operational s.al.state then to_one 2 (Lock true ∷ Empty ∷ steps_said (awaited_by s.kind.hardware (has_outputs s) Op SafeOp)) s.managers n else []) s (faulted s)
unfolding faulted
faulted_run s =
    let o : Option Bool = awaited_by s.kind.hardware (has_outputs s) Op SafeOp in
    either_slave is_of_firmware 3 (is_operational s.al.state) (to_one 2 (Lock true ∷ Empty ∷ steps_said o) s.managers) s _
    (set_run is_of_firmware 3 s.managers 2 (Lock true ∷ Empty ∷ steps_said o) _ (lost_run o (manager_at s.managers 2)))

-- ---- the application

put_run : (s : SlaveState) (place byte : ℕ) (b : Bool) (o : Option SyncManager) → app_put (manager_at s.managers 3) place byte ≡ o
    → SlaveRuns is_of_application 1 (λ n. if is_some (if b then option_map (with_manager s 3) o else None) then to_one 3 (AppPut place byte ∷ []) s.managers n else [])
    s (unwrap_or (if b then option_map (with_manager s 3) o else None) s)
put_run s place byte true None e = none_all is_of_application 1 s.managers
put_run s place byte true (Some m) e =
    set_run is_of_application 1 s.managers 3 (AppPut place byte ∷ []) m
    (one_step is_of_application 1 (manager_at s.managers 3) m (AppPut place byte) (omega arith) refl (ap (λ (o : Option SyncManager). unwrap_or o (manager_at s.managers 3)) e))
put_run s place byte false o e = none_all is_of_application 1 s.managers

taken_run : (s : SlaveState) (place : ℕ) (b : Bool) (o : Option Got) → app_got (manager_at s.managers 2) place ≡ o
    → SlaveRuns is_of_application 1 (λ n. if is_some (if b then o else None) then to_one 2 (AppGet place ∷ []) s.managers n else []) s (output_taken s (if b then o else None))
taken_run s place true None e = none_all is_of_application 1 s.managers
taken_run s place true (Some got) e =
    set_run is_of_application 1 s.managers 2 (AppGet place ∷ []) _
    (one_step is_of_application 1 (manager_at s.managers 2) _ (AppGet place) (omega arith) refl (ap (after_get (manager_at s.managers 2)) e))
taken_run s place false o e = none_all is_of_application 1 s.managers

pub managers_go_by_runs : ManagersGoByRuns
managers_go_by_runs = record {
  met = met_run;
  served = served_run;
  faulted = faulted_run;
  put = λ s place byte. put_run s place byte (is_running s.al.state) (app_put (manager_at s.managers 3) place byte) refl;
  taken = λ s place. taken_run s place (is_running s.al.state) (app_got (manager_at s.managers 2) place) refl;
}
