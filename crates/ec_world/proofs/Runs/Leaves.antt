-- What each event of the plain machine leaves of frames, of the open cycle and of slaves.
use Rattle.ec_world.proofs.Words.{ℕ, ◌+◌, ◌<◌, ◌≤◌, ◌≡◌, ◌==◌, not, Bool, true, false, Option, Some, None, refl, sym, ◌∙◌, ap, subst, length, map, set, is_none, if◌then◌else◌, option_map, option_and_then, nat_lt, nat_le, slice_get, and_parts, leb-true, ltb-true, eqb-true, slice_get_within, get_or_from_slice_get, Variable, Meaning, share_of, has_outs, with_number, publishing, app_written, app_read, nones, Event, StartNext, Set, Begin, Pass, Lose, Return, Close, Serve, AppPut, AppGet, Fault, ResetSlave, Stop, Plain, PlainSlave, PlainFrame, step, frame_at, setting, moved, keeping, closing, filled, new_frames, is_working, is_reset, got_byte, failing, restarting, plain_slave, no_plain_slave, linked_outputs, may_pass, may_return, all_progress, progress_of, met_slave, taking, Health, Working, Faulted, Reset, none_some, some_same, cycle_begun, Buffer, List}
use Rattle.ec_world.specs.Plain as plain

pub guarded : {X : Type 0} (b : Bool) (x q : X) → (if b then Some x else None) ≡ Some q → x ≡ q
guarded true x q e = some_same x q e
guarded false x q e = absurd (none_some q e)

let_through : {X : Type 0} (b : Bool) (o : Option X) (q : X) → (if b then o else None) ≡ Some q → b ≡ true
let_through true o q e = refl
let_through false o q e = absurd (none_some q e)

pub record Mapped {X Y : Type 0} (f : X → Y) (o : Option X) (q : Y) : Type 0 where
  pub value : X
  pub there : o ≡ Some value
  pub is : f value ≡ q

pub mapped : {X Y : Type 0} (f : X → Y) (o : Option X) (q : Y) → option_map f o ≡ Some q → Mapped f o q
mapped f None q e = absurd (none_some q e)
mapped f (Some x) q e = record { value = x; there = refl; is = some_same (f x) q e }

pub chained : {X Y : Type 0} (f : X → Option Y) (o : Option X) (q : Y) → option_and_then f o ≡ Some q → Mapped f o (Some q)
chained f None q e = absurd (none_some q e)
chained f (Some x) q e = record { value = x; there = refl; is = e }

pub guarded_map : {X : Type 0} (b : Bool) (f : X → Plain) (o : Option X) (q : Plain) → (if b then option_map f o else None) ≡ Some q → Mapped f o q
guarded_map true f o q e = mapped f o q e
guarded_map false f o q e = absurd (none_some q e)

-- What an event leaves of the frames, the next number and the open cycle.
pub data Leaves (m : Meaning) (p : Plain) (e : Event) (q : Plain) : Type 0 where
  Stays : q.slots ≡ p.slots → q.next ≡ p.next → q.cycle ≡ p.cycle → Leaves m p e q
  Begins : e ≡ Begin → q.slots ≡ filled (new_frames p.next p.outputs 0 m.parts) p.slots → q.next ≡ p.next + 1
      → q.cycle ≡ Some (record { number = p.next; kept = map (λ u. None) m.parts }) → q.slaves ≡ p.slaves → length m.parts ≤ nones p.slots → Leaves m p e q
  Moves : (k : ℕ) (f : PlainFrame) → e ≡ Pass k → frame_at p k ≡ Some f → length f.notes < length p.slaves → q ≡ moved m p k f → Leaves m p e q
  Loses : (k : ℕ) → e ≡ Lose k → q ≡ record p { slots = set p.slots k None } → Leaves m p e q
  Returns : (k : ℕ) (f : PlainFrame) → frame_at p k ≡ Some f → q ≡ record p { cycle = option_map (keeping f) p.cycle; slots = set p.slots k None }
      → length f.notes ≡ length p.slaves → Leaves m p e q
  Closes : q.slots ≡ p.slots → q.next ≡ p.next → q.cycle ≡ None → Leaves m p e q

-- where only the slaves and the byte read last differ
stays_by : (m : Meaning) (p : Plain) (e : Event) (q : Plain) (r : Plain) → r ≡ q → r.slots ≡ p.slots → r.next ≡ p.next → r.cycle ≡ p.cycle → Leaves m p e q
stays_by m p e q r same a b c = subst (λ (x : Plain). Leaves m p e x) same (Stays a b c)

set_made : (p : Plain) (x : ℕ) (o : Option Variable) (q : Plain) → setting p x o ≡ Some q → (image : List ℕ) × (record p { outputs = image } ≡ q)
set_made p x None q e = absurd (none_some q e)
set_made p x (Some w) q e = (with_number p.outputs w.from w.bits x, guarded _ _ q e)

-- there was room for the frames of a cycle that begins
pub room_there : (m : Meaning) (p q : Plain) → step m p Begin ≡ Some q → length m.parts ≤ nones p.slots
room_there m p q e = leb-true _ _ (and_parts (nat_le (length m.parts) (nones p.slots)) _ (and_parts (is_none p.cycle) _ (let_through _ (Some (cycle_begun m p)) q e)).1).0

-- a frame that comes back passed all slaves
pub all_passed_by : (p : Plain) (k : ℕ) (q : Plain) (o : Option Plain) → (if may_return (length p.slaves) (option_map progress_of (frame_at p k)) then o else None) ≡ Some q
    → (f : PlainFrame) → frame_at p k ≡ Some f → length f.notes ≡ length p.slaves
all_passed_by p k q o h f at = eqb-true (length f.notes) (length p.slaves) (sym (ap (λ o. may_return (length p.slaves) (option_map progress_of o)) at) ∙ let_through _ o q h)

pub leaves : (m : Meaning) (p : Plain) (e : Event) (q : Plain) → step m p e ≡ Some q → Leaves m p e q
leaves m p StartNext q e = absurd (none_some q e)
leaves m p (Set v x) q e = let r = set_made p x (slice_get m.variables v) q e in stays_by m p (Set v x) q (record p { outputs = r.0 }) r.1 refl refl refl
leaves m p Begin q e = subst (λ (x : Plain). Leaves m p Begin x) (guarded _ (cycle_begun m p) q e) (Begins refl refl refl refl refl (room_there m p q e))
leaves m p (Pass k) q e =
    let r = guarded_map _ (moved m p k) (frame_at p k) q e in
    let may = sym (ap (λ o. may_pass (length p.slaves) (all_progress p.slots) (option_map progress_of o)) r.there) ∙ let_through _ _ q e in
    Moves k r.value refl r.there (ltb-true _ _ (and_parts (nat_lt (length r.value.notes) (length p.slaves)) _ may).0) (sym r.is)
leaves m p (Lose k) q e = Loses k refl (sym (guarded _ _ q e))
leaves m p (Return k) q e =
    let r = guarded_map _ (λ f. record p { cycle = option_map (keeping f) p.cycle; slots = set p.slots k None }) (frame_at p k) q e in
    Returns k r.value r.there (sym r.is) (all_passed_by p k q _ e r.value r.there)
leaves m p Close q e = let r = mapped (closing m p) p.cycle q e in subst (λ (x : Plain). Leaves m p Close x) r.is (Closes refl refl refl)
leaves m p (Serve s) q e = let r = chained (λ x. Some p) (slice_get p.slaves s) q e in stays_by m p (Serve s) q p (some_same p q r.is) refl refl refl
leaves m p (AppPut s i x) q e =
    let r = chained (λ y. if not (is_reset y.health) then option_map (λ b. plain.with_slave p s (record y { inputs = b })) (app_written y.inputs i x) else None) (slice_get p.slaves s) q e in
    let t = guarded_map (not (is_reset r.value.health)) (λ b. plain.with_slave p s (record r.value { inputs = b })) (app_written r.value.inputs i x) q r.is in
    stays_by m p (AppPut s i x) q (plain.with_slave p s (record r.value { inputs = t.value })) t.is refl refl refl
leaves m p (AppGet s i) q e =
    let r = chained (λ y. if is_working y.health then option_map (got_byte p s y) (app_read y.outputs i) else None) (slice_get p.slaves s) q e in
    let t = guarded_map (is_working r.value.health) (got_byte p s r.value) (app_read r.value.outputs i) q r.is in
    stays_by m p (AppGet s i) q (got_byte p s r.value t.value) t.is refl refl refl
leaves m p (Fault s) q e =
    let r = chained (λ y. if is_working y.health then Some (plain.with_slave p s (failing y)) else None) (slice_get p.slaves s) q e in
    stays_by m p (Fault s) q (plain.with_slave p s (failing r.value)) (guarded (is_working r.value.health) _ q r.is) refl refl refl
leaves m p (ResetSlave s) q e =
    let r = chained (λ y. Some (plain.with_slave p s (restarting y))) (slice_get p.slaves s) q e in
    stays_by m p (ResetSlave s) q (plain.with_slave p s (restarting r.value)) (some_same _ q r.is) refl refl refl
leaves m p Stop q e = absurd (none_some q e)

-- ---- slaves

-- what an event leaves of slaves: all as they are, or one other
pub data Treats (m : Meaning) (p : Plain) (e : Event) (q : Plain) : Type 0 where
  Same : q.slaves ≡ p.slaves → Treats m p e q
  Uses : (t : ℕ) (y : PlainSlave) → q.slaves ≡ set p.slaves t y → y.health ≡ (plain_slave p t).health → Treats m p e q
  Fails : (t : ℕ) (y : PlainSlave) → e ≡ Fault t → q.slaves ≡ set p.slaves t y → y.health ≡ Faulted → (plain_slave p t).health ≡ Working → Treats m p e q
  Resets : (t : ℕ) (y : PlainSlave) → e ≡ ResetSlave t → q.slaves ≡ set p.slaves t y → y.health ≡ Reset → Treats m p e q

-- a frame leaves what the outputs of a slave don't tell
pub met_leaves : {X : Type 0} (h : PlainSlave → X) (m : Meaning) (s : ℕ) (f : PlainFrame) (q : PlainSlave) → ((b : Buffer) → h (record q { outputs = b }) ≡ h q) → h (met_slave m s f q) ≡ h q
met_leaves h m s f q same = elim ((share_of m s).part == f.part) as (λ b. h (if b then taking m s f q q.health else q) ≡ h q) [ true ↦ took q.health | false ↦ refl ]
  where
    took : (x : Health) → h (taking m s f q x) ≡ h q
    took Working = elim (has_outs (share_of m s)) as (λ b. h (if b then record q { outputs = publishing q.outputs (linked_outputs m s f.snapshot) } else q) ≡ h q) [ true ↦ same _ | false ↦ refl ]
    took _ = refl

pub is_in_op : (h : Health) → is_working h ≡ true → h ≡ Working
is_in_op Working e = refl
is_in_op _ e = absurd (let z : false ≡ true = e in cc)

-- slave s is left with this health, and nothing else changes
pub record Turned (p : Plain) (s : ℕ) (h : Health) (q : Plain) : Type 0 where
  pub slave : PlainSlave
  pub now : slave.health ≡ h
  pub is : plain.with_slave p s slave ≡ q
  pub inside : s < length p.slaves

pub faulted : (m : Meaning) (p : Plain) (s : ℕ) (q : Plain) → step m p (Fault s) ≡ Some q → Turned p s Faulted q
faulted m p s q e =
    let r = chained (λ y. if is_working y.health then Some (plain.with_slave p s (failing y)) else None) (slice_get p.slaves s) q e in
    record { slave = failing r.value; now = refl; is = guarded (is_working r.value.health) _ q r.is; inside = slice_get_within p.slaves s r.value r.there }

pub switched : (m : Meaning) (p : Plain) (s : ℕ) (q : Plain) → step m p (ResetSlave s) ≡ Some q → Turned p s Reset q
switched m p s q e =
    let r = chained (λ y. Some (plain.with_slave p s (restarting y))) (slice_get p.slaves s) q e in
    record { slave = restarting r.value; now = refl; is = some_same _ q r.is; inside = slice_get_within p.slaves s r.value r.there }

pub treats : (m : Meaning) (p : Plain) (e : Event) (q : Plain) → step m p e ≡ Some q → Treats m p e q
treats m p StartNext q e = absurd (none_some q e)
treats m p (Set v x) q e = Same (sym (ap (λ (y : Plain). y.slaves) (set_made p x (slice_get m.variables v) q e).1))
treats m p Begin q e = Same (sym (ap (λ (y : Plain). y.slaves) (guarded _ _ q e)))
treats m p (Pass k) q e =
    let r = guarded_map _ (moved m p k) (frame_at p k) q e in
    let t = length r.value.notes in
    Uses t (met_slave m t r.value (plain_slave p t)) (sym (ap (λ (y : Plain). y.slaves) r.is)) (met_leaves (λ (y : PlainSlave). y.health) m t r.value (plain_slave p t) (λ b. refl))
treats m p (Lose k) q e = Same (sym (ap (λ (y : Plain). y.slaves) (guarded _ _ q e)))
treats m p (Return k) q e = let r = guarded_map _ (λ f. record p { cycle = option_map (keeping f) p.cycle; slots = set p.slots k None }) (frame_at p k) q e in Same (sym (ap (λ (y : Plain). y.slaves) r.is))
treats m p Close q e = let r = mapped (closing m p) p.cycle q e in Same (sym (ap (λ (y : Plain). y.slaves) r.is))
treats m p (Serve s) q e = let r = chained (λ x. Some p) (slice_get p.slaves s) q e in Same (sym (ap (λ (y : Plain). y.slaves) (some_same p q r.is)))
treats m p (AppPut s i x) q e =
    let r = chained (λ y. if not (is_reset y.health) then option_map (λ b. plain.with_slave p s (record y { inputs = b })) (app_written y.inputs i x) else None) (slice_get p.slaves s) q e in
    let t = guarded_map (not (is_reset r.value.health)) (λ b. plain.with_slave p s (record r.value { inputs = b })) (app_written r.value.inputs i x) q r.is in
    Uses s (record r.value { inputs = t.value }) (sym (ap (λ (y : Plain). y.slaves) t.is)) (ap (λ (y : PlainSlave). y.health) (sym (get_or_from_slice_get p.slaves s r.value no_plain_slave r.there)))
treats m p (AppGet s i) q e =
    let r = chained (λ y. if is_working y.health then option_map (got_byte p s y) (app_read y.outputs i) else None) (slice_get p.slaves s) q e in
    let t = guarded_map (is_working r.value.health) (got_byte p s r.value) (app_read r.value.outputs i) q r.is in
    Uses s (record r.value { outputs = t.value.buffer }) (sym (ap (λ (y : Plain). y.slaves) t.is)) (ap (λ (y : PlainSlave). y.health) (sym (get_or_from_slice_get p.slaves s r.value no_plain_slave r.there)))
treats m p (Fault s) q e =
    let r = chained (λ y. if is_working y.health then Some (plain.with_slave p s (failing y)) else None) (slice_get p.slaves s) q e in
    Fails s (failing r.value) refl (sym (ap (λ (y : Plain). y.slaves) (guarded (is_working r.value.health) _ q r.is))) refl
    (ap (λ (y : PlainSlave). y.health) (get_or_from_slice_get p.slaves s r.value no_plain_slave r.there) ∙ is_in_op r.value.health (let_through (is_working r.value.health) _ q r.is))
treats m p (ResetSlave s) q e =
    let r = chained (λ y. Some (plain.with_slave p s (restarting y))) (slice_get p.slaves s) q e in
    Resets s (restarting r.value) refl (sym (ap (λ (y : Plain). y.slaves) (some_same _ q r.is))) refl
treats m p Stop q e = absurd (none_some q e)
