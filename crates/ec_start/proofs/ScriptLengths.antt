-- The script of a plan that can be started up is short: a request has a subindex of one byte, so there are few of them.
use Rattle.std.proofs.Common.{ℕ, ◌+◌, ◌*◌, ◌<◌, ◌≤◌, ◌==◌, suc, List, [], ◌∷◌, ◌++◌, length, get_or, Bool, true, false, if◌then◌else◌, Option, Some, None, is_some, arith, length-append}
use Rattle.std.specs.List.{flat_map}
use Rattle.ec_device.specs.declared.parameter.Parameter.{Parameter}
use Rattle.ec_device.specs.declared.slave_type.Entry.{Entry}
use Rattle.ec_device.specs.declared.slave_type.Pdo.{Pdo}
use Rattle.ec_device.specs.declared.slave_type.Mailbox.{Mailbox}
use Rattle.ec_device.specs.declared.hardware.Hardware.{Hardware}
use Rattle.ec_device.specs.Hardware.{is_fixed}
use Rattle.ec_device.specs.Objects.{pdo_at}
use Rattle.ec_al.specs.declared.state.State.TheVariants.{PreOp, SafeOp, Op}
use Rattle.ec_coe.specs.Objects.{byte_value, output_assignment, input_assignment, has_some}
use Rattle.ec_link.specs.declared.settings.SlavePlan.{SlavePlan}
use Rattle.ec_link.specs.Meaning.{no_slave}
use Rattle.ec_start.specs.declared.action.SdoRequest.{SdoRequest}
use Rattle.ec_start.specs.declared.action.Action.{Action}
use Rattle.ec_start.specs.declared.action.Action.TheVariants.{AwaitCleanInit}
use Rattle.ec_start.specs.Plans.{settings_at, fmmu_at}
use Rattle.ec_start.specs.Planned.{AreRequests, IsStartable}
use Rattle.ec_start.specs.Interface.{ScriptsAreShort}
use Rattle.ec_start.specs.Scripts.{downloads, parameters_written, entries_read, pdo_read, slots_written, assignment_written, slots_read, assignment_of, pdo_requests, requests, is_hardware, named, settled_by, settled, identified, mailbox_set, raised, exchanged, talked, set_manager, manager_set, fmmu_set, mapped, each_slave, opened, closed}
use Rattle.ec_start.proofs.Assigned.{has_few}

both_few : {X : Type 0} (xs ys : List X) {a b : ℕ} → length xs ≤ a → length ys ≤ b → length (xs ++ ys) ≤ a + b
both_few xs ys l m = omega (arith, length-append xs ys, l, m)

-- ---- the requests to one slave

back_half : (xs ys : List SdoRequest) → AreRequests (xs ++ ys) → AreRequests ys
back_half [] ys h = h
back_half (x ∷ xs) ys h = back_half xs ys h.1

front_half : (xs ys : List SdoRequest) → AreRequests (xs ++ ys) → AreRequests xs
front_half [] ys h = tt
front_half (x ∷ xs) ys h = (h.0, front_half xs ys h.1)

entries_few : (index k : ℕ) (es : List Entry) → k ≤ 256 → AreRequests (entries_read index k es) → k + length (entries_read index k es) ≤ 256
entries_few index k [] le h = omega (arith, le)
entries_few index k (e ∷ es) le h =
    let small = h.0.subindex in
    let rest = entries_few index (k + 1) es (omega (arith, small)) h.1 in
    omega (arith, rest)

pdo_few : (o : Option Pdo) → AreRequests (pdo_read o) → length (pdo_read o) ≤ 256
pdo_few None h = omega arith
pdo_few (Some p) h = let few = entries_few p.index 1 p.entries (omega arith) h.1 in omega (arith, few)

read_few : (pdos : List Pdo) (xs : List ℕ) → AreRequests (flat_map (λ index. pdo_read (pdo_at pdos index)) xs) → length (flat_map (λ index. pdo_read (pdo_at pdos index)) xs) ≤ 256 * length xs
read_few pdos [] h = omega arith
read_few pdos (x ∷ xs) h =
    let one = pdo_read (pdo_at pdos x) in
    let more = flat_map (λ index. pdo_read (pdo_at pdos index)) xs in
    let few = both_few one more (pdo_few (pdo_at pdos x) (front_half one more h)) (read_few pdos xs (back_half one more h)) in
    omega (arith, few)

slots_many : (object k : ℕ) (xs : List ℕ) → length (slots_written object k xs) ≤ length xs
slots_many object k [] = omega arith
slots_many object k (x ∷ xs) = let rest = slots_many object (k + 1) xs in omega (arith, rest)

written_few : (object : ℕ) (xs : List ℕ) (b : Bool) → length (assignment_written object xs b) ≤ length xs + 2
written_few object xs false = omega arith
written_few object [] true = omega arith
written_few object (x ∷ xs) true =
    let count = downloads object 0 (byte_value (length (x ∷ xs))) ∷ [] in
    let few = both_few (slots_written object 1 (x ∷ xs)) count {b = 1} (slots_many object 1 (x ∷ xs)) (omega arith) in
    omega (arith, few)

reads_many : (object k : ℕ) (xs : List ℕ) → length (slots_read object k xs) ≤ length xs
reads_many object k [] = omega arith
reads_many object k (x ∷ xs) = let rest = reads_many object (k + 1) xs in omega (arith, rest)

assigned_few : (fixed : Bool) (object : ℕ) (xs : List ℕ) (b : Bool) → length (assignment_of fixed object xs b) ≤ length xs + 2
assigned_few false object xs b = written_few object xs b
assigned_few true object xs false = omega arith
assigned_few true object xs true = let few = reads_many object 1 xs in omega (arith, few)

parameters_few : (qs : List Parameter) → length (parameters_written qs) ≤ length qs
parameters_few [] = omega arith
parameters_few (q ∷ qs) = let rest = parameters_few qs in omega (arith, rest)

pdo_requests_few : (p : SlavePlan) → IsStartable p → length (pdo_requests p) ≤ 200000
pdo_requests_few p h =
    let outs : List SdoRequest = flat_map (λ index. pdo_read (pdo_at p.kind.outputs index)) p.outputs in
    let ins : List SdoRequest = flat_map (λ index. pdo_read (pdo_at p.kind.inputs index)) p.inputs in
    let written : List SdoRequest = assignment_of (is_fixed p.kind.hardware) output_assignment p.outputs (has_some p.kind.outputs) in
    let last : List SdoRequest = assignment_of (is_fixed p.kind.hardware) input_assignment p.inputs (has_some p.kind.inputs) in
    let good : AreRequests (outs ++ (ins ++ (written ++ last))) = back_half (parameters_written p.kind.init) (pdo_requests p) h.requests in
    let first = read_few p.kind.outputs p.outputs (front_half outs (ins ++ (written ++ last)) good) in
    let second = read_few p.kind.inputs p.inputs (front_half ins (written ++ last) (back_half outs (ins ++ (written ++ last)) good)) in
    let third = assigned_few (is_fixed p.kind.hardware) output_assignment p.outputs (has_some p.kind.outputs) in
    let fourth = assigned_few (is_fixed p.kind.hardware) input_assignment p.inputs (has_some p.kind.inputs) in
    let all = both_few outs (ins ++ (written ++ last)) first (both_few ins (written ++ last) second (both_few written last third fourth)) in
    let few = has_few p h in
    let few_outs = few.outputs in
    let few_ins = few.inputs in
    omega (arith, all, few_outs, few_ins)

requests_few : (p : SlavePlan) → IsStartable p → length (requests p) ≤ 200128
requests_few p h =
    let some = h.parameters.few in
    let first = parameters_few p.kind.init in
    let all = both_few (parameters_written p.kind.init) (pdo_requests p) first (pdo_requests_few p h) in
    omega (arith, all, some)

-- ---- the actions of one slave

exchanged_few : (hardware : Bool) (i : ℕ) (b : Mailbox) (before : ℕ) (rs : List SdoRequest) → length (exchanged hardware i b before rs) ≤ 2 * length rs
exchanged_few hardware i b before [] = omega arith
exchanged_few hardware i b before (r ∷ rs) = let rest = exchanged_few hardware i b (before + 1) rs in omega (arith, rest)

talked_few : (i : ℕ) (p : SlavePlan) (o : Option Mailbox) → IsStartable p → length (talked i p o) ≤ 400256
talked_few i p None h = omega arith
talked_few i p (Some b) h = omega (arith, exchanged_few (is_some p.kind.hardware) i b 0 (requests p), requests_few p h)

set_few : (i : ℕ) (p : SlavePlan) (o : Option Mailbox) → length (mailbox_set i p o) ≤ 2
set_few i p None = omega arith
set_few i p (Some b) = omega arith

manager_few : (i : ℕ) (p : SlavePlan) (n : ℕ) → length (manager_set i p n) ≤ 1
manager_few i p n = go ((settings_at p.managers n).activate == 0) (set_manager i p n)
  where
    go : (b : Bool) (a : Action) → length (if b then [] else a ∷ []) ≤ 1
    go true a = omega arith
    go false a = omega arith

fmmu_few : (i : ℕ) (p : SlavePlan) (n : ℕ) (b : Bool) → length (fmmu_set i p n b) ≤ 1
fmmu_few i p n true = omega arith
fmmu_few i p n false = omega arith

mapped_few : (i : ℕ) (p : SlavePlan) → length (mapped i p) ≤ 4
mapped_few i p =
    let first = fmmu_set i p 0 (fmmu_at p.fmmus 0).active in
    let second = fmmu_set i p 1 (fmmu_at p.fmmus 1).active in
    let fmmus = both_few first second (fmmu_few i p 0 (fmmu_at p.fmmus 0).active) (fmmu_few i p 1 (fmmu_at p.fmmus 1).active) in
    let all = both_few (manager_set i p 2) (manager_set i p 3 ++ (first ++ second)) (manager_few i p 2) (both_few (manager_set i p 3) (first ++ second) (manager_few i p 3) fmmus) in
    omega (arith, all)

settled_few : (i : ℕ) (o : Option Hardware) → length (settled_by i o) ≤ 1
settled_few i None = omega arith
settled_few i (Some h) = go h.has_firmware
  where
    go : (b : Bool) → length (if b then AwaitCleanInit i ∷ [] else []) ≤ 1
    go true = omega arith
    go false = omega arith

-- ---- what is for all slaves

opened_few : (hardware : Bool) → length (opened hardware) ≤ 8
opened_few true = omega arith
opened_few false = omega arith

closed_few : (hardware : Bool) → length (closed hardware) ≤ 1
closed_few true = omega arith
closed_few false = omega arith

-- ---- the whole script

each_few : (f : ℕ → SlavePlan → List Action) (n i : ℕ) (ps : List SlavePlan) → ((j k : ℕ) → k < length ps → length (f j (get_or ps k no_slave)) ≤ n) → length (each_slave f i ps) ≤ n * length ps
each_few f n i [] h = omega arith
each_few f n i (p ∷ ps) h =
    let few = both_few (f i p) (each_slave f (i + 1) ps) (h i 0 (omega arith)) (each_few f n (i + 1) ps (λ j k l. h j (suc k) (omega (arith, l)))) in
    omega (arith, few)

pub scripts_are_short : ScriptsAreShort
scripts_are_short [] h = omega arith
scripts_are_short (p ∷ ps) h =
    let qs = p ∷ ps in
    let ups = each_slave (raised Op) 0 qs in
    let safes = each_slave (raised SafeOp) 0 qs in
    let maps = each_slave mapped 0 qs in
    let talks = each_slave (λ i x. talked i x x.kind.mailbox) 0 qs in
    let raises = each_slave (raised PreOp) 0 qs in
    let sets = each_slave (λ i x. mailbox_set i x x.kind.mailbox) 0 qs in
    let reads = each_slave identified 0 qs in
    let names = each_slave named 0 qs in
    let settles = each_slave settled 0 qs in
    let back = closed (is_hardware qs) in
    let from_safes = both_few safes ups (each_few (raised SafeOp) 2 0 qs (λ j k l. omega arith)) (each_few (raised Op) 2 0 qs (λ j k l. omega arith)) in
    let from_maps = both_few maps (safes ++ ups) (each_few mapped 4 0 qs (λ j k l. mapped_few j (get_or qs k no_slave))) from_safes in
    let from_talks = both_few talks (maps ++ (safes ++ ups))
    (each_few (λ i x. talked i x x.kind.mailbox) 400256 0 qs (λ j k l. talked_few j (get_or qs k no_slave) (get_or qs k no_slave).kind.mailbox (h k l))) from_maps in
    let from_raises = both_few raises (talks ++ (maps ++ (safes ++ ups))) (each_few (raised PreOp) 2 0 qs (λ j k l. omega arith)) from_talks in
    let from_sets = both_few sets (raises ++ (talks ++ (maps ++ (safes ++ ups))))
    (each_few (λ i x. mailbox_set i x x.kind.mailbox) 2 0 qs (λ j k l. set_few j (get_or qs k no_slave) (get_or qs k no_slave).kind.mailbox)) from_raises in
    let from_back = both_few back (sets ++ (raises ++ (talks ++ (maps ++ (safes ++ ups))))) (closed_few (is_hardware qs)) from_sets in
    let from_reads = both_few reads (back ++ (sets ++ (raises ++ (talks ++ (maps ++ (safes ++ ups)))))) (each_few identified 6 0 qs (λ j k l. omega arith)) from_back in
    let from_settles = both_few settles (reads ++ (back ++ (sets ++ (raises ++ (talks ++ (maps ++ (safes ++ ups)))))))
    (each_few settled 1 0 qs (λ j k l. settled_few j (get_or qs k no_slave).kind.hardware)) from_reads in
    let from_names = both_few names (settles ++ (reads ++ (back ++ (sets ++ (raises ++ (talks ++ (maps ++ (safes ++ ups)))))))) (each_few named 1 0 qs (λ j k l. omega arith)) from_settles in
    let all = both_few (opened (is_hardware qs)) (names ++ (settles ++ (reads ++ (back ++ (sets ++ (raises ++ (talks ++ (maps ++ (safes ++ ups))))))))) (opened_few (is_hardware qs)) from_names in
    omega (arith, all)
