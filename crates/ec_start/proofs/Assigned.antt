-- A plan that can be started up is taken by `Startup::new`.
use Rattle.std.proofs.Common.{◌≡◌, ℕ, ◌+◌, ◌<◌, ◌≤◌, List, [], ◌∷◌, ◌++◌, length, Bool, true, false, refl, sym, subst, arith}
use Rattle.std.specs.List.{flat_map}
use Rattle.ec_device.specs.Hardware.{is_fixed}
use Rattle.ec_device.specs.Objects.{pdo_at}
use Rattle.ec_coe.specs.Objects.{byte_value, output_assignment, input_assignment, has_some}
use Rattle.ec_link.specs.declared.settings.SlavePlan.{SlavePlan}
use Rattle.ec_start.specs.declared.action.SdoRequest.{SdoRequest}
use Rattle.ec_start.specs.Scripts.{downloads, parameters_written, pdo_read, slots_written, assignment_written, slots_read, assignment_of, pdo_requests}
use Rattle.ec_start.specs.Laws.{StartablesAreTaken}
use Rattle.ec_start.specs.Planned.{AreRequests, IsStartable, HasFewAssigned}

back_half : (xs ys : List SdoRequest) → AreRequests (xs ++ ys) → AreRequests ys
back_half [] ys h = h
back_half (x ∷ xs) ys h = back_half xs ys h.1

front_half : (xs ys : List SdoRequest) → AreRequests (xs ++ ys) → AreRequests xs
front_half [] ys h = tt
front_half (x ∷ xs) ys h = (h.0, front_half xs ys h.1)

few_slots : (object k : ℕ) (xs : List ℕ) → k ≤ 256 → AreRequests (slots_written object k xs) → k + length xs ≤ 256
few_slots object k [] le h = omega (arith, le)
few_slots object k (x ∷ xs) le h =
    let small = h.0.subindex in
    let rest = few_slots object (k + 1) xs (omega (arith, small)) h.1 in
    omega (arith, rest)

few_written : (object : ℕ) (xs : List ℕ) → AreRequests (assignment_written object xs true) → length xs < 256
few_written object [] h = omega arith
few_written object (x ∷ xs) h =
    let few = few_slots object 1 (x ∷ xs) (omega arith) (front_half (slots_written object 1 (x ∷ xs)) (downloads object 0 (byte_value (length (x ∷ xs))) ∷ []) h.1) in
    omega (arith, few)

few_read : (object k : ℕ) (xs : List ℕ) → k ≤ 256 → AreRequests (slots_read object k xs) → k + length xs ≤ 256
few_read object k [] le h = omega (arith, le)
few_read object k (x ∷ xs) le h =
    let small = h.0.subindex in
    let rest = few_read object (k + 1) xs (omega (arith, small)) h.1 in
    omega (arith, rest)

few_assigned : (fixed : Bool) (object : ℕ) (xs : List ℕ) (b : Bool) → (b ≡ false → xs ≡ []) → AreRequests (assignment_of fixed object xs b) → length xs < 256
few_assigned false object xs true none h = few_written object xs h
few_assigned true object xs true none h = let few = few_read object 1 xs (omega arith) h.1 in omega (arith, few)
few_assigned false object xs false none h = subst (λ (ys : List ℕ). length ys < 256) (sym (none refl)) (omega arith)
few_assigned true object xs false none h = subst (λ (ys : List ℕ). length ys < 256) (sym (none refl)) (omega arith)

pub has_few : (p : SlavePlan) → IsStartable p → HasFewAssigned p
has_few p h =
    let outs : List SdoRequest = flat_map (λ index. pdo_read (pdo_at p.kind.outputs index)) p.outputs in
    let ins : List SdoRequest = flat_map (λ index. pdo_read (pdo_at p.kind.inputs index)) p.inputs in
    let fixed : Bool = is_fixed p.kind.hardware in
    let first : List SdoRequest = assignment_of fixed output_assignment p.outputs (has_some p.kind.outputs) in
    let last : List SdoRequest = assignment_of fixed input_assignment p.inputs (has_some p.kind.inputs) in
    let behind : AreRequests (outs ++ (ins ++ (first ++ last))) = back_half (parameters_written p.kind.init) (pdo_requests p) h.requests in
    let both : AreRequests (first ++ last) = back_half ins (first ++ last) (back_half outs (ins ++ (first ++ last)) behind) in
    record {
      outputs = few_assigned fixed output_assignment p.outputs (has_some p.kind.outputs) h.no_outs (front_half first last both);
      inputs = few_assigned fixed input_assignment p.inputs (has_some p.kind.inputs) h.no_ins (back_half first last both);
    }

pub startable_is_taken : StartablesAreTaken
startable_is_taken ps h = λ k d lt. has_few _ (h k d lt)
