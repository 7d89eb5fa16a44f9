-- Where a place lies in runs of requests.
use Rattle.std.proofs.Common.{◌≡◌, ◌≢◌, ℕ, zero, suc, ◌+◌, ◌-◌, ◌<◌, ◌≤◌, List, [], ◌∷◌, ◌++◌, length, drop, get_or, slice_get, slice_index, Option, Some, true, not, Bool, refl, sym, ap, ◌∙◌, arith, append_assoc, ◌==◌}
use Rattle.std.specs.List.{flat_map}
use Rattle.std.proofs.lemmas.Bool.{ne_eqb}
use Rattle.ec_device.specs.declared.parameter.Parameter.{Parameter}
use Rattle.ec_device.specs.declared.slave_type.Entry.{Entry}
use Rattle.ec_device.specs.declared.slave_type.Pdo.{Pdo}
use Rattle.ec_device.specs.Hardware.{is_fixed}
use Rattle.ec_device.specs.Objects.{pdo_at}
use Rattle.ec_link.specs.declared.settings.SlavePlan.{SlavePlan}
use Rattle.ec_coe.specs.Objects.{byte_value, word_value, long_value, entry_number, has_some, output_assignment, input_assignment}
use Rattle.ec_start.specs.declared.action.SdoRequest.{SdoRequest}
use Rattle.ec_start.specs.declared.requests.Seek.{Seek}
use Rattle.ec_start.specs.declared.requests.Seek.TheVariants.{Found, Past}
use Rattle.ec_start.specs.Scripts.{downloads, uploads, parameter_value, parameters_written, entries_read, pdo_read, slots_written, assignment_written, slots_read, assignment_read, assignment_of, pdo_requests, requests}
use Rattle.ec_start.specs.Seeking.{seek, seek_on, found, mappings_of, assignments_of}

pub seek_append : (xs ys : List SdoRequest) (k : ℕ) → seek (xs ++ ys) k ≡ seek_on (seek xs k) ys
seek_append [] ys k = refl
seek_append (x ∷ xs) ys zero = refl
seek_append (x ∷ xs) ys (suc k) = seek_append xs ys k

pub found_get : (xs : List SdoRequest) (k : ℕ) → found (seek xs k) ≡ slice_get xs k
found_get [] k = refl
found_get (x ∷ xs) zero = refl
found_get (x ∷ xs) (suc k) = found_get xs k

-- ---- parameters

pub seek_parameter : (qs : List Parameter) (k : ℕ) (d : Parameter) → k < length qs
    → seek (parameters_written qs) k ≡ Found (downloads (get_or qs k d).index (get_or qs k d).subindex (parameter_value (get_or qs k d)))
seek_parameter [] k d lt = absurd (omega arith)
seek_parameter (q ∷ qs) zero d lt = refl
seek_parameter (q ∷ qs) (suc k) d lt = seek_parameter qs k d (omega arith)

pub seek_past_parameters : (qs : List Parameter) (k : ℕ) → length qs ≤ k → seek (parameters_written qs) k ≡ Past (k - length qs)
seek_past_parameters [] k le = let z : k ≡ k - 0 = omega arith in ap Past z
seek_past_parameters (q ∷ qs) zero le = absurd (omega arith)
seek_past_parameters (q ∷ qs) (suc k) le = let z : k - length qs ≡ suc k - suc (length qs) = omega arith in seek_past_parameters qs k (omega arith) ∙ ap Past z

-- ---- one PDO

pub seek_entries : (index k : ℕ) (es : List Entry) (j : ℕ) (d : Entry) → j < length es
    → seek (entries_read index k es) j ≡ Found (uploads index (k + j) (long_value (entry_number (get_or es j d))))
seek_entries index k [] j d lt = absurd (omega arith)
seek_entries index k (x ∷ es) zero d lt = let z : k ≡ k + 0 = omega arith in ap (λ n. Found (uploads index n (long_value (entry_number x)))) z
seek_entries index k (x ∷ es) (suc j) d lt =
    let z : k + 1 + j ≡ k + suc j = omega arith in
    seek_entries index (k + 1) es j d (omega arith) ∙ ap (λ n. Found (uploads index n (long_value (entry_number (get_or es j d))))) z

pub seek_past_entries : (index k : ℕ) (es : List Entry) (j : ℕ) → length es ≤ j → seek (entries_read index k es) j ≡ Past (j - length es)
seek_past_entries index k [] j le = let z : j ≡ j - 0 = omega arith in ap Past z
seek_past_entries index k (x ∷ es) zero le = absurd (omega arith)
seek_past_entries index k (x ∷ es) (suc j) le = let z : j - length es ≡ suc j - suc (length es) = omega arith in seek_past_entries index (k + 1) es j (omega arith) ∙ ap Past z

pub seek_entry : (p : Pdo) (place : ℕ) (d : Entry) → place ≢ 0 → place ≤ length p.entries
    → seek (pdo_read (Some p)) place ≡ Found (uploads p.index place (long_value (entry_number (get_or p.entries (place - 1) d))))
seek_entry p zero d ne le = absurd (ne refl)
seek_entry p (suc k) d ne le =
    let z : suc k - 1 ≡ k = omega arith in
    let w : 1 + k ≡ suc k = omega arith in
    rw z (seek_entries p.index 1 p.entries k d (omega arith) ∙ ap (λ n. Found (uploads p.index n (long_value (entry_number (get_or p.entries k d))))) w)

pub seek_past_pdo : (p : Pdo) (place : ℕ) → length p.entries < place → seek (pdo_read (Some p)) place ≡ Past (place - 1 - length p.entries)
seek_past_pdo p zero lt = absurd (omega arith)
seek_past_pdo p (suc k) lt = let z : suc k - 1 ≡ k = omega arith in seek_past_entries p.index 1 p.entries k (omega arith) ∙ ap (λ n. Past (n - length p.entries)) (sym z)

-- ---- one assignment

pub seek_slots : (object k : ℕ) (ps : List ℕ) (rest : List SdoRequest) (j : ℕ) → j < length ps
    → seek (slots_written object k ps ++ rest) j ≡ Found (downloads object (k + j) (word_value (slice_index ps j)))
seek_slots object k [] rest j lt = absurd (omega arith)
seek_slots object k (p ∷ ps) rest zero lt = let z : k ≡ k + 0 = omega arith in ap (λ n. Found (downloads object n (word_value p))) z
seek_slots object k (p ∷ ps) rest (suc j) lt =
    let z : k + 1 + j ≡ k + suc j = omega arith in
    seek_slots object (k + 1) ps rest j (omega arith) ∙ ap (λ n. Found (downloads object n (word_value (slice_index ps j)))) z

pub seek_past_slots : (object k : ℕ) (ps : List ℕ) (rest : List SdoRequest) (j : ℕ) → length ps ≤ j → seek (slots_written object k ps ++ rest) j ≡ seek rest (j - length ps)
seek_past_slots object k [] rest j le = let z : j ≡ j - 0 = omega arith in ap (seek rest) z
seek_past_slots object k (p ∷ ps) rest zero le = absurd (omega arith)
seek_past_slots object k (p ∷ ps) rest (suc j) le = let z : j - length ps ≡ suc j - suc (length ps) = omega arith in seek_past_slots object (k + 1) ps rest j (omega arith) ∙ ap (seek rest) z

pub seek_slot : (object : ℕ) (ps : List ℕ) (place : ℕ) → place ≢ 0 → place ≤ length ps
    → seek (assignment_written object ps true) place ≡ Found (downloads object place (word_value (slice_index ps (place - 1))))
seek_slot object ps zero ne le = absurd (ne refl)
seek_slot object [] (suc k) ne le = absurd (omega arith)
seek_slot object (p ∷ ps) (suc k) ne le =
    let z : suc k - 1 ≡ k = omega arith in
    let w : 1 + k ≡ suc k = omega arith in
    rw z (seek_slots object 1 (p ∷ ps) (downloads object 0 (byte_value (length (p ∷ ps))) ∷ []) k (omega arith) ∙ ap (λ n. Found (downloads object n (word_value (slice_index (p ∷ ps) k)))) w)

pub seek_no_slots : (object : ℕ) (ps : List ℕ) (place : ℕ) → place ≢ 0 → length ps ≡ 0 → seek (assignment_written object ps true) place ≡ Past (place - 1)
seek_no_slots object ps zero ne none = absurd (ne refl)
seek_no_slots object [] (suc k) ne none = let z : suc k - 1 ≡ k = omega arith in ap Past (sym z)
seek_no_slots object (p ∷ ps) (suc k) ne none = absurd (omega arith)

pub seek_count : (object : ℕ) (ps : List ℕ) (place : ℕ) → length ps ≢ 0 → place ≡ length ps + 1 → seek (assignment_written object ps true) place ≡ Found (downloads object 0 (byte_value (length ps)))
seek_count object [] place ne is = absurd (ne refl)
seek_count object (p ∷ ps) zero ne is = absurd (omega arith)
seek_count object (p ∷ ps) (suc k) ne is =
    let z : k - length (p ∷ ps) ≡ 0 = omega arith in
    seek_past_slots object 1 (p ∷ ps) (downloads object 0 (byte_value (length (p ∷ ps))) ∷ []) k (omega arith) ∙ ap (seek (downloads object 0 (byte_value (length (p ∷ ps))) ∷ [])) z

past_one : (r : SdoRequest) (k : ℕ) → k ≢ 0 → seek (r ∷ []) k ≡ Past (k - 1)
past_one r zero ne = absurd (ne refl)
past_one r (suc k) ne = let z : suc k - 1 ≡ k = omega arith in ap Past (sym z)

pub seek_past_assignment : (object : ℕ) (ps : List ℕ) (place : ℕ) → length ps ≢ 0 → length ps + 1 < place → seek (assignment_written object ps true) place ≡ Past (place - 2 - length ps)
seek_past_assignment object [] place ne lt = absurd (ne refl)
seek_past_assignment object (p ∷ ps) zero ne lt = absurd (omega arith)
seek_past_assignment object (p ∷ ps) (suc k) ne lt =
    let n : ℕ = length (p ∷ ps) in
    let z : k - length (p ∷ ps) - 1 ≡ suc k - 2 - length (p ∷ ps) = omega arith in
    seek_past_slots object 1 (p ∷ ps) (downloads object 0 (byte_value (length (p ∷ ps))) ∷ []) k (omega arith)
    ∙ (past_one _ (k - length (p ∷ ps)) (λ e. absurd (omega arith)) ∙ ap Past z)

-- ---- one assignment that is fixed

seek_read : (object k : ℕ) (ps : List ℕ) (j : ℕ) → j < length ps → seek (slots_read object k ps) j ≡ Found (uploads object (k + j) (word_value (slice_index ps j)))
seek_read object k [] j lt = absurd (omega arith)
seek_read object k (p ∷ ps) zero lt = let z : k ≡ k + 0 = omega arith in ap (λ n. Found (uploads object n (word_value p))) z
seek_read object k (p ∷ ps) (suc j) lt =
    let z : k + 1 + j ≡ k + suc j = omega arith in
    seek_read object (k + 1) ps j (omega arith) ∙ ap (λ n. Found (uploads object n (word_value (slice_index ps j)))) z

past_reads : (object k : ℕ) (ps : List ℕ) (j : ℕ) → length ps ≤ j → seek (slots_read object k ps) j ≡ Past (j - length ps)
past_reads object k [] j le = let z : j ≡ j - 0 = omega arith in ap Past z
past_reads object k (p ∷ ps) zero le = absurd (omega arith)
past_reads object k (p ∷ ps) (suc j) le = let z : j - length ps ≡ suc j - suc (length ps) = omega arith in past_reads object (k + 1) ps j (omega arith) ∙ ap Past z

pub seek_slot_read : (object : ℕ) (ps : List ℕ) (place : ℕ) → place ≢ 0 → place ≤ length ps
    → seek (assignment_read object ps true) place ≡ Found (uploads object place (word_value (slice_index ps (place - 1))))
seek_slot_read object ps zero ne le = absurd (ne refl)
seek_slot_read object ps (suc k) ne le =
    let z : suc k - 1 ≡ k = omega arith in
    let w : 1 + k ≡ suc k = omega arith in
    rw z (seek_read object 1 ps k (omega arith) ∙ ap (λ n. Found (uploads object n (word_value (slice_index ps k)))) w)

pub seek_past_read : (object : ℕ) (ps : List ℕ) (place : ℕ) → length ps < place → seek (assignment_read object ps true) place ≡ Past (place - 1 - length ps)
seek_past_read object ps zero lt = absurd (omega arith)
seek_past_read object ps (suc k) lt = let z : suc k - 1 ≡ k = omega arith in past_reads object 1 ps k (omega arith) ∙ ap (λ n. Past (n - length ps)) (sym z)

-- ---- runs

pub seek_more : (f : ℕ → List SdoRequest) (xs : List ℕ) (i left past : ℕ) (whole : Seek) → i < length xs → Past past ≡ seek (f (slice_index xs i)) left
    → seek (flat_map f (drop i xs)) left ≡ whole → seek (flat_map f (drop (i + 1) xs)) past ≡ whole
seek_more f [] i left past whole lt e inv = absurd (omega arith)
seek_more f (y ∷ ys) zero left past whole lt e inv = ap (λ s. seek_on s (flat_map f ys)) e ∙ (sym (seek_append (f y) (flat_map f ys) left) ∙ inv)
seek_more f (y ∷ ys) (suc i) left past whole lt e inv = let z : suc i + 1 ≡ suc (i + 1) = omega arith in rw z (seek_more f ys i left past whole (omega arith) e inv)

pub seek_here : (f : ℕ → List SdoRequest) (xs : List ℕ) (i left : ℕ) (r : SdoRequest) (whole : Seek) → i < length xs → Found r ≡ seek (f (slice_index xs i)) left
    → seek (flat_map f (drop i xs)) left ≡ whole → Found r ≡ whole
seek_here f [] i left r whole lt e inv = absurd (omega arith)
seek_here f (y ∷ ys) zero left r whole lt e inv = ap (λ s. seek_on s (flat_map f ys)) e ∙ (sym (seek_append (f y) (flat_map f ys) left) ∙ inv)
seek_here f (y ∷ ys) (suc i) left r whole lt e inv = seek_here f ys i left r whole (omega arith) e inv

pub seek_none : (f : ℕ → List SdoRequest) (xs : List ℕ) (i left : ℕ) (whole : Seek) → length xs ≤ i → seek (flat_map f (drop i xs)) left ≡ whole → Past left ≡ whole
seek_none f [] zero left whole le inv = inv
seek_none f [] (suc i) left whole le inv = inv
seek_none f (y ∷ ys) zero left whole le inv = absurd (omega arith)
seek_none f (y ∷ ys) (suc i) left whole le inv = seek_none f ys i left whole (omega arith) inv

-- two runs, the second sought where the first is past
seek_first : (xs ys : List SdoRequest) (k : ℕ) (r : SdoRequest) → Found r ≡ seek xs k → Found r ≡ seek (xs ++ ys) k
seek_first xs ys k r e = ap (λ s. seek_on s ys) e ∙ sym (seek_append xs ys k)

seek_second : (xs ys : List SdoRequest) (k past : ℕ) (s : Seek) → Past past ≡ seek xs k → s ≡ seek ys past → s ≡ seek (xs ++ ys) k
seek_second xs ys k past s e f = f ∙ (ap (λ t. seek_on t ys) e ∙ sym (seek_append xs ys k))

some_of : {X : Type 0} (xs : List X) → not (length xs == 0) ≡ has_some xs
some_of [] = refl
some_of (x ∷ xs) = ap not (ne_eqb (length (x ∷ xs)) 0 (λ e. omega (arith, e)))

pub first_upload : (p : SlavePlan) (ps : List Pdo) (xs : List ℕ) (k : ℕ) (r : SdoRequest) → ps ≡ p.kind.outputs → xs ≡ p.outputs
    → Found r ≡ seek (flat_map (λ index. pdo_read (pdo_at ps index)) xs) k → Found r ≡ seek (mappings_of p) k
first_upload p ps xs k r same own e =
    let f : Found r ≡ seek (flat_map (λ index. pdo_read (pdo_at p.kind.outputs index)) p.outputs) k = rw (same, own) at e in
    seek_first (flat_map (λ index. pdo_read (pdo_at p.kind.outputs index)) p.outputs) (flat_map (λ index. pdo_read (pdo_at p.kind.inputs index)) p.inputs) k r f

pub second_upload : (p : SlavePlan) (ps qs : List Pdo) (xs ys : List ℕ) (k past : ℕ) (s : Seek) → ps ≡ p.kind.outputs → xs ≡ p.outputs → qs ≡ p.kind.inputs → ys ≡ p.inputs
    → Past past ≡ seek (flat_map (λ index. pdo_read (pdo_at ps index)) xs) k → s ≡ seek (flat_map (λ index. pdo_read (pdo_at qs index)) ys) past → s ≡ seek (mappings_of p) k
second_upload p ps qs xs ys k past s same own same_in own_in e f =
    let g : Past past ≡ seek (flat_map (λ index. pdo_read (pdo_at p.kind.outputs index)) p.outputs) k = rw (same, own) at e in
    let h : s ≡ seek (flat_map (λ index. pdo_read (pdo_at p.kind.inputs index)) p.inputs) past = rw (same_in, own_in) at f in
    seek_second (flat_map (λ index. pdo_read (pdo_at p.kind.outputs index)) p.outputs) (flat_map (λ index. pdo_read (pdo_at p.kind.inputs index)) p.inputs) k past s g h

pub first_assigned : (p : SlavePlan) (fixed : Bool) (ps : List Pdo) (xs : List ℕ) (k : ℕ) (r : SdoRequest) → fixed ≡ is_fixed p.kind.hardware → ps ≡ p.kind.outputs → xs ≡ p.outputs
    → Found r ≡ seek (assignment_of fixed output_assignment xs (not (length ps == 0))) k → Found r ≡ seek (assignments_of p) k
first_assigned p fixed ps xs k r held same own e =
    let f : Found r ≡ seek (assignment_of (is_fixed p.kind.hardware) output_assignment p.outputs (has_some p.kind.outputs)) k = rw (held, same, own, some_of p.kind.outputs) at e in
    seek_first (assignment_of (is_fixed p.kind.hardware) output_assignment p.outputs (has_some p.kind.outputs)) (assignment_of (is_fixed p.kind.hardware) input_assignment p.inputs (has_some p.kind.inputs)) k r f

pub second_assigned : (p : SlavePlan) (fixed : Bool) (ps qs : List Pdo) (xs ys : List ℕ) (k past : ℕ) (s : Seek) → fixed ≡ is_fixed p.kind.hardware → ps ≡ p.kind.outputs → xs ≡ p.outputs → qs ≡ p.kind.inputs → ys ≡ p.inputs
    → Past past ≡ seek (assignment_of fixed output_assignment xs (not (length ps == 0))) k → s ≡ seek (assignment_of fixed input_assignment ys (not (length qs == 0))) past
    → s ≡ seek (assignments_of p) k
second_assigned p fixed ps qs xs ys k past s held same own same_in own_in e f =
    let g : Past past ≡ seek (assignment_of (is_fixed p.kind.hardware) output_assignment p.outputs (has_some p.kind.outputs)) k = rw (held, same, own, some_of p.kind.outputs) at e in
    let h : s ≡ seek (assignment_of (is_fixed p.kind.hardware) input_assignment p.inputs (has_some p.kind.inputs)) past = rw (held, same_in, own_in, some_of p.kind.inputs) at f in
    seek_second (assignment_of (is_fixed p.kind.hardware) output_assignment p.outputs (has_some p.kind.outputs)) (assignment_of (is_fixed p.kind.hardware) input_assignment p.inputs (has_some p.kind.inputs)) k past s g h

-- both halves together
halves : (p : SlavePlan) → mappings_of p ++ assignments_of p ≡ pdo_requests p
halves p = append_assoc (flat_map (λ index. pdo_read (pdo_at p.kind.outputs index)) p.outputs) (flat_map (λ index. pdo_read (pdo_at p.kind.inputs index)) p.inputs) (assignments_of p)

pub first_request : (p : SlavePlan) (k : ℕ) (r : SdoRequest) → Found r ≡ seek (mappings_of p) k → Some r ≡ slice_get (pdo_requests p) k
first_request p k r e = ap found (seek_first (mappings_of p) (assignments_of p) k r e) ∙ (ap (λ rs. found (seek rs k)) (halves p) ∙ found_get (pdo_requests p) k)

pub second_request : (p : SlavePlan) (k past : ℕ) (s : Seek) → Past past ≡ seek (mappings_of p) k → s ≡ seek (assignments_of p) past → found s ≡ slice_get (pdo_requests p) k
second_request p k past s e f =
    ap found (seek_second (mappings_of p) (assignments_of p) k past s e f) ∙ (ap (λ rs. found (seek rs k)) (halves p) ∙ found_get (pdo_requests p) k)

-- and behind the parameters
pub parameter_request : (p : SlavePlan) (k : ℕ) (r : SdoRequest) → Found r ≡ seek (parameters_written p.kind.init) k → Some r ≡ slice_get (requests p) k
parameter_request p k r e = ap found (seek_first (parameters_written p.kind.init) (pdo_requests p) k r e) ∙ found_get (requests p) k

pub behind_parameters : (p : SlavePlan) (k past : ℕ) (o : Option SdoRequest) → Past past ≡ seek (parameters_written p.kind.init) k → o ≡ slice_get (pdo_requests p) past → o ≡ slice_get (requests p) k
behind_parameters p k past o e f =
    f ∙ (sym (found_get (pdo_requests p) past)
    ∙ (ap found (seek_second (parameters_written p.kind.init) (pdo_requests p) k past (seek (pdo_requests p) past) e refl) ∙ found_get (requests p) k))
