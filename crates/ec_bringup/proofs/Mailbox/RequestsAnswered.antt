-- A slave of the type answers each request of the script as it should: its mapping is the type's, and each download is done.
use Rattle.ec_bringup.proofs.Words.{ℕ, zero, suc, ◌+◌, ◌-◌, ◌*◌, ◌%◌, ◌^◌, ◌<◌, ◌≤◌, ◌≡◌, ◌≢◌, ◌==◌, not, Bool, true, false, Option, Some, None, Result, refl, sym, ◌∙◌, ap, subst, arith, if◌then◌else◌, List, [], ◌∷◌, ◌++◌, length, map, take, slice_get, slice_set, nat_le, is_some, option_map, All, length-append, flat_map, option_or, eq-eqb, ne_eqb, and_from, or_right, le-leb, slice_get-map, if_false, Entry, Pdo, SlaveKind, Message, ValueSize, One, Two, SdoValue, AbortCode, Response, Sdo, DownloadRequest, DownloadResponse, UploadResponse, size_number, answer_of, answer_by, upload_answer, download_answer, reply_to, value_of, Dictionary, Assignment, identity_object, output_assignment, input_assignment, has_some, entry_number, byte_value, word_value, long_value, assignment_values, pdo_values, device_name_object, face_values_of, send_room, object_values, pdo_at, bits_assigned, value_or_abort, value_at, uploaded, distinct, takes_value, is_open, transfers_assignment_written as assignment_written, with_value, with_outs, with_ins, downloaded, good, uploads_expedited, SlavePlan, SdoRequest, requests, uploads, downloads, entries_read, pdo_read, slots_written, assignment_written as assignment_requests, Config, answered, talked_over, prepared, Claims, IsNumbered, IsOffered, AreOffered, IsAssignable, IsComplete, Claim, Hardware, inl, inr, cases_Bool, both_ways, and_right, append-nil, append_assoc, length-map, all_assigned, indices, mod-eq_of_lt, UploadRequest, request_command, Transfer, Upload, Download, Parameter, parameter_value, parameters_written, slots_read, assignment_read, assignment_of, pdo_requests, mappings, ParametersAgree, IsShown, ShowsBy, ShowsAll, IsDictionary, AreDone, done_by, plain_dictionary, own_values, object_written, is_fixed, is_assignable, AreRequests, answered_by}
use Rattle.ec_bringup.proofs.Mailbox.Assignments.{claim_at, object_at, own-claim, slot-own, slots-own, AreUploads, all-upload}
use Rattle.ec_bringup.proofs.OneSlave.MailboxServed.{DoesBring, IsWanted, Knows, IsGood}
use Rattle.ec_bringup.proofs.Script.Walks.{answered-done}
use Rattle.ec_coe.specs.Objects.{no_values_if, has_parameters}

-- ---- requests one after another

-- what one request leaves is one dictionary
done-one : (d : Dictionary) (r : SdoRequest) (e f : Dictionary) → done_by d r r.transfer ≡ good e → done_by d r r.transfer ≡ good f → e ≡ f
done-one d r e f h k = good-is e f (sym h ∙ k)
  where
    good-is : (x y : Dictionary) → good x ≡ good y → x ≡ y
    good-is x y q = cc

-- what requests leave is, and leads on
done-on : (d : Dictionary) (rs qs : List SdoRequest) (e f : Dictionary) → AreDone d rs e → AreDone d (rs ++ qs) f → AreDone e qs f
done-on d [] qs e f h k = subst (λ (x : Dictionary). AreDone x qs f) h k
done-on d (r ∷ rs) qs e f h k = done-on h.0 rs qs e f h.2 (subst (λ (x : Dictionary). AreDone x (rs ++ qs) f) (done-one d r k.0 h.0 k.1 h.1) k.2)

-- requests lead from one dictionary to one
done-same : (d : Dictionary) (rs : List SdoRequest) (e f : Dictionary) → AreDone d rs e → AreDone d rs f → e ≡ f
done-same d rs e f h k = done-on d rs [] e f h (subst (λ (xs : List SdoRequest). AreDone d xs f) (sym (append-nil rs)) k)

-- without the last one, an upload
done-back : (d : Dictionary) (rs : List SdoRequest) (r : SdoRequest) (e : Dictionary) → ((v : SdoValue) × (r.transfer ≡ Upload v)) → AreDone d (rs ++ r ∷ []) e → AreDone d rs e
done-back d [] r e u h = by u h
  where
    done-one-upload : (x : Dictionary) (y : SdoRequest) (v : SdoValue) (next : Dictionary) → y.transfer ≡ Upload v → done_by x y y.transfer ≡ good next → x ≡ next
    done-one-upload x y v next q h = (let f : good x ≡ good next = sym (ap (done_by x y) q) ∙ h in cc)

    by : ((v : SdoValue) × (r.transfer ≡ Upload v)) → AreDone d (r ∷ []) e → d ≡ e
    by (v, q) k = done-one-upload d r v k.0 q k.1 ∙ k.2
done-back d (x ∷ rs) r e u h = (h.0, h.1, done-back h.0 rs r e u h.2)

-- each request at what is known by the ones before it
abbrev pub AllAnswers : SlaveKind → Config → List SdoRequest → Type 0
AllAnswers kind c [] = Unit {0}
AllAnswers kind c (r ∷ rs) = IsGood kind c r × AllAnswers kind (answered c r) rs

all-append : (kind : SlaveKind) (c : Config) (xs bs : List SdoRequest) → AllAnswers kind c xs → AllAnswers kind (talked_over c xs) bs → AllAnswers kind c (xs ++ bs)
all-append kind c [] bs h k = k
all-append kind c (r ∷ xs) bs h k = (h.0, all-append kind (answered c r) xs bs h.1 k)

-- what was done by then
pub talked-done : (c : Config) (rs : List SdoRequest) → (talked_over c rs).done ≡ c.done ++ rs
talked-done c [] = sym (append-nil c.done)
talked-done c (r ∷ rs) = talked-done (answered c r) rs ∙ (ap (λ (xs : List SdoRequest). xs ++ rs) (answered-done c r) ∙ append_assoc c.done (r ∷ []) rs)

-- ---- uploads

-- a value that an upload brings: its number, and of a type that says nothing of real devices the size that is asked for
pub record Shown (d : Dictionary) (r : SdoRequest) (v : SdoValue) : Type 0 where
  pub value : SdoValue
  pub shown : uploaded d r.index r.subindex ≡ good value
  pub same : value.number ≡ v.number
  pub few : value.number < 2 ^ (8 * size_number value.size)
  pub plain : is_some d.kind.hardware ≡ false → value.size ≡ v.size
  pub no_name : r.index ≢ device_name_object

abbrev ShownBy : Dictionary → SdoRequest → Transfer → Type 0
ShownBy d r (Upload v) = Shown d r v
ShownBy d r (Download v) = ⊥

abbrev pub AllShown : Dictionary → List SdoRequest → Type 0
AllShown d [] = Unit {0}
AllShown d (r ∷ rs) = ShownBy d r r.transfer × AllShown d rs

upload-answers : (kind : SlaveKind) (c : Config) (r : SdoRequest) → ((d : Dictionary) → Knows kind c d → ShownBy d r r.transfer) → (v : SdoValue) → r.transfer ≡ Upload v → IsGood kind c r
upload-answers kind c r h v t hardware plain d m counter k asks =
    let w : Shown d r v = subst (λ (x : Transfer). ShownBy d r x) t (h d k) in
    let command : m.command ≡ UploadRequest = asks.command ∙ ap request_command t in
    let q : uploaded d m.index m.subindex ≡ good w.value = ap (λ (x : ℕ). uploaded d x m.subindex) asks.index ∙ (ap (λ (x : ℕ). uploaded d r.index x) asks.subindex ∙ w.shown) in
    let reply : (answer_of true d m counter).reply ≡ reply_to m counter Response (UploadResponse w.value.size) w.value.number
    = uploads_expedited.elsewhere true d m counter command (λ e. w.no_name (sym asks.index ∙ e)) ∙ ap (upload_answer m counter) q in
    let few : v.number < 2 ^ (8 * size_number w.value.size) = subst (λ (n : ℕ). n < 2 ^ (8 * size_number w.value.size)) w.same w.few in
    subst (λ (x : Message). IsWanted hardware r x) (sym reply) (record {
      service = refl;
      index = asks.index;
      subindex = asks.subindex;
      brings = subst (λ (x : Transfer). DoesBring hardware x (UploadResponse w.value.size) w.value.number) (sym t)
          (w.value.size, refl, w.same, few, λ z. w.plain (ap (λ (x : SlaveKind). is_some x.hardware) k.of_type.kind_is ∙ plain z));
    })

-- what is known with an upload more was known before it
knows-back : (kind : SlaveKind) (c : Config) (r : SdoRequest) (v : SdoValue) → r.transfer ≡ Upload v → (d : Dictionary) → Knows kind (answered c r) d → Knows kind c d
knows-back kind c r v t d k =
    let z : answered c r ≡ record c { done = c.done ++ r ∷ []; talk = None } = ap (answered_by (record c { done = c.done ++ r ∷ [] }) r) t in
    let n : Knows kind (record c { done = c.done ++ r ∷ []; talk = None }) d = subst (λ (x : Config). Knows kind x d) z k in
    record {
      of_type = n.of_type;
      outs = n.outs;
      ins = n.ins;
      came = record { from = n.came.from; of_type = n.came.of_type; done = done-back n.came.from c.done r d (v, t) n.came.done };
    }

uploads-answer : (kind : SlaveKind) (c : Config) (rs : List SdoRequest) → AreUploads rs → ((d : Dictionary) → Knows kind c d → AllShown d rs) → AllAnswers kind c rs
uploads-answer kind c [] u h = tt
uploads-answer kind c (r ∷ rs) u h = (
  upload-answers kind c r (λ d k. (h d k).0) u.0.0 u.0.1,
  uploads-answer kind (answered c r) rs u.1 (λ d k. (h d (knows-back kind c r u.0.0 u.0.1 d k)).1),
)

-- ---- the mappings

-- an object of a PDO, of a type without parameters
pdo-shown : (kind : SlaveKind) (ps : List Pdo) (x : ℕ) (h : IsOffered kind ps x) (d : Dictionary) (sub : ℕ) (v : SdoValue) → d.kind ≡ kind → kind.init ≡ [] → slice_get (pdo_values h.pdo) sub ≡ Some v → uploaded d h.pdo.index sub ≡ good v
unfolding object_values
pdo-shown kind ps x h d sub v k bare e =
    let there : pdo_at (d.kind.outputs ++ d.kind.inputs) x ≡ Some h.pdo = ap (λ (t : SlaveKind). pdo_at (t.outputs ++ t.inputs) x) k ∙ h.shown in
    let object : object_values d x ≡ Some (pdo_values h.pdo)
    = if_false _ _ _ (ne_eqb x identity_object h.no_identity) ∙ (if_false _ _ _ (ne_eqb x output_assignment h.no_outputs) ∙ (if_false _ _ _ (ne_eqb x input_assignment h.no_inputs) ∙ ap (λ (o : Option Pdo). option_or (option_map pdo_values o) (face_values_of d.kind.face (send_room d.kind.mailbox) x)) there)) in
    ap (λ (y : ℕ). uploaded d y sub) h.index_is ∙ (plain_dictionary d x sub (ap (λ (t : SlaveKind). t.init) k ∙ bare) ∙ (ap (λ (o : Option (List SdoValue)). value_at o sub) object ∙ ap value_or_abort e))

all-shown-append : (d : Dictionary) (xs bs : List SdoRequest) → AllShown d xs → AllShown d bs → AllShown d (xs ++ bs)
all-shown-append d [] bs h k = k
all-shown-append d (r ∷ xs) bs h k = (h.0, all-shown-append d xs bs h.1 k)

entries-shown : (kind : SlaveKind) (ps : List Pdo) (x : ℕ) (h : IsOffered kind ps x) (d : Dictionary) (k : ℕ) (es : List Entry) → d.kind ≡ kind → kind.init ≡ [] → All IsNumbered es
    → ((j : ℕ) (e : Entry) → slice_get es j ≡ Some e → slice_get (pdo_values h.pdo) (k + j) ≡ Some (long_value (entry_number e))) → AllShown d (entries_read h.pdo.index k es)
entries-shown kind ps x h d k [] is bare small f = tt
entries-shown kind ps x h d k (e ∷ es) is bare small f =
    let z : k + 0 ≡ k = omega arith in
    let v : slice_get (pdo_values h.pdo) k ≡ Some (long_value (entry_number e)) = ap (slice_get (pdo_values h.pdo)) (sym z) ∙ f 0 e refl in (
      record {
        value = long_value (entry_number e);
        shown = pdo-shown kind ps x h d k (long_value (entry_number e)) is bare v;
        same = refl;
        few = small 0 e (omega arith);
        plain = λ _. refl;
        no_name = λ w. h.no_name (sym h.index_is ∙ w);
      },
      entries-shown kind ps x h d (k + 1) es is bare (λ j y l. small (suc j) y (omega (arith, l))) (λ j y q. let w : k + 1 + j ≡ k + suc j = omega arith in ap (slice_get (pdo_values h.pdo)) w ∙ f (suc j) y q),
    )

pdo-all-shown : (kind : SlaveKind) (ps : List Pdo) (x : ℕ) (d : Dictionary) → d.kind ≡ kind → kind.init ≡ [] → IsOffered kind ps x → AllShown d (pdo_read (pdo_at ps x))
pdo-all-shown kind ps x d is bare h =
    let small : length h.pdo.entries < 2 ^ 8 = omega (arith, h.few) in
    subst (λ (o : Option Pdo). AllShown d (pdo_read o)) (sym h.named) (
      record {
        value = byte_value (length h.pdo.entries);
        shown = pdo-shown kind ps x h d 0 (byte_value (length h.pdo.entries)) is bare refl;
        same = refl;
        few = small;
        plain = λ _. refl;
        no_name = λ w. h.no_name (sym h.index_is ∙ w);
      },
      entries-shown kind ps x h d 1 h.pdo.entries is bare h.entries
          (λ j e q. let w : 1 + j ≡ suc j = omega arith in ap (slice_get (pdo_values h.pdo)) w
          ∙ (slice_get-map (λ (x : Entry). long_value (entry_number x)) h.pdo.entries j ∙ ap (option_map (λ (x : Entry). long_value (entry_number x))) q)),
    )

pdos-shown : (kind : SlaveKind) (ps : List Pdo) (xs : List ℕ) (d : Dictionary) → d.kind ≡ kind → kind.init ≡ [] → AreOffered kind ps xs → AllShown d (flat_map (λ index. pdo_read (pdo_at ps index)) xs)
pdos-shown kind ps [] d is bare h = tt
pdos-shown kind ps (x ∷ xs) d is bare h = all-shown-append d (pdo_read (pdo_at ps x)) _ (pdo-all-shown kind ps x d is bare h.0) (pdos-shown kind ps xs d is bare h.1)

-- their indices, of any type
abbrev AreNoNames : List SdoRequest → Type 0
AreNoNames [] = Unit {0}
AreNoNames (r ∷ rs) = (r.index ≢ device_name_object) × AreNoNames rs

no-names-append : (xs bs : List SdoRequest) → AreNoNames xs → AreNoNames bs → AreNoNames (xs ++ bs)
no-names-append [] bs h k = k
no-names-append (r ∷ xs) bs h k = (h.0, no-names-append xs bs h.1 k)

entries-no-names : (index k : ℕ) (es : List Entry) → index ≢ device_name_object → AreNoNames (entries_read index k es)
entries-no-names index k [] ne = tt
entries-no-names index k (e ∷ es) ne = (ne, entries-no-names index (k + 1) es ne)

pdos-no-names : (kind : SlaveKind) (ps : List Pdo) (xs : List ℕ) → AreOffered kind ps xs → AreNoNames (flat_map (λ index. pdo_read (pdo_at ps index)) xs)
pdos-no-names kind ps [] h = tt
pdos-no-names kind ps (x ∷ xs) h =
    let o : IsOffered kind ps x = h.0 in
    let ne : o.pdo.index ≢ device_name_object = λ w. o.no_name (sym o.index_is ∙ w) in
    no-names-append (pdo_read (pdo_at ps x)) _ (subst (λ (y : Option Pdo). AreNoNames (pdo_read y)) (sym o.named) (ne, entries-no-names o.pdo.index 1 o.pdo.entries ne)) (pdos-no-names kind ps xs h.1)

-- of a type for real devices the plan's parameters agree with them
shown-of : (d : Dictionary) (rs : List SdoRequest) → is_some d.kind.hardware ≡ true → AreUploads rs → AreNoNames rs → ShowsAll d rs → AllShown d rs
shown-of d [] hw u n h = tt
shown-of d (r ∷ rs) hw u n h = (
  subst (λ (x : Transfer). ShownBy d r x) (sym u.0.1)
      (let w : IsShown d r u.0.0.number = subst (λ (x : Transfer). ShowsBy d r x) u.0.1 h.0 in
      record { value = w.value; shown = w.shown; same = w.same; few = w.few; plain = λ z. absurd (both_ways (is_some d.kind.hardware) z hw); no_name = n.0 }),
  shown-of d rs hw u.1 n.1 h.1,
)

-- ---- downloads

download-reply : (d new : Dictionary) (m : Message) (counter : ℕ) (size : ValueSize) → m.command ≡ DownloadRequest size → downloaded true d m.index m.subindex (value_of size m.value) ≡ good new
    → (answer_of true d m counter).reply ≡ reply_to m counter Response DownloadResponse 0
unfolding answer_of
download-reply d new m counter size c q = ap (λ (k : Sdo). (answer_by true d m counter k).reply) c ∙ ap (λ (r : Result Dictionary AbortCode). (download_answer d m counter r).reply) q

download-answers : (kind : SlaveKind) (c : Config) (object sub : ℕ) (v : SdoValue)
    → ((d : Dictionary) → Knows kind c d → (e : Dictionary) × (downloaded true d object sub (value_of v.size v.number) ≡ good e)) → IsGood kind c (downloads object sub v)
download-answers kind c object sub v h hardware plain d m counter k asks =
    let e = h d k in
    let q : downloaded true d m.index m.subindex (value_of v.size m.value) ≡ good e.0
    = ap (λ (x : ℕ). downloaded true d x m.subindex (value_of v.size m.value)) asks.index
    ∙ (ap (λ (x : ℕ). downloaded true d object x (value_of v.size m.value)) asks.subindex
    ∙ (ap (λ (x : ℕ). downloaded true d object sub (value_of v.size x)) asks.value ∙ e.1)) in
    subst (λ (x : Message). IsWanted hardware (downloads object sub v) x) (sym (download-reply d e.0 m counter v.size asks.command q))
    (record { service = refl; index = asks.index; subindex = asks.subindex; brings = refl })

-- ---- parameters

-- a value that fits its size
whole-value : (v : SdoValue) → v.number < 2 ^ (8 * size_number v.size) → value_of v.size v.number ≡ v
whole-value v l = ap (λ (n : ℕ). record v { number = n }) (mod-eq_of_lt l)

-- those that are left, behind those that are done
parameters-answer : (kind : SlaveKind) (all : List SdoRequest) (c : Config) (qs : List Parameter) → ((d : Dictionary) → IsDictionary kind d → (e : Dictionary) × AreDone d all e)
    → c.done ++ parameters_written qs ≡ all → AreRequests (parameters_written qs) → AllAnswers kind c (parameters_written qs)
parameters-answer kind all c [] agree is fits = tt
parameters-answer kind all c (q ∷ qs) agree is fits =
    let r : SdoRequest = downloads q.index q.subindex (parameter_value q) in
    let next : (answered c r).done ++ parameters_written qs ≡ all = ap (λ (xs : List SdoRequest). xs ++ parameters_written qs) (answered-done c r) ∙ (append_assoc c.done (r ∷ []) (parameters_written qs) ∙ is) in (
      download-answers kind c q.index q.subindex (parameter_value q)
          (λ d k.
          let w = agree k.came.from k.came.of_type in
          let on : AreDone d (r ∷ parameters_written qs) w.0
          = done-on k.came.from c.done (r ∷ parameters_written qs) d w.0 k.came.done (subst (λ (xs : List SdoRequest). AreDone k.came.from xs w.0) (sym is) w.1) in
          (on.0, ap (λ (v : SdoValue). downloaded true d q.index q.subindex v) (whole-value (parameter_value q) fits.0.transfer) ∙ on.1)),
      parameters-answer kind all (answered c r) qs agree next fits.1,
    )

-- the outputs, or the inputs
abbrev ps_at : Bool → SlaveKind → List Pdo
ps_at true k = k.outputs
ps_at false k = k.inputs

abbrev assigned_at : Bool → Dictionary → Assignment
assigned_at true d = d.outs
assigned_at false d = d.ins

download-at : (o : Bool) (d : Dictionary) (sub : ℕ) (v old : SdoValue) (a : Assignment) → is_fixed d.kind.hardware ≡ false → has_some (ps_at o d.kind) ≡ true → slice_get (assignment_values (assigned_at o d)) sub ≡ Some old → (size_number v.size == size_number old.size) ≡ true
    → assignment_written true (ps_at o d.kind) (assigned_at o d) sub v.number ≡ good a → (e : Dictionary) × (downloaded true d (object_at o) sub v ≡ good e)
unfolding downloaded object_values
download-at true d sub v old a free some e l w =
    let u : value_at (own_values d output_assignment) sub ≡ good old
    = ap (λ (b : Bool). value_at (option_or (if b then Some (assignment_values d.outs) else None) (no_values_if (has_parameters d.kind output_assignment))) sub) some ∙ ap value_or_abort e in
    (record d { outs = a }, ap (object_written true d output_assignment sub v) u ∙ (if_false _ _ _ free ∙ (if_false _ _ _ (ap not l) ∙ ap (with_outs d) w)))
download-at false d sub v old a free some e l w =
    let u : value_at (own_values d input_assignment) sub ≡ good old
    = ap (λ (b : Bool). value_at (option_or (if b then Some (assignment_values d.ins) else None) (no_values_if (has_parameters d.kind input_assignment))) sub) some ∙ ap value_or_abort e in
    (record d { ins = a }, ap (object_written true d input_assignment sub v) u ∙ (if_false _ _ _ free ∙ (if_false _ _ _ (ap not l) ∙ ap (with_ins d) w)))

-- what is known of the one direction
known-claims : (o : Bool) (kind : SlaveKind) (c : Config) (d : Dictionary) → Knows kind c d → Claims (claim_at o c) (assigned_at o d)
known-claims true kind c d h = h.outs
known-claims false kind c d h = h.ins

known-room : (o : Bool) (kind : SlaveKind) (c : Config) (d : Dictionary) → Knows kind c d → length (assigned_at o d).slots ≡ length (ps_at o kind)
known-room true kind c d h = h.of_type.outs
known-room false kind c d h = h.of_type.ins

-- what is open and taken is written
written-taken : (ps : List Pdo) (a : Assignment) (sub number : ℕ) → is_open true a sub ≡ true → takes_value ps a sub number ≡ true → assignment_written true ps a sub number ≡ good (with_value a sub number)
unfolding assignment_written
written-taken ps a sub number o t = if_false _ _ _ (ap not o) ∙ if_false _ _ _ (ap not t)

free-in : (kind : SlaveKind) (d : Dictionary) → d.kind ≡ kind → is_fixed kind.hardware ≡ false → is_fixed d.kind.hardware ≡ false
free-in kind d e free = ap (λ (t : SlaveKind). is_fixed t.hardware) e ∙ free

-- the count 0 is always taken
zero-answers : (o : Bool) (kind : SlaveKind) (c : Config) → is_fixed kind.hardware ≡ false → has_some (ps_at o kind) ≡ true → IsGood kind c (downloads (object_at o) 0 (byte_value 0))
zero-answers o kind c free some =
    download-answers kind c (object_at o) 0 (byte_value 0)
    (λ d k. download-at o d 0 (value_of One 0) (byte_value (assigned_at o d).count) (record { slots = (assigned_at o d).slots; count = 0 }) (free-in kind d k.of_type.kind_is free) (ap (λ (t : SlaveKind). has_some (ps_at o t)) k.of_type.kind_is ∙ some) refl refl
    (written-taken (ps_at o d.kind) (assigned_at o d) 0 0 refl (and_from (nat_le 0 (length (ps_at o d.kind))) _ (le-leb 0 (length (ps_at o d.kind)) (omega arith)) refl)))

-- a slot while the count is 0
get-there : (xs : List ℕ) (k : ℕ) → k < length xs → (y : ℕ) × (slice_get (map word_value xs) k ≡ Some (word_value y))
get-there [] k l = absurd (omega (arith, l))
get-there (x ∷ xs) zero l = (x, refl)
get-there (x ∷ xs) (suc k) l = get-there xs k (omega (arith, l))

slot-taken : (ps : List Pdo) (a : Assignment) (k x : ℕ) → a.count ≡ 0 → is_some (pdo_at ps x) ≡ true → k ≢ 0 → assignment_written true ps a k x ≡ good (record { slots = slice_set a.slots (k - 1) x; count = a.count })
slot-taken ps a k x z there ne =
    let n : (k == 0) ≡ false = ne_eqb k 0 ne in
    written-taken ps a k x (or_right (k == 0) _ (eq-eqb a.count 0 z)) (if_false _ _ _ n ∙ there) ∙ ap (λ (b : Assignment). good b) (if_false _ _ _ n)

slot-answers : (o : Bool) (kind : SlaveKind) (c : Config) (S : List ℕ) (x : ℕ) → is_fixed kind.hardware ≡ false → has_some (ps_at o kind) ≡ true → claim_at o c ≡ record { count = Some 0; slots = S } → IsOffered kind (ps_at o kind) x → length S < length (ps_at o kind)
    → IsGood kind c (downloads (object_at o) (length S + 1) (word_value x))
slot-answers o kind c S x free some e h l =
    download-answers kind c (object_at o) (length S + 1) (word_value x)
    (λ d k.
    let cl : Claims (record { count = Some 0; slots = S }) (assigned_at o d) = subst (λ (q : Claim). Claims q (assigned_at o d)) e (known-claims o kind c d k) in
    let g = get-there (assigned_at o d).slots (length S) (omega (arith, known-room o kind c d k, l)) in
    let w : length S + 1 ≡ suc (length S) = omega arith in
    let v : slice_get (assignment_values (assigned_at o d)) (length S + 1) ≡ Some (word_value g.0) = ap (slice_get (assignment_values (assigned_at o d))) w ∙ g.1 in
    let small : x % 65536 ≡ x = let s = h.small in omega (arith, s) in
    let there : is_some (pdo_at (ps_at o d.kind) x) ≡ true = ap (λ (t : SlaveKind). is_some (pdo_at (ps_at o t) x)) k.of_type.kind_is ∙ ap is_some h.named in
    let t = slot-taken (ps_at o d.kind) (assigned_at o d) (length S + 1) x (cl.count_is 0 refl) there (λ q. omega (arith, q)) in
    download-at o d (length S + 1) (value_of Two x) (word_value g.0) _ (free-in kind d k.of_type.kind_is free) (ap (λ (t : SlaveKind). has_some (ps_at o t)) k.of_type.kind_is ∙ some) v refl
    (ap (λ (y : ℕ). assignment_written true (ps_at o d.kind) (assigned_at o d) (length S + 1) y) small ∙ t))

-- the count, once the slots are written
count-taken : (ps : List Pdo) (a : Assignment) (xs : List ℕ) → take (length xs) a.slots ≡ xs → length xs ≤ length ps → distinct xs ≡ true → bits_assigned ps xs ≤ 2048
    → assignment_written true ps a 0 (length xs) ≡ good (record { slots = a.slots; count = length xs })
count-taken ps a xs e l apart bits =
    written-taken ps a 0 (length xs) refl
    (and_from (nat_le (length xs) (length ps)) _ (le-leb (length xs) (length ps) l)
    (and_from (distinct (take (length xs) a.slots)) _ (ap distinct e ∙ apart) (ap (λ (y : List ℕ). nat_le (bits_assigned ps y) 2048) e ∙ le-leb (bits_assigned ps xs) 2048 bits)))

count-answers : (o : Bool) (kind : SlaveKind) (c : Config) (n : Option ℕ) (xs : List ℕ) → is_fixed kind.hardware ≡ false → has_some (ps_at o kind) ≡ true → claim_at o c ≡ record { count = n; slots = xs } → IsAssignable kind (ps_at o kind) xs
    → IsGood kind c (downloads (object_at o) 0 (byte_value (length xs)))
count-answers o kind c n xs free some e h =
    download-answers kind c (object_at o) 0 (byte_value (length xs))
    (λ d k.
    let cl : Claims (record { count = n; slots = xs }) (assigned_at o d) = subst (λ (q : Claim). Claims q (assigned_at o d)) e (known-claims o kind c d k) in
    let small : length xs % 256 ≡ length xs = let s = h.short in omega (arith, s) in
    let same : ps_at o d.kind ≡ ps_at o kind = ap (ps_at o) k.of_type.kind_is in
    let t : assignment_written true (ps_at o d.kind) (assigned_at o d) 0 (length xs) ≡ good (record { slots = (assigned_at o d).slots; count = length xs })
    = ap (λ (ps : List Pdo). assignment_written true ps (assigned_at o d) 0 (length xs)) same ∙ count-taken (ps_at o kind) (assigned_at o d) xs cl.slots_are h.few h.apart h.bits in
    download-at o d 0 (value_of One (length xs)) (byte_value (assigned_at o d).count) (record { slots = (assigned_at o d).slots; count = length xs }) (free-in kind d k.of_type.kind_is free) (ap (λ (t : SlaveKind). has_some (ps_at o t)) k.of_type.kind_is ∙ some) refl refl
    (ap (λ (y : ℕ). assignment_written true (ps_at o d.kind) (assigned_at o d) 0 y) small ∙ t))

-- ---- an assignment object

slots-answer : (o : Bool) (kind : SlaveKind) (c : Config) (S xs : List ℕ) → is_fixed kind.hardware ≡ false → has_some (ps_at o kind) ≡ true → claim_at o c ≡ record { count = Some 0; slots = S } → AreOffered kind (ps_at o kind) xs → length S + length xs ≤ length (ps_at o kind)
    → AllAnswers kind c (slots_written (object_at o) (length S + 1) xs)
slots-answer o kind c S [] free some e h l = tt
slots-answer o kind c S (x ∷ xs) free some e h l =
    let r : SdoRequest = downloads (object_at o) (length S + 1) (word_value x) in
    let m : length (S ++ x ∷ []) ≡ length S + 1 = length-append S (x ∷ []) in (
      slot-answers o kind c S x free some e h.0 (omega (arith, l)),
      subst (λ (j : ℕ). AllAnswers kind (answered c r) (slots_written (object_at o) j xs)) (ap (λ (k : ℕ). k + 1) m)
          (slots-answer o kind (answered c r) (S ++ x ∷ []) xs free some (slot-own o c (Some 0) S x e) h.1 (omega (arith, l, m))),
    )

object-answers : (o : Bool) (kind : SlaveKind) (c : Config) (xs : List ℕ) (b : Bool) → is_fixed kind.hardware ≡ false → has_some (ps_at o kind) ≡ b → IsAssignable kind (ps_at o kind) xs → AllAnswers kind c (assignment_requests (object_at o) xs b)
object-answers o kind c xs false free some h = tt
object-answers o kind c [] true free some h = (zero-answers o kind c free some, tt)
object-answers o kind c (x ∷ xs) true free some h =
    let c1 : Config = answered c (downloads (object_at o) 0 (byte_value 0)) in
    let e : claim_at o c1 ≡ record { count = Some 0; slots = [] } = own-claim o c 0 (byte_value 0) in
    let k = slots-answer o kind c1 [] (x ∷ xs) free some e h.offered (omega (arith, h.few)) in (
      zero-answers o kind c free some,
      all-append kind c1 (slots_written (object_at o) 1 (x ∷ xs)) (downloads (object_at o) 0 (byte_value (length (x ∷ xs))) ∷ []) k
          (count-answers o kind (talked_over c1 (slots_written (object_at o) 1 (x ∷ xs))) (Some 0) (x ∷ xs) free some (slots-own o c1 (Some 0) [] (x ∷ xs) e) h, tt),
    )

-- ---- an assignment object that the device has fixed: it is read, and has all PDOs

own-shown : (o : Bool) (d : Dictionary) (sub : ℕ) (v : SdoValue) → has_some (ps_at o d.kind) ≡ true → slice_get (assignment_values (assigned_at o d)) sub ≡ Some v → uploaded d (object_at o) sub ≡ good v
unfolding uploaded object_values
own-shown true d sub v some e = ap (λ (b : Bool). value_at (option_or (if b then Some (assignment_values d.outs) else None) (no_values_if (has_parameters d.kind output_assignment))) sub) some ∙ ap value_or_abort e
own-shown false d sub v some e = ap (λ (b : Bool). value_at (option_or (if b then Some (assignment_values d.ins) else None) (no_values_if (has_parameters d.kind input_assignment))) sub) some ∙ ap value_or_abort e

no-name-at : (o : Bool) → object_at o ≢ device_name_object
no-name-at true e = omega (arith, e)
no-name-at false e = omega (arith, e)

word-read : (o : Bool) (d : Dictionary) (k x : ℕ) → x < 65536 → has_some (ps_at o d.kind) ≡ true → slice_get (assignment_values (assigned_at o d)) k ≡ Some (word_value x) → Shown d (uploads (object_at o) k (word_value x)) (word_value x)
word-read o d k x l some e = record { value = word_value x; shown = own-shown o d k (word_value x) some e; same = refl; few = l; plain = λ _. refl; no_name = no-name-at o }

slots-shown : (o : Bool) (kind : SlaveKind) (d : Dictionary) (k : ℕ) (xs : List ℕ) → AreOffered kind (ps_at o kind) xs → has_some (ps_at o d.kind) ≡ true
    → ((j x : ℕ) → slice_get xs j ≡ Some x → slice_get (assignment_values (assigned_at o d)) (k + j) ≡ Some (word_value x)) → AllShown d (slots_read (object_at o) k xs)
slots-shown o kind d k [] h some f = tt
slots-shown o kind d k (x ∷ xs) h some f =
    let z : k + 0 ≡ k = omega arith in (
      word-read o d k x h.0.small some (ap (slice_get (assignment_values (assigned_at o d))) (sym z) ∙ f 0 x refl),
      slots-shown o kind d (k + 1) xs h.1 some (λ j y q. let w : k + 1 + j ≡ k + suc j = omega arith in ap (slice_get (assignment_values (assigned_at o d))) w ∙ f (suc j) y q),
    )

slots-read-uploads : (object k : ℕ) (xs : List ℕ) → AreUploads (slots_read object k xs)
slots-read-uploads object k [] = tt
slots-read-uploads object k (x ∷ xs) = ((word_value x, refl), slots-read-uploads object (k + 1) xs)

read-uploads : (object : ℕ) (xs : List ℕ) (b : Bool) → AreUploads (assignment_read object xs b)
read-uploads object xs false = tt
read-uploads object xs true = ((byte_value (length xs), refl), slots-read-uploads object 1 xs)

-- all PDOs, in order
all-of : (o : Bool) (kind : SlaveKind) (d : Dictionary) → is_assignable kind.mailbox kind.hardware ≡ false → IsDictionary kind d → assigned_at o d ≡ all_assigned (ps_at o kind)
all-of true kind d e h = (h.fixed e).0
all-of false kind d e h = (h.fixed e).1

object-read : (o : Bool) (kind : SlaveKind) (d : Dictionary) (xs : List ℕ) (b : Bool) → has_some (ps_at o kind) ≡ b → IsDictionary kind d → is_assignable kind.mailbox kind.hardware ≡ false → xs ≡ indices (ps_at o kind) → IsAssignable kind (ps_at o kind) xs
    → AllShown d (assignment_read (object_at o) xs b)
object-read o kind d xs false some h fixed is can = tt
object-read o kind d xs true some h fixed is can =
    let a : assigned_at o d ≡ all_assigned (ps_at o kind) = all-of o kind d fixed h in
    let there : has_some (ps_at o d.kind) ≡ true = ap (λ (t : SlaveKind). has_some (ps_at o t)) h.kind_is ∙ some in
    let many : length (ps_at o kind) ≡ length xs = sym (ap length is ∙ length-map (ps_at o kind) (λ (p : Pdo). p.index)) in
    let count : slice_get (assignment_values (assigned_at o d)) 0 ≡ Some (byte_value (length xs))
    = ap (λ (x : Assignment). slice_get (assignment_values x) 0) a ∙ ap (λ (n : ℕ). Some (byte_value n)) many in
    let short : length xs < 2 ^ 8 = can.short in (
      record { value = byte_value (length xs); shown = own-shown o d 0 (byte_value (length xs)) there count; same = refl; few = short; plain = λ _. refl; no_name = no-name-at o },
      slots-shown o kind d 1 xs can.offered there
          (λ j x q. let w : 1 + j ≡ suc j = omega arith in ap (slice_get (assignment_values (assigned_at o d))) w
          ∙ (ap (λ (y : Assignment). slice_get (map word_value y.slots) j) a ∙ (slice_get-map word_value (indices (ps_at o kind)) j
          ∙ ap (option_map word_value) (ap (λ (ys : List ℕ). slice_get ys j) (sym is) ∙ q)))),
    )

-- ---- all requests

-- what is asked of a plan
pub record IsTalkable (p : SlavePlan) : Type 0 where
  pub complete : IsComplete p
  pub requests : AreRequests (requests p)
  pub all : is_assignable p.kind.mailbox p.kind.hardware ≡ false → (p.outputs ≡ indices p.kind.outputs) × (p.inputs ≡ indices p.kind.inputs)
  pub agree : has_some p.kind.init ≡ true → ParametersAgree p

first-requests : (rs qs : List SdoRequest) → AreRequests (rs ++ qs) → AreRequests rs
first-requests [] qs h = tt
first-requests (r ∷ rs) qs h = (h.0, first-requests rs qs h.1)

uploads-both : (rs qs : List SdoRequest) → AreUploads rs → AreUploads qs → AreUploads (rs ++ qs)
uploads-both [] qs h k = k
uploads-both (r ∷ rs) qs h k = (h.0, uploads-both rs qs h.1 k)

-- only a type of real devices has parameters
hardware-of : (o : Option Hardware) (qs : List Parameter) → (o ≡ None → qs ≡ []) → has_some qs ≡ true → is_some o ≡ true
hardware-of None qs h e = absurd (both_ways (has_some qs) (ap has_some (h refl)) e)
hardware-of (Some x) qs h e = refl

none-of : (qs : List Parameter) → has_some qs ≡ false → qs ≡ []
none-of [] e = refl
none-of (q ∷ qs) e = absurd (both_ways true e refl)

-- behind the parameters each mapping is the type's
mappings-shown : (p : SlavePlan) (c : Config) → IsTalkable p → c.done ≡ parameters_written p.kind.init → (d : Dictionary) → Knows p.kind c d → AllShown d (mappings p)
mappings-shown p c t is d k = elim (cases_Bool (has_some p.kind.init)) [
  | inl some ↦
      let hw : is_some p.kind.hardware ≡ true = hardware-of p.kind.hardware p.kind.init t.complete.plain some in
      let w = (t.agree some).each k.came.from k.came.of_type in
      let same : w.0 ≡ d = done-same k.came.from (parameters_written p.kind.init) w.0 d w.1 (subst (λ (rs : List SdoRequest). AreDone k.came.from rs d) is k.came.done) in
      shown-of d (mappings p) (ap (λ (x : SlaveKind). is_some x.hardware) k.of_type.kind_is ∙ hw) (uploads-both _ _ (all-upload p.kind.outputs p.outputs) (all-upload p.kind.inputs p.inputs))
      (no-names-append _ _ (pdos-no-names p.kind p.kind.outputs p.outputs t.complete.outs.offered) (pdos-no-names p.kind p.kind.inputs p.inputs t.complete.ins.offered))
      (subst (λ (x : Dictionary). ShowsAll x (mappings p)) same w.2)
  | inr none ↦
      let bare : p.kind.init ≡ [] = none-of p.kind.init none in
      all-shown-append d _ _ (pdos-shown p.kind p.kind.outputs p.outputs d k.of_type.kind_is bare t.complete.outs.offered)
      (pdos-shown p.kind p.kind.inputs p.inputs d k.of_type.kind_is bare t.complete.ins.offered)
]

-- parameters, if there are any
parameters-all : (p : SlavePlan) (c : Config) → IsTalkable p → c.done ≡ [] → AllAnswers p.kind c (parameters_written p.kind.init)
parameters-all p c t none = elim (cases_Bool (has_some p.kind.init)) [
  | inl some ↦
      let a = t.agree some in
      parameters-answer p.kind (parameters_written p.kind.init) c p.kind.init (λ d h. let w = a.each d h in (w.0, w.1)) (ap (λ (rs : List SdoRequest). rs ++ parameters_written p.kind.init) none)
      (first-requests (parameters_written p.kind.init) (pdo_requests p) t.requests)
  | inr bare ↦ subst (λ (qs : List Parameter). AllAnswers p.kind c (parameters_written qs)) (sym (none-of p.kind.init bare)) tt
]

-- both assignments: written, or read where they are fixed
assignments-all : (p : SlavePlan) (c : Config) (b : Bool) → is_fixed p.kind.hardware ≡ b → IsTalkable p
    → AllAnswers p.kind c (assignment_of b output_assignment p.outputs (has_some p.kind.outputs) ++ assignment_of b input_assignment p.inputs (has_some p.kind.inputs))
assignments-all p c false free t =
    let a1 : List SdoRequest = assignment_requests output_assignment p.outputs (has_some p.kind.outputs) in
    all-append p.kind c a1 _ (object-answers true p.kind c p.outputs (has_some p.kind.outputs) free refl t.complete.outs)
    (object-answers false p.kind (talked_over c a1) p.inputs (has_some p.kind.inputs) free refl t.complete.ins)
assignments-all p c true fixed t =
    let none : is_assignable p.kind.mailbox p.kind.hardware ≡ false = and_right (is_some p.kind.mailbox) _ (ap not fixed) in
    let all = t.all none in
    uploads-answer p.kind c _ (uploads-both _ _ (read-uploads output_assignment p.outputs (has_some p.kind.outputs)) (read-uploads input_assignment p.inputs (has_some p.kind.inputs)))
    (λ d k. all-shown-append d _ _ (object-read true p.kind d p.outputs (has_some p.kind.outputs) refl k.of_type none all.0 t.complete.outs)
    (object-read false p.kind d p.inputs (has_some p.kind.inputs) refl k.of_type none all.1 t.complete.ins))

pub requests-answered : (p : SlavePlan) → IsTalkable p → AllAnswers p.kind (prepared p) (requests p)
requests-answered p t =
    let u0 : List SdoRequest = parameters_written p.kind.init in
    let u1 : List SdoRequest = flat_map (λ index. pdo_read (pdo_at p.kind.outputs index)) p.outputs in
    let u2 : List SdoRequest = flat_map (λ index. pdo_read (pdo_at p.kind.inputs index)) p.inputs in
    let b : Bool = is_fixed p.kind.hardware in
    let a : List SdoRequest = assignment_of b output_assignment p.outputs (has_some p.kind.outputs) ++ assignment_of b input_assignment p.inputs (has_some p.kind.inputs) in
    let c0 : Config = talked_over (prepared p) u0 in
    let done : c0.done ≡ u0 = talked-done (prepared p) u0 in
    let both : (u1 ++ u2) ++ a ≡ u1 ++ (u2 ++ a) = append_assoc u1 u2 a in
    all-append p.kind (prepared p) u0 _ (parameters-all p (prepared p) t refl)
    (subst (λ (rs : List SdoRequest). AllAnswers p.kind c0 rs) both
    (all-append p.kind c0 (mappings p) a
    (uploads-answer p.kind c0 (mappings p) (uploads-both u1 u2 (all-upload p.kind.outputs p.outputs) (all-upload p.kind.inputs p.inputs)) (mappings-shown p c0 t done))
    (assignments-all p (talked_over c0 (mappings p)) b refl t)))
