-- What the requests of a start-up leave known of the assignment objects.
use Rattle.ec_bringup.proofs.Words.{ℕ, zero, suc, ◌+◌, ◌≡◌, ◌==◌, Bool, true, false, not, Option, Some, None, refl, sym, ◌∙◌, ap, subst, arith, List, [], ◌∷◌, ◌++◌, length, take, append_assoc, length-append, flat_map, eq-eqb, ne_eqb, both_ways, length-map, if_true, if_false, Entry, Pdo, Mailbox, SlaveKind, SlaveState, SdoValue, Assignment, assigned, all_assigned, indices, byte_value, word_value, output_assignment, input_assignment, has_some, pdo_at, SlavePlan, SdoRequest, Upload, requests, downloads, entries_read, pdo_read, slots_written, assignment_written, Claim, Config, claimed, answered, talked_over, asked_all, prepared, claim_of, Claims, IsAssigned, IsOfKind, IsStartable, append-nil, take_all, is_some, cases_Bool, inl, inr, and_parts, is_assignable, is_fixed, parameters_written, assignment_of}

pub talked-append : (c : Config) (rs qs : List SdoRequest) → talked_over c (rs ++ qs) ≡ talked_over (talked_over c rs) qs
talked-append c [] qs = refl
talked-append c (r ∷ rs) qs = talked-append (answered c r) rs qs

-- of the outputs, or of the inputs
abbrev pub claim_at : Bool → Config → Claim
claim_at true c = c.outs
claim_at false c = c.ins

abbrev pub object_at : Bool → ℕ
object_at true = output_assignment
object_at false = input_assignment

-- ---- uploads

abbrev pub AreUploads : List SdoRequest → Type 0
AreUploads [] = Unit {0}
AreUploads (r ∷ rs) = ((v : SdoValue) × (r.transfer ≡ Upload v)) × AreUploads rs

uploads-append : (rs qs : List SdoRequest) → AreUploads rs → AreUploads qs → AreUploads (rs ++ qs)
uploads-append [] qs h k = k
uploads-append (r ∷ rs) qs h k = (h.0, uploads-append rs qs h.1 k)

entries-upload : (index k : ℕ) (es : List Entry) → AreUploads (entries_read index k es)
entries-upload index k [] = tt
entries-upload index k (e ∷ es) = ((_, refl), entries-upload index (k + 1) es)

pdo-uploads : (o : Option Pdo) → AreUploads (pdo_read o)
pdo-uploads None = tt
pdo-uploads (Some p) = ((_, refl), entries-upload p.index 1 p.entries)

pub all-upload : (ps : List Pdo) (indices : List ℕ) → AreUploads (flat_map (λ index. pdo_read (pdo_at ps index)) indices)
all-upload ps [] = tt
all-upload ps (i ∷ is) = uploads-append (pdo_read (pdo_at ps i)) _ (pdo-uploads (pdo_at ps i)) (all-upload ps is)

-- ---- downloads to the one object, and to the other

pub own-claim : (o : Bool) (c : Config) (subindex : ℕ) (v : SdoValue) → claim_at o (answered c (downloads (object_at o) subindex v)) ≡ claimed (claim_at o c) subindex v.number
own-claim true c subindex v = refl
own-claim false c subindex v = refl

pub other-claim : (o : Bool) (c : Config) (subindex : ℕ) (v : SdoValue) → claim_at (not o) (answered c (downloads (object_at o) subindex v)) ≡ claim_at (not o) c
other-claim true c subindex v = refl
other-claim false c subindex v = refl

pub slot-own : (o : Bool) (c : Config) (n : Option ℕ) (S : List ℕ) (x : ℕ) → claim_at o c ≡ record { count = n; slots = S }
    → claim_at o (answered c (downloads (object_at o) (length S + 1) (word_value x))) ≡ record { count = n; slots = S ++ x ∷ [] }
slot-own o c n S x h =
    own-claim o c (length S + 1) (word_value x) ∙ (ap (λ (k : Claim). claimed k (length S + 1) x) h
    ∙ (if_false (length S + 1 == 0) _ _ (ne_eqb (length S + 1) 0 (λ q. omega (arith, q)))
    ∙ ap (λ (y : List ℕ). record { count = n; slots = y }) (if_true (length S + 1 == length S + 1) (S ++ x ∷ []) [] (eq-eqb (length S + 1) (length S + 1) refl))))

pub slots-own : (o : Bool) (c : Config) (n : Option ℕ) (S xs : List ℕ) → claim_at o c ≡ record { count = n; slots = S } → claim_at o (talked_over c (slots_written (object_at o) (length S + 1) xs)) ≡ record { count = n; slots = S ++ xs }
slots-own o c n S [] h = h ∙ ap (λ (x : List ℕ). record { count = n; slots = x }) (sym (append-nil S))
slots-own o c n S (x ∷ xs) h =
    let r : SdoRequest = downloads (object_at o) (length S + 1) (word_value x) in
    let l : length (S ++ x ∷ []) + 1 ≡ length S + 1 + 1 = ap (λ (k : ℕ). k + 1) (length-append S (x ∷ [])) in
    subst (λ (k : ℕ). claim_at o (talked_over (answered c r) (slots_written (object_at o) k xs)) ≡ record { count = n; slots = S ++ x ∷ xs }) l
    (slots-own o (answered c r) n (S ++ x ∷ []) xs (slot-own o c n S x h) ∙ ap (λ (y : List ℕ). record { count = n; slots = y }) (append_assoc S (x ∷ []) xs))

slots-other : (o : Bool) (c : Config) (k : ℕ) (xs : List ℕ) → claim_at (not o) (talked_over c (slots_written (object_at o) k xs)) ≡ claim_at (not o) c
slots-other o c k [] = refl
slots-other o c k (x ∷ xs) = slots-other o (answered c (downloads (object_at o) k (word_value x))) (k + 1) xs ∙ other-claim o c k (word_value x)

-- the whole of one object, whatever was known of it
pub assigned-own : (o : Bool) (c : Config) (xs : List ℕ) → claim_at o (talked_over c (assignment_written (object_at o) xs true)) ≡ claim_of xs true
assigned-own o c [] = own-claim o c 0 (byte_value 0)
assigned-own o c (x ∷ xs) =
    let c1 : Config = answered c (downloads (object_at o) 0 (byte_value 0)) in
    let c2 : Config = talked_over c1 (slots_written (object_at o) 1 (x ∷ xs)) in
    let a : claim_at o c1 ≡ record { count = Some 0; slots = [] } = own-claim o c 0 (byte_value 0) in
    let b : claim_at o c2 ≡ record { count = Some 0; slots = x ∷ xs } = slots-own o c1 (Some 0) [] (x ∷ xs) a in
    ap (claim_at o) (talked-append c1 (slots_written (object_at o) 1 (x ∷ xs)) (downloads (object_at o) 0 (byte_value (length (x ∷ xs))) ∷ []))
    ∙ (own-claim o c2 0 (byte_value (length (x ∷ xs))) ∙ (ap (λ (k : Claim). claimed k 0 (length (x ∷ xs))) b
    ∙ ap (λ (y : List ℕ). record { count = Some (length (x ∷ xs)); slots = y }) (if_false (length (x ∷ xs) == 0) [] (x ∷ xs) (ne_eqb (length (x ∷ xs)) 0 (λ q. omega (arith, q))))))

pub assigned-other : (o : Bool) (c : Config) (xs : List ℕ) (b : Bool) → claim_at (not o) (talked_over c (assignment_written (object_at o) xs b)) ≡ claim_at (not o) c
assigned-other o c xs false = refl
assigned-other o c [] true = other-claim o c 0 (byte_value 0)
assigned-other o c (x ∷ xs) true =
    let c1 : Config = answered c (downloads (object_at o) 0 (byte_value 0)) in
    let c2 : Config = talked_over c1 (slots_written (object_at o) 1 (x ∷ xs)) in
    ap (claim_at (not o)) (talked-append c1 (slots_written (object_at o) 1 (x ∷ xs)) (downloads (object_at o) 0 (byte_value (length (x ∷ xs))) ∷ []))
    ∙ (other-claim o c2 0 (byte_value (length (x ∷ xs))) ∙ (slots-other o c1 1 (x ∷ xs) ∙ other-claim o c 0 (byte_value 0)))

-- ---- all requests of a slave

-- of an assignment that isn't fixed
written-requests : (p : SlavePlan) (b : Bool) → is_fixed p.kind.hardware ≡ b → requests p ≡ parameters_written p.kind.init ++ (flat_map (λ index. pdo_read (pdo_at p.kind.outputs index)) p.outputs
    ++ (flat_map (λ index. pdo_read (pdo_at p.kind.inputs index)) p.inputs
    ++ (assignment_of b output_assignment p.outputs (has_some p.kind.outputs) ++ assignment_of b input_assignment p.inputs (has_some p.kind.inputs))))
written-requests p b e = ap (λ (x : Bool). parameters_written p.kind.init ++ (flat_map (λ index. pdo_read (pdo_at p.kind.outputs index)) p.outputs
    ++ (flat_map (λ index. pdo_read (pdo_at p.kind.inputs index)) p.inputs
    ++ (assignment_of x output_assignment p.outputs (has_some p.kind.outputs) ++ assignment_of x input_assignment p.inputs (has_some p.kind.inputs))))) e

pub record AreClaimed (p : SlavePlan) (c : Config) : Type 0 where
  pub outs : has_some p.kind.outputs ≡ true → c.outs ≡ claim_of p.outputs true
  pub ins : has_some p.kind.inputs ≡ true → c.ins ≡ claim_of p.inputs true

pub requests-claim : (p : SlavePlan) → is_fixed p.kind.hardware ≡ false → AreClaimed p (talked_over (prepared p) (requests p))
requests-claim p free =
    let u0 : List SdoRequest = parameters_written p.kind.init in
    let u1 : List SdoRequest = flat_map (λ index. pdo_read (pdo_at p.kind.outputs index)) p.outputs in
    let u2 : List SdoRequest = flat_map (λ index. pdo_read (pdo_at p.kind.inputs index)) p.inputs in
    let a1 : List SdoRequest = assignment_written output_assignment p.outputs (has_some p.kind.outputs) in
    let a2 : List SdoRequest = assignment_written input_assignment p.inputs (has_some p.kind.inputs) in
    let c0 : Config = talked_over (prepared p) u0 in
    let c1 : Config = talked_over c0 u1 in
    let c2 : Config = talked_over c1 u2 in
    let c3 : Config = talked_over c2 a1 in
    let whole : talked_over (prepared p) (requests p) ≡ talked_over c3 a2
    = ap (talked_over (prepared p)) (written-requests p false free)
    ∙ (talked-append (prepared p) u0 (u1 ++ (u2 ++ (a1 ++ a2))) ∙ (talked-append c0 u1 (u2 ++ (a1 ++ a2)) ∙ (talked-append c1 u2 (a1 ++ a2) ∙ talked-append c2 a1 a2))) in
    record {
      outs = λ e. ap (λ (c : Config). c.outs) whole
          ∙ (assigned-other false c3 p.inputs (has_some p.kind.inputs)
          ∙ (ap (λ (b : Bool). (talked_over c2 (assignment_written output_assignment p.outputs b)).outs) e ∙ assigned-own true c2 p.outputs));
      ins = λ e. ap (λ (c : Config). c.ins) whole
          ∙ (ap (λ (b : Bool). (talked_over c3 (assignment_written input_assignment p.inputs b)).ins) e ∙ assigned-own false c3 p.inputs);
    }

-- ---- the assignment at the end of the script

take-none : (xs : List ℕ) (n : ℕ) → length xs ≡ 0 → take n xs ≡ []
take-none [] zero e = refl
take-none [] (suc n) e = refl
take-none (x ∷ xs) n e = absurd (omega (arith, e))

none-there : (ps : List Pdo) → has_some ps ≡ false → length ps ≡ 0
none-there [] e = refl
none-there (p ∷ ps) e = absurd (both_ways true e refl)

-- what such a claim says of a slave
by-some : (b : Bool) (xs : List ℕ) (a : Assignment) → (b ≡ false → assigned a ≡ xs) → (b ≡ true → Claims (claim_of xs true) a) → assigned a ≡ xs
by-some true xs a h k = let c = k refl in ap (λ (n : ℕ). take n a.slots) (c.count_is (length xs) refl) ∙ c.slots_are
by-some false xs a h k = h refl

assigned-whole : (xs : List ℕ) (a : Assignment) (ps : List Pdo) → a ≡ all_assigned ps → xs ≡ indices ps → assigned a ≡ xs
assigned-whole xs a ps e f =
    let l : length (indices ps) ≡ length ps = length-map ps (λ (p : Pdo). p.index) in
    ap assigned e ∙ (ap (λ (k : ℕ). take k (indices ps)) (sym l) ∙ (take_all (length (indices ps)) (indices ps) (omega arith) ∙ sym f))

-- the assignment is the plan's, whether it could be written or not
pub assignment-held : (p : SlavePlan) (o : Option Mailbox) (s : SlaveState) → p.kind.mailbox ≡ o → IsStartable p → IsOfKind p.kind s → IsAssigned (asked_all (prepared p) p o) s
    → (assigned s.outs ≡ p.outputs) × (assigned s.ins ≡ p.inputs)
assignment-held p o s e h k a = elim (cases_Bool (is_assignable p.kind.mailbox p.kind.hardware)) [
  | inr off ↦
      let f = k.fixed off in
      let q = h.all_assigned off in (
        assigned-whole p.outputs s.outs p.kind.outputs (f.outs ∙ ap (λ (x : SlaveKind). all_assigned x.outputs) k.kind_is) q.0,
        assigned-whole p.inputs s.ins p.kind.inputs (f.ins ∙ ap (λ (x : SlaveKind). all_assigned x.inputs) k.kind_is) q.1,
      )
  | inl on ↦ written o e a on
]
  where
    no-true : (b : Bool) → not b ≡ true → b ≡ false
    no-true true f = absurd (both_ways false refl f)
    no-true false f = refl

    written : (x : Option Mailbox) → p.kind.mailbox ≡ x → IsAssigned (asked_all (prepared p) p x) s → is_assignable p.kind.mailbox p.kind.hardware ≡ true → (assigned s.outs ≡ p.outputs) × (assigned s.ins ≡ p.inputs)
    written None q g on = absurd (both_ways (is_some p.kind.mailbox) (ap is_some q) (and_parts (is_some p.kind.mailbox) (not (is_fixed p.kind.hardware)) on).0)
    written (Some b) q g on =
        let free : is_fixed p.kind.hardware ≡ false = no-true (is_fixed p.kind.hardware) (and_parts (is_some p.kind.mailbox) (not (is_fixed p.kind.hardware)) on).1 in
        let r : AreClaimed p (talked_over (prepared p) (requests p)) = requests-claim p free in (
          by-some (has_some p.kind.outputs) p.outputs s.outs
              (λ z. take-none s.outs.slots s.outs.count (k.outs ∙ none-there p.kind.outputs z) ∙ sym (h.no_outs z))
              (λ z. subst (λ (c : Claim). Claims c s.outs) (r.outs z) g.outs),
          by-some (has_some p.kind.inputs) p.inputs s.ins
              (λ z. take-none s.ins.slots s.ins.count (k.ins ∙ none-there p.kind.inputs z) ∙ sym (h.no_ins z))
              (λ z. subst (λ (c : Claim). Claims c s.ins) (r.ins z) g.ins),
        )
