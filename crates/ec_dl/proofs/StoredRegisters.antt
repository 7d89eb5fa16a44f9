-- A register that keeps writes reads what a datagram wrote there: register by register.
use Rattle.std.specs.Prelude.{ℕ, ◌-◌, ◌<◌, ◌≡◌, ◌≢◌, ◌==◌, ◌&&◌, List, length, get_or, slice_index, Bool, true, false, not, if◌then◌else◌, Option, None, is_some}
use Rattle.std.specs.Int.{to_le_bytes, w16}
use Rattle.std.specs.List.{list_any}
use Rattle.std.specs.Option.{option_map_or}
use Rattle.std.proofs.Common.{ap, arith, inl, inr, sym, subst, refl, ◌∙◌}
use Rattle.std.proofs.lemmas.Bool.{cases_Bool, cases_eq, false_from_ne_true, ne_eqb, and_parts, and_from, and_left}
use Rattle.std.proofs.lemmas.List.Folds.{list_any_at}
use Rattle.ec_bits.specs.Bits.{within}
use Rattle.ec_bits.proofs.AnyLaws.{if_true, if_false, within_parts}
use Rattle.ec_dl.specs.DataLink.{DataLink, dl_byte, dl_stores, dl_takes, dl_written, dl_status, status_word, bytes_stored, stored_index, stored_registers}
use Rattle.ec_dl.specs.Laws.{PlainSlavesHideThem, StoredAreSix, OnlyTakenIsStored, OneStoredIsTaken, WritesAreReadBack}

-- the registers of a full slave
abbrev on : Bool → List ℕ → DataLink
on next stored = record { visible = true; next = next; stored = stored }

-- whether a datagram reaches one that keeps writes
abbrev reached : ℕ → ℕ → Bool
reached from count = list_any (λ a. within from count a) stored_registers

taken : (next : Bool) (stored : List ℕ) (from : ℕ) (bytes : List ℕ) → reached from (length bytes) ≡ true → dl_written (on next stored) from bytes ≡ on next (bytes_stored from bytes stored)
unfolding dl_takes dl_written
taken next stored from bytes h = if_true _ _ _ h

left : (next : Bool) (stored : List ℕ) (from : ℕ) (bytes : List ℕ) → reached from (length bytes) ≡ false → dl_written (on next stored) from bytes ≡ on next stored
unfolding dl_takes dl_written
left next stored from bytes h = if_false _ _ _ h

at : (from count k : ℕ) → k < 6 → within from count (get_or stored_registers k 0) ≡ true → reached from count ≡ true
at from count k few h = list_any_at (λ a. within from count a) stored_registers k 0 few h

-- what an address reads after a datagram
abbrev Reads : DataLink → ℕ → List ℕ → ℕ → Type 0
Reads d from bytes a = dl_byte (dl_written d from bytes) a ≡ (if within from (length bytes) a && dl_stores d a then slice_index bytes (a - from) else dl_byte d a)

control_0 : (next : Bool) (stored : List ℕ) (from : ℕ) (bytes : List ℕ) → Reads (on next stored) from bytes 0x0100
unfolding dl_byte
control_0 next stored from bytes = elim (cases_Bool (within from (length bytes) 0x0100)) [
  | inl t ↦ ap (λ (e : DataLink). dl_byte e 0x0100) (taken next stored from bytes (at from (length bytes) 0 (omega arith) t)) ∙ (if_true _ _ _ t
      ∙ sym (ap (λ (b : Bool). if b && true then slice_index bytes (0x0100 - from) else slice_index stored 0) t))
  | inr f ↦ elim (cases_Bool (reached from (length bytes))) [
    | inl y ↦ ap (λ (e : DataLink). dl_byte e 0x0100) (taken next stored from bytes y) ∙ (if_false _ _ _ f
        ∙ sym (ap (λ (b : Bool). if b && true then slice_index bytes (0x0100 - from) else slice_index stored 0) f))
    | inr n ↦ ap (λ (e : DataLink). dl_byte e 0x0100) (left next stored from bytes n)
        ∙ sym (ap (λ (b : Bool). if b && true then slice_index bytes (0x0100 - from) else slice_index stored 0) f)
  ]
]

control_1 : (next : Bool) (stored : List ℕ) (from : ℕ) (bytes : List ℕ) → Reads (on next stored) from bytes 0x0101
unfolding dl_byte
control_1 next stored from bytes = elim (cases_Bool (within from (length bytes) 0x0101)) [
  | inl t ↦ ap (λ (e : DataLink). dl_byte e 0x0101) (taken next stored from bytes (at from (length bytes) 1 (omega arith) t)) ∙ (if_true _ _ _ t
      ∙ sym (ap (λ (b : Bool). if b && true then slice_index bytes (0x0101 - from) else slice_index stored 1) t))
  | inr f ↦ elim (cases_Bool (reached from (length bytes))) [
    | inl y ↦ ap (λ (e : DataLink). dl_byte e 0x0101) (taken next stored from bytes y) ∙ (if_false _ _ _ f
        ∙ sym (ap (λ (b : Bool). if b && true then slice_index bytes (0x0101 - from) else slice_index stored 1) f))
    | inr n ↦ ap (λ (e : DataLink). dl_byte e 0x0101) (left next stored from bytes n)
        ∙ sym (ap (λ (b : Bool). if b && true then slice_index bytes (0x0101 - from) else slice_index stored 1) f)
  ]
]

control_2 : (next : Bool) (stored : List ℕ) (from : ℕ) (bytes : List ℕ) → Reads (on next stored) from bytes 0x0102
unfolding dl_byte
control_2 next stored from bytes = elim (cases_Bool (within from (length bytes) 0x0102)) [
  | inl t ↦ ap (λ (e : DataLink). dl_byte e 0x0102) (taken next stored from bytes (at from (length bytes) 2 (omega arith) t)) ∙ (if_true _ _ _ t
      ∙ sym (ap (λ (b : Bool). if b && true then slice_index bytes (0x0102 - from) else slice_index stored 2) t))
  | inr f ↦ elim (cases_Bool (reached from (length bytes))) [
    | inl y ↦ ap (λ (e : DataLink). dl_byte e 0x0102) (taken next stored from bytes y) ∙ (if_false _ _ _ f
        ∙ sym (ap (λ (b : Bool). if b && true then slice_index bytes (0x0102 - from) else slice_index stored 2) f))
    | inr n ↦ ap (λ (e : DataLink). dl_byte e 0x0102) (left next stored from bytes n)
        ∙ sym (ap (λ (b : Bool). if b && true then slice_index bytes (0x0102 - from) else slice_index stored 2) f)
  ]
]

control_3 : (next : Bool) (stored : List ℕ) (from : ℕ) (bytes : List ℕ) → Reads (on next stored) from bytes 0x0103
unfolding dl_byte
control_3 next stored from bytes = elim (cases_Bool (within from (length bytes) 0x0103)) [
  | inl t ↦ ap (λ (e : DataLink). dl_byte e 0x0103) (taken next stored from bytes (at from (length bytes) 3 (omega arith) t)) ∙ (if_true _ _ _ t
      ∙ sym (ap (λ (b : Bool). if b && true then slice_index bytes (0x0103 - from) else slice_index stored 3) t))
  | inr f ↦ elim (cases_Bool (reached from (length bytes))) [
    | inl y ↦ ap (λ (e : DataLink). dl_byte e 0x0103) (taken next stored from bytes y) ∙ (if_false _ _ _ f
        ∙ sym (ap (λ (b : Bool). if b && true then slice_index bytes (0x0103 - from) else slice_index stored 3) f))
    | inr n ↦ ap (λ (e : DataLink). dl_byte e 0x0103) (left next stored from bytes n)
        ∙ sym (ap (λ (b : Bool). if b && true then slice_index bytes (0x0103 - from) else slice_index stored 3) f)
  ]
]

pdi : (next : Bool) (stored : List ℕ) (from : ℕ) (bytes : List ℕ) → Reads (on next stored) from bytes 0x0140
unfolding dl_byte
pdi next stored from bytes = elim (cases_Bool (within from (length bytes) 0x0140)) [
  | inl t ↦ ap (λ (e : DataLink). dl_byte e 0x0140) (taken next stored from bytes (at from (length bytes) 4 (omega arith) t)) ∙ (if_true _ _ _ t
      ∙ sym (ap (λ (b : Bool). if b && true then slice_index bytes (0x0140 - from) else slice_index stored 4) t))
  | inr f ↦ elim (cases_Bool (reached from (length bytes))) [
    | inl y ↦ ap (λ (e : DataLink). dl_byte e 0x0140) (taken next stored from bytes y) ∙ (if_false _ _ _ f
        ∙ sym (ap (λ (b : Bool). if b && true then slice_index bytes (0x0140 - from) else slice_index stored 4) f))
    | inr n ↦ ap (λ (e : DataLink). dl_byte e 0x0140) (left next stored from bytes n)
        ∙ sym (ap (λ (b : Bool). if b && true then slice_index bytes (0x0140 - from) else slice_index stored 4) f)
  ]
]

sii : (next : Bool) (stored : List ℕ) (from : ℕ) (bytes : List ℕ) → Reads (on next stored) from bytes 0x0500
unfolding dl_byte
sii next stored from bytes = elim (cases_Bool (within from (length bytes) 0x0500)) [
  | inl t ↦ ap (λ (e : DataLink). dl_byte e 0x0500) (taken next stored from bytes (at from (length bytes) 5 (omega arith) t)) ∙ (if_true _ _ _ t
      ∙ sym (ap (λ (b : Bool). if b && true then slice_index bytes (0x0500 - from) else slice_index stored 5) t))
  | inr f ↦ elim (cases_Bool (reached from (length bytes))) [
    | inl y ↦ ap (λ (e : DataLink). dl_byte e 0x0500) (taken next stored from bytes y) ∙ (if_false _ _ _ f
        ∙ sym (ap (λ (b : Bool). if b && true then slice_index bytes (0x0500 - from) else slice_index stored 5) f))
    | inr n ↦ ap (λ (e : DataLink). dl_byte e 0x0500) (left next stored from bytes n)
        ∙ sym (ap (λ (b : Bool). if b && true then slice_index bytes (0x0500 - from) else slice_index stored 5) f)
  ]
]

-- any other register reads the same, whatever the bytes are that these keep
same_byte : (next : Bool) (old new : List ℕ) (a : ℕ) → stored_index a ≡ None → dl_byte (on next new) a ≡ dl_byte (on next old) a
unfolding dl_byte
same_byte next old new a h =
    ap (λ (n : ℕ). if a == 0x0000 then 0x11 else (if a == 0x0007 then 0x0F else (if within dl_status 2 a then slice_index (to_le_bytes w16 (status_word next)) (a - dl_status) else n)))
    (ap (λ (o : Option ℕ). option_map_or (slice_index new) o 0) h ∙ sym (ap (λ (o : Option ℕ). option_map_or (slice_index old) o 0) h))

aside : (next : Bool) (stored : List ℕ) (from : ℕ) (bytes : List ℕ) (a : ℕ) → stored_index a ≡ None → Reads (on next stored) from bytes a
aside next stored from bytes a h =
    let keeps : (b : Bool) → (if b && is_some (stored_index a) then slice_index bytes (a - from) else dl_byte (on next stored) a) ≡ dl_byte (on next stored) a
    = λ b. ap (λ (o : Option ℕ). if b && is_some o then slice_index bytes (a - from) else dl_byte (on next stored) a) h ∙ none b (slice_index bytes (a - from)) (dl_byte (on next stored) a) in
    elim (cases_Bool (reached from (length bytes))) [
      | inl y ↦ ap (λ (e : DataLink). dl_byte e a) (taken next stored from bytes y) ∙ (same_byte next stored (bytes_stored from bytes stored) a h ∙ sym (keeps (within from (length bytes) a)))
      | inr n ↦ ap (λ (e : DataLink). dl_byte e a) (left next stored from bytes n) ∙ sym (keeps (within from (length bytes) a))
    ]
  where
    none : (b : Bool) (x y : ℕ) → (if b && false then x else y) ≡ y
    none true x y = refl
    none false x y = refl

-- every address is one of the six, or none
unstored : (a : ℕ) → a ≢ 0x0100 → a ≢ 0x0101 → a ≢ 0x0102 → a ≢ 0x0103 → a ≢ 0x0140 → a ≢ 0x0500 → stored_index a ≡ None
unstored a h0 h1 h2 h3 h4 h5 =
    let low : within 0x0100 4 a ≡ false = false_from_ne_true _ (λ t. let p = within_parts 0x0100 4 a t in
    elim (cases_eq a 0x0100) [ inl e ↦ h0 e | inr n0 ↦ elim (cases_eq a 0x0101) [ inl e ↦ h1 e | inr n1 ↦ elim (cases_eq a 0x0102) [ inl e ↦ h2 e | inr n2 ↦ h3 (let x = p.0 in let y = p.1 in omega arith) ] ] ]) in
    if_false _ _ _ low ∙ (if_false _ _ _ (ne_eqb a 0x0140 h4) ∙ if_false _ _ _ (ne_eqb a 0x0500 h5))

reads : (next : Bool) (stored : List ℕ) (from : ℕ) (bytes : List ℕ) (a : ℕ) → Reads (on next stored) from bytes a
reads next stored from bytes a =
    elim (cases_eq a 0x0100) [
      | inl e ↦ subst (Reads (on next stored) from bytes) (sym e) (control_0 next stored from bytes)
      | inr n0 ↦ elim (cases_eq a 0x0101) [
        | inl e ↦ subst (Reads (on next stored) from bytes) (sym e) (control_1 next stored from bytes)
        | inr n1 ↦ elim (cases_eq a 0x0102) [
          | inl e ↦ subst (Reads (on next stored) from bytes) (sym e) (control_2 next stored from bytes)
          | inr n2 ↦ elim (cases_eq a 0x0103) [
            | inl e ↦ subst (Reads (on next stored) from bytes) (sym e) (control_3 next stored from bytes)
            | inr n3 ↦ elim (cases_eq a 0x0140) [
              | inl e ↦ subst (Reads (on next stored) from bytes) (sym e) (pdi next stored from bytes)
              | inr n4 ↦ elim (cases_eq a 0x0500) [
                | inl e ↦ subst (Reads (on next stored) from bytes) (sym e) (sii next stored from bytes)
                | inr n5 ↦ aside next stored from bytes a (unstored a n0 n1 n2 n3 n4 n5)
              ]
            ]
          ]
        ]
      ]
    ]

hidden : (d : DataLink) (from : ℕ) (bytes : List ℕ) → d.visible ≡ false → dl_written d from bytes ≡ d
unfolding dl_takes dl_written
hidden d from bytes h = if_false _ _ _ (ap (λ (b : Bool). b && reached from (length bytes)) h)

pub read_back : WritesAreReadBack
read_back d from bytes a = elim (cases_Bool d.visible) [
  | inl h ↦
      let same : on d.next d.stored ≡ d = ap (λ (b : Bool). record { visible = b; next = d.next; stored = d.stored }) (sym h) in
      subst (λ (e : DataLink). Reads e from bytes a) same (reads d.next d.stored from bytes a)
  | inr h ↦ ap (λ (e : DataLink). dl_byte e a) (hidden d from bytes h)
      ∙ sym (ap (λ (b : Bool). if within from (length bytes) a && (b && is_some (stored_index a)) then slice_index bytes (a - from) else dl_byte d a) h ∙ none (within from (length bytes) a) (slice_index bytes (a - from)) (dl_byte d a))
]
  where
    none : (b : Bool) (x y : ℕ) → (if b && false then x else y) ≡ y
    none true x y = refl
    none false x y = refl

pub stored_are_six : StoredAreSix
stored_are_six a h =
    elim (cases_eq a 0x0100) [
      | inl e ↦ inl e
      | inr n0 ↦ inr (elim (cases_eq a 0x0101) [
        | inl e ↦ inl e
        | inr n1 ↦ inr (elim (cases_eq a 0x0102) [
          | inl e ↦ inl e
          | inr n2 ↦ inr (elim (cases_eq a 0x0103) [
            | inl e ↦ inl e
            | inr n3 ↦ inr (elim (cases_eq a 0x0140) [
              | inl e ↦ inl e
              | inr n4 ↦ inr (elim (cases_eq a 0x0500) [
                | inl e ↦ e
                | inr n5 ↦ absurd (let z : false ≡ true = sym (ap (λ (o : Option ℕ). is_some o) (unstored a n0 n1 n2 n3 n4 n5)) ∙ h in cc)
              ])
            ])
          ])
        ])
      ])
    ]

-- what holds of each of the six holds of an address that keeps
stored_cases : (P : ℕ → Type 0) → P 0x0100 → P 0x0101 → P 0x0102 → P 0x0103 → P 0x0140 → P 0x0500 → (a : ℕ) → is_some (stored_index a) ≡ true → P a
stored_cases P p0 p1 p2 p3 p4 p5 a h = elim (stored_are_six a h) [
  | inl e ↦ subst P (sym e) p0
  | inr (inl e) ↦ subst P (sym e) p1
  | inr (inr (inl e)) ↦ subst P (sym e) p2
  | inr (inr (inr (inl e))) ↦ subst P (sym e) p3
  | inr (inr (inr (inr (inl e)))) ↦ subst P (sym e) p4
  | inr (inr (inr (inr (inr e)))) ↦ subst P (sym e) p5
]

-- what is not taken changes nothing
pub untaken : OnlyTakenIsStored
unfolding dl_written
untaken d from bytes h = if_false _ _ _ h

-- a slave without a face hides all of them
pub plain_hidden : PlainSlavesHideThem
unfolding dl_byte dl_takes
plain_hidden d h = record {
  reads = λ a. if_true _ _ _ (ap not h);
  takes = λ from count. and_left _ _ h;
  stays = λ from bytes. hidden d from bytes h;
}

-- one that is kept is taken
reaches : (from count a : ℕ) → within from count a ≡ true → is_some (stored_index a) ≡ true → reached from count ≡ true
reaches from count a w h =
    stored_cases (λ x. within from count x ≡ true → reached from count ≡ true)
    (at from count 0 (omega arith)) (at from count 1 (omega arith)) (at from count 2 (omega arith))
    (at from count 3 (omega arith)) (at from count 4 (omega arith)) (at from count 5 (omega arith)) a h w

pub one_taken : OneStoredIsTaken
unfolding dl_takes
one_taken d from count a w h =
    let p = and_parts d.visible (is_some (stored_index a)) h in
    and_from _ _ p.0 (reaches from count a w p.1)
