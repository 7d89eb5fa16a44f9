-- The process data of a frame before and after one more slave.
use Rattle.ec_world.proofs.Words.{ℕ, ◌+◌, ◌-◌, ◌*◌, ◌<◌, ◌≤◌, ◌≡◌, ◌≢◌, Bool, true, false, refl, sym, ◌∙◌, ap, subst, inl, inr, arith, if◌then◌else◌, List, [], ◌∷◌, ◌++◌, length, get_or, unwrap_or, option_map, cases_Bool, cases_lt, cases_eq, lt-ltb, le-ltb, both_ways, get_or_append_left, get_or_push, length_push, bit, within, bytes_of_bits, zeros, bit-overlay, bit-zeros, overlay_alike, length-overlay, if_true, if_false, within_true, within_parts, LogicalSpan, outputs_from, inputs_into, Area, Spans, Gave, nothing_given, Meaning, share_of, IsLaid, PlainFrame, Note, Other, Full, linked_outputs, with_note, GaveAs, note_at, DataRefines}

-- the outputs that a frame has for a slave to come are the linked ones
pub outputs_are : (m : Meaning) (area : ℕ → Area) (place : ℕ → LogicalSpan) (p : LogicalSpan) (f : PlainFrame) (sent returned : List ℕ) (gave : List Gave) (t : ℕ)
    → IsLaid m area place → DataRefines m area p f sent returned gave → length f.notes ≤ t → t < length m.slaves → (share_of m t).part ≡ f.part
    → outputs_from (area t) p sent ≡ linked_outputs m t f.snapshot
outputs_are m area place p f sent returned gave t laid shows l b part =
    rw (laid.outs t) (overlay_alike (zeros (bytes_of_bits (share_of m t).outs)) _ _ (λ k x. elim (cases_lt k (share_of m t).outs) [
      | inl u ↦
          let v : k < (area t).outs = let e = laid.outs t in omega arith in
          ap (λ o. unwrap_or o (bit (zeros (bytes_of_bits (share_of m t).outs)) k)) (if_true _ _ _ (lt-ltb k (share_of m t).outs u))
          ∙ (shows.to_come t k l b part v ∙ ap (unwrap_or (option_map (bit f.snapshot) (m.out_source t k))) (sym (bit-zeros (bytes_of_bits (share_of m t).outs) k)))
      | inr u ↦
          ap (λ o. unwrap_or o (bit (zeros (bytes_of_bits (share_of m t).outs)) k)) (if_false _ _ _ (le-ltb k (share_of m t).outs u) ∙ sym (ap (option_map (bit f.snapshot)) (laid.no_more_sources t k u)))
    ]))

-- ---- data with a slave's inputs

-- the data changed at the slave's inputs alone, and there it has these
pub record Took (a : Area) (p : LogicalSpan) (v old new : List ℕ) (taken : Bool) : Type 0 where
  pub same_length : length new ≡ length old
  pub kept : (i : ℕ) → i < p.bits → within a.in_at a.ins (p.from + i) ≡ false → bit new i ≡ bit old i
  pub there : (o : ℕ) → taken ≡ true → o < a.ins → bit new (a.in_at + o - p.from) ≡ bit v o

pub took : (a : Area) (p : LogicalSpan) (v old : List ℕ) (taken : Bool) → p.bits ≡ 8 * length old → Spans p a → Took a p v old (if taken then inputs_into a p v old else old) taken
took a p v old false room c = record { same_length = refl; kept = λ i l w. refl; there = λ o t l. absurd (both_ways false refl t) }
took a p v old true room c = record {
  same_length = length-overlay old _;
  kept = λ i l w. bit-overlay old _ i (omega arith) ∙ ap (λ x. unwrap_or x (bit old i)) (if_false _ _ _ w);
  there = λ o t l.
      let i = a.in_at + o - p.from in
      let back : p.from + i ≡ a.in_at + o = let x = c.in_from in omega arith in
      let here : i < 8 * length old = let x = c.in_to in let y = c.in_from in omega arith in
      let w : within a.in_at a.ins (p.from + i) ≡ true = within_true a.in_at a.ins (p.from + i) (omega arith) (omega arith) in
      let z : p.from + i - a.in_at ≡ o = omega arith in
      bit-overlay old _ i here ∙ (ap (λ x. unwrap_or x (bit old i)) (if_true _ _ _ w) ∙ ap (bit v) z);
}

-- ---- one more slave

-- what a meeting with slave t owes
pub record Meets (m : Meaning) (a : Area) (p : LogicalSpan) (f : PlainFrame) (t : ℕ) (n : Note) (sent returned sent2 returned2 : List ℕ) (g : Gave) : Type 0 where
  pub same_sent : length sent2 ≡ length sent
  pub same_returned : length returned2 ≡ length returned
  pub sent_kept : (i : ℕ) → i < p.bits → within a.in_at a.ins (p.from + i) ≡ false → bit sent2 i ≡ bit sent i
  pub returned_kept : (i : ℕ) → i < p.bits → within a.in_at a.ins (p.from + i) ≡ false → bit returned2 i ≡ bit returned i
  pub mine : (v : List ℕ) (o : ℕ) → n ≡ Full v → o < a.ins → bit returned2 (a.in_at + o - p.from) ≡ bit v o
  pub given : GaveAs (share_of m t) n g
  pub in_part : (share_of m t).part ≡ f.part → n ≢ Other
  pub elsewhere : (share_of m t).part ≢ f.part → n ≡ Other

pub no_overlap : (a b n k : ℕ) → ((i j : ℕ) → i < n → j < k → a + i ≢ b + j) → (o : ℕ) → o < k → within a n (b + o) ≡ false
no_overlap a b n k h o l = elim (cases_Bool (within a n (b + o))) [
  | inl t ↦ let w = within_parts a n (b + o) t in absurd (h (b + o - a) o (let x = w.0 in let y = w.1 in omega arith) l (let x = w.0 in omega arith))
  | inr f ↦ f
]

pub same_place : (m : Meaning) (area : ℕ → Area) (place : ℕ → LogicalSpan) (k t : ℕ) → IsLaid m area place → t < length m.slaves → (share_of m t).part ≡ k → Spans (place k) (area t)
same_place m area place k t laid l e = subst (λ (k : ℕ). Spans (place k) (area t)) e (laid.inside t l)

note-old : (f : PlainFrame) (n : Note) (t : ℕ) → t < length f.notes → note_at (f.notes ++ (n ∷ [])) t ≡ note_at f.notes t
note-old f n t l = get_or_append_left f.notes (n ∷ []) Other t l

note-new : (f : PlainFrame) (n : Note) → note_at (f.notes ++ (n ∷ [])) (length f.notes) ≡ n
note-new f n = get_or_push f.notes n Other (length f.notes) refl

pub full_in_part : (m : Meaning) (t k : ℕ) (n : Note) (v : List ℕ) → n ≡ Full v → ((share_of m t).part ≢ k → n ≡ Other) → (share_of m t).part ≡ k
full_in_part m t k n v e elsewhere = elim (cases_eq (share_of m t).part k) [ inl x ↦ x | inr y ↦ absurd (cc (sym (elsewhere y) ∙ e)) ]

pub data_passed : (m : Meaning) (area : ℕ → Area) (place : ℕ → LogicalSpan) (f : PlainFrame) (sent returned sent2 returned2 : List ℕ) (gave : List Gave) (n : Note) (g : Gave)
    → IsLaid m area place → DataRefines m area (place f.part) f sent returned gave → length f.notes < length m.slaves
    → Meets m (area (length f.notes)) (place f.part) f (length f.notes) n sent returned sent2 returned2 g
    → DataRefines m area (place f.part) (with_note f n) sent2 returned2 (gave ++ (g ∷ []))
data_passed m area place f sent returned sent2 returned2 gave n g laid shows l met =
    let t = length f.notes in
    let p = place f.part in
    let more : length (f.notes ++ (n ∷ [])) ≡ length f.notes + 1 = length_push f.notes n in
    record {
      sent_room = shows.sent_room ∙ ap (λ k. 8 * k) (sym met.same_sent);
      returned_room = shows.returned_room ∙ ap (λ k. 8 * k) (sym met.same_returned);
      to_come = λ u o a b e k.
          let c = same_place m area place f.part u laid b e in
          let ne : t ≢ u = omega (arith, more) in
          let i = (area u).out_at + o - p.from in
          let back : p.from + i ≡ (area u).out_at + o = let x = c.out_from in omega arith in
          let away : within (area t).in_at (area t).ins (p.from + i) ≡ false = ap (within (area t).in_at (area t).ins) back ∙ no_overlap (area t).in_at (area u).out_at (area t).ins (area u).outs (λ x y. laid.in_out t u x y ne) o k in
          met.sent_kept i (let x = c.out_to in let y = c.out_from in omega arith) away ∙ shows.to_come u o (omega (arith, more)) b e k;
      noted = λ u o v a e k. elim (cases_eq u t) [
        | inl q ↦
            let e2 : n ≡ Full v = sym (note-new f n) ∙ subst (λ (w : ℕ). note_at (f.notes ++ (n ∷ [])) w ≡ Full v) q e in
            let k2 : o < (area t).ins = subst (λ (w : ℕ). o < (area w).ins) q k in
            subst (λ (w : ℕ). bit returned2 ((area w).in_at + o - p.from) ≡ bit v o) (sym q) (met.mine v o e2 k2)
        | inr ne ↦
            let early : u < length f.notes = omega (arith, more) in
            let e2 : note_at f.notes u ≡ Full v = sym (note-old f n u early) ∙ e in
            let part = full_in_part m u f.part (note_at f.notes u) v e2 (shows.elsewhere u early) in
            let c = same_place m area place f.part u laid (omega arith) part in
            let ne2 : t ≢ u = λ x. ne (sym x) in
            let i = (area u).in_at + o - p.from in
            let back : p.from + i ≡ (area u).in_at + o = let x = c.in_from in omega arith in
            let away : within (area t).in_at (area t).ins (p.from + i) ≡ false = ap (within (area t).in_at (area t).ins) back ∙ no_overlap (area t).in_at (area u).in_at (area t).ins (area u).ins (λ x y. laid.in_in t u x y ne2) o k in
            met.returned_kept i (let x = c.in_to in let y = c.in_from in omega arith) away ∙ shows.noted u o v early e2 k
      ];
      in_part = λ u a. elim (cases_eq u t) [
        | inl q ↦ subst (λ (w : ℕ). (share_of m w).part ≡ f.part → note_at (f.notes ++ (n ∷ [])) w ≢ Other) (sym q) (λ e x. met.in_part e (sym (note-new f n) ∙ x))
        | inr ne ↦ let early : u < length f.notes = omega (arith, more) in λ e x. shows.in_part u early e (sym (note-old f n u early) ∙ x)
      ];
      elsewhere = λ u a. elim (cases_eq u t) [
        | inl q ↦ subst (λ (w : ℕ). (share_of m w).part ≢ f.part → note_at (f.notes ++ (n ∷ [])) w ≡ Other) (sym q) (λ e. note-new f n ∙ met.elsewhere e)
        | inr ne ↦ let early : u < length f.notes = omega (arith, more) in λ e. note-old f n u early ∙ shows.elsewhere u early e
      ];
      as_many = length_push gave g ∙ (ap (λ k. k + 1) shows.as_many ∙ sym more);
      each = λ u a. elim (cases_eq u t) [
        | inl q ↦ subst (λ (w : ℕ). GaveAs (share_of m w) (note_at (f.notes ++ (n ∷ [])) w) (get_or (gave ++ (g ∷ [])) w nothing_given)) (sym q)
            (subst (λ (y : Gave). GaveAs (share_of m t) (note_at (f.notes ++ (n ∷ [])) t) y) (sym (get_or_push gave g nothing_given t shows.as_many))
            (subst (λ (y : Note). GaveAs (share_of m t) y g) (sym (note-new f n)) met.given))
        | inr ne ↦
            let early : u < length f.notes = omega (arith, more) in
            let early2 : u < length gave = let x = shows.as_many in omega arith in
            subst (λ (y : Gave). GaveAs (share_of m u) (note_at (f.notes ++ (n ∷ [])) u) y) (sym (get_or_append_left gave (g ∷ []) nothing_given u early2))
            (subst (λ (y : Note). GaveAs (share_of m u) y (get_or gave u nothing_given)) (sym (note-old f n u early)) (shows.each u early))
      ];
    }
