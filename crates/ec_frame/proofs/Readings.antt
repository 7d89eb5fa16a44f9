-- Bytes have at most one reading as datagrams, or one first fault.
use Rattle.std.proofs.Common.{◌≡◌, ℕ, ◌+◌, ◌<◌, Bool, true, false, List, [], ◌∷◌, ◌++◌, length, slice_index, ◌⊎◌, Result, Ok, Err, refl, sym, ap, subst, ◌∙◌, append_assoc, arith, inl, inr}
use Rattle.std.specs.List.{AllByRecursion}
use Rattle.std.proofs.lemmas.List.{length-append, append-nil}
use Rattle.ec_frame.specs.declared.error.FrameError.{FrameError}
use Rattle.ec_frame.specs.declared.error.FrameError.TheVariants.{Short, BadType, TooLong, BadLength, BadCommand, BadMore}
use Rattle.ec_frame.specs.Commands.{number_of}
use Rattle.ec_frame.specs.Datagram.{Datagram, spelling, IsDatagram, joined, data_length, opened}
use Rattle.ec_frame.specs.Refusals.{IsCutShort, SaysMoreWrongly, FaultAt}
use Rattle.ec_frame.proofs.Numbers.{number_most}
use Rattle.ec_frame.proofs.Decoding.{one_spelling, data_length_again}

pub spelling_length : (m : Bool) (d : Datagram) (x : List ℕ) → length (spelling m d ++ x) ≡ 12 + length d.data_bytes + length x
spelling_length m d x = simp (length-append) (omega arith)

-- the last datagram, or a fault
abbrev pub EndsAs : List ℕ → Result Datagram FrameError → Type 0
EndsAs rest (Ok d) = IsDatagram d × (rest ≡ spelling false d)
EndsAs rest (Err e) = FaultAt rest e

not_cut : (m : Bool) (d : Datagram) (x rest : List ℕ) → IsDatagram d → rest ≡ spelling m d ++ x → IsCutShort rest → ⊥
not_cut m d x rest f e (inl few) = omega (arith, ap length e, spelling_length m d x)
not_cut m d x rest f e (inr few) = omega (arith, ap length e, spelling_length m d x, ap data_length e, data_length_again m d x f)

-- bytes that a datagram begins, in two ways
module _ (rest : List ℕ) (m n : Bool) (d e : Datagram) (x y : List ℕ) (f : IsDatagram d) (g : IsDatagram e) (p : rest ≡ spelling m d ++ x) (q : rest ≡ spelling n e ++ y) where
  same : (m ≡ n) × (d ≡ e) × (x ≡ y)
  same = one_spelling m n d e x y f g (sym p ∙ q)

  pub same_more : m ≡ n
  same_more = same.0

  pub same_one : d ≡ e
  same_one = same.1

  pub same_after : x ≡ y
  same_after = same.2

whole : (rest : List ℕ) (d : Datagram) → rest ≡ spelling false d → rest ≡ spelling false d ++ []
whole rest d e = e ∙ sym (append-nil (spelling false d))

true_false : true ≡ false → ⊥
true_false e = cc

known_first : (m : Bool) (d : Datagram) (x rest : List ℕ) → rest ≡ spelling m d ++ x → 14 < slice_index rest 0 → ⊥
known_first m d x rest e big =
    let is : slice_index rest 0 ≡ number_of d.command = ap (λ (xs : List ℕ). slice_index xs 0) e in
    let most = number_most d.command in
    omega arith

-- a datagram that others follow says so rightly
rightly_more : (d : Datagram) (x rest : List ℕ) → IsDatagram d → 0 < length x → rest ≡ spelling true d ++ x → (h : SaysMoreWrongly rest) → ((h.more ≡ true) × (h.after ≡ [])) ⊎ ((h.more ≡ false) × (0 < length h.after)) → ⊥
rightly_more d x rest good some p h (inl (t, nil)) = let is = same_after rest true h.more d h.datagram x h.after good h.good p h.parts in omega (arith, ap length is, ap length nil)
rightly_more d x rest good some p h (inr (t, more)) = true_false (same_more rest true h.more d h.datagram x h.after good h.good p h.parts ∙ t)

-- and so does the last one
rightly_last : (d : Datagram) (rest : List ℕ) → IsDatagram d → rest ≡ spelling false d ++ [] → (h : SaysMoreWrongly rest) → ((h.more ≡ true) × (h.after ≡ [])) ⊎ ((h.more ≡ false) × (0 < length h.after)) → ⊥
rightly_last d rest good p h (inl (t, nil)) = true_false (sym t ∙ sym (same_more rest false h.more d h.datagram [] h.after good h.good p h.parts))
rightly_last d rest good p h (inr (t, more)) = let is = same_after rest false h.more d h.datagram [] h.after good h.good p h.parts in omega (arith, ap length is)

pub no_end : (d : Datagram) (x rest : List ℕ) (o : Result Datagram FrameError) → IsDatagram d → 0 < length x → rest ≡ spelling true d ++ x → EndsAs rest o → ⊥
no_end d x rest (Ok e) good some p h = true_false (same_more rest true false d e x [] good h.0 p (whole rest e h.1))
no_end d x rest (Err Short) good some p h = h
no_end d x rest (Err BadType) good some p h = h
no_end d x rest (Err TooLong) good some p h = h
no_end d x rest (Err BadLength) good some p h = not_cut true d x rest good p h
no_end d x rest (Err BadCommand) good some p h = known_first true d x rest p h.1
no_end d x rest (Err BadMore) good some p h = rightly_more d x rest good some p h h.wrong

-- a last datagram is no fault
last_no_fault : (d : Datagram) (rest : List ℕ) (e : FrameError) → IsDatagram d → rest ≡ spelling false d → FaultAt rest e → ⊥
last_no_fault d rest Short good p h = h
last_no_fault d rest BadType good p h = h
last_no_fault d rest TooLong good p h = h
last_no_fault d rest BadLength good p h = not_cut false d [] rest good (whole rest d p) h
last_no_fault d rest BadCommand good p h = known_first false d [] rest (whole rest d p) h.1
last_no_fault d rest BadMore good p h = rightly_last d rest good (whole rest d p) h h.wrong

command_no_more : (rest : List ℕ) → FaultAt rest BadCommand → FaultAt rest BadMore → ⊥
command_no_more rest h k = known_first k.more k.datagram k.after rest k.parts h.1

cut_no_command : (rest : List ℕ) → IsCutShort rest → FaultAt rest BadCommand → ⊥
cut_no_command rest (inl few) h = let enough = h.0.overhead in omega arith
cut_no_command rest (inr few) h = let enough = h.0.whole in omega arith

cut_no_more : (rest : List ℕ) → IsCutShort rest → FaultAt rest BadMore → ⊥
cut_no_more rest h k = not_cut k.more k.datagram k.after rest k.good k.parts h

one_fault : (rest : List ℕ) (e f : FrameError) → FaultAt rest e → FaultAt rest f → e ≡ f
one_fault rest Short f h k = absurd h
one_fault rest BadType f h k = absurd h
one_fault rest TooLong f h k = absurd h
one_fault rest e Short h k = absurd k
one_fault rest e BadType h k = absurd k
one_fault rest e TooLong h k = absurd k
one_fault rest BadLength BadLength h k = refl
one_fault rest BadLength BadCommand h k = absurd (cut_no_command rest h k)
one_fault rest BadLength BadMore h k = absurd (cut_no_more rest h k)
one_fault rest BadCommand BadLength h k = absurd (cut_no_command rest k h)
one_fault rest BadCommand BadCommand h k = refl
one_fault rest BadCommand BadMore h k = absurd (command_no_more rest h k)
one_fault rest BadMore BadLength h k = absurd (cut_no_more rest k h)
one_fault rest BadMore BadCommand h k = absurd (command_no_more rest k h)
one_fault rest BadMore BadMore h k = refl

abbrev End : Type 0
End = Result Datagram FrameError

pub one_end : (rest : List ℕ) (o p : Result Datagram FrameError) → EndsAs rest o → EndsAs rest p → o ≡ p
one_end rest (Ok d) (Ok e) h k = ap Ok (same_one rest false false d e [] [] h.0 k.0 (whole rest d h.1) (whole rest e k.1))
one_end rest (Ok d) (Err e) h k = absurd (last_no_fault d rest e h.0 h.1 k)
one_end rest (Err e) (Ok d) h k = absurd (last_no_fault d rest e k.0 k.1 h)
one_end rest (Err e) (Err f) h k = ap Err (one_fault rest e f h k)

-- a walk over good datagrams that ends so
pub record Reads (area : List ℕ) (before : List Datagram) (rest : List ℕ) (o : Result Datagram FrameError) : Type 0 where
  pub each : AllByRecursion IsDatagram before
  pub some : 0 < length rest
  pub parts : area ≡ opened before ++ rest
  pub ends : EndsAs rest o

more_left : (ds : List Datagram) (rest : List ℕ) → 0 < length rest → 0 < length (opened ds ++ rest)
more_left ds rest h = omega (arith, length-append (opened ds) rest)

pub one_reading : (b c : List Datagram) (area r s : List ℕ) (o p : Result Datagram FrameError) → Reads area b r o → Reads area c s p → (b ≡ c) × (o ≡ p)
one_reading [] [] area r s o p h k = (refl, one_end area o p (subst (λ (x : List ℕ). EndsAs x o) (sym h.parts) h.ends) (subst (λ (x : List ℕ). EndsAs x p) (sym k.parts) k.ends))
one_reading [] (e ∷ c) area r s o p h k =
    absurd (no_end e (opened c ++ s) area o k.each.0 (more_left c s k.some) (k.parts ∙ append_assoc (spelling true e) (opened c) s) (subst (λ (x : List ℕ). EndsAs x o) (sym h.parts) h.ends))
one_reading (d ∷ b) [] area r s o p h k =
    absurd (no_end d (opened b ++ r) area p h.each.0 (more_left b r h.some) (h.parts ∙ append_assoc (spelling true d) (opened b) r) (subst (λ (x : List ℕ). EndsAs x p) (sym k.parts) k.ends))
one_reading (d ∷ b) (e ∷ c) area r s o p h k =
    let f = h.parts ∙ append_assoc (spelling true d) (opened b) r in
    let g = k.parts ∙ append_assoc (spelling true e) (opened c) s in
    let one = one_spelling true true d e (opened b ++ r) (opened c ++ s) h.each.0 k.each.0 (sym f ∙ g) in
    let left : Reads (opened b ++ r) b r o = record { each = h.each.1; some = h.some; parts = refl; ends = h.ends } in
    let right : Reads (opened b ++ r) c s p = record { each = k.each.1; some = k.some; parts = one.2; ends = k.ends } in
    let rest = one_reading b c (opened b ++ r) r s o p left right in
    (ap (λ (x : Datagram). x ∷ b) one.1 ∙ ap (λ (xs : List Datagram). e ∷ xs) rest.0, rest.1)

-- datagrams are the ones before the last, and it
pub record Ended (ds : List Datagram) : Type 0 where
  pub before : List Datagram
  pub last : Datagram
  pub is : ds ≡ before ++ last ∷ []
  pub each : AllByRecursion IsDatagram before
  pub good : IsDatagram last
  pub spelled : joined ds ≡ opened before ++ spelling false last

pub ended : (ds : List Datagram) → 0 < length ds → AllByRecursion IsDatagram ds → Ended ds
ended [] some each = absurd (omega arith)
ended (d ∷ []) some each = record { before = []; last = d; is = refl; each = tt; good = each.0; spelled = append-nil (spelling false d) }
ended (d ∷ e ∷ ds) some each =
    let t = ended (e ∷ ds) (omega arith) each.1 in
    record {
      before = d ∷ t.before;
      last = t.last;
      is = ap (λ (xs : List Datagram). d ∷ xs) t.is;
      each = (each.0, t.each);
      good = t.good;
      spelled = ap (λ (xs : List ℕ). spelling true d ++ xs) t.spelled ∙ sym (append_assoc (spelling true d) (opened t.before) (spelling false t.last));
    }

pub joined_last : (b : List Datagram) (d : Datagram) → joined (b ++ d ∷ []) ≡ opened b ++ spelling false d
joined_last [] d = append-nil (spelling false d)
joined_last (c ∷ []) d = ap (λ (xs : List ℕ). spelling true c ++ xs) (append-nil (spelling false d)) ∙ ap (λ (xs : List ℕ). xs ++ spelling false d) (sym (append-nil (spelling true c)))
joined_last (c ∷ e ∷ b) d = ap (λ (xs : List ℕ). spelling true c ++ xs) (joined_last (e ∷ b) d) ∙ sym (append_assoc (spelling true c) (opened (e ∷ b)) (spelling false d))
