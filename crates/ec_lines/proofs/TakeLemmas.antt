-- Lines that are taken from an input, one after another.
use Rattle.std.proofs.Common.{◌≡◌, ◌≢◌, ◌∙◌, ◌⊎◌, inl, inr, ℕ, zero, suc, ◌<◌, All, List, [], ◌∷◌, ◌++◌, length, take, Bool, true, false, Option, None, Some, refl, sym, ap, subst, append_assoc, append-nil, arith, Result, Ok, Err, OnErr}
use Rattle.std.specs.Io.KnownBytes.{Consumes, IsAtEnd, Keeps}
use Rattle.std.proofs.lemmas.List.Elements.{All-append, All-nil, All-cons}
use Rattle.ec_lines.specs.Kept.{IsMore, TakesKept, TakesMore}
use Rattle.ec_lines.specs.Taking.{IsSoFar, TakesLine, TakesLines, TakesPart, TakesUndivided, TakesText, is_divider, joined, max_kept}
use Rattle.ec_lines.proofs.BlockLemmas.{keeps_more}

-- ---- bytes of an input

pub consumes_none : (known : Option (List ℕ)) → Consumes known known []
consumes_none None = tt
consumes_none (Some xs) = refl

pub consumes_more : (old mid new : Option (List ℕ)) (a b : List ℕ) → Consumes old mid a → Consumes mid new b → Consumes old new (a ++ b)
consumes_more None mid new a b first next = tt
consumes_more (Some xs) None new a b first next = absurd first
consumes_more (Some xs) (Some ys) None a b first next = absurd next
consumes_more (Some xs) (Some ys) (Some zs) a b first next = first ∙ (ap (λ s. a ++ s) next ∙ sym (append_assoc a b zs))

pub consumes_kept : (old mid new : Option (List ℕ)) (a : List ℕ) → Consumes old mid a → Keeps mid new → Consumes old new a
consumes_kept None mid new a first kept = tt
consumes_kept (Some xs) None new a first kept = absurd first
consumes_kept (Some xs) (Some ys) None a first kept = absurd kept
consumes_kept (Some xs) (Some ys) (Some zs) a first kept = first ∙ ap (λ s. a ++ s) (sym kept)

-- ---- a line, part by part

take_none : (n : ℕ) → take {A = ℕ} n [] ≡ []
take_none zero = refl
take_none (suc n) = refl

pub none_so_far : (old : Option (List ℕ)) (most : ℕ) (kept : List ℕ) → kept ≡ [] → IsSoFar old old most kept
none_so_far old most kept none = record { front = []; unended = All-nil (λ b. b ≢ 10); taken = consumes_none old; keeps = none ∙ sym (take_none most) }

-- more bytes of it are taken
pub more_taken : (old mid new : Option (List ℕ)) (most : ℕ) (kept more : List ℕ) (is_ended : Bool) → is_ended ≡ false → IsSoFar old mid most kept → TakesMore mid new most kept more is_ended
    → IsSoFar old new most more
more_taken old mid new most kept more true not h m = let bad : true ≡ false = not in cc
more_taken old mid new most kept more false not h m = record {
  front = h.front ++ m.part;
  unended = All-append (λ b. b ≢ 10) h.front m.part h.unended m.is_part;
  taken = consumes_more old mid new h.front m.part h.taken m.taken;
  keeps = m.kept ∙ keeps_more most h.front kept m.part h.keeps;
}

-- up to its end
pub line_ends : (old mid new : Option (List ℕ)) (most : ℕ) (kept more : List ℕ) (is_ended : Bool) → is_ended ≡ true → IsSoFar old mid most kept → TakesMore mid new most kept more is_ended
    → TakesKept old new most more
line_ends old mid new most kept more false ended h m = let bad : false ≡ true = ended in cc
line_ends old mid new most kept more true ended h m = (
  h.front ++ m.part,
  record {
    front = h.front ++ m.is_part.0;
    unended = All-append (λ b. b ≢ 10) h.front m.is_part.0 h.unended m.is_part.1;
    taken = consumes_more old mid new h.front m.part h.taken m.taken;
    ends = inl (ap (λ l. h.front ++ l) m.is_part.2 ∙ sym (append_assoc h.front m.is_part.0 (10 ∷ [])));
  },
  m.kept ∙ keeps_more most h.front kept m.part h.keeps,
)

pub still_so_far : (old mid new : Option (List ℕ)) (most : ℕ) (kept : List ℕ) → IsSoFar old mid most kept → Keeps mid new → IsSoFar old new most kept
still_so_far old mid new most kept h same = record { front = h.front; unended = h.unended; taken = consumes_kept old mid new h.front h.taken same; keeps = h.keeps }

pub part_refused : (old mid new : Option (List ℕ)) (most : ℕ) (kept : List ℕ) → IsSoFar old mid most kept → Keeps mid new → TakesPart old new
part_refused old mid new most kept h same = (h.front, consumes_kept old mid new h.front h.taken same)

pub input_ends : (old mid new : Option (List ℕ)) (most : ℕ) (kept : List ℕ) → IsSoFar old mid most kept → Keeps mid new → IsAtEnd new → TakesKept old new most kept
input_ends old mid new most kept h same none = (
  h.front,
  record { front = h.front; unended = h.unended; taken = consumes_kept old mid new h.front h.taken same; ends = inr (refl, none) },
  h.keeps,
)

-- more bytes of it are taken, up to its end or not
pub goes_more : (old mid new : Option (List ℕ)) (kept more : List ℕ) (is_ended : Bool) → IsSoFar old mid max_kept kept → TakesMore mid new max_kept kept more is_ended → IsMore old new more is_ended
goes_more old mid new kept more true h m = line_ends old mid new max_kept kept more true refl h m
goes_more old mid new kept more false h m = more_taken old mid new max_kept kept more false refl h m

-- what became of the line, by whether it is whole
pub stays_part : (old new : Option (List ℕ)) (kept : List ℕ) (is_whole : Bool) → is_whole ≡ false → IsMore old new kept is_whole → IsSoFar old new max_kept kept
stays_part old new kept true not h = let bad : true ≡ false = not in cc
stays_part old new kept false not h = h

pub is_whole_now : (old new : Option (List ℕ)) (kept : List ℕ) (is_whole : Bool) → is_whole ≡ true → IsMore old new kept is_whole → TakesKept old new max_kept kept
is_whole_now old new kept false whole h = let bad : false ≡ true = whole in cc
is_whole_now old new kept true whole h = h

-- ---- lines one after another

pub takes_push : (a b c : Option (List ℕ)) (lines : List (List ℕ)) (line : List ℕ) → TakesLines a b lines → TakesLine b c line → 0 < length line → TakesLines a c (lines ++ (line ∷ []))
takes_push a b c [] line h next some = (c, subst (λ (o : Option (List ℕ)). TakesLine o c line) h next, some, refl)
takes_push a b c (l ∷ ls) line (mid, first, long, rest) next some = (mid, first, long, takes_push mid b c ls line rest next some)

joined_push : (lines : List (List ℕ)) (line : List ℕ) → joined (lines ++ (line ∷ [])) ≡ joined lines ++ line
joined_push [] line = append-nil line
joined_push (l ∷ ls) line = ap (λ xs. l ++ xs) (joined_push ls line) ∙ sym (append_assoc l (joined ls) line)

-- all their bytes are taken
lines_part : (a b : Option (List ℕ)) (lines : List (List ℕ)) → TakesLines a b lines → Consumes a b (joined lines)
lines_part a b [] h = subst (λ (o : Option (List ℕ)). Consumes a o []) (sym h) (consumes_none a)
lines_part a b (l ∷ ls) (mid, first, long, rest) = consumes_more a mid b l (joined ls) first.taken (lines_part mid b ls rest)

-- ---- a text

pub none_undivided : (old : Option (List ℕ)) → TakesUndivided old old []
none_undivided old = record { lines = []; taken = refl; none = All-nil (λ line. is_divider line ≡ false); whole = refl }

none_push : (lines : List (List ℕ)) (line : List ℕ) → All (λ l. is_divider l ≡ false) lines → is_divider line ≡ false → All (λ l. is_divider l ≡ false) (lines ++ (line ∷ []))
none_push [] line h other = All-cons (λ l. is_divider l ≡ false) line [] other (All-nil (λ l. is_divider l ≡ false))
none_push (l ∷ ls) line h other =
    All-cons (λ x. is_divider x ≡ false) l (ls ++ (line ∷ [])) (h 0 l (omega arith)) (none_push ls line (λ k d lt. h (suc k) d (omega arith)) other)

pub undivided_more : (old mid new : Option (List ℕ)) (text line : List ℕ) → TakesUndivided old mid text → TakesLine mid new line → 0 < length line → is_divider line ≡ false
    → TakesUndivided old new (text ++ line)
undivided_more old mid new text line h next some other = record {
  lines = h.lines ++ (line ∷ []);
  taken = takes_push old mid new h.lines line h.taken next some;
  none = none_push h.lines line h.none other;
  whole = ap (λ xs. xs ++ line) h.whole ∙ sym (joined_push h.lines line);
}

pub undivided_part : (old new : Option (List ℕ)) (text : List ℕ) → TakesUndivided old new text → TakesPart old new
undivided_part old new text h = (joined h.lines, lines_part old new h.lines h.taken)

pub part_then : (old mid new : Option (List ℕ)) (text : List ℕ) → TakesUndivided old mid text → TakesPart mid new → TakesPart old new
part_then old mid new text h (part, taken) = (joined h.lines ++ part, consumes_more old mid new (joined h.lines) part (lines_part old mid h.lines h.taken) taken)

pub text_ends : (old mid new : Option (List ℕ)) (text line : List ℕ) → TakesUndivided old mid text → TakesLine mid new line → (line ≡ []) ⊎ (is_divider line ≡ true) → TakesText old new text
text_ends old mid new text line h next stops = record { mid = mid; taken = h; last = line; end = next; stops = stops }

pub text_part : (old new : Option (List ℕ)) (text : List ℕ) → TakesText old new text → TakesPart old new
text_part old new text h = part_then old h.mid new text h.taken (h.last, h.end.taken)

pub on_err : {T E P : Type 0} (r : Result T E) → P → OnErr r P
on_err (Ok x) p = tt
on_err (Err e) p = p
