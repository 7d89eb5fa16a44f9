-- A line that was taken: what is due then, and what becomes of it.
use Rattle.std.proofs.Common.{◌≡◌, ◌∙◌, inl, inr, ℕ, ◌<◌, List, [], ◌∷◌, length, Bool, true, false, Result, Ok, Err, IfOk, OnErr, refl, sym, ap, subst, arith}
use Rattle.ec_lines.specs.Taking.{IsTaken, is_text_line, without_end}
use Rattle.ec_lines.specs.declared.lines.NextLine.{NextLine}
use Rattle.ec_table.specs.Contents.{Contents}
use Rattle.ec_script.specs.declared.draft.Due.{Due}
use Rattle.ec_script.specs.declared.draft.Due.TheVariants as due
use Rattle.ec_script.specs.declared.draft.PieceReading.{PieceReading}
use Rattle.ec_script.specs.declared.draft.PieceReading.TheVariants as read_as
use Rattle.ec_script.specs.declared.line.Line.{Line}
use Rattle.ec_script.specs.declared.line.Step.{Step}
use Rattle.ec_script.specs.declared.line.LineAction.{LineAction}
use Rattle.ec_script.specs.declared.read.Reading.{Reading}
use Rattle.ec_script.specs.Drafts.{DraftState, due_at_end, empty_draft, gathered}
use Rattle.ec_script.specs.Scripts.{brace_on, piece_by, piece_or, reading_of, repeated, taken_by, unindented}
use Rattle.ec_console.specs.declared.wanted.Manner.{Manner}
use Rattle.ec_console.specs.Coming.{DoesTaken, PartOf, Reader, SaysDue, StopsIn, come, reading_at}
use Rattle.ec_console.specs.Printing.{IsPrinted, OutputState}
use Rattle.ec_console.specs.Saying.{PrintsAll, PrintsPart}
use Rattle.ec_console.specs.Unmet.{counted}

-- ---- what is due

-- the end of the input
pub came_end : (read : Reader) (d : DraftState) (n : ℕ) (line : List ℕ) → line ≡ [] → (empty_draft ≡ (come read d n line).0) × (due_at_end d.around ≡ (come read d n line).1)
came_end read d n line is = subst (λ (l : List ℕ). (empty_draft ≡ (come read d n l).0) × (due_at_end d.around ≡ (come read d n l).1)) (sym is) (refl, refl)

module _ (takes : Contents → LineAction → Bool) (t : Contents) where
  -- a line that isn't text
  pub came_none : (d : DraftState) (n : ℕ) (line : List ℕ) → 0 < length line → is_text_line line ≡ false → (d ≡ (come (reading_at takes t) d n line).0) × (due.Bad n ≡ (come (reading_at takes t) d n line).1)
  came_none d n [] some is = absurd (omega arith)
  came_none d n (b ∷ bs) some is =
      let whole : reading_at takes t n d.around (b ∷ bs) ≡ read_as.Bad = rw is refl in
      (ap (λ (r : PieceReading). (gathered n r d).0) (sym whole), ap (λ (r : PieceReading). (gathered n r d).1) (sym whole))

  -- and one that is
  read_text : (n : ℕ) (around line text unindented_text : List ℕ) (before made : Reading) → is_text_line line ≡ true → text ≡ without_end line → unindented_text ≡ unindented around text
      → before ≡ reading_of t n unindented_text → made ≡ taken_by (takes t) before → piece_or (brace_on unindented_text) made ≡ reading_at takes t n around line
  read_text n around line text u before made is same cut first then =
      let whole : u ≡ unindented around (without_end line) = cut ∙ ap (unindented around) same in
      let here : made ≡ taken_by (takes t) (reading_of t n u) = then ∙ ap (taken_by (takes t)) first in
      let text_line : reading_at takes t n around line ≡ piece_by (takes t) t n around (without_end line) = rw is refl in
      ap (piece_or (brace_on u)) here ∙ (ap (λ (x : List ℕ). piece_or (brace_on x) (taken_by (takes t) (reading_of t n x))) whole ∙ sym text_line)

  pub came_text : (d : DraftState) (n : ℕ) (line text u : List ℕ) (before made : Reading) → 0 < length line → is_text_line line ≡ true → text ≡ without_end line → u ≡ unindented d.around text
      → before ≡ reading_of t n u → made ≡ taken_by (takes t) before → gathered n (piece_or (brace_on u) made) d ≡ come (reading_at takes t) d n line
  came_text d n [] text u before made some is same cut first then = absurd (omega arith)
  came_text d n (b ∷ bs) text u before made some is same cut first then = ap (λ (r : PieceReading). gathered n r d) (read_text n d.around (b ∷ bs) text u before made is same cut first then)

  -- as the code reads it
  pub text_draft : {E : Type 0} (r : Result Due E) (d new : DraftState) (n : ℕ) (next : NextLine) (text u : List ℕ) (before made : Reading)
      → ((line : List ℕ) → IsTaken line next → (0 < length line) × (is_text_line line ≡ true) × (text ≡ without_end line)) → u ≡ unindented d.around text → before ≡ reading_of t n u → made ≡ taken_by (takes t) before
      → IfOk r (λ x. new ≡ (gathered n (piece_or (brace_on u) made) d).0) → IfOk r (λ x. (line : List ℕ) → IsTaken line next → new ≡ (come (reading_at takes t) d n line).0)
  text_draft (Ok x) d new n next text u before made is cut first then h = λ line taken.
      let of_it = is line taken in
      h ∙ ap (λ (c : DraftState × Due). c.0) (came_text d n line text u before made of_it.0 of_it.1 of_it.2 cut first then)
  text_draft (Err e) d new n next text u before made is cut first then h = tt

  pub text_due : {E : Type 0} (r : Result Due E) (d : DraftState) (n : ℕ) (next : NextLine) (text u : List ℕ) (before made : Reading)
      → ((line : List ℕ) → IsTaken line next → (0 < length line) × (is_text_line line ≡ true) × (text ≡ without_end line)) → u ≡ unindented d.around text → before ≡ reading_of t n u → made ≡ taken_by (takes t) before
      → IfOk r (λ x. x ≡ (gathered n (piece_or (brace_on u) made) d).1) → IfOk r (λ x. (line : List ℕ) → IsTaken line next → x ≡ (come (reading_at takes t) d n line).1)
  text_due (Ok x) d n next text u before made is cut first then h = λ line taken.
      let of_it = is line taken in
      h ∙ ap (λ (c : DraftState × Due). c.1) (came_text d n line text u before made of_it.0 of_it.1 of_it.2 cut first then)
  text_due (Err e) d n next text u before made is cut first then h = tt

-- what is said of a result that isn't looked at
pub if_ok : {T E P : Type 0} (r : Result T E) → P → IfOk r (λ x. P)
if_ok (Ok x) p = p
if_ok (Err e) p = tt

-- ---- what becomes of it

module _ {S : Type 0} (one : S → Step → S → List ℕ → ℕ → Type 0) (manner : Manner) where
  -- lines that are due are done
  says_lines : (s t : S) (d : Due) (lines : List Line) (count : ℕ) (old new : OutputState) → d ≡ due.Lines lines → (unmet : ℕ) × (count ≡ counted unmet) × PrintsAll one s (repeated lines) t unmet old new
      → (unmet : ℕ) × (count ≡ counted unmet) × (printed : List ℕ) × SaysDue one manner s d t printed unmet × IsPrinted old new printed
  says_lines s t d lines count old new is (unmet, counts, all) =
      (unmet, counts, all.printed, subst (λ (x : Due). SaysDue one manner s x t all.printed unmet) (sym is) all.says, all.appends)

  part_lines : (s t : S) (d : Due) (lines : List Line) (old new : OutputState) → d ≡ due.Lines lines → PrintsPart one s (repeated lines) t old new → PartOf one manner s d t old new
  part_lines s t d lines old new is part = subst (λ (x : Due). PartOf one manner s x t old new) (sym is) part

  pub says_lines_of : {E : Type 0} (r : Result ℕ E) (s t : S) (d : Due) (lines : List Line) (old new : OutputState) → d ≡ due.Lines lines
      → IfOk r (λ count. (unmet : ℕ) × (count ≡ counted unmet) × PrintsAll one s (repeated lines) t unmet old new)
      → IfOk r (λ count. (unmet : ℕ) × (count ≡ counted unmet) × (printed : List ℕ) × SaysDue one manner s d t printed unmet × IsPrinted old new printed)
  says_lines_of (Ok count) s t d lines old new is all = says_lines s t d lines count old new is all
  says_lines_of (Err e) s t d lines old new is all = tt

  pub part_lines_of : {E : Type 0} (r : Result ℕ E) (s t : S) (d : Due) (lines : List Line) (old new : OutputState) → d ≡ due.Lines lines → OnErr r (PrintsPart one s (repeated lines) t old new)
      → OnErr r (PartOf one manner s d t old new)
  part_lines_of (Ok count) s t d lines old new is part = tt
  part_lines_of (Err e) s t d lines old new is part = part_lines s t d lines old new is part

  module _ (read : Reader) where
    -- what is due is done
    pub taken_does : {E : Type 0} (result : Result ℕ E) (d : DraftState) (s t : S) (n : ℕ) (x : Due) (next : NextLine) (old new : OutputState) → ((line : List ℕ) → IsTaken line next → x ≡ (come read d n line).1)
        → IfOk result (λ count. (unmet : ℕ) × (count ≡ counted unmet) × (printed : List ℕ) × SaysDue one manner s x t printed unmet × IsPrinted old new printed)
        → IfOk result (λ count. (unmet : ℕ) × (count ≡ counted unmet) × ((line : List ℕ) → IsTaken line next → DoesTaken one manner read d s n line t unmet old new))
    taken_does {E} (Ok count) d s t n x next old new is (unmet, counts, printed, says, prints) =
        (unmet, counts, λ line taken. (printed, subst (λ (y : Due). SaysDue one manner s y t printed unmet) (is line taken) says, prints))
    taken_does {E} (Err e) d s t n x next old new is h = tt

    -- or cut short
    pub taken_stops : {E : Type 0} (result : Result ℕ E) (d : DraftState) (s t : S) (n : ℕ) (x : Due) (next : NextLine) (old new : OutputState) → ((line : List ℕ) → IsTaken line next → x ≡ (come read d n line).1)
        → OnErr result (PartOf one manner s x t old new) → OnErr result ((line : List ℕ) → IsTaken line next → StopsIn one manner read d s n line t old new)
    taken_stops {E} (Ok count) d s t n x next old new is h = tt
    taken_stops {E} (Err e) d s t n x next old new is h = λ line taken. inr (subst (λ (y : Due). PartOf one manner s y t old new) (is line taken) h)

    -- or nothing is done, without memory for it
    pub taken_unread : {T E : Type 0} (result : Result T E) (d : DraftState) (s : S) (n : ℕ) (next : NextLine) (output : OutputState) → OnErr result ((line : List ℕ) → IsTaken line next → StopsIn one manner read d s n line s output output)
    taken_unread {T} {E} (Ok v) d s n next output = tt
    taken_unread {T} {E} (Err e) d s n next output = λ line taken. inl (refl, refl)
