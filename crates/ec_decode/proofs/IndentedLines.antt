-- A text stands for the frames that it stands for without its indented lines.
use Rattle.std.proofs.Common.{◌≡◌, ◌∙◌, ℕ, zero, suc, ◌+◌, ◌-◌, ◌<◌, ◌==◌, ◌||◌, List, [], ◌∷◌, ◌++◌, length, slice_index, take, Bool, true, false, if◌then◌else◌, Option, Some, None, Result, Ok, Err, refl, sym, ap, append_assoc, arith}
use Rattle.std.specs.Str.Lines.{lines, lines_of_parts, strip_carriage_return}
use Rattle.std.proofs.lemmas.Bool.Decides.{nat_tests}
use Rattle.std.proofs.lemmas.List.Splits.{slice_split_at}
use Rattle.ec_frame.specs.Frame.{Payload}
use Rattle.ec_decode.specs.FrameText.{Text, newline}
use Rattle.ec_decode.specs.Reading.{Begun, Step, before, ended, frames_from, frames_of, is_skipped, on_step, step_of}
use Rattle.ec_decode.proofs.ReadingFrames.{texts_read_back}
use Rattle.ec_decode.proofs.ReadingWords.{Lacks}
use Rattle.ec_decode.specs.Indented.{is_indented, parts_of, unindented}
use Rattle.ec_decode.specs.Laws.{IndentedLinesAreSkipped, RemarkedFramesReadBack}
use Rattle.ec_decode.proofs.Cutting.{AreLines, AreSome, one_part, parts_are_lines, some_parts}

-- ---- lines of a text

parts_lines : (line : Text) (parts : List Text) → AreSome parts → lines_of_parts (line ∷ parts) ≡ strip_carriage_return line ∷ lines_of_parts parts
parts_lines line parts s = rw s.is refl

line_first : (line rest : Text) → Lacks 10 line → lines ((line ++ newline) ++ rest) ≡ strip_carriage_return line ∷ lines rest
line_first line rest h =
    ap lines (append_assoc line newline rest)
    ∙ ap lines_of_parts (slice_split_at (λ b. b == 10) line 10 rest h refl)
    ∙ parts_lines line (parts_of rest) (some_parts rest)

-- ---- an indented line is skipped

skips : (line : Text) → is_indented line ≡ true → is_skipped line ≡ true
skips line h = by (length line == 0)
  where
    by : (b : Bool) → (b || is_indented line) ≡ true
    by true = refl
    by false = h

front_of : (n c : ℕ) (line : Text) → 0 < n → is_indented (take n (c ∷ line)) ≡ is_indented (c ∷ line)
front_of zero c line h = absurd (omega arith)
front_of (suc n) c line h = refl

-- the carriage return isn't the blank at its front
keeps_front : (b : Bool) (c : ℕ) (line : Text) → (slice_index (c ∷ line) (length (c ∷ line) - 1) == 13) ≡ b → is_indented (c ∷ line) ≡ true → is_indented (if b then take (length (c ∷ line) - 1) (c ∷ line) else c ∷ line) ≡ true
keeps_front false c line e h = h
keeps_front true c [] e h = let is : c ≡ 13 = grind (arith, nat_tests) in absurd (cc (sym h ∙ ap (λ (n : ℕ). is_indented (n ∷ [])) is))
keeps_front true c (d ∷ line) e h = front_of (length (c ∷ d ∷ line) - 1) c (d ∷ line) (omega arith) ∙ h

still_indented : (line : Text) → is_indented line ≡ true → is_indented (strip_carriage_return line) ≡ true
still_indented [] h = h
still_indented (c ∷ line) h = keeps_front (slice_index (c ∷ line) (length (c ∷ line) - 1) == 13) c line refl h

-- ---- the same frames

abbrev Frames : Type 0
Frames = Result (List Payload) ℕ

-- what is read is the same where it is frames; the numbers of lines don't count then
abbrev Gives : Frames → Frames → Type 0
Gives found said = (ps : List Payload) → said ≡ Ok ps → found ≡ Ok ps

passed : (n : ℕ) (begun : Option Begun) (line : Text) (ls : List Text) → is_skipped line ≡ true → frames_from n begun (line ∷ ls) ≡ frames_from (n + 1) begun ls
unfolding frames_from
passed n begun line ls h = rw h (nothing (frames_from (n + 1) begun ls))
  where
    nothing : (r : Frames) → before None r ≡ r
    nothing (Ok ps) = refl
    nothing (Err m) = refl

before_same : (p : Option Payload) (found said : Frames) → Gives found said → Gives (before p found) (before p said)
before_same None found said g = g
before_same (Some p) found (Ok ps) g = λ qs is. rw (g ps refl) is
before_same (Some p) found (Err n) g = λ qs is. absurd (cc is)

step_same : (n m : ℕ) (s : Option Step) (found said : Option Begun → Frames) → ((left : Option Begun) → Gives (found left) (said left)) → Gives (on_step n s found) (on_step m s said)
step_same n m None found said g = λ ps is. absurd (cc is)
step_same n m (Some s) found said g = before_same s.frame (found s.left) (said s.left) (g s.left)

end_same : (n m : ℕ) (begun : Option Begun) → Gives (ended n begun) (ended m begun)
end_same n m None = λ ps is. is
end_same n m (Some b) = λ ps is. absurd (cc is)

-- lines that go with lines
one_same : (n m : ℕ) (begun : Option Begun) (line : Text) (ls ms : List Text) → ((left : Option Begun) → Gives (frames_from (n + 1) left ls) (frames_from (m + 1) left ms)) → Gives (frames_from n begun (line ∷ ls)) (frames_from m begun (line ∷ ms))
unfolding frames_from
one_same n m begun line ls ms g = step_same n m (step_of begun line) (λ left. frames_from (n + 1) left ls) (λ left. frames_from (m + 1) left ms) g

nothing_same : (n m : ℕ) (begun : Option Begun) → Gives (frames_from n begun []) (frames_from m begun [])
unfolding frames_from
nothing_same n m begun = end_same n m begun

all_same : (ls : List Text) (n m : ℕ) (begun : Option Begun) → Gives (frames_from n begun ls) (frames_from m begun ls)
all_same [] n m begun = nothing_same n m begun
all_same (line ∷ ls) n m begun = one_same n m begun line ls ls (λ left. all_same ls (n + 1) (m + 1) left)

-- ---- the parts of a text, and what is left of them

last_same : (part : Text) (n m : ℕ) (begun : Option Begun) (b : Bool) → Lacks 10 part → is_indented part ≡ b → Gives (frames_from n begun (lines_of_parts (part ∷ []))) (frames_from m begun (lines (if b then [] else part)))
last_same part n m begun false h e = let is = one_part part h in rw is (all_same (lines_of_parts (part ∷ [])) n m begun)
last_same [] n m begun true h e = nothing_same n m begun
last_same (c ∷ part) n m begun true h e =
    let some : (length (c ∷ part) == 0) ≡ false = grind (arith, nat_tests) in
    λ ps is. ap (λ (b : Bool). frames_from n begun (if b then [] else (c ∷ part) ∷ [])) some ∙ passed n begun (c ∷ part) [] (skips (c ∷ part) e) ∙ nothing_same (n + 1) m begun ps is

front_same : (line : Text) (rest : List Text) (left : Text) (n m : ℕ) (b : Bool) → Lacks 10 line → is_indented line ≡ b
    → ((k l : ℕ) (begun : Option Begun) → Gives (frames_from k begun rest) (frames_from l begun (lines left)))
    → (begun : Option Begun) → Gives (frames_from n begun (strip_carriage_return line ∷ rest)) (frames_from m begun (lines ((if b then [] else line ++ newline) ++ left)))
front_same line rest left n m true h e g begun =
    λ ps is. passed n begun (strip_carriage_return line) rest (skips (strip_carriage_return line) (still_indented line e)) ∙ g (n + 1) m begun ps is
front_same line rest left n m false h e g begun =
    let is = line_first line left h in
    rw is (one_same n m begun (strip_carriage_return line) rest (lines left) (λ after. g (n + 1) (m + 1) after))

parts_same : (parts : List Text) → AreLines parts → (n m : ℕ) (begun : Option Begun) → Gives (frames_from n begun (lines_of_parts parts)) (frames_from m begun (lines (unindented parts)))
parts_same [] h n m begun = nothing_same n m begun
parts_same (part ∷ []) h n m begun = last_same part n m begun (is_indented part) h.0 refl
parts_same (line ∷ next ∷ parts) h n m begun =
    front_same line (lines_of_parts (next ∷ parts)) (unindented (next ∷ parts)) n m (is_indented line) h.0 refl (λ k l after. parts_same (next ∷ parts) h.1 k l after) begun

pub indented_lines_are_skipped : IndentedLinesAreSkipped
indented_lines_are_skipped text ps is = parts_same (parts_of text) (parts_are_lines text) 1 1 None ps is

pub remarked_frames_read_back : RemarkedFramesReadBack
remarked_frames_read_back payload p text f is =
    indented_lines_are_skipped text (p ∷ []) (ap frames_of is ∙ texts_read_back payload p f)
