-- Lines that are taken from an input and done as they come (this project's profile). Those of a block are done once it is whole. `read` is
-- what line n is, by the blocks that are open before it and its bytes with its end, and `told` how a target takes lines.
use Rattle.std.specs.Prelude.{◌≡◌, ◌⊎◌, ℕ, ◌+◌, List, [], ◌∷◌, ◌++◌, length, if◌then◌else◌, Bool, Option, Some, None, codes}
use Rattle.std.specs.Fmt.{decimal}
use Rattle.ec_lines.specs.Taking.{TakesLine, TakesLines, is_text_line, without_end}
use Rattle.ec_table.specs.Contents.{Contents}
use Rattle.ec_text.specs.PlanText.{newline}
use Rattle.ec_script.specs.declared.draft.Due.{Due}
use Rattle.ec_script.specs.declared.draft.Due.TheVariants as due
use Rattle.ec_script.specs.declared.draft.PieceReading.{PieceReading}
use Rattle.ec_script.specs.declared.line.Step.{Step}
use Rattle.ec_script.specs.declared.line.LineAction.{LineAction}
use Rattle.ec_script.specs.Drafts.{DraftState, due_at_end, empty_draft, gathered, reading_if}
use Rattle.ec_script.specs.Scripts.{repeated}
use Rattle.ec_console.specs.declared.wanted.Manner.{Manner}
use Rattle.ec_console.specs.Printing.{IsPartPrinted, IsPrinted, OutputState}
use Rattle.ec_console.specs.Reasons.{Part, ReasonIf, unexplained, with_reasons, without_reasons}
use Rattle.ec_console.specs.Saying.{PrintsPart, Says}
use Rattle.ec_console.specs.Unmet.{unmet_of}

-- ---- what a line is

abbrev pub Reader : Type 0
Reader = (n : ℕ) → (around : List ℕ) → List ℕ → PieceReading

-- the text of a line, without its end; none if it has too many bytes or isn't text
abbrev pub text_of : List ℕ → Option (List ℕ)
text_of line = if is_text_line line then Some (without_end line) else None

-- line n, by the actions that a target of a table takes. A line with another action is bad.
abbrev pub reading_at : (takes : Contents → LineAction → Bool) → Contents → Reader
reading_at takes t n around line = reading_if (takes t) t n around (text_of line)

-- The draft behind line n, and what is due then. Behind the last line comes an empty one: the end of the input.
abbrev pub come : Reader → DraftState → ℕ → List ℕ → DraftState × Due
come read d n [] = (empty_draft, due_at_end d.around)
come read d n (b ∷ bs) = gathered n (read n d.around (b ∷ bs)) d

-- the draft behind lines, the first of which has number n
abbrev pub behind : Reader → DraftState → ℕ → List (List ℕ) → DraftState
behind read d n [] = d
behind read d n (line ∷ lines) = behind read (come read d n line).0 (n + 1) lines

-- ---- what lines print

-- the text of a bad line
abbrev pub bad_text : ℕ → List ℕ
bad_text n = codes "bad " ++ decimal n ++ newline

-- that text, and behind it why the line is bad, if reasons are wanted
abbrev pub IsBadText : Manner → ℕ → List ℕ → Type 0
IsBadText manner n text = (why : List ℕ) × ReasonIf manner.explained why × (text ≡ bad_text n ++ why)

-- What is due is done. A bad line does nothing; if lines are taken strictly, it counts as unmet.
abbrev pub SaysDue : {S : Type 0} → (S → Step → S → List ℕ → ℕ → Type 0) → Manner → S → Due → S → List ℕ → ℕ → Type 0
SaysDue {S} one manner s (due.Bad n) new printed unmet = (new ≡ s) × IsBadText manner n printed × (unmet ≡ unmet_of manner.strict)
SaysDue {S} one manner s (due.Lines lines) new printed unmet = Says one s (repeated lines) new printed unmet

-- what lines print behind a draft, each begun where the one before left the target; the first has number n
abbrev pub SaysFrom : {S : Type 0} → (S → Step → S → List ℕ → ℕ → Type 0) → (told : S → Manner) → Reader → DraftState → S → ℕ → List (List ℕ) → S → List ℕ → ℕ → Type 0
SaysFrom {S} one told read d s n [] new printed unmet = (new ≡ s) × (printed ≡ []) × (unmet ≡ 0)
SaysFrom {S} one told read d s n (line ∷ lines) new printed unmet = (mid : S) × (text : List ℕ) × (more : List ℕ) × (first : ℕ) × (rest : ℕ)
    × SaysDue one (told s) s (come read d n line).1 mid text first × SaysFrom one told read (come read d n line).0 mid (n + 1) lines new more rest × (printed ≡ text ++ more) × (unmet ≡ first + rest)

-- Lines that come leave with reasons the target that they leave without, are unmet as often, and print the same but for the reasons.
abbrev pub ComingOnlyAdds : {S : Type 0} → (reasoned plain : S → Step → S → List ℕ → ℕ → Type 0) → (told : S → Manner) → Type 0
ComingOnlyAdds {S} reasoned plain told = (read : Reader) (d : DraftState) (s : S) (n : ℕ) (lines : List (List ℕ)) (new : S) (printed : List ℕ) (unmet : ℕ)
    → SaysFrom reasoned told read d s n lines new printed unmet
    → (parts : List Part) × (printed ≡ with_reasons parts) × SaysFrom plain (λ v. unexplained (told v)) read d s n lines new (without_reasons parts) unmet

-- ---- one line

-- a line that was taken, or the end of the input: what is due is done, and its text printed
abbrev pub DoesTaken : {S : Type 0} → (S → Step → S → List ℕ → ℕ → Type 0) → Manner → Reader → DraftState → S → ℕ → List ℕ → S → (unmet : ℕ) → (old new : OutputState) → Type 0
DoesTaken {S} one manner read d s n line t unmet old new = (printed : List ℕ) × SaysDue one manner s (come read d n line).1 t printed unmet × IsPrinted old new printed

-- ---- a run

-- a run so far: so many lines are taken from the input and done, but for those of the draft, and their texts are printed
pub record ComesOn {S : Type 0} (one : S → Step → S → List ℕ → ℕ → Type 0) (told : S → Manner) (read : Reader) (s : S) (given left : Option (List ℕ)) (count : ℕ) (draft : DraftState) (now : S) (unmet : ℕ) (old new : OutputState) : Type 0 where
  pub lines : List (List ℕ)
  pub long : length lines ≡ count
  pub printed : List ℕ
  pub taken : TakesLines given left lines
  pub drafts : draft ≡ behind read empty_draft 1 lines
  pub says : SaysFrom one told read empty_draft s 1 lines now printed unmet
  pub appends : IsPrinted old new printed

-- a run to its end: all lines of the input are done, and then its end
pub record ComesOut {S : Type 0} (one : S → Step → S → List ℕ → ℕ → Type 0) (told : S → Manner) (read : Reader) (s : S) (given : Option (List ℕ)) (last : S) (unmet : ℕ) (old new : OutputState) : Type 0 where
  pub left : Option (List ℕ)
  pub gone : Option (List ℕ)
  pub count : ℕ
  pub draft : DraftState
  pub now : S
  pub half : OutputState
  pub before : ℕ
  pub more : ℕ
  pub so_far : ComesOn one told read s given left count draft now before old half
  pub end : TakesLine left gone []
  pub ends : DoesTaken one (told now) read draft now (count + 1) [] last more half new
  pub all : unmet ≡ before + more

-- What is due is done in part, a line some times, at most as often as it says. A first part of what it prints is printed.
abbrev pub PartOf : {S : Type 0} → (S → Step → S → List ℕ → ℕ → Type 0) → Manner → S → Due → S → (old new : OutputState) → Type 0
PartOf {S} one manner s (due.Bad n) last old new = (last ≡ s) × (text : List ℕ) × IsBadText manner n text × IsPartPrinted old new text
PartOf {S} one manner s (due.Lines lines) last old new = PrintsPart one s (repeated lines) last old new

-- a line that was taken is cut short: nothing that is due is done, or a part
abbrev pub StopsIn : {S : Type 0} → (S → Step → S → List ℕ → ℕ → Type 0) → Manner → Reader → DraftState → S → ℕ → List ℕ → S → (old new : OutputState) → Type 0
StopsIn {S} one manner read d s n line t old new = ((t ≡ s) × (new ≡ old)) ⊎ PartOf one manner s (come read d n line).1 t old new

-- a run that is cut short: some first lines are done and printed, and nothing of what is due at the next one, or a part, once it is taken
pub record ComesPart {S : Type 0} (one : S → Step → S → List ℕ → ℕ → Type 0) (told : S → Manner) (read : Reader) (s : S) (given : Option (List ℕ)) (last : S) (old new : OutputState) : Type 0 where
  pub left : Option (List ℕ)
  pub count : ℕ
  pub draft : DraftState
  pub now : S
  pub unmet : ℕ
  pub half : OutputState
  pub so_far : ComesOn one told read s given left count draft now unmet old half
  pub next : ((last ≡ now) × (new ≡ half)) ⊎ ((line : List ℕ) × (gone : Option (List ℕ)) × TakesLine left gone line × PartOf one (told now) now (come read draft (count + 1) line).1 last half new)
