-- Reasons between what lines print.
use Rattle.std.proofs.Common.{◌≡◌, ◌≢◌, ◌∙◌, inl, inr, ℕ, ◌+◌, List, [], ◌∷◌, ◌++◌, Bool, true, false, refl, sym, ap, append_assoc, append-nil, arith}
use Rattle.std.specs.Prelude.{◌⊎◌, codes}
use Rattle.std.proofs.lemmas.List.Elements.{All-cons, All-nil}
use Rattle.ec_diagnostic.specs.Reason.{IsReason}
use Rattle.ec_script.specs.declared.line.Step.{Step}
use Rattle.ec_script.specs.declared.line.Task.{Task}
use Rattle.ec_script.specs.declared.line.Task.TheVariants as task
use Rattle.ec_script.specs.declared.draft.Due.{Due}
use Rattle.ec_script.specs.declared.draft.Due.TheVariants as due
use Rattle.ec_console.specs.declared.wanted.Manner.{Manner}
use Rattle.ec_console.specs.Coming.{ComingOnlyAdds, SaysDue, bad_text, come}
use Rattle.ec_console.specs.Reasons.{OnlyAdds, Part, ReasonIf, unexplained, with_reasons, without_reasons}
use Rattle.ec_console.specs.Saying.{SaysTask}
use Rattle.ec_script.specs.Scripts.{repeated}
use Rattle.ec_text.specs.PlanText.{newline}

pub reason_if : (b : Bool) (why : List ℕ) → ReasonIf b why → (why ≡ []) ⊎ IsReason why
reason_if true why h = inr h
reason_if false why h = inl h

joined : (p q a b : List ℕ) → p ≡ a → q ≡ b → p ++ q ≡ a ++ b
joined p q a b first second = ap (λ (r : List ℕ). r ++ q) first ∙ ap (λ (r : List ℕ). a ++ r) second

-- there is a reason: a question mark
abbrev mark : List ℕ
mark = 63 ∷ []

some_words : mark ≢ []
some_words is = let e : mark ≡ [] = is in cc

no_end : (b : ℕ) → b ≡ 63 → b ≢ 10
no_end b is end = absurd (omega arith)

pub some_reason : IsReason (codes "  " ++ (mark ++ (10 ∷ [])))
some_reason = record {
  words = mark;
  some = some_words;
  on_one_line = All-cons (λ b. b ≢ 10) 63 [] (no_end 63 refl) (All-nil (λ b. b ≢ 10));
  is = refl;
}

-- a text that may stand behind a line
pub some_why : (b : Bool) → (why : List ℕ) × ReasonIf b why
some_why true = (codes "  " ++ (mark ++ (10 ∷ [])), some_reason)
some_why false = ([], refl)

with_append : (ps qs : List Part) → with_reasons (ps ++ qs) ≡ with_reasons ps ++ with_reasons qs
with_append [] qs = refl
with_append (p ∷ ps) qs = ap (λ (r : List ℕ). (p.said ++ p.why) ++ r) (with_append ps qs) ∙ sym (append_assoc (p.said ++ p.why) (with_reasons ps) (with_reasons qs))

without_append : (ps qs : List Part) → without_reasons (ps ++ qs) ≡ without_reasons ps ++ without_reasons qs
without_append [] qs = refl
without_append (p ∷ ps) qs = ap (λ (r : List ℕ). p.said ++ r) (without_append ps qs) ∙ sym (append_assoc p.said (without_reasons ps) (without_reasons qs))

-- lines that only add reasons, since each of them does
module _ {S : Type 0} (reasoned plain : S → Step → S → List ℕ → ℕ → Type 0) (each : (s : S) (step : Step) (new : S) (text : List ℕ) (unmet : ℕ) → reasoned s step new text unmet → (part : Part) × (text ≡ part.said ++ part.why) × plain s step new part.said unmet) where
  task_adds : (s : S) (t : Task) (new : S) (text : List ℕ) (unmet : ℕ) → SaysTask reasoned s t new text unmet → (part : Part) × (text ≡ part.said ++ part.why) × SaysTask plain s t new part.said unmet
  task_adds s (task.Step step) new text unmet h = each s step new text unmet h
  task_adds s (task.Echo said) new text unmet h =
      (record { said = said ++ newline; why = []; is = inl refl }, h.1 ∙ sym (append-nil (said ++ newline)), (h.0, refl, h.2))

  lines_add : OnlyAdds reasoned plain
  lines_add s [] new printed unmet h = ([], h.1, (h.0, refl, h.2))
  lines_add s (line ∷ lines) new printed unmet (mid, text, more, first, rest, said, says, is, count) =
      let here = task_adds s line mid text first said in
      let behind = lines_add mid lines new more rest says in (
        here.0 ∷ behind.0,
        is ∙ joined text more (here.0.said ++ here.0.why) (with_reasons behind.0) here.1 behind.1,
        (mid, here.0.said, without_reasons behind.0, first, rest, here.2, behind.2, refl, count),
      )

  -- ---- lines that come

  -- a bad line has one reason, and lines that are due have those of each time that they are done
  due_adds : (manner : Manner) (s : S) (d : Due) (new : S) (printed : List ℕ) (unmet : ℕ) → SaysDue reasoned manner s d new printed unmet
      → (parts : List Part) × (printed ≡ with_reasons parts) × SaysDue plain (unexplained manner) s d new (without_reasons parts) unmet
  due_adds manner s (due.Bad n) new printed unmet (same, (why, reason, is), none) = (
    record { said = bad_text n; why = why; is = reason_if manner.explained why reason } ∷ [],
    is ∙ sym (append-nil (bad_text n ++ why)),
    (same, ([], refl, refl), none),
  )
  due_adds manner s (due.Lines lines) new printed unmet h = lines_add s (repeated lines) new printed unmet h

  coming_adds : (told : S → Manner) → ComingOnlyAdds reasoned plain told
  coming_adds told read d s n [] new printed unmet h = ([], h.1, (h.0, refl, h.2))
  coming_adds told read d s n (line ∷ lines) new printed unmet (mid, text, more, first, rest, said, says, is, count) =
      let here = due_adds (told s) s (come read d n line).1 mid text first said in
      let behind = coming_adds told read (come read d n line).0 mid (n + 1) lines new more rest says in (
        here.0 ++ behind.0,
        is ∙ (joined text more (with_reasons here.0) (with_reasons behind.0) here.1 behind.1 ∙ sym (with_append here.0 behind.0)),
        (mid, without_reasons here.0, without_reasons behind.0, first, rest, here.2, behind.2, without_append here.0 behind.0, count),
      )

  -- ---- both

  pub only_adds : (told : S → Manner) → OnlyAdds reasoned plain × ComingOnlyAdds reasoned plain told
  only_adds told = (lines_add, coming_adds told)
