-- What lines do to a target, told of a part of it.
use Rattle.std.proofs.Common.{◌≡◌, ◌∙◌, inl, inr, ℕ, ◌+◌, List, [], ◌∷◌, take, Option, sym, ap, subst}
use Rattle.ec_script.specs.declared.line.Step.{Step}
use Rattle.ec_script.specs.declared.line.Task.{Task}
use Rattle.ec_script.specs.declared.line.Task.TheVariants as task
use Rattle.ec_script.specs.declared.draft.Due.{Due}
use Rattle.ec_script.specs.declared.draft.Due.TheVariants as due
use Rattle.ec_script.specs.Drafts.{DraftState, empty_draft}
use Rattle.ec_console.specs.declared.wanted.Manner.{Manner}
use Rattle.ec_console.specs.Coming.{ComesOn, ComesOut, ComesPart, IsBadText, PartOf, Reader, SaysDue, SaysFrom, come}
use Rattle.ec_console.specs.Printing.{OutputState}
use Rattle.ec_console.specs.Saying.{PrintsAll, PrintsPart, Says, SaysTask}
use Rattle.ec_console.specs.Unmet.{unmet_of}
use Rattle.ec_script.specs.Scripts.{repeated}

-- `f` is the part, and `K` what stays the same of the target
module _ {A B : Type 0} (f : A → B) (K : A → Type 0) (P : A → Step → A → List ℕ → ℕ → Type 0) (Q : B → Step → B → List ℕ → ℕ → Type 0) (each : (a : A) (step : Step) (b : A) (text : List ℕ) (unmet : ℕ) → K a → P a step b text unmet → Q (f a) step (f b) text unmet × K b) where
  task_mapped : (a : A) (t : Task) (b : A) (text : List ℕ) (unmet : ℕ) → K a → SaysTask P a t b text unmet → SaysTask Q (f a) t (f b) text unmet × K b
  task_mapped a (task.Step step) b text unmet k h = each a step b text unmet k h
  task_mapped a (task.Echo said) b text unmet k h = ((ap f h.0, h.1, h.2), subst K (sym h.0) k)

  pub says_mapped : (a : A) (lines : List Task) (b : A) (printed : List ℕ) (unmet : ℕ) → K a → Says P a lines b printed unmet → Says Q (f a) lines (f b) printed unmet × K b
  says_mapped a [] b printed unmet k h = ((ap f h.0, h.1, h.2), subst K (sym h.0) k)
  says_mapped a (line ∷ lines) b printed unmet k (mid, text, more, first, rest, done, says, is, count) =
      let here = task_mapped a line mid text first k done in
      let ahead = says_mapped mid lines b more rest here.1 says in
      ((f mid, text, more, first, rest, here.0, ahead.0, is, count), ahead.1)

  pub prints_mapped : (a : A) (lines : List Task) (b : A) (unmet : ℕ) (old new : OutputState) → K a → PrintsAll P a lines b unmet old new → PrintsAll Q (f a) lines (f b) unmet old new
  prints_mapped a lines b unmet old new k h =
      let says = says_mapped a lines b h.printed unmet k h.says in
      record { printed = h.printed; says = says.0; appends = h.appends }

  pub part_mapped : (a : A) (lines : List Task) (b : A) (old new : OutputState) → K a → PrintsPart P a lines b old new → PrintsPart Q (f a) lines (f b) old new
  part_mapped a lines b old new k h =
      let says = says_mapped a (take h.count lines) b h.printed h.unmet k h.says in
      record { count = h.count; printed = h.printed; unmet = h.unmet; says = says.0; appends = h.appends }

-- ---- lines of an input

-- `p` and `q` are whether the target and the part say why a line is bad
module _ {A B : Type 0} (f : A → B) (K : A → Type 0) (P : A → Step → A → List ℕ → ℕ → Type 0) (Q : B → Step → B → List ℕ → ℕ → Type 0) (each : (a : A) (step : Step) (b : A) (text : List ℕ) (unmet : ℕ) → K a → P a step b text unmet → Q (f a) step (f b) text unmet × K b) (p : A → Manner) (q : B → Manner) (told : (a : A) → K a → p a ≡ q (f a)) where
  due_mapped : (a : A) (d : Due) (b : A) (printed : List ℕ) (unmet : ℕ) → K a → SaysDue P (p a) a d b printed unmet → SaysDue Q (q (f a)) (f a) d (f b) printed unmet × K b
  due_mapped a (due.Bad n) b printed unmet k h =
      ((ap f h.0, subst (λ (r : Manner). IsBadText r n printed) (told a k) h.1, h.2 ∙ ap (λ (r : Manner). unmet_of r.strict) (told a k)), subst K (sym h.0) k)
  due_mapped a (due.Lines lines) b printed unmet k h = says_mapped f K P Q each a (repeated lines) b printed unmet k h

  from_mapped : (read : Reader) (d : DraftState) (a : A) (n : ℕ) (lines : List (List ℕ)) (b : A) (printed : List ℕ) (unmet : ℕ) → K a → SaysFrom P p read d a n lines b printed unmet
      → SaysFrom Q q read d (f a) n lines (f b) printed unmet × K b
  from_mapped read d a n [] b printed unmet k h = ((ap f h.0, h.1, h.2), subst K (sym h.0) k)
  from_mapped read d a n (line ∷ lines) b printed unmet k (mid, text, more, first, rest, done, says, is, count) =
      let here = due_mapped a (come read d n line).1 mid text first k done in
      let ahead = from_mapped read (come read d n line).0 mid (n + 1) lines b more rest here.1 says in
      ((f mid, text, more, first, rest, here.0, ahead.0, is, count), ahead.1)

  on_mapped : (read : Reader) (a : A) (given left : Option (List ℕ)) (count : ℕ) (draft : DraftState) (now : A) (unmet : ℕ) (old new : OutputState) → K a → ComesOn P p read a given left count draft now unmet old new
      → ComesOn Q q read (f a) given left count draft (f now) unmet old new × K now
  on_mapped read a given left count draft now unmet old new k h =
      let says = from_mapped read empty_draft a 1 h.lines now h.printed unmet k h.says in
      (record { lines = h.lines; long = h.long; printed = h.printed; taken = h.taken; drafts = h.drafts; says = says.0; appends = h.appends }, says.1)

  pub out_mapped : (read : Reader) (a : A) (given : Option (List ℕ)) (last : A) (unmet : ℕ) (old new : OutputState) → K a → ComesOut P p read a given last unmet old new
      → ComesOut Q q read (f a) given (f last) unmet old new
  out_mapped read a given last unmet old new k h =
      let so_far = on_mapped read a given h.left h.count h.draft h.now h.before old h.half k h.so_far in
      let ends = due_mapped h.now (come read h.draft (h.count + 1) []).1 last h.ends.0 h.more so_far.1 h.ends.1 in
      record {
        left = h.left;
        gone = h.gone;
        count = h.count;
        draft = h.draft;
        now = f h.now;
        half = h.half;
        before = h.before;
        more = h.more;
        so_far = so_far.0;
        end = h.end;
        ends = (h.ends.0, ends.0, h.ends.2);
        all = h.all;
      }

  part_of_mapped : (a : A) (d : Due) (last : A) (old new : OutputState) → K a → PartOf P (p a) a d last old new → PartOf Q (q (f a)) (f a) d (f last) old new
  part_of_mapped a (due.Bad n) last old new k (is, text, bad, part) = (ap f is, text, subst (λ (r : Manner). IsBadText r n text) (told a k) bad, part)
  part_of_mapped a (due.Lines lines) last old new k h = part_mapped f K P Q each a (repeated lines) last old new k h

  pub come_part_mapped : (read : Reader) (a : A) (given : Option (List ℕ)) (last : A) (old new : OutputState) → K a → ComesPart P p read a given last old new
      → ComesPart Q q read (f a) given (f last) old new
  come_part_mapped read a given last old new k h =
      let so_far = on_mapped read a given h.left h.count h.draft h.now h.unmet old h.half k h.so_far in
      record {
        left = h.left;
        count = h.count;
        draft = h.draft;
        now = f h.now;
        unmet = h.unmet;
        half = h.half;
        so_far = so_far.0;
        next = elim h.next [
          | inl same ↦ inl (ap f same.0, same.1)
          | inr next ↦ inr (next.0, next.1, next.2, part_of_mapped h.now (come read h.draft (h.count + 1) next.0).1 last h.half new so_far.1 next.3)
        ];
      }
