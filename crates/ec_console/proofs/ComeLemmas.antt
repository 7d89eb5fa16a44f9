-- Lines that are taken from an input and done as they come.
use Rattle.std.proofs.Common.{◌≡◌, ◌∙◌, inl, inr, ℕ, ◌+◌, ◌-◌, ◌^◌, ◌<◌, List, [], ◌∷◌, ◌++◌, length, min, true, false, Option, refl, sym, ap, subst, append_assoc, append-nil, length-append, arith}
use Rattle.ec_lines.specs.Taking.{IsTaken, TakesLine}
use Rattle.ec_lines.specs.declared.lines.NextLine.{NextLine}
use Rattle.ec_lines.specs.declared.lines.NextLine.TheVariants as taken
use Rattle.ec_lines.proofs.TakeLemmas.{takes_push}
use Rattle.ec_table.specs.Contents.{Contents}
use Rattle.ec_script.specs.declared.line.Step.{Step}
use Rattle.ec_script.specs.Drafts.{DraftState, empty_draft}
use Rattle.ec_console.specs.declared.wanted.Manner.{Manner}
use Rattle.ec_console.specs.Coming.{ComesOn, ComesOut, ComesPart, DoesTaken, Reader, SaysDue, SaysFrom, StopsIn, behind, come}
use Rattle.ec_console.specs.Printing.{OutputState, IsPrinted}
use Rattle.ec_console.specs.Stages.{is_end}
use Rattle.ec_console.specs.Unmet.{counted}
use Rattle.ec_console.proofs.PrintLemmas.{texts}
use Rattle.ec_console.proofs.SayLemmas.{sum_counted}

-- ---- what was taken

-- a line of at least one byte
some_line : (line : List ℕ) (next : NextLine) → IsTaken line next → is_end next ≡ false → 0 < length line
some_line line taken.End is on = cc
some_line line (taken.Text text) is on = is.0
some_line line taken.NoText is on = is.0

-- or the end
no_line : (line : List ℕ) (next : NextLine) → IsTaken line next → is_end next ≡ true → line ≡ []
no_line line taken.End is ended = is
no_line line (taken.Text text) is ended = cc
no_line line taken.NoText is ended = cc

-- a line was taken as this
abbrev pub Takes : Option (List ℕ) → Option (List ℕ) → NextLine → Type 0
Takes left after next = (line : List ℕ) × TakesLine left after line × IsTaken line next

-- a run so far, with the count that the code has
pub record HasCome {S : Type 0} (one : S → Step → S → List ℕ → ℕ → Type 0) (told : S → Manner) (read : Reader) (s : S) (given left : Option (List ℕ)) (place : ℕ) (draft : DraftState) (now : S) (count : ℕ) (old new : OutputState) : Type 0 where
  pub unmet : ℕ
  pub counts : count ≡ counted unmet
  pub so_far : ComesOn one told read s given left place draft now unmet old new

-- ---- a table that is the same

pub same_draft : (read : Contents → Reader) (t u : Contents) (d e : DraftState) (n : ℕ) (next : NextLine) → u ≡ t → ((line : List ℕ) → IsTaken line next → e ≡ (come (read u) d n line).0)
    → (line : List ℕ) → IsTaken line next → e ≡ (come (read t) d n line).0
same_draft read t u d e n next is h = subst (λ (v : Contents). (line : List ℕ) → IsTaken line next → e ≡ (come (read v) d n line).0) is h

module _ {S : Type 0} (one : S → Step → S → List ℕ → ℕ → Type 0) (told : S → Manner) (read : Contents → Reader) (t u : Contents) (d : DraftState) (now new : S) (n : ℕ) where
  pub same_does : (count : ℕ) (next : NextLine) (half whole : OutputState) → u ≡ t → (unmet : ℕ) × (count ≡ counted unmet) × ((line : List ℕ) → IsTaken line next → DoesTaken one (told now) (read u) d now n line new unmet half whole)
      → (unmet : ℕ) × (count ≡ counted unmet) × ((line : List ℕ) → IsTaken line next → DoesTaken one (told now) (read t) d now n line new unmet half whole)
  same_does count next half whole is (unmet, counts, does) =
      (unmet, counts, subst (λ (v : Contents). (line : List ℕ) → IsTaken line next → DoesTaken one (told now) (read v) d now n line new unmet half whole) is does)

  pub same_stops : (next : NextLine) (half whole : OutputState) → u ≡ t → ((line : List ℕ) → IsTaken line next → StopsIn one (told now) (read u) d now n line new half whole)
      → (line : List ℕ) → IsTaken line next → StopsIn one (told now) (read t) d now n line new half whole
  same_stops next half whole is stops = subst (λ (v : Contents). (line : List ℕ) → IsTaken line next → StopsIn one (told now) (read v) d now n line new half whole) is stops

module _ {S : Type 0} (one : S → Step → S → List ℕ → ℕ → Type 0) (told : S → Manner) (read : Reader) where
  -- ---- lines that are said

  -- the draft behind a further line
  behind_push : (d : DraftState) (k n : ℕ) (lines : List (List ℕ)) (line : List ℕ) → n ≡ k + length lines → (come read (behind read d k lines) n line).0 ≡ behind read d k (lines ++ (line ∷ []))
  behind_push d k n [] line is = let number : n ≡ k = omega arith in ap (λ (i : ℕ). (come read d i line).0) number
  behind_push d k n (l ∷ ls) line is = let number : n ≡ k + 1 + length ls = omega arith in behind_push (come read d k l).0 (k + 1) n ls line number

  from_push : (d : DraftState) (s now new : S) (k n : ℕ) (lines : List (List ℕ)) (line : List ℕ) (p q : List ℕ) (a b : ℕ) → n ≡ k + length lines → SaysFrom one told read d s k lines now p a
      → SaysDue one (told now) now (come read (behind read d k lines) n line).1 new q b → SaysFrom one told read d s k (lines ++ (line ∷ [])) new (p ++ q) (a + b)
  from_push d s now new k n [] line p q a b is h says =
      let number : n ≡ k = omega arith in
      let here : SaysDue one (told s) s (come read d k line).1 new q b =
      subst (λ (i : ℕ). SaysDue one (told s) s (come read d i line).1 new q b) number (subst (λ (v : S). SaysDue one (told v) v (come read d n line).1 new q b) h.0 says) in
      (new, q, [], b, 0, here, (refl, refl, refl), ap (λ (r : List ℕ). r ++ q) h.1 ∙ sym (append-nil q), let z : a ≡ 0 = h.2 in omega arith)
  from_push d s now new k n (l ∷ ls) line p q a b is (next, text, more, first, rest, said, says_rest, printed, unmet) says =
      let number : n ≡ k + 1 + length ls = omega arith in (
        next,
        text,
        more ++ q,
        first,
        rest + b,
        said,
        from_push (come read d k l).0 next now new (k + 1) n ls line more q rest b number says_rest says,
        ap (λ (r : List ℕ). r ++ q) printed ∙ append_assoc text more q,
        omega arith,
      )

  comes_more : (s now new : S) (given left after : Option (List ℕ)) (n : ℕ) (d : DraftState) (line text : List ℕ) (a b : ℕ) (old half whole : OutputState) → ComesOn one told read s given left n d now a old half
      → TakesLine left after line → 0 < length line → SaysDue one (told now) now (come read d (n + 1) line).1 new text b → IsPrinted half whole text
      → ComesOn one told read s given after (n + 1) (come read d (n + 1) line).0 new (a + b) old whole
  comes_more s now new given left after n d line text a b old half whole h next some says appends =
      let number : n + 1 ≡ 1 + length h.lines = let l : length h.lines ≡ n = h.long in omega arith in
      record {
        lines = h.lines ++ (line ∷ []);
        long = let l : length h.lines ≡ n = h.long in length-append h.lines (line ∷ []) ∙ omega arith;
        printed = h.printed ++ text;
        taken = takes_push given left after h.lines line h.taken next some;
        drafts = ap (λ (e : DraftState). (come read e (n + 1) line).0) h.drafts ∙ behind_push empty_draft 1 (n + 1) h.lines line number;
        says = from_push empty_draft s now new 1 (n + 1) h.lines line h.printed text a b number h.says
            (subst (λ (e : DraftState). SaysDue one (told now) now (come read e (n + 1) line).1 new text b) h.drafts says);
        appends = texts.both old half whole h.printed text h.appends appends;
      }

  -- ---- the run

  pub none_come : (s : S) (given : Option (List ℕ)) (draft : DraftState) (old : OutputState) → draft ≡ empty_draft → HasCome one told read s given given 0 draft s 0 old old
  none_come s given draft old is = record {
    unmet = 0;
    counts = refl;
    so_far = record { lines = []; long = refl; printed = []; taken = refl; drafts = is; says = (refl, refl, refl); appends = texts.none old };
  }

  -- a line more
  pub come_on : (s now new : S) (given left after : Option (List ℕ)) (place : ℕ) (d e : DraftState) (next : NextLine) (count more total : ℕ) (old half whole : OutputState) → HasCome one told read s given left place d now count old half
      → Takes left after next → is_end next ≡ false → (unmet : ℕ) × (more ≡ counted unmet) × ((line : List ℕ) → IsTaken line next → DoesTaken one (told now) read d now (place + 1) line new unmet half whole)
      → ((line : List ℕ) → IsTaken line next → e ≡ (come read d (place + 1) line).0) → total ≡ min (count + more) (2 ^ 64 - 1) → HasCome one told read s given after (place + 1) e new total old whole
  come_on s now new given left after place d e next count more total old half whole h (line, takes, is) on (unmet, counts, does) drafts sum = by (does line is)
    where
      by : DoesTaken one (told now) read d now (place + 1) line new unmet half whole → HasCome one told read s given after (place + 1) e new total old whole
      by (text, says, appends) = record {
        unmet = h.unmet + unmet;
        counts = sum ∙ sum_counted h.unmet unmet count more h.counts counts;
        so_far = subst (λ (x : DraftState). ComesOn one told read s given after (place + 1) x new (h.unmet + unmet) old whole) (sym (drafts line is))
            (comes_more s now new given left after place d line text h.unmet unmet old half whole h.so_far takes (some_line line next is on) says appends);
      }

  -- the end
  pub come_out : (s now new : S) (given left after : Option (List ℕ)) (place : ℕ) (d : DraftState) (next : NextLine) (count more total : ℕ) (old half whole : OutputState) → HasCome one told read s given left place d now count old half
      → Takes left after next → is_end next ≡ true → (unmet : ℕ) × (more ≡ counted unmet) × ((line : List ℕ) → IsTaken line next → DoesTaken one (told now) read d now (place + 1) line new unmet half whole)
      → total ≡ min (count + more) (2 ^ 64 - 1) → (unmet : ℕ) × (total ≡ counted unmet) × ComesOut one told read s given new unmet old whole
  come_out s now new given left after place d next count more total old half whole h (line, takes, is) ended (unmet, counts, does) sum =
      let none = no_line line next is ended in (
        h.unmet + unmet,
        sum ∙ sum_counted h.unmet unmet count more h.counts counts,
        record {
          left = left;
          gone = after;
          count = place;
          draft = d;
          now = now;
          half = half;
          before = h.unmet;
          more = unmet;
          so_far = h.so_far;
          end = subst (TakesLine left after) none takes;
          ends = subst (λ (l : List ℕ). DoesTaken one (told now) read d now (place + 1) l new unmet half whole) none (does line is);
          all = refl;
        },
      )

  -- the next line isn't begun
  pub come_stop : (s now : S) (given left : Option (List ℕ)) (place : ℕ) (d : DraftState) (count : ℕ) (old new : OutputState) → HasCome one told read s given left place d now count old new → ComesPart one told read s given now old new
  come_stop s now given left place d count old new h =
      record { left = left; count = place; draft = d; now = now; unmet = h.unmet; half = new; so_far = h.so_far; next = inl (refl, refl) }

  -- what is due at a line is cut
  pub come_cut : (s now last : S) (given left after : Option (List ℕ)) (place : ℕ) (d : DraftState) (count : ℕ) (next : NextLine) (old half new : OutputState) → HasCome one told read s given left place d now count old half
      → Takes left after next → ((line : List ℕ) → IsTaken line next → StopsIn one (told now) read d now (place + 1) line last half new) → ComesPart one told read s given last old new
  come_cut s now last given left after place d count next old half new h (line, takes, is) stops = record {
    left = left;
    count = place;
    draft = d;
    now = now;
    unmet = h.unmet;
    half = half;
    so_far = h.so_far;
    next = elim (stops line is) [
      | inl none ↦ inl none
      | inr part ↦ inr (line, after, takes, part)
    ];
  }
