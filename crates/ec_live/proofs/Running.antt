-- A run of a live segment, step after step.
use Rattle.std.proofs.Common.{◌≡◌, ◌≢◌, ◌∙◌, inl, inr, ℕ, zero, suc, ◌+◌, ◌-◌, ◌^◌, ◌<◌, ◌==◌, List, [], ◌∷◌, ◌++◌, length, min, take, Bool, true, false, Option, Some, None, Result, Ok, Err, IfErr, OnOk, refl, sym, ap, subst, add-zero, arith}
use Rattle.std.specs.Result.{IsErrAnd}
use Rattle.std.proofs.KnownBytes.{Consumes-nil, Consumes-trans}
use Rattle.std.proofs.lemmas.Bool.Decides.{nat_tests}
use Rattle.std.proofs.lemmas.List.Elements.{All-nil}
use Rattle.ec_lines.specs.Taking.{GoesOn, IsSoFar, IsTaken, TakesLine, TakesPart, max_kept}
use Rattle.ec_lines.specs.declared.lines.NextLine.{NextLine}
use Rattle.ec_wire.specs.Wires.{Carries, WireState, is_fault}
use Rattle.ec_wire.specs.declared.trouble.Trouble.{Trouble}
use Rattle.ec_wire.specs.declared.trouble.Trouble.TheVariants.{Silence}
use Rattle.ec_console.specs.declared.refusal.Refusal.{Refusal}
use Rattle.ec_console.specs.declared.refusal.Refusal.TheVariants as refusal
use Rattle.ec_script.specs.Drafts.{DraftState, empty_draft}
use Rattle.ec_console.specs.Coming.{DoesTaken, StopsIn, come}
use Rattle.ec_console.specs.Printing.{IsCutOff, IsPrinted, OutputState}
use Rattle.ec_console.specs.Saying.{IsLate}
use Rattle.ec_console.specs.Unmet.{counted, ended_by}
use Rattle.ec_live.specs.Doing.{SaysLive, served_line}
use Rattle.ec_live.specs.Living.{ObeysOne, AreAll, Came, EndsTurns, IsCut, Line, LivesOn, MeetsOne, Payload, RunState, Runs, RunsOut, Step, StopsInLine, begun, line_read, payloads_of}
use Rattle.ec_live.specs.Stages.{Closes, FitsLines, FramesLeft, HasCome, IsAt, LinesState, MeetsFault, MeetsSome, ObeysCut, ObeysSome, TurnsEnd, one_less_frame}
use Rattle.ec_live.specs.Meeting.{Meets}
use Rattle.ec_live.specs.State.{LiveState}
use Rattle.ec_live.proofs.Carrying.{same_wire}

-- ---- bytes of the input

take_none : (n : ℕ) → take {A = ℕ} n [] ≡ []
take_none zero = refl
take_none (suc n) = refl

none_so_far : (known : Option (List ℕ)) (most : ℕ) (kept : List ℕ) → kept ≡ [] → IsSoFar known known most kept
none_so_far known most kept none = record { front = []; unended = All-nil (λ b. b ≢ 10); taken = Consumes-nil known; keeps = none ∙ sym (take_none most) }

none_taken : (known : Option (List ℕ)) → TakesPart known known
none_taken known = ([], Consumes-nil known)

pub taken_more : (a b c : Option (List ℕ)) → TakesPart a b → TakesPart b c → TakesPart a c
taken_more a b c (xs, first) (ys, next) = (xs ++ ys, Consumes-trans a b c xs ys first next)

-- ---- counts

sum_counted : (a b c d : ℕ) → c ≡ counted a → d ≡ counted b → min (c + d) (2 ^ 64 - 1) ≡ counted (a + b)
sum_counted a b c d h g = omega arith

-- ---- bytes of a line come

-- a run stays where it is, and the lines of which bytes are taken too
fits_part : (t : RunState) (l m : LinesState) (old new : Option (List ℕ)) → FitsLines t l old → m.draft ≡ l.draft → m.count ≡ l.count → m.unmet ≡ l.unmet → TakesPart old new
    → (m.is_open ≡ true → IsSoFar t.left new max_kept m.part) → FitsLines t m new
fits_part t l m old new h draft count unmet taken part = record {
  draft = draft ∙ h.draft;
  number = count ∙ h.number;
  unmet = unmet ∙ h.unmet;
  rest = taken_more t.left old new h.rest taken;
  part = part;
}

-- it goes on, or no more come
goes_on : (s : RunState) (live : LiveState) (output : OutputState) (l m : LinesState) (old new : Option (List ℕ)) → s.live ≡ live → s.output ≡ output → FitsLines s l old → m.draft ≡ l.draft → m.count ≡ l.count
    → m.unmet ≡ l.unmet → TakesPart old new → (m.is_open ≡ true → IsSoFar s.left new max_kept m.part) → ObeysSome s live m new output
goes_on s live output l m old new a b h draft count unmet taken part = inl (sym a, sym b, fits_part s l m old new h draft count unmet taken part)

-- what the code has of lines
abbrev pub lines_of : List ℕ → DraftState → ℕ → ℕ → Bool → LinesState
lines_of part draft count unmet is_open = record { part = part; draft = draft; count = count; unmet = unmet; is_open = is_open }

-- it goes on
pub part_taken : (s : RunState) (live : LiveState) (output : OutputState) (l : LinesState) (part kept : List ℕ) (draft : DraftState) (count unmet : ℕ) (is_open : Bool) (old new : Option (List ℕ)) (next : Option NextLine)
    → lines_of part draft count unmet is_open ≡ l → is_open ≡ true → TakesPart old new → ((start : Option (List ℕ)) → IsSoFar start old max_kept part → GoesOn start new kept next) → next ≡ None
    → s.live ≡ live → s.output ≡ output → FitsLines s l old → ObeysSome s live (lines_of kept draft count unmet is_open) new output
part_taken s live output l part kept draft count unmet is_open old new next is opened taken goes none a b h =
    let fits = subst (λ (x : LinesState). FitsLines s x old) (sym is) h in
    goes_on s live output (lines_of part draft count unmet is_open) (lines_of kept draft count unmet is_open) old new a b fits refl refl refl taken
    (λ still. subst (GoesOn s.left new kept) none (goes s.left (fits.part opened)))

-- no more come
pub none_more : (s : RunState) (live : LiveState) (output : OutputState) (l : LinesState) (part kept : List ℕ) (draft : DraftState) (count unmet : ℕ) (is_open : Bool) (old new : Option (List ℕ)) → lines_of part draft count unmet is_open ≡ l
    → TakesPart old new → s.live ≡ live → s.output ≡ output → FitsLines s l old → ObeysSome s live (lines_of kept draft count unmet false) new output
none_more s live output l part kept draft count unmet is_open old new is taken a b h =
    goes_on s live output (lines_of part draft count unmet is_open) (lines_of kept draft count unmet false) old new a b (subst (λ (x : LinesState). FitsLines s x old) (sym is) h) refl refl refl taken
    (λ still. let bad : false ≡ true = still in cc)

-- a line is whole, or the input has ended, and what is due is done
pub obeys_line : (s : RunState) (live next : LiveState) (before after : OutputState) (l m : LinesState) (old new : Option (List ℕ)) (line : List ℕ) (more unmet : ℕ) → s.live ≡ live → s.output ≡ before
    → FitsLines s l old → TakesLine s.left new line → DoesTaken SaysLive live.manner (line_read live.table) l.draft live m.count line next unmet before after → m.draft ≡ (come (line_read live.table) l.draft m.count line).0 → m.count ≡ l.count + 1
    → more ≡ counted unmet → m.unmet ≡ min (l.unmet + more) (2 ^ 64 - 1) → m.part ≡ [] → ObeysSome s next m new after
obeys_line s live next before after l m old new line more unmet a b h taken does drafts one counts sum none = inr (line, then, obeys here, refl, refl, fits)
  where
    number : m.count ≡ s.number + 1
    number = one ∙ ap (λ (n : ℕ). n + 1) h.number

    here : DoesTaken SaysLive s.live.manner (line_read s.live.table) s.draft s.live (s.number + 1) line next unmet s.output after
    here =
        subst (λ (o : OutputState). DoesTaken SaysLive s.live.manner (line_read s.live.table) s.draft s.live (s.number + 1) line next unmet o after) (sym b)
        (subst (λ (d : DraftState). DoesTaken SaysLive s.live.manner (line_read s.live.table) d s.live (s.number + 1) line next unmet before after) h.draft
        (subst (λ (n : ℕ). DoesTaken SaysLive s.live.manner (line_read s.live.table) l.draft s.live n line next unmet before after) number
        (subst (λ (x : LiveState). DoesTaken SaysLive x.manner (line_read x.table) l.draft x m.count line next unmet before after) (sym a) does)))

    behind_it : m.draft ≡ (come (line_read s.live.table) s.draft (s.number + 1) line).0
    behind_it =
        drafts
        ∙ (ap (λ (x : LiveState). (come (line_read x.table) l.draft m.count line).0) (sym a)
        ∙ (ap (λ (n : ℕ). (come (line_read s.live.table) l.draft n line).0) number
        ∙ ap (λ (d : DraftState). (come (line_read s.live.table) d (s.number + 1) line).0) h.draft))

    then : RunState
    then = record {
      live = next;
      wire = s.wire;
      left = new;
      number = s.number + 1;
      draft = (come (line_read s.live.table) s.draft (s.number + 1) line).0;
      unmet = s.unmet + unmet;
      output = after;
    }

    fits : FitsLines then m new
    fits = record {
      draft = behind_it;
      number = number;
      unmet = sum ∙ sum_counted s.unmet unmet l.unmet more h.unmet counts;
      rest = none_taken new;
      part = λ is. none_so_far new max_kept m.part none;
    }

    obeys : DoesTaken SaysLive s.live.manner (line_read s.live.table) s.draft s.live (s.number + 1) line next unmet s.output after → ObeysOne s line then
    obeys (printed, says, prints) = record { taken = taken; printed = printed; unmet = unmet; says = says; prints = prints; is = refl }

-- or it is cut short
pub cuts_line : (s : RunState) (live next : LiveState) (before after : OutputState) (l : LinesState) (old new : Option (List ℕ)) (n : ℕ) (line : List ℕ) (x : Refusal) → s.live ≡ live → s.output ≡ before
    → FitsLines s l old → TakesLine s.left new line → StopsIn SaysLive live.manner (line_read live.table) l.draft live n line next before after → n ≡ l.count + 1 → IsLate false after x → ObeysCut s next after x
cuts_line s live next before after l old new n line x a b h taken stops one late = (then, by x late, refl, refl)
  where
    number : n ≡ s.number + 1
    number = one ∙ ap (λ (k : ℕ). k + 1) h.number

    here : StopsIn SaysLive s.live.manner (line_read s.live.table) s.draft s.live (s.number + 1) line next s.output after
    here =
        subst (λ (o : OutputState). StopsIn SaysLive s.live.manner (line_read s.live.table) s.draft s.live (s.number + 1) line next o after) (sym b)
        (subst (λ (d : DraftState). StopsIn SaysLive s.live.manner (line_read s.live.table) d s.live (s.number + 1) line next before after) h.draft
        (subst (λ (k : ℕ). StopsIn SaysLive s.live.manner (line_read s.live.table) l.draft s.live k line next before after) number
        (subst (λ (y : LiveState). StopsIn SaysLive y.manner (line_read y.table) l.draft y n line next before after) (sym a) stops)))

    then : RunState
    then = record s { live = next; left = new; output = after }

    in_line : StopsInLine s then
    in_line = record { line = line; taken = taken; stops = here; is = refl }

    by : (y : Refusal) → IsLate false after y → IsCut s then y
    by refusal.Memory late = inr in_line
    by refusal.Output late = (in_line, late)
    by refusal.Input late = let bad : false ≡ true = late in cc
    by (refusal.Frame e) late = absurd late
    by (refusal.Table e) late = absurd late
    by (refusal.Link e) late = absurd late
    by (refusal.Start e) late = absurd late
    by (refusal.Run e) late = absurd late
    by (refusal.Socket trouble) late = absurd late
    by (refusal.Script e) late = absurd late
    by refusal.BadHex late = absurd late
    by (refusal.Unmet n) late = absurd late
    by (refusal.Unsaid n) late = absurd late

-- a line that is whole, by what the code has
pub whole_obeyed : (s : RunState) (live next : LiveState) (before after : OutputState) (l : LinesState) (part kept : List ℕ) (draft drawn : DraftState) (count unmet n more sum : ℕ) (is_open still : Bool) (old new : Option (List ℕ)) (took : NextLine)
    → lines_of part draft count unmet is_open ≡ l → is_open ≡ true → count < 2 ^ 64 - 1 → n ≡ min (count + 1) (2 ^ 64 - 1) → sum ≡ min (unmet + more) (2 ^ 64 - 1)
    → ((start : Option (List ℕ)) → IsSoFar start old max_kept part → GoesOn start new kept (Some took))
    → ((u : ℕ) × (more ≡ counted u) × ((line : List ℕ) → IsTaken line took → DoesTaken SaysLive live.manner (line_read live.table) draft live n line next u before after))
    → ((line : List ℕ) → IsTaken line took → drawn ≡ (come (line_read live.table) draft n line).0)
    → s.live ≡ live → s.output ≡ before → FitsLines s l old → ObeysSome s next (lines_of kept drawn n sum still) new after
whole_obeyed s live next before after l part kept draft drawn count unmet n more sum is_open still old new took is opened few one sums goes (u, counts, does) drafts a b h = by (goes s.left (fits.part opened))
  where
    fits : FitsLines s (lines_of part draft count unmet is_open) old
    fits = subst (λ (x : LinesState). FitsLines s x old) (sym is) h

    next_one : n ≡ count + 1
    next_one = omega arith

    by : GoesOn s.left new kept (Some took) → ObeysSome s next (lines_of kept drawn n sum still) new after
    by (line, takes, fit, none) =
        obeys_line s live next before after (lines_of part draft count unmet is_open) (lines_of kept drawn n sum still) old new line more u a b fits takes (does line fit) (drafts line fit) next_one counts sums none

pub whole_cut : (s : RunState) (live next : LiveState) (before after : OutputState) (l : LinesState) (part kept : List ℕ) (draft : DraftState) (count unmet n : ℕ) (is_open : Bool) (old new : Option (List ℕ)) (took : NextLine) (x : Refusal)
    → lines_of part draft count unmet is_open ≡ l → is_open ≡ true → count < 2 ^ 64 - 1 → n ≡ min (count + 1) (2 ^ 64 - 1)
    → ((start : Option (List ℕ)) → IsSoFar start old max_kept part → GoesOn start new kept (Some took))
    → ((line : List ℕ) → IsTaken line took → StopsIn SaysLive live.manner (line_read live.table) draft live n line next before after) → IsLate false after x
    → s.live ≡ live → s.output ≡ before → FitsLines s l old → ObeysCut s next after x
whole_cut s live next before after l part kept draft count unmet n is_open old new took x is opened few one goes stops late a b h = by (goes s.left (fits.part opened))
  where
    fits : FitsLines s (lines_of part draft count unmet is_open) old
    fits = subst (λ (y : LinesState). FitsLines s y old) (sym is) h

    next_one : n ≡ count + 1
    next_one = omega arith

    by : GoesOn s.left new kept (Some took) → ObeysCut s next after x
    by (line, takes, fit, none) = cuts_line s live next before after (lines_of part draft count unmet is_open) old new n line x a b fits takes (stops line fit) next_one late

-- what is said of an end that is an error
pub no_done : (P : Type 0) (r : Result Unit Refusal) (x : Refusal) → IsErrAnd r (λ e. e ≡ x) → OnOk r P
no_done P (Ok done) x is = absurd is
no_done P (Err e) x is = tt

pub known_err : (P : Refusal → Type 0) (r : Result Unit Refusal) (x : Refusal) → IsErrAnd r (λ e. e ≡ x) → P x → IfErr r P
known_err P (Ok done) x is h = tt
known_err P (Err e) x is h = subst P (sym is) h

-- there is no memory for its bytes
pub cuts_before : (s : RunState) (live : LiveState) (output : OutputState) → s.live ≡ live → s.output ≡ output → ObeysCut s live output refusal.Memory
cuts_before s live output a b = (s, inl refl, a, b)

-- ---- one step more

runs_push : (s : RunState) (cs : List Came) (t : RunState) (c : Came) (u : RunState) → Runs s cs t → Step t c u → Runs s (cs ++ (c ∷ [])) u
runs_push s [] t c u h step = (u, subst (λ (x : RunState). Step x c u) h step, refl)
runs_push s (d ∷ ds) t c u (mid, first, rest) step = (mid, first, runs_push mid ds t c u rest step)

payload_more : (cs : List Came) (p : List ℕ) → length (payloads_of (cs ++ (Payload p ∷ []))) ≡ length (payloads_of cs) + 1
payload_more [] p = refl
payload_more (Payload q ∷ cs) p = let more = payload_more cs p in omega (arith, more)
payload_more (Line l ∷ cs) p = payload_more cs p

line_more : (cs : List Came) (l : List ℕ) → length (payloads_of (cs ++ (Line l ∷ []))) ≡ length (payloads_of cs)
line_more [] l = refl
line_more (Payload q ∷ cs) l = let more = line_more cs l in omega (arith, more)
line_more (Line k ∷ cs) l = line_more cs l

one_less : (j k m : ℕ) → (Some j ≡ Some 0 → ⊥) → j + k ≡ m → j - 1 + (k + 1) ≡ m
one_less zero k m some is = absurd (some refl)
one_less (suc i) k m some is = omega arith

frame_less : (frames now : Option ℕ) (k : ℕ) → (now ≡ Some 0 → ⊥) → FramesLeft frames k now → FramesLeft frames (k + 1) (one_less_frame now)
frame_less None None k some h = tt
frame_less None (Some n) k some h = absurd h
frame_less (Some m) None k some h = absurd h
frame_less (Some m) (Some n) k some h = one_less n k m some h

-- ---- a run so far

pub none_come : (frames : Option ℕ) (s : RunState) (live : LiveState) (wire : WireState) (lines : LinesState) (left : Option (List ℕ)) (output : OutputState) → IsAt s live wire lines left output
    → HasCome frames s live wire lines left output frames
none_come frames s live wire lines left output at = record { came = []; last = s; runs = refl; at = at; frames = all frames }
  where
    all : (f : Option ℕ) → FramesLeft f 0 f
    all None = tt
    all (Some n) = add-zero n

-- by the same parts
pub come_as : (frames : Option ℕ) (s : RunState) (live live2 : LiveState) (w w2 : WireState) (l l2 : LinesState) (left left2 : Option (List ℕ)) (output output2 : OutputState) (now now2 : Option ℕ)
    → live2 ≡ live → w2 ≡ w → l2 ≡ l → left2 ≡ left → output2 ≡ output → now2 ≡ now → HasCome frames s live w l left output now → HasCome frames s live2 w2 l2 left2 output2 now2
come_as frames s live live2 w w2 l l2 left left2 output output2 now now2 a b c d e f h =
    subst (λ (x : LiveState). HasCome frames s x w2 l2 left2 output2 now2) (sym a)
    (subst (λ (x : WireState). HasCome frames s live x l2 left2 output2 now2) (sym b)
    (subst (λ (x : LinesState). HasCome frames s live w x left2 output2 now2) (sym c)
    (subst (λ (x : Option (List ℕ)). HasCome frames s live w l x output2 now2) (sym d)
    (subst (λ (x : OutputState). HasCome frames s live w l left x now2) (sym e)
    (subst (λ (x : Option ℕ). HasCome frames s live w l left output x) (sym f) h)))))

-- a payload comes, or nothing
pub frame_comes : (frames now later : Option ℕ) (s : RunState) (live next : LiveState) (w v : WireState) (lines : LinesState) (left : Option (List ℕ)) (output : OutputState)
    → HasCome frames s live w lines left output now → (now ≡ Some 0 → ⊥) → MeetsSome live next w v now later → HasCome frames s next v lines left output later
frame_comes frames now later s live next w v lines left output h some (inl (nothing, same)) = record {
  came = h.came;
  last = h.last;
  runs = h.runs;
  at = record {
    live = h.at.live ∙ sym nothing.same;
    wire = h.at.wire ∙ sym (same_wire w v nothing.carried nothing.fine);
    output = h.at.output;
    lines = h.at.lines;
  };
  frames = subst (FramesLeft frames (length (payloads_of h.came))) (sym same) h.frames;
}
frame_comes frames now later s live next w v lines left output h some (inr (payload, meets, less)) = record {
  came = h.came ++ (Payload payload ∷ []);
  last = then;
  runs = runs_push s h.came h.last (Payload payload) then h.runs one;
  at = record { live = refl; wire = refl; output = h.at.output; lines = fits };
  frames = subst (λ (n : ℕ). FramesLeft frames n later) (sym (payload_more h.came payload))
      (subst (FramesLeft frames (length (payloads_of h.came) + 1)) (sym less) (frame_less frames now (length (payloads_of h.came)) some h.frames));
}
  where
    then : RunState
    then = record h.last { live = next; wire = v }

    one : MeetsOne h.last payload then
    one = record {
      answers = meets.answers;
      carried = subst (λ (x : WireState). Carries x v meets.answers (payload ∷ [])) (sym h.at.wire) meets.carried;
      fine = meets.fine ∙ sym (ap (λ (x : WireState). x.failed) h.at.wire);
      meets = subst (λ (x : LiveState). Meets x payload next meets.answers) (sym h.at.live) meets.meets;
      is = refl;
    }

    fits : FitsLines then lines left
    fits = record { draft = h.at.lines.draft; number = h.at.lines.number; unmet = h.at.lines.unmet; rest = h.at.lines.rest; part = h.at.lines.part }

-- bytes of a line come
pub line_comes : (frames now : Option ℕ) (s : RunState) (live next : LiveState) (w : WireState) (l m : LinesState) (old new : Option (List ℕ)) (before after : OutputState)
    → HasCome frames s live w l old before now → ((t : RunState) → t.live ≡ live → t.output ≡ before → FitsLines t l old → ObeysSome t next m new after)
    → HasCome frames s next w m new after now
line_comes frames now s live next w l m old new before after h does = by (does h.last h.at.live h.at.output h.at.lines)
  where
    by : ObeysSome h.last next m new after → HasCome frames s next w m new after now
    by (inl (a, b, fits)) = record { came = h.came; last = h.last; runs = h.runs; at = record { live = sym a; wire = h.at.wire; output = sym b; lines = fits }; frames = h.frames }
    by (inr (line, t, one, a, b, fits)) = record {
      came = h.came ++ (Line line ∷ []);
      last = t;
      runs = runs_push s h.came h.last (Line line) t h.runs one;
      at = record { live = a; wire = ap (λ (x : RunState). x.wire) one.is ∙ h.at.wire; output = b; lines = fits };
      frames = subst (λ (n : ℕ). FramesLeft frames n now) (sym (line_more h.came line)) h.frames;
    }

-- ---- how it ends

-- an error that a call passed on
pub passed_on : (P : Result Unit Refusal → Type 0) (r : Result Unit Refusal) (x : Refusal) → IsErrAnd r (λ e. e ≡ x) → P (Err x) → P r
passed_on P (Ok done) x is h = absurd is
passed_on P (Err e) x is h = subst (λ (y : Refusal). P (Err y)) (sym is) h

-- all payloads came
pub all_came : (frames now : Option ℕ) (s : RunState) (live : LiveState) (w : WireState) (lines : LinesState) (left : Option (List ℕ)) (output : OutputState) → now ≡ Some 0
    → HasCome frames s live w lines left output now → TurnsEnd frames s live left output lines.unmet (Ok tt)
all_came frames now s live w lines left output none h = record {
  last = h.last;
  ends = (h.came, record { runs = h.runs; rest = h.at.lines.rest }, all frames (subst (FramesLeft frames (length (payloads_of h.came))) none h.frames));
  live = h.at.live;
  output = h.at.output;
  expects = λ is. h.at.lines.unmet;
}
  where
    all : (f : Option ℕ) → FramesLeft f (length (payloads_of h.came)) (Some 0) → AreAll f h.came
    all None is = tt
    all (Some m) is = let e : 0 + length (payloads_of h.came) ≡ m = is in omega arith

-- a call was refused, and nothing else was done
pub stops : (frames now : Option ℕ) (s : RunState) (live : LiveState) (w : WireState) (lines : LinesState) (left : Option (List ℕ)) (output : OutputState) (trouble : Trouble)
    → HasCome frames s live w lines left output now → TurnsEnd frames s live left output lines.unmet (Err (refusal.Socket trouble))
stops frames now s live w lines left output trouble h = record {
  last = h.last;
  ends = (h.came, h.last, record { runs = h.runs; rest = h.at.lines.rest }, inl refl);
  live = h.at.live;
  output = h.at.output;
  expects = λ is. let bad : false ≡ true = is in cc;
}

-- the patience for payloads is over
pub closes : (frames now : Option ℕ) (s : RunState) (live : LiveState) (w : WireState) (lines : LinesState) (left : Option (List ℕ)) (output : OutputState) (ended : Result Unit Refusal)
    → HasCome frames s live w lines left output now → Closes now ended → TurnsEnd frames s live left output lines.unmet ended
closes frames None s live w lines left output ended h is = subst (TurnsEnd frames s live left output lines.unmet) (sym is) (record {
  last = h.last;
  ends = (h.came, record { runs = h.runs; rest = h.at.lines.rest }, all frames h.frames);
  live = h.at.live;
  output = h.at.output;
  expects = λ is. h.at.lines.unmet;
})
  where
    all : (f : Option ℕ) → FramesLeft f (length (payloads_of h.came)) None → AreAll f h.came
    all None is = tt
    all (Some m) is = absurd is
closes frames (Some n) s live w lines left output ended h is =
    subst (TurnsEnd frames s live left output lines.unmet) (sym is) (stops frames (Some n) s live w lines left output Silence h)

-- a call of the wire was a fault
pub frame_cut : (frames now : Option ℕ) (s : RunState) (live next : LiveState) (w v : WireState) (lines : LinesState) (left : Option (List ℕ)) (output : OutputState) (trouble : Trouble) (unmet : ℕ)
    → HasCome frames s live w lines left output now → MeetsFault live next w v → TurnsEnd frames s next left output unmet (Err (refusal.Socket trouble))
frame_cut frames now s live next w v lines left output trouble unmet h (inl (same, carried, fault)) = record {
  last = record h.last { wire = v };
  ends = (
    h.came,
    h.last,
    record { runs = h.runs; rest = h.at.lines.rest },
    inr (inl (record {
      carried = subst (λ (x : WireState). Carries x v [] []) (sym h.at.wire) carried;
      fault = subst (λ (x : WireState). is_fault x v ≡ true) (sym h.at.wire) fault;
      is = refl;
    })),
  );
  live = h.at.live ∙ sym same;
  output = h.at.output;
  expects = λ is. let bad : false ≡ true = is in cc;
}
frame_cut frames now s live next w v lines left output trouble unmet h (inr lost) = record {
  last = record h.last { live = next; wire = v };
  ends = (
    h.came,
    h.last,
    record { runs = h.runs; rest = h.at.lines.rest },
    inr (inr (record {
      payload = lost.payload;
      answer = lost.answer;
      carried = subst (λ (x : WireState). Carries x v [] (lost.payload ∷ [])) (sym h.at.wire) lost.carried;
      fault = subst (λ (x : WireState). is_fault x v ≡ true) (sym h.at.wire) lost.fault;
      meets = subst (λ (x : LiveState). Meets x lost.payload next (lost.answer ∷ [])) (sym h.at.live) lost.meets;
      is = refl;
    })),
  );
  live = refl;
  output = h.at.output;
  expects = λ is. let bad : false ≡ true = is in cc;
}

-- a line was cut short
pub line_cut : (frames now : Option ℕ) (s : RunState) (live next : LiveState) (w : WireState) (lines : LinesState) (old new : Option (List ℕ)) (before after : OutputState) (x : Refusal) (unmet : ℕ)
    → HasCome frames s live w lines old before now → TakesPart old new → ((t : RunState) → t.live ≡ live → t.output ≡ before → FitsLines t lines old → ObeysCut t next after x)
    → TurnsEnd frames s next new after unmet (Err x)
line_cut frames now s live next w lines old new before after x unmet h taken cuts = by (cuts h.last h.at.live h.at.output h.at.lines)
  where
    by : ObeysCut h.last next after x → TurnsEnd frames s next new after unmet (Err x)
    by (t, cut, a, b) = record {
      last = t;
      ends = (h.came, h.last, record { runs = h.runs; rest = taken_more h.last.left old new h.at.lines.rest taken }, cut);
      live = a;
      output = b;
      expects = λ is. let bad : false ≡ true = is in cc;
    }

-- ---- the counts are printed

-- they are those of the run's last state
prints_last : (t : RunState) (live : LiveState) (before after : OutputState) → t.live ≡ live → t.output ≡ before → IsPrinted before after (served_line live.answered live.refused)
    → IsPrinted t.output after (served_line t.live.answered t.live.refused)
prints_last t live before after a b h =
    subst (λ (o : OutputState). IsPrinted o after (served_line t.live.answered t.live.refused)) (sym b)
    (subst (λ (l : LiveState). IsPrinted before after (served_line l.answered l.refused)) (sym a) h)

cut_last : (t : RunState) (live : LiveState) (before after : OutputState) → t.live ≡ live → t.output ≡ before → IsCutOff before after (served_line live.answered live.refused)
    → IsCutOff t.output after (served_line t.live.answered t.live.refused)
cut_last t live before after a b h =
    subst (λ (o : OutputState). IsCutOff o after (served_line t.live.answered t.live.refused)) (sym b)
    (subst (λ (l : LiveState). IsCutOff before after (served_line l.answered l.refused)) (sym a) h)

by_count : (b : Bool) (r : Result Unit Refusal) (frames : Option ℕ) (s : RunState) (left : Option (List ℕ)) (new : OutputState) (count unmet : ℕ) → (count == 0) ≡ b → r ≡ ended_by count → count ≡ counted unmet
    → RunsOut frames s left new unmet → LivesOn frames s left new r
by_count true r frames s left new count unmet is ended counts out =
    let none : count ≡ 0 = grind (arith, nat_tests) in
    let zero : unmet ≡ 0 = omega arith in
    let end : ended_by count ≡ Ok tt = rw is refl in
    subst (LivesOn frames s left new) (sym (ended ∙ end)) (subst (RunsOut frames s left new) zero out)
by_count false r frames s left new count unmet is ended counts out =
    let more : 0 < count = grind (arith, nat_tests) in
    let some : 0 < unmet = omega arith in
    let end : ended_by count ≡ Err (refusal.Unmet count) = rw is refl in
    subst (LivesOn frames s left new) (sym (ended ∙ end)) (inl (unmet, some, ap refusal.Unmet counts, out))

-- the run came to its end
pub lives_out : (r ended : Result Unit Refusal) (frames : Option ℕ) (s : RunState) (left : Option (List ℕ)) (live : LiveState) (before after : OutputState) (count : ℕ) → ended ≡ Ok tt
    → TurnsEnd frames s live left before count ended → IsPrinted before after (served_line live.answered live.refused) → r ≡ ended_by count → LivesOn frames s left after r
lives_out r ended frames s left live before after count is h prints end =
    by_count (count == 0) r frames s left after count h.last.unmet refl end (h.expects (rw is refl)) (record {
      last = h.last;
      ends = subst (EndsTurns frames s h.last left) is h.ends;
      expects = refl;
      prints = prints_last h.last live before after h.live h.output prints;
    })

-- or was cut short
pub lives_short : (r ended : Result Unit Refusal) (x : Refusal) (frames : Option ℕ) (s : RunState) (left : Option (List ℕ)) (live : LiveState) (before after : OutputState) (count : ℕ)
    → IsErrAnd r (λ e. e ≡ x) → ended ≡ Err x → TurnsEnd frames s live left before count ended → IsPrinted before after (served_line live.answered live.refused) → LivesOn frames s left after r
lives_short r ended x frames s left live before after count passed is h prints = passed_on (LivesOn frames s left after) r x passed (inr (inl (record {
  last = h.last;
  ends = subst (EndsTurns frames s h.last left) is h.ends;
  prints = prints_last h.last live before after h.live h.output prints;
})))

-- or they can't be printed as a whole
pub lives_unprinted : (r ended : Result Unit Refusal) (x : Refusal) (frames : Option ℕ) (s : RunState) (left : Option (List ℕ)) (live : LiveState) (before after : OutputState) (count : ℕ)
    → IsErrAnd r (λ e. e ≡ x) → x ≡ refusal.Output → TurnsEnd frames s live left before count ended → IsCutOff before after (served_line live.answered live.refused) → LivesOn frames s left after r
lives_unprinted r ended x frames s left live before after count passed is h prints = passed_on (LivesOn frames s left after) r x passed (inr (inr (record {
  last = h.last;
  ended = ended;
  ends = h.ends;
  refused = is;
  prints = cut_last h.last live before after h.live h.output prints;
})))

-- nothing came yet
unserved : (frames : Option ℕ) (s : RunState) (trouble : Trouble) → TurnsEnd frames s s.live s.left s.output 0 (Err (refusal.Socket trouble))
unserved frames s trouble = record {
  last = s;
  ends = ([], s, record { runs = refl; rest = none_taken s.left }, inl refl);
  live = refl;
  output = refl;
  expects = λ is. let bad : false ≡ true = is in cc;
}

pub lives_unserved : (r : Result Unit Refusal) (trouble : Trouble) (frames : Option ℕ) (s : RunState) (after : OutputState) → IsErrAnd r (λ e. e ≡ refusal.Socket trouble)
    → IsPrinted s.output after (served_line s.live.answered s.live.refused) → LivesOn frames s s.left after r
lives_unserved r trouble frames s after passed prints =
    lives_short r (Err (refusal.Socket trouble)) (refusal.Socket trouble) frames s s.left s.live s.output after 0 passed refl (unserved frames s trouble) prints

pub unserved_unprinted : (r : Result Unit Refusal) (x : Refusal) (frames : Option ℕ) (s : RunState) (after : OutputState) → IsErrAnd r (λ e. e ≡ x) → x ≡ refusal.Output
    → IsCutOff s.output after (served_line s.live.answered s.live.refused) → LivesOn frames s s.left after r
unserved_unprinted r x frames s after passed is prints =
    lives_unprinted r (Err (refusal.Socket Silence)) x frames s s.left s.live s.output after 0 passed is (unserved frames s Silence) prints

-- ---- the whole

-- where a run begins
pub begins : (live : LiveState) (wire : WireState) (left : Option (List ℕ)) (output : OutputState) (l : LinesState) → l ≡ lines_of [] empty_draft 0 0 true → IsAt (begun live wire left output) live wire l left output
begins live wire left output l is = subst (λ (x : LinesState). IsAt (begun live wire left output) live wire x left output) (sym is) (record {
  live = refl;
  wire = refl;
  output = refl;
  lines = record { draft = refl; number = refl; unmet = refl; rest = none_taken left; part = λ still. none_so_far left max_kept [] refl };
})

-- ---- texts

pub served_same : (a b c d : ℕ) → a ≡ c → b ≡ d → served_line a b ≡ served_line c d
served_same a b c d x y = ap (λ (n : ℕ). served_line n b) x ∙ ap (served_line c) y
