-- Tasks that a target obeys one after another, and what they print.
use Rattle.std.proofs.Common.{◌≡◌, ◌∙◌, ℕ, zero, suc, ◌+◌, ◌-◌, ◌^◌, ◌<◌, ◌≤◌, List, [], ◌∷◌, ◌++◌, length, get_or, map, take, drop, min, replicate, Bor, Bool, true, false, refl, sym, ap, subst, append_assoc, append-nil, arith, if◌then◌else◌}
use Rattle.std.specs.List.{flat_map}
use Rattle.std.proofs.lemmas.List.{drop_all, replicate-append-replicate, take-append-drop, take_more}
use Rattle.std.proofs.lemmas.List.Concat.{flat_map-append}
use Rattle.ec_script.specs.declared.line.Line.{Line}
use Rattle.ec_script.specs.declared.line.Step.{Step}
use Rattle.ec_script.specs.declared.line.Task.{Task}
use Rattle.ec_script.specs.declared.line.Task.TheVariants as task
use Rattle.ec_script.specs.Scripts.{repeated, rounds}
use Rattle.ec_console.specs.Printing.{IsPartPrinted, IsPrinted, OutputState}
use Rattle.ec_text.specs.PlanText.{newline}
use Rattle.ec_console.specs.Saying.{PrintsAll, PrintsPart, Says, SaysTask}
use Rattle.ec_console.specs.Unmet.{counted, unmet_of}
use Rattle.ec_console.proofs.PrintLemmas.{texts}

-- ---- counts and first lines

pub sum_counted : (a b c d : ℕ) → c ≡ counted a → d ≡ counted b → min (c + d) (2 ^ 64 - 1) ≡ counted (a + b)
sum_counted a b c d h g = omega arith

pub where_true : (b : Bool) (x m n : ℕ) → b ≡ true → x ≡ m → x ≡ (if b then m else n)
where_true true x m n is e = e
where_true false x m n is e = absurd (let f : false ≡ true = is in cc)

pub where_false : (b : Bool) (x m n : ℕ) → b ≡ false → x ≡ n → x ≡ (if b then m else n)
where_false false x m n is e = e
where_false true x m n is e = absurd (let f : true ≡ false = is in cc)

take-lines : (before lines : List Task) (k : ℕ) → take (length before + k) (before ++ lines) ≡ before ++ take k lines
take-lines [] lines k = let e : 0 + k ≡ k = omega arith in rw e refl
take-lines (x ∷ xs) lines k = let e : length (x ∷ xs) + k ≡ suc (length xs + k) = omega arith in rw e (ap (λ rest. x ∷ rest) (take-lines xs lines k))

some_take : (xs ys : List Task) (n : ℕ) → (m : ℕ) × (take m (xs ++ ys) ≡ take n xs)
some_take [] ys zero = (0, refl)
some_take [] ys (suc n) = (0, refl)
some_take (x ∷ xs) ys zero = (0, refl)
some_take (x ∷ xs) ys (suc n) = let r = some_take xs ys n in (suc r.0, ap (λ rest. x ∷ rest) r.1)

-- rounds one after another, and one alone
rounds_split : (i n : ℕ) (tasks : List Task) → rounds (i + n) tasks ≡ rounds i tasks ++ rounds n tasks
rounds_split i n tasks =
    ap (λ (rs : List (List Task)). flat_map (λ (ts : List Task). ts) rs) (sym (replicate-append-replicate i n tasks)) ∙ flat_map-append (λ (ts : List Task). ts) (replicate i tasks) (replicate n tasks)

rounds_one : (tasks : List Task) → rounds 1 tasks ≡ tasks
rounds_one tasks = append-nil tasks

-- a round more, before or behind the others
rounds_first : (n : ℕ) (tasks : List Task) → rounds (1 + n) tasks ≡ tasks ++ rounds n tasks
rounds_first n tasks = rounds_split 1 n tasks ∙ ap (λ (ts : List Task). ts ++ rounds n tasks) (rounds_one tasks)

rounds_last : (n : ℕ) (tasks : List Task) → rounds (n + 1) tasks ≡ rounds n tasks ++ tasks
rounds_last n tasks = rounds_split n 1 tasks ∙ ap (λ (ts : List Task). rounds n tasks ++ ts) (rounds_one tasks)

repeated-append : (xs ys : List Line) → repeated (xs ++ ys) ≡ repeated xs ++ repeated ys
unfolding repeated
repeated-append [] ys = refl
repeated-append (x ∷ xs) ys = ap (λ ls. rounds x.times x.tasks ++ ls) (repeated-append xs ys) ∙ sym (append_assoc (rounds x.times x.tasks) (repeated xs) (repeated ys))

repeated_one : (line : Line) → repeated (line ∷ []) ≡ rounds line.times line.tasks
unfolding repeated
repeated_one line = append-nil (rounds line.times line.tasks)

repeated_none : repeated [] ≡ []
unfolding repeated
repeated_none = refl

repeated_more : (lines : List Line) (line : Line) → repeated (lines ++ (line ∷ [])) ≡ repeated lines ++ rounds line.times line.tasks
repeated_more lines line = repeated-append lines (line ∷ []) ∙ ap (λ ts. repeated lines ++ ts) (repeated_one line)

repeated_around : (before : List Line) (line : Line) (behind : List Line) → repeated (before ++ (line ∷ behind)) ≡ repeated before ++ (rounds line.times line.tasks ++ repeated behind)
unfolding repeated
repeated_around before line behind = repeated-append before (line ∷ behind)

-- lines that are taken one after another
abbrev pub lines_of : List (Bor Line) → List Line
lines_of taken = map (λ x. x.now) taken

pub lines_more : (taken : List (Bor Line)) (line : Bor Line) → lines_of (taken ++ (line ∷ [])) ≡ lines_of taken ++ (line.now ∷ [])
lines_more [] line = refl
lines_more (x ∷ xs) line = ap (λ ls. x.now ∷ ls) (lines_more xs line)

-- tasks were done, and are printed
pub record HasSaid {S : Type 0} (one : S → Step → S → List ℕ → ℕ → Type 0) (s : S) (tasks : List Task) (now : S) (count : ℕ) (old new : OutputState) : Type 0 where
  pub unmet : ℕ
  pub counts : count ≡ counted unmet
  pub printed : PrintsAll one s tasks now unmet old new

module _ {S : Type 0} (one : S → Step → S → List ℕ → ℕ → Type 0) where
  -- ---- lines one after another

  says_one : (s new : S) (line : Task) (text : List ℕ) (unmet : ℕ) → SaysTask one s line new text unmet → Says one s (line ∷ []) new text unmet
  says_one s new line text unmet h = (new, text, [], unmet, 0, h, (refl, refl, refl), sym (append-nil text), omega arith)

  pub says_join : (s mid new : S) (xs ys : List Task) (p q : List ℕ) (a b : ℕ) → Says one s xs mid p a → Says one mid ys new q b → Says one s (xs ++ ys) new (p ++ q) (a + b)
  says_join s mid new [] ys p q a b h g =
      let base : Says one s ys new q b = subst (λ (v : S). Says one v ys new q b) h.0 g in
      let text : q ≡ p ++ q = sym (ap (λ (r : List ℕ). r ++ q) h.1) in
      let none : a ≡ 0 = h.2 in
      let count : b ≡ a + b = omega arith in
      subst (λ (n : ℕ). Says one s ys new (p ++ q) n) count (subst (λ (r : List ℕ). Says one s ys new r b) text base)
  says_join s mid new (x ∷ xs) ys p q a b (next, text, more, first, rest, line, says, printed, unmet) g = (
    next,
    text,
    more ++ q,
    first,
    rest + b,
    line,
    says_join next mid new xs ys more q rest b says g,
    ap (λ (r : List ℕ). r ++ q) printed ∙ append_assoc text more q,
    omega arith,
  )

  prints_none : (s : S) (old : OutputState) → PrintsAll one s [] s 0 old old
  prints_none s old = record { printed = []; says = (refl, refl, refl); appends = texts.none old }

  prints_join : (s mid new : S) (xs ys : List Task) (a b : ℕ) (old half whole : OutputState) → PrintsAll one s xs mid a old half → PrintsAll one mid ys new b half whole → PrintsAll one s (xs ++ ys) new (a + b) old whole
  prints_join s mid new xs ys a b old half whole h g = record {
    printed = h.printed ++ g.printed;
    says = says_join s mid new xs ys h.printed g.printed a b h.says g.says;
    appends = texts.both old half whole h.printed g.printed h.appends g.appends;
  }

  -- ---- a first part

  -- of some first lines it is one of all
  part_more : (s last : S) (xs ys : List Task) (old new : OutputState) → PrintsPart one s xs last old new → PrintsPart one s (xs ++ ys) last old new
  part_more s last xs ys old new h =
      let r = some_take xs ys h.count in
      record { count = r.0; printed = h.printed; unmet = h.unmet; says = subst (λ (ls : List Task). Says one s ls last h.printed h.unmet) (sym r.1) h.says; appends = h.appends }

  -- behind lines that are printed whole
  part_behind : (s mid last : S) (xs ys : List Task) (a : ℕ) (old half new : OutputState) → PrintsAll one s xs mid a old half → PrintsPart one mid ys last half new → PrintsPart one s (xs ++ ys) last old new
  part_behind s mid last xs ys a old half new h g = record {
    count = length xs + g.count;
    printed = h.printed ++ g.printed;
    unmet = a + g.unmet;
    says = subst (λ (ls : List Task). Says one s ls last (h.printed ++ g.printed) (a + g.unmet)) (sym (take-lines xs ys g.count)) (says_join s mid last xs (take g.count ys) h.printed g.printed a g.unmet h.says g.says);
    appends = texts.part old half new h.printed g.printed h.appends g.appends;
  }

  -- a task whose text is cut
  pub part_one : (s mid : S) (line : Task) (text printed : List ℕ) (unmet : ℕ) (old new : OutputState) → SaysTask one s line mid text unmet → printed ≡ text → IsPartPrinted old new printed → PrintsPart one s (line ∷ []) mid old new
  part_one s mid line text printed unmet old new h is part =
      record { count = 1; printed = text; unmet = unmet; says = says_one s mid line text unmet h; appends = subst (λ (r : List ℕ). IsPartPrinted old new r) is part }

  -- a step that was done without memory for its text
  pub part_unsaid : (s mid : S) (step : Step) (old : OutputState) → (text : List ℕ) × (unmet : ℕ) × one s step mid text unmet → PrintsPart one s (task.Step step ∷ []) mid old old
  part_unsaid s mid step old (text, unmet, h) = part_one s mid (task.Step step) text text unmet old old h refl (0, (texts.none old).bytes)

  -- a task that is printed whole
  pub one_all : (s mid : S) (line : Task) (text printed : List ℕ) (unmet : ℕ) (old new : OutputState) → SaysTask one s line mid text unmet → printed ≡ text → IsPrinted old new printed → PrintsAll one s (line ∷ []) mid unmet old new
  one_all s mid line text printed unmet old new h is appends =
      record { printed = text; says = says_one s mid line text unmet h; appends = subst (λ (r : List ℕ). IsPrinted old new r) is appends }

  -- a text that is printed whole, or cut
  pub echo_all : (s : S) (t : Task) (text : List ℕ) (old new : OutputState) → t ≡ task.Echo text → IsPrinted old new (text ++ newline) → PrintsAll one s (t ∷ []) s (unmet_of false) old new
  echo_all s t text old new is appends =
      subst (λ (x : Task). PrintsAll one s (x ∷ []) s (unmet_of false) old new) (sym is) (one_all s s (task.Echo text) (text ++ newline) (text ++ newline) 0 old new (refl, refl, refl) refl appends)

  pub echo_part : (s : S) (t : Task) (text : List ℕ) (old new : OutputState) → t ≡ task.Echo text → IsPartPrinted old new (text ++ newline) → PrintsPart one s (t ∷ []) s old new
  echo_part s t text old new is part =
      subst (λ (x : Task). PrintsPart one s (x ∷ []) s old new) (sym is) (part_one s s (task.Echo text) (text ++ newline) (text ++ newline) 0 old new (refl, refl, refl) refl part)

  -- ---- tasks so far

  pub none_done : (s : S) (old : OutputState) → HasSaid one s [] s 0 old old
  none_done s old = record { unmet = 0; counts = refl; printed = prints_none s old }

  -- further ones
  said_on : (s : S) (xs ys : List Task) (now new : S) (count more total : ℕ) (old half whole : OutputState) → HasSaid one s xs now count old half
      → (unmet : ℕ) × (more ≡ counted unmet) × PrintsAll one now ys new unmet half whole → total ≡ min (count + more) (2 ^ 64 - 1) → HasSaid one s (xs ++ ys) new total old whole
  said_on s xs ys now new count more total old half whole h (unmet, counts, printed) is = record {
    unmet = h.unmet + unmet;
    counts = is ∙ sum_counted h.unmet unmet count more h.counts counts;
    printed = prints_join s now new xs ys h.unmet unmet old half whole h.printed printed;
  }

  pub task_more : (s : S) (tasks : List Task) (i : ℕ) (d : Task) (now new : S) (count total : ℕ) (b : Bool) (old half whole : OutputState) → HasSaid one s (take i tasks) now count old half
      → i < length tasks → PrintsAll one now (get_or tasks i d ∷ []) new (unmet_of b) half whole → total ≡ (if b then min (count + 1) (2 ^ 64 - 1) else count)
      → HasSaid one s (take (i + 1) tasks) new total old whole
  task_more s tasks i d now new count total b old half whole h lt last is =
      subst (λ (ts : List Task). HasSaid one s ts new total old whole) (sym (take_more tasks i d lt)) (record {
        unmet = h.unmet + unmet_of b;
        counts = is ∙ more b;
        printed = prints_join s now new (take i tasks) (get_or tasks i d ∷ []) h.unmet (unmet_of b) old half whole h.printed last;
      })
    where
      more : (c : Bool) → (if c then min (count + 1) (2 ^ 64 - 1) else count) ≡ counted (h.unmet + unmet_of c)
      more true = let e : count ≡ counted h.unmet = h.counts in omega arith
      more false = let e : count ≡ counted h.unmet = h.counts in let z : h.unmet + 0 ≡ h.unmet = omega arith in omega arith

  pub task_part : (s : S) (tasks : List Task) (i : ℕ) (d : Task) (now : S) (count : ℕ) (last : S) (old half whole : OutputState) → HasSaid one s (take i tasks) now count old half → i < length tasks
      → PrintsPart one now (get_or tasks i d ∷ []) last half whole → PrintsPart one s tasks last old whole
  task_part s tasks i d now count last old half whole h lt part =
      subst (λ (ts : List Task). PrintsPart one s ts last old whole) (take-append-drop (i + 1) tasks)
      (part_more s last (take (i + 1) tasks) (drop (i + 1) tasks) old whole
      (subst (λ (ts : List Task). PrintsPart one s ts last old whole) (sym (take_more tasks i d lt))
      (part_behind s now last (take i tasks) (get_or tasks i d ∷ []) h.unmet old half whole h.printed part)))

  pub tasks_all : (s : S) (tasks : List Task) (i : ℕ) (now : S) (count : ℕ) (old new : OutputState) → HasSaid one s (take i tasks) now count old new → length tasks ≤ i
      → (unmet : ℕ) × (count ≡ counted unmet) × PrintsAll one s tasks now unmet old new
  tasks_all s tasks i now count old new h le =
      let whole : take i tasks ≡ tasks = sym (append-nil (take i tasks)) ∙ (ap (λ (ts : List Task). take i tasks ++ ts) (sym (drop_all i tasks le)) ∙ take-append-drop i tasks) in
      (h.unmet, h.counts, subst (λ (ts : List Task). PrintsAll one s ts now h.unmet old new) whole h.printed)

  -- ---- tasks as often as they are done

  pub no_round : (s : S) (tasks : List Task) (old : OutputState) → HasSaid one s (rounds 0 tasks) s 0 old old
  no_round s tasks old = none_done s old

  pub round_more : (s : S) (tasks : List Task) (i : ℕ) (now new : S) (count more total : ℕ) (old half whole : OutputState) → HasSaid one s (rounds i tasks) now count old half
      → (unmet : ℕ) × (more ≡ counted unmet) × PrintsAll one now tasks new unmet half whole → total ≡ min (count + more) (2 ^ 64 - 1) → HasSaid one s (rounds (i + 1) tasks) new total old whole
  round_more s tasks i now new count more total old half whole h printed is =
      subst (λ (ts : List Task). HasSaid one s ts new total old whole) (sym (rounds_last i tasks))
      (said_on s (rounds i tasks) tasks now new count more total old half whole h printed is)

  pub round_part : (s : S) (tasks : List Task) (i n : ℕ) (now : S) (count : ℕ) (last : S) (old half whole : OutputState) → HasSaid one s (rounds i tasks) now count old half → i < n
      → PrintsPart one now tasks last half whole → PrintsPart one s (rounds n tasks) last old whole
  round_part s tasks i n now count last old half whole h lt part =
      let left : n - i ≡ 1 + (n - (i + 1)) = omega arith in
      let all : n ≡ i + (n - i) = omega arith in
      let ahead : PrintsPart one now (rounds (n - i) tasks) last half whole =
      subst (λ (ts : List Task). PrintsPart one now ts last half whole) (sym (ap (λ (k : ℕ). rounds k tasks) left ∙ rounds_first (n - (i + 1)) tasks))
      (part_more now last tasks (rounds (n - (i + 1)) tasks) half whole part) in
      subst (λ (ts : List Task). PrintsPart one s ts last old whole) (sym (ap (λ (k : ℕ). rounds k tasks) all ∙ rounds_split i (n - i) tasks))
      (part_behind s now last (rounds i tasks) (rounds (n - i) tasks) h.unmet old half whole h.printed ahead)

  pub rounds_all : (s : S) (tasks : List Task) (n i : ℕ) (now : S) (count : ℕ) (old new : OutputState) → HasSaid one s (rounds i tasks) now count old new → i ≡ n
      → (unmet : ℕ) × (count ≡ counted unmet) × PrintsAll one s (rounds n tasks) now unmet old new
  rounds_all s tasks n i now count old new h is = (h.unmet, h.counts, subst (λ (k : ℕ). PrintsAll one s (rounds k tasks) now h.unmet old new) is h.printed)

  -- ---- the lines of a script, each as often as it is done

  pub none_said : (s : S) (old : OutputState) → HasSaid one s (repeated []) s 0 old old
  none_said s old = subst (λ (ts : List Task). HasSaid one s ts s 0 old old) (sym repeated_none) (none_done s old)

  pub said_more : (s : S) (lines : List Line) (line : Line) (now new : S) (count more total : ℕ) (old half whole : OutputState) → HasSaid one s (repeated lines) now count old half
      → (unmet : ℕ) × (more ≡ counted unmet) × PrintsAll one now (rounds line.times line.tasks) new unmet half whole
      → total ≡ min (count + more) (2 ^ 64 - 1) → HasSaid one s (repeated (lines ++ (line ∷ []))) new total old whole
  said_more s lines line now new count more total old half whole h printed is =
      subst (λ (ts : List Task). HasSaid one s ts new total old whole) (sym (repeated_more lines line))
      (said_on s (repeated lines) (rounds line.times line.tasks) now new count more total old half whole h printed is)

  pub said_part : (s : S) (lines before : List Line) (line : Line) (behind : List Line) (now : S) (count : ℕ) (last : S) (old half whole : OutputState) → HasSaid one s (repeated before) now count old half
      → before ++ (line ∷ behind) ≡ lines → PrintsPart one now (rounds line.times line.tasks) last half whole → PrintsPart one s (repeated lines) last old whole
  said_part s lines before line behind now count last old half whole h is part =
      subst (λ (ts : List Task). PrintsPart one s ts last old whole) (sym (repeated_around before line behind) ∙ ap repeated is)
      (part_behind s now last (repeated before) (rounds line.times line.tasks ++ repeated behind) h.unmet old half whole h.printed
      (part_more now last (rounds line.times line.tasks) (repeated behind) half whole part))

  pub all_said : (s : S) (lines done : List Line) (now : S) (count : ℕ) (old new : OutputState) → HasSaid one s (repeated done) now count old new → done ≡ lines
      → (unmet : ℕ) × (count ≡ counted unmet) × PrintsAll one s (repeated lines) now unmet old new
  all_said s lines done now count old new h is = (h.unmet, h.counts, subst (λ (ls : List Line). PrintsAll one s (repeated ls) now h.unmet old new) is h.printed)
