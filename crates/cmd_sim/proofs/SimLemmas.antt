-- What a line does to a segment that is watched, and how a run of lines over it ends.
use Rattle.std.proofs.Common.{◌≡◌, ◌∙◌, ℕ, List, [], ◌∷◌, ◌++◌, take, Bool, true, false, Option, refl, sym, ap, subst, append-nil, Result, Ok, Err, IfErr, IfOk, OnErr}
use Rattle.std.specs.Result.{IsErrAnd}
use Rattle.ec_table.specs.Contents.{Contents}
use Rattle.ec_world.specs.declared.event.Event.{Event}
use Rattle.ec_world.specs.Whole.{IsOfMachine}
use Rattle.ec_world.specs.World.{WorldState}
use Rattle.ec_diagnostic.specs.Reason.{IsReason}
use Rattle.ec_script.specs.declared.line.Line.{Line}
use Rattle.ec_script.specs.declared.line.Step.{Step}
use Rattle.ec_script.specs.declared.line.Task.{Task}
use Rattle.ec_script.specs.declared.line.Task.TheVariants as task
use Rattle.ec_script.specs.declared.output.LineOutput.{LineOutput}
use Rattle.ec_start.specs.Running.{outcome_of}
use Rattle.ec_script.specs.Outputs.{answer_of, is_counted, is_done}
use Rattle.ec_script.specs.Scripts.{repeated}
use Rattle.ec_script.specs.Texts.{output_text}
use Rattle.ec_simulation.specs.Events.{RunsLine}
use Rattle.ec_simulation.specs.Observing.{Observes}
use Rattle.ec_simulation.specs.Statuses.{statuses}
use Rattle.ec_simulation.specs.Views.{view_of}
use Rattle.ec_simulation.specs.Work.{Does}
use Rattle.ec_simulation.proofs.Seeing.{observes_none, observes_then}
use Rattle.ec_console.specs.declared.refusal.Refusal.{Refusal}
use Rattle.ec_console.specs.declared.wanted.Manner.{Manner}
use Rattle.ec_console.specs.Coming.{ComesOut, ComesPart}
use Rattle.ec_console.specs.Given.{Given}
use Rattle.ec_console.specs.Printing.{OutputState}
use Rattle.ec_console.specs.Reasons.{ReasonIf}
use Rattle.ec_console.specs.Saying.{IsLate, PrintsAll, PrintsPart, Says, SaysTask}
use Rattle.ec_console.specs.Unmet.{counted, ended_by, unmet_of}
use Rattle.ec_console.proofs.EndLemmas.{run_cut, run_ended}
use Rattle.ec_console.proofs.MapLemmas.{come_part_mapped, out_mapped, part_mapped, prints_mapped}
use Rattle.ec_console.proofs.ReasonLemmas.{some_why}
use Rattle.cmd_sim.specs.Simulating.{IsLineText, LivesAll, LivesPart, RunsAll, RunsLines, RunsLive, RunsPart, SaysLine, Simulated, Simulates, is_reasoned, line_read}

-- ---- a line and why it says `no`

pub line_alone : (manner : Manner) (t : Contents) (n : ℕ) (w : WorldState) (said : LineOutput) (text : List ℕ) → is_reasoned manner said ≡ false → text ≡ output_text t n (view_of w) (statuses w) said
    → IsLineText manner t n w said text
line_alone manner t n w said text none is = ([], subst (λ (b : Bool). ReasonIf b []) (sym none) refl, is ∙ sym (append-nil (output_text t n (view_of w) (statuses w) said)))

pub line_reasoned : (manner : Manner) (t : Contents) (n : ℕ) (w : WorldState) (said : LineOutput) (before why text : List ℕ) → is_reasoned manner said ≡ true
    → before ≡ output_text t n (view_of w) (statuses w) said → IsReason why → text ≡ before ++ why → IsLineText manner t n w said text
line_reasoned manner t n w said before why text told first reason is = (why, subst (λ (b : Bool). ReasonIf b why) (sym told) reason, is ∙ ap (λ (r : List ℕ). r ++ why) first)

-- ---- a line

-- a segment, by its parts
abbrev pub simulated : {S : Type 0} → WorldState → S → Contents → Manner → Simulated S
simulated {S} w b t manner = record { world = w; watcher = b; table = t; manner = manner }

-- what a line prints, and why, by these parts
pub alone_in : {S : Type 0} (w : WorldState) (b : S) (t : Contents) (manner : Manner) (s : Simulated S) (n : ℕ) (said : LineOutput) (text : List ℕ) → simulated w b t manner ≡ s → is_reasoned manner said ≡ false
    → text ≡ output_text t n (view_of w) (statuses w) said → IsLineText s.manner s.table n s.world said text
alone_in {S} w b t manner s n said text is none prints = subst (λ (x : Simulated S). IsLineText x.manner x.table n x.world said text) is (line_alone manner t n w said text none prints)

pub reasoned_in : {S : Type 0} (w : WorldState) (b : S) (t : Contents) (manner : Manner) (s : Simulated S) (n : ℕ) (said : LineOutput) (before why text : List ℕ) → simulated w b t manner ≡ s → is_reasoned manner said ≡ true
    → before ≡ output_text t n (view_of w) (statuses w) said → IsReason why → text ≡ before ++ why → IsLineText s.manner s.table n s.world said text
reasoned_in {S} w b t manner s n said before why text is told first reason prints =
    subst (λ (x : Simulated S). IsLineText x.manner x.table n x.world said text) is (line_reasoned manner t n w said before why text told first reason prints)

-- a line is done once, by what it does to the world and the watcher, and its text
pub obeyed : {S : Type 0} (observed : S → WorldState → Event → WorldState → S → Type 0) (w : WorldState) (b : S) (t : Contents) (manner : Manner) (s : Simulated S) (line : Step) (v : WorldState) (d : S) (said : LineOutput) (text : List ℕ) (unmet : ℕ)
    → simulated w b t manner ≡ s → Does line.action w v said → RunsLine line.action w v (is_done said) → v.plan ≡ w.plan → Observes observed b w v d → IsLineText manner t line.number v (answer_of line.expects_no said) text
    → unmet ≡ unmet_of (is_counted manner.strict (outcome_of v.start.phase) (answer_of line.expects_no said))
    → Simulates observed s line (simulated v d t manner) text unmet
obeyed {S} observed w b t manner s line v d said text unmet is does run plan sees (why, reason, told) count =
    subst (λ (x : Simulated S). Simulates observed x line (simulated v d t manner) text unmet) is (record {
      says = record { said = said; does = does; run = run; why = why; reason = reason; text = told; count = count };
      sees = sees;
      plan = plan;
      table = refl;
      manner = refl;
    })

-- without memory for its text it is done too
pub obeyed_unsaid : {S : Type 0} (observed : S → WorldState → Event → WorldState → S → Type 0) (w : WorldState) (b : S) (t : Contents) (manner : Manner) (s : Simulated S) (line : Step) (v : WorldState) (d : S) (said : LineOutput)
    → simulated w b t manner ≡ s → Does line.action w v said → RunsLine line.action w v (is_done said) → v.plan ≡ w.plan → Observes observed b w v d
    → (text : List ℕ) × (unmet : ℕ) × Simulates observed s line (simulated v d t manner) text unmet
obeyed_unsaid observed w b t manner s line v d said is does run plan sees =
    let answer : LineOutput = answer_of line.expects_no said in
    let why = some_why (is_reasoned manner answer) in
    let text : List ℕ = output_text t line.number (view_of v) (statuses v) answer ++ why.0 in
    let unmet : ℕ = unmet_of (is_counted manner.strict (outcome_of v.start.phase) answer) in
    (text, unmet, obeyed observed w b t manner s line v d said text unmet is does run plan sees (why.0, why.1, refl) refl)

-- ---- lines, told of the world alone

-- the table and the reasons stay the same
abbrev IsSame : {S : Type 0} → Simulated S → Simulated S → Type 0
IsSame {S} a b = (b.table ≡ a.table) × (b.manner ≡ a.manner)

module _ {S : Type 0} (observed : S → WorldState → Event → WorldState → S → Type 0) where
  each_line : (a b : Simulated S) (line : Step) (c : Simulated S) (text : List ℕ) (unmet : ℕ) → IsSame a b → Simulates observed b line c text unmet
      → SaysLine a.manner a.table b.world line c.world text unmet × IsSame a c
  each_line a b line c text unmet k h = (
    subst (λ (r : Manner). SaysLine r a.table b.world line c.world text unmet) k.1 (subst (λ (t : Contents). SaysLine b.manner t b.world line c.world text unmet) k.0 h.says),
    (h.table ∙ k.0, h.manner ∙ k.1),
  )

  pub all_over : (r : Result ℕ Refusal) (a b : Simulated S) (lines : List Task) (old new : OutputState)
      → IfOk r (λ count. (unmet : ℕ) × (count ≡ counted unmet) × PrintsAll (Simulates observed) a lines b unmet old new)
      → IfOk r (λ count. (unmet : ℕ) × (count ≡ counted unmet) × PrintsAll (SaysLine a.manner a.table) a.world lines b.world unmet old new)
  all_over (Ok count) a b lines old new (unmet, counts, all) =
      (unmet, counts, prints_mapped (λ (s : Simulated S). s.world) (IsSame a) (Simulates observed) (SaysLine a.manner a.table) (each_line a) a lines b unmet old new (refl, refl) all)
  all_over (Err e) a b lines old new all = tt

  pub part_over : (r : Result ℕ Refusal) (a b : Simulated S) (lines : List Task) (old new : OutputState) → OnErr r (PrintsPart (Simulates observed) a lines b old new)
      → OnErr r (PrintsPart (SaysLine a.manner a.table) a.world lines b.world old new)
  part_over (Ok count) a b lines old new part = tt
  part_over (Err e) a b lines old new part = part_mapped (λ (s : Simulated S). s.world) (IsSame a) (Simulates observed) (SaysLine a.manner a.table) (each_line a) a lines b old new (refl, refl) part

  pub out_over : (r : Result ℕ Refusal) (a b : Simulated S) (given : Option (List ℕ)) (old new : OutputState)
      → IfOk r (λ count. (unmet : ℕ) × (count ≡ counted unmet) × ComesOut (Simulates observed) (λ (s : Simulated S). s.manner) (line_read a.table) a given b unmet old new)
      → IfOk r (λ count. (unmet : ℕ) × (count ≡ counted unmet) × ComesOut (SaysLine a.manner a.table) (λ (v : WorldState). a.manner) (line_read a.table) a.world given b.world unmet old new)
  out_over (Ok count) a b given old new (unmet, counts, all) = (
    unmet,
    counts,
    out_mapped (λ (s : Simulated S). s.world) (IsSame a) (Simulates observed) (SaysLine a.manner a.table) (each_line a) (λ (s : Simulated S). s.manner) (λ (v : WorldState). a.manner) (λ (s : Simulated S) (same : IsSame a s). same.1) (line_read a.table) a given b unmet old new (refl, refl) all,
  )
  out_over (Err e) a b given old new all = tt

  pub come_over : (r : Result ℕ Refusal) (a b : Simulated S) (given : Option (List ℕ)) (old new : OutputState) → OnErr r (ComesPart (Simulates observed) (λ (s : Simulated S). s.manner) (line_read a.table) a given b old new)
      → OnErr r (ComesPart (SaysLine a.manner a.table) (λ (v : WorldState). a.manner) (line_read a.table) a.world given b.world old new)
  come_over (Ok count) a b given old new part = tt
  come_over (Err e) a b given old new part =
      come_part_mapped (λ (s : Simulated S). s.world) (IsSame a) (Simulates observed) (SaysLine a.manner a.table) (each_line a) (λ (s : Simulated S). s.manner) (λ (v : WorldState). a.manner)
      (λ (s : Simulated S) (same : IsSame a s). same.1) (line_read a.table) a given b old new (refl, refl) part

  -- ---- what the watcher sees

  task_seen : (t : Task) (a b : Simulated S) (text : List ℕ) (unmet : ℕ) → SaysTask (Simulates observed) a t b text unmet → Observes observed a.watcher a.world b.world b.watcher
  task_seen (task.Step step) a b text unmet h = h.sees
  task_seen (task.Echo said) a b text unmet h = subst (λ (s : Simulated S). Observes observed a.watcher a.world s.world s.watcher) (sym h.0) (observes_none observed a.watcher a.world)

  lines_seen : (lines : List Task) (a b : Simulated S) (printed : List ℕ) (unmet : ℕ) → Says (Simulates observed) a lines b printed unmet → Observes observed a.watcher a.world b.world b.watcher
  lines_seen [] a b printed unmet h = subst (λ (s : Simulated S). Observes observed a.watcher a.world s.world s.watcher) (sym h.0) (observes_none observed a.watcher a.world)
  lines_seen (line ∷ lines) a b printed unmet (mid, text, more, first, rest, done, says, is, count) =
      observes_then observed a.watcher mid.watcher b.watcher a.world mid.world b.world (task_seen line a mid text first done) (lines_seen lines mid b more rest says)

  -- also of lines that are cut short
  pub run_seen : (r : Result ℕ Refusal) (a b : Simulated S) (lines : List Task) (old new : OutputState)
      → IfOk r (λ count. (unmet : ℕ) × (count ≡ counted unmet) × PrintsAll (Simulates observed) a lines b unmet old new) → OnErr r (PrintsPart (Simulates observed) a lines b old new)
      → Observes observed a.watcher a.world b.world b.watcher
  run_seen (Ok count) a b lines old new (unmet, counts, all) part = lines_seen lines a b all.printed unmet all.says
  run_seen (Err e) a b lines old new all part = lines_seen (take part.count lines) a b part.printed part.unmet part.says

-- ---- a segment that another watcher may see

module _ {S : Type 0} (d : S) where
  pub all_last : (r : Result ℕ Refusal) (s : Simulated S) (manner : Manner) (t : Contents) (w last : WorldState) (lines : List Task) (old new : OutputState) → s ≡ simulated w d t manner
      → IfOk r (λ count. (unmet : ℕ) × (count ≡ counted unmet) × PrintsAll (SaysLine s.manner s.table) s.world lines last unmet old new)
      → IfOk r (λ count. (unmet : ℕ) × (count ≡ counted unmet) × (v : WorldState) × PrintsAll (SaysLine manner t) w lines v unmet old new)
  all_last (Ok count) s manner t w last lines old new is (unmet, counts, all) =
      (unmet, counts, last, subst (λ (x : Simulated S). PrintsAll (SaysLine x.manner x.table) x.world lines last unmet old new) is all)
  all_last (Err e) s manner t w last lines old new is all = tt

  pub part_last : (r : Result ℕ Refusal) (s : Simulated S) (manner : Manner) (t : Contents) (w last : WorldState) (lines : List Task) (old new : OutputState) → s ≡ simulated w d t manner
      → OnErr r (PrintsPart (SaysLine s.manner s.table) s.world lines last old new) → OnErr r ((v : WorldState) × PrintsPart (SaysLine manner t) w lines v old new)
  part_last (Ok count) s manner t w last lines old new is part = tt
  part_last (Err e) s manner t w last lines old new is part = (last, subst (λ (x : Simulated S). PrintsPart (SaysLine x.manner x.table) x.world lines last old new) is part)

  pub out_last : (r : Result ℕ Refusal) (s : Simulated S) (manner : Manner) (t : Contents) (w last : WorldState) (given : Option (List ℕ)) (old new : OutputState) → s ≡ simulated w d t manner
      → IfOk r (λ count. (unmet : ℕ) × (count ≡ counted unmet) × ComesOut (SaysLine s.manner s.table) (λ (v : WorldState). s.manner) (line_read s.table) s.world given last unmet old new)
      → IfOk r (λ count. (unmet : ℕ) × (count ≡ counted unmet) × (v : WorldState) × ComesOut (SaysLine manner t) (λ (v : WorldState). manner) (line_read t) w given v unmet old new)
  out_last (Ok count) s manner t w last given old new is (unmet, counts, all) =
      (unmet, counts, last, subst (λ (x : Simulated S). ComesOut (SaysLine x.manner x.table) (λ (v : WorldState). x.manner) (line_read x.table) x.world given last unmet old new) is all)
  out_last (Err e) s manner t w last given old new is all = tt

  pub come_last : (r : Result ℕ Refusal) (s : Simulated S) (manner : Manner) (t : Contents) (w last : WorldState) (given : Option (List ℕ)) (old new : OutputState) → s ≡ simulated w d t manner
      → OnErr r (ComesPart (SaysLine s.manner s.table) (λ (v : WorldState). s.manner) (line_read s.table) s.world given last old new) → OnErr r ((v : WorldState) × ComesPart (SaysLine manner t) (λ (v : WorldState). manner) (line_read t) w given v old new)
  come_last (Ok count) s manner t w last given old new is part = tt
  come_last (Err e) s manner t w last given old new is part = (last, subst (λ (x : Simulated S). ComesPart (SaysLine x.manner x.table) (λ (v : WorldState). x.manner) (line_read x.table) x.world given last old new) is part)

-- ---- how a run ends

module _ {S : Type 0} (b : S) where
  pub script_ran : (r : Result Unit Refusal) (old new : OutputState) (manner : Manner) (t : Contents) (w : WorldState) (s : Simulated S) (lines : List Line) (count : ℕ)
      → s ≡ simulated w b t manner → IsOfMachine t w → r ≡ ended_by count
      → (unmet : ℕ) × (count ≡ counted unmet) × (last : WorldState) × PrintsAll (SaysLine s.manner s.table) s.world (repeated lines) last unmet old new → RunsLines manner t lines old new r
  script_ran r old new manner t w s lines count of_it begins is (unmet, counts, last, all) =
      let here : PrintsAll (SaysLine manner t) w (repeated lines) last unmet old new =
      subst (λ (x : Simulated S). PrintsAll (SaysLine x.manner x.table) x.world (repeated lines) last unmet old new) of_it all in
      run_ended r (RunsAll manner t lines old new) (RunsPart manner t lines old new) false old new count is (unmet, counts, (w, begins, last, here))

  pub script_cut : (r : Result Unit Refusal) (printed : Result ℕ Refusal) (e : Refusal) (old new : OutputState) (manner : Manner) (t : Contents) (w : WorldState) (s : Simulated S) (lines : List Line)
      → s ≡ simulated w b t manner → IsOfMachine t w → printed ≡ Err e
      → OnErr printed ((last : WorldState) × PrintsPart (SaysLine s.manner s.table) s.world (repeated lines) last old new) → IfErr printed (IsLate false new) → IsErrAnd r (λ x. x ≡ e)
      → RunsLines manner t lines old new r
  script_cut r printed e old new manner t w s lines of_it begins is some late same =
      run_cut r printed e (RunsAll manner t lines old new) (RunsPart manner t lines old new) ((last : WorldState) × PrintsPart (SaysLine s.manner s.table) s.world (repeated lines) last old new) false old new is some late
      (λ part. (w, begins, part.0, subst (λ (x : Simulated S). PrintsPart (SaysLine x.manner x.table) x.world (repeated lines) part.0 old new) of_it part.1)) same

  pub live_ran : (r : Result Unit Refusal) (given : Given) (old new : OutputState) (manner : Manner) (t : Contents) (w : WorldState) (s : Simulated S) (count : ℕ)
      → s ≡ simulated w b t manner → IsOfMachine t w → r ≡ ended_by count
      → (unmet : ℕ) × (count ≡ counted unmet) × (last : WorldState) × ComesOut (SaysLine s.manner s.table) (λ (v : WorldState). s.manner) (line_read s.table) s.world given.bytes last unmet old new → RunsLive manner t given old new r
  live_ran r given old new manner t w s count of_it begins is (unmet, counts, last, all) =
      let here : ComesOut (SaysLine manner t) (λ (v : WorldState). manner) (line_read t) w given.bytes last unmet old new =
      subst (λ (x : Simulated S). ComesOut (SaysLine x.manner x.table) (λ (v : WorldState). x.manner) (line_read x.table) x.world given.bytes last unmet old new) of_it all in
      run_ended r (LivesAll manner t given.bytes old new) (LivesPart manner t given.bytes old new) given.is_refused old new count is (unmet, counts, (w, begins, last, here))

  pub live_cut : (r : Result Unit Refusal) (printed : Result ℕ Refusal) (e : Refusal) (given : Given) (old new : OutputState) (manner : Manner) (t : Contents) (w : WorldState) (s : Simulated S)
      → s ≡ simulated w b t manner → IsOfMachine t w → printed ≡ Err e
      → OnErr printed ((last : WorldState) × ComesPart (SaysLine s.manner s.table) (λ (v : WorldState). s.manner) (line_read s.table) s.world given.bytes last old new) → IfErr printed (IsLate given.is_refused new) → IsErrAnd r (λ x. x ≡ e)
      → RunsLive manner t given old new r
  live_cut r printed e given old new manner t w s of_it begins is some late same =
      run_cut r printed e (LivesAll manner t given.bytes old new) (LivesPart manner t given.bytes old new) ((last : WorldState) × ComesPart (SaysLine s.manner s.table) (λ (v : WorldState). s.manner) (line_read s.table) s.world given.bytes last old new)
      given.is_refused old new is some late
      (λ part. (w, begins, part.0, subst (λ (x : Simulated S). ComesPart (SaysLine x.manner x.table) (λ (v : WorldState). x.manner) (line_read x.table) x.world given.bytes part.0 old new) of_it part.1)) same
