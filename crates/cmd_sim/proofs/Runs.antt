-- Lines that are done as they come do what a script of them does.
use Rattle.std.proofs.Common.{◌≡◌, ◌∙◌, ℕ, ◌+◌, List, [], ◌∷◌, ◌++◌, refl, ap, append_assoc, subst, sym}
use Rattle.ec_table.specs.Contents.{Contents}
use Rattle.ec_world.specs.World.{WorldState}
use Rattle.ec_script.specs.declared.line.Line.{Line}
use Rattle.ec_script.specs.declared.line.Task.{Task}
use Rattle.ec_script.specs.declared.line.Task.TheVariants as task
use Rattle.ec_script.specs.declared.draft.Due.{Due}
use Rattle.ec_script.specs.declared.draft.Due.TheVariants as due
use Rattle.ec_script.specs.Drafts.{lines_due}
use Rattle.ec_script.specs.Scripts.{repeated, rounds}
use Rattle.ec_simulation.specs.Events.{DoesAll, DoesTask}
use Rattle.ec_simulation.proofs.Running.{scripts_run}
use Rattle.ec_console.specs.declared.wanted.Manner.{Manner}
use Rattle.ec_console.specs.Coming.{SaysDue, come}
use Rattle.ec_console.specs.Saying.{Says, SaysTask}
use Rattle.cmd_sim.specs.Simulating.{SaysLine, line_read}
use Rattle.cmd_sim.specs.Laws.{LivesAreScripts, LivesRun, live_lines}

task_done : (manner : Manner) (t : Contents) (w : WorldState) (x : Task) (new : WorldState) (printed : List ℕ) (unmet : ℕ) → SaysTask (SaysLine manner t) w x new printed unmet → DoesTask x w new
task_done manner t w (task.Step step) new printed unmet h = (h.said, h.does)
task_done manner t w (task.Echo text) new printed unmet h = h.0

says_done : (manner : Manner) (t : Contents) (w : WorldState) (lines : List Task) (new : WorldState) (printed : List ℕ) (unmet : ℕ) → Says (SaysLine manner t) w lines new printed unmet → DoesAll lines w new
says_done manner t w [] new printed unmet h = h.0
says_done manner t w (line ∷ lines) new printed unmet (mid, text, more, one, rest, said, says, is, count) = (mid, task_done manner t w line mid text one said, says_done manner t mid lines new more rest says)

does_append : (xs ys : List Task) (a b c : WorldState) → DoesAll xs a b → DoesAll ys b c → DoesAll (xs ++ ys) a c
does_append [] ys a b c first rest = subst (λ (w : WorldState). DoesAll ys w c) first rest
does_append (x ∷ xs) ys a b c (mid, does, more) rest = (mid, does, does_append xs ys mid b c more rest)

repeated_both : (xs ys : List Line) → repeated (xs ++ ys) ≡ repeated xs ++ repeated ys
unfolding repeated
repeated_both [] ys = refl
repeated_both (x ∷ xs) ys = ap (λ ts. rounds x.times x.tasks ++ ts) (repeated_both xs ys) ∙ sym (append_assoc (rounds x.times x.tasks) (repeated xs) (repeated ys))

-- what is due, and the lines that follow
due_done : (manner : Manner) (t : Contents) (w mid new : WorldState) (d : Due) (text : List ℕ) (one : ℕ) (lines : List Line) → SaysDue (SaysLine manner t) manner w d mid text one → DoesAll (repeated lines) mid new
    → DoesAll (repeated (lines_due d ++ lines)) w new
due_done manner t w mid new (due.Bad n) text one lines said rest = subst (λ (v : WorldState). DoesAll (repeated lines) v new) said.0 rest
due_done manner t w mid new (due.Lines now) text one lines said rest =
    subst (λ (ts : List Task). DoesAll ts w new) (sym (repeated_both now lines))
    (does_append (repeated now) (repeated lines) w mid new (says_done manner t w (repeated now) mid text one said) rest)

pub lives_are_scripts : LivesAreScripts
unfolding repeated
lives_are_scripts manner t d w n [] new printed unmet h = h.0
lives_are_scripts manner t d w n (line ∷ lines) new printed unmet (mid, text, more, one, rest, said, lives, is, count) =
    due_done manner t w mid new (come (line_read t) d n line).1 text one (live_lines t (come (line_read t) d n line).0 (n + 1) lines) said
    (lives_are_scripts manner t (come (line_read t) d n line).0 mid (n + 1) lines new more rest lives)

pub lives_run : LivesRun
lives_run manner t d w n lines new printed unmet h = scripts_run (live_lines t d n lines) w new (lives_are_scripts manner t d w n lines new printed unmet h)
