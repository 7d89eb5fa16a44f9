-- What reasons change, and that lines that are done as they come do to the world what a script of them does (this project's profile).
use Rattle.std.specs.Prelude.{ℕ, ◌+◌, List, [], ◌∷◌, ◌++◌, length}
use Rattle.ec_table.specs.Contents.{Contents}
use Rattle.ec_world.specs.declared.event.Event.{Event}
use Rattle.ec_world.specs.Laws.{IsRun}
use Rattle.ec_world.specs.World.{WorldState}
use Rattle.ec_script.specs.declared.line.Line.{Line}
use Rattle.ec_script.specs.Drafts.{DraftState, lines_due}
use Rattle.ec_script.specs.Scripts.{repeated}
use Rattle.ec_simulation.specs.Events.{DoesAll}
use Rattle.ec_console.specs.declared.wanted.Manner.{Manner}
use Rattle.ec_console.specs.Coming.{ComingOnlyAdds, SaysFrom, come}
use Rattle.ec_console.specs.Reasons.{OnlyAdds, unexplained}
use Rattle.cmd_sim.specs.Simulating.{SaysLine, line_read}

-- With reasons, lines leave the world that they leave without, and are unmet as often. They print the same but for the reasons. So do
-- lines that come, bad ones among them.
abbrev pub ReasonsOnlyAdd : Type 0
ReasonsOnlyAdd = (manner : Manner) (t : Contents) → OnlyAdds (SaysLine manner t) (SaysLine (unexplained manner) t) × ComingOnlyAdds (SaysLine manner t) (SaysLine (unexplained manner) t) (λ v. manner)

-- the lines that come behind a draft and are done, those of a block once it is whole; the first has number n
abbrev pub live_lines : Contents → DraftState → ℕ → List (List ℕ) → List Line
live_lines t d n [] = []
live_lines t d n (line ∷ lines) = lines_due (come (line_read t) d n line).1 ++ live_lines t (come (line_read t) d n line).0 (n + 1) lines

-- The world behind lines is the one that a script of them leaves. Lines that stand for nothing are left out, and reasons make no
-- difference.
abbrev pub LivesAreScripts : Type 0
LivesAreScripts = (manner : Manner) (t : Contents) (d : DraftState) (w : WorldState) (n : ℕ) (lines : List (List ℕ)) (new : WorldState) (printed : List ℕ) (unmet : ℕ)
    → SaysFrom (SaysLine manner t) (λ v. manner) (line_read t) d w n lines new printed unmet → DoesAll (repeated (live_lines t d n lines)) w new

-- A run of events leads to that world.
abbrev pub LivesRun : Type 0
LivesRun = (manner : Manner) (t : Contents) (d : DraftState) (w : WorldState) (n : ℕ) (lines : List (List ℕ)) (new : WorldState) (printed : List ℕ) (unmet : ℕ)
    → SaysFrom (SaysLine manner t) (λ v. manner) (line_read t) d w n lines new printed unmet → (events : List Event) × IsRun w events new (length events)
