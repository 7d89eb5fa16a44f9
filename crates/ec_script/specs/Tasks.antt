-- What the words of a line stand for (this project's profile). A line is single actions, one after another, or a text.
use Rattle.std.specs.Prelude.{ℕ, ◌^◌, ◌&&◌, not, List, [], ◌∷◌, ◌++◌, map, nat_lt, Bool, true, false, if◌then◌else◌, Option, Some, None, option_map, slice_get, codes}
use Rattle.std.specs.List.{find}
use Rattle.std.specs.Str.{bytes_eq}
use Rattle.ec_link.specs.LinkRuns.{is_out}
use Rattle.ec_table.specs.Contents.{Contents}
use Rattle.ec_table.specs.declared.rows.VariableRow.{VariableRow}
use Rattle.ec_script.specs.declared.line.LineAction.{LineAction}
use Rattle.ec_script.specs.declared.line.LineAction.TheVariants.{Expect, Set, Within}
use Rattle.ec_script.specs.declared.line.Task.{Task}
use Rattle.ec_script.specs.declared.line.Task.TheVariants as task
use Rattle.ec_script.specs.Actions.{action_of_words}
use Rattle.ec_script.specs.Operands.{◌>>=◌}
use Rattle.ec_script.specs.Words.{Text, times_of}

-- ---- several names

-- the action of a verb for each of these names
abbrev pub each_name : Contents → Text → List Text → Option (List LineAction)
each_name t verb [] = Some []
each_name t verb (name ∷ names) = action_of_words t (verb ∷ name ∷ []) >>= (λ a. each_name t verb names >>= (λ more. Some (a ∷ more)))

-- a `set` for each name and the value behind it
unfoldable pub each_setting : Contents → List Text → Option (List LineAction)
each_setting t [] = Some []
each_setting t (name ∷ []) = None
each_setting t (name ∷ value ∷ words) = action_of_words t (codes "set" ∷ name ∷ value ∷ []) >>= (λ a. each_setting t words >>= (λ more. Some (a ∷ more)))

-- an output variable whose bits hold the value
abbrev pub has_room : ℕ → Option VariableRow → Bool
has_room x None = false
has_room x (Some row) = is_out row.direction && nat_lt x (2 ^ row.bits)

-- no setting that can be done
abbrev pub is_unsettable : List VariableRow → LineAction → Bool
is_unsettable variables (Set v x) = not (has_room x (slice_get variables v))
is_unsettable variables action = true

abbrev pub alone_or : List LineAction → Option LineAction → List LineAction
alone_or actions None = actions
alone_or actions (Some action) = action ∷ []

-- settings are all done, or none: the first that can't be done stands alone
abbrev pub all_or_one : List VariableRow → List LineAction → List LineAction
all_or_one variables actions = alone_or actions (find (is_unsettable variables) actions)

-- ---- waiting

-- cycles until what an action expects holds
abbrev pub within_if : ℕ → LineAction → Option LineAction
within_if n (Expect e) = Some (Within n e)
within_if n action = None

-- behind `within` stand a number and the words of an expectation
abbrev pub within_of : Contents → List Text → Option LineAction
within_of t [] = None
within_of t (count ∷ words) = times_of count >>= (λ n. action_of_words t words >>= within_if n)

-- ---- actions

abbrev pub alone : Option LineAction → Option (List LineAction)
alone action = option_map (λ a. a ∷ []) action

-- a line of one action
abbrev pub single_of : Contents → List Text → Option LineAction
single_of t [] = None
single_of t (verb ∷ words) = if bytes_eq verb (codes "within") then within_of t words else action_of_words t (verb ∷ words)

-- `set`, `show` and `out` may have several names
abbrev pub actions_of : Contents → List Text → Option (List LineAction)
actions_of t [] = None
actions_of t (verb ∷ []) = alone (single_of t (verb ∷ []))
actions_of t (verb ∷ word ∷ words) =
    if bytes_eq verb (codes "set") then option_map (all_or_one t.variables) (each_setting t (word ∷ words)) else
    (if bytes_eq verb (codes "show") then each_name t verb (word ∷ words) else
    (if bytes_eq verb (codes "out") then each_name t verb (word ∷ words) else alone (single_of t (verb ∷ word ∷ words))))

-- ---- tasks

-- an action of line n, which may be expected to be refused
abbrev pub step : ℕ → Bool → LineAction → Task
step n expects_no action = task.Step (record { number = n; action = action; expects_no = expects_no })

abbrev pub steps_if : ℕ → Bool → Option (List LineAction) → Option (List Task)
steps_if n expects_no actions = option_map (map (step n expects_no)) actions

-- the words of the line that `expect no` expects to be refused
abbrev pub denied_words : List Text → Option (List Text)
denied_words [] = None
denied_words (verb ∷ []) = None
denied_words (verb ∷ second ∷ words) = if bytes_eq verb (codes "expect") && bytes_eq second (codes "no") then Some words else None

abbrev pub steps_of : Contents → ℕ → List Text → Option (List Text) → Option (List Task)
steps_of t n words None = steps_if n false (actions_of t words)
steps_of t n words (Some line) = steps_if n true (actions_of t line)

-- each word with a blank before it
abbrev pub blanked : List Text → Text
blanked [] = []
blanked (word ∷ words) = 32 ∷ (word ++ blanked words)

-- the text behind `echo`: its words, with a blank between them
abbrev pub echoed : List Text → Text
echoed [] = []
echoed (word ∷ words) = word ++ blanked words

-- what the words of line n ask for
abbrev pub tasks_of : Contents → ℕ → List Text → Option (List Task)
tasks_of t n [] = None
tasks_of t n (verb ∷ words) = if bytes_eq verb (codes "echo") then Some (task.Echo (echoed words) ∷ []) else steps_of t n (verb ∷ words) (denied_words (verb ∷ words))
