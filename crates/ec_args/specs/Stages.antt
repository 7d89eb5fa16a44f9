-- What private code finds for the arguments of one command, and what it builds.
use Rattle.std.specs.Prelude.{◌≡◌, List, [], false, Result, IfOk}
use Rattle.std.specs.declared.alloc.AllocError.{AllocError}
use Rattle.clap.specs.Simple.{App, Shape, app_of}
use Rattle.clap.specs.Walk.{Row, Rule, Text, rule_of}
use Rattle.clap.specs.declared.builder.arg.Arg.{Arg}
use Rattle.clap.specs.declared.builder.command.Command.{Command as Builder}
use Rattle.clap.specs.declared.builder.command.Command.TheViews.{out-Command as fields_of}
use Rattle.ec_args.specs.Requests.{Command, Finds, command_of, word_of}
use Rattle.ec_args.specs.declared.request.Request.{Request}

-- a command of this word is asked for, with what is found for its arguments
abbrev pub IsAskedAs : Text → List Row → Request → Type 0
IsAskedAs word rows request = (word_of (command_of request) ≡ word) × Finds rows (command_of request)

-- no command of this word finds all that it needs
abbrev pub IsNeverAsked : Text → List Row → Type 0
IsNeverAsked word rows = (command : Command) → word_of command ≡ word → Finds rows command → ⊥

-- an argument of `clap` has this rule, and is one of its command alone
pub record IsArgument (argument : Arg) (rule : Rule) : Type 0 where
  pub said : rule_of argument ≡ rule
  pub local : argument.global ≡ false

-- what was made is this command, none of whose arguments is one of its subcommands too; or memory ran out
pub record IsMadeAs (made : Result Builder AllocError) (app : App) : Type 0 where
  pub said : IfOk made (λ command. app_of command ≡ app)
  pub local : IfOk made (λ command. (fields_of command).has_globals ≡ false)

-- a command without subcommands
abbrev pub alone : Shape → App
alone shape = record { top = shape; subs = [] }
