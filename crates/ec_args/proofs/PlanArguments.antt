-- What `clap` makes of the arguments of `ecat plan`, spelled out.
use Rattle.std.proofs.Common.{◌≡◌, Bool, true, false, List, [], ◌∷◌, Some, None, codes, refl}
use Rattle.clap.specs.Faults.{fault_of}
use Rattle.clap.specs.Walk.{Row, Text}
use Rattle.clap.specs.Simple.{subcommand_of}
use Rattle.clap.specs.declared.builder.value_parser.Reading.TheVariants.{AsWritten}
use Rattle.clap.specs.declared.parser.matches.ValueSource.TheVariants.{CommandLine, DefaultValue}
use Rattle.clap.proofs.OnLiterals.{clap_on_literals}
use Rattle.ec_args.specs.CommandLine.{ecat}

-- what `clap` finds for a flag that is given, and for one that isn't
abbrev pub given_row : Text → Row
given_row name = record { id = name; values = codes "true" ∷ []; count = None; source = Some CommandLine; reading = AsWritten }

abbrev pub absent_row : Text → Row
absent_row name = record { id = name; values = codes "false" ∷ []; count = None; source = Some DefaultValue; reading = AsWritten }

-- what it finds for the arguments, those that are given first
abbrev pub plan_rows : Bool → List Row
plan_rows true = given_row (codes "explain") ∷ absent_row (codes "header") ∷ absent_row (codes "terse") ∷ []
plan_rows false = absent_row (codes "header") ∷ absent_row (codes "explain") ∷ absent_row (codes "terse") ∷ []

pub plan-met : (name : Text) → subcommand_of ecat (name ∷ codes "plan" ∷ []) ≡ Some (codes "plan", plan_rows false)
unfolding clap_on_literals
plan-met name = refl

pub explain-met : (name : Text) → subcommand_of ecat (name ∷ codes "plan" ∷ codes "--explain" ∷ []) ≡ Some (codes "plan", plan_rows true)
unfolding clap_on_literals
explain-met name = refl

pub plan-no_fault : (name : Text) → fault_of ecat (name ∷ codes "plan" ∷ []) ≡ []
unfolding clap_on_literals
plan-no_fault name = refl

pub explain-no_fault : (name : Text) → fault_of ecat (name ∷ codes "plan" ∷ codes "--explain" ∷ []) ≡ []
unfolding clap_on_literals
explain-no_fault name = refl
