-- What lines can print and expect of a world.
use Rattle.ec_start.specs.Running.{outcome_of}
use Rattle.ec_world.specs.World.{WorldState}
use Rattle.ec_script.specs.Views.{ViewState}

-- its start-up, its master, the report of the last closed cycle, and the byte that an application read last
abbrev pub view_of : WorldState → ViewState
view_of w = record { outcome = outcome_of w.start.phase; report = w.report; master = w.master; byte = w.got }
