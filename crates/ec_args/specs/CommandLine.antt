-- The command line of `ecat` in the terms of `clap` (this project's profile).
use Rattle.std.specs.Prelude.{ℕ, true, pos, [], ◌∷◌, Some, codes}
use Rattle.clap.specs.Walk.{Rule, Text}
use Rattle.clap.specs.Simple.{App, Shape, new_app, new_rule, on_top, with_rule, with_subcommand}
use Rattle.clap.specs.declared.builder.action.ArgAction.TheVariants.{Set, SetTrue}
use Rattle.clap.specs.declared.builder.value_parser.ValueParser.TheVariants.{Signed}

-- ---- the arguments that the commands take

-- `--NAME`, a flag
abbrev pub flag_rule : Text → Rule
flag_rule name = record (new_rule name) { long = Some name; action = Some SetTrue }

-- `--NAME N`, a number from the least to the most
abbrev pub number_rule : Text → ℕ → ℕ → Rule
number_rule name least most = record (new_rule name) {
  long = Some name;
  action = Some Set;
  value_names = 1;
  parser = Some (Signed (pos least) (pos most));
}

-- an argument that must be given, and one with this text if it isn't given
abbrev pub needed : Rule → Rule
needed rule = record rule { required = true }

abbrev pub or_else : Text → Rule → Rule
or_else text rule = record rule { defaults = text ∷ [] }

-- `--NAME TEXT`, any text
abbrev pub text_rule : Text → Rule
text_rule name = record (new_rule name) { long = Some name; action = Some Set; value_names = 1 }

-- how many slaves a ring has
abbrev pub slaves_rule : Rule
slaves_rule = needed (number_rule (codes "slaves") 0 64)

-- `HEX`, any text
abbrev pub frame_rule : Rule
frame_rule = record (new_rule (codes "frame")) { required = true; action = Some Set; value_names = 1 }

-- whether more is explained, for people
abbrev pub explain_rule : Rule
explain_rule = flag_rule (codes "explain")

-- whether a line that can't be done counts as unmet
abbrev pub strict_rule : Rule
strict_rule = flag_rule (codes "strict")

-- whether a C header is printed instead of a plan
abbrev pub header_rule : Rule
header_rule = flag_rule (codes "header")

-- what the names of the header begin with
abbrev pub prefix_rule : Rule
prefix_rule = text_rule (codes "prefix")

-- whether lines are run as they come
abbrev pub live_rule : Rule
live_rule = flag_rule (codes "live")

-- the file of a capture
abbrev pub capture_rule : Rule
capture_rule = text_rule (codes "capture")

-- the file of a link table
abbrev pub table_rule : Rule
table_rule = text_rule (codes "table")

-- the file of an input, and of the lines behind a table; each may be left out
abbrev pub file_rule : Text → Rule
file_rule name = record (new_rule name) { action = Some Set; value_names = 1 }

abbrev pub input_rule : Rule
input_rule = file_rule (codes "input")

abbrev pub lines_rule : Rule
lines_rule = file_rule (codes "lines")

-- whether no refusal is explained
abbrev pub terse_rule : Rule
terse_rule = flag_rule (codes "terse")

-- a command that reads an input
abbrev pub with_input : App → App
with_input app = with_rule (with_rule app input_rule) terse_rule

-- how many cycles are run
abbrev pub cycles_rule : Rule
cycles_rule = needed (number_rule (codes "cycles") 0 1000)

-- how many payloads are received
abbrev pub frames_rule : Rule
frames_rule = number_rule (codes "frames") 0 4294967295

-- the address that a segment listens on; without it, that of the machine itself
abbrev pub bind_rule : Rule
bind_rule = or_else (codes "127.0.0.1") (text_rule (codes "bind"))

-- a port; without it, EtherCAT's
abbrev pub port_rule : Rule
port_rule = or_else (codes "34980") (number_rule (codes "port") 1 65535)

-- the descriptor of a socket that is open already
abbrev pub descriptor_rule : Rule
descriptor_rule = number_rule (codes "descriptor") 0 1023

-- whether the slaves are as usual masters expect them
abbrev pub full_rule : Rule
full_rule = flag_rule (codes "full")

-- how many seconds a segment waits for a payload, a day at most; without it, a minute
abbrev pub idle_rule : Rule
idle_rule = or_else (codes "60") (number_rule (codes "idle") 0 86400)

-- the address and the port of a segment; without it, where `ecat segment` answers on the same machine
abbrev pub to_rule : Rule
to_rule = or_else (codes "127.0.0.1:34980") (text_rule (codes "to"))

-- how many milliseconds a master waits for an answer, a minute at most; without it, half a second
abbrev pub patience_rule : Rule
patience_rule = or_else (codes "500") (number_rule (codes "patience") 1 60000)

-- the file of the table that a scan is compared with
abbrev pub against_rule : Rule
against_rule = text_rule (codes "against")

-- ---- the commands

abbrev pub pass_shape : Shape
pass_shape = (with_rule (with_rule (new_app (codes "pass")) slaves_rule) frame_rule).top

abbrev pub plan_shape : Shape
plan_shape = (with_input (with_rule (with_rule (with_rule (new_app (codes "plan")) header_rule) prefix_rule) explain_rule)).top

abbrev pub decode_shape : Shape
decode_shape = (with_input (with_rule (with_rule (new_app (codes "decode")) table_rule) explain_rule)).top

abbrev pub encode_shape : Shape
encode_shape = (with_input (new_app (codes "encode"))).top

-- how a script runs
abbrev pub running : App
running = with_rule (with_rule (new_app (codes "sim")) live_rule) capture_rule

abbrev pub sim_shape : Shape
sim_shape = (with_rule (with_input (with_rule (with_rule running strict_rule) explain_rule)) lines_rule).top

-- how many cycles run, and the capture of them
abbrev pub turning : App
turning = with_rule (with_rule (new_app (codes "loop")) cycles_rule) capture_rule

abbrev pub loop_shape : Shape
loop_shape = (with_input (with_rule turning explain_rule)).top

-- which payloads a segment is to answer, on what, and as which slaves
abbrev pub listening : App
listening = with_rule (with_rule (with_rule (new_app (codes "segment")) frames_rule) bind_rule) port_rule

abbrev pub showing : App
showing = with_rule (with_rule (with_rule listening descriptor_rule) full_rule) live_rule

abbrev pub waiting : App
waiting = with_rule (with_rule showing idle_rule) capture_rule

abbrev pub segment_shape : Shape
segment_shape = (with_input (with_rule (with_rule waiting strict_rule) explain_rule)).top

-- which segment a master speaks with, how long it waits for answers, and its capture
abbrev pub reaching : App
reaching = with_rule (with_rule (new_app (codes "master")) to_rule) descriptor_rule

abbrev pub asking : App
asking = with_rule (with_rule reaching patience_rule) capture_rule

abbrev pub master_shape : Shape
master_shape = (with_rule (with_input (with_rule (with_rule asking strict_rule) explain_rule)) lines_rule).top

-- which segment is scanned, how long a scan waits for answers, the table that it is compared with, and its capture
abbrev pub scanning : App
scanning = with_rule (with_rule (new_app (codes "scan")) to_rule) descriptor_rule

abbrev pub comparing : App
comparing = with_rule (with_rule scanning patience_rule) against_rule

abbrev pub scan_shape : Shape
scan_shape = (with_rule (with_rule (with_rule comparing capture_rule) explain_rule) terse_rule).top

-- `ecat` and its commands, one of which must be given; it also has a version. First those that simulate nothing but a pass,
abbrev pub planning : App
planning =
    with_subcommand
    (with_subcommand (on_top (λ s. record s { has_version = true; subcommand_required = true }) (new_app (codes "ecat"))) pass_shape)
    plan_shape

-- then those that print frames as text, and back,
abbrev pub telling : App
telling = with_subcommand (with_subcommand planning decode_shape) encode_shape

-- those that run cycles,
abbrev pub cycling : App
cycling = with_subcommand (with_subcommand telling sim_shape) loop_shape

-- and those that are one end of a wire: a segment, which answers a master elsewhere, a master, and a scan
abbrev pub ending : App
ending = with_subcommand (with_subcommand cycling segment_shape) master_shape

abbrev pub ecat : App
ecat = with_subcommand ending scan_shape
