-- What the arguments of `ecat` ask for (this project's profile).
use Rattle.std.specs.Prelude.{◌≡◌, ◌≢◌, ◌⊎◌, ℕ, ◌<◌, ◌≤◌, ◌^◌, Bool, true, false, if◌then◌else◌, List, [], ◌∷◌, slice_index, Option, None, Some, option_map, Result, Ok, Err, MatchResult, alloc_error, codes, decimal}
use Rattle.std.specs.declared.alloc.AllocError.{AllocError}
use Rattle.std.specs.declared.alloc.Global.{Global}
use Rattle.std.specs.declared.string.String.{String}
use Rattle.std.specs.Str.{bytes_eq}
use Rattle.std.specs.Str.Parse.{IsNumeral, digits_value, without_leading_plus}
use Rattle.clap.specs.Walk.{Row, Text, first_of, one_of}
use Rattle.clap.specs.Simple.{subcommand_of}
use Rattle.clap.specs.Faults.{fault_of}
use Rattle.clap.specs.Kinds.{IsAmong}
use Rattle.clap.specs.declared.error.kind.ErrorKind.{ErrorKind}
use Rattle.clap.specs.declared.error.kind.ErrorKind.TheVariants.{DisplayHelp, DisplayVersion, MissingSubcommand, OutOfMemory}
use Rattle.ec_args.specs.CommandLine.{ecat}
use Rattle.ec_args.specs.declared.request.Notice.{Notice}
use Rattle.ec_args.specs.declared.request.Notice.TheVariants.{Memory, Help, Usage}
use Rattle.ec_args.specs.declared.request.Arguments.{Arguments}
use Rattle.ec_args.specs.declared.request.Inputs.{Inputs}
use Rattle.ec_args.specs.declared.request.Request.{Request}
use Rattle.ec_args.specs.declared.request.SegmentOptions.{SegmentOptions}
use Rattle.ec_args.specs.declared.request.Request.TheVariants.{Pass, Plan, Decode, Encode, Sim, Loop, Segment, Master, Scan}

-- on what a segment answers, how many payloads, and as which slaves
pub record SegmentArguments : Type 0 where
  pub frames : Option ℕ
  -- the text of an address
  pub bind : Text
  pub port : ℕ
  -- it replaces address and port
  pub descriptor : Option ℕ
  -- whether its slaves are as usual masters expect them
  pub full : Bool
  -- how many seconds it waits for a payload
  pub idle : ℕ
  -- whether lines move its slaves as they come
  pub live : Bool
  -- and whether each line that can't be done is counted as unmet
  pub strict : Bool

-- a command, and its arguments
pub data Command : Type 0 where
  -- `ecat pass`: the number of slaves, and the text of a frame
  PassOf : ℕ → Text → Command
  -- `ecat plan`: whether it prints a C header, what its names begin with if that is given, and whether it explains the plan and a
  -- refusal
  PlanOf : Bool → Option Text → Bool → Command
  -- `ecat decode`: the file of a link table, if one is named, and whether the frames are to be explained
  DecodeOf : Option Text → Bool → Command
  -- `ecat encode`
  EncodeOf : Command
  -- `ecat sim`: whether lines are run as they come, the file of a capture if one is named, whether a refusal is explained, and
  -- whether each line that can't be done is counted as unmet. The commands below have the capture and the explanation, too.
  SimOf : Bool → Option Text → Bool → Bool → Command
  -- `ecat loop`: the number of cycles
  LoopOf : ℕ → Option Text → Bool → Command
  -- `ecat segment`
  SegmentOf : SegmentArguments → Option Text → Bool → Command
  -- `ecat master`: the text of a segment's address and port, and the descriptor that replaces it if one is given. Then how many
  -- milliseconds it waits for an answer, and at the end what `ecat sim` has there
  MasterOf : Text → Option ℕ → ℕ → Option Text → Bool → Bool → Command
  -- `ecat scan`: the segment and the patience as of `ecat master`, the file of a table that it compares with if one is named, the file of
  -- a capture if one is named, and whether a refusal is explained
  ScanOf : Text → Option ℕ → ℕ → Option Text → Option Text → Bool → Command

-- the word that asks for a command
abbrev pub word_of : Command → Text
word_of (PassOf slaves frame) = codes "pass"
word_of (PlanOf header prefix explained) = codes "plan"
word_of (DecodeOf table explained) = codes "decode"
word_of EncodeOf = codes "encode"
word_of (SimOf live capture explained strict) = codes "sim"
word_of (LoopOf cycles capture explained) = codes "loop"
word_of (SegmentOf arguments capture explained) = codes "segment"
word_of (MasterOf to descriptor patience capture explained strict) = codes "master"
word_of (ScanOf to descriptor patience against capture explained) = codes "scan"

-- whether it is to explain a refusal
abbrev pub is_explained : Command → Bool
is_explained (PassOf slaves text) = false
is_explained (PlanOf header prefix explained) = explained
is_explained (DecodeOf table explained) = false
is_explained EncodeOf = false
is_explained (SimOf live capture explained strict) = explained
is_explained (LoopOf cycles capture explained) = explained
is_explained (SegmentOf arguments capture explained) = explained
is_explained (MasterOf to descriptor patience capture explained strict) = explained
is_explained (ScanOf to descriptor patience against capture explained) = explained

-- ---- what `clap` finds for its arguments

-- for an argument, the numeral of a number below a limit
pub record FindsNumber (rows : List Row) (id : Text) (n limit : ℕ) : Type 0 where
  pub digits : Text
  pub number : one_of id rows ≡ Some digits
  pub numeral : IsNumeral 10 (without_leading_plus digits)
  pub value : digits_value 10 (without_leading_plus digits) ≡ n
  pub small : n < limit

-- or the argument is left out, and `clap` finds no such number
abbrev pub FindsAny : List Row → Text → Option ℕ → ℕ → Type 0
FindsAny rows id None limit = (n : ℕ) → FindsNumber rows id n limit → ⊥
FindsAny rows id (Some n) limit = FindsNumber rows id n limit

-- a text, or that there is none
abbrev pub FindsText : List Row → Text → Option Text → Type 0
FindsText rows id text = first_of id rows ≡ text

-- that a flag was given, or wasn't
pub record FindsFlag (rows : List Row) (id : Text) (flag : Bool) : Type 0 where
  pub given : one_of id rows ≡ Some (codes "true") → flag ≡ true
  pub absent : one_of id rows ≡ Some (codes "false") → flag ≡ false

pub record FindsPass (rows : List Row) (slaves : ℕ) (frame : Text) : Type 0 where
  pub for_slaves : FindsNumber rows (codes "slaves") slaves (2 ^ 8)
  pub for_frame : FindsText rows (codes "frame") (Some frame)

pub record FindsPlan (rows : List Row) (header : Bool) (prefix : Option Text) (explained : Bool) : Type 0 where
  pub for_header : FindsFlag rows (codes "header") header
  pub for_prefix : FindsText rows (codes "prefix") prefix
  pub for_explain : FindsFlag rows (codes "explain") explained

pub record FindsDecode (rows : List Row) (table : Option Text) (explained : Bool) : Type 0 where
  pub for_table : FindsText rows (codes "table") table
  pub for_explain : FindsFlag rows (codes "explain") explained

pub record FindsSim (rows : List Row) (live : Bool) (capture : Option Text) (explained strict : Bool) : Type 0 where
  pub for_live : FindsFlag rows (codes "live") live
  pub for_capture : FindsText rows (codes "capture") capture
  pub for_explain : FindsFlag rows (codes "explain") explained
  pub for_strict : FindsFlag rows (codes "strict") strict

pub record FindsLoop (rows : List Row) (cycles : ℕ) (capture : Option Text) (explained : Bool) : Type 0 where
  pub for_cycles : FindsNumber rows (codes "cycles") cycles (2 ^ 16)
  pub for_capture : FindsText rows (codes "capture") capture
  pub for_explain : FindsFlag rows (codes "explain") explained

pub record FindsSegment (rows : List Row) (arguments : SegmentArguments) (capture : Option Text) (explained : Bool) : Type 0 where
  pub for_frames : FindsAny rows (codes "frames") arguments.frames (2 ^ 32)
  pub for_bind : FindsText rows (codes "bind") (Some arguments.bind)
  pub for_port : FindsNumber rows (codes "port") arguments.port (2 ^ 16)
  pub for_descriptor : FindsAny rows (codes "descriptor") arguments.descriptor (2 ^ 16)
  pub for_full : FindsFlag rows (codes "full") arguments.full
  pub for_idle : FindsNumber rows (codes "idle") arguments.idle (2 ^ 32)
  pub for_live : FindsFlag rows (codes "live") arguments.live
  pub for_strict : FindsFlag rows (codes "strict") arguments.strict
  pub for_capture : FindsText rows (codes "capture") capture
  pub for_explain : FindsFlag rows (codes "explain") explained

pub record FindsMaster (rows : List Row) (to : Text) (descriptor : Option ℕ) (patience : ℕ) (capture : Option Text) (explained strict : Bool) : Type 0 where
  pub for_to : FindsText rows (codes "to") (Some to)
  pub for_descriptor : FindsAny rows (codes "descriptor") descriptor (2 ^ 16)
  pub for_patience : FindsNumber rows (codes "patience") patience (2 ^ 16)
  pub for_capture : FindsText rows (codes "capture") capture
  pub for_explain : FindsFlag rows (codes "explain") explained
  pub for_strict : FindsFlag rows (codes "strict") strict

pub record FindsScan (rows : List Row) (to : Text) (descriptor : Option ℕ) (patience : ℕ) (against capture : Option Text) (explained : Bool) : Type 0 where
  pub for_to : FindsText rows (codes "to") (Some to)
  pub for_descriptor : FindsAny rows (codes "descriptor") descriptor (2 ^ 16)
  pub for_patience : FindsNumber rows (codes "patience") patience (2 ^ 16)
  pub for_against : FindsText rows (codes "against") against
  pub for_capture : FindsText rows (codes "capture") capture
  pub for_explain : FindsFlag rows (codes "explain") explained

-- for the arguments of a command
abbrev pub Finds : List Row → Command → Type 0
Finds rows (PassOf slaves frame) = FindsPass rows slaves frame
Finds rows (PlanOf header prefix explained) = FindsPlan rows header prefix explained
Finds rows (DecodeOf table explained) = FindsDecode rows table explained
Finds rows EncodeOf = Unit {0}
Finds rows (SimOf live capture explained strict) = FindsSim rows live capture explained strict
Finds rows (LoopOf cycles capture explained) = FindsLoop rows cycles capture explained
Finds rows (SegmentOf arguments capture explained) = FindsSegment rows arguments capture explained
Finds rows (MasterOf to descriptor patience capture explained strict) = FindsMaster rows to descriptor patience capture explained strict
Finds rows (ScanOf to descriptor patience against capture explained) = FindsScan rows to descriptor patience against capture explained

-- `clap` met this command, and found its arguments
pub record MeetsAs (met : Option (Text × List Row)) (command : Command) : Type 0 where
  pub rows : List Row
  pub named : met ≡ Some (word_of command, rows)
  pub found : Finds rows command

-- `clap` met a command and found all that it needs
abbrev pub MeetsCommand : Option (Text × List Row) → Type 0
MeetsCommand met = (command : Command) × MeetsAs met command

-- what is asked of a segment
abbrev pub arguments_of : SegmentOptions → SegmentArguments
arguments_of options = record {
  frames = options.frames;
  bind = options.bind.now;
  port = options.port;
  descriptor = options.descriptor;
  full = options.full;
  idle = options.idle;
  live = options.live;
  strict = options.strict;
}

-- the command that is asked for
abbrev pub command_of : Request → Command
command_of (Pass slaves frame) = PassOf slaves frame.now
command_of (Plan header prefix explained) = PlanOf header (option_map (λ x. x.now) prefix) explained
command_of (Decode table explained) = DecodeOf (option_map (λ file. file.now) table) explained
command_of Encode = EncodeOf
command_of (Sim live capture explained strict) = SimOf live (option_map (λ file. file.now) capture) explained strict
command_of (Loop cycles capture explained) = LoopOf cycles (option_map (λ file. file.now) capture) explained
command_of (Segment options capture explained) = SegmentOf (arguments_of options) (option_map (λ file. file.now) capture) explained
command_of (Master to descriptor patience capture explained strict) =
    MasterOf to.now descriptor patience (option_map (λ file. file.now) capture) explained strict
command_of (Scan to descriptor patience against capture explained) =
    ScanOf to.now descriptor patience (option_map (λ file. file.now) against) (option_map (λ file. file.now) capture) explained

abbrev pub Asks : Option (Text × List Row) → Request → Type 0
Asks met request = MeetsAs met (command_of request)

-- the name of a file; `-` is none, but standard input
abbrev pub named : Option Text → Option Text
named None = None
named (Some name) = if bytes_eq name (codes "-") then None else Some name

-- the files that a command reads
abbrev pub first_of_inputs : Inputs → Option Text
first_of_inputs inputs = option_map (λ file. file.now) inputs.first

abbrev pub second_of_inputs : Inputs → Option Text
second_of_inputs inputs = option_map (λ file. file.now) inputs.second

pub record FindsInputs (rows : List Row) (inputs : Inputs) : Type 0 where
  pub for_first : first_of_inputs inputs ≡ named (first_of (codes "input") rows)
  pub for_second : second_of_inputs inputs ≡ named (first_of (codes "lines") rows)

-- what `clap` found for the command that it met
abbrev pub rows_met : Option (Text × List Row) → List Row
rows_met None = []
rows_met (Some met) = met.1

-- all that the arguments say: the command, the files that it reads, and whether no refusal is explained
pub record AsksAll (met : Option (Text × List Row)) (arguments : Arguments) : Type 0 where
  pub asks : Asks met arguments.request
  pub inputs : FindsInputs (rows_met met) arguments.inputs
  pub terse : FindsFlag (rows_met met) (codes "terse") arguments.terse

-- the kinds of `clap`'s errors that are answers: help and the version
abbrev pub is_answer : ErrorKind → Bool
is_answer DisplayHelp = true
is_answer DisplayVersion = true
is_answer _ = false

-- the first fault of the arguments, by `clap`'s specification; without one, no command was found; memory may
-- run out at any time
abbrev pub IsFault : List Text → ErrorKind → Type 0
IsFault args kind = (kind ≡ OutOfMemory) ⊎ (IsAmong kind (fault_of ecat args)
    ⊎ ((kind ≡ MissingSubcommand) × (MeetsCommand (subcommand_of ecat args) → ⊥)))

-- the notice of an error of this kind, whose text was made or couldn't be; `Memory` means nothing but that memory ran out
abbrev pub IsNoticeFor : ErrorKind → Result (String Global) AllocError → Notice → Type 0
IsNoticeFor kind made Memory = (kind ≡ OutOfMemory) ⊎ (made ≡ Err alloc_error)
IsNoticeFor kind made (Help text) = (is_answer kind ≡ true) × (made ≡ Ok text)
IsNoticeFor kind made (Usage text) = (is_answer kind ≡ false) × (kind ≢ OutOfMemory) × (made ≡ Ok text)

pub record IsNotice (kind : ErrorKind) (notice : Notice) : Type 0 where
  pub made : Result (String Global) AllocError
  pub says : IsNoticeFor kind made notice

-- what is read of the arguments: if they have no fault, the command that `clap` finds; else the notice of the error
-- that they meet
abbrev pub Reads : List Text → Result Arguments Notice → Type 0
Reads args (Ok arguments) = (fault_of ecat args ≡ []) × AsksAll (subcommand_of ecat args) arguments
Reads args (Err notice) = (kind : ErrorKind) × IsFault args kind × IsNotice kind notice

-- ---- some spellings, spelled out

-- the arguments `NAME pass --slaves N HEX`: N in decimal, 0 to 64, and HEX a text that doesn't begin with a hyphen
pub record ArePassArguments (args : List Text) (slaves : ℕ) (frame : Text) : Type 0 where
  pub name : Text
  pub spelled : args ≡ name ∷ codes "pass" ∷ codes "--slaves" ∷ decimal slaves ∷ frame ∷ []
  pub few : slaves ≤ 64
  pub no_flag : slice_index frame 0 ≢ 45

-- they are read as that pass, unless memory ran out
abbrev pub PassIsRead : Type 0
PassIsRead = (args : List Text) (slaves : ℕ) (frame : Text) (read : Result Arguments Notice)
    → ArePassArguments args slaves frame → Reads args read
    → MatchResult read (λ arguments. command_of arguments.request ≡ PassOf slaves frame) (λ notice. notice ≡ Memory)

-- the arguments `NAME plan`, or `NAME plan --explain`
abbrev pub explain_arguments : Bool → List Text
explain_arguments true = codes "--explain" ∷ []
explain_arguments false = []

pub record ArePlanArguments (args : List Text) (explained : Bool) : Type 0 where
  pub name : Text
  pub spelled : args ≡ name ∷ codes "plan" ∷ explain_arguments explained

abbrev pub PlanIsRead : Type 0
PlanIsRead = (args : List Text) (explained : Bool) (read : Result Arguments Notice)
    → ArePlanArguments args explained → Reads args read
    → MatchResult read (λ arguments. command_of arguments.request ≡ PlanOf false None explained) (λ notice. notice ≡ Memory)
