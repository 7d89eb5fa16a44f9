-- How a run of `ecat` ends, whatever it was asked for (this project's profile).
use Rattle.std.specs.Prelude.{◌≡◌, ◌≢◌, ◌⊎◌, ℕ, Bool, true, false, List, [], ◌∷◌, ◌++◌, map, Option, None, Some, Result, Ok, Err, codes}
use Rattle.std.specs.IoError.{error_kind}
use Rattle.std.specs.Net.Addr.{ipv4_octets}
use Rattle.std.specs.Net.Grammar.{IsIpv4Text}
use Rattle.std.specs.declared.net.ipv4_addr.Ipv4Addr.{Ipv4Addr}
use Rattle.std.specs.Vec.Iter.{into_iter_items}
use Rattle.std.specs.declared.alloc.Global.{Global}
use Rattle.std.specs.declared.io.Error.{Error}
use Rattle.std.specs.declared.io.ErrorKind.TheVariants.{OutOfMemory}
use Rattle.std.specs.declared.string.String.{String}
use Rattle.std.specs.declared.vec.IntoIter.{IntoIter}
use Rattle.std.specs.String.{string_bytes}
use Rattle.ec_args.specs.Requests.{Command, SegmentArguments, PassOf, PlanOf, DecodeOf, EncodeOf, SimOf, LoopOf, SegmentOf, MasterOf, ScanOf, Reads, command_of, first_of_inputs, second_of_inputs}
use Rattle.ec_args.specs.declared.request.Notice.{Notice}
use Rattle.ec_args.specs.declared.request.Notice.TheVariants as notice
use Rattle.ec_args.specs.declared.request.Arguments.{Arguments}
use Rattle.ec_console.specs.declared.refusal.Refusal.{Refusal}
use Rattle.ec_console.specs.declared.refusal.Refusal.TheVariants.{Memory}
use Rattle.cmd_loop.specs.Looping.{LoopsOnSockets}
use Rattle.ec_app.specs.Passing.{RunsPass}
use Rattle.ec_app.specs.Planning.{RunsPlan, form_of as plan_form_of, prefix_or}
use Rattle.ec_console.specs.Given.{Given, GivesText, IsUnread, given_by}
use Rattle.ec_console.specs.Printing.{IsEprinted, OutputState, PrintsText}
use Rattle.ec_console.specs.Refusals.{line_of, status_of}
use Rattle.ec_lines.specs.Inputs.{InputState}
use Rattle.ec_table.specs.Contents.{Contents}
use Rattle.ec_script.specs.declared.line.Line.{Line}
use Rattle.ec_console.specs.declared.form.SlaveForm.{SlaveForm}
use Rattle.ec_console.specs.declared.form.SlaveForm.TheVariants.{Plain}
use Rattle.ec_console.specs.declared.stated.Source.{Source}
use Rattle.ec_console.specs.declared.stated.Source.TheVariants as takes
use Rattle.ec_console.specs.Stating.{IsNeverRun, RunsBehind, RunsSource, slave_form}
use Rattle.ec_app.specs.declared.work.Work.{Work}
use Rattle.ec_app.specs.declared.work.Work.TheVariants as work
use Rattle.cmd_master.specs.Mastering.{RunsMachine}
use Rattle.cmd_segment.specs.declared.endpoint.Endpoint.{Endpoint}
use Rattle.cmd_segment.specs.Serving.{LivesMachine, ServesMachine}
use Rattle.ec_console.specs.declared.console.Terminals.{Terminals}
use Rattle.ec_app.specs.Placing.{Places, AllStandard, OnlyFile, TableFile, LinesFile, explains, places_of, waiting_text, waits}
use Rattle.ec_app.specs.Wrong.{IsAddress, IsRight, IsWrong, wrong_text}
use Rattle.ec_app.specs.declared.wrong.Wrong.{Wrong}
use Rattle.ec_annotate.specs.Annotating.{names_of}
use Rattle.ec_app.specs.Remarking.{RunsDecodeWith}
use Rattle.ec_app.specs.Scanned.{RunsScanWith}
use Rattle.ec_app.specs.Translating.{RunsEncode}
use Rattle.ec_console.specs.declared.wanted.Manner.{Manner}
use Rattle.ec_console.specs.Reasons.{manner_of}
use Rattle.cmd_sim.specs.Simulating.{RunsLines, RunsLive}
use Rattle.ec_wire.specs.Wires.{Traffic, nothing_sent}

-- what the output, or the fault stream, is before and after
pub record Stream : Type 0 where
  pub old : OutputState
  pub new : OutputState

-- a command says nothing while it runs
abbrev pub IsQuiet : Stream → Type 0
IsQuiet stderr = stderr.new ≡ stderr.old

-- a command writes nothing
abbrev pub IsSilent : (output stderr : Stream) → Type 0
IsSilent output stderr = (output.new ≡ output.old) × IsQuiet stderr

-- ---- commands that run a machine

-- `ecat sim`: the lines of the script are run
abbrev pub RunsScript : Manner → (output stderr : Stream) → Given → Contents → List Line → Result Unit Refusal → Type 0
RunsScript manner output stderr input t lines ended = RunsLines manner t lines output.old output.new ended × IsQuiet stderr

-- `ecat sim --live`: the lines that the input gives are run as they come
abbrev pub RunsAsTheyCome : Manner → (output stderr : Stream) → Given → Contents → List Line → Result Unit Refusal → Type 0
RunsAsTheyCome manner output stderr input t lines ended = RunsLive manner t input output.old output.new ended × IsQuiet stderr

-- `ecat loop`: cycles are run over sockets of this process, over which nothing was sent before
abbrev pub RunsCycles : ℕ → (output stderr : Stream) → Given → Contents → List Line → Result Unit Refusal → Type 0
RunsCycles cycles output stderr input t lines ended = ((after : Traffic) × LoopsOnSockets cycles t output.old output.new nothing_sent after ended) × IsQuiet stderr

-- `ecat segment`: the slaves are served, on a port of an address or the card of a descriptor
abbrev pub RunsSegment : (descriptor : Option ℕ) → (octets : List ℕ) → (port : ℕ) → (frames : Option ℕ) → (output stderr : Stream) → Given → Contents → List Line → Result Unit Refusal → Type 0
RunsSegment descriptor octets port frames output stderr input t lines ended = ServesMachine descriptor octets port frames t output.old output.new stderr.old stderr.new ended

-- `ecat segment --live`: and the lines that the input gives move them as they come
abbrev pub RunsPlant : Manner → (descriptor : Option ℕ) → (octets : List ℕ) → (port : ℕ) → (frames : Option ℕ) → (output stderr : Stream) → Given → Contents → List Line → Result Unit Refusal → Type 0
RunsPlant manner descriptor octets port frames output stderr input t lines ended =
    LivesMachine descriptor octets port frames manner t input output.old output.new stderr.old stderr.new ended

-- `ecat master`: the lines that the input gives are run with a new master
abbrev pub RunsMaster : Manner → (output stderr : Stream) → Given → Contents → List Line → Result Unit Refusal → Type 0
RunsMaster manner output stderr input t lines ended = RunsMachine manner t input output.old output.new ended × IsQuiet stderr

-- what some work reads of the input, in which form its slaves are shown, and what it does
abbrev pub source_of : Work → Source
source_of (work.Script manner) = takes.Script
source_of (work.Live manner) = takes.Lines
source_of (work.Cycles cycles) = takes.Table
source_of (work.Segment form endpoint) = takes.Table
source_of (work.Plant form endpoint manner) = takes.Lines
source_of (work.Master options) = takes.Lines

abbrev pub form_of : Work → SlaveForm
form_of (work.Script manner) = Plain
form_of (work.Live manner) = Plain
form_of (work.Cycles cycles) = Plain
form_of (work.Segment form endpoint) = form
form_of (work.Plant form endpoint manner) = form
form_of (work.Master options) = Plain

abbrev pub does_of : Work → (output stderr : Stream) → Given → Contents → List Line → Result Unit Refusal → Type 0
does_of (work.Script manner) = RunsScript manner
does_of (work.Live manner) = RunsAsTheyCome manner
does_of (work.Cycles cycles) = RunsCycles cycles
does_of (work.Segment form endpoint) = RunsSegment endpoint.descriptor (ipv4_octets endpoint.address) endpoint.port endpoint.frames
does_of (work.Plant form endpoint manner) = RunsPlant manner endpoint.descriptor (ipv4_octets endpoint.address) endpoint.port endpoint.frames
does_of (work.Master options) = RunsMaster options.manner

-- the address that a segment listens on, by its text: 127.0.0.1 if that is no address
abbrev pub IsBound : (text octets : List ℕ) → Type 0
IsBound text octets =
    ((a : Ipv4Addr) × IsIpv4Text text a × (octets ≡ ipv4_octets a)) ⊎ ((IsAddress text → ⊥) × (octets ≡ 127 ∷ 0 ∷ 0 ∷ 1 ∷ []))

-- the work that a segment's arguments ask for
pub record IsEndpoint (a : SegmentArguments) (endpoint : Endpoint) : Type 0 where
  pub frames : endpoint.frames ≡ a.frames
  pub bound : IsBound a.bind (ipv4_octets endpoint.address)
  pub port : endpoint.port ≡ a.port
  pub descriptor : endpoint.descriptor ≡ a.descriptor

abbrev pub work_if : (live : Bool) → SlaveForm → Endpoint → Manner → Work
work_if false form endpoint manner = work.Segment form endpoint
work_if true form endpoint manner = work.Plant form endpoint manner

abbrev pub IsWorkOf : SegmentArguments → (explained : Bool) → Work → Type 0
IsWorkOf a explained w = (endpoint : Endpoint) × IsEndpoint a endpoint × (w ≡ work_if a.live (slave_form a.full) endpoint (manner_of explained a.strict))

-- the machine that the input states is run, or that a table which was read before states, with a capture if its file is named
abbrev pub RunsWork : (table : Option (List ℕ)) → Source → SlaveForm → (does : Stream → Stream → Given → Contents → List Line → Result Unit Refusal → Type 0) → (file : Option (List ℕ)) → (given : Given) → (output stderr : Stream) → Result Unit Refusal → Type 0
RunsWork None source form does file given output stderr ended = RunsSource source form file (does output stderr) (IsSilent output stderr) given ended
RunsWork (Some table) source form does file given output stderr ended = RunsBehind table source form file (does output stderr) (IsSilent output stderr) given ended

-- `ecat sim`, whose lines are run as a script, or as they come, with a capture if its file is named. If it explains, it prints why
-- they say `no`.
abbrev pub RunsSim : (table : Option (List ℕ)) → (live : Bool) → (file : Option (List ℕ)) → Manner → (given : Given) → (output stderr : Stream) → Result Unit Refusal → Type 0
RunsSim table false file manner = RunsWork table takes.Script Plain (RunsScript manner) file
RunsSim table true file manner = RunsWork table takes.Lines Plain (RunsAsTheyCome manner) file

-- `ecat segment`, whose slaves lines move too if it is live
abbrev pub RunsSlaves : (table : Option (List ℕ)) → (live : Bool) → SegmentArguments → (octets : List ℕ) → (file : Option (List ℕ)) → (explained : Bool) → (given : Given) → (output stderr : Stream) → Result Unit Refusal → Type 0
RunsSlaves table false a octets file explained = RunsWork table takes.Table (slave_form a.full) (RunsSegment a.descriptor octets a.port a.frames) file
RunsSlaves table true a octets file explained = RunsWork table takes.Lines (slave_form a.full) (RunsPlant (manner_of explained a.strict) a.descriptor octets a.port a.frames) file

-- ---- all commands

-- what a command does with the output, and what it says while it runs, by what the input gives, if that is known, and by the text of
-- its table, if that was read before
abbrev pub Runs : (table : Option (List ℕ)) → Command → (given : Given) → (output stderr : Stream) → Result Unit Refusal → Type 0
Runs table (PassOf slaves text) given output stderr ended = RunsPass slaves text output.old output.new ended × IsQuiet stderr
Runs table (PlanOf header prefix explained) given output stderr ended = RunsPlan (plan_form_of header explained) (prefix_or prefix) given output.old output.new ended × IsQuiet stderr
Runs table (DecodeOf links explained) given output stderr ended = RunsDecodeWith links (names_of explained) given output.old output.new ended × IsQuiet stderr
Runs table EncodeOf given output stderr ended = RunsEncode given output.old output.new ended × IsQuiet stderr
Runs table (SimOf live capture explained strict) given output stderr ended = RunsSim table live capture (manner_of explained strict) given output stderr ended
Runs table (LoopOf cycles capture explained) given output stderr ended = RunsWork table takes.Table Plain (RunsCycles cycles) capture given output stderr ended
Runs table (SegmentOf arguments capture explained) given output stderr ended =
    (octets : List ℕ) × IsBound arguments.bind octets × RunsSlaves table arguments.live arguments octets capture explained given output stderr ended
Runs table (MasterOf to descriptor patience capture explained strict) given output stderr ended =
    RunsWork table takes.Lines Plain (RunsMaster (manner_of explained strict)) capture given output stderr ended
Runs table (ScanOf to descriptor patience against capture explained) given output stderr ended = RunsScanWith against capture output.old output.new ended × IsQuiet stderr

-- ---- files

-- an input that is a file, of which nothing is known but whether a read of it was refused
abbrev pub opened : (is_refused : Bool) → Given
opened is_refused = record { bytes = None; is_refused = is_refused }

-- a file, or standard input before it, can't be read, and nothing is done; or it can
abbrev pub OrUnread : (output stderr : Stream) → Result Unit Refusal → Type 0 → Type 0
OrUnread output stderr ended Done = IsNeverRun IsUnread (IsSilent output stderr) ended ⊎ Done

-- a command whose input is a file
abbrev pub RunsOpened : (table : Option (List ℕ)) → Command → (is_refused : Bool) → (output stderr : Stream) → Result Unit Refusal → Type 0
RunsOpened table command is_refused output stderr ended = OrUnread output stderr ended (Runs table command (opened is_refused) output stderr ended)

-- the text of a table that is in a file, or that standard input gives
abbrev pub GivesTable : (in_file : Bool) → Given → (table : List ℕ) → Type 0
GivesTable true given table = Unit {0}
GivesTable false given table = GivesText given table

-- a command whose table is in a file
abbrev pub RunsTabled : Command → (given : Given) → (output stderr : Stream) → Result Unit Refusal → Type 0
RunsTabled command given output stderr ended = OrUnread output stderr ended ((table : List ℕ) × Runs (Some table) command given output stderr ended)

-- a command whose lines are in a file
abbrev pub RunsBoth : (table_too : Bool) → Command → (given : Given) → (output stderr : Stream) → Result Unit Refusal → Type 0
RunsBoth table_too command given output stderr ended =
    OrUnread output stderr ended ((table : List ℕ) × GivesTable table_too given table × RunsOpened (Some table) command given.is_refused output stderr ended)

-- a command, by where its inputs are
abbrev pub RunsAt : Places → Command → (given : Given) → (output stderr : Stream) → Result Unit Refusal → Type 0
RunsAt AllStandard command given output stderr ended = Runs None command given output stderr ended
RunsAt OnlyFile command given output stderr ended = RunsOpened None command given.is_refused output stderr ended
RunsAt TableFile command given output stderr ended = RunsTabled command given output stderr ended
RunsAt (LinesFile table_too) command given output stderr ended = RunsBoth table_too command given output stderr ended

-- slaves that lines move have no simulated application
abbrev pub LeavesIf : {A : Type 0} → (live : Bool) → (old new : A) → Type 0
LeavesIf true old new = new ≡ old
LeavesIf false old new = Unit {0}

-- what a command leaves alone: one that reads no input leaves it as it is, and one with no simulated application steps
-- none
abbrev pub LeavesAlone : {R A : Type 0} → Command → (input_old input_new : R) → (app_old app_new : A) → Type 0
LeavesAlone (PassOf slaves text) input_old input_new app_old app_new = (input_new ≡ input_old) × (app_new ≡ app_old)
LeavesAlone (PlanOf header prefix explained) input_old input_new app_old app_new = app_new ≡ app_old
LeavesAlone (DecodeOf table explained) input_old input_new app_old app_new = app_new ≡ app_old
LeavesAlone EncodeOf input_old input_new app_old app_new = app_new ≡ app_old
LeavesAlone (SimOf live capture explained strict) input_old input_new app_old app_new = app_new ≡ app_old
LeavesAlone (LoopOf cycles capture explained) input_old input_new app_old app_new = Unit {0}
LeavesAlone (SegmentOf arguments capture explained) input_old input_new app_old app_new = LeavesIf arguments.live app_old app_new
LeavesAlone (MasterOf to descriptor patience capture explained strict) input_old input_new app_old app_new = app_new ≡ app_old
LeavesAlone (ScanOf to descriptor patience against capture explained) input_old input_new app_old app_new = (input_new ≡ input_old) × (app_new ≡ app_old)

-- of that, what a command leaves of the application
abbrev pub LeavesAppOf : {A : Type 0} → Command → (old new : A) → Type 0
LeavesAppOf (PassOf slaves text) old new = new ≡ old
LeavesAppOf (PlanOf header prefix explained) old new = new ≡ old
LeavesAppOf (DecodeOf table explained) old new = new ≡ old
LeavesAppOf EncodeOf old new = new ≡ old
LeavesAppOf (SimOf live capture explained strict) old new = new ≡ old
LeavesAppOf (LoopOf cycles capture explained) old new = Unit {0}
LeavesAppOf (SegmentOf arguments capture explained) old new = LeavesIf arguments.live old new
LeavesAppOf (MasterOf to descriptor patience capture explained strict) old new = new ≡ old
LeavesAppOf (ScanOf to descriptor patience against capture explained) old new = new ≡ old

-- what some work leaves alone: the application, unless it simulates slaves
abbrev pub LeavesApp : {A : Type 0} → Work → (old new : A) → Type 0
LeavesApp (work.Script manner) old new = new ≡ old
LeavesApp (work.Live manner) old new = new ≡ old
LeavesApp (work.Cycles cycles) old new = Unit {0}
LeavesApp (work.Segment form endpoint) old new = Unit {0}
LeavesApp (work.Plant form endpoint manner) old new = new ≡ old
LeavesApp (work.Master options) old new = new ≡ old

-- what may stand behind the line of a refusal: nothing, unless the refusal is to be explained; then the text is free
abbrev pub MayExplain : Bool → List ℕ → Type 0
MayExplain false more = more ≡ []
MayExplain true more = Unit {0}

-- the exit status of a run, and what it writes to the fault stream: the line of a refusal
abbrev pub Eprints : Stream → ℕ → Result Unit Refusal → Type 0
Eprints faults status (Ok done) = (status ≡ 0) × (faults.new ≡ faults.old)
Eprints faults status (Err refusal) = (status ≡ status_of refusal) × IsEprinted (line_of refusal) faults.old faults.new

-- as `Eprints`, for a run that may explain a refusal: it writes the line of the refusal, and `more` behind that
abbrev pub EprintsWith : List ℕ → Stream → ℕ → Result Unit Refusal → Type 0
EprintsWith more faults status (Ok done) = (status ≡ 0) × (faults.new ≡ faults.old)
EprintsWith more faults status (Err refusal) = (status ≡ status_of refusal) × IsEprinted (line_of refusal ++ more) faults.old faults.new

-- a command that waits for someone who types says so
abbrev pub Announces : (is_waiting : Bool) → (old new : OutputState) → Type 0
Announces false old new = new ≡ old
Announces true old new = IsEprinted waiting_text old new

-- a command is run on its inputs
abbrev pub RunsArguments : Arguments → Terminals → (given : Given) → (output stderr : Stream) → Result Unit Refusal → Type 0
RunsArguments arguments terminals given output stderr ended =
    let command = command_of arguments.request in
    let first = first_of_inputs arguments.inputs in
    let second = second_of_inputs arguments.inputs in
    (begun : OutputState) × Announces (waits terminals command first second) stderr.old begun
    × RunsAt (places_of command first second) command given output (record { old = begun; new = stderr.new }) ended

abbrev pub EndsCommand : Arguments → Terminals → (given : Given) → (output faults : Stream) → ℕ → Type 0
EndsCommand arguments terminals given output faults status =
    (ended : Result Unit Refusal) × (noted : OutputState) × (more : List ℕ) × RunsArguments arguments terminals given output (record { old = faults.old; new = noted }) ended
    × MayExplain (explains terminals arguments.terse (command_of arguments.request)) more × EprintsWith more (record { old = noted; new = faults.new }) status ended

-- or its arguments can't be right, and the fault stream says so
abbrev pub EndsWrong : Command → (output faults : Stream) → ℕ → Type 0
EndsWrong command output faults status =
    (wrong : Wrong) × IsWrong command wrong × (status ≡ 2) × (output.new ≡ output.old) × IsEprinted (wrong_text wrong) faults.old faults.new

-- how a run ends that was asked for a command, or that prints a notice in place of one
abbrev pub Ends : Result Arguments Notice → Terminals → (given : Given) → (output faults : Stream) → ℕ → Type 0
Ends (Ok arguments) terminals given output faults status =
    (IsRight (command_of arguments.request) × EndsCommand arguments terminals given output faults status) ⊎ EndsWrong (command_of arguments.request) output faults status
Ends (Err notice.Memory) terminals given output faults status = (output.new ≡ output.old) × Eprints faults status (Err Memory)
Ends (Err (notice.Help text)) terminals given output faults status = (ended : Result Unit Refusal) × PrintsText (string_bytes text) output.old output.new ended × Eprints faults status ended
Ends (Err (notice.Usage text)) terminals given output faults status = (status ≡ 2) × (output.new ≡ output.old) × IsEprinted (string_bytes text) faults.old faults.new

-- what a run leaves alone
abbrev pub EndsAlone : {R A : Type 0} → Result Arguments Notice → (input_old input_new : R) → (app_old app_new : A) → Type 0
EndsAlone (Ok arguments) input_old input_new app_old app_new = LeavesAlone (command_of arguments.request) input_old input_new app_old app_new
EndsAlone (Err error) input_old input_new app_old app_new = (input_new ≡ input_old) × (app_new ≡ app_old)

-- ---- a run that owns its streams

-- an input of which nothing was read, and an output to which nothing was written
abbrev pub unread : {R : Type 0} → R → InputState R
unread stream = record { ahead = []; stream = stream; is_refused = false; reads = 0 }

abbrev pub unwritten : Option (List ℕ) → OutputState
unwritten holds = record { holds = holds; is_refused = false; is_flushed = true; writes = 0 }

-- a run of which no stream is a terminal
abbrev pub no_terminals : Terminals
no_terminals = record { input = false; faults = false }

-- How a run ends to which the words were given, by what its streams are at its end: `left`, `printed` and `stderr`. It drops them, so they are
-- there for the run alone. `remaining` says what a reader has still to give.
pub record EndsOwning {R A : Type 0} (remaining : R → Option (List ℕ)) (words : List (List ℕ)) (input : R) (output faults : OutputState) (app_old app_new : A) (status : ℕ) : Type 0 where
  pub read : Result Arguments Notice
  pub reads : Reads words read
  pub left : InputState R
  pub printed : OutputState
  pub stderr : OutputState
  pub ends : Ends read no_terminals (given_by remaining (unread input) left) (record { old = output; new = printed }) (record { old = faults; new = stderr }) status
  pub alone : EndsAlone read (unread input) left app_old app_new
  pub unprinted : status ≡ 2 → printed ≡ output

-- ---- arguments of a system

-- what a command leaves of the input: all of it, if it reads none
abbrev pub LeavesInput : {R : Type 0} → Command → (old new : R) → Type 0
LeavesInput (PassOf slaves text) old new = new ≡ old
LeavesInput (PlanOf header prefix explained) old new = Unit {0}
LeavesInput (DecodeOf table explained) old new = Unit {0}
LeavesInput EncodeOf old new = Unit {0}
LeavesInput (SimOf live capture explained strict) old new = Unit {0}
LeavesInput (LoopOf cycles capture explained) old new = Unit {0}
LeavesInput (SegmentOf arguments capture explained) old new = Unit {0}
LeavesInput (MasterOf to descriptor patience capture explained strict) old new = Unit {0}
LeavesInput (ScanOf to descriptor patience against capture explained) old new = new ≡ old

-- what a run leaves of the input: all of it, too, if it prints a notice in place of a command
abbrev pub EndsUnread : {R : Type 0} → Result Arguments Notice → (old new : R) → Type 0
EndsUnread (Ok arguments) old new = LeavesInput (command_of arguments.request) old new
EndsUnread (Err error) old new = new ≡ old

-- what the fault stream gets if an argument isn't text
abbrev pub not_text : List ℕ
not_text = codes "error: an argument of the command line isn't text" ++ 10 ∷ []

-- the arguments that an iterator still gives, as texts
abbrev pub given_words : IntoIter (String Global) Global → List (List ℕ)
given_words given = map string_bytes (into_iter_items given)

-- what the fault stream gets if arguments can't be read, by the system's error: that memory ran out, or that one isn't text
abbrev pub EprintsUnread : Error → (faults : Stream) → ℕ → Type 0
EprintsUnread error faults status =
    ((error_kind error ≡ OutOfMemory) × Eprints faults status (Err Memory))
    ⊎ ((error_kind error ≢ OutOfMemory) × (status ≡ 2) × IsEprinted not_text faults.old faults.new)

-- how a run ends to which the system gave these arguments: as with them. If memory runs out before they are read, or they can't be
-- read, it reads and prints nothing, and the fault stream says so.
abbrev pub EndsGiven : {R : Type 0} → Result (IntoIter (String Global) Global) Error → Terminals → (known : Given) → (input_old input_new : R) → (output faults : Stream) → ℕ → Type 0
EndsGiven (Ok given) terminals known input_old input_new output faults status =
    ((read : Result Arguments Notice) × Reads (given_words given) read × Ends read terminals known output faults status × EndsUnread read input_old input_new)
    ⊎ ((input_new ≡ input_old) × (output.new ≡ output.old) × Eprints faults status (Err Memory))
EndsGiven (Err error) terminals known input_old input_new output faults status =
    (input_new ≡ input_old) × (output.new ≡ output.old) × EprintsUnread error faults status
