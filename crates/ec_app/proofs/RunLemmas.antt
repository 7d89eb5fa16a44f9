-- The exit statuses that there are, and how a run ends to which arguments were given.
use Rattle.std.proofs.Common.{◌≡◌, ◌∙◌, ℕ, List, [], ◌∷◌, ◌==◌, ◌||◌, inl, inr, Bool, true, false, Option, Result, Ok, Err, IfErr, String, Global, refl, sym, ap, subst, arith}
use Rattle.std.specs.declared.io.Error.{Error}
use Rattle.std.specs.declared.vec.IntoIter.{IntoIter}
use Rattle.std.specs.Prelude.{Contains, if◌then◌else◌}
use Rattle.ec_console.specs.declared.refusal.Refusal.{Refusal}
use Rattle.ec_console.specs.Refusals.{number_of, status_of}
use Rattle.ec_console.specs.declared.refusal.Refusal.TheVariants.{Memory}
use Rattle.ec_console.specs.declared.refusal.Refusal.TheVariants as why
use Rattle.ec_console.specs.Explaining.{Behind, IsLeft}
use Rattle.ec_console.specs.Given.{Given, IsInputRefusal, IsUnread, given_by}
use Rattle.ec_console.specs.Stating.{RefusesStated, States, slave_form}
use Rattle.ec_console.specs.declared.form.SlaveForm.{SlaveForm}
use Rattle.ec_console.specs.declared.stated.Source.{Source}
use Rattle.ec_console.specs.declared.stated.Source.TheVariants as takes
use Rattle.ec_console.specs.Reasons.{manner_of}
use Rattle.std.specs.Net.Addr.{ipv4_octets}
use Rattle.ec_script.specs.declared.line.Line.{Line}
use Rattle.ec_console.specs.Printing.{OutputState}
use Rattle.ec_lines.specs.Inputs.{InputState}
use Rattle.ec_wire.specs.Wires.{LoopbackState, Traffic}
use Rattle.ec_table.specs.Contents.{Contents}
use Rattle.cmd_loop.specs.Looping.{LoopsOnSockets}
use Rattle.ec_app.specs.declared.work.Work.{Work}
use Rattle.ec_app.specs.declared.work.Work.TheVariants as work
use Rattle.ec_app.specs.Running.{Ends, EndsAlone, EndsGiven, EndsOwning, EndsUnread, GivesTable, IsEndpoint, LeavesAlone, LeavesApp, LeavesAppOf, LeavesIf, LeavesInput, MayExplain, Runs, RunsPlant, RunsSegment, RunsSlaves, RunsWork, Stream, Eprints, EprintsWith, does_of, form_of, given_words, no_terminals, source_of, unread, work_if}
use Rattle.ec_app.specs.Placing.{AllStandard, Places, places_of}
use Rattle.ec_console.specs.declared.console.Terminals.{Terminals}
use Rattle.cmd_segment.specs.declared.endpoint.Endpoint.{Endpoint}
use Rattle.ec_args.specs.Requests.{Command, DecodeOf, EncodeOf, LoopOf, MasterOf, PassOf, PlanOf, Reads, ScanOf, SegmentArguments, SegmentOf, SimOf, command_of}
use Rattle.ec_args.specs.declared.request.Arguments.{Arguments}
use Rattle.ec_args.specs.declared.request.Notice.{Notice}

three_to_five : (b c : Bool) → Contains {X = ℕ} (0 ∷ 2 ∷ 3 ∷ 4 ∷ 5 ∷ []) (if b then 4 else (if c then 5 else 3))
three_to_five true c = (3, omega arith, refl)
three_to_five false true = (4, omega arith, refl)
three_to_five false false = (2, omega arith, refl)

-- each refusal ends the program with 3, 4 or 5
pub status_known : (refusal : Refusal) → Contains {X = ℕ} (0 ∷ 2 ∷ 3 ∷ 4 ∷ 5 ∷ []) (status_of refusal)
status_known refusal = let n = number_of refusal in three_to_five (n == 37 || (n == 41 || (n == 42 || n == 43))) (n == 45)

pub tells_known : (faults : Stream) (status : ℕ) (ended : Result Unit Refusal) → Eprints faults status ended → Contains {X = ℕ} (0 ∷ 2 ∷ 3 ∷ 4 ∷ 5 ∷ []) status
tells_known faults status (Ok done) told = subst (Contains {X = ℕ} (0 ∷ 2 ∷ 3 ∷ 4 ∷ 5 ∷ [])) (sym told.0) (0, omega arith, refl)
tells_known faults status (Err refusal) told = subst (Contains {X = ℕ} (0 ∷ 2 ∷ 3 ∷ 4 ∷ 5 ∷ [])) (sym told.0) (status_known refusal)

pub tells_with_known : (more : List ℕ) (faults : Stream) (status : ℕ) (ended : Result Unit Refusal) → EprintsWith more faults status ended → Contains {X = ℕ} (0 ∷ 2 ∷ 3 ∷ 4 ∷ 5 ∷ []) status
tells_with_known more faults status (Ok done) told = subst (Contains {X = ℕ} (0 ∷ 2 ∷ 3 ∷ 4 ∷ 5 ∷ [])) (sym told.0) (0, omega arith, refl)
tells_with_known more faults status (Err refusal) told = subst (Contains {X = ℕ} (0 ∷ 2 ∷ 3 ∷ 4 ∷ 5 ∷ [])) (sym told.0) (status_known refusal)

-- what leaves the input and the application alone leaves each alone
pub input_left : {R A : Type 0} (command : Command) (old new : R) (app_old app_new : A) → LeavesAlone command old new app_old app_new → LeavesInput command old new
input_left (PassOf n f) old new app_old app_new alone = alone.0
input_left (PlanOf h p e) old new app_old app_new alone = tt
input_left (DecodeOf t e) old new app_old app_new alone = tt
input_left EncodeOf old new app_old app_new alone = tt
input_left (SimOf l c e s) old new app_old app_new alone = tt
input_left (LoopOf n c e) old new app_old app_new alone = tt
input_left (SegmentOf a c e) old new app_old app_new alone = tt
input_left (MasterOf t d p c e s) old new app_old app_new alone = tt
input_left (ScanOf t d p a k e) old new app_old app_new alone = alone.0

pub app_left : {R A : Type 0} (command : Command) (old new : R) (app_old app_new : A) → LeavesAlone command old new app_old app_new → LeavesAppOf command app_old app_new
app_left (PassOf n f) old new app_old app_new alone = alone.1
app_left (PlanOf h p e) old new app_old app_new alone = alone
app_left (DecodeOf t e) old new app_old app_new alone = alone
app_left EncodeOf old new app_old app_new alone = alone
app_left (SimOf l c e s) old new app_old app_new alone = alone
app_left (LoopOf n c e) old new app_old app_new alone = tt
app_left (SegmentOf a c e) old new app_old app_new alone = alone
app_left (MasterOf t d p c e s) old new app_old app_new alone = alone
app_left (ScanOf t d p a k e) old new app_old app_new alone = alone.1

-- and an application that isn't run is left alone
live_left : {A : Type 0} (live : Bool) (app : A) → LeavesIf live app app
live_left true app = refl
live_left false app = tt

pub app_kept : {A : Type 0} (command : Command) (app : A) → LeavesAppOf command app app
app_kept (PassOf n f) app = refl
app_kept (PlanOf h p e) app = refl
app_kept (DecodeOf t e) app = refl
app_kept EncodeOf app = refl
app_kept (SimOf l c e s) app = refl
app_kept (LoopOf n c e) app = tt
app_kept (SegmentOf a c e) app = live_left a.live app
app_kept (MasterOf t d p c e s) app = refl
app_kept (ScanOf t d p a k e) app = refl

-- a command whose input is standard input, or that has one
pub both_left : {R A : Type 0} (command : Command) (first second : Option (List ℕ)) (place : Places) (old new : R) (app_old app_new : A) → place ≡ places_of command first second
    → (place ≡ AllStandard → LeavesInput command old new) → LeavesAppOf command app_old app_new → LeavesAlone command old new app_old app_new
both_left (PassOf n f) first second place old new app_old app_new is input app = (input is, app)
both_left (PlanOf h p e) first second place old new app_old app_new is input app = app
both_left (DecodeOf t e) first second place old new app_old app_new is input app = app
both_left EncodeOf first second place old new app_old app_new is input app = app
both_left (SimOf l c e s) first second place old new app_old app_new is input app = app
both_left (LoopOf n c e) first second place old new app_old app_new is input app = tt
both_left (SegmentOf a c e) first second place old new app_old app_new is input app = app
both_left (MasterOf t d p c e s) first second place old new app_old app_new is input app = app
both_left (ScanOf t d p a k e) first second place old new app_old app_new is input app = (input is, app)

-- an explanation that is left twice
pub left_twice : (first middle last : Behind) → IsLeft first middle → IsLeft middle last → IsLeft first last
left_twice first middle last one two unwanted = two (ap (λ (b : Behind). b.is_wanted) (one unwanted) ∙ unwanted) ∙ one unwanted

-- an explanation that isn't wanted has no text
pub may_explain : (wanted explained : Bool) (old new : Behind) (more : List ℕ) → wanted ≡ explained → old ≡ record { is_wanted = wanted; text = [] } → IsLeft old new → more ≡ new.text → MayExplain explained more
may_explain wanted false old new more is begun left text =
    text ∙ (ap (λ (b : Behind). b.text) (left (ap (λ (b : Behind). b.is_wanted) begun ∙ is)) ∙ ap (λ (b : Behind). b.text) begun)
may_explain wanted true old new more is begun left text = tt

-- what is refused of an input is refused of a file
unread_input : (given : Given) (x : Refusal) → IsInputRefusal given x → IsUnread x
unread_input given why.Memory refused = inr refl
unread_input given why.Input refused = inl refl
unread_input given (why.Frame e) refused = absurd refused
unread_input given (why.Table e) refused = absurd refused
unread_input given (why.Link e) refused = absurd refused
unread_input given (why.Start e) refused = absurd refused
unread_input given (why.Run e) refused = absurd refused
unread_input given (why.Socket trouble) refused = absurd refused
unread_input given (why.Script e) refused = absurd refused
unread_input given why.BadHex refused = absurd refused
unread_input given why.Output refused = absurd refused
unread_input given (why.Unmet n) refused = absurd refused
unread_input given (why.Unsaid n) refused = absurd refused

pub unread_text : {T : Type 0} (r : Result T Refusal) (given : Given) → IfErr r (IsInputRefusal given) → IfErr r IsUnread
unread_text (Ok text) given refused = tt
unread_text (Err x) given refused = unread_input given x refused

-- a text is that of a table by the bytes that are given
pub gives_by : (in_file : Bool) (bytes : Option (List ℕ)) (before after : Bool) (text : List ℕ) → GivesTable in_file (record { bytes = bytes; is_refused = before }) text
    → GivesTable in_file (record { bytes = bytes; is_refused = after }) text
gives_by true bytes before after text gives = tt
gives_by false bytes before after text gives = gives

ends_unread : {R A : Type 0} (read : Result Arguments Notice) (old new : R) (app_old app_new : A) → EndsAlone read old new app_old app_new → EndsUnread read old new
ends_unread (Ok arguments) old new app_old app_new alone = input_left (command_of arguments.request) old new app_old app_new alone
ends_unread (Err error) old new app_old app_new alone = alone.0

-- a run on the arguments that were given, as texts
pub given_ends : {R A : Type 0} (given : Result (IntoIter (String Global) Global) Error) (words : IntoIter (String Global) Global) (texts : List (List ℕ))
    (terminals : Terminals) (known : Given) (old new : R) (app_old app_new : A) (output : Stream) (faults : Stream) (status : ℕ) → given ≡ Ok words → texts ≡ given_words words
    → ((read : Result Arguments Notice) × Reads texts read × Ends read terminals known output faults status × EndsAlone read old new app_old app_new)
    → EndsGiven given terminals known old new output faults status
given_ends given words texts terminals known old new app_old app_new output faults status is same run =
    subst (λ g. EndsGiven g terminals known old new output faults status) (sym is)
    (inl (run.0, subst (λ ts. Reads ts run.0) same run.1, run.2, ends_unread run.0 old new app_old app_new run.3))

-- and one for which memory ran out before
pub given_lost : {R : Type 0} (given : Result (IntoIter (String Global) Global) Error) (words : IntoIter (String Global) Global) (terminals : Terminals) (known : Given) (input : R)
    (output : OutputState) (faults : Stream) (status : ℕ) → given ≡ Ok words → Eprints faults status (Err Memory)
    → EndsGiven given terminals known input input (record { old = output; new = output }) faults status
given_lost given words terminals known input output faults status is told =
    subst (λ g. EndsGiven g terminals known input input (record { old = output; new = output }) faults status) (sym is) (inr (refl, refl, told))

-- a run on a console of streams that it owns
pub owned : {R A : Type 0} (remaining : R → Option (List ℕ)) (words : List (List ℕ)) (stream : R) (terminals : Terminals) (first last : InputState R) (output faults before printed after told : OutputState)
    (app_old app_new : A) (status : ℕ) → terminals ≡ no_terminals → first ≡ unread stream → before ≡ output → after ≡ faults
    → ((read : Result Arguments Notice) × Reads words read × Ends read terminals (given_by remaining first last) (record { old = before; new = printed }) (record { old = after; new = told }) status
    × EndsAlone read first last app_old app_new)
    → (status ≡ 2 → printed ≡ before) → EndsOwning remaining words stream output faults app_old app_new status
owned {R} remaining words stream terminals first last output faults before printed after told app_old app_new status none input out err run same = record {
  read = run.0;
  reads = run.1;
  left = last;
  printed = printed;
  stderr = told;
  ends = subst (λ (t : Terminals). Ends run.0 t (given_by remaining (unread stream) last) (record { old = output; new = printed }) (record { old = faults; new = told }) status) none
      (subst (λ (i : InputState R). Ends run.0 terminals (given_by remaining i last) (record { old = output; new = printed }) (record { old = faults; new = told }) status) input
      (subst (λ (o : OutputState). Ends run.0 terminals (given_by remaining first last) (record { old = o; new = printed }) (record { old = faults; new = told }) status) out
      (subst (λ (f : OutputState). Ends run.0 terminals (given_by remaining first last) (record { old = before; new = printed }) (record { old = f; new = told }) status) err run.2)));
  alone = subst (λ (i : InputState R). EndsAlone run.0 i last app_old app_new) input run.3;
  unprinted = λ two. same two ∙ out;
}

-- cycles of a loopback to whose slaves nothing was sent
pub from_nothing : {A : Type 0} (cycles : ℕ) (t : Contents) (old new : OutputState) (before after began : LoopbackState A) (r : Result Unit Refusal) → before ≡ began
    → LoopsOnSockets cycles t old new before.traffic after.traffic r → (last : Traffic) × LoopsOnSockets cycles t old new began.traffic last r
from_nothing {A} cycles t old new before after began r is runs =
    (after.traffic, subst (λ (l : LoopbackState A). LoopsOnSockets cycles t old new l.traffic after.traffic r) is runs)

-- work that isn't begun leaves its application alone
pub left_alone : {A : Type 0} (w : Work) (x : A) → LeavesApp w x x
left_alone (work.Script manner) x = refl
left_alone (work.Live manner) x = refl
left_alone (work.Cycles cycles) x = tt
left_alone (work.Segment form endpoint) x = tt
left_alone (work.Plant form endpoint manner) x = refl
left_alone (work.Master options) x = refl

-- what is read is a source and a form of some work
pub refused_as : (s source : Source) (f form : SlaveForm) (text : List ℕ) (x : Refusal) → s ≡ source → f ≡ form → RefusesStated s f text x → RefusesStated source form text x
refused_as s source f form text x same like h = subst (λ (y : Source). RefusesStated y form text x) same (subst (λ (y : SlaveForm). RefusesStated s y text x) like h)

pub stated_as : (s source : Source) (f form : SlaveForm) (text : List ℕ) (t : Contents) (lines : List Line) → s ≡ source → f ≡ form → States s f text t lines → States source form text t lines
stated_as s source f form text t lines same like h = subst (λ (y : Source). States y form text t lines) same (subst (λ (y : SlaveForm). States s y text t lines) like h)

-- ---- a segment

-- what its work does is what its arguments ask for
pub segment_runs : (table : Option (List ℕ)) (a : SegmentArguments) (explained : Bool) (e : Endpoint) (w : Work) (file : Option (List ℕ)) (given : Given) (output told : Stream) (ended : Result Unit Refusal) → IsEndpoint a e
    → w ≡ work_if a.live (slave_form a.full) e (manner_of explained a.strict) → RunsWork table (source_of w) (form_of w) (does_of w) file given output told ended
    → Runs table (SegmentOf a file explained) given output told ended
segment_runs table a explained e w file given output told ended is same h = (ipv4_octets e.address, is.bound, slaves a.live same)
  where
    slaves : (live : Bool) → w ≡ work_if live (slave_form a.full) e (manner_of explained a.strict) → RunsSlaves table live a (ipv4_octets e.address) file explained given output told ended
    slaves false same =
        let runs = subst (λ (x : Work). RunsWork table (source_of x) (form_of x) (does_of x) file given output told ended) same h in
        subst (λ (d : Option ℕ). RunsWork table takes.Table (slave_form a.full) (RunsSegment d (ipv4_octets e.address) a.port a.frames) file given output told ended) is.descriptor
        (subst (λ (n : ℕ). RunsWork table takes.Table (slave_form a.full) (RunsSegment e.descriptor (ipv4_octets e.address) n a.frames) file given output told ended) is.port
        (subst (λ (n : Option ℕ). RunsWork table takes.Table (slave_form a.full) (RunsSegment e.descriptor (ipv4_octets e.address) e.port n) file given output told ended) is.frames runs))
    slaves true same =
        let runs = subst (λ (x : Work). RunsWork table (source_of x) (form_of x) (does_of x) file given output told ended) same h in
        subst (λ (d : Option ℕ). RunsWork table takes.Lines (slave_form a.full) (RunsPlant (manner_of explained a.strict) d (ipv4_octets e.address) a.port a.frames) file given output told ended) is.descriptor
        (subst (λ (n : ℕ). RunsWork table takes.Lines (slave_form a.full) (RunsPlant (manner_of explained a.strict) e.descriptor (ipv4_octets e.address) n a.frames) file given output told ended) is.port
        (subst (λ (n : Option ℕ). RunsWork table takes.Lines (slave_form a.full) (RunsPlant (manner_of explained a.strict) e.descriptor (ipv4_octets e.address) e.port n) file given output told ended) is.frames runs))

pub segment_alone : {A : Type 0} (a : SegmentArguments) (explained : Bool) (e : Endpoint) (w : Work) (old new : A) → w ≡ work_if a.live (slave_form a.full) e (manner_of explained a.strict) → LeavesApp w old new
    → LeavesIf a.live old new
segment_alone {A} a explained e w old new same h = alone a.live same
  where
    alone : (live : Bool) → w ≡ work_if live (slave_form a.full) e (manner_of explained a.strict) → LeavesIf live old new
    alone false same = tt
    alone true same = subst (λ (x : Work). LeavesApp x old new) same h
