-- What a text states, by what it is refused, and how a command ends that runs a machine.
use Rattle.std.proofs.Common.{◌≡◌, ◌∙◌, ap, ℕ, List, refl, sym, subst, Option, None, Result, Ok, Err, IfOk, IfErr, OnOk}
use Rattle.std.specs.Result.{IsErrAnd}
use Rattle.ec_lines.specs.declared.error.LinesError.{LinesError}
use Rattle.ec_lines.specs.Taking.{RefusesText}
use Rattle.ec_table.specs.Contents.{Contents}
use Rattle.ec_table.specs.Reading.{table_of}
use Rattle.ec_link.specs.Faults.{Fails as LinkFails, compile_fault}
use Rattle.ec_link.proofs.AdvertisedFull.{faces}
use Rattle.ec_decode.specs.declared.error.DecodeError.{DecodeError}
use Rattle.ec_script.specs.Halves.{Splits}
use Rattle.ec_script.specs.Scripts.{Fails as ScriptFails, script_of}
use Rattle.ec_console.specs.declared.form.SlaveForm.{SlaveForm}
use Rattle.ec_console.specs.declared.form.SlaveForm.TheVariants.{Full, Plain}
use Rattle.ec_console.specs.declared.refusal.Refusal.{Refusal}
use Rattle.ec_console.specs.declared.refusal.Refusal.TheVariants as refusal
use Rattle.ec_console.specs.declared.stated.Source.{Source}
use Rattle.ec_console.specs.declared.stated.Source.TheVariants as takes
use Rattle.ec_console.specs.declared.stated.Stated.{Stated}
use Rattle.ec_console.specs.Given.{Given, IsLinkRefusal, IsTableRefusal, lines_refusal}
use Rattle.ec_console.specs.Stating.{IsNeverRun, RefusesHalves, RefusesSource, RefusesStated, States, StatesIn, advertised_in}

-- ---- the input

-- no text stands before a line `%%`
pub front_refused : {T : Type 0} (r : Result T Refusal) (given : Given) (left : Option (List ℕ)) (error : LinesError) → IsErrAnd r (λ e. e ≡ lines_refusal error)
    → RefusesText given.is_refused given.bytes left error → IfErr r (RefusesSource takes.Lines given)
front_refused (Ok v) given left error is why = tt
front_refused (Err e) given left error is why = (error, left, why, is)

-- ---- the table, in a form

-- a table advertised in full is refused as the table is
shown_fault : (form : SlaveForm) (t : Contents) → compile_fault (advertised_in form t) ≡ compile_fault t
shown_fault Full t = faces.fault t
shown_fault Plain t = refl

pub states_in : {T : Type 0} (r : Result Contents T) (form : SlaveForm) (text : List ℕ) (t u : Contents) → table_of text ≡ Ok t → u ≡ advertised_in form t → IfOk r (λ m. m ≡ u) → OnOk r (compile_fault u ≡ None)
    → IfOk r (StatesIn form text)
states_in (Ok m) form text t u read shown is accepted = (t, (read, sym (shown_fault form t) ∙ (ap compile_fault (sym shown) ∙ accepted)), is ∙ shown)
states_in (Err e) form text t u read shown is accepted = tt

same_refusal : (text : List ℕ) (t u : Contents) (x : Refusal) → table_of text ≡ Ok t → compile_fault u ≡ compile_fault t → IsLinkRefusal u x → IsTableRefusal text x
same_refusal text t u refusal.Memory read e h = tt
same_refusal text t u (refusal.Link error) read e h = (t, read, subst (LinkFails error) e h)
same_refusal text t u (refusal.Frame x) read e h = absurd h
same_refusal text t u (refusal.Table x) read e h = absurd h
same_refusal text t u (refusal.Start x) read e h = absurd h
same_refusal text t u (refusal.Run x) read e h = absurd h
same_refusal text t u (refusal.Socket trouble) read e h = absurd h
same_refusal text t u (refusal.Script x) read e h = absurd h
same_refusal text t u refusal.BadHex read e h = absurd h
same_refusal text t u refusal.Output read e h = absurd h
same_refusal text t u refusal.Input read e h = absurd h
same_refusal text t u (refusal.Unmet n) read e h = absurd h
same_refusal text t u (refusal.Unsaid n) read e h = absurd h

pub shown_refused : {T : Type 0} (r : Result T Refusal) (form : SlaveForm) (text : List ℕ) (t u : Contents) → table_of text ≡ Ok t → u ≡ advertised_in form t → IfErr r (IsLinkRefusal u)
    → IfErr r (IsTableRefusal text)
shown_refused (Ok x) form text t u read shown h = tt
shown_refused (Err x) form text t u read shown h = same_refusal text t u x read (ap compile_fault shown ∙ shown_fault form t) h

-- ---- a script behind it

half_of_table : (form : SlaveForm) (table script : List ℕ) (x : Refusal) → IsTableRefusal table x → RefusesHalves form table script x
half_of_table form table script refusal.Memory is = is
half_of_table form table script (refusal.Table e) is = is
half_of_table form table script (refusal.Link e) is = is
half_of_table form table script (refusal.Frame e) is = absurd is
half_of_table form table script (refusal.Start e) is = absurd is
half_of_table form table script (refusal.Run e) is = absurd is
half_of_table form table script (refusal.Socket trouble) is = absurd is
half_of_table form table script (refusal.Script e) is = absurd is
half_of_table form table script refusal.BadHex is = absurd is
half_of_table form table script refusal.Output is = absurd is
half_of_table form table script refusal.Input is = absurd is
half_of_table form table script (refusal.Unmet n) is = absurd is
half_of_table form table script (refusal.Unsaid n) is = absurd is

-- the table's fault, also where a call passes it on
pub table_refused : {T : Type 0} (r : Result T Refusal) (form : SlaveForm) (table script : List ℕ) (x : Refusal) → IsErrAnd r (λ e. e ≡ x) → IsTableRefusal table x → IfErr r (RefusesHalves form table script)
table_refused (Ok v) form table script x is why = tt
table_refused (Err e) form table script x is why = half_of_table form table script e (subst (IsTableRefusal table) (sym is) why)

-- and the script's
pub script_refused : {T : Type 0} (r : Result T Refusal) (form : SlaveForm) (table script : List ℕ) (t u : Contents) (error : DecodeError) → IsErrAnd r (λ e. e ≡ refusal.Script error) → StatesIn form table t → u ≡ t
    → ScriptFails error (script_of u script) → IfErr r (RefusesHalves form table script)
script_refused (Ok v) form table script t u error is states same why = tt
script_refused (Err e) form table script t u error is states same why =
    subst (RefusesHalves form table script) (sym is) (t, states, subst (λ (x : Contents). ScriptFails error (script_of x script)) same why)

-- both halves
pub states_both : (r : Result Stated Refusal) (source : Source) (form : SlaveForm) (text table script : List ℕ) → source ≡ takes.Script → Splits text table script
    → IfOk r (λ s. StatesIn form table s.machine × (script_of s.machine script ≡ Ok s.lines)) → IfOk r (λ s. States source form text s.machine s.lines)
states_both (Ok s) source form text table script is split both = subst (λ (x : Source). States x form text s.machine s.lines) (sym is) (table, script, split, both.0, both.1)
states_both (Err e) source form text table script is split both = tt

pub refuses_both : {T : Type 0} (r : Result T Refusal) (source : Source) (form : SlaveForm) (text table script : List ℕ) → source ≡ takes.Script → Splits text table script → IfErr r (RefusesHalves form table script)
    → IfErr r (RefusesStated source form text)
refuses_both (Ok v) source form text table script is split why = tt
refuses_both (Err e) source form text table script is split why = subst (λ (x : Source). RefusesStated x form text e) (sym is) (table, script, split, why)

-- ---- a command

-- a refusal before anything is done, also where a call passes it on
pub never_run : (r : Result Unit Refusal) (x : Refusal) (Refuses : Refusal → Type 0) (Nothing : Type 0) → IsErrAnd r (λ e. e ≡ x) → Refuses x → Nothing → IsNeverRun Refuses Nothing r
never_run (Ok done) x Refuses Nothing is why nothing = absurd is
never_run (Err e) x Refuses Nothing is why nothing = (e, refl, subst Refuses (sym is) why, nothing)
