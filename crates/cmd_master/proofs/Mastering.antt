-- How a run of lines ends.
use Rattle.std.proofs.Common.{◌≡◌, inl, inr, ℕ, List, refl, subst, sym, Result, Ok, Err, IfErr, OnErr}
use Rattle.std.specs.Result.{IsErrAnd}
use Rattle.ec_table.specs.Contents.{Contents}
use Rattle.ec_wire.specs.declared.trouble.Trouble.{Trouble}
use Rattle.ec_wire.specs.Wires.{WireState, silent}
use Rattle.ec_script.specs.declared.line.Step.{Step}
use Rattle.ec_console.specs.declared.refusal.Refusal.{Refusal}
use Rattle.ec_console.specs.declared.refusal.Refusal.TheVariants.{Memory, Socket}
use Rattle.ec_console.specs.declared.wanted.Manner.{Manner}
use Rattle.ec_console.specs.Coming.{ComesOut, ComesPart, Reader, reading_at}
use Rattle.ec_console.specs.Given.{Given}
use Rattle.ec_console.specs.Printing.{OutputState}
use Rattle.ec_console.specs.Refusals.{IsSocket}
use Rattle.ec_console.specs.Saying.{IsLate}
use Rattle.ec_console.specs.Unmet.{counted, ended_by}
use Rattle.ec_console.proofs.EndLemmas.{run_cut, run_ended, run_refused}
use Rattle.cmd_master.specs.State.{MasteredState}
use Rattle.cmd_master.specs.Taking.{takes_action}
use Rattle.cmd_master.specs.Saying.{SaysLine}
use Rattle.cmd_master.specs.Mastering.{RunsMachine, RunsOver, begun_over, manner_in}
use Rattle.cmd_master.specs.Stages.{RunsTarget}

-- ---- a target

-- all lines are done
pub target_ran : {S : Type 0} (r : Result Unit Refusal) (one : S → Step → S → List ℕ → ℕ → Type 0) (told : S → Manner) (read : Reader) (begun last : S) (count : ℕ) (input : Given) (old new : OutputState) → r ≡ ended_by count
    → (unmet : ℕ) × (count ≡ counted unmet) × ComesOut one told read begun input.bytes last unmet old new → RunsTarget one told read begun last input old new r
target_ran r one told read begun last count input old new ended all =
    run_ended r (λ (unmet : ℕ). ComesOut one told read begun input.bytes last unmet old new) (ComesPart one told read begun input.bytes last old new) input.is_refused old new count ended all

-- or they are cut short
pub target_cut : {S T : Type 0} (r : Result Unit Refusal) (printed : Result T Refusal) (e : Refusal) (one : S → Step → S → List ℕ → ℕ → Type 0) (told : S → Manner) (read : Reader) (begun last : S) (input : Given) (old new : OutputState)
    → printed ≡ Err e → OnErr printed (ComesPart one told read begun input.bytes last old new) → IfErr printed (IsLate input.is_refused new) → IsErrAnd r (λ x. x ≡ e) → RunsTarget one told read begun last input old new r
target_cut r printed e one told read begun last input old new is some late same =
    run_cut r printed e (λ (unmet : ℕ). ComesOut one told read begun input.bytes last unmet old new) (ComesPart one told read begun input.bytes last old new) (ComesPart one told read begun input.bytes last old new) input.is_refused old new is some late (λ part. part) same

-- ---- over a wire

-- lines over a wire whose payloads are noted are lines over the wire
pub tapped_runs : (r : Result Unit Refusal) (m tapped last : MasteredState) (input : Given) (old new : OutputState) → tapped ≡ m → RunsOver tapped.session.table tapped last input old new r
    → (x : MasteredState) × RunsOver m.session.table m x input old new r
tapped_runs r m tapped last input old new same runs = (last, subst (λ (x : MasteredState). RunsOver x.session.table x last input old new r) same runs)

-- ---- a socket or a card

pub on_wire : (r : Result Unit Refusal) (manner : Manner) (t : Contents) (m : MasteredState) (opened : WireState) (input : Given) (old new : OutputState) → m ≡ begun_over manner t opened → opened ≡ silent 0
    → (last : MasteredState) × RunsOver m.session.table m last input old new r → RunsMachine manner t input old new r
on_wire r manner t m opened input old new begun is (last, runs) =
    inl (last, subst (λ (w : WireState). RunsOver t (begun_over manner t w) last input old new r) is (subst (λ (x : MasteredState). RunsOver x.session.table x last input old new r) begun runs))

pub on_socket : (r : Result Unit Refusal) (manner : Manner) (t : Contents) (m : MasteredState) (failed : ℕ) (input : Given) (old new : OutputState) → m ≡ begun_over manner t (silent failed) → failed ≡ 0
    → (last : MasteredState) × RunsOver m.session.table m last input old new r → RunsMachine manner t input old new r
on_socket r manner t m failed input old new begun is runs =
    on_wire r manner t m (silent 0) input old new (subst (λ (n : ℕ). m ≡ begun_over manner t (silent n)) is begun) refl runs

-- there is none
pub unconnected : (r : Result Unit Refusal) (trouble : Trouble) (manner : Manner) (t : Contents) (input : Given) (known : OutputState) → IsErrAnd r (λ e. e ≡ Socket trouble) → RunsMachine manner t input known known r
unconnected (Ok done) trouble manner t input known is = absurd is
unconnected (Err e) trouble manner t input known is = inr (e, refl, subst IsSocket (sym is) tt, refl)

-- no memory for a master
pub never_begun : (r : Result Unit Refusal) (manner : Manner) (t : Contents) (input : Given) (known : OutputState) → IsErrAnd r (λ e. e ≡ Memory) → RunsMachine manner t input known known r
never_begun r manner t input known is =
    let begun = begun_over manner t (silent 0) in
    inl (
      begun,
      run_refused r (λ (unmet : ℕ). ComesOut SaysLine manner_in (reading_at takes_action t) begun input.bytes begun unmet known known) (ComesPart SaysLine manner_in (reading_at takes_action t) begun input.bytes begun known known) input.is_refused
          known is,
    )
