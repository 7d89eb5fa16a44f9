-- Only the output `States` prints AL states. They are those of slave after slave.
use Rattle.std.proofs.Common.{◌≡◌, ◌∙◌, ℕ, zero, suc, ◌+◌, List, [], ◌∷◌, ◌++◌, Option, Result, Ok, Err, IfOk, String, Global, refl, ap, arith, string_bytes}
use Rattle.ec_table.specs.Contents.{Contents}
use Rattle.ec_asking.specs.declared.answer.AlStatus.{AlStatus}
use Rattle.ec_script.specs.declared.output.LineOutput.{LineOutput}
use Rattle.ec_script.specs.declared.output.LineOutput.TheVariants.{Nothing, No, Unmet, Byte, Ended, Report, Values, States, Fault, Value}
use Rattle.ec_script.specs.Texts.{output_text}
use Rattle.ec_script.specs.Views.{ViewState}
use Rattle.ec_world.specs.World.{WorldState}
use Rattle.ec_simulation.specs.Statuses.{states_for, status_of, statuses, statuses_from}

same_text : (t : Contents) (n : ℕ) (view : ViewState) (w : WorldState) (said : LineOutput) → output_text t n view (states_for w said) said ≡ output_text t n view (statuses w) said
same_text t n view w Nothing = refl
same_text t n view w No = refl
same_text t n view w Unmet = refl
same_text t n view w Byte = refl
same_text t n view w Ended = refl
same_text t n view w Report = refl
same_text t n view w Values = refl
same_text t n view w States = refl
same_text t n view w Fault = refl
same_text t n view w (Value v x) = refl

pub printed_as : {E : Type 0} (r : Result (String Global) E) (t : Contents) (n : ℕ) (view here : ViewState) (w : WorldState) (states : List (Option AlStatus)) (said : LineOutput) → view ≡ here → states ≡ states_for w said
    → IfOk r (λ text. string_bytes text ≡ output_text t n view states said) → IfOk r (λ text. string_bytes text ≡ output_text t n here (statuses w) said)
printed_as (Ok text) t n view here w states said of_it shown is =
    is ∙ (ap (λ (v : ViewState). output_text t n v states said) of_it ∙ (ap (λ (ss : List (Option AlStatus)). output_text t n here ss said) shown ∙ same_text t n here w said))
printed_as (Err e) t n view here w states said of_it shown is = tt

-- ---- slave after slave

abbrev one : WorldState → ℕ → List (Option AlStatus)
one w k = status_of w k ∷ []

-- the slave behind so many, from number s on
one_more : (w : WorldState) (s i : ℕ) → statuses_from w s i ++ one w (s + i) ≡ statuses_from w s (suc i)
one_more w s zero = let e : s + 0 ≡ s = omega arith in ap (one w) e
one_more w s (suc i) =
    let e : s + suc i ≡ s + 1 + i = omega arith in
    ap (λ ss. status_of w s ∷ ss) (ap (λ (k : ℕ). statuses_from w (s + 1) i ++ one w k) e ∙ one_more w (s + 1) i)

pub statuses_more : (w : WorldState) (i : ℕ) (states : List (Option AlStatus)) → states ≡ statuses_from w 0 i → states ++ (status_of w i ∷ []) ≡ statuses_from w 0 (i + 1)
statuses_more w i states h =
    let e : i ≡ 0 + i = omega arith in
    let f : suc i ≡ i + 1 = omega arith in
    ap (λ ss. ss ++ one w i) h ∙ (ap (λ (k : ℕ). statuses_from w 0 i ++ one w k) e ∙ (one_more w 0 i ∙ ap (λ (n : ℕ). statuses_from w 0 n) f))
