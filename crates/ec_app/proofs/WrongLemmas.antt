-- Arguments that can't be right, and the work that a segment's arguments ask for.
use Rattle.std.proofs.Common.{◌≡◌, ◌∙◌, inl, inr, ℕ, List, [], ◌∷◌, Bool, true, false, Option, None, Some, Result, Ok, Err, IfNone, IfSome, refl, sym, ap, subst}
use Rattle.std.specs.Result.{result_unwrap_or}
use Rattle.std.specs.Net.Addr.{ipv4_octets}
use Rattle.std.specs.Net.Grammar.{IsIpv4Text, Parses}
use Rattle.std.specs.declared.net.ipv4_addr.Ipv4Addr.{Ipv4Addr}
use Rattle.ec_console.specs.declared.form.SlaveForm.{SlaveForm}
use Rattle.ec_console.specs.declared.wanted.Manner.{Manner}
use Rattle.ec_console.specs.Reasons.{manner_of}
use Rattle.ec_console.specs.Stating.{slave_form}
use Rattle.cmd_segment.specs.declared.endpoint.Endpoint.{Endpoint}
use Rattle.ec_app.specs.declared.work.Work.TheVariants as work
use Rattle.ec_app.specs.declared.wrong.Wrong.{Wrong}
use Rattle.ec_app.specs.declared.wrong.Wrong.TheVariants.{Descriptor}
use Rattle.ec_app.specs.Running.{IsBound, work_if}
use Rattle.ec_app.specs.Wrong.{IsRightAt, IsWrongAt}

-- ---- without a descriptor

pub right_at : (d : Option ℕ) (Right : Type 0) → d ≡ None → Right → IsRightAt d Right
right_at d Right none h = subst (λ (o : Option ℕ). IsRightAt o Right) (sym none) h

pub wrong_at : (d : Option ℕ) (Right : Type 0) (instead : Wrong) → d ≡ None → (Right → ⊥) → IsWrongAt d Right instead instead
wrong_at d Right instead none h = subst (λ (o : Option ℕ). IsWrongAt o Right instead instead) (sym none) (refl, h)

-- ---- with one

pub wrong_socket : (d : Option ℕ) (n : ℕ) (Right : Type 0) (instead : Wrong) (found : Option Wrong) → d ≡ Some n → IfSome found (λ w. w ≡ Descriptor) → IfSome found (IsWrongAt d Right instead)
wrong_socket d n Right instead (Some w) is h = subst (λ (o : Option ℕ). IsWrongAt o Right instead w) (sym is) h
wrong_socket d n Right instead None is h = tt

pub right_socket : (d : Option ℕ) (n : ℕ) (Right : Type 0) (found : Option Wrong) → d ≡ Some n → IfNone found (IsRightAt d Right)
right_socket d n Right (Some w) is = tt
right_socket d n Right None is = subst (λ (o : Option ℕ). IsRightAt o Right) (sym is) tt

-- ---- none is wrong

pub none_right : (found : Option Wrong) (Right : Type 0) → ((w : Wrong) → found ≡ Some w → ⊥) → IfNone found Right → Right
none_right None Right none h = h
none_right (Some w) Right none h = absurd (none w refl)

-- ---- the address of a segment

-- that of its text, or `given` if it is none
pub is_bound : {E : Type 0} (text : List ℕ) (read : Result Ipv4Addr E) (given a : Ipv4Addr) → Parses IsIpv4Text text read → a ≡ result_unwrap_or read given → ipv4_octets given ≡ 127 ∷ 0 ∷ 0 ∷ 1 ∷ []
    → IsBound text (ipv4_octets a)
is_bound {E} text (Ok b) given a parsed is local = inl (b, parsed, ap ipv4_octets is)
is_bound {E} text (Err e) given a parsed is local = inr ((λ (b, spelled). parsed b spelled), ap ipv4_octets is ∙ local)

-- ---- its work

pub live_work : (live full explained strict : Bool) (e : Endpoint) (form : SlaveForm) (manner : Manner) → live ≡ true → form ≡ slave_form full → manner ≡ manner_of explained strict
    → work.Plant form e manner ≡ work_if live (slave_form full) e (manner_of explained strict)
live_work live full explained strict e form manner is shown why =
    ap (λ (f : SlaveForm). work.Plant f e manner) shown
    ∙ (ap (λ (r : Manner). work.Plant (slave_form full) e r) why ∙ ap (λ (l : Bool). work_if l (slave_form full) e (manner_of explained strict)) (sym is))

pub still_work : (live full explained strict : Bool) (e : Endpoint) (form : SlaveForm) → live ≡ false → form ≡ slave_form full → work.Segment form e ≡ work_if live (slave_form full) e (manner_of explained strict)
still_work live full explained strict e form is shown =
    ap (λ (f : SlaveForm). work.Segment f e) shown ∙ ap (λ (l : Bool). work_if l (slave_form full) e (manner_of explained strict)) (sym is)
