use Rattle.std.proofs.Common.{ℕ, ◌+◌, ◌<◌, ◌∙◌, length, set, subst, sym, ap, arith, length-set}
use Rattle.ec_coe.specs.declared.value.SdoValue.{SdoValue}
use Rattle.ec_coe.specs.Objects.{Dictionary}
use Rattle.ec_coe.proofs.Resetting.{Reset, reset-more, reset-all}
use Rattle.ec_coe.proofs.dictionary.Dictionary.reset_values.Goals as goal

pub loop-place-preserved : goal.loop-place-preserved
loop-place-preserved c =
    let d : Dictionary = c.loop-place.self in
    let k : ℕ = c.loop-place.place in
    let v : SdoValue = c.first_value-value.result in
    let i = c.loop-place.invariant in
    let end = i.end in
    let inside : k < length d.values = omega (arith, end, c.loop-place-test.true) in
    let same = ap (λ (x : Dictionary). record x { values = set x.values k v }) c.self-in-loop-place.view_is in
    record {
      reset = subst (λ (x : Dictionary). Reset c.args.self.now x (k + 1)) (sym same) (reset-more c.args.self.now d k v i.reset inside c.first_value-value.ensures);
      end = end ∙ (sym (length-set d.values k v) ∙ sym (ap (λ (x : Dictionary). length x.values) same));
    }

pub returns : goal.returns
returns c =
    let i = c.loop-place.invariant in
    let end = i.end in
    reset-all c.args.self.now c.loop-place.self c.loop-place.place i.reset (omega (arith, end, c.loop-place-test.false))
