use Rattle.std.proofs.Common.{◌≡◌, ◌∙◌, List, ◌++◌, length, take, drop, arith, ℕ, ap, sym, subst}
use Rattle.std.proofs.Math.Seq.{take-append_seam}
use Rattle.hex.specs.Hex.{encode_lower}
use Rattle.ec_frame.specs.Frame.{IsFrame, with_datagrams}
use Rattle.ec_slave.specs.State.{SlaveState}
use Rattle.ec_ring.specs.Rings.{passes_ring}
use Rattle.ec_app.proofs.PassLemmas.{passed_up}
use Rattle.ec_app.proofs.pass.pass_hex.Goals as goal

pub returns-in_err-check-clause-refused : goal.returns-in_err-check-clause-refused
returns-in_err-check-clause-refused c =
    passed_up _ c.args.text.now c.in_err-check.field-0.0 c.from_residual-in_err-check.ensures.1 (record {
      payload = c.in_ok-payload.payload.items;
      spelled = c.in_ok-payload.ensures.spelled;
      refused = rw c.as_slice.ensures.value at c.in_err-check.ensures.refused;
    })

pub pass_frame-requires : goal.pass_frame-requires
pass_frame-requires c =
    let p = c.in_ok-check.ensures.accepted.0 in
    let same : c.as_mut_slice.result.now ≡ c.as_slice.result.now = c.as_mut_slice.ensures.value ∙ sym c.as_slice.ensures.value in
    (p, subst (λ (bytes : List ℕ). IsFrame bytes p) (sym same) c.in_ok-check.ensures.accepted.1)

pub returns-clause-answer : goal.returns-clause-answer
returns-clause-answer c =
    let p = c.in_ok-check.ensures.accepted.0 in
    let sent : IsFrame c.in_ok-payload.payload.items p = subst (λ (bytes : List ℕ). IsFrame bytes p) c.as_slice.ensures.value c.in_ok-check.ensures.accepted.1 in
    let at_ring : IsFrame c.as_mut_slice.result.now p = subst (λ (bytes : List ℕ). IsFrame bytes p) (sym c.as_mut_slice.ensures.value) sent in
    let back = subst (λ (slaves : List SlaveState). IsFrame c.pass_frame.new.frame (with_datagrams p (passes_ring slaves p.datagrams).datagrams)) c.in_ok-ring.ensures (c.pass_frame.ensures.ring.frame p at_ring) in
    let same_len : length c.pass_frame.new.frame ≡ c.in_ok-payload.payload.len = omega (arith, c.pass_frame.auto.frame, c.as_mut_slice.ensures.len) in
    let printed : c.as_slice-2.result.now ≡ c.pass_frame.new.frame = c.as_slice-2.ensures.value ∙ (ap (λ n. take n (c.pass_frame.new.frame ++ drop (length c.pass_frame.new.frame) c.in_ok-payload.payload.items)) (sym same_len) ∙ take-append_seam c.pass_frame.new.frame _) in
    record {
      sent = c.in_ok-payload.payload.items;
      back = c.pass_frame.new.frame;
      spelled = c.in_ok-payload.ensures.spelled;
      passed = record { payload = p; is_sent = sent; is_back = back };
      printed = c.in_ok-encode.ensures ∙ ap encode_lower printed;
    }
