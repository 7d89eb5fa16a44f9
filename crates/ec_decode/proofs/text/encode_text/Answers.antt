use Rattle.std.proofs.Common.{ℕ, ◌+◌, List, [], ◌++◌, Bor, Err, string_bytes, sym, ap, ◌∙◌, arith}
use Rattle.hex.specs.Hex.{encode_lower}
use Rattle.ec_decode.specs.FrameText.{newline}
use Rattle.ec_decode.proofs.Encoding.{encoded_all, encoded_cut, encoded_err, encoded_ok, same_items, told_by}
use Rattle.ec_decode.proofs.text.encode_text.Goals as goal
use Rattle.ec_decode.proofs.text.encode_text.Goals.{in-Some+in_ok-write_payload, in_default}

no_text : Bor (List ℕ)
no_text = record { ref_ptr = (0, 0); now = [] }

pub returns-in_err-payload : goal.returns-in_err-payload
unfolding no_text
returns-in_err-payload c =
    told_by c.args.text.now c.from_residual-in_err-payload.result c.in_err-payload.field-0.0 c.from_residual-in_err-payload.ensures.1
    (encoded_err c.args.text.now c.as_slice-line-items.result.now c.loop-place.place no_text c.loop-place.reader c.read_line.new.self (string_bytes c.loop-place.answer) c.in_err-payload.field-0.0 c.loop-place.invariant c.loop-place-test.true c.in_err-payload.ensures)

pub loop-place-preserved : goal.loop-place-preserved
unfolding no_text
loop-place-preserved c =
    let read = encoded_ok c.args.text.now c.as_slice-line-items.result.now c.loop-place.place no_text c.loop-place.reader c.read_line.new.self (string_bytes c.loop-place.answer) (string_bytes c.match-branch-3.answer) c.in_ok-payload.field-0 c.loop-place.invariant c.loop-place-test.true c.in_ok-payload.ensures in
    elim c.match-branch-3.branch [
      | in-Some+in_ok-write_payload w ↦
          read (λ none. absurd (cc (none, w.in-Some.is)))
          (λ v is. ap string_bytes w.answer-is ∙ (w.in_ok-write_payload.ensures ∙ ap (λ (t : List ℕ). string_bytes c.loop-place.answer ++ (encode_lower t ++ newline)) (w.as_slice.ensures.value ∙ same_items c.in_ok-payload.field-0 w.in-Some.payload v w.in-Some.is is)))
      | in_default w ↦ read (λ none. ap string_bytes w.answer-is) (λ v is. absurd (w.in_default.not-Some v is))
    ]

pub returns-then-not-is_between : goal.returns-then-not-is_between
returns-then-not-is_between c =
    encoded_cut c.args.text.now c.as_slice-line-items.result.now c.loop-place.place c.loop-place.reader (string_bytes c.loop-place.answer) c.loop-place.invariant (omega arith) (sym c.is_between.ensures ∙ c.if-not-is_between.true)
    ∙ ap (λ (n : ℕ). Err (n + 1)) (c.as_slice-line-items.ensures.len ∙ sym c.len.ensures)

pub returns : goal.returns
returns c =
    encoded_all c.args.text.now c.as_slice-line-items.result.now c.loop-place.place c.loop-place.reader (string_bytes c.loop-place.answer) c.loop-place.invariant c.loop-place-test.false (sym c.is_between.ensures ∙ c.if-not-is_between.false)
