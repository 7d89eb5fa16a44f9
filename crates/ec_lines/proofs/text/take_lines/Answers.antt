use Rattle.std.proofs.Common.{◌≡◌, ◌∙◌, ◌++◌, List, ℕ, subst}
use Rattle.ec_lines.specs.Inputs.{bytes_left}
use Rattle.ec_lines.specs.Kept.{IsAddFault, RefusesLines, is_last}
use Rattle.ec_lines.proofs.TextLemmas.{add_refused, err_of, lines_more, read_refused, text_grows, text_taken}
use Rattle.ec_lines.proofs.text.take_lines.Goals as goal

pub returns-in_err-line-clause-refused : goal.returns-in_err-line-clause-refused
returns-in_err-line-clause-refused g c =
    err_of c.from_residual.result c.in_err-line.field-0.0 (RefusesLines c.take_bytes.new.input.is_refused (bytes_left g.R.Read.remaining c.args.input.now) (bytes_left g.R.Read.remaining c.take_bytes.new.input)) c.from_residual.ensures.1
    (read_refused c.take_bytes.new.input.is_refused (bytes_left g.R.Read.remaining c.args.input.now) (bytes_left g.R.Read.remaining c.loop-text.input) (bytes_left g.R.Read.remaining c.take_bytes.new.input) c.loop-text.text.items c.in_err-line.field-0.0 c.loop-text.invariant.lines c.in_err-line.ensures.refused c.in_err-line.ensures.left)

pub returns-then-is_last-clause-taken : goal.returns-then-is_last-clause-taken
returns-then-is_last-clause-taken g c =
    text_taken (bytes_left g.R.Read.remaining c.args.input.now) (bytes_left g.R.Read.remaining c.loop-text.input) (bytes_left g.R.Read.remaining c.take_bytes.new.input) c.loop-text.text.items c.in_ok-line.line.items c.is_last.result c.loop-text.invariant.lines c.in_ok-line.ensures.taken
    (subst (λ (l : List ℕ). c.is_last.result ≡ is_last l) c.deref.ensures.value c.is_last.ensures) c.if-is_last.true

pub returns-in_err-add_line-clause-refused : goal.returns-in_err-add_line-clause-refused
returns-in_err-add_line-clause-refused g c =
    err_of c.from_residual-in_err-add_line.result c.in_err-add_line.field-0.0 (RefusesLines c.take_bytes.new.input.is_refused (bytes_left g.R.Read.remaining c.args.input.now) (bytes_left g.R.Read.remaining c.take_bytes.new.input)) c.from_residual-in_err-add_line.ensures.1
    (add_refused c.take_bytes.new.input.is_refused (bytes_left g.R.Read.remaining c.args.input.now) (bytes_left g.R.Read.remaining c.loop-text.input) (bytes_left g.R.Read.remaining c.take_bytes.new.input) c.loop-text.text.items c.in_ok-line.line.items c.is_last.result c.in_err-add_line.field-0.0 c.loop-text.invariant.lines
    c.in_ok-line.ensures.taken (subst (λ (l : List ℕ). c.is_last.result ≡ is_last l) c.deref.ensures.value c.is_last.ensures) c.if-is_last.false
    (subst (λ (l : List ℕ). IsAddFault c.loop-text.text.items l c.in_err-add_line.field-0.0) c.deref-in-loop-text.ensures.value c.in_err-add_line.ensures.refused))

pub loop-text-preserved : goal.loop-text-preserved
loop-text-preserved g c = record {
  lines = lines_more (bytes_left g.R.Read.remaining c.args.input.now) (bytes_left g.R.Read.remaining c.loop-text.input) (bytes_left g.R.Read.remaining c.take_bytes.new.input) c.loop-text.text.items c.in_ok-line.line.items c.add_line.new.text.items c.is_last.result c.loop-text.invariant.lines c.in_ok-line.ensures.taken
      (subst (λ (l : List ℕ). c.is_last.result ≡ is_last l) c.deref.ensures.value c.is_last.ensures) c.if-is_last.false
      (subst (λ (l : List ℕ). c.add_line.new.text.items ≡ c.loop-text.text.items ++ l) c.deref-in-loop-text.ensures.value c.in_ok-add_line.ensures.added) c.in_ok-add_line.ensures.short;
  kept = c.in_ok-line.ensures.unchanged ∙ c.loop-text.invariant.kept;
  short = c.in_ok-add_line.ensures.short;
}

pub loop-text-smaller : goal.loop-text-smaller
loop-text-smaller g c =
    text_grows c.loop-text.text.items c.in_ok-line.line.items c.add_line.new.text.items c.is_last.result (subst (λ (l : List ℕ). c.is_last.result ≡ is_last l) c.deref.ensures.value c.is_last.ensures) c.if-is_last.false
    (subst (λ (l : List ℕ). c.add_line.new.text.items ≡ c.loop-text.text.items ++ l) c.deref-in-loop-text.ensures.value c.in_ok-add_line.ensures.added) c.in_ok-add_line.ensures.short
