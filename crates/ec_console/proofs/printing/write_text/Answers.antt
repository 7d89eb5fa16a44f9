use Rattle.std.proofs.Common.{◌≡◌, ◌∙◌, ◌==◌, ap, arith, false, not}
use Rattle.std.specs.IoError.{error_kind}
use Rattle.std.proofs.lemmas.Bool.Decides.{nat_tests}
use denote.Enum.Bare.{sameb}
use Rattle.std.specs.contracts.io.ErrorKind.{the_type}
use Rattle.std.specs.declared.io.ErrorKind.TheVariants.{Interrupted}
use Rattle.ec_console.specs.Printing.{is_refusal}
use Rattle.ec_console.proofs.PrintLemmas.{appends_kept, interrupted_only, not_refused, now_refused, part_after, refused_else}
use Rattle.ec_console.proofs.printing.write_text.Goals as goal
use Rattle.ec_console.proofs.printing.write_text.Goals.{in-Ok, in-Err+else-ne}

pub returns-then-ne-clause-part : goal.returns-then-ne-clause-part
returns-then-ne-clause-part g c = record {
  refused = now_refused c.loop.output.is_refused c.write.new.self.is_refused (is_refusal (error_kind c.in-Err.error)) c.in-Err.ensures.refused
      (refused_else (error_kind c.in-Err.error) (c.if-ne.ensures ∙ ap (λ kind. not (sameb the_type kind Interrupted)) c.kind.ensures));
  part = (c.loop.written, appends_kept _ c.loop.output.holds c.write.new.self.holds _ c.loop.invariant.part c.in-Err.ensures.bytes);
}

pub loop-preserved : goal.loop-preserved
loop-preserved g c = elim c.match-write.branch [
  | in-Ok w ↦ let after = part_after _ c.loop.output.holds c.write.new.self.holds c.args.text.now c.loop.written w.in-Ok.count c.loop.invariant.part
      c.loop.invariant.within w.in-Ok.ensures.bound w.in-Ok.ensures.bytes in record {
        part = rw w.written-is after.0;
        within = rw w.written-is after.1;
        kept = not_refused _ _ _ w.in-Ok.ensures.refused (let none : (w.in-Ok.count == 0) ≡ false = grind (arith, nat_tests, w.in-Ok.count-test.1) in none) ∙ c.loop.invariant.kept;
        counted = omega (arith, w.in-Ok.ensures.counted, c.loop.invariant.counted, c.loop-test.true);
      }
  | in-Err+else-ne w ↦ record {
    part = rw w.written-is (appends_kept _ c.loop.output.holds c.write.new.self.holds _ c.loop.invariant.part w.in-Err.ensures.bytes);
    within = rw w.written-is c.loop.invariant.within;
    kept = not_refused _ _ _ w.in-Err.ensures.refused
        (interrupted_only (error_kind w.in-Err.error) (w.if-ne.ensures ∙ ap (λ kind. not (sameb the_type kind Interrupted)) w.kind.ensures)) ∙ c.loop.invariant.kept;
    counted = omega (arith, w.in-Err.ensures.counted, c.loop.invariant.counted, c.loop-test.true);
  }
]
