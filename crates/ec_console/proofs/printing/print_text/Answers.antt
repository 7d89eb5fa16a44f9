use Rattle.ec_console.proofs.PrintLemmas.{appends_kept, now_refused, whole_part}
use Rattle.std.proofs.Common.{refl}
use Rattle.ec_console.proofs.printing.print_text.Goals as goal

pub returns-in-Err-clause-part : goal.returns-in-Err-clause-part
returns-in-Err-clause-part g c = record {
  refused = now_refused _ _ _ c.in-Err.ensures.refused refl;
  part = whole_part c.args.output.now c.flush.new.self c.args.text.now
      (appends_kept c.args.output.now.holds c.write_text.new.output.holds c.flush.new.self.holds c.args.text.now c.in_ok-write_text.ensures.all c.in-Err.ensures.bytes);
}
