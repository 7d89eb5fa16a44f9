use Rattle.std.proofs.Common.{refl}
use Rattle.ec_console.proofs.PrintLemmas.{part_of_more, told_both}
use Rattle.ec_console.proofs.output.OutputStream.eprint_both.Goals as goal

pub returns-then-is_eprinted : goal.returns-then-is_eprinted
returns-then-is_eprinted g c = told_both c.args.self.now c.is_eprinted.new.self c.eprint_text.new.self c.args.text.now c.args.more.now (c.if-is_eprinted.ensures.whole refl) c.eprint_text.ensures

pub returns-else-is_eprinted : goal.returns-else-is_eprinted
returns-else-is_eprinted g c = part_of_more c.args.self.now c.is_eprinted.new.self c.args.text.now c.args.more.now (c.if-is_eprinted.ensures.part refl)
