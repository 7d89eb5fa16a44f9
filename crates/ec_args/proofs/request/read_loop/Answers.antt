use Rattle.std.proofs.Common.{refl, codes}
use Rattle.clap.specs.Matches.{found_of}
use Rattle.ec_args.proofs.RequestLemmas.{any_none, finds_flag, finds_number, finds_text, no_cycles}
use Rattle.ec_args.proofs.request.read_loop.Goals as goal

pub returns-in_err-get_one-clause-none : goal.returns-in_err-get_one-clause-none
returns-in_err-get_one-clause-none c = any_none c.from_residual.result (no_cycles (found_of c.args.given.now) c.get_one.result c.get_one.ensures.value c.in_err-get_one.was)

pub returns-clause-some : goal.returns-clause-some
returns-clause-some c =
    let found = found_of c.args.given.now in (
      refl,
      record {
        for_cycles = finds_number found (codes "cycles") 16 c.get_one.result c.in_ok-get_one.field-0 c.get_one.ensures.none c.get_one.ensures.value c.in_ok-get_one.was;
        for_capture = finds_text found (codes "capture") _ c.get_str.ensures;
        for_explain = finds_flag found (codes "explain") c.get_flag.result c.get_flag.ensures.value c.get_flag.ensures.other;
      },
    )
