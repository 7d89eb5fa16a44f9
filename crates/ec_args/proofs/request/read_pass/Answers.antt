use Rattle.std.proofs.Common.{refl, codes, sym}
use Rattle.clap.specs.Matches.{found_of}
use Rattle.ec_args.proofs.RequestLemmas.{any_none, finds_number, finds_text, no_frame, no_slaves}
use Rattle.ec_args.proofs.request.read_pass.Goals as goal

pub returns-in_err-get_one-clause-none : goal.returns-in_err-get_one-clause-none
returns-in_err-get_one-clause-none c = any_none c.from_residual.result (no_slaves (found_of c.args.given.now) c.get_one.result c.get_one.ensures.value c.in_err-get_one.was)

pub returns-in_err-get_str-clause-none : goal.returns-in_err-get_str-clause-none
returns-in_err-get_str-clause-none c = any_none c.from_residual-in_err-get_str.result (no_frame (found_of c.args.given.now) (sym c.in_err-get_str.ensures))

pub returns-clause-some : goal.returns-clause-some
returns-clause-some c =
    let found = found_of c.args.given.now in (
      refl,
      record {
        for_slaves = finds_number found (codes "slaves") 8 c.get_one.result c.in_ok-get_one.field-0 c.get_one.ensures.none c.get_one.ensures.value c.in_ok-get_one.was;
        for_frame = finds_text found (codes "frame") _ c.in_ok-get_str.ensures;
      },
    )
