use Rattle.std.proofs.Common.{refl, codes, sym}
use Rattle.clap.specs.Matches.{found_of}
use Rattle.ec_args.proofs.RequestLemmas.{any_none, finds_any, finds_flag, finds_number, finds_text, scan_no_patience, scan_no_to}
use Rattle.ec_args.proofs.request.read_scan.Goals as goal

pub returns-in_err-get_str-clause-none : goal.returns-in_err-get_str-clause-none
returns-in_err-get_str-clause-none c = any_none c.from_residual.result (scan_no_to (found_of c.args.given.now) (sym c.in_err-get_str.ensures))

pub returns-in_err-get_one-clause-none : goal.returns-in_err-get_one-clause-none
returns-in_err-get_one-clause-none c = any_none c.from_residual-in_err-get_one.result (scan_no_patience (found_of c.args.given.now) c.get_one-2.result c.get_one-2.ensures.value c.in_err-get_one.was)

pub returns-clause-some : goal.returns-clause-some
returns-clause-some c =
    let found = found_of c.args.given.now in (
      refl,
      record {
        for_to = finds_text found (codes "to") _ c.in_ok-get_str.ensures;
        for_descriptor = finds_any found (codes "descriptor") 16 c.get_one.result c.get_one.ensures.none c.get_one.ensures.value;
        for_patience = finds_number found (codes "patience") 16 c.get_one-2.result c.in_ok-get_one.field-0 c.get_one-2.ensures.none c.get_one-2.ensures.value c.in_ok-get_one.was;
        for_against = finds_text found (codes "against") _ c.get_str-2.ensures;
        for_capture = finds_text found (codes "capture") _ c.get_str-3.ensures;
        for_explain = finds_flag found (codes "explain") c.get_flag.result c.get_flag.ensures.value c.get_flag.ensures.other;
      },
    )
