use Rattle.std.proofs.Common.{refl, codes, sym}
use Rattle.clap.specs.Matches.{found_of}
use Rattle.ec_args.proofs.RequestLemmas.{any_none, finds_any, finds_flag, finds_number, finds_text, no_bind, no_idle, no_port}
use Rattle.ec_args.proofs.request.read_segment.Goals as goal

pub returns-in_err-get_str-clause-none : goal.returns-in_err-get_str-clause-none
returns-in_err-get_str-clause-none c = any_none c.from_residual.result (no_bind (found_of c.args.given.now) (sym c.in_err-get_str.ensures))

pub returns-in_err-get_one-clause-none : goal.returns-in_err-get_one-clause-none
returns-in_err-get_one-clause-none c = any_none c.from_residual-in_err-get_one.result (no_port (found_of c.args.given.now) c.get_one-2.result c.get_one-2.ensures.value c.in_err-get_one.was)

pub returns-in_err-get_one-2-clause-none : goal.returns-in_err-get_one-2-clause-none
returns-in_err-get_one-2-clause-none c = any_none c.from_residual-in_err-get_one-2.result (no_idle (found_of c.args.given.now) c.get_one-4.result c.get_one-4.ensures.value c.in_err-get_one-2.was)

pub returns-clause-some : goal.returns-clause-some
returns-clause-some c =
    let found = found_of c.args.given.now in (
      refl,
      record {
        for_frames = finds_any found (codes "frames") 32 c.get_one.result c.get_one.ensures.none c.get_one.ensures.value;
        for_bind = finds_text found (codes "bind") _ c.in_ok-get_str.ensures;
        for_port = finds_number found (codes "port") 16 c.get_one-2.result c.in_ok-get_one.field-0 c.get_one-2.ensures.none c.get_one-2.ensures.value c.in_ok-get_one.was;
        for_descriptor = finds_any found (codes "descriptor") 16 c.get_one-3.result c.get_one-3.ensures.none c.get_one-3.ensures.value;
        for_full = finds_flag found (codes "full") c.get_flag.result c.get_flag.ensures.value c.get_flag.ensures.other;
        for_idle = finds_number found (codes "idle") 32 c.get_one-4.result c.in_ok-get_one-2.field-0 c.get_one-4.ensures.none c.get_one-4.ensures.value c.in_ok-get_one-2.was;
        for_live = finds_flag found (codes "live") c.get_flag-2.result c.get_flag-2.ensures.value c.get_flag-2.ensures.other;
        for_strict = finds_flag found (codes "strict") c.get_flag-3.result c.get_flag-3.ensures.value c.get_flag-3.ensures.other;
        for_capture = finds_text found (codes "capture") _ c.get_str-2.ensures;
        for_explain = finds_flag found (codes "explain") c.get_flag-4.result c.get_flag-4.ensures.value c.get_flag-4.ensures.other;
      },
    )
