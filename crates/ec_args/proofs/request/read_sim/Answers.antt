use Rattle.std.proofs.Common.{refl, codes}
use Rattle.clap.specs.Matches.{found_of}
use Rattle.ec_args.proofs.RequestLemmas.{finds_flag, finds_text}
use Rattle.ec_args.proofs.request.read_sim.Goals as goal

pub returns : goal.returns
returns c =
    let found = found_of c.args.given.now in (
      refl,
      record {
        for_live = finds_flag found (codes "live") c.get_flag.result c.get_flag.ensures.value c.get_flag.ensures.other;
        for_capture = finds_text found (codes "capture") _ c.get_str.ensures;
        for_explain = finds_flag found (codes "explain") c.get_flag-2.result c.get_flag-2.ensures.value c.get_flag-2.ensures.other;
        for_strict = finds_flag found (codes "strict") c.get_flag-3.result c.get_flag-3.ensures.value c.get_flag-3.ensures.other;
      },
    )
