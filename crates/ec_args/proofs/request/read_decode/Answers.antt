use Rattle.std.proofs.Common.{refl, codes}
use Rattle.clap.specs.Matches.{found_of}
use Rattle.ec_args.proofs.RequestLemmas.{finds_flag, finds_text}
use Rattle.ec_args.proofs.request.read_decode.Goals as goal

pub returns : goal.returns
returns c =
    let found = found_of c.args.given.now in (
      refl,
      record {
        for_table = finds_text found (codes "table") _ c.get_str.ensures;
        for_explain = finds_flag found (codes "explain") c.get_flag.result c.get_flag.ensures.value c.get_flag.ensures.other;
      },
    )
