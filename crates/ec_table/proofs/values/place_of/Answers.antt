use Rattle.std.proofs.Common.{ap, ◌∙◌}
use Rattle.std.specs.List.{position}
use Rattle.std.specs.Str.{bytes_eq}
use Rattle.ec_table.specs.declared.rows.Format.{Format}
use Rattle.ec_table.specs.Keys.{names_of}
use Rattle.ec_table.proofs.KeyPlaces.{place_known, placed, unplaced}
use Rattle.ec_table.proofs.values.place_of.Goals as goal

pub returns-in_err-place_among : goal.returns-in_err-place_among
returns-in_err-place_among c =
    unplaced c.args.shape c.args.format c.args.name.now c.from_residual.result
    (c.in_err-place_among.ensures ∙ place_known c.args.shape c.args.format c.keys.result.now c.args.name.now c.keys.ensures) c.from_residual.ensures

pub returns : goal.returns
returns c =
    placed c.args.shape c.args.format c.args.name.now c.in_ok-place_among.field-0 c.place_among-2.result
    (c.in_ok-place_among.ensures ∙ place_known c.args.shape c.args.format c.keys.result.now c.args.name.now c.keys.ensures)
    (c.place_among-2.ensures ∙ place_known c.args.shape c.full.result c.keys-2.result.now c.args.name.now c.keys-2.ensures ∙ ap (λ (f : Format). position (bytes_eq c.args.name.now) (names_of c.args.shape f)) c.full.ensures)
