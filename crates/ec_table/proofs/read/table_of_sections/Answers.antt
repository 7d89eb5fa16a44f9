use Rattle.ec_table.proofs.SoundRows.{read_sound}
use Rattle.ec_table.proofs.read.table_of_sections.Goals as goal

pub new-requires : goal.new-requires
new-requires c =
    let sound = read_sound _ _ _ _ _ _ _ _ _ c.in_ok-types.ensures c.in_ok-slaves.ensures c.in_ok-variables.ensures c.in_ok-links.ensures in
    rw (c.into_rows.ensures, c.into_rows-2.ensures, c.into_rows-3.ensures) sound
