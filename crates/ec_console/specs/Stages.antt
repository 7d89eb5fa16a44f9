-- What private code returns for the next line of an input. You don't need it to read what is printed.
use Rattle.std.specs.Prelude.{Bool, true, false}
use Rattle.ec_lines.specs.declared.lines.NextLine.{NextLine}
use Rattle.ec_lines.specs.declared.lines.NextLine.TheVariants as taken

-- it is the end of the input
abbrev pub is_end : NextLine → Bool
is_end taken.End = true
is_end (taken.Text text) = false
is_end taken.NoText = false
