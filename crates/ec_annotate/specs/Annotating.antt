-- Payloads as text with remarks for people behind the lines (this project's profile).
use Rattle.std.specs.Prelude.{◌≡◌, List, Bool, true, false}
use Rattle.ec_decode.specs.Answers.{DecodesLines}
use Rattle.ec_decode.specs.FrameText.{Text}
use Rattle.ec_decode.specs.Indented.{without_indented, woven}
use Rattle.ec_annotate.specs.declared.names.Names.{Names}
use Rattle.ec_annotate.specs.declared.names.Names.TheVariants.{Added, Omitted}

-- remarks stand behind the lines of a text
abbrev pub IsWoven : Text → Text → Type 0
IsWoven plain text = (remarks : List Text) × (text ≡ woven remarks plain)

-- what lines of hex are printed as, with remarks: what is printed without them, with nothing but indented lines added
abbrev pub Annotates : List Text → Text → Bool → Type 0
Annotates lines text whole = (plain : Text) × DecodesLines lines plain whole × IsWoven plain text × (without_indented text ≡ plain)

-- names are explained if an explanation is wanted
abbrev pub names_of : Bool → Names
names_of true = Added
names_of false = Omitted
