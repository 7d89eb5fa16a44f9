-- The numbers of the commands (ETG.1000.4, "Commands").
use Rattle.std.specs.Prelude.{ℕ}
use Rattle.ec_frame.specs.declared.command.Command.{Command}
use Rattle.ec_frame.specs.declared.command.Command.TheVariants.{Nop, Aprd, Apwr, Aprw, Fprd, Fpwr, Fprw, Brd, Bwr, Brw, Lrd, Lwr, Lrw, Armw, Frmw}

abbrev pub number_of : Command → ℕ
number_of Nop = 0
number_of Aprd = 1
number_of Apwr = 2
number_of Aprw = 3
number_of Fprd = 4
number_of Fpwr = 5
number_of Fprw = 6
number_of Brd = 7
number_of Bwr = 8
number_of Brw = 9
number_of Lrd = 10
number_of Lwr = 11
number_of Lrw = 12
number_of Armw = 13
number_of Frmw = 14
