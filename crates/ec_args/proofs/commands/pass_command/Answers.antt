use Rattle.ec_args.proofs.commands.pass_command.Goals as goal

pub returns : goal.returns
returns c =
    c.with_argument.ensures _ _ (c.required.ensures _ c.text.ensures)
    (c.with_argument-command.ensures _ _ (c.required-slaves.ensures _ c.number.ensures) c.help_of-command.ensures)
