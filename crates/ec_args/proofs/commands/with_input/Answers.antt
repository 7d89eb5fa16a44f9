use Rattle.ec_args.proofs.commands.with_input.Goals as goal

pub returns : goal.returns
returns c app made =
    c.with_argument.ensures _ _ c.terse_argument.ensures
    (c.with_argument-command.ensures _ _ c.text.ensures made)
