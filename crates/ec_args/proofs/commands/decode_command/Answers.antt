use Rattle.ec_args.proofs.commands.decode_command.Goals as goal

pub returns : goal.returns
returns c =
    c.with_input.ensures _
    (c.with_argument-command-2.ensures _ _ c.flag.ensures
    (c.with_argument-command.ensures _ _ c.option.ensures c.used_as-command.ensures))
