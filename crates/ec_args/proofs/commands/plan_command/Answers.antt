use Rattle.ec_args.proofs.commands.plan_command.Goals as goal

pub returns : goal.returns
returns c =
    c.with_input.ensures _
    (c.with_argument-command-3.ensures _ _ c.flag-2.ensures
    (c.with_argument-command-2.ensures _ _ c.option.ensures
    (c.with_argument-command.ensures _ _ c.flag.ensures c.used_as-command.ensures)))
