use Rattle.ec_args.proofs.commands.loop_command.Goals as goal

pub returns : goal.returns
returns c =
    c.with_input.ensures _
    (c.with_argument-command-3.ensures _ _ c.explain_argument.ensures
    (c.with_argument-command-2.ensures _ _ c.capture_argument.ensures
    (c.with_argument-command.ensures _ _ (c.required-cycles.ensures _ c.number.ensures) c.used_as-command.ensures)))
