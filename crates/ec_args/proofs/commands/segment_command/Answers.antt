use Rattle.ec_args.proofs.commands.segment_command.Goals as goal

pub returns : goal.returns
returns c =
    c.with_input.ensures _
    (c.with_argument-command-10.ensures _ _ c.explain_argument.ensures
    (c.with_argument-command-9.ensures _ _ c.strict_argument.ensures
    (c.with_argument-command-8.ensures _ _ c.capture_argument.ensures
    (c.with_argument-command-7.ensures _ _ (c.by_default-idle.ensures _ c.number-3.ensures)
    (c.with_argument-command-6.ensures _ _ c.flag-2.ensures
    (c.with_argument-command-5.ensures _ _ c.flag.ensures
    (c.with_argument-command-4.ensures _ _ c.descriptor_argument.ensures
    (c.with_argument-command-3.ensures _ _ (c.by_default-port.ensures _ c.number-2.ensures)
    (c.with_argument-command-2.ensures _ _ (c.by_default-bind.ensures _ c.option.ensures)
    (c.with_argument-command.ensures _ _ c.number.ensures c.used_as-command.ensures))))))))))
