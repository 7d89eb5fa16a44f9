use Rattle.ec_args.proofs.commands.scan_command.Goals as goal

pub returns : goal.returns
returns c =
    c.with_argument.ensures _ _ c.terse_argument.ensures
    (c.with_argument-command-6.ensures _ _ c.flag.ensures
    (c.with_argument-command-5.ensures _ _ c.capture_argument.ensures
    (c.with_argument-command-4.ensures _ _ c.option-2.ensures
    (c.with_argument-command-3.ensures _ _ (c.by_default-patience.ensures _ c.number.ensures)
    (c.with_argument-command-2.ensures _ _ c.descriptor_argument.ensures
    (c.with_argument-command.ensures _ _ (c.by_default-to.ensures _ c.option.ensures) c.used_as-command.ensures))))))
