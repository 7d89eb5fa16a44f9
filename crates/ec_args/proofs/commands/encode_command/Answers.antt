use Rattle.ec_args.proofs.commands.encode_command.Goals as goal

pub returns : goal.returns
returns c = c.with_input.ensures _ c.used_as-command.ensures
