use Rattle.ec_args.proofs.commands.command.Goals as goal

pub returns : goal.returns
returns c =
    (c.with_command.ensures _ _
    (c.with_command-commands-8.ensures _ _
    (c.with_command-commands-7.ensures _ _
    (c.with_command-commands-6.ensures _ _
    (c.with_command-commands-5.ensures _ _
    (c.with_command-commands-4.ensures _ _
    (c.with_command-commands-3.ensures _ _
    (c.with_command-commands-2.ensures _ _
    (c.with_command-commands.ensures _ _ c.program.ensures c.pass_command.ensures) c.plan_command.ensures) c.decode_command.ensures) c.encode_command.ensures) c.sim_command.ensures) c.loop_command.ensures) c.segment_command.ensures) c.master_command.ensures) c.scan_command.ensures).said
