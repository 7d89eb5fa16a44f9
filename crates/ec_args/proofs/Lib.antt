-- what `clap` makes of the arguments of `ecat pass`, spelled out
mod PassArguments
-- what `clap` makes of the arguments of `ecat plan`, spelled out
mod PlanArguments
-- what is read of the arguments of a command, and of those that are spelled out
mod RequestLemmas
