-- Which actions have a datagram that fits its fields: all actions of a plan's script, and those of a scan.
use Rattle.std.specs.Prelude.{◌<◌, ◌≤◌, Bool, true, false}
use Rattle.ec_device.specs.Types.{IsMailbox}
use Rattle.ec_start.specs.declared.action.Action.{Action}
use Rattle.ec_start.specs.declared.action.Action.TheVariants.{CountSlaves, AskInit, AwaitInit, ClearFmmus, ClearManagers, ClearStations, NameSlave, AskWord, AwaitWord, SetManager, SetFmmu, AskState, AwaitState, SendRequest, AwaitReply, AwaitFreeReply, AwaitInitState, ClearAllFmmus, ClearAllManagers, AssignSii, ClearSiiError, AwaitCleanInit, FeedPart}

abbrev pub IsDoable : Action → Type 0
IsDoable CountSlaves = Unit {0}
IsDoable AskInit = Unit {0}
IsDoable AwaitInit = Unit {0}
IsDoable ClearFmmus = Unit {0}
IsDoable ClearManagers = Unit {0}
IsDoable ClearStations = Unit {0}
IsDoable (NameSlave i) = i < 64
IsDoable (AskWord i which) = (i < 64) × (which < 0x8000)
IsDoable (AwaitWord i which) = i < 64
IsDoable (SetManager i n m r) = (i < 64) × (r.number < 4)
IsDoable (SetFmmu i n f start) = (i < 64) × (n < 4)
IsDoable (AskState i state) = i < 64
IsDoable (AwaitState i state) = i < 64
IsDoable (SendRequest i before b r) = (i < 64) × IsMailbox b
IsDoable (AwaitReply i b r) = (i < 64) × IsMailbox b
IsDoable (AwaitFreeReply i b r) = (i < 64) × IsMailbox b
IsDoable AwaitInitState = Unit {0}
IsDoable ClearAllFmmus = Unit {0}
IsDoable ClearAllManagers = Unit {0}
IsDoable (AssignSii access) = Unit {0}
IsDoable ClearSiiError = Unit {0}
IsDoable (AwaitCleanInit i) = i < 64
IsDoable (FeedPart f) = f.bytes ≤ 1422

-- whether it is a datagram over a part of the process data, which has a logical address
abbrev pub is_feed : Action → Bool
is_feed (FeedPart f) = true
is_feed _ = false
