-- What the crates above may know of bring-ups: the words that their laws speak of, handed on.
pub use Rattle.ec_bringup.specs.Applied.{Applied, Rests, Reads, Writes, AreApplied, TurnsTo, Stays as AppliedStays, Turns, AppliedUpLaw}
pub use Rattle.ec_bringup.specs.BringUp.{rising, IsBroughtTo, Rests as BringUpRests, RunsOut, Turns as BringUpTurns}
pub use Rattle.ec_bringup.specs.ComesUp.{AllAgree, FramesAreFew, IsUpAndWorks, IsOnItsWay, ComesUpLaw, PlainUpLaw, CompiledUpLaw, CompiledPlansLaw, IsTrue, AreTrue, AgainLaw}
pub use Rattle.ec_bringup.specs.Complete.{IsReachable, CanReach, IsIdentity, IsNumbered, IsOffered, AreOffered, IsAssignable, IsComplete, carries}
pub use Rattle.ec_bringup.specs.Counting.{steps_slow, steps_left, until_init, until_all, until_clean, until_reply, until_heard, frames_each, polls_more, frames_behind, frames_up}
pub use Rattle.ec_bringup.specs.Dictionaries.{sizes_of, sizes_in, IsDictionary, done_by, AreDone, Came, IsShown, ShowsBy, ShowsAll, mappings, ParametersAgree}
pub use Rattle.ec_bringup.specs.Devices.{IsGenuine, SwitchedOnLaw, DevicesLaw, RingLaw, AreGenuine, AreOfTypes, IdentitiesLaw, TypedSlavesLaw, SlavesOfLaw}
pub use Rattle.ec_bringup.specs.Fed.{planned, span_of_feed, IsAway, IsFeedOf, AreFeedsOf, IsFeedAt, with_outputs_written, IsLeft, sum_up, IsCountedIn, Within, Outside, IsPredicted, ArePredicted, PartsCanBeFed, PartsArePredicted}
pub use Rattle.ec_bringup.specs.Frames.{ShowsLow, IsWriting, Arrives, IsOther, MayRepeat, Met, MayEnd, Untouched, ReadsOn, IsBroadcast, ShowsInit}
pub use Rattle.ec_bringup.specs.Keeping.{FeedLaw, FrameLaw, StaysStanding}
pub use Rattle.ec_bringup.specs.Runs.{is_idle, is_beginning, BeginningLaw, Works, SlaveHealth, Working, Faulted, WasReset, with_passed, with_start, with_slave, with_begun, AreStartable, Happens, Sends, Passes, Loses, Returns, Strays, Closes, Serves, Puts, Gets, Faults, Resets, Runs, Stops, Steps, Begins, with_sent, with_empty, with_lost, ends_of, HoldsAll, HasFault, StartUpLaw, IsNew, flags_sent}
pub use Rattle.ec_bringup.specs.Stages.{Rise, Falls, Stays, Climbs, Claim, Talk, Config, Stage, Before, Called, Down, Lowered, Up, fresh_lowered, named_of, IsAtInit, IsEarly, IsNamed, IsLowered, IsBelow, answered, no_claim, claimed, answered_by, talked_over, asked_all, prepared, fresh, config_after, after, IsLow, slot_claimed, end_of, IsStepUp, Fits, IsUp, CanAct, CanClimb, IsClimbing, climbing, IsClear, if_mine, FitsMine}
pub use Rattle.ec_bringup.specs.Standing.{takes_messages, greeting_of, left_to_say, raw_verdict, IsOfKind, HasFallen, IsLoweredAt, unviewed, HoldsZeros, IsConfigured, IsAssigned, Claims, IsSilent, Talks, IsInInit, IsIn, StaysIn, Rises, IsUpAt, AreClear, IsDownAt, Reached, IsGone, HadFault, Stands, IsAsked, IsFaulted, IsTop, HasAll, IsSent, IsFaultedAt}
pub use Rattle.ec_bringup.specs.Starting.{Carried, Starting, no_slave, slave_at, trouble_at, kind_at, AreSlaves, no_plan}
pub use Rattle.ec_bringup.specs.SwitchedOn.{no_identity, switched_on, AreIdentities, AreSlavesOf}
pub use Rattle.ec_bringup.specs.Undisturbed.{IsOfType, Rising, turned, turns, frame_at, all_passed, all_met, ArePlans, ArePlansWith, AreDevices, plan_at, unplanned, slave_of, IsDevice, RoundLaw, IsRound}
