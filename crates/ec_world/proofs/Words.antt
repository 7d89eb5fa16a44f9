-- What the proofs of this crate name of other files, handed on: words and lemmas of std, the words and the laws of the crates below,
-- and the definitions of this crate.
pub use Rattle.std.proofs.Common.{◌≡◌, ℕ, zero, suc, ◌<◌, ◌≤◌, ◌≢◌, ◌&&◌, Bool, true, false, Option, None, refl, sym, ◌∙◌, ap, subst, inl, inr, arith, List, [], ◌∷◌, length, get_or, set, is_some, option_and_then, nat_lt, length-set, get_or-set_same, get_or-set_other, ◌+◌, ◌==◌, not, Some, map, slice_set, if◌then◌else◌, option_map, unwrap_or, ◌-◌, ◌^◌, nat_le, ◌++◌, replicate, is_none, ◌||◌, ◌*◌, slice_get, ◌⊎◌, cond, position, drop, drop-cons, Result, Ok, Err, OnOk, is_err, slice_index, bit_or, ◌%◌, mod-eq_of_lt, ◌/◌, append-nil as common_append-nil, append_assoc as common_append_assoc, take, min}
pub use Rattle.std.proofs.Math.ListN.{get_or-map, get_or-append}
pub use Rattle.std.proofs.Math.Seq.{set-append_seam, map-set_same, get_or-append_seam}
pub use Rattle.std.proofs.lemmas.Bool.{cases_eq, cases_lt, and_from, and_left, and_parts, lt-ltb, le-ltb, both_ways, le-leb, eq-eqb, cases_Bool, eqb-true, and_cases, and_right, or_cases, or_left, leb-true, true≢false, ltb-true, ltb-false, or_right, false≢true, ne_eqb}
pub use Rattle.std.proofs.lemmas.List.{length-map, length-replicate, set-get_or, length_push, map-set, length-append, get_or-map as list_get_or-map, append-nil, get_or_append_left, get_or_push, drop_all, append_assoc, get_or_past, ext_get_or, get_or-set_same as list_get_or-set_same, get_or-set_other as list_get_or-set_other, length-set as list_length-set, take-append-le, take_all, take_more}
pub use Rattle.std.proofs.lemmas.List.Elements.{All-from_get_or}
pub use Rattle.std.proofs.lemmas.List.Recursion.{is_count_by}
pub use Rattle.std.proofs.lemmas.List.Folds.{list_all-append, list_any_at}
pub use Rattle.std.proofs.lemmas.List.Sums.{fold-append}
pub use Rattle.std.proofs.lemmas.Nat.Bits.{bit_at_above, bit_at-zero}
pub use Rattle.std.proofs.lemmas.Option.{slice_get-get_or, slice_get_past, slice_get_within, get_or_from_slice_get}
pub use Rattle.std.specs.Int.{bit_at, from_bool}
pub use Rattle.std.specs.List.{list_all, list_any, position_or_len, count_by, AllByRecursion, fold, position_from, refill}
pub use Rattle.std.specs.Option.{option_map_or}
pub use Rattle.std.specs.Prelude.{All, IsTrue, ◌↔◌}
pub use Rattle.ec_bits.specs.Bits.{bytes_of_bits, zeros, within, bits_number, with_number}
unfoldable pub use Rattle.ec_bits.specs.Bits.{bit}
pub use Rattle.ec_bits.proofs.AnyLaws.{if_true, if_false, within_true, within_parts}
pub use Rattle.ec_bits.proofs.BitLaws.{from_bool-lt, overlay_alike, bit-overlay, bit-zeros, length-overlay}
pub use Rattle.ec_bits.proofs.Numbers.{bits_number-lt, bit_at-bits_number}
pub use Rattle.ec_frame.proofs.FrameOrFault.{one_payload}
unfoldable pub use Rattle.ec_regs.specs.Managers.{is_set}
unfoldable pub use Rattle.ec_sync.specs.Buffer.{app_written, app_read}
pub use Rattle.ec_fmmu.proofs.RunLaws.{read_set_is_run, write_set_is_run}
pub use Rattle.ec_slave.specs.Interface.{SlaveState, manager_at, power_on, served, emptied_buffer, Buffer, Got, drafted, draft_next, view_next, SyncManager, no_manager, outputs_lost, buffer_length, Init, Identity, SlaveKind, Sii, faulted, is_running, input_put, output_got, output_taken, with_manager, Datagram, LogicalSpan, outputs_from, inputs_into, Area, Spans, bare_payload, status_word, with_answer, byte_at, updated, adp_of, ado_of, Payload, IsFrame, with_datagrams, meets, passes, Passed, IsPassed, inputs_of, SyncManagerSettings, is_buffered, SafeOp, Op, Al, with_memory, with_outputs, with_published, outputs_shown, FmmuSettings, fmmu_of, may_read, may_write, publishing, inside_span, target, source, readers, writers, fmmus_of, IsMapped, takes, gives, Misses, no_settings, is_mailbox, span, ram_start, ram_end, may_app_put, may_app_get, governs, governor, no_fmmu, fmmus, IsBufferAt, Met, span_of, meets_logically, Lrd, Lwr, Lrw as SlaveLrw, AreWhole, State, IsDatagram, slave_met, datagram_met, al_word, state_number, PreOp, plain_kind, device_identity}
pub use Rattle.ec_slave.proofs.Memory.BroadcastLaw.{broadcast_read}
pub use Rattle.ec_slave.proofs.LogicalAccess.ExchangeLaw.{exchange}
pub use Rattle.ec_slave.proofs.LogicalAccess.OutputsPublished.{outputs_published, mapped_kept}
pub use Rattle.ec_slave.proofs.Commands.CommandLaws.{faults, logical_meet}
pub use Rattle.ec_slave.proofs.LogicalAccess.MissesLaw.{misses}
pub use Rattle.ec_slave.proofs.Memory.RegisterLaws.{shows_itself, updated_by_index}
pub use Rattle.ec_slave.proofs.Always.ValuesStayWhole.{stay_whole}
pub use Rattle.ec_slave.proofs.Always.HardwareLaws.{nothing_awaited, stays_outside}
pub use Rattle.ec_slave.proofs.Always.SlavesAreSwitchedOn.{switched_on, on_whole}
pub use Rattle.ec_ring.specs.Rings.{IsPassedAt, passes_ring}
pub use Rattle.ec_link.specs.declared.image.Variable.{Variable}
pub use Rattle.ec_link.specs.declared.plan.ExpectedCounters.{ExpectedCounters}
pub use Rattle.ec_link.specs.declared.plan.ExpectedCounters.TheVariants.{Lrw, Split}
pub use Rattle.ec_link.specs.declared.plan.PartPlan.{PartPlan}
pub use Rattle.ec_link.specs.declared.settings.Share.{Share}
pub use Rattle.ec_link.specs.declared.settings.SlavePlan.{SlavePlan}
pub use Rattle.ec_link.specs.Interface.{slave_at, AreListed, output_manager, IsUsable, Contents, Meaning, meaning, PlanState, plan_of, same_counters, unit_of_part, predicted, Gave, counters_of, sum_of, lwr_count, lrd_count, lrw_count, whole_share, nothing_given, share_of, Linked, area_at, in_source, span_of_part, part_at, no_part, compile_fault, IsLaid, has_outs, has_ins, out_source, Direction, Out, In, SlaveRow, IsLinked, is_out, image_from, placed, IsPair, AreItsLinks, part_of, IsInImage, HasBit, IsPlaced, image, object_bits, no_slave as no_slave_plan, area_of, process_manager, has_byte, FitsRam, input_manager, fmmu_of as link_fmmu_of, share_in, HasRoom}
pub use Rattle.ec_link.proofs.PlansHaveTheLinks.{links_are_the_tables}
pub use Rattle.ec_link.proofs.LinkLaws.{linked_inputs}
pub use Rattle.ec_link.proofs.MappedBits.{room_law}
pub use Rattle.ec_link.proofs.SettingsAreListed.{listed}
pub use Rattle.ec_link.proofs.VariablesArePlaced.{variables_are_placed, linked_bits_are_there}
pub use Rattle.ec_link.proofs.Soundness.{plan_sound}
pub use Rattle.ec_link.proofs.UnitsListed.{lists_units}
pub use Rattle.ec_link.proofs.UsableLaws.{plan_usable}
pub use Rattle.ec_link.proofs.VariablesApart.{bits_are_apart}
pub use Rattle.ec_start.specs.declared.error.StartError.{StartError}
pub use Rattle.ec_start.specs.declared.error.StartError.TheVariants.{Lost, NumbersSpent}
pub use Rattle.ec_start.specs.declared.phase.NextFrame.TheVariants.{Send, Ended}
pub use Rattle.ec_start.specs.declared.phase.Phase.{Phase}
pub use Rattle.ec_start.specs.declared.phase.Phase.TheVariants.{Idle, Ready, Failed, Sent}
pub use Rattle.ec_start.specs.Interface.{script, StartState, last_number, HasFewAssigned, IsStartable, name_datagram, datagram_of, IsStartTaken, IsOutstanding, action_of, second, sending, shape as shape_sent, frame_of, taken, given_up_by, asked, asked_by, next_frame, next_frame_by, IsStartAnswer, is_accepted}
unfoldable pub use Rattle.ec_start.specs.Running.{begun}
pub use Rattle.ec_start.proofs.Assigned.{startable_is_taken}
pub use Rattle.ec_start.proofs.LawLemmas.{plans_stay}
pub use Rattle.ec_start.proofs.ScriptLengths.{scripts_are_short}
pub use Rattle.ec_start.specs.declared.action.Feed.{Feed}
pub use Rattle.ec_start.specs.declared.action.Action.{Action}
pub use Rattle.ec_start.specs.Running.{is_fed}
unfoldable pub use Rattle.ec_start.specs.Feeding.{feeds_of}
pub use Rattle.ec_start.specs.Feeding.{feeds_from}
pub use Rattle.ec_start.specs.Scripts.{is_hardware}
pub use Rattle.ec_start.specs.Laws.{HasSamePlan}
pub use Rattle.ec_bringup.specs.Counting.{frames_up}
pub use Rattle.ec_bringup.proofs.StartUp.FewFrames.{frames-few}
pub use Rattle.ec_bringup.specs.Instants.{Feeding}
pub use Rattle.ec_bringup.specs.Fed.{AreFeedsOf}
pub use Rattle.ec_bringup.proofs.Script.FeedsOfPlans.{parts_can_be_fed}
pub use Rattle.ec_bringup.specs.Instants.{Starts, Between, UnderWay, Adrift, Over, IsReady}
pub use Rattle.ec_bringup.specs.Interface.{IsOfType, IsGenuine, AreGenuine, plan_at, slave_of as bringup_slave_of, Rising as BringupRising, turns, no_identity, switched_on as bringup_switched_on, IsUpAndWorks, AreStartable, trouble_at, no_plan, is_beginning, end_of, IsOfKind, unviewed, Config, Starting, kind_at, ends_of, HoldsAll, SlaveHealth, Carried, flags_sent, with_begun, with_slave as with_slave_at, Sends as SendsNext, Passes as PassesOne, Loses as LosesOne, Returns as ReturnsOne, Strays, Closes as ClosesOne, Serves as BringupServes, Puts as PutsOne, Gets as GetsOne, Faults, Resets, all_passed, all_met, turned, IsRound, AreSlaves}
pub use Rattle.ec_bringup.specs.Slots.{IsCarried}
pub use Rattle.ec_bringup.proofs.StartUp.ComesUpLaw.{compiled-up}
pub use Rattle.ec_bringup.proofs.Script.CompiledPlansLaw.{are-plans}
pub use Rattle.ec_bringup.proofs.OneSlave.FmmusHeld.{fmmus-held}
pub use Rattle.ec_bringup.proofs.OneSlave.DevicesLaw.{stay, stays}
pub use Rattle.ec_bringup.proofs.OneSlave.SlavesOfLaw.{of-types, with-types}
pub use Rattle.ec_bringup.proofs.OneSlave.Reset.{power_on_is}
pub use Rattle.ec_bringup.proofs.AllSlaves.RoundLaw.{round}
pub use Rattle.ec_bringup.proofs.StartUp.StartUpLaw.{ready-shown, happens-on, begun-starts, frame-passes}
pub use Rattle.ec_cycle.specs.declared.error.CycleError.{CycleError}
pub use Rattle.ec_cycle.specs.Interface.{nones, OpenCycle, cycle_limit, ReturnedPart, is_good, unit_taken, bytes_of, returned_bit, inputs_closed, report_of, returned_part_of, Answers, IsReturned, MasterState, readied, sent_datagrams, Begun, frame_of as cycle_frame_of, bytes_at, name_datagram, status_datagram, process_datagrams, process_bytes, returned_first, ReportState, value_at, value_of, joined, word_of_returned, IsAnswer, IsTaken, closed, holds_value, value_put, variable_set, process_datagram, all_from, name_of, with_returned, cyclic_datagrams}
pub use Rattle.ec_cycle.proofs.AnswersFrame.{names_tell}
pub use Rattle.ec_cycle.proofs.Matches.{taken_plan as master_plan}
pub use Rattle.ec_cycle.proofs.OnTheirWay.{answer_on_their_way, frames_are_returned, data_fill_their_part}
pub use Rattle.ec_cycle.proofs.ProcessBits.{outputs_by_source}
pub use Rattle.ec_world.specs.AlWords.{said_by, IsHeard, AreHeard, PartSays, IsNotBack, IsBack, WordShows, WordLaw, OpWordLaw}
pub use Rattle.ec_world.specs.Exchanging.{given_in, slave_left, given_by}
pub use Rattle.ec_world.specs.FrameRefines.{note_at, GaveAs, DatagramsRefine, KeptRefines, DataRefines, FrameRefines, out_bit}
pub use Rattle.ec_world.specs.Headline.{HeadlineShows, Says, IsMade, IsBegun as HeadlineIsBegun, HasLost, IsUnderWay, HadTrouble, IsInOp, progress_at, variable_bit, output_bits, input_bits, GivesLess, unit_of, unit_of_part as headline_unit_of_part, IsRead, IsTaken as HeadlineIsTaken, FellShort as HeadlineFellShort, Cause, ByLoss, ByEarlyClose, ByFallingShort, IsMissed as HeadlineIsMissed, ListsUnits, CloseShows, HeadlineLaw, EachIsPromised, ShowsLinked, PassShows, HasPassed as HeadlineHasPassed, IsRunWithoutStart, begins_start, input_bit, variable, buffer_of, published, with_buffer, OnlyPublishes, broadcast_at, SetShows, TouchShows, PutShows, FallShows}
pub use Rattle.ec_world.specs.Held.{AreFrames, cycle_frames, AreOfPlan, IsAnswered, IsTakenIn, IsHandedIn}
pub use Rattle.ec_world.specs.Laws.{IsRun, BringsWord, notes_round, SlavesFrom, RoundTrip, word_past, in_op, CycleLaw, StepsRefine, RunsRefine, RunsJoin, StepRefines, IsUnstopped, UnstoppedLaw}
pub use Rattle.ec_world.specs.Lengths.{IsOfLength}
pub use Rattle.ec_world.specs.NewWorld.{IsTurn, AreTurns, frames_to_ready, BringUp, IsToStart, IsBroughtUp, NewLaw, MachineLaw, rising_of, IsRest, Passes as NewWorldPasses, Returns as NewWorldReturns, Serves, Ends, servings, TurnLaw}
pub use Rattle.ec_world.specs.Plain.{Plain, PlainSlave, Health, Working, Faulted, Reset, plain_slave, no_plain_slave, is_working, failing, restarting, at_slave, is_reset, got_byte, PlainFrame, Cycle, unit_full, step, run, frame_at, filled, new_frames, progress_of, moved, keeping, with_note, met_note, all_progress, is_older, lets_by, may_pass, may_return, Note, Other, Short, Full, is_full, all_full, noted_bit, notes_of_part, taken_bit, inputs_taken, linked_outputs, with_slot, giving, met_slave, passing, losing, taking, setting, beginning, closing, Closed, returning}
pub use Rattle.ec_world.specs.Promises.{IsBegun, IsClosedAs, IsCounted, FallsShort, QuietLaw, unit_of_slave, is_of_unit, holds_of_unit, still_comes, is_awaited, disturbs, IsNoted, IsMissed, NotBack, FellShort, IsNotedAt, IsQuiet as PromisesIsQuiet, AreLinked, SnapshotsLaw, WorkingLaw, has_outputs_for, IsPublished, OutputsLaw, NotesLaw, InputsLaw, PublishedLaw, TakenLaw, HasNoFrame}
pub use Rattle.ec_world.specs.Rising.{Rising, SlotsHold, starting_of, IsInSlot, IsFit}
pub use Rattle.ec_world.specs.RunLaws.{OrderLaw, OneOutcomeLaw, TroubleLaw, BegunOnceLaw, PassedOnceLaw}
pub use Rattle.ec_world.specs.Refines.{Refines, CyclesRefine, CycleRefines, said, CountersPredicted, ReportRefines}
pub use Rattle.ec_world.specs.SlaveRefines.{IsQuiet, Holds, IsWorking, IsFaulted, IsReset, IsAs, SlaveRefines, HoldsData}
pub use Rattle.ec_world.specs.Slots.{HavePassed, AreInUse, clearance_behind, AreFreeFrom, HasPassed, HasClearance, no_end, HoldsFrame}
pub use Rattle.ec_world.specs.Undisturbed.{rounds_of, IsAtRest, Rests, round_of, cycle_of, IsSpoiled, LossLaw, EarlyLaw, ShortLaw, IsExchanged, UndisturbedLaw}
pub use Rattle.ec_world.specs.Whole.{IsNew, plain_of, new_world, RunOutcome, no_trouble, slot_count, flags_after, flags_of, IsReadyWorld, health_of, plain_slave_of, ShowsZeros, HasStarted, NotYet, Started, WholeLaw, CompiledLaw}
pub use Rattle.ec_world.specs.World.{WorldState, slave_of, no_slave, with_slave, Puts, Gets, is_up, flight_at, flight_progress, IsStep, Flight, phase_ready, phase_awaits, awaits, resumed, ready_with, flights_from, flights_progress, Passes, stopped, can_stop, ByStart, GivesUp, Closes, can_start, StartReturns, Returns, Begins, can_begin, Happens, is_slave, can_happen, Sends}
pub use Rattle.ec_world.specs.declared.event.Event.{Event}
pub use Rattle.ec_world.specs.declared.event.Event.TheVariants.{Begin, Close, Pass, Return, Lose, Fault, Reset as ResetSlave, StartNext, Set, Serve, AppPut, AppGet, Stop}
pub use Rattle.ec_world.specs.declared.progress.Progress.{Progress}
pub use Rattle.ec_world.proofs.Lists.{some_of, some_if, none_if, none_mapped, nones-all, is_some-mapped, some_guarded, none_some, some_same, same_progress, all_none, all_from-each, all_from-alike, nones-alike, there_too, map-alike, all_each, theres, first_same, rest_same, get_or-set_default, flight_pairs, passes_there, is_some-guarded, within_of, same_slots, returns_there, same_truth, each_all, Pairs, plain_frame, cycle_begun, filled-none, filled-length, none_free, none_in, some_or}
