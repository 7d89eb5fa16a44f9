-- What the proofs of this crate name of other files, handed on: words and lemmas of std, the words and the laws of the crates below,
-- and the definitions of this crate.
pub use Rattle.std.proofs.Common.{ℕ, ◌+◌, ◌*◌, ◌<◌, ◌≡◌, Bool, false, Option, Some, None, refl, sym, ◌∙◌, ap, subst, inl, inr, arith, List, length, slice_index, zero, suc, ◌≢◌, true, [], ◌∷◌, get_or-set_other, ◌==◌, not, ◌++◌, take, append_assoc, length-append, ◌&&◌, if◌then◌else◌, get_or, nat_lt, ◌-◌, ◌≤◌, ◌%◌, map, ◌/◌, ◌^◌, Result, Ok, Err, set, drop, ◌⊎◌, eqb, All, length-set, get_or-set_same, unwrap_or, option_map, is_some, option_and_then, is_none, slice_get, slice_set, nat_le, ◌||◌, replicate, vec_len, length-take-le}
pub use Rattle.std.proofs.Math.Nat.{mod-eq_of_lt}
pub use Rattle.std.proofs.lemmas.Bool.{eq-eqb, ne_eqb, both_ways, cases_eq, or_left, or_right, cases_Bool, lt-ltb, le-ltb, and_left, le-leb, false≢true, cases_lt, eqb-true, and_from, and_parts, and_right, leb-true, ltb-true}
pub use Rattle.std.proofs.lemmas.List.{append-nil, take_all, length-map, drop_more, drop_all, set_past, length-replicate, take_more}
pub use Rattle.std.proofs.lemmas.List.Edits.{map_over_more}
pub use Rattle.std.proofs.lemmas.Nat.{le_or_l, le_or_r, or_mod, from_le_bytes-to_le_bytes_4}
pub use Rattle.std.proofs.lemmas.Option.{slice_get-map, get_or_from_slice_get}
pub use Rattle.std.specs.Int.{bit_at, from_bool, to_le_bytes, w32}
pub use Rattle.std.specs.List.{flat_map, Contains}
pub use Rattle.std.specs.Option.{option_or}
pub use Rattle.std.specs.Prelude.{bit_or, IsTrue as PreludeIsTrue}
pub use Rattle.ec_bits.specs.Bits.{zeros, bytes_of_bits, within}
unfoldable pub use Rattle.ec_bits.specs.Bits.{any_below}
pub use Rattle.ec_regs.proofs.ShownBack.{settings_back as settings_go_back}
pub use Rattle.ec_bits.proofs.AnyLaws.{if_true, if_false, within_true, within_below, within_above, any_below_from, any_below_none}
unfoldable pub use Rattle.ec_regs.specs.Managers.{is_set}
unfoldable pub use Rattle.ec_sii.specs.Port.{written}
unfoldable pub use Rattle.ec_sii.specs.SiiImage.{word_at as sii_image_word_at}
pub use Rattle.ec_sync.specs.Buffer.{app_written}
unfoldable pub use Rattle.ec_sync.specs.Buffer.{app_read}
unfoldable pub use Rattle.ec_fmmu.specs.Runs.{run_settings}
unfoldable pub use Rattle.ec_coe.specs.Answers.{answered as answer_of}
unfoldable pub use Rattle.ec_coe.specs.Objects.{object_values}
unfoldable pub use Rattle.ec_coe.specs.Replies.{reply_in}
unfoldable pub use Rattle.ec_coe.specs.Transfers.{uploaded, downloaded, assignment_written as transfers_assignment_written}
pub use Rattle.ec_coe.proofs.DownloadEffects.{Assigned, Counted, Slotted, Downloaded as EffectsDownloaded, Outputs, Inputs, Effect, Assigns, Puts, download-effect, answered-slots, good}
pub use Rattle.ec_coe.proofs.ReplyLetters.{message_or_none}
pub use Rattle.ec_coe.proofs.Names.{replies_fit, replies_alone, uploads_expedited}
pub use Rattle.ec_coe.proofs.ReadBack.{reads-as-message, command-read, reads_back, service-read, index-read, subindex-read, value-read, length-message}
pub use Rattle.ec_coe.proofs.AssignmentWrites.{outs-own, ins-own}
pub use Rattle.ec_slave.specs.Interface.{SlaveKind, SyncManagerSettings, emptied_buffer, SyncManager, buffer_length, State, Init, PreOp, SafeOp, Op, Al, SlaveState, manager_at, station_of, Assignment, all_assigned, Buffer, no_manager, is_running, with_manager, Entry, Pdo, Mailbox, SdoValue, assigned, indices, byte_value, word_value, output_assignment, input_assignment, has_some, pdo_at, Datagram, no_settings, Device, IsDatagram, Payload, IsFrame, with_datagrams, bare_payload, served, state_number, al_flag, sii_error, sii_busy, size_number, message_read, reply_of, Reply, Downloaded, Uploaded, Aborted, Unexpected, is_stored, configured, Command, Bwr, adp_of, ado_of, requesting, role_of, adp_after, is_reading, is_writing, Window, touches, physical_after, is_configured, window_of, slave_met, datagram_met, control_word, Wrote, set_by, OnlyWrites, ValueSize, AbortCode, Message, Service, Request as RequestService, Response, Other as OtherService, SdoCommand as Sdo, DownloadRequest, DownloadResponse, UploadRequest, UploadResponse, Abort as AbortCommand, message_bytes, message_in, command_of, command_number, reply_by, response_in, abort_in, Dictionary, Answer, answer_by, download_answer, value_of, FmmuSettings, device_of, takes_writes, manager_bytes, fmmu_bytes, Checks, answer, requested_by, acknowledges, size_of, Sii, read_command, checks_of, no_fmmu, area_settings, outputs_control, inputs_control, IsEntry, IsMailbox, ArePdos, first_output_index, first_input_index, bits_assigned, contains, distinct, fmmu_of, fmmus, Identity, SiiImage, app_put, Got, power_on, input_put, output_got, output_taken, faulted, view_next, may_app_put, may_app_get, app_got, outputs_lost, passes, inputs_put, outputs_taken, is_mailbox, is_master_written, is_master_read, is_manager, mailbox_check, process_check, Fprd, Fpwr, meets, span, is_enabled, sync_manager_message_in as mailbox_message_in, padded, may_write, One, Two, Three, Four, message_length, service_of, service_number, KeepsBesideMessages, IsAnswered, dictionary_of, is_preop, has_mailbox, takes_reply, is_served, request_for, request_in, reply_counter, answer_to, bytes_to, message_served, is_init, read_finished, request_decided, governor, covers, in_first_buffer, writes_under, reply_bytes, Apwr, with_adp, Met as Meeting, upload_answer, reply_to, identity_object, entry_number, long_value, assignment_values, pdo_values, device_name_object, face_values_of, send_room, value_or_abort, value_at, takes_value, is_open, with_value, with_outs, with_ins, settings_written, with_answer, byte_at, updated, ram_start, Fprw, is_joining, byte_read, may_read_byte, may_write_byte, some_byte_read, some_byte_written, is_written, OnlyReads, ram_end, may_read, ring_read, visible, governs, reads_under, is_ungoverned, is_read_by, physical_manager, physical_managers, ram_byte, Passed, is_buffered, ring_written, Brd, is_written_by, physical_value, zeros_published, StatusCode, InvalidMailboxConfiguration, InvalidOutputConfiguration, InvalidInputConfiguration, code_number, decided, answered as slave_answered, unlocked_empty, managers_entered, with_al, settings_of, byte_for, commanded, addressed, address_written, IsPdo, IsWithinLimits, plain_kind, device_identity, Hardware, fmmu_count, has_firmware, manager_number, manager_place, other_name, shown_fmmu, shown_manager, is_missing, keeps, awaiting, outputs_awaited, is_awaiting, al_decided, has_outputs, copied}
pub use Rattle.ec_al.specs.Transitions.{requested_number}
pub use Rattle.ec_device.specs.Hardware.{AreNumbered}
pub use Rattle.ec_slave.specs.HardwareLaws.{naming_manager}
pub use Rattle.ec_start.specs.Actions.{access_number}
pub use Rattle.ec_slave.specs.State.{with_memory}
pub use Rattle.ec_start.specs.Scripts.{settled_by}
pub use Rattle.ec_bringup.specs.Standing.{init_request}
pub use Rattle.ec_slave.proofs.Always.HardwareLaws.{names_taken as slaves_take_names}
pub use Rattle.ec_slave.proofs.Memory.RegisterResets.{managers_cleared as managers_clear, on_left}
unfoldable pub use Rattle.ec_slave.specs.Physical.{is_stored_at}
pub use Rattle.ec_slave.specs.Serving.{is_safeop, is_slow, greets, greets_by, emergency_put, managers_decided, replies_decided, has_room}
pub use Rattle.ec_al.specs.Al.{waiting}
pub use Rattle.ec_coe.specs.Emergency.{emergency_bytes}
pub use Rattle.ec_coe.specs.Objects.{own_values, parameter_of, is_assignment}
pub use Rattle.ec_coe.specs.Transfers.{uploaded_by, written_by, object_written}
pub use Rattle.ec_coe.specs.Replies.{is_aside, is_unsized, sized_command, sized_message, free_reply_of}
pub use Rattle.ec_coe.proofs.Devices.{set_aside, plain_dictionary}
pub use Rattle.ec_device.specs.declared.parameter.Parameter.{Parameter}
pub use Rattle.ec_device.specs.Hardware.{is_assignable, is_fixed, slow, has_emergency}
pub use Rattle.ec_device.specs.Parameters.{byte_count}
pub use Rattle.ec_start.specs.declared.aside.Heard.{Heard}
pub use Rattle.ec_slave.proofs.Memory.BroadcastLaw.{broadcast_read}
pub use Rattle.ec_slave.proofs.Commands.PassedBy.{other_position_passes, other_station_passes, heading_stays}
pub use Rattle.ec_slave.proofs.Memory.WritesByByte.{reads_by_byte, writes_by_byte}
pub use Rattle.ec_slave.proofs.FirmwareRuns.StepLaws.{settles, checks, three_parts, messages_keep, messages_rest, requests_answered, decided as requests_decided, finished}
pub use Rattle.ec_slave.proofs.Always.DatagramsKeepTheInside.{inside_kept}
pub use Rattle.ec_slave.proofs.Commands.CommandLaws.{writes_meet, goes_on, datagrams_stay as meets-keeps, faults, by_bytes, reads_meet, logical_meet}
pub use Rattle.ec_slave.proofs.Memory.RegisterLaws.{registers_written as wrote, managers_aside as unconfigured, ram_governed, shows_itself, updated_by_index, registers_open, registers_read, accesses_leave, managers_accessed, updated_whole, whole_values}
pub use Rattle.ec_slave.proofs.FirmwareRuns.RestsQuietly.{settings_kept}
pub use Rattle.ec_slave.proofs.Always.SlavesAreSwitchedOn.{switched_on}
pub use Rattle.ec_ring.specs.Rings.{passes_ring, HasPassedRing}
pub use Rattle.ec_table.specs.declared.rows.TypeRow.{TypeRow}
pub use Rattle.ec_link.specs.declared.settings.SlavePlan.{SlavePlan}
pub use Rattle.ec_link.specs.Interface.{plan_of, indices_of, process_manager, fmmus_of, manager_of, AreManagers, IsOfItsType, IsUsable, slave_at as link_slave_at, Contents, compile_fault, PlanState, identity_of, SlaveRow}
pub use Rattle.ec_link.proofs.SettingsAreListed.{listed}
pub use Rattle.ec_link.proofs.OfTypes.{slaves_are_of_their_types}
pub use Rattle.ec_link.proofs.Soundness.{plan_sound}
pub use Rattle.ec_link.proofs.UsableLaws.{plan_usable}
pub use Rattle.ec_start.specs.declared.action.Action.{Action}
pub use Rattle.ec_start.specs.declared.action.Action.TheVariants.{AwaitInit, AskWord, AwaitWord, AwaitState, AwaitReply, CountSlaves, AskInit, ClearFmmus, ClearManagers, ClearStations, NameSlave, SetManager, SetFmmu, AskState, SendRequest, AwaitFreeReply, AwaitInitState, ClearAllFmmus, ClearAllManagers, AssignSii, ClearSiiError, AwaitCleanInit, FeedPart}
pub use Rattle.ec_start.specs.declared.action.SdoRequest.{SdoRequest}
pub use Rattle.ec_start.specs.declared.action.SiiAccess.{SiiAccess}
pub use Rattle.ec_start.specs.declared.action.ManagerRegister.{ManagerRegister}
pub use Rattle.ec_start.specs.declared.action.Feed.{Feed}
pub use Rattle.ec_start.specs.declared.verdict.WantedDevice.{WantedDevice}
pub use Rattle.ec_start.specs.declared.action.Transfer.{Transfer}
pub use Rattle.ec_start.specs.declared.action.Transfer.TheVariants.{Upload, Download}
pub use Rattle.ec_start.specs.declared.error.StartError.{StartError}
pub use Rattle.ec_start.specs.declared.error.StartError.TheVariants.{TooSlow, Count, Counter, Lost}
pub use Rattle.ec_start.specs.declared.phase.NextFrame.{NextFrame}
pub use Rattle.ec_start.specs.declared.phase.NextFrame.TheVariants.{Send, Waiting, Ended}
pub use Rattle.ec_start.specs.declared.phase.Phase.{Phase}
pub use Rattle.ec_start.specs.declared.phase.Phase.TheVariants.{Idle, Sent, Ready, Failed}
pub use Rattle.ec_start.specs.declared.verdict.Verdict.{Verdict}
pub use Rattle.ec_start.specs.declared.verdict.Verdict.TheVariants.{Next, Word, Again, Aside, Fails, Fed}
pub use Rattle.ec_start.specs.Interface.{requests, downloads, entries_read, pdo_read, slots_written, assignment_written, IsStartable, script, verdict, StartState, action_of, type_of, judged, taken, given_up_by, max_polls, settings_at, fmmu_at, named, identified, mailbox_set, raised, exchanged, talked, manager_set, fmmu_set, mapped, each_slave, cleared, phases, AreMailboxes, datagram_of, frame_of, counted, word_verdict, state_verdict, reply_verdict, word_at, long_at, is_device, with_word, asked, asked_by, next_frame, next_frame_by, sending, second, is_ended, is_sent, last_number, IsStartTaken, request_command, request_value, message_verdict, IsRequest, IsTransfer, advanced, with_identity, station, word_address_of, IsFmmu, at, AreRequests, filled, request_bytes, request_message, sent, uploads, upload_verdict, name_datagram, Shape, shape, IsStartAnswer, step_of, is_fed, feed_or, wanted_of, feeds_of, feeds_from, is_hardware, parameter_value, parameters_written, slots_read, assignment_read, assignment_of, pdo_requests, reply_awaited, polled, value_verdict, free_reply_verdict, size_asked, free_message_verdict, free_verdict, heard_in, settled, opened, closed, all_cleared, register_of, set_manager, set_fmmu, init_state_verdict, clean_init_verdict}
unfoldable pub use Rattle.ec_start.specs.Running.{begun}
pub use Rattle.ec_start.specs.Running.{is_op}
pub use Rattle.ec_start.proofs.LawLemmas.{taken_same}
pub use Rattle.ec_start.proofs.Startable.{startable}
pub use Rattle.ec_bringup.specs.Instants.{claim_of, Leads, AreAhead, AllMet, IsUnderWay, Instant, Between, UnderWay, Adrift, Over, IsReady, Starts, LaterLaw, TakeLaw, SlaveLaw, IsBetween, IsOver, AreNamed, IsFeeding, Feeding, FedLaw}
pub use Rattle.ec_bringup.specs.Interface.{Rise, Stays, Climbs, Claim, Talk, Config, Stage, Before, Called, Down, Up, answered, IsOfKind, unviewed, HoldsZeros, IsConfigured, IsAssigned, Claims, IsSilent, Talks, IsInInit, IsIn, StaysIn, Rises, IsUpAt, AreClear, IsDownAt, Reached, IsGone, HadFault, Stands, IsOfType, Rising, turned, turns, rising, Applied, Rests, Reads, Writes, AreApplied, TurnsTo, AppliedStays, Turns, no_claim, claimed, answered_by, talked_over, asked_all, prepared, is_idle, is_beginning, BeginningLaw, fresh, config_after, after, IsLow, frame_at, all_passed, all_met, ArePlans, AreDevices, IsUpAndWorks, IsOnItsWay, IsBroughtTo, BringUpRests, RunsOut, BringUpTurns, IsWriting, Arrives, IsOther, MayRepeat, Met, slot_claimed, MayEnd, plan_at, IsReachable, CanReach, end_of, IsIdentity, unplanned, slave_of, AppliedUpLaw, ComesUpLaw, CompiledUpLaw, Works, SlaveHealth, Working, Faulted, WasReset, IsStepUp, IsAsked, CompiledPlansLaw, IsNumbered, IsOffered, AreOffered, IsAssignable, IsComplete, carries, Fits, FrameLaw, with_passed, with_start, with_slave, Carried, Starting, no_slave, slave_at, trouble_at, kind_at, AreSlaves, IsDevice, with_begun, AreStartable, Happens, Sends, Passes, Loses, Returns, Strays, Closes, Serves, Puts, Gets, Faults, Resets, Runs, Stops, Steps, Begins, IsTrue, AreTrue, AgainLaw, IsFaulted, IsTop, IsGenuine, SwitchedOnLaw, DevicesLaw, RingLaw, IsUp, StaysStanding, CanAct, CanClimb, IsClimbing, climbing, HasAll, IsSent, IsClear, Untouched, ReadsOn, IsBroadcast, ShowsInit, if_mine, FitsMine, RoundLaw, IsFaultedAt, no_plan, with_sent, with_empty, with_lost, ends_of, HoldsAll, HasFault, StartUpLaw, IsNew, no_identity, switched_on as bringup_switched_on, AreIdentities, AreGenuine, AreOfTypes, IdentitiesLaw, TypedSlavesLaw, SlavesOfLaw, Falls, Lowered, fresh_lowered, named_of, IsAtInit, IsEarly, IsNamed, IsLowered, IsBelow, HasFallen, IsLoweredAt, ShowsLow, planned, span_of_feed, IsAway, IsFeedOf, AreFeedsOf, IsFeedAt, with_outputs_written, IsLeft, sum_up, IsCountedIn, Within, Outside, IsPredicted, ArePredicted, PartsCanBeFed, PartsArePredicted, FeedLaw, PlainUpLaw, ArePlansWith, AllAgree, FramesAreFew, steps_slow, steps_left, until_init, until_all, until_clean, until_reply, until_heard, frames_each, polls_more, frames_behind, frames_up, sizes_of, sizes_in, IsDictionary, done_by, AreDone, Came, IsShown, ShowsBy, ShowsAll, mappings, ParametersAgree, takes_messages, greeting_of, left_to_say, raw_verdict}
pub use Rattle.ec_bringup.specs.Stages.{up_after, FitsOne}
pub use Rattle.ec_bringup.specs.Keeping.{StandingLaw, GoneLaw, ForOthersLaw}
pub use Rattle.ec_bringup.specs.Turned.{IsBroughtUp, StandsUpLaw}
