-- A start-up's frame under way: what its second datagram is at a slave, and what a slave that it has passed stands at.
use Rattle.std.specs.Prelude.{ℕ, ◌+◌, ◌-◌, ◌%◌, ◌≤◌, ◌≡◌, ◌≢◌, ◌⊎◌, length, slice_index, Bool, true}
use Rattle.std.specs.Int.{bit_at}
use Rattle.ec_device.specs.Types.{SlaveKind}
use Rattle.ec_frame.specs.Datagram.{Datagram, adp_of, ado_of}
use Rattle.ec_al.specs.States.{state_number}
use Rattle.ec_slave.specs.State.{SlaveState}
use Rattle.ec_coe.specs.Messages.{message_read}
use Rattle.ec_coe.specs.Replies.{is_aside}
use Rattle.ec_start.specs.declared.action.Action.{Action}
use Rattle.ec_start.specs.declared.action.Action.TheVariants.{CountSlaves, AskInit, AwaitInit, ClearFmmus, ClearManagers, ClearStations, NameSlave, AskWord, AwaitWord, SetManager, SetFmmu, AskState, AwaitState, SendRequest, AwaitReply, AwaitFreeReply, AwaitInitState, ClearAllFmmus, ClearAllManagers, AssignSii, ClearSiiError, AwaitCleanInit, FeedPart}
use Rattle.ec_start.specs.Actions.{datagram_of}
use Rattle.ec_start.specs.Verdicts.{word_at, message_verdict, free_verdict}
use Rattle.ec_start.specs.declared.verdict.Verdict.TheVariants.{Next}
use Rattle.ec_bringup.specs.Stages.{Stage, after}
use Rattle.ec_bringup.specs.Standing.{Stands}

-- a broadcast or auto increment datagram that has passed j slaves: as it was sent, except the ADP and the data of a read
pub record IsBroadcast (e d : Datagram) : Type 0 where
  pub command : d.command ≡ e.command
  pub ado : ado_of d ≡ ado_of e
  pub data_length : length d.data_bytes ≡ length e.data_bytes

pub record IsWriting (e d : Datagram) (adp : ℕ) : Type 0 where
  pub command : d.command ≡ e.command
  pub ado : ado_of d ≡ ado_of e
  pub adp_is : adp_of d ≡ adp
  pub bytes : d.data_bytes ≡ e.data_bytes

pub record ReadsOn (e d : Datagram) : Type 0 where
  pub command : d.command ≡ e.command
  pub address : d.address ≡ e.address

-- a datagram for slave t that comes to slave j: untouched up to t
pub record Untouched (t j : ℕ) (e d : Datagram) : Type 0 where
  pub to_come : j ≤ t → d ≡ e
  pub gone_by : ReadsOn e d

abbrev pub Arrives : Action → ℕ → ℕ → Datagram → Type 0
Arrives CountSlaves number j d = IsBroadcast (datagram_of CountSlaves number) d
Arrives AskInit number j d = IsWriting (datagram_of AskInit number) d (j % 65536)
Arrives AwaitInit number j d = IsBroadcast (datagram_of AwaitInit number) d
Arrives ClearFmmus number j d = IsWriting (datagram_of ClearFmmus number) d (j % 65536)
Arrives ClearManagers number j d = IsWriting (datagram_of ClearManagers number) d (j % 65536)
Arrives ClearStations number j d = IsWriting (datagram_of ClearStations number) d (j % 65536)
Arrives AwaitInitState number j d = IsBroadcast (datagram_of AwaitInitState number) d
Arrives ClearAllFmmus number j d = IsWriting (datagram_of ClearAllFmmus number) d (j % 65536)
Arrives ClearAllManagers number j d = IsWriting (datagram_of ClearAllManagers number) d (j % 65536)
Arrives (AssignSii access) number j d = IsWriting (datagram_of (AssignSii access) number) d (j % 65536)
Arrives ClearSiiError number j d = IsWriting (datagram_of ClearSiiError number) d (j % 65536)
-- what a part that is fed brings to a slave goes by the plan (`IsFeedAt`)
Arrives (FeedPart f) number j d = Unit {0}
Arrives (NameSlave t) number j d = IsWriting (datagram_of (NameSlave t) number) d ((65536 - t + j) % 65536)
Arrives (AwaitCleanInit t) number j d = Untouched t j (datagram_of (AwaitCleanInit t) number) d
Arrives (AskWord t which) number j d = Untouched t j (datagram_of (AskWord t which) number) d
Arrives (AwaitWord t which) number j d = Untouched t j (datagram_of (AwaitWord t which) number) d
Arrives (SetManager t n m r) number j d = Untouched t j (datagram_of (SetManager t n m r) number) d
Arrives (SetFmmu t n f start) number j d = Untouched t j (datagram_of (SetFmmu t n f start) number) d
Arrives (AskState t state) number j d = Untouched t j (datagram_of (AskState t state) number) d
Arrives (AwaitState t state) number j d = Untouched t j (datagram_of (AwaitState t state) number) d
Arrives (SendRequest t counter b r) number j d = Untouched t j (datagram_of (SendRequest t counter b r) number) d
Arrives (AwaitReply t b r) number j d = Untouched t j (datagram_of (AwaitReply t b r) number) d
Arrives (AwaitFreeReply t b r) number j d = Untouched t j (datagram_of (AwaitFreeReply t b r) number) d

-- as far as the datagram has come, it may still come back as one that is tried again
abbrev pub MayRepeat : Action → Datagram → Type 0
MayRepeat AwaitInit d = Unit {0}
MayRepeat AwaitInitState d = Unit {0}
MayRepeat (AwaitCleanInit t) d = Unit {0}
MayRepeat (AwaitWord t which) d = Unit {0}
MayRepeat (AwaitState t state) d = Unit {0}
MayRepeat (AwaitReply t b r) d = d.counter ≡ 0
MayRepeat (AwaitFreeReply t b r) d = (d.counter ≡ 0) ⊎ (is_aside d.data_bytes ≡ true)
MayRepeat _ d = ⊥

pub record ShowsInit (d : Datagram) : Type 0 where
  pub low : slice_index d.data_bytes 0 ≤ 1
  pub high : slice_index d.data_bytes 1 ≡ 0

-- the state of all that it has passed may be INIT
abbrev pub ShowsLow : Datagram → Type 0
ShowsLow d = slice_index d.data_bytes 0 % 16 ≤ 1

-- and as far as it has come, it may still come back as one that is done
abbrev pub MayEnd : Action → Datagram → Type 0
MayEnd AwaitInit d = ShowsInit d
MayEnd AwaitInitState d = ShowsLow d
MayEnd (AwaitCleanInit t) d = (d.counter ≡ 1) × (slice_index d.data_bytes 0 % 32 ≡ 1)
MayEnd (AwaitWord t which) d = (d.counter ≡ 1) × (bit_at (word_at d.data_bytes 0) 15 ≢ 1)
MayEnd (AwaitState t state) d = (d.counter ≡ 1) × (bit_at (slice_index d.data_bytes 0) 4 ≢ 1) × (slice_index d.data_bytes 0 % 32 ≡ state_number state)
MayEnd (AwaitReply t b r) d = (d.counter ≡ 1) × (message_verdict t r (message_read d.data_bytes) ≡ Next)
MayEnd (AwaitFreeReply t b r) d = (d.counter ≡ 1) × (free_verdict t r d.data_bytes ≡ Next)
MayEnd _ d = Unit {0}

-- the action is for one slave, and not for this one
abbrev pub IsOther : Action → ℕ → Type 0
IsOther CountSlaves i = ⊥
IsOther AskInit i = ⊥
IsOther AwaitInit i = ⊥
IsOther ClearFmmus i = ⊥
IsOther ClearManagers i = ⊥
IsOther ClearStations i = ⊥
IsOther AwaitInitState i = ⊥
IsOther ClearAllFmmus i = ⊥
IsOther ClearAllManagers i = ⊥
IsOther (AssignSii access) i = ⊥
IsOther ClearSiiError i = ⊥
IsOther (FeedPart f) i = ⊥
IsOther (NameSlave t) i = t ≢ i
IsOther (AwaitCleanInit t) i = t ≢ i
IsOther (AskWord t which) i = t ≢ i
IsOther (AwaitWord t which) i = t ≢ i
IsOther (SetManager t n m r) i = t ≢ i
IsOther (SetFmmu t n f start) i = t ≢ i
IsOther (AskState t state) i = t ≢ i
IsOther (AwaitState t state) i = t ≢ i
IsOther (SendRequest t counter b r) i = t ≢ i
IsOther (AwaitReply t b r) i = t ≢ i
IsOther (AwaitFreeReply t b r) i = t ≢ i

-- a slave that the frame has passed
pub record Met (kind : SlaveKind) (i : ℕ) (st : Stage) (trouble : Bool) (a : Action) (d : Datagram) (s : SlaveState) : Type 0 where
  pub other : IsOther a i → Stands kind i st trouble s
  pub repeated : MayRepeat a d → Stands kind i st trouble s
  pub ended : MayEnd a d → Stands kind i (after i st a) trouble s
