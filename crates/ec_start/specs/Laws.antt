-- Laws of the definitions of this crate.
use Rattle.std.specs.Prelude.{ℕ, ◌+◌, ◌<◌, ◌≤◌, ◌≡◌, List, [], ◌∷◌, ◌++◌, length, drop, get_or, slice_get, Bool, true, false, All, Some}
use Rattle.ec_frame.specs.Datagram.{Datagram}
use Rattle.ec_device.specs.declared.slave_type.Mailbox.{Mailbox}
use Rattle.ec_device.specs.declared.parameter.Parameter.{Parameter}
use Rattle.ec_device.specs.Hardware.{is_fixed}
use Rattle.ec_coe.specs.declared.reply.Reply.{Reply}
use Rattle.ec_coe.specs.declared.reply.Reply.TheVariants.{Aborted, Unexpected}
use Rattle.ec_coe.specs.Messages.{message_read}
use Rattle.ec_coe.specs.Replies.{is_aside, free_reply_of}
use Rattle.ec_link.specs.declared.settings.SlavePlan.{SlavePlan}
use Rattle.ec_start.specs.declared.action.Transfer.{Transfer}
use Rattle.ec_start.specs.declared.action.Transfer.TheVariants.{Download, Upload}
use Rattle.ec_start.specs.declared.action.SdoRequest.{SdoRequest}
use Rattle.ec_start.specs.declared.action.Action.TheVariants.{CountSlaves, AskWord, AwaitWord, SendRequest, AwaitFreeReply}
use Rattle.ec_start.specs.declared.aside.Heard.{Heard}
use Rattle.ec_start.specs.declared.error.StartError.TheVariants.{BadMailbox, Counter, Abort, TooSlow}
use Rattle.ec_start.specs.declared.verdict.Verdict.{Verdict}
use Rattle.ec_start.specs.declared.verdict.Verdict.TheVariants.{Again, Aside}
use Rattle.ec_start.specs.declared.phase.Phase.TheVariants.{Failed}
use Rattle.ec_start.specs.declared.phase.NextFrame.TheVariants.{Ended}
use Rattle.ec_start.specs.Actions.{request_message, frame_of}
use Rattle.ec_start.specs.Planned.{IsStartable, HasFewAssigned}
use Rattle.ec_start.specs.Scripts.{script, downloads as download_of, parameter_value, requests}
use Rattle.ec_start.specs.Verdicts.{heard_in, size_asked}
use Rattle.ec_start.specs.Running.{StartState, IsStartAnswer, sending, taken, action_of, is_ended, asked, next_frame, judged, given_up, restarted, max_polls, IsStartTaken}
use Rattle.ec_start.specs.ThreeSlaves.{three_slaves}

-- ---- the script

-- The script of the example's three slaves has 75 actions, and step 10 is the first wait for slave 0's SII.
pub record IsScriptOfThree : Type 0 where
  pub steps : length (script three_slaves) ≡ 75
  pub ninth : get_or (script three_slaves) 9 CountSlaves ≡ AskWord 0 0
  pub tenth : get_or (script three_slaves) 10 CountSlaves ≡ AwaitWord 0 0

abbrev pub is_upload : Transfer → Bool
is_upload (Upload value) = true
is_upload (Download value) = false

abbrev pub AreUploads : List SdoRequest → Type 0
AreUploads [] = Unit {0}
AreUploads (r ∷ rs) = (is_upload r.transfer ≡ true) × AreUploads rs

abbrev pub AreDownloads : List SdoRequest → Type 0
AreDownloads [] = Unit {0}
AreDownloads (r ∷ rs) = (is_upload r.transfer ≡ false) × AreDownloads rs

pub record IsUploadsFirst (rs : List SdoRequest) : Type 0 where
  pub first : List SdoRequest
  pub then_downloads : List SdoRequest
  pub all : rs ≡ first ++ then_downloads
  pub uploads : AreUploads first
  pub downloads : AreDownloads then_downloads

-- Of a slave without parameters the mappings are read back before anything is written.
abbrev pub UploadsComeFirst : Type 0
UploadsComeFirst = (p : SlavePlan) → p.kind.init ≡ [] → IsUploadsFirst (requests p)

-- Parameters come before all else, in order, since they may change a mapping. Behind them the mappings are read back, before anything
-- else is written.
pub record IsReadBehindParameters (p : SlavePlan) : Type 0 where
  pub written : (k : ℕ) (q : Parameter) → slice_get p.kind.init k ≡ Some q → slice_get (requests p) k ≡ Some (download_of q.index q.subindex (parameter_value q))
  pub behind : IsUploadsFirst (drop (length p.kind.init) (requests p))

abbrev pub MappingsAreReadBehindParameters : Type 0
MappingsAreReadBehindParameters = (p : SlavePlan) → IsReadBehindParameters p

-- Where the device has its assignment fixed, nothing but parameters is written.
abbrev pub FixedIsOnlyRead : Type 0
FixedIsOnlyRead = (p : SlavePlan) → is_fixed p.kind.hardware ≡ true → AreUploads (drop (length p.kind.init) (requests p))

-- The mailbox counter begins at 1, goes up by 1, and begins at 1 again after 7.
pub record CountersRunToSeven : Type 0 where
  pub begins : (r : SdoRequest) → (request_message 0 r).counter ≡ 1
  pub rises : (before : ℕ) (r : SdoRequest) → (request_message before r).counter < 7 → (request_message (before + 1) r).counter ≡ (request_message before r).counter + 1
  pub again : (before : ℕ) (r : SdoRequest) → (request_message before r).counter ≡ 7 → (request_message (before + 1) r).counter ≡ 1
  pub most : (before : ℕ) (r : SdoRequest) → (request_message before r).counter ≤ 7

-- ---- a start-up as it runs

-- An ended start-up stays as it is, whatever is called.
pub record StaysEnded (s : StartState) : Type 0 where
  pub next_is : next_frame s ≡ Ended
  pub next_leaves : asked s ≡ s
  pub give_up_leaves : given_up s ≡ s
  pub take_leaves : (payload : List ℕ) (is_accepted : Bool) (new : StartState) → IsStartTaken s payload is_accepted new → new ≡ s

abbrev pub EndedStays : Type 0
EndedStays = (s : StartState) → is_ended s.phase ≡ true → StaysEnded s

-- A wait is polled at most 1000 times: the last of these polls ends the start-up.
pub record PollsEnd : Type 0 where
  pub few : (s : StartState) (v : Verdict) → s.polls < max_polls → (judged s v).polls < max_polls
  pub last : (s : StartState) → s.polls + 1 ≡ max_polls → (judged s Again).phase ≡ Failed (TooSlow s.place)
  pub more : (s : StartState) → s.polls + 1 < max_polls → (judged s Again).polls ≡ s.polls + 1

-- A message that is set aside is a poll of the wait, and no more: it is kept for people alone.
abbrev pub AsideIsAPoll : Type 0
AsideIsAPoll = (s : StartState) (h : Heard) → judged s (Aside h) ≡ record (judged s Again) { heard = Some h }

-- the message that a wait for the reply to a request found in a mailbox
pub record IsFound (s : StartState) (i : ℕ) (r : SdoRequest) (d : Datagram) : Type 0 where
  pub mailbox : Mailbox
  pub action : action_of s ≡ AwaitFreeReply i mailbox r
  pub counter : d.counter ≡ 1

-- it isn't set aside, and says this as the reply to the request (ETG.1000.6, "SDO services")
pub record IsFoundReply (s : StartState) (i : ℕ) (r : SdoRequest) (d : Datagram) (reply : Reply) : Type 0 where
  pub found : IsFound s i r d
  pub kept : is_aside d.data_bytes ≡ false
  pub read : free_reply_of r.index r.subindex (size_asked r.transfer) (message_read d.data_bytes) ≡ reply

-- the wait for a reply goes on with its next poll, and behind the last it has failed
pub record IsPolled (s new : StartState) : Type 0 where
  pub last : s.polls + 1 ≡ max_polls → new.phase ≡ Failed (TooSlow s.place)
  pub more : s.polls + 1 < max_polls → (new.polls ≡ s.polls + 1) × (new.place ≡ s.place)

-- What is wrong at the mailboxes of a slave for real devices ends the start-up: at once, or at the 1000th poll of the wait.
pub record MailboxFaultsEnd : Type 0 where
  -- the mailbox is full and takes no request
  pub full : (s : StartState) (d : Datagram) (i before : ℕ) (b : Mailbox) (r : SdoRequest) → action_of s ≡ SendRequest i before b r → d.counter ≡ 0 → (taken s d).phase ≡ Failed (Counter s.place)
  -- a transfer is refused
  pub refused : (s : StartState) (d : Datagram) (i : ℕ) (r : SdoRequest) (code : ℕ) → IsFoundReply s i r d (Aborted code) → (taken s d).phase ≡ Failed (Abort i code)
  -- the answer is for another object, or no answer to such a request
  pub other : (s : StartState) (d : Datagram) (i : ℕ) (r : SdoRequest) → IsFoundReply s i r d Unexpected → (taken s d).phase ≡ Failed (BadMailbox i)
  -- the slave says something else, such as an emergency, or nothing
  pub aside : (s : StartState) (d : Datagram) (i : ℕ) (r : SdoRequest) → IsFound s i r d → is_aside d.data_bytes ≡ true → IsPolled s (taken s d) × ((taken s d).heard ≡ Some (heard_in i d.data_bytes))
  pub none : (s : StartState) (d : Datagram) (i : ℕ) (b : Mailbox) (r : SdoRequest) → action_of s ≡ AwaitFreeReply i b r → d.counter ≡ 0 → IsPolled s (taken s d)

-- A start-up keeps its plan and the parts that it feeds, whatever is called.
pub record HasSamePlan (s new : StartState) : Type 0 where
  pub plan : new.plan ≡ s.plan
  pub feeds : new.feeds ≡ s.feeds

pub record KeepsPlan (s : StartState) : Type 0 where
  pub next_keeps : HasSamePlan s (asked s)
  pub take_keeps : (payload : List ℕ) (is_accepted : Bool) (new : StartState) → IsStartTaken s payload is_accepted new → HasSamePlan s new
  pub give_up_keeps : HasSamePlan s (given_up s)
  pub restart_keeps : HasSamePlan s (restarted s)

-- so does a datagram that is taken
abbrev pub TakenKeepsThePlan : Type 0
TakenKeepsThePlan = (s : StartState) (d : Datagram) → HasSamePlan s (taken s d)

abbrev pub PlansStay : Type 0
PlansStay = (s : StartState) → KeepsPlan s

-- A foreign payload changes nothing.
abbrev pub ForeignChangesNothing : Type 0
ForeignChangesNothing = (s new : StartState) (payload : List ℕ) → IsStartTaken s payload false new → new ≡ s

-- A frame that comes back as it was sent is an answer. So is one whose addresses, data and counters have changed: commands,
-- indices, lengths, order and number alone make an answer.
abbrev pub FramesAreAnswered : Type 0
FramesAreAnswered = (s : StartState) → IsStartAnswer (sending s) s.next (frame_of (action_of s) s.next)

-- `Startup::new` takes each plan that can be started up.
abbrev pub StartablesAreTaken : Type 0
StartablesAreTaken = (ps : List SlavePlan) → All IsStartable ps → All HasFewAssigned ps
