use Rattle.std.proofs.Common.{◌≡◌, ◌<◌, ◌∙◌, ◌+◌, ◌%◌, ℕ, Bool, length, arith, ap, sym, slice_set, length-set}
use Rattle.ec_sync.specs.SyncManager.{SyncManager, message_put}
use Rattle.ec_device.specs.Types.{SlaveKind}
use Rattle.ec_coe.specs.declared.message.Message.{Message}
use Rattle.ec_regs.specs.declared.manager.SyncManagerSettings.{SyncManagerSettings}
use Rattle.ec_coe.specs.ReplyBytes.{reply_bytes}
use Rattle.ec_coe.specs.Objects.{Dictionary}
use Rattle.ec_coe.specs.Answers.{Answer, answered}
use Rattle.ec_coe.proofs.DownloadEffects.{answered-slots}
use Rattle.ec_slave.specs.State.{SlaveState, fmmus_of, manager_at}
use Rattle.ec_slave.specs.Serving.{is_preop, reply_counter, dictionary_of, answer_to, bytes_to}
use Rattle.ec_slave.proofs.AppAccess.Bytes.{indexed}
use Rattle.ec_slave.proofs.FirmwareRuns.StepParts.{replied-by}
use Rattle.ec_slave.proofs.slave.Slave.reply.Goals as goal

pub invariant_of-self : goal.invariant_of-self
invariant_of-self c =
    let d : Dictionary = c.self.inside.dictionary in
    let e : Dictionary = c.answer-reply.new.self in
    let counter : ℕ = c.self.inside.replies % 7 + 1 in
    let k = answered-slots c.is_preop-in_preop.result d c.args.request.now counter in
    let after = c.answer-reply.ensures.after in
    let identity : e.identity ≡ d.identity = ap (λ (x : Dictionary). x.identity) after ∙ k.identity in
    let kind : e.kind ≡ d.kind = ap (λ (x : Dictionary). x.kind) after ∙ k.kind in
    record {
      room = c.self.invariant.room;
      four = length-set c.self.inside.managers.items 1 c.mailbox_put.new.self ∙ c.self.invariant.four;
      decoded = c.self.invariant.decoded ∙ ap (λ (x : SlaveKind). fmmus_of x.hardware c.self.inside.memory.items) (sym kind);
      image = c.self.invariant.image ∙ sym (rw (identity, kind));
    }

pub returns : goal.returns
returns c =
    let s : SlaveState = c.args.self.now in
    let r : Message = c.args.request.now in
    let four : 1 < length c.self.inside.managers.items = omega (arith, c.self.invariant.four) in
    let managers = ap (λ (x : SlaveState). x.managers) c.self.view_is in
    let here : c.index_mut.result.now ≡ manager_at s.managers 1 = indexed _ s.managers 1 _ four c.index_mut.ensures.value managers in
    let preop : c.is_preop-in_preop.result ≡ is_preop s.al.state = c.is_preop-in_preop.ensures ∙ ap is_preop (c.state.ensures ∙ ap (λ (x : SlaveState). x.al.state) c.self.view_is) in
    let by : Answer = answered c.is_preop-in_preop.result c.self.inside.dictionary r (reply_counter c.self.inside.replies) in
    let same : by ≡ answer_to s r = ap (λ (b : Bool). answered b c.self.inside.dictionary r (reply_counter c.self.inside.replies)) preop
    ∙ ap (λ (x : SlaveState). answered (is_preop s.al.state) (dictionary_of x) r (reply_counter x.replies)) c.self.view_is in
    let there : c.index.result.now ≡ manager_at s.managers 1 = indexed _ s.managers 1 _ four c.index.ensures managers in
    let room : c.settings-room.result.length ≡ (manager_at s.managers 1).settings.length = ap (λ (x : SyncManagerSettings). x.length) (c.settings-room.ensures ∙ ap (λ (m : SyncManager). m.settings) there) in
    let after : c.answer-reply.new.self ≡ (answer_to s r).dictionary = c.answer-reply.ensures.after ∙ ap (λ (x : Answer). x.dictionary) same in
    let told : c.as_slice.result.now ≡ bytes_to s r
    = c.as_slice.ensures.value ∙ (c.reply_bytes-bytes.ensures.bytes
    ∙ (ap (λ (d : Dictionary). reply_bytes d c.settings-room.result.length c.answer-reply.result) after
    ∙ (ap (λ (n : ℕ). reply_bytes (answer_to s r).dictionary n c.answer-reply.result) room
    ∙ ap (reply_bytes (answer_to s r).dictionary (manager_at s.managers 1).settings.length) (c.answer-reply.ensures.reply ∙ ap (λ (x : Answer). x.reply) same)))) in
    ap (λ (x : SlaveState). record x {
      kind = c.answer-reply.new.self.kind;
      identity = c.answer-reply.new.self.identity;
      outs = c.answer-reply.new.self.outs;
      ins = c.answer-reply.new.self.ins;
      values = c.answer-reply.new.self.values;
      managers = slice_set x.managers 1 c.mailbox_put.new.self;
      replies = reply_counter x.replies;
    }) c.self.view_is
    ∙ replied-by s r c.answer-reply.new.self c.mailbox_put.new.self
    after
    (c.mailbox_put.ensures.after
    ∙ (ap (λ (m : SyncManager). message_put m c.as_slice.result.now) here
    ∙ ap (message_put (manager_at s.managers 1)) told))
