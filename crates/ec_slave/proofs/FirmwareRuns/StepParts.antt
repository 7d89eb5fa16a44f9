-- The parts of a firmware step, as the code makes them.
use Rattle.std.proofs.Common.{◌≡◌, Bool, true, Option, Some, None, refl, sym, ◌∙◌, ap, List, [], ◌∷◌, slice_set}
use Rattle.ec_bits.proofs.AnyLaws.{if_true}
use Rattle.ec_device.specs.declared.hardware.Hardware.{Hardware}
use Rattle.ec_sync.specs.SyncManager.{SyncManager, message_put}
use Rattle.ec_al.specs.Al as al
use Rattle.ec_al.specs.Al.{Al, is_operational}
use Rattle.ec_al.specs.declared.state.State.{State}
use Rattle.ec_al.specs.declared.state.State.TheVariants.{SafeOp, Op}
use Rattle.ec_coe.specs.declared.message.Message.{Message}
use Rattle.ec_coe.specs.Objects.{Dictionary}
use Rattle.ec_slave.specs.State.{SlaveState, manager_at}
use Rattle.ec_slave.specs.Faulting.{faulted, locked_empty}
use Rattle.ec_slave.specs.Serving.{replied, reply_counter, answer_to, bytes_to, awaited_by, awaited_if, has_outputs, outputs_awaited}

-- a reply was put, and counted
pub replied-by : (s : SlaveState) (r : Message) (d : Dictionary) (m : SyncManager) → d ≡ (answer_to s r).dictionary
    → m ≡ message_put (manager_at s.managers 1) (bytes_to s r)
    → record s { kind = d.kind; identity = d.identity; outs = d.outs; ins = d.ins; values = d.values; managers = slice_set s.managers 1 m; replies = reply_counter s.replies } ≡ replied s r
replied-by s r d m after put =
    ap (λ (x : Dictionary). record s { kind = x.kind; identity = x.identity; outs = x.outs; ins = x.ins; values = x.values; managers = slice_set s.managers 1 m; replies = reply_counter s.replies }) after
    ∙ ap (λ (x : SyncManager). record s { kind = (answer_to s r).dictionary.kind; identity = (answer_to s r).dictionary.identity; outs = (answer_to s r).dictionary.outs; ins = (answer_to s r).dictionary.ins; values = (answer_to s r).dictionary.values; managers = slice_set s.managers 1 x; replies = reply_counter s.replies }) put

-- manager 2 was set, and awaits outputs behind a fault
awaited-set : (o : Option Hardware) (outputs : Bool) (ms : List SyncManager) (m : SyncManager)
    → outputs_awaited o outputs Op SafeOp (slice_set ms 2 m) ≡ slice_set ms 2 (awaited_if (awaited_by o outputs Op SafeOp) m)
awaited-set None outputs ms m = refl
awaited-set (Some h) outputs [] m = refl
awaited-set (Some h) outputs (a ∷ []) m = refl
awaited-set (Some h) outputs (a ∷ b ∷ []) m = refl
awaited-set (Some h) outputs (a ∷ b ∷ c ∷ ms) m = refl

-- a fault was taken
pub faulted-by : (s : SlaveState) (a : Al) (m : SyncManager) → is_operational s.al.state ≡ true → a ≡ al.faulted s.al → m ≡ locked_empty (manager_at s.managers 2)
    → record s { al = a; managers = outputs_awaited s.kind.hardware (has_outputs s) Op a.state (slice_set s.managers 2 m) } ≡ faulted s
unfolding faulted
faulted-by s a m running fell emptied =
    let o : Option Hardware = s.kind.hardware in
    let fallen : a.state ≡ SafeOp = ap (λ (x : Al). x.state) (fell ∙ if_true _ _ _ running) in
    ap (λ (x : Al). record s { al = x; managers = outputs_awaited o (has_outputs s) Op a.state (slice_set s.managers 2 m) }) fell
    ∙ (ap (λ (x : State). record s { al = al.faulted s.al; managers = outputs_awaited o (has_outputs s) Op x (slice_set s.managers 2 m) }) fallen
    ∙ (ap (λ (ms : List SyncManager). record s { al = al.faulted s.al; managers = ms }) (awaited-set o (has_outputs s) s.managers m)
    ∙ (ap (λ (x : SyncManager). record s { al = al.faulted s.al; managers = slice_set s.managers 2 (awaited_if (awaited_by o (has_outputs s) Op SafeOp) x) }) emptied ∙ sym (if_true _ _ _ running))))
