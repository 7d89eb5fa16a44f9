use Rattle.std.proofs.Common.{ℕ, ◌≡◌, ◌<◌, ◌∙◌, Option, length, sym, ap, subst, arith, slice_index}
use Rattle.std.specs.Option.{IfSome}
use Rattle.std.proofs.lemmas.List.{get_or_default}
use Rattle.ec_sync.specs.SyncManager.{SyncManager}
use Rattle.ec_sync.specs.Governing.{visible_byte}
use Rattle.ec_slave.specs.State.{SlaveState, manager_at}
use Rattle.ec_slave.proofs.AppAccess.Bytes.{indexed}
use Rattle.ec_slave.proofs.Memory.WindowBytes.{plain-byte, governed-byte}
use Rattle.ec_slave.proofs.slave.Slave.byte_under.Goals as goal

pub returns-in-None : goal.returns-in-None
returns-in-None c =
    let s : SlaveState = c.args.self.now in
    let a : ℕ = c.args.address in
    let inside = c.requires.inside in
    let room = c.self.invariant.room in
    let ram = c.if-address-lt-RAM_START.false in
    c.index.ensures
    ∙ (get_or_default c.self.inside.memory.items a c.index.result.now 0 (omega (arith, inside, room))
    ∙ (ap (λ (x : SlaveState). slice_index x.memory a) c.self.view_is ∙ sym (plain-byte s a ram (sym (c.requires.owner ram) ∙ c.in-None.is))))

pub returns-in-Some : goal.returns-in-Some
returns-in-Some c =
    let s : SlaveState = c.args.self.now in
    let a : ℕ = c.args.address in
    let n : ℕ = c.in-Some.place in
    let ram = c.if-address-lt-RAM_START.false in
    let managers : c.self.inside.managers.items ≡ s.managers = ap (λ (x : SlaveState). x.managers) c.self.view_is in
    let there : n < length s.managers = subst (λ (o : Option ℕ). IfSome o (λ k. k < length s.managers)) c.in-Some.is c.requires.within in
    let own : c.index-in-Some.result.now ≡ manager_at s.managers n
    = indexed c.self.inside.managers.items s.managers n c.index-in-Some.result.now (omega (arith, there, ap length managers)) c.index-in-Some.ensures managers in
    c.visible_byte.ensures ∙ (ap (λ (m : SyncManager). visible_byte m a) own ∙ sym (governed-byte s a n ram (sym (c.requires.owner ram) ∙ c.in-Some.is)))
