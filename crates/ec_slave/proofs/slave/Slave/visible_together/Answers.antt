use Rattle.std.proofs.Common.{ℕ, ◌+◌, ◌-◌, ◌<◌, ◌≤◌, ◌≡◌, ◌∙◌, Option, List, length, ap, sym, subst, arith, slice_index}
use Rattle.std.specs.Option.{IfSome}
use Rattle.std.proofs.lemmas.Option.{IfSome_then}
use Rattle.ec_regs.specs.declared.manager.SyncManagerSettings.{SyncManagerSettings}
use Rattle.ec_sync.specs.SyncManager.{SyncManager, visible}
use Rattle.ec_slave.specs.State.{SlaveState, manager_at}
use Rattle.ec_slave.proofs.AppAccess.Bytes.{indexed}
use Rattle.ec_slave.proofs.LogicalAccess.ReadViews.{governor-start}
use Rattle.ec_slave.proofs.Memory.WindowBytes.{plain-byte, governed-byte}
use Rattle.ec_slave.proofs.slave.Slave.visible_together.Goals as goal

pub returns-in-None-clause-bytes : goal.returns-in-None-clause-bytes
returns-in-None-clause-bytes c =
    let s : SlaveState = c.args.self.now in
    let first = c.args.first in
    let same : c.deref.result.now ≡ s.memory = c.deref.ensures.value ∙ ap (λ (x : SlaveState). x.memory) c.self.view_is in
    let ram = c.if-first-lt-RAM_START.false in
    IfSome_then c.part_of.result c.part_of.ensures.bytes (λ xs h k l.
    h k l ∙ (ap (λ (ys : List ℕ). slice_index ys (first + k)) same
    ∙ sym (plain-byte s (first + k) (omega (arith, ram)) (sym (c.requires.owner (first + k) (omega (arith, ram)) (omega arith) (omega (arith, l))) ∙ c.in-None.is))))

pub returns-in-Some-clause-bytes : goal.returns-in-Some-clause-bytes
returns-in-Some-clause-bytes c =
    let s : SlaveState = c.args.self.now in
    let first = c.args.first in
    let n : ℕ = c.in-Some.place in
    let ram = c.if-first-lt-RAM_START.false in
    let managers : c.self.inside.managers.items ≡ s.managers = ap (λ (x : SlaveState). x.managers) c.self.view_is in
    let there : n < length s.managers = subst (λ (o : Option ℕ). IfSome o (λ k. k < length s.managers)) c.in-Some.is c.requires.within in
    let here : c.index-manager.result.now ≡ manager_at s.managers n
    = indexed c.self.inside.managers.items s.managers n (c.index-manager.result.now) (omega (arith, there, ap length managers)) c.index-manager.ensures managers in
    let m : SyncManager = manager_at s.managers n in
    let start : c.settings-start.result.start ≡ m.settings.start = ap (λ (x : SyncManagerSettings). x.start) c.settings-start.ensures ∙ ap (λ (x : SyncManager). x.settings.start) here in
    let value : c.visible.result.now ≡ visible m = c.visible.ensures ∙ ap visible here in
    let at = c.saturating_sub-at.ensures in
    IfSome_then c.part_of-in-Some.result c.part_of-in-Some.ensures.bytes (λ xs h k l.
    let low : m.settings.start ≤ first = governor-start s.managers first n (sym (c.requires.owner first (omega (arith, ram)) (omega arith) (omega (arith, l))) ∙ c.in-Some.is) in
    let same : c.saturating_sub-at.result + k ≡ first + k - m.settings.start = omega (arith, low, at, start) in
    h k l ∙ (ap (λ (ys : List ℕ). slice_index ys (c.saturating_sub-at.result + k)) value ∙ (ap (slice_index (visible m)) same
    ∙ sym (governed-byte s (first + k) n (omega (arith, ram)) (sym (c.requires.owner (first + k) (omega (arith, ram)) (omega arith) (omega (arith, l))) ∙ c.in-Some.is)))))

pub returns-in-None-clause-long : goal.returns-in-None-clause-long
returns-in-None-clause-long c = c.part_of.ensures.long

pub returns-in-Some-clause-long : goal.returns-in-Some-clause-long
returns-in-Some-clause-long c = c.part_of-in-Some.ensures.long
