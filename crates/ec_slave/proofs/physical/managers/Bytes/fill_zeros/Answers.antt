use Rattle.std.proofs.Common.{◌≡◌, ◌+◌, ◌-◌, ◌≤◌, ◌<◌, length, ℕ, List, Option, None, is_some, is_none, ◌∙◌, sym, ap, arith, if◌then◌else◌}
use Rattle.std.proofs.lemmas.List.{set-get_or}
use Rattle.ec_bits.proofs.AnyLaws.{if_true, if_false, within_parts}
use Rattle.ec_sync.specs.SyncManager.{SyncManager}
use Rattle.ec_sync.specs.Governing.{governor}
use Rattle.ec_slave.specs.Physical.{Window, byte_from, updated}
use Rattle.ec_slave.proofs.Memory.AnyBelow.{none-from}
use Rattle.ec_slave.proofs.Memory.UpdatedAlong.{updated_along, told-none, told-step0, updated-whole}
use Rattle.ec_slave.proofs.Memory.WindowBytes.{from-at}
use Rattle.ec_slave.proofs.physical.managers.Bytes.fill_zeros.Goals as goal
use Rattle.ec_slave.proofs.physical.managers.Bytes.fill_zeros.Goals.{then-is_none, else-is_none}

-- byte k of a value that begins at `start`
abbrev byte_under : List SyncManager → Window → ℕ → ℕ → Option ℕ
byte_under lower w start k = if is_none (governor lower (start + k)) then byte_from w (start + k) else None

pub loop-k-init : goal.loop-k-init
loop-k-init c = told-none _ _ _

pub loop-k-preserved : goal.loop-k-preserved
loop-k-preserved c =
    let w : Window = record { from = c.args.self.now.from; bytes = c.args.self.now.bytes.now } in
    let f : ℕ → Option ℕ = byte_under c.args.self.now.lower.now w c.args.start in
    let first = within_parts w.from (length w.bytes) c.args.start c.requires.first in
    let last = within_parts w.from (length w.bytes) (c.args.start + length c.args.value.now - 1) c.requires.last in
    let inside : c.loop-k.k < length c.args.value.now = omega arith in
    let low : w.from ≤ c.args.start + c.loop-k.k = let x = first.0 in omega arith in
    let high : c.args.start + c.loop-k.k < w.from + length w.bytes = let x = last.1 in omega arith in
    let is : c.is_none.result ≡ is_none (governor c.args.self.now.lower.now (c.args.start + c.loop-k.k))
    = none-from (governor c.args.self.now.lower.now (c.args.start + c.loop-k.k)) c.is_none.result (ap is_some (sym c.governor.ensures.value) ∙ c.is_none.ensures) in
    elim c.if-is_none.branch [
      | then-is_none v ↦ told-step0 c.loop-k.k _ f c.loop-k.value _ _ c.loop-k.invariant (if_true _ _ _ (sym is ∙ v.if-is_none.true) ∙ from-at w (c.args.start + c.loop-k.k) low high) v.value-is
      | else-is_none v ↦ told-step0 c.loop-k.k _ f c.loop-k.value _ _ c.loop-k.invariant (if_false _ _ _ (sym is ∙ v.if-is_none.false)) (v.value-is ∙ set-get_or _ _ 0)
    ]

pub returns : goal.returns
returns c =
    let w : Window = record { from = c.args.self.now.from; bytes = c.args.self.now.bytes.now } in
    let f : ℕ → Option ℕ = byte_under c.args.self.now.lower.now w c.args.start in
    let e : c.loop-k.k ≡ length c.args.value.now = omega arith in
    c.loop-k.invariant ∙ (ap (λ n. updated_along n 0 c.args.value.now f) e ∙ (updated-whole c.args.value.now f ∙ ap (λ xs. updated xs f) c.requires.zeroed))
