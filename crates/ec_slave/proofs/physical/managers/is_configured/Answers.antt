use Rattle.std.proofs.Common.{ℕ, Bool, is_some, ◌+◌, ◌≤◌, ◌≡◌, ◌⊎◌, ◌∙◌, ap, sym, inl, inr, arith, false, length, Option}
use Rattle.ec_bits.specs.Bits.{any_below}
use Rattle.ec_bits.proofs.AnyLaws.{any_below_none, if_none}
use Rattle.ec_device.specs.declared.hardware.Hardware.{Hardware}
use Rattle.ec_device.specs.Hardware.{manager_number}
use Rattle.ec_regs.specs.Memory.{manager_start}
use Rattle.ec_slave.specs.Physical.{Window, setting_at, setting_for}
use Rattle.ec_slave.proofs.Memory.AnyBelow.{any-none, any-or}
use Rattle.ec_slave.proofs.Memory.WindowBytes.{from-outside}
use Rattle.ec_slave.proofs.physical.managers.is_configured.Goals as goal
use Rattle.ec_slave.proofs.physical.managers.is_configured.Goals.{then-first-from-via-then-first-from, then-first-from-via-else-first-from+then-saturating_add-first}

pub loop-k-init : goal.loop-k-init
loop-k-init c = any-none _

pub loop-k-preserved : goal.loop-k-preserved
loop-k-preserved c =
    let w : Window = record { from = c.args.from; bytes = c.args.bytes.now } in
    let p : ℕ → Bool = λ k. is_some (setting_for c.args.kind.now.hardware w c.args.place k) in
    any-or c.loop-k.k p _ _ c.loop-k.invariant (c.is_some-is_some.ensures ∙ ap is_some (c.setting_for.ensures ∙ ap (λ (a : ℕ). setting_at w (a + c.loop-k.k)) c.first_register-first.ensures.value))

-- a datagram that lies before a manager's eight bytes, or behind them, writes none of them
none_set : (o : Option Hardware) (w : Window) (n a : ℕ) → a ≡ manager_start (manager_number o n) → (a + 8 ≤ w.from) ⊎ (w.from + length w.bytes ≤ a) → any_below 8 (λ k. is_some (setting_for o w n k)) ≡ false
none_set o w n a e h = any_below_none 8 (λ k. is_some (setting_for o w n k)) (λ k l. ap is_some (if_none _ _ (from-outside w (manager_start (manager_number o n) + k) (elim h [
  | inl x ↦ inl (omega (arith, e, x, l))
  | inr x ↦ inr (omega (arith, e, x, l))
]))))

pub returns-then-first-from : goal.returns-then-first-from
returns-then-first-from c =
    let w : Window = record { from = c.args.from; bytes = c.args.bytes.now } in
    let o : Option Hardware = c.args.kind.now.hardware in
    sym (none_set o w c.args.place _ c.first_register-first.ensures.value (elim c.then-first-from.branch [
      | then-first-from-via-then-first-from v ↦ let t = v.if-first-from.true in inl (omega (arith, t))
      | then-first-from-via-else-first-from+then-saturating_add-first v ↦
          let t = v.if-saturating_add-first.true in
          let e = v.saturating_add.ensures in
          inr (omega (arith, t, e))
    ]))
