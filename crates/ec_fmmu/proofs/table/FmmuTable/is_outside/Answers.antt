use Rattle.std.proofs.Common.{ℕ, ◌≡◌, ◌+◌, ◌≤◌, List, None, subst, arith, nat_le}
use Rattle.std.proofs.lemmas.Bool.{OnTrue_from, leb-true}
use Rattle.ec_bits.proofs.AnyLaws.{within_parts}
use Rattle.ec_regs.specs.declared.fmmu.FmmuSettings.{FmmuSettings}
use Rattle.ec_fmmu.specs.Applied.{data_bit_for}
use Rattle.ec_fmmu.proofs.Missing.{none_brought}
use Rattle.ec_fmmu.proofs.table.FmmuTable.is_outside.Goals as goal

-- behind the datagram
pub returns-else-self-from-clause-writes : goal.returns-else-self-from-clause-writes
returns-else-self-from-clause-writes c =
    let from : ℕ = c.args.from in
    let bits : ℕ = c.args.bits in
    let stretch = c.self.inside.stretch in
    OnTrue_from (nat_le (from + bits) stretch.first) ((q : ℕ) → data_bit_for c.args.self.now (record { from = from; bits = bits }) q ≡ None) (λ t q.
    let before : from + bits ≤ stretch.first = leb-true (from + bits) stretch.first t in
    subst (λ (fs : List FmmuSettings). data_bit_for fs (record { from = from; bits = bits }) q ≡ None) c.self.view_is
    (none_brought c.self.inside.fmmus from bits q (λ k there l reached w.
    let has = c.self.invariant.1 k there l reached in
    let parts = within_parts from bits l w in
    absurd (let a = has.from in let b = parts.1 in omega (arith, a, b, before)))))
