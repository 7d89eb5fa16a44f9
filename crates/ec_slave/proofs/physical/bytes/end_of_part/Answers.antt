use Rattle.std.proofs.Common.{ℕ, ◌≡◌, ◌<◌, ◌≤◌, ◌⊎◌, ◌∙◌, nat_lt, sym, inl, inr, arith}
use Rattle.std.proofs.lemmas.Bool.{lt-ltb, le-ltb}
use Rattle.ec_regs.specs.Memory.{ram_start, ram_end}
use Rattle.ec_slave.proofs.Memory.WindowBytes.{read-alike, read-register}
use Rattle.ec_slave.proofs.physical.bytes.end_of_part.Goals as goal
use Rattle.ec_slave.proofs.physical.bytes.end_of_part.Goals.{then-start-ge-RAM_END, else-start-ge-RAM_END}

pub returns-then-start-lt-RAM_START-clause-reads : goal.returns-then-start-lt-RAM_START-clause-reads
returns-then-start-lt-RAM_START-clause-reads c = λ touched a lo hi.
    read-register c.args.managers.now touched a (omega arith) ∙ sym (read-register c.args.managers.now touched c.args.start (omega arith))

-- both behind a border, or both before it
same_side : (a b border : ℕ) → ((a < border) × (b < border)) ⊎ ((border ≤ a) × (border ≤ b)) → nat_lt a border ≡ nat_lt b border
same_side a b border h = elim h [
  | inl x ↦ lt-ltb a border x.0 ∙ sym (lt-ltb b border x.1)
  | inr x ↦ le-ltb a border x.0 ∙ sym (le-ltb b border x.1)
]

pub returns-clause-reads : goal.returns-clause-reads
returns-clause-reads c = λ touched a lo hi.
    let ram = c.if-start-lt-RAM_START.false in
    let stop = c.end_of_alike.ensures.inside.1 in
    let side : ((a < ram_end) × (c.args.start < ram_end)) ⊎ ((ram_end ≤ a) × (ram_end ≤ c.args.start)) = elim c.if-start-ge-RAM_END.branch [
      | then-start-ge-RAM_END w ↦ let t = w.if-start-ge-RAM_END.true in inr (omega (arith, t, lo), omega (arith, t))
      | else-start-ge-RAM_END w ↦ let t = w.if-start-ge-RAM_END.false in let is = w.stop-is in let m = w.min-stop.ensures in inl (omega (arith, t, is, m, stop, hi), omega (arith, t))
    ] in
    read-alike c.args.managers.now touched a c.args.start
    (same_side a c.args.start ram_start (inr (omega (arith, ram, lo), omega (arith, ram))))
    (same_side a c.args.start ram_end side)
    (c.end_of_alike.ensures.governor a lo hi) (λ n l. c.end_of_alike.ensures.front n a l lo hi)
