use Rattle.std.proofs.Common.{ℕ, ◌≡◌, ◌<◌, ◌≤◌, ◌⊎◌, ◌∙◌, nat_lt, ap, sym, inl, inr, arith}
use Rattle.std.proofs.lemmas.Bool.{lt-ltb, le-ltb}
use Rattle.ec_regs.specs.Memory.{ram_end}
use Rattle.ec_slave.specs.Physical.{is_stored_at, may_write_byte}
use Rattle.ec_slave.proofs.Memory.WindowBytes.{write-alike, kept-alike}
use Rattle.ec_slave.proofs.physical.bytes.end_of_written.Goals as goal

-- both behind the end of the memory, or both before it
same_side : (a b : ℕ) → ((a < ram_end) × (b < ram_end)) ⊎ ((ram_end ≤ a) × (ram_end ≤ b)) → nat_lt a ram_end ≡ nat_lt b ram_end
same_side a b h = elim h [
  | inl x ↦ lt-ltb a ram_end x.0 ∙ sym (lt-ltb b ram_end x.1)
  | inr x ↦ le-ltb a ram_end x.0 ∙ sym (le-ltb b ram_end x.1)
]

side : (a start stop result : ℕ) → start ≤ a → a < result → result ≤ stop → (stop ≤ ram_end) ⊎ (ram_end ≤ start) → nat_lt a ram_end ≡ nat_lt start ram_end
side a start stop result lo hi low border = same_side a start (elim border [
  | inl x ↦ inl (omega arith, omega arith)
  | inr x ↦ inr (omega arith, omega arith)
])

-- one register is all of its part
pub returns-then-start-lt-RAM_START-clause-writes : goal.returns-then-start-lt-RAM_START-clause-writes
returns-then-start-lt-RAM_START-clause-writes c = λ busy touched a lo hi.
    let e : a ≡ c.args.start = omega (arith, lo, hi) in
    ap (may_write_byte c.args.managers.now busy touched) e

pub returns-then-start-lt-RAM_START-clause-alike : goal.returns-then-start-lt-RAM_START-clause-alike
returns-then-start-lt-RAM_START-clause-alike c = λ a lo hi.
    let e : a ≡ c.args.start = omega (arith, lo, hi) in
    ap (is_stored_at c.args.managers.now) e

pub returns-clause-aside : goal.returns-clause-aside
returns-clause-aside c = λ below.
    let stop = c.end_of_alike.ensures.inside.1 in
    elim c.cut-stop.ensures.aside [
      | inl x ↦ omega (arith, x, stop)
      | inr x ↦ absurd (omega (arith, x, below))
    ]

pub returns-clause-writes : goal.returns-clause-writes
returns-clause-writes c = λ busy touched a lo hi.
    let ram = c.if-start-lt-RAM_START.false in
    write-alike c.args.managers.now busy touched a c.args.start (omega (arith, ram, lo)) ram
    (side a c.args.start c.cut-stop.result c.end_of_alike.result lo hi c.end_of_alike.ensures.inside.1 c.cut-stop.ensures.aside)
    (c.end_of_alike.ensures.governor a lo hi) (λ n l. c.end_of_alike.ensures.front n a l lo hi)

pub returns-clause-alike : goal.returns-clause-alike
returns-clause-alike c = λ a lo hi.
    let ram = c.if-start-lt-RAM_START.false in
    kept-alike c.args.managers.now a c.args.start (omega (arith, ram, lo)) ram
    (side a c.args.start c.cut-stop.result c.end_of_alike.result lo hi c.end_of_alike.ensures.inside.1 c.cut-stop.ensures.aside)
    (c.end_of_alike.ensures.governor a lo hi)
