-- How long values are.
use Rattle.std.proofs.Common.{◌≡◌, ◌≤◌, ◌+◌, ◌&&◌, ℕ, Bool, true, false, Some, None, List, length, take, nat_le, nat_lt, refl, sym, ◌∙◌, ap, arith, if◌then◌else◌}
use Rattle.std.proofs.lemmas.List.{length-take-le}
use Rattle.std.proofs.lemmas.Bool.Decides.{nat_tests}
use Rattle.ec_bits.specs.Bits.{within}
use Rattle.ec_sync.specs.Bounds.{span_end_of}
use Rattle.std.proofs.lemmas.Grind.{common_steps}
use Rattle.ec_regs.specs.declared.manager.SyncManagerSettings.{SyncManagerSettings}
use Rattle.ec_regs.specs.Managers.{is_set, is_mailbox, span}
use Rattle.ec_sync.specs.SyncManager.{buffer_length, LiesInRam}

-- what is set and no mailbox is buffered
pub buffer_length_set : (m : SyncManagerSettings) → is_set m ≡ true → is_mailbox m ≡ false → buffer_length m ≡ m.length
unfolding is_set
buffer_length_set m s b = grind (arith, common_steps, s, b)

-- what is set has a byte at least, inside the RAM
pub set_lies_in_ram : (m : SyncManagerSettings) → is_set m ≡ true → LiesInRam m
unfolding is_set
set_lies_in_ram m s = record { some = grind (arith, common_steps, s); from = grind (arith, common_steps, s); to = grind (arith, common_steps, s) }

-- the front of one list, if it is there, is as long as that of another
pub front-length : (n : ℕ) (b : Bool) (xs ys d : List ℕ) → n ≤ length xs → n ≤ length ys → (if b then Some (take n xs) else None) ≡ Some d
    → length d ≡ length (take n ys)
front-length n true xs ys d l k e =
    let same : take n xs ≡ d = cc in
    ap length (sym same) ∙ (length-take-le n xs l ∙ sym (length-take-le n ys k))
front-length n false xs ys d l k e = absurd cc

-- a byte lies in the span that is kept decoded exactly where the manager governs it
ends_at : (b : Bool) (s n a : ℕ) → (nat_le s a && nat_lt a (if b then s + n else 0)) ≡ (b && (nat_le s a && nat_lt a (s + n)))
ends_at true s n a = refl
ends_at false s n a = grind (arith, nat_tests)

pub span_has : (m : SyncManagerSettings) (a : ℕ) → (nat_le m.start a && nat_lt a (span_end_of m)) ≡ (is_set m && within m.start (span m) a)
span_has m a = ends_at (is_set m) m.start (span m) a
