-- The status word that a device without firmware copies.
use Rattle.std.proofs.Common.{ℕ, zero, suc, ◌+◌, ◌*◌, ◌/◌, ◌%◌, ◌<◌, ◌≡◌, ◌==◌, refl, sym, ◌∙◌, ap, arith}
use Rattle.std.specs.Int.{bit_at, from_bool}
use Rattle.std.proofs.lemmas.Nat.Bits.{bit_at-lt}
use Rattle.ec_al.specs.States.{state_number}
use Rattle.ec_al.specs.Transitions.{requested_number, requested_by, acknowledges}
use Rattle.ec_al.specs.Al.{copied_to, status_word}
use Rattle.ec_al.specs.Laws.{CopiesAreShown}
use Rattle.ec_al.specs.declared.state.State.{State}
use Rattle.ec_al.specs.declared.transition.Requested.{Requested}
use Rattle.ec_al.specs.declared.transition.Requested.TheVariants.{To}

asked : (control : ℕ) (wanted : State) → requested_by control ≡ To wanted → requested_number control ≡ state_number wanted
asked control wanted e = grind arith

-- a bit is 1 or 0
flag-bit : (b : ℕ) → b < 2 → from_bool (b == 1) ≡ b
flag-bit zero l = refl
flag-bit (suc zero) l = refl
flag-bit (suc (suc n)) l = absurd (omega arith)

five_bits : (n : ℕ) → n % 16 + 16 * (n / 16 % 2) ≡ n % 32
five_bits n = omega arith

pub copies_shown : CopiesAreShown
copies_shown al control wanted e =
    ap (λ (r : Requested). status_word (copied_to al r (acknowledges control))) e
    ∙ (ap (λ (n : ℕ). n + 16 * from_bool (acknowledges control)) (sym (asked control wanted e))
    ∙ (ap (λ (b : ℕ). control % 16 + 16 * b) (flag-bit (bit_at control 4) (bit_at-lt control 4))
    ∙ five_bits control))
