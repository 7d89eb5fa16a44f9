use Rattle.std.proofs.Common.{ℕ, ◌+◌, ◌≡◌, ◌∙◌, List, Some, refl, ap, sym, subst, arith}
use Rattle.std.proofs.lemmas.Bool.{OnTrue_at, OnTrue_from}
use Rattle.ec_bits.specs.Bits.{bytes_of_bits}
use Rattle.ec_sync.specs.SyncManager.{SyncManager}
use Rattle.ec_sync.specs.Governing.{governs}
use Rattle.ec_exchange.specs.Values.{manager_at}
use Rattle.ec_exchange.specs.Values.{IsBufferAt}
use Rattle.ec_exchange.specs.Values.{LiesIn}
use Rattle.ec_exchange.proofs.Managers.{indexed}
use Rattle.ec_exchange.proofs.Managers.{position_from-first}
use Rattle.ec_exchange.proofs.holding.has_value.Goals as goal

pub returns : goal.returns
returns c =
    let ms : List SyncManager = c.args.managers.now in
    let n : ℕ = c.args.place in
    let start : ℕ = c.args.start in
    let own : c.index-managers-place.result ≡ manager_at ms n = indexed ms ms n c.index-managers-place.result c.requires.place c.index-managers-place.is refl in
    let first : 0 + n ≡ n = omega arith in
    OnTrue_from c.are_clear.result (LiesIn ms n start c.args.bits) (λ t. record {
      governed = λ k i.
          position_from-first (λ (m : SyncManager). governs m (start + k)) 0 n ms c.requires.place
          (OnTrue_at t c.are_clear.ensures (start + k) (omega arith) (omega (arith, i)))
          (ap (λ (m : SyncManager). governs m (start + k)) (sym own) ∙ c.if-not-is_buffer.ensures.governs (start + k) (omega arith) (omega (arith, i)))
          ∙ ap (λ (j : ℕ). Some j) first;
      buffer = λ some. subst (λ (m : SyncManager). IsBufferAt m.settings start (bytes_of_bits c.args.bits)) own c.if-not-is_buffer.ensures.buffer;
    })
