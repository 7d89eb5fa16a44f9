-- The registers of a manager are the bytes of its settings, and the calls are the steps of a run.
use Rattle.std.proofs.Common.{ℕ, zero, suc, ◌+◌, ◌*◌, ◌/◌, ◌%◌, ◌<◌, ◌≡◌, slice_index, refl, sym, arith}
use Rattle.ec_bits.proofs.AnyLaws.{if_true}
use Rattle.ec_regs.specs.Managers.{manager_bytes}
use Rattle.ec_sync.specs.SyncManager.{SyncManager}
use Rattle.ec_sync.specs.Governing.{manager_byte}
use Rattle.ec_sync.specs.Runs.{RegistersReadBack, CallsAreSteps}
use Rattle.ec_sync.proofs.AllBytes.{all_put, all_got}

low_and_high : (n : ℕ) → n % 256 + 256 * (n / 256) ≡ n
low_and_high n = omega arith

bytes_of : (m : SyncManager) (k : ℕ) → k < 8 → ¬ (k ≡ 5) → ¬ (k ≡ 7) → manager_byte m k ≡ slice_index (manager_bytes m.settings) k
bytes_of m zero below five seven = refl
bytes_of m (suc zero) below five seven = refl
bytes_of m (suc (suc zero)) below five seven = refl
bytes_of m (suc (suc (suc zero))) below five seven = refl
bytes_of m (suc (suc (suc (suc zero)))) below five seven = refl
bytes_of m (suc (suc (suc (suc (suc zero))))) below five seven = absurd (five refl)
bytes_of m (suc (suc (suc (suc (suc (suc zero)))))) below five seven = refl
bytes_of m (suc (suc (suc (suc (suc (suc (suc zero))))))) below five seven = absurd (seven refl)
bytes_of m (suc (suc (suc (suc (suc (suc (suc (suc n)))))))) below five seven = absurd (omega arith)

pub registers_law : RegistersReadBack
registers_law = record { read_back = λ m. rw (low_and_high m.settings.start, low_and_high m.settings.length) refl; bytes = bytes_of }

pub calls_law : CallsAreSteps
calls_law = record {
  configure = λ m settings. refl;
  set_locked = λ m locked. refl;
  empty = λ m. refl;
  publish_zeros = λ m. refl;
  await_value = λ m awaited. refl;
  ring_write = λ m touched written. refl;
  store = λ m value may. sym (if_true _ _ _ may);
  ring_read = λ m touched. refl;
  app_put = λ m i x. refl;
  app_put_all = all_put;
  app_get = λ m i. refl;
  app_get_all = all_got;
  mailbox_take = λ m. refl;
  mailbox_put = λ m message. refl;
}
