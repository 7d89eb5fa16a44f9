-- What a slave becomes by its application's bytes.
use Rattle.std.proofs.Common.{zero, suc, [], ◌∷◌, arith, get_or, ℕ, ◌<◌, ◌≡◌, true, false, Option, Some, None, is_some, refl, sym, ◌∙◌, ap, List, length, unwrap_or, option_map}
use Rattle.std.proofs.lemmas.List.{set-get_or}
use Rattle.ec_bits.proofs.AnyLaws.{if_true, if_false}
use Rattle.ec_sync.specs.Buffer.{Got}
use Rattle.ec_sync.specs.SyncManager.{SyncManager, no_manager, app_put, app_got, after_get}
use Rattle.ec_slave.specs.State.{SlaveState, manager_at}
use Rattle.ec_slave.specs.Application.{is_running, with_manager, input_put, output_got, output_taken}

-- a manager put back
own : (s : SlaveState) (n : ℕ) → with_manager s n (manager_at s.managers n) ≡ s
own s n = ap (λ (ms : List SyncManager). record s { managers = ms }) (set-get_or s.managers n no_manager)

put_by : (s : SlaveState) (o : Option SyncManager) → with_manager s 3 (unwrap_or o (manager_at s.managers 3)) ≡ unwrap_or (option_map (with_manager s 3) o) s
put_by s None = own s 3
put_by s (Some m) = refl

pub put_after : (s : SlaveState) (i x : ℕ) (m : SyncManager) → is_running s.al.state ≡ true
    → m ≡ unwrap_or (app_put (manager_at s.managers 3) i x) (manager_at s.managers 3) → with_manager s 3 m ≡ unwrap_or (input_put s i x) s
put_after s i x m r e =
    ap (with_manager s 3) e
    ∙ (put_by s (app_put (manager_at s.managers 3) i x)
    ∙ ap (λ (o : Option SlaveState). unwrap_or o s) (sym (if_true (is_running s.al.state) (option_map (with_manager s 3) (app_put (manager_at s.managers 3) i x)) None r)))

got_by : (s : SlaveState) (o : Option Got) → with_manager s 2 (after_get (manager_at s.managers 2) o) ≡ output_taken s o
got_by s None = own s 2
got_by s (Some g) = refl

pub got_after : (s : SlaveState) (i : ℕ) (m : SyncManager) → is_running s.al.state ≡ true
    → m ≡ after_get (manager_at s.managers 2) (app_got (manager_at s.managers 2) i) → with_manager s 2 m ≡ output_taken s (output_got s i)
got_after s i m r e =
    ap (with_manager s 2) e
    ∙ (got_by s (app_got (manager_at s.managers 2) i)
    ∙ ap (output_taken s) (sym (if_true (is_running s.al.state) (app_got (manager_at s.managers 2) i) None r)))

get_or-any : (ms : List SyncManager) (n : ℕ) (a b : SyncManager) → n < length ms → get_or ms n a ≡ get_or ms n b
get_or-any [] n a b l = absurd (omega arith)
get_or-any (m ∷ ms) zero a b l = refl
get_or-any (m ∷ ms) (suc n) a b l = get_or-any ms n a b (omega arith)

-- an element that was indexed is the manager of that number
pub indexed : (ms ns : List SyncManager) (n : ℕ) (m : SyncManager) → n < length ms → m ≡ get_or ms n m → ms ≡ ns → m ≡ manager_at ns n
indexed ms ns n m l e h = e ∙ (get_or-any ms n m no_manager l ∙ ap (λ (k : List SyncManager). get_or k n no_manager) h)

mapped_some : {X Y : Type 0} (f : X → Y) (o : Option X) → is_some o ≡ is_some (option_map f o)
mapped_some f None = refl
mapped_some f (Some x) = refl

-- a byte of the inputs is granted as the manager grants it, in a state that runs, and denied in another
pub put_granted : (s : SlaveState) (i x : ℕ) → is_running s.al.state ≡ true → is_some (app_put (manager_at s.managers 3) i x) ≡ is_some (input_put s i x)
put_granted s i x r =
    let put : Option SyncManager = app_put (manager_at s.managers 3) i x in
    mapped_some (with_manager s 3) put ∙ ap (λ (o : Option SlaveState). is_some o) (sym (if_true (is_running s.al.state) (option_map (with_manager s 3) put) None r))

pub put_denied : (s : SlaveState) (i x : ℕ) → is_running s.al.state ≡ false → false ≡ is_some (input_put s i x)
put_denied s i x r =
    ap (λ (o : Option SlaveState). is_some o) (sym (if_false (is_running s.al.state) (option_map (with_manager s 3) (app_put (manager_at s.managers 3) i x)) None r))
