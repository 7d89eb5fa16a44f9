-- The script as a walk: each wait stands right behind what it waits for.
use Rattle.ec_bringup.proofs.Words.{ℕ, suc, ◌+◌, ◌<◌, ◌≤◌, ◌≡◌, true, false, refl, sym, subst, arith, List, [], ◌∷◌, length, ◌==◌, Bool, Option, Some, None, is_some, if◌then◌else◌, ◌++◌, Hardware, SlavePlan, Action, CountSlaves, AwaitReply, AwaitFreeReply, AwaitCleanInit, script, named, settled, settled_by, identified, mailbox_set, raised, exchanged, talked, set_manager, fmmu_set, mapped, each_slave, opened, closed, is_hardware, phases, requests, plan_at, Mailbox, State, PreOp, SafeOp, Op, settings_at, fmmu_at, SdoRequest, IsReachable, CanReach, manager_number, AreNumbered}
use Rattle.ec_bringup.proofs.Mailbox.SendRequest.{IsSendable}
use Rattle.ec_bringup.proofs.AllSlaves.NextAction.{Prompted}
use Rattle.ec_bringup.proofs.AllSlaves.FramePasses.{IsInside}

-- each behind the one before it
abbrev pub Chained : Bool → ℕ → Action → List Action → Type 0
Chained hw n p [] = Unit {0}
Chained hw n p (a ∷ rest) = Prompted p a × IsInside hw n a × IsSendable a × Chained hw n a rest

-- actions that may stand behind any
abbrev pub Free : Bool → ℕ → List Action → Type 0
Free hw n xs = (p : Action) → Chained hw n p xs

chain-append : (hw : Bool) (n : ℕ) (p : Action) (xs bs : List Action) → Chained hw n p xs → Free hw n bs → Chained hw n p (xs ++ bs)
chain-append hw n p [] bs h k = k p
chain-append hw n p (a ∷ xs) bs h k = (h.0, h.1, h.2, chain-append hw n a xs bs h.3 k)

free-append : (hw : Bool) (n : ℕ) (xs bs : List Action) → Free hw n xs → Free hw n bs → Free hw n (xs ++ bs)
free-append hw n xs bs h k = λ p. chain-append hw n p xs bs (h p) k

-- a plan whose slave can be reached, and has numbers for its managers
pub record IsFree (hw : Bool) (q : SlavePlan) : Type 0 where
  pub reach : CanReach q.kind.mailbox
  pub numbered : AreNumbered q.kind.hardware
  pub alike : is_some q.kind.hardware ≡ hw

each-free : (f : ℕ → SlavePlan → List Action) (hw : Bool) (n k : ℕ) (ps : List SlavePlan) → k + length ps ≤ n → ((i : ℕ) → i < length ps → IsFree hw (plan_at ps i))
    → ((t : ℕ) (q : SlavePlan) → t < n → IsFree hw q → Free hw n (f t q)) → Free hw n (each_slave f k ps)
each-free f hw n k [] l r h = λ p. tt
each-free f hw n k (q ∷ ps) l r h = free-append hw n (f k q) (each_slave f (k + 1) ps) (h k q (omega (arith, l)) (r 0 (omega arith))) (each-free f hw n (k + 1) ps (omega (arith, l)) (λ i b. r (suc i) (omega (arith, b))) h)

settled-free : (hw : Bool) (n t : ℕ) (o : Option Hardware) → t < n → is_some o ≡ hw → Free hw n (settled_by t o)
settled-free hw n t None l e = λ p. tt
settled-free hw n t (Some h) l e = elim h.has_firmware as (λ b. Free hw n (if b then AwaitCleanInit t ∷ [] else [])) [ true ↦ (λ p. (tt, (l, sym e), tt, tt)) | false ↦ (λ p. tt) ]

identified-free : (hw : Bool) (n t : ℕ) (q : SlavePlan) → t < n → Free hw n (identified t q)
identified-free hw n t q l =
    λ p. (tt, (l, omega arith), tt, (refl, (l, omega arith), tt, (refl, (l, omega arith), tt, (refl, (l, omega arith), tt, (refl, (l, omega arith), tt, (refl, (l, omega arith), tt, tt))))))

-- a manager of a role under its number
manager-number : (hw : Bool) (n t k : ℕ) (q : SlavePlan) → t < n → k < 4 → AreNumbered q.kind.hardware → IsInside hw n (set_manager t q k) × IsSendable (set_manager t q k)
manager-number hw n t k q l f a = let b : manager_number q.kind.hardware k < 4 = a.few k f in ((l, b), b)

mailbox-free : (hw : Bool) (n t : ℕ) (q : SlavePlan) (o : Option Mailbox) → t < n → AreNumbered q.kind.hardware → Free hw n (mailbox_set t q o)
mailbox-free hw n t q None l a = λ p. tt
mailbox-free hw n t q (Some b) l a =
    let x = manager-number hw n t 0 q l (omega arith) a in
    let y = manager-number hw n t 1 q l (omega arith) a in
    λ p. (tt, x.0, x.1, (tt, y.0, y.1, tt))

raised-free : (hw : Bool) (n t : ℕ) (to : State) (q : SlavePlan) → t < n → Free hw n (raised to t q)
raised-free hw n t to q l = λ p. (tt, l, tt, (refl, l, tt, tt))

exchanged-free : (hw : Bool) (n t counter : ℕ) (b : Mailbox) (rs : List SdoRequest) → t < n → IsReachable b → Free hw n (exchanged hw t b counter rs)
exchanged-free hw n t counter b [] l r = λ p. tt
exchanged-free true n t counter b (x ∷ rs) l r = λ p. (tt, l, r, ((counter, refl), (l, refl), r, exchanged-free true n t (counter + 1) b rs l r (AwaitFreeReply t b x)))
exchanged-free false n t counter b (x ∷ rs) l r = λ p. (tt, l, r, ((counter, refl), (l, refl), r, exchanged-free false n t (counter + 1) b rs l r (AwaitReply t b x)))

talked-free : (hw : Bool) (n t : ℕ) (q : SlavePlan) (o : Option Mailbox) → t < n → CanReach o → is_some q.kind.hardware ≡ hw → Free hw n (talked t q o)
talked-free hw n t q None l r e = λ p. tt
talked-free hw n t q (Some b) l r e = subst (λ (x : Bool). Free hw n (exchanged x t b 0 (requests q))) (sym e) (exchanged-free hw n t 0 b (requests q) l r)

manager-free : (hw : Bool) (n t k : ℕ) (q : SlavePlan) (b : Bool) → t < n → k < 4 → AreNumbered q.kind.hardware → Free hw n (if b then [] else set_manager t q k ∷ [])
manager-free hw n t k q true l f a = λ p. tt
manager-free hw n t k q false l f a = let x = manager-number hw n t k q l f a in λ p. (tt, x.0, x.1, tt)

fmmu-free : (hw : Bool) (n t k : ℕ) (q : SlavePlan) (b : Bool) → t < n → k < 4 → Free hw n (fmmu_set t q k b)
fmmu-free hw n t k q true l f = λ p. (tt, l, f, tt)
fmmu-free hw n t k q false l f = λ p. tt

mapped-free : (hw : Bool) (n t : ℕ) (q : SlavePlan) → t < n → AreNumbered q.kind.hardware → Free hw n (mapped t q)
mapped-free hw n t q l a =
    free-append hw n _ _ (manager-free hw n t 2 q ((settings_at q.managers 2).activate == 0) l (omega arith) a)
    (free-append hw n _ _ (manager-free hw n t 3 q ((settings_at q.managers 3).activate == 0) l (omega arith) a)
    (free-append hw n _ _ (fmmu-free hw n t 0 q (fmmu_at q.fmmus 0).active l (omega arith)) (fmmu-free hw n t 1 q (fmmu_at q.fmmus 1).active l (omega arith))))

-- what is asked of all at the beginning, behind the frame that counts the slaves
opened-chained : (hw : Bool) (n : ℕ) → Chained hw n CountSlaves (opened hw)
opened-chained true n = (refl, tt, tt, (refl, refl, tt, (tt, tt, tt, (tt, tt, tt, (tt, tt, tt, (tt, tt, tt, (tt, tt, tt, (tt, tt, tt, tt))))))))
opened-chained false n = (refl, tt, tt, (refl, refl, tt, (tt, refl, tt, (tt, tt, tt, (tt, tt, tt, tt)))))

closed-free : (hw : Bool) (n : ℕ) → Free hw n (closed hw)
closed-free true n = λ p. (tt, tt, tt, tt)
closed-free false n = λ p. tt

pub phases-chained : (ps : List SlavePlan) → ((i : ℕ) → i < length ps → IsFree (is_hardware ps) (plan_at ps i)) → Chained (is_hardware ps) (length ps) CountSlaves (phases ps)
phases-chained ps r =
    let k : 0 + length ps ≤ length ps = omega arith in
    let hw : Bool = is_hardware ps in
    let n : ℕ = length ps in
    chain-append hw n CountSlaves (opened hw) _ (opened-chained hw n)
    (free-append hw n (each_slave named 0 ps) _ (each-free named hw n 0 ps k r (λ t q l c p. (tt, l, tt, tt)))
    (free-append hw n (each_slave settled 0 ps) _ (each-free settled hw n 0 ps k r (λ t q l c. settled-free hw n t q.kind.hardware l c.alike))
    (free-append hw n (each_slave identified 0 ps) _ (each-free identified hw n 0 ps k r (λ t q l c. identified-free hw n t q l))
    (free-append hw n (closed hw) _ (closed-free hw n)
    (free-append hw n (each_slave (λ i q. mailbox_set i q q.kind.mailbox) 0 ps) _ (each-free (λ i q. mailbox_set i q q.kind.mailbox) hw n 0 ps k r (λ t q l c. mailbox-free hw n t q q.kind.mailbox l c.numbered))
    (free-append hw n (each_slave (raised PreOp) 0 ps) _ (each-free (raised PreOp) hw n 0 ps k r (λ t q l c. raised-free hw n t PreOp q l))
    (free-append hw n (each_slave (λ i q. talked i q q.kind.mailbox) 0 ps) _ (each-free (λ i q. talked i q q.kind.mailbox) hw n 0 ps k r (λ t q l c. talked-free hw n t q q.kind.mailbox l c.reach c.alike))
    (free-append hw n (each_slave mapped 0 ps) _ (each-free mapped hw n 0 ps k r (λ t q l c. mapped-free hw n t q l c.numbered))
    (free-append hw n (each_slave (raised SafeOp) 0 ps) _ (each-free (raised SafeOp) hw n 0 ps k r (λ t q l c. raised-free hw n t SafeOp q l))
    (each-free (raised Op) hw n 0 ps k r (λ t q l c. raised-free hw n t Op q l)))))))))))
