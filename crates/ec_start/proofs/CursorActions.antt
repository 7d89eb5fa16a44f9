-- The actions ahead of a cursor: what the steps of the cursor do to them.
use Rattle.std.proofs.Common.{◌≡◌, ◌≢◌, ℕ, zero, suc, ◌+◌, ◌-◌, ◌/◌, ◌%◌, ◌<◌, ◌≤◌, ◌==◌, ◌&&◌, List, [], ◌∷◌, ◌++◌, length, drop, get_or, slice_get, Option, Some, None, is_some, Bool, true, false, not, nat_lt, option_map, refl, sym, ap, ◌∙◌, arith, append_assoc, append-nil}
use Rattle.std.proofs.Common.{inl, inr, if◌then◌else◌}
use Rattle.std.proofs.lemmas.Bool.{cases_Bool, ltb-false, ltb-true}
use Rattle.std.proofs.lemmas.List.{drop_all, drop_more}
use Rattle.ec_device.specs.declared.slave_type.Mailbox.{Mailbox}
use Rattle.ec_link.specs.declared.settings.SlavePlan.{SlavePlan}
use Rattle.ec_start.specs.declared.action.SdoRequest.{SdoRequest}
use Rattle.ec_start.specs.declared.action.Action.{Action}
use Rattle.ec_start.specs.declared.action.Action.TheVariants.{SendRequest}
use Rattle.ec_start.specs.declared.script.Stretch.{Stretch}
use Rattle.ec_start.specs.declared.script.Stretch.TheVariants.{Opening, Naming, Settling, Identifying, Closing, Mailboxes, ToPreOp, Talking, Mapping, ToSafeOp, ToOp}
use Rattle.ec_start.specs.declared.script.Cursor.{Cursor}
use Rattle.ec_start.specs.Plans.{settings_at, fmmu_at}
use Rattle.ec_start.specs.Scripts.{each_slave, script, requests, reply_awaited, exchanged, talked, mapped, manager_set, fmmu_set}
use Rattle.ec_start.specs.Ahead.{share, share_of, is_for_all, share_at, following, whole, later, beyond, ahead, behind, rank, shares_left, somes, choices, manager_chosen, fmmu_chosen}

not_left : (a b : Bool) → not a && b ≡ true → a ≡ false
not_left true b e = absurd (let f : false ≡ true = e in cc)
not_left false b e = refl

and_right_true : (a b : Bool) → not a && b ≡ true → b ≡ true
and_right_true true b e = absurd (let f : false ≡ true = e in cc)
and_right_true false b e = e

-- ---- lists

pub get_read : {X : Type 0} (xs : List X) (i : ℕ) (x : X) → i < length xs → x ≡ get_or xs i x → slice_get xs i ≡ Some x
get_read [] i x lt is = absurd (omega arith)
get_read (y ∷ ys) zero x lt is = ap Some (sym is)
get_read (y ∷ ys) (suc i) x lt is = get_read ys i x (omega arith) is

pub get_none : {X : Type 0} (xs : List X) (i : ℕ) → length xs ≤ i → slice_get xs i ≡ None
get_none [] i le = refl
get_none (y ∷ ys) zero le = absurd (omega arith)
get_none (y ∷ ys) (suc i) le = get_none ys i (omega arith)

pub drop_none : {X : Type 0} (xs : List X) (i : ℕ) → slice_get xs i ≡ None → drop i xs ≡ []
drop_none [] zero e = refl
drop_none [] (suc i) e = refl
drop_none (y ∷ ys) zero e = absurd (let f : Some y ≡ None = e in cc)
drop_none (y ∷ ys) (suc i) e = drop_none ys i e

pub drop_some : {X : Type 0} (xs : List X) (i : ℕ) (x : X) → slice_get xs i ≡ Some x → drop i xs ≡ x ∷ drop (i + 1) xs
drop_some [] i x e = absurd (let f : None ≡ Some x = e in cc)
drop_some (y ∷ ys) zero x e = let f : Some y ≡ Some x = e in let g : y ≡ x = cc in ap (λ z. z ∷ ys) g
drop_some (y ∷ ys) (suc i) x e = let z : suc i + 1 ≡ suc (i + 1) = omega arith in rw z (drop_some ys i x e)

-- ---- shares, slave after slave

drop_nil : {X : Type 0} (n : ℕ) → drop {A = X} n [] ≡ []
drop_nil zero = refl
drop_nil (suc n) = refl

each_step : (f : ℕ → SlavePlan → List Action) (ps : List SlavePlan) (k i : ℕ) → each_slave f k (drop i ps) ≡ share_of f k (slice_get ps i) ++ each_slave f (k + 1) (drop (i + 1) ps)
each_step f [] k zero = refl
each_step f [] k (suc i) = ap (each_slave f (k + 1)) (sym (drop_nil (suc i + 1)))
each_step f (p ∷ ps) k zero = refl
each_step f (p ∷ ps) k (suc i) = let z : suc i + 1 ≡ suc (i + 1) = omega arith in rw z (each_step f ps k i)

-- a whole stretch from its first share on
whole_step : (st : Stretch) (ps : List SlavePlan) (rest : List Action)
    → each_slave (share st) 0 ps ++ rest ≡ share_of (share st) 0 (slice_get ps 0) ++ (each_slave (share st) 1 (drop 1 ps) ++ rest)
whole_step st ps rest = ap (λ xs. xs ++ rest) (each_step (share st) ps 0 0) ∙ append_assoc (share_of (share st) 0 (slice_get ps 0)) _ rest

later_step : (st next : Stretch) (ps : List SlavePlan) → following st ≡ Some next → later st ps ≡ whole next ps ++ later next ps
later_step Opening next ps e = let f : Some Naming ≡ Some next = e in let g : Naming ≡ next = cc in rw (sym g) refl
later_step Naming next ps e = let f : Some Settling ≡ Some next = e in let g : Settling ≡ next = cc in rw (sym g) refl
later_step Settling next ps e = let f : Some Identifying ≡ Some next = e in let g : Identifying ≡ next = cc in rw (sym g) refl
later_step Identifying next ps e = let f : Some Closing ≡ Some next = e in let g : Closing ≡ next = cc in rw (sym g) refl
later_step Closing next ps e = let f : Some Mailboxes ≡ Some next = e in let g : Mailboxes ≡ next = cc in rw (sym g) refl
later_step Mailboxes next ps e = let f : Some ToPreOp ≡ Some next = e in let g : ToPreOp ≡ next = cc in rw (sym g) refl
later_step ToPreOp next ps e = let f : Some Talking ≡ Some next = e in let g : Talking ≡ next = cc in rw (sym g) refl
later_step Talking next ps e = let f : Some Mapping ≡ Some next = e in let g : Mapping ≡ next = cc in rw (sym g) refl
later_step Mapping next ps e = let f : Some ToSafeOp ≡ Some next = e in let g : ToSafeOp ≡ next = cc in rw (sym g) refl
later_step ToSafeOp next ps e = let f : Some ToOp ≡ Some next = e in let g : ToOp ≡ next = cc in rw (sym g) (sym (append-nil (whole ToOp ps)))
later_step ToOp next ps e = absurd (let f : None ≡ Some next = e in cc)

later_end : (st : Stretch) (ps : List SlavePlan) → following st ≡ None → later st ps ≡ []
later_end Opening ps e = absurd (let f : Some Naming ≡ None = e in cc)
later_end Naming ps e = absurd (let f : Some Settling ≡ None = e in cc)
later_end Settling ps e = absurd (let f : Some Identifying ≡ None = e in cc)
later_end Identifying ps e = absurd (let f : Some Closing ≡ None = e in cc)
later_end Closing ps e = absurd (let f : Some Mailboxes ≡ None = e in cc)
later_end Mailboxes ps e = absurd (let f : Some ToPreOp ≡ None = e in cc)
later_end ToPreOp ps e = absurd (let f : Some Talking ≡ None = e in cc)
later_end Talking ps e = absurd (let f : Some Mapping ≡ None = e in cc)
later_end Mapping ps e = absurd (let f : Some ToSafeOp ≡ None = e in cc)
later_end ToSafeOp ps e = absurd (let f : Some ToOp ≡ None = e in cc)
later_end ToOp ps e = refl

rank_step : (st next : Stretch) → following st ≡ Some next → rank next + 1 ≡ rank st
rank_step Opening next e = let f : Some Naming ≡ Some next = e in let g : Naming ≡ next = cc in rw (sym g) refl
rank_step Naming next e = let f : Some Settling ≡ Some next = e in let g : Settling ≡ next = cc in rw (sym g) refl
rank_step Settling next e = let f : Some Identifying ≡ Some next = e in let g : Identifying ≡ next = cc in rw (sym g) refl
rank_step Identifying next e = let f : Some Closing ≡ Some next = e in let g : Closing ≡ next = cc in rw (sym g) refl
rank_step Closing next e = let f : Some Mailboxes ≡ Some next = e in let g : Mailboxes ≡ next = cc in rw (sym g) refl
rank_step Mailboxes next e = let f : Some ToPreOp ≡ Some next = e in let g : ToPreOp ≡ next = cc in rw (sym g) refl
rank_step ToPreOp next e = let f : Some Talking ≡ Some next = e in let g : Talking ≡ next = cc in rw (sym g) refl
rank_step Talking next e = let f : Some Mapping ≡ Some next = e in let g : Mapping ≡ next = cc in rw (sym g) refl
rank_step Mapping next e = let f : Some ToSafeOp ≡ Some next = e in let g : ToSafeOp ≡ next = cc in rw (sym g) refl
rank_step ToSafeOp next e = let f : Some ToOp ≡ Some next = e in let g : ToOp ≡ next = cc in rw (sym g) refl
rank_step ToOp next e = absurd (let f : None ≡ Some next = e in cc)

-- ---- the next share

-- what a whole stretch is from its beginning on
ahead_whole : (st : Stretch) (ps : List SlavePlan) → whole st ps ++ later st ps ≡ ahead ps (record { stretch = st; slave = 0; place = 0 })
ahead_whole st ps = elim (cases_Bool (is_for_all st)) [
  | inl t ↦ rw t refl
  | inr f ↦ rw f (whole_step st ps (later st ps))
]

-- a slave's share, and what is behind it
ahead_slave : (st : Stretch) (ps : List SlavePlan) (i : ℕ) → is_for_all st ≡ false → beyond st ps i ≡ ahead ps (record { stretch = st; slave = i + 1; place = 0 })
ahead_slave st ps i e =
    rw e (ap (λ xs. xs ++ later st ps) (each_step (share st) ps (i + 1) (i + 1)) ∙ append_assoc (share_of (share st) (i + 1) (slice_get ps (i + 1))) _ (later st ps))

beyond_last : (st : Stretch) (ps : List SlavePlan) (i : ℕ) → not (is_for_all st) && nat_lt (i + 1) (length ps) ≡ false → beyond st ps i ≡ later st ps
beyond_last st ps i e = elim (cases_Bool (is_for_all st)) [
  | inl t ↦ rw t refl
  | inr f ↦
      let g : not false && nat_lt (i + 1) (length ps) ≡ false = rw f at e in
      let le : length ps ≤ i + 1 = ltb-false (i + 1) (length ps) g in
      rw f (ap (λ xs. each_slave (share st) (i + 1) xs ++ later st ps) (drop_all (i + 1) ps le))
]

abbrev next_of : Cursor → Cursor
next_of c = record { stretch = c.stretch; slave = c.slave + 1; place = 0 }

abbrev start_of : Stretch → Cursor
start_of st = record { stretch = st; slave = 0; place = 0 }

behind_case : (ps : List SlavePlan) (c d : Cursor) (b : Bool) → not (is_for_all c.stretch) && nat_lt (c.slave + 1) (length ps) ≡ b
    → if◌then◌else◌ {A = Option Cursor} b (Some (record { stretch = c.stretch; slave = c.slave + 1; place = 0 })) (option_map start_of (following c.stretch)) ≡ Some d
    → beyond c.stretch ps c.slave ≡ ahead ps d
behind_case ps c d true t e =
    let own : is_for_all c.stretch ≡ false = not_left (is_for_all c.stretch) (nat_lt (c.slave + 1) (length ps)) t in
    let f : Some (record { stretch = c.stretch; slave = c.slave + 1; place = 0 }) ≡ Some d = e in
    let g : record { stretch = c.stretch; slave = c.slave + 1; place = 0 } ≡ d = cc in
    ahead_slave c.stretch ps c.slave own ∙ ap (ahead ps) g
behind_case ps c d false t e = beyond_last c.stretch ps c.slave t ∙ next (following c.stretch) refl e
  where
    next : (o : Option Stretch) → following c.stretch ≡ o → option_map start_of o ≡ Some d → later c.stretch ps ≡ ahead ps d
    next None is f = absurd (let h : None ≡ Some d = f in cc)
    next (Some st) is f =
        let h : Some (record { stretch = st; slave = 0; place = 0 }) ≡ Some d = f in
        let g : record { stretch = st; slave = 0; place = 0 } ≡ d = cc in
        let l = later_step c.stretch st ps is in
        l ∙ (ahead_whole st ps ∙ ap (ahead ps) g)

-- past the end of a share, the actions ahead are those from the next one on
pub ahead_behind : (ps : List SlavePlan) (c d : Cursor) → slice_get (share_at c.stretch ps c.slave) c.place ≡ None → behind (length ps) c ≡ Some d → ahead ps c ≡ ahead ps d
ahead_behind ps c d none e = ap (λ xs. xs ++ beyond c.stretch ps c.slave) (drop_none (share_at c.stretch ps c.slave) c.place none) ∙ behind_case ps c d _ refl e

end_case : (ps : List SlavePlan) (c : Cursor) (b : Bool) → not (is_for_all c.stretch) && nat_lt (c.slave + 1) (length ps) ≡ b
    → if◌then◌else◌ {A = Option Cursor} b (Some (record { stretch = c.stretch; slave = c.slave + 1; place = 0 })) (option_map start_of (following c.stretch)) ≡ None
    → beyond c.stretch ps c.slave ≡ []
end_case ps c true t e = absurd (let f : Some (next_of c) ≡ None = e in cc)
end_case ps c false t e = beyond_last c.stretch ps c.slave t ∙ last (following c.stretch) refl e
  where
    last : (o : Option Stretch) → following c.stretch ≡ o → option_map start_of o ≡ None → later c.stretch ps ≡ []
    last None is f = later_end c.stretch ps is
    last (Some st) is f = absurd (let h : Some (start_of st) ≡ None = f in cc)

-- or there are none
pub ahead_end : (ps : List SlavePlan) (c : Cursor) → slice_get (share_at c.stretch ps c.slave) c.place ≡ None → behind (length ps) c ≡ None → ahead ps c ≡ []
ahead_end ps c none e = ap (λ xs. xs ++ beyond c.stretch ps c.slave) (drop_none (share_at c.stretch ps c.slave) c.place none) ∙ end_case ps c _ refl e

-- where there is an action, it is the first ahead
pub ahead_here : (ps : List SlavePlan) (c : Cursor) (a : Action) → slice_get (share_at c.stretch ps c.slave) c.place ≡ Some a → ahead ps c ≡ a ∷ ahead ps (record c { place = c.place + 1 })
ahead_here ps c a e = ap (λ xs. xs ++ beyond c.stretch ps c.slave) (drop_some (share_at c.stretch ps c.slave) c.place a e)

-- ---- the loop that skips what is empty

pub record IsBehind (n : ℕ) (c d : Cursor) : Type 0 where
  pub less : shares_left d < shares_left c
  pub low : d.slave ≤ 64
  pub place : d.place ≡ 0

behind_less : (n : ℕ) (c d : Cursor) (b : Bool) → n ≤ 64 → c.slave ≤ 64 → not (is_for_all c.stretch) && nat_lt (c.slave + 1) n ≡ b
    → if◌then◌else◌ {A = Option Cursor} b (Some (record { stretch = c.stretch; slave = c.slave + 1; place = 0 })) (option_map start_of (following c.stretch)) ≡ Some d
    → IsBehind n c d
behind_less n c d true few low t e =
    let lt : c.slave + 1 < n = ltb-true (c.slave + 1) n (and_right_true (is_for_all c.stretch) (nat_lt (c.slave + 1) n) t) in
    let f : Some (record { stretch = c.stretch; slave = c.slave + 1; place = 0 }) ≡ Some d = e in
    let g : record { stretch = c.stretch; slave = c.slave + 1; place = 0 } ≡ d = cc in
    rw (sym g) (record { less = omega (arith, lt, few); low = omega (arith, lt, few); place = refl })
behind_less n c d false few low t e = next (following c.stretch) refl e
  where
    next : (o : Option Stretch) → following c.stretch ≡ o → option_map start_of o ≡ Some d → IsBehind n c d
    next None is f = absurd (let h : None ≡ Some d = f in cc)
    next (Some st) is f =
        let h : Some (record { stretch = st; slave = 0; place = 0 }) ≡ Some d = f in
        let g : record { stretch = st; slave = 0; place = 0 } ≡ d = cc in
        let r = rank_step c.stretch st is in
        rw (sym g) (record { less = omega (arith, r, low); low = omega arith; place = refl })

pub is_behind : (n : ℕ) (c d : Cursor) → n ≤ 64 → c.slave ≤ 64 → behind n c ≡ Some d → IsBehind n c d
is_behind n c d few low e = behind_less n c d _ few low refl e

-- ---- the whole script

pub script_ahead : (ps : List SlavePlan) → script ps ≡ ahead ps (record { stretch = Opening; slave = 0; place = 0 })
script_ahead [] = refl
script_ahead (p ∷ ps) = refl

-- ---- shares by place

-- the requests of a slave, each sent and awaited
talk_none : (h : Bool) (i : ℕ) (b : Mailbox) (n : ℕ) (rs : List SdoRequest) (k : ℕ) → slice_get rs (k / 2) ≡ None → slice_get (exchanged h i b n rs) k ≡ None
talk_none h i b n [] k e = refl
talk_none h i b n (r ∷ rs) zero e = absurd (let f : Some r ≡ None = e in cc)
talk_none h i b n (r ∷ rs) (suc zero) e = absurd (let f : Some r ≡ None = e in cc)
talk_none h i b n (r ∷ rs) (suc (suc k)) e = let half : suc (suc k) / 2 ≡ suc (k / 2) = omega arith in talk_none h i b (n + 1) rs k (rw half at e)

talk_sent : (h : Bool) (i : ℕ) (b : Mailbox) (n : ℕ) (rs : List SdoRequest) (k : ℕ) (r : SdoRequest) → slice_get rs (k / 2) ≡ Some r → k % 2 ≡ 0 → slice_get (exchanged h i b n rs) k ≡ Some (SendRequest i (n + k / 2) b r)
talk_sent h i b n [] k r e even = absurd (let f : None ≡ Some r = e in cc)
talk_sent h i b n (x ∷ rs) zero r e even = let f : Some x ≡ Some r = e in let g : x ≡ r = cc in let z : n ≡ n + 0 / 2 = omega arith in rw (sym g) (ap (λ m. Some (SendRequest i m b x)) z)
talk_sent h i b n (x ∷ rs) (suc zero) r e even = absurd (omega (arith, even))
talk_sent h i b n (x ∷ rs) (suc (suc k)) r e even =
    let half : suc (suc k) / 2 ≡ suc (k / 2) = omega arith in
    let z : n + 1 + k / 2 ≡ n + suc (suc k) / 2 = omega arith in
    talk_sent h i b (n + 1) rs k r (rw half at e) (omega (arith, even)) ∙ ap (λ m. Some (SendRequest i m b r)) z

talk_awaited : (h : Bool) (i : ℕ) (b : Mailbox) (n : ℕ) (rs : List SdoRequest) (k : ℕ) (r : SdoRequest) → slice_get rs (k / 2) ≡ Some r → k % 2 ≢ 0 → slice_get (exchanged h i b n rs) k ≡ Some (reply_awaited h i b r)
talk_awaited h i b n [] k r e odd = absurd (let f : None ≡ Some r = e in cc)
talk_awaited h i b n (x ∷ rs) zero r e odd = absurd (odd refl)
talk_awaited h i b n (x ∷ rs) (suc zero) r e odd = let f : Some x ≡ Some r = e in let g : x ≡ r = cc in rw (sym g) refl
talk_awaited h i b n (x ∷ rs) (suc (suc k)) r e odd =
    let half : suc (suc k) / 2 ≡ suc (k / 2) = omega arith in
    talk_awaited h i b (n + 1) rs k r (rw half at e) (λ z. odd (omega (arith, z)))

pub talked_none : (i : ℕ) (p : SlavePlan) (m : Option Mailbox) (b : Mailbox) (k : ℕ) → Some b ≡ m → None ≡ slice_get (requests p) (k / 2) → None ≡ slice_get (talked i p m) k
talked_none i p m b k is e = sym (talk_none (is_some p.kind.hardware) i b 0 (requests p) k (sym e)) ∙ ap (λ (o : Option Mailbox). slice_get (talked i p o) k) is

pub talked_sent : (i : ℕ) (p : SlavePlan) (m : Option Mailbox) (b : Mailbox) (k : ℕ) (r : SdoRequest) → Some b ≡ m → Some r ≡ slice_get (requests p) (k / 2) → k % 2 ≡ 0
    → Some (SendRequest i (k / 2) b r) ≡ slice_get (talked i p m) k
talked_sent i p m b k r is e even =
    let z : k / 2 ≡ 0 + k / 2 = omega arith in
    ap (λ (n : ℕ). Some (SendRequest i n b r)) z ∙ (sym (talk_sent (is_some p.kind.hardware) i b 0 (requests p) k r (sym e) even) ∙ ap (λ (o : Option Mailbox). slice_get (talked i p o) k) is)

pub talked_awaited : (i : ℕ) (p : SlavePlan) (m : Option Mailbox) (b : Mailbox) (k : ℕ) (r : SdoRequest) → Some b ≡ m → Some r ≡ slice_get (requests p) (k / 2) → k % 2 ≢ 0
    → Some (reply_awaited (is_some p.kind.hardware) i b r) ≡ slice_get (talked i p m) k
talked_awaited i p m b k r is e odd = sym (talk_awaited (is_some p.kind.hardware) i b 0 (requests p) k r (sym e) odd) ∙ ap (λ (o : Option Mailbox). slice_get (talked i p o) k) is

-- the choices that are made
some_first : (x : Option Action) (xs : List (Option Action)) (k : ℕ) → x ≡ None → slice_get (somes (x ∷ xs)) k ≡ slice_get (somes xs) k
some_first None xs k e = refl
some_first (Some a) xs k e = absurd (let f : Some a ≡ None = e in cc)

manager_somes : (i : ℕ) (p : SlavePlan) (n : ℕ) (xs : List (Option Action)) → somes (manager_chosen i p n ∷ xs) ≡ manager_set i p n ++ somes xs
manager_somes i p n xs = elim (cases_Bool ((settings_at p.managers n).activate == 0)) [
  | inl t ↦ rw t refl
  | inr f ↦ rw f refl
]

fmmu_somes : (i : ℕ) (p : SlavePlan) (n : ℕ) (xs : List (Option Action)) → somes (fmmu_chosen i p n ∷ xs) ≡ fmmu_set i p n (fmmu_at p.fmmus n).active ++ somes xs
fmmu_somes i p n xs = elim (cases_Bool (fmmu_at p.fmmus n).active) [
  | inl t ↦ rw t refl
  | inr f ↦ rw f refl
]

pub mapped_somes : (i : ℕ) (p : SlavePlan) → somes (choices i p) ≡ mapped i p
mapped_somes i p =
    manager_somes i p 2 _
    ∙ (ap (λ xs. manager_set i p 2 ++ xs) (manager_somes i p 3 _
    ∙ ap (λ xs. manager_set i p 3 ++ xs) (fmmu_somes i p 0 _
    ∙ ap (λ xs. fmmu_set i p 0 (fmmu_at p.fmmus 0).active ++ xs) (fmmu_somes i p 1 [] ∙ append-nil (fmmu_set i p 1 (fmmu_at p.fmmus 1).active)))))

-- ---- what a mapping sets, one after the other

pub choice_none : (i : ℕ) (p : SlavePlan) (n k : ℕ) → n < 4 → None ≡ get_or (choices i p) n None → slice_get (somes (drop (n + 1) (choices i p))) k ≡ slice_get (somes (drop n (choices i p))) k
choice_none i p n k low is = sym (rw (drop_more (choices i p) n None low, ← is) refl)

pub choice_past : (i : ℕ) (p : SlavePlan) (n k : ℕ) (a : Action) → n < 4 → Some a ≡ get_or (choices i p) n None → k ≢ 0 → slice_get (somes (drop (n + 1) (choices i p))) (k - 1) ≡ slice_get (somes (drop n (choices i p))) k
choice_past i p n zero a low is some = absurd (some refl)
choice_past i p n (suc k) a low is some =
    let less : suc k - 1 ≡ k = omega arith in
    rw less (sym (rw (drop_more (choices i p) n None low, ← is) refl))

pub choice_here : (i : ℕ) (p : SlavePlan) (n : ℕ) (a : Action) → n < 4 → Some a ≡ get_or (choices i p) n None → slice_get (somes (drop n (choices i p))) 0 ≡ Some a
choice_here i p n a low is = rw (drop_more (choices i p) n None low, ← is) refl

pub ruleset choice_steps = (choice_none, choice_past, choice_here, mapped_somes)
