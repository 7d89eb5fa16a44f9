-- Slaves that differ in nothing that a start-up knows of.
use Rattle.ec_bringup.proofs.Words.{ℕ, ◌+◌, ◌*◌, ◌<◌, ◌≡◌, Bool, false, Option, Some, None, refl, sym, ◌∙◌, ap, subst, inl, inr, arith, List, length, slice_index, SlaveKind, SyncManagerSettings, emptied_buffer, SyncManager, buffer_length, State, Init, Al, SlaveState, manager_at, station_of, Assignment, all_assigned, Rise, Falls, Stays, Climbs, Claim, Talk, Config, Stage, Before, Called, Down, Lowered, Up, answered, HasFallen, IsLoweredAt, is_missing, has_firmware, shown_fmmu, fmmu_bytes, fmmu_at, both_ways, true, Hardware, nat_le, nat_lt, ltb-true, and_parts, IsOfKind, unviewed, HoldsZeros, IsConfigured, IsAssigned, Claims, IsSilent, Talks, IsInInit, IsIn, StaysIn, Rises, IsUpAt, AreClear, IsDownAt, Reached, IsGone, HadFault, Stands, IsFaultedAt, power_on, set, length-set, cases_eq, get_or-set_same, get_or-set_other, no_manager, IsUp, ◌||◌, if◌then◌else◌, if_true, or_left, or_right, ◌⊎◌, Identity, SdoValue, SdoRequest, Dictionary, dictionary_of, is_init, has_some, sizes_of, IsDictionary, Came, greeting_of, left_to_say}

-- the control word in a memory
abbrev pub word_of : List ℕ → ℕ
word_of m = slice_index m 0x0120 + 256 * slice_index m 0x0121

-- a manager but for its buffer
pub record SameFront (m n : SyncManager) : Type 0 where
  pub settings : n.settings ≡ m.settings
  pub locked : n.locked ≡ m.locked
  pub mail : n.mail ≡ m.mail

pub front-refl : (m : SyncManager) → SameFront m m
front-refl m = record { settings = refl; locked = refl; mail = refl }

pub record SameFronts (ms ns : List SyncManager) : Type 0 where
  pub four : length ns ≡ length ms
  pub each : (n : ℕ) → SameFront (manager_at ms n) (manager_at ns n)
  pub outputs : unviewed (manager_at ns 2).buffer ≡ unviewed (manager_at ms 2).buffer

pub fronts-refl : (ms : List SyncManager) → SameFronts ms ms
fronts-refl ms = record { four = refl; each = λ n. front-refl (manager_at ms n); outputs = refl }

-- one is set to another that is the same from the front
pub fronts-trans : (ms ns ls : List SyncManager) → SameFronts ms ns → SameFronts ns ls → SameFronts ms ls
fronts-trans ms ns ls a b = record {
  four = b.four ∙ a.four;
  each = λ n. record { settings = (b.each n).settings ∙ (a.each n).settings; locked = (b.each n).locked ∙ (a.each n).locked; mail = (b.each n).mail ∙ (a.each n).mail };
  outputs = b.outputs ∙ a.outputs;
}

pub set-front : (ms : List SyncManager) (n : ℕ) (m : SyncManager) → n < length ms → SameFront (manager_at ms n) m → (n ≡ 2 → unviewed m.buffer ≡ unviewed (manager_at ms n).buffer) → SameFronts ms (set ms n m)
set-front ms n m l front same = record {
  four = length-set ms n m;
  each = λ k. elim (cases_eq k n) [
    | inl e ↦ subst (λ (j : ℕ). SameFront (manager_at ms j) (manager_at (set ms n m) j)) (sym e)
        (subst (λ (x : SyncManager). SameFront (manager_at ms n) x) (sym (get_or-set_same ms n m no_manager l)) front)
    | inr ne ↦ subst (λ (x : SyncManager). SameFront (manager_at ms k) x) (sym (get_or-set_other ms n k m no_manager ne)) (front-refl (manager_at ms k))
  ];
  outputs = elim (cases_eq 2 n) [
    | inl e ↦ subst (λ (j : ℕ). unviewed (manager_at (set ms n m) j).buffer ≡ unviewed (manager_at ms j).buffer) (sym e)
        (ap (λ (x : SyncManager). unviewed x.buffer) (get_or-set_same ms n m no_manager l) ∙ same (sym e))
    | inr ne ↦ ap (λ (x : SyncManager). unviewed x.buffer) (get_or-set_other ms n 2 m no_manager ne)
  ];
}

-- its dictionary
pub record SameObjects (s t : SlaveState) : Type 0 where
  pub kind : t.kind ≡ s.kind
  pub identity : t.identity ≡ s.identity
  pub outs : t.outs ≡ s.outs
  pub ins : t.ins ≡ s.ins
  pub values : t.values ≡ s.values

pub objects-refl : (s : SlaveState) → SameObjects s s
objects-refl s = record { kind = refl; identity = refl; outs = refl; ins = refl; values = refl }

pub dictionary-same : (s t : SlaveState) → SameObjects s t → dictionary_of t ≡ dictionary_of s
dictionary-same s t h =
    ap (λ (x : SlaveKind). record { kind = x; identity = t.identity; outs = t.outs; ins = t.ins; values = t.values }) h.kind
    ∙ (ap (λ (x : Identity). record { kind = s.kind; identity = x; outs = t.outs; ins = t.ins; values = t.values }) h.identity
    ∙ (ap (λ (x : Assignment). record { kind = s.kind; identity = s.identity; outs = x; ins = t.ins; values = t.values }) h.outs
    ∙ (ap (λ (x : Assignment). record { kind = s.kind; identity = s.identity; outs = s.outs; ins = x; values = t.values }) h.ins
    ∙ ap (λ (x : List SdoValue). record { kind = s.kind; identity = s.identity; outs = s.outs; ins = s.ins; values = x }) h.values)))

pub came-same : (rs : List SdoRequest) (s t : SlaveState) → SameObjects s t → Came s.kind rs (dictionary_of s) → Came t.kind rs (dictionary_of t)
came-same rs s t h c =
    subst (λ (k : SlaveKind). Came k rs (dictionary_of t)) (sym h.kind) (subst (λ (d : Dictionary). Came s.kind rs d) (sym (dictionary-same s t h)) c)

-- what a slave has
pub of-type : (kind : SlaveKind) (s : SlaveState) → IsOfKind kind s → IsDictionary kind (dictionary_of s)
of-type kind s h = record {
  kind_is = h.kind_is;
  outs = h.outs;
  ins = h.ins;
  fixed = λ e. let f = h.fixed e in (f.outs ∙ ap (λ (k : SlaveKind). all_assigned k.outputs) h.kind_is, f.ins ∙ ap (λ (k : SlaveKind). all_assigned k.inputs) h.kind_is);
  sizes = h.sizes;
}

pub of-own-type : (kind : SlaveKind) (s : SlaveState) → IsOfKind kind s → IsDictionary s.kind (dictionary_of s)
of-own-type kind s h = subst (λ (k : SlaveKind). IsDictionary k (dictionary_of s)) (sym h.kind_is) (of-type kind s h)

-- all but the AL state machine, the inputs, the view of the outputs, and an SII that becomes idle
pub record Alike (s t : SlaveState) : Type 0 where
  pub kind : t.kind ≡ s.kind
  pub room : length t.memory ≡ length s.memory
  -- the registers that a start-up knows of
  pub memory : (a : ℕ) → a < 0x0800 → slice_index t.memory a ≡ slice_index s.memory a
  pub managers : SameFronts s.managers t.managers
  pub idle : s.sii.busy ≡ false → t.sii.busy ≡ false
  pub objects : SameObjects s t

pub station-alike : (s t : SlaveState) → Alike s t → station_of t ≡ station_of s
station-alike s t a = ap (λ (x : ℕ). x + 256 * slice_index t.memory 0x0011) (a.memory 0x0010 (omega arith)) ∙ ap (λ (x : ℕ). slice_index s.memory 0x0010 + 256 * x) (a.memory 0x0011 (omega arith))

pub word-alike : (s t : SlaveState) → Alike s t → word_of t.memory ≡ word_of s.memory
word-alike s t a = ap (λ (x : ℕ). x + 256 * slice_index t.memory 0x0121) (a.memory 0x0120 (omega arith)) ∙ ap (λ (x : ℕ). slice_index s.memory 0x0120 + 256 * x) (a.memory 0x0121 (omega arith))

-- a slave of a type stays one where its type, its sizes and its assignments stay, and where INIT unlocks its managers
pub kind-kept : (kind : SlaveKind) (s t : SlaveState) → t.kind ≡ s.kind → length t.memory ≡ length s.memory → length t.managers ≡ length s.managers → t.outs ≡ s.outs → t.ins ≡ s.ins → t.values ≡ s.values
    → (t.al.state ≡ Init → (n : ℕ) → n < 4 → (manager_at t.managers n).locked ≡ false)
    → ((a : ℕ) → is_missing kind.hardware a ≡ true → slice_index t.memory a ≡ slice_index s.memory a) → IsOfKind kind s → IsOfKind kind t
kind-kept kind s t same room count outs ins values unlocked missing h = record {
  kind_is = same ∙ h.kind_is;
  room = room ∙ h.room;
  four = count ∙ h.four;
  outs = ap (λ (x : Assignment). length x.slots) outs ∙ h.outs;
  ins = ap (λ (x : Assignment). length x.slots) ins ∙ h.ins;
  fixed = λ e. let f = h.fixed e in record {
    outs = outs ∙ (f.outs ∙ ap (λ (k : SlaveKind). all_assigned k.outputs) (sym same));
    ins = ins ∙ (f.ins ∙ ap (λ (k : SlaveKind). all_assigned k.inputs) (sym same));
  };
  sizes = ap sizes_of values ∙ h.sizes;
  unlocked_in_init = unlocked;
  missing = λ a e. missing a e ∙ h.missing a e;
}

-- the registers of FMMUs that it lacks
pub missing-low : (o : Option Hardware) (a : ℕ) → is_missing o a ≡ true → a < 0x0800
missing-low None a e = absurd (both_ways false refl e)
missing-low (Some h) a e = let b = ltb-true a 0x0640 ((and_parts (nat_le (0x0600 + 16 * h.fmmus) a) (nat_lt a 0x0640) e).1) in omega (arith, b)

pub slave-alike : (kind : SlaveKind) (s t : SlaveState) → Alike s t → (t.al.state ≡ Init → s.al.state ≡ Init) → IsOfKind kind s → IsOfKind kind t
slave-alike kind s t a init h = kind-kept kind s t a.kind a.room a.managers.four a.objects.outs a.objects.ins a.objects.values (λ e n l. (a.managers.each n).locked ∙ h.unlocked_in_init (init e) n l)
    (λ b e. a.memory b (missing-low kind.hardware b e)) h

zeros-alike : (s t : SlaveState) → Alike s t → HoldsZeros (manager_at s.managers 2) → HoldsZeros (manager_at t.managers 2)
zeros-alike s t a h = a.managers.outputs ∙ (h ∙ ap (λ (m : SyncManagerSettings). emptied_buffer (buffer_length m)) (sym (a.managers.each 2).settings))

pub configured-alike : (i : ℕ) (c : Config) (s t : SlaveState) → Alike s t → IsConfigured i c s → IsConfigured i c t
configured-alike i c s t a h = record {
  station_is = station-alike s t a ∙ h.station_is;
  settings = λ n l. (a.managers.each n).settings ∙ h.settings n l;
  fmmus = λ n k l b. a.memory (0x0600 + 16 * n + k) (omega arith)
      ∙ (h.fmmus n k l b ∙ ap (λ (x : SlaveKind). slice_index (fmmu_bytes (shown_fmmu x.hardware (fmmu_at c.fmmus n))) k) (sym a.kind));
  idle = λ e. a.idle (h.idle e);
  no_messages = λ n l b. (a.managers.each n).mail ∙ h.no_messages n l b;
  outputs = zeros-alike s t a h.outputs;
}

pub claims-alike : (c : Claim) (a b : Assignment) → b ≡ a → Claims c a → Claims c b
claims-alike c a b e h = subst (Claims c) (sym e) h

pub assigned-same : (c : Config) (s t : SlaveState) → SameObjects s t → IsAssigned c s → IsAssigned c t
assigned-same c s t a h = record {
  outs = claims-alike c.outs s.outs t.outs a.outs h.outs;
  ins = claims-alike c.ins s.ins t.ins a.ins h.ins;
  came = came-same c.done s t a h.came;
}

pub assigned-alike : (c : Config) (s t : SlaveState) → Alike s t → IsAssigned c s → IsAssigned c t
assigned-alike c s t a h = assigned-same c s t a.objects h

-- ---- what it has still to say

-- as long as it is in INIT, or isn't
pub left-same : (c d : Config) (s t : SlaveState) → t.kind ≡ s.kind → (manager_at t.managers 1).settings ≡ (manager_at s.managers 1).settings → is_init t.al.state ≡ is_init s.al.state → d.done ≡ c.done
    → left_to_say d t ≡ left_to_say c s
left-same c d s t k m i e =
    ap (λ (rs : List SdoRequest). if has_some rs || is_init t.al.state then None else greeting_of t.kind (manager_at t.managers 1).settings) e
    ∙ (ap (λ (b : Bool). if has_some c.done || b then None else greeting_of t.kind (manager_at t.managers 1).settings) i
    ∙ (ap (λ (x : SlaveKind). if has_some c.done || is_init s.al.state then None else greeting_of x (manager_at t.managers 1).settings) k
    ∙ ap (λ (x : SyncManagerSettings). if has_some c.done || is_init s.al.state then None else greeting_of s.kind x) m))

-- in INIT it has nothing to say
pub left-init : (c : Config) (s : SlaveState) → s.al.state ≡ Init → left_to_say c s ≡ None
left-init c s e = if_true (has_some c.done || is_init s.al.state) None (greeting_of s.kind (manager_at s.managers 1).settings) (or_right (has_some c.done) (is_init s.al.state) (ap is_init e))

-- nor once a reply of it was read
pub left-done : (c : Config) (s : SlaveState) → has_some c.done ≡ true → left_to_say c s ≡ None
left-done c s e = if_true (has_some c.done || is_init s.al.state) None (greeting_of s.kind (manager_at s.managers 1).settings) (or_left (has_some c.done) (is_init s.al.state) e)

pub left-alike : (c : Config) (s t : SlaveState) → Alike s t → is_init t.al.state ≡ is_init s.al.state → left_to_say c t ≡ left_to_say c s
left-alike c s t a i = left-same c c s t a.kind (a.managers.each 1).settings i refl

pub silent-alike : (c : Config) (s t : SlaveState) → Alike s t → is_init t.al.state ≡ is_init s.al.state → IsSilent c s → IsSilent c t
silent-alike c s t a i h = record {
  no_message = (a.managers.each 0).mail ∙ h.no_message;
  no_reply = (a.managers.each 1).mail ∙ (h.no_reply ∙ sym (left-alike c s t a i));
  assigned = assigned-alike c s t a h.assigned;
}

-- nothing, or that, lies in a manager
pub said-on : (x y : Option (List ℕ)) (a b : Option (List ℕ)) → y ≡ x → b ≡ a → (x ≡ None) ⊎ (x ≡ a) → (y ≡ None) ⊎ (y ≡ b)
said-on x y a b e f (inl h) = inl (e ∙ h)
said-on x y a b e f (inr h) = inr (e ∙ (h ∙ sym f))

pub talks-alike : (i : ℕ) (c : Config) (o : Option Talk) (s t : SlaveState) → Alike s t → is_init t.al.state ≡ is_init s.al.state → Talks i c o s → Talks i c o t
talks-alike i c None s t a q h = silent-alike c s t a q h
talks-alike i c (Some k) s t a q (inl h) = inl (record {
  mailboxes = h.mailboxes;
  request = h.request;
  mailbox_message = (a.managers.each 0).mail ∙ h.mailbox_message;
  no_reply = said-on _ _ _ _ (a.managers.each 1).mail (left-alike c s t a q) h.no_reply;
  assigned = assigned-alike c s t a h.assigned;
})
talks-alike i c (Some k) s t a q (inr h) = inr (record {
  mailboxes = h.mailboxes;
  whole = h.whole;
  no_message = (a.managers.each 0).mail ∙ h.no_message;
  raw = h.raw;
  reply = (a.managers.each 1).mail ∙ h.reply;
  plain = h.plain;
  done = λ hardware e. assigned-alike (answered c k.request) s t a (h.done hardware e);
})

pub up-rest : (i : ℕ) (c : Config) (s t : SlaveState) → Alike s t → is_init t.al.state ≡ is_init s.al.state → Rises c.rise t → IsUpAt i c s → IsUpAt i c t
up-rest i c s t a q r h = record {
  configured = configured-alike i c s t a h.configured;
  unlocked = λ n l. (a.managers.each n).locked ∙ h.unlocked n l;
  rises = r;
  talks = talks-alike i c c.talk s t a q h.talks;
  early = h.early;
  quiet = h.quiet;
}

clear-alike : (s t : SlaveState) → Alike s t → AreClear s → AreClear t
clear-alike s t a h = record {
  settings = λ n l. (a.managers.each n).settings ∙ h.settings n l;
  no_messages = λ n l. (a.managers.each n).mail ∙ h.no_messages n l;
  outputs = zeros-alike s t a h.outputs;
}

pub down-rest : (f m : Bool) (s t : SlaveState) → Alike s t → IsInInit t → IsDownAt f m s → IsDownAt f m t
down-rest f m s t a n h = record {
  init = n;
  fmmus = λ e k l. a.memory (0x0600 + k) (omega arith) ∙ h.fmmus e k l;
  managers = λ e. clear-alike s t a (h.managers e);
}

pub lowered-rest : (f m : Bool) (s t : SlaveState) → Alike s t → HasFallen t → IsLoweredAt f m s → IsLoweredAt f m t
lowered-rest f m s t a n h = record {
  low = n;
  fmmus = λ e k l. a.memory (0x0600 + k) (omega arith) ∙ h.fmmus e k l;
  managers = λ e. clear-alike s t a (h.managers e);
}

pub fallen-alike : (s t : SlaveState) → t.kind ≡ s.kind → word_of t.memory ≡ word_of s.memory → t.al ≡ s.al → HasFallen s → HasFallen t
fallen-alike s t same a e h = record {
  state = ap (λ (x : Al). x.state) e ∙ h.state;
  no_error = λ f q. ap (λ (x : Al). x.error) e ∙ h.no_error (ap (λ (x : SlaveKind). has_firmware x.hardware) (sym same) ∙ f) (ap (λ (x : Al). x.requested) (sym e) ∙ q);
  asked = λ q. a ∙ h.asked (ap (λ (x : Al). x.requested) (sym e) ∙ q);
}

pub init-alike : (s t : SlaveState) → t.kind ≡ s.kind → word_of t.memory ≡ word_of s.memory → t.al ≡ s.al → IsInInit s → IsInInit t
init-alike s t same a e h = record {
  state = ap (λ (x : Al). x.state) e ∙ h.state;
  no_error = λ f. ap (λ (x : Al). x.error) e ∙ h.no_error (ap (λ (x : SlaveKind). has_firmware x.hardware) (sym same) ∙ f);
  asked = λ q. a ∙ h.asked (ap (λ (x : Al). x.requested) (sym e) ∙ q);
}

in-alike : (state : State) (s t : SlaveState) → t.al ≡ s.al → IsIn state s → IsIn state t
in-alike state s t e h = record {
  state_is = ap (λ (x : Al). x.state) e ∙ h.state_is;
  no_error = ap (λ (x : Al). x.error) e ∙ h.no_error;
  no_request = ap (λ (x : Al). x.requested) e ∙ h.no_request;
}

stays-alike : (state : State) (s t : SlaveState) → t.kind ≡ s.kind → word_of t.memory ≡ word_of s.memory → t.al ≡ s.al → StaysIn state s → StaysIn state t
stays-alike Init s t k a e h = init-alike s t k a e h
stays-alike state s t k a e h = in-alike state s t e h

pub rises-alike : (r : Rise) (s t : SlaveState) → t.kind ≡ s.kind → word_of t.memory ≡ word_of s.memory → t.al ≡ s.al → Rises r s → Rises r t
rises-alike Falls s t k a e h = fallen-alike s t k a e h
rises-alike (Stays state) s t k a e h = stays-alike state s t k a e h
rises-alike (Climbs from to) s t k a e (up, inl h) = (
  up,
  inl (record {
    state = ap (λ (x : Al). x.state) e ∙ h.state;
    request = ap (λ (x : Al). x.requested) e ∙ h.request;
    control_is = a ∙ h.control_is;
  }),
)
rises-alike (Climbs from to) s t k a e (up, inr (inl h)) = (up, inr (inl (in-alike to s t e h)))
rises-alike (Climbs from to) s t k a e (up, inr (inr h)) = (
  up,
  inr (inr (record {
    state = ap (λ (x : Al). x.state) e ∙ h.state;
    error = ap (λ (x : Al). x.error) e ∙ h.error;
    no_request = ap (λ (x : Al). x.requested) e ∙ h.no_request;
  })),
)

pub reached-alike : (i : ℕ) (st : Stage) (s t : SlaveState) → Alike s t → t.al ≡ s.al → Reached i st s → Reached i st t
reached-alike i Before s t a e h = tt
reached-alike i Called s t a e (inl h) = inl (ap (λ (x : Al). x.requested) e ∙ h.0, word-alike s t a ∙ h.1)
reached-alike i Called s t a e (inr h) = inr (fallen-alike s t a.kind (word-alike s t a) e h)
reached-alike i (Down f m) s t a e h = down-rest f m s t a (init-alike s t a.kind (word-alike s t a) e h.init) h
reached-alike i (Lowered f m) s t a e h = lowered-rest f m s t a (fallen-alike s t a.kind (word-alike s t a) e h.low) h
reached-alike i (Up c) s t a e h = up-rest i c s t a (ap (λ (x : Al). is_init x.state) e) (rises-alike c.rise s t a.kind (word-alike s t a) e h.rises) h

pub faulted-alike : (i : ℕ) (st : Stage) (s t : SlaveState) → Alike s t → t.al ≡ s.al → HadFault i st s → HadFault i st t
faulted-alike i (Up c) s t a e h = let k = h.faulted in record {
  top = h.top;
  quiet = h.quiet;
  faulted = record {
    configured = configured-alike i c s t a k.configured;
    silent = silent-alike c s t a (ap (λ (x : Al). is_init x.state) e) k.silent;
    state = ap (λ (x : Al). x.state) e ∙ k.state;
    error = ap (λ (x : Al). x.error) e ∙ k.error;
    no_request = ap (λ (x : Al). x.requested) e ∙ k.no_request;
    locked = (a.managers.each 2).locked ∙ k.locked;
    unlocked = λ n l ne. (a.managers.each n).locked ∙ k.unlocked n l ne;
  };
}
faulted-alike i _ s t a e h = absurd h

-- before it has its station address it is neither gone nor had it a fault
pub reached-low : (kind : SlaveKind) (i : ℕ) (st : Stage) (trouble : Bool) (s : SlaveState) → (IsUp st → ⊥) → Stands kind i st trouble s → Reached i st s
reached-low kind i (Up c) trouble s low h = absurd (low tt)
reached-low kind i st trouble s low h = elim h.at [
  | inl r ↦ r
  | inr (t, inl g) ↦ absurd g
  | inr (t, inr g) ↦ absurd g
]

-- a slave that is gone is as it was switched on
pub gone-on : (st : Stage) (s : SlaveState) → IsGone st s → s ≡ power_on s.kind s.identity
gone-on (Up c) s h = h
gone-on _ s h = absurd h

pub had-fault : (i : ℕ) (st : Stage) (s : SlaveState) → HadFault i st s → (c : Config) × IsFaultedAt i c s
had-fault i (Up c) s h = (c, h.faulted)
had-fault i _ s h = absurd h

-- what changes a slave that is gone in nothing
pub stands-by : (kind : SlaveKind) (i : ℕ) (st : Stage) (trouble : Bool) (s t : SlaveState) → IsOfKind kind t → (Reached i st s → Reached i st t)
    → (IsGone st s → t ≡ s) → (HadFault i st s → HadFault i st t) → Stands kind i st trouble s → Stands kind i st trouble t
stands-by kind i st trouble s t slave reached gone fault h = record {
  slave = slave;
  at = elim h.at [
    | inl r ↦ inl (reached r)
    | inr (f, inl x) ↦ inr (f, inl (subst (λ (y : SlaveState). IsGone st y) (sym (gone x)) x))
    | inr (f, inr x) ↦ inr (f, inr (fault x))
  ];
}

-- and another one in nothing that is known of it
pub stands-alike : (kind : SlaveKind) (i : ℕ) (st : Stage) (trouble : Bool) (s t : SlaveState)
    → Alike s t → t.al ≡ s.al → (IsGone st s → t ≡ s) → Stands kind i st trouble s → Stands kind i st trouble t
stands-alike kind i st trouble s t a e g h =
    stands-by kind i st trouble s t (slave-alike kind s t a (λ q. ap (λ (x : Al). x.state) (sym e) ∙ q) h.slave) (reached-alike i st s t a e) g (faulted-alike i st s t a e) h
