-- The faults of slaves and of variables, each as its test finds it.
use Rattle.std.proofs.Common.{◌≡◌, ◌≢◌, ℕ, zero, suc, ◌+◌, ◌<◌, ◌==◌, ◌||◌, ◌⊎◌, not, Bool, true, List, [], ◌∷◌, length, get_or, nat_lt, nat_le, ◌≤◌, refl, sym, ap, ◌∙◌, subst, arith, add-one, inl, inr, Some, None, Option, slice_get}
use Rattle.std.specs.List.{list_any}
use Rattle.std.proofs.lemmas.Option.{slice_get_within, get_or_from_slice_get, slice_get_read}
use Rattle.std.proofs.lemmas.List.{get_or_default}
use Rattle.std.proofs.lemmas.Map.Keys.{any_passes_from_place}
use Rattle.std.proofs.lemmas.Bool.{cases_Bool, cases_eq, cases_lt, eqb-true, eqb-false, eq-eqb, ne_eqb, ltb-true, lt-ltb, and_parts, and_from, or_cases, or_left, or_right, not-true, not_from_false, leb-true, le-leb}
use Rattle.std.specs.Option.{ForSome}
use Rattle.ec_bits.specs.Bits.{bytes_of_bits, within}
use Rattle.ec_device.specs.declared.hardware.Hardware.{Hardware}
use Rattle.ec_device.specs.Hardware.{IsHardware, out_manager, in_manager, other_name, pins_inside}
use Rattle.ec_bits.proofs.AnyLaws.{within_true, within_parts}
use Rattle.ec_device.specs.declared.slave_type.Mailbox.{Mailbox}
use Rattle.ec_regs.specs.declared.manager.SyncManagerSettings.{SyncManagerSettings}
use Rattle.ec_regs.specs.Managers.{span}
use Rattle.ec_regs.specs.Memory.{ram_start, ram_end}
use Rattle.ec_device.specs.Objects.{bits_of}
use Rattle.ec_device.specs.Types.{IsMailbox}
use Rattle.ec_table.specs.declared.rows.Direction.{Direction}
use Rattle.ec_table.specs.declared.rows.Direction.TheVariants.{Out, In}
use Rattle.ec_table.specs.declared.rows.LinkRow.{LinkRow}
use Rattle.ec_table.specs.declared.rows.SlaveRow.{SlaveRow}
use Rattle.ec_table.specs.Contents.{Contents}
use Rattle.ec_table.specs.Objects.{entries_of}
use Rattle.ec_table.specs.Sound as table
use Rattle.ec_link.specs.LinkRuns.{is_out}
use Rattle.ec_link.specs.Sizes.{hardware_of, mapped_bits}
use Rattle.ec_link.specs.SlavePlan.{IsOfBuffer, receive_manager, send_manager, process_manager, managers_of, manager_in_place, meet, some_meet, leaves_ram, ends_past_pins, begins_at_pins, leaves_pins}
use Rattle.ec_link.specs.Faults.{in_either, entry_twice, too_many_bits, managers_at, areas_overlap, outside_ram, unit_of_link, differ, units_of_variable, split_variable}
use Rattle.ec_link.specs.Entries.{names_twice}
use Rattle.ec_link.specs.FaultLaw.{JoinsUnit}
use Rattle.ec_link.proofs.FaultSteps.{Tells}
use Rattle.ec_link.proofs.FaultNames.{any_at, twice_found, twice_from}
use Rattle.ec_link.proofs.Basics.{or_false}
use Rattle.ec_link.proofs.ManagersApart.{of_type_outputs, of_type_inputs, three_long}
use Rattle.ec_link.proofs.SlavesSound.{has_type}

-- ---- of what a slave assigns

-- the direction in which a test holds
record Either (test : Direction → Bool) : Type 0 where
  direction : Direction
  holds : test direction ≡ true

either_found : (test : Direction → Bool) → in_either test ≡ true → Either test
either_found test h = elim (or_cases (test Out) (test In) h) [ inl out ↦ record { direction = Out; holds = out } | inr ins ↦ record { direction = In; holds = ins } ]

either_from : (test : Direction → Bool) (d : Direction) → test d ≡ true → in_either test ≡ true
either_from test Out h = or_left (test Out) (test In) h
either_from test In h = or_right (test Out) (test In) h

pub twice_tells : (t : Contents) → Tells t 20 t.slaves (λ n (s : SlaveRow). entry_twice t n)
twice_tells t = record {
  is = λ clean k r there h.
      let e = either_found (λ d. names_twice (entries_of t k d)) h in
      let w = twice_found (entries_of t k e.direction) e.holds in
      record {
        row = r;
        there = there;
        has = record {
          direction = e.direction;
          first = w.first;
          second = w.second;
          before = w.before;
          one = w.one;
          two = w.two;
          there = w.there;
          there_too = w.there_too;
          no_gap = w.no_gap;
          index = w.index;
          subindex = w.subindex;
        };
      };
  was = λ clean k at.
      let w = at.has in
      record {
        row = at.row;
        there = at.there;
        hit = either_from (λ d. names_twice (entries_of t k d)) w.direction (twice_from (entries_of t k w.direction) w.first w.second w.one w.two w.before w.there w.there_too w.no_gap w.index w.subindex);
      };
}

pub bits_tells : (t : Contents) → Tells t 21 t.slaves (λ n (s : SlaveRow). too_many_bits t n)
bits_tells t = record {
  is = λ clean k r there h.
      let e = either_found (λ d. nat_lt 2048 (bits_of (entries_of t k d))) h in
      record { row = r; there = there; has = record { direction = e.direction; many = ltb-true 2048 (bits_of (entries_of t k e.direction)) e.holds } };
  was = λ clean k at. record {
    row = at.row;
    there = at.there;
    hit = either_from (λ d. nat_lt 2048 (bits_of (entries_of t k d))) at.has.direction (lt-ltb 2048 (bits_of (entries_of t k at.has.direction)) at.has.many);
  };
}

-- ---- of its managers

-- a manager without a span begins at 0
StartsLow : SyncManagerSettings → Type 0
StartsLow m = span m ≡ 0 → m.start ≡ 0

record TwoMeet (ms : List SyncManagerSettings) : Type 0 where
  first : ℕ
  second : ℕ
  before : first < second
  one : SyncManagerSettings
  two : SyncManagerSettings
  there : slice_get ms first ≡ Some one
  there_too : slice_get ms second ≡ Some two
  meets : meet one two ≡ true

meets_found : (ms : List SyncManagerSettings) → some_meet ms ≡ true → TwoMeet ms
meets_found [] h = cc
meets_found (m ∷ ms) h = elim (or_cases (list_any (meet m) ms) (some_meet ms) h) [
  | inl here ↦ let r = any_at (meet m) ms here in record { first = 0; second = r.place + 1; before = omega arith; one = m; two = r.row; there = refl; there_too = rw add-one r.there; meets = r.hit }
  | inr later ↦ let r = meets_found ms later in record { first = r.first + 1; second = r.second + 1; before = omega (arith, r.before); one = r.one; two = r.two; there = rw add-one r.there; there_too = rw add-one r.there_too; meets = r.meets }
]

meets_from : (ms : List SyncManagerSettings) (i j : ℕ) (a b : SyncManagerSettings) → i < j → slice_get ms i ≡ Some a → slice_get ms j ≡ Some b → meet a b ≡ true → some_meet ms ≡ true
meets_from [] i j a b lt x y h = absurd (omega (arith, slice_get_within [] i a x))
meets_from (m ∷ ms) i zero a b lt x y h = absurd (omega arith)
meets_from (m ∷ ms) zero (suc j) a b lt x y h =
    let is : a ≡ m = cc in
    or_left (list_any (meet m) ms) (some_meet ms) (any_passes_from_place (meet m) ms j b y (subst (λ n. meet n b ≡ true) is h))
meets_from (m ∷ ms) (suc i) (suc j) a b lt x y h = or_right (list_any (meet m) ms) (some_meet ms) (meets_from ms i j a b (omega arith) x y h)

record Shared (m n : SyncManagerSettings) : Type 0 where
  address : ℕ
  covers : within m.start (span m) address ≡ true
  covers_too : within n.start (span n) address ≡ true

shared : (m n : SyncManagerSettings) → (span m ≡ 0 → m.start ≡ 0) → (span n ≡ 0 → n.start ≡ 0) → meet m n ≡ true → Shared m n
shared m n low low_too h =
    let both = and_parts (nat_lt m.start (n.start + span n)) (nat_lt n.start (m.start + span m)) h in
    let a : m.start < n.start + span n = ltb-true m.start (n.start + span n) both.0 in
    let b : n.start < m.start + span m = ltb-true n.start (m.start + span m) both.1 in
    elim (cases_eq (span m) 0) [
      | inl none ↦ absurd (let z = low none in omega arith)
      | inr some ↦ elim (cases_eq (span n) 0) [
        | inl none ↦ absurd (let z = low_too none in omega arith)
        | inr some_too ↦ elim (cases_lt m.start n.start) [
          | inl lt ↦ record { address = n.start; covers = within_true m.start (span m) n.start (omega arith) b; covers_too = within_true n.start (span n) n.start (omega arith) (omega arith) }
          | inr ge ↦ record { address = m.start; covers = within_true m.start (span m) m.start (omega arith) (omega arith); covers_too = within_true n.start (span n) m.start ge a }
        ]
      ]
    ]

meet_from : (m n : SyncManagerSettings) (a : ℕ) → within m.start (span m) a ≡ true → within n.start (span n) a ≡ true → meet m n ≡ true
meet_from m n a x y =
    let p = within_parts m.start (span m) a x in
    let q = within_parts n.start (span n) a y in
    and_from (nat_lt m.start (n.start + span n)) (nat_lt n.start (m.start + span m)) (lt-ltb m.start (n.start + span n) (omega (arith, p.0, q.1))) (lt-ltb n.start (m.start + span m) (omega (arith, p.1, q.0)))

-- each manager of a list
record AllLow (ms : List SyncManagerSettings) : Type 0 where
  each : (k : ℕ) (m : SyncManagerSettings) → slice_get ms k ≡ Some m → span m ≡ 0 → m.start ≡ 0

no_more : AllLow []
no_more = record { each = λ k m at. absurd (omega (arith, slice_get_within [] k m at)) }

low_cons : (x : SyncManagerSettings) (ms : List SyncManagerSettings) → StartsLow x → AllLow ms → (k : ℕ) (m : SyncManagerSettings) → slice_get (x ∷ ms) k ≡ Some m → StartsLow m
unfolding StartsLow
low_cons x ms h w zero m at = let is : x ≡ m = cc in subst (λ (n : SyncManagerSettings). span n ≡ 0 → n.start ≡ 0) is h
low_cons x ms h w (suc k) m at = w.each k m at

all_cons : (x : SyncManagerSettings) (ms : List SyncManagerSettings) → StartsLow x → AllLow ms → AllLow (x ∷ ms)
unfolding StartsLow
all_cons x ms h w = record { each = low_cons x ms h w }

receive_low : (mailbox : Option Mailbox) → ((m : Mailbox) → mailbox ≡ Some m → IsMailbox m) → StartsLow (receive_manager mailbox)
unfolding StartsLow
receive_low None h = λ z. refl
receive_low (Some m) h = λ z. let some = (h m refl).receive_some in absurd (omega arith)

send_low : (mailbox : Option Mailbox) → ((m : Mailbox) → mailbox ≡ Some m → IsMailbox m) → StartsLow (send_manager mailbox)
unfolding StartsLow
send_low None h = λ z. refl
send_low (Some m) h = λ z. let some = (h m refl).send_some in absurd (omega arith)

process_low : (start bits control : ℕ) → IsOfBuffer control → StartsLow (process_manager start bits control)
unfolding StartsLow
process_low start bits control mode = elim (cases_Bool (bits == 0)) [
  | inl none ↦ rw none (λ z. refl)
  | inr some ↦ rw some (λ z. let few = eqb-false bits 0 some in let pos : 0 < bits = omega arith in absurd (omega (arith, z, three_long start (bytes_of_bits bits) control mode)))
]

managers_low : (mailbox : Option Mailbox) (o : Option Hardware) (out_start in_start outs ins : ℕ) → ForSome o (IsHardware mailbox) → ((m : Mailbox) → mailbox ≡ Some m → IsMailbox m) → AllLow (managers_of mailbox o out_start in_start outs ins)
unfolding managers_of
managers_low mailbox o out_start in_start outs ins limits h =
    all_cons (receive_manager mailbox) _ (receive_low mailbox h) (all_cons (send_manager mailbox) _ (send_low mailbox h)
    (all_cons (process_manager out_start outs (out_manager o).control) _ (process_low out_start outs _ (of_type_outputs mailbox o limits)) (all_cons (process_manager in_start ins (in_manager o).control) _ (process_low in_start ins _ (of_type_inputs mailbox o limits)) no_more)))

at_low : (t : Contents) → table.IsSound t → (s : ℕ) (r : SlaveRow) → slice_get t.slaves s ≡ Some r → AllLow (managers_at t s)
unfolding managers_at
at_low t sound s r is =
    let k = has_type t sound s r is in
    let box : (m : Mailbox) → k.row.mailbox ≡ Some m → IsMailbox m = λ m e. k.sound.limits.mailbox m e in
    rw k.is (managers_low k.row.mailbox k.row.hardware (other_name k.row.hardware k.row.process.out_start) k.row.process.in_start (mapped_bits k.row.hardware (bits_of (entries_of t s Out))) (mapped_bits k.row.hardware (bits_of (entries_of t s In))) (λ x there. (k.sound.hardware x there).limits) box)

pub overlap_tells : (t : Contents) → table.IsSound t → Tells t 24 t.slaves (λ n (s : SlaveRow). areas_overlap t n)
overlap_tells t sound = record {
  is = λ clean k r there h.
      let w = meets_found (managers_at t k) h in
      let all = at_low t sound k r there in
      let byte = shared w.one w.two (all.each w.first w.one w.there) (all.each w.second w.two w.there_too) w.meets in
      record {
        row = r;
        there = there;
        has = record {
          first = w.first;
          second = w.second;
          before = w.before;
          one = w.one;
          two = w.two;
          there = w.there;
          there_too = w.there_too;
          address = byte.address;
          covers = byte.covers;
          covers_too = byte.covers_too;
        };
      };
  was = λ clean k at.
      let w = at.has in
      record {
        row = at.row;
        there = at.there;
        hit = meets_from (managers_at t k) w.first w.second w.one w.two w.before w.there w.there_too (meet_from w.one w.two w.address w.covers w.covers_too);
      };
}

leaves_is : (m : SyncManagerSettings) → leaves_ram m ≡ true → (0 < m.length) × ((m.start < ram_start) ⊎ (ram_end < m.start + span m))
leaves_is m h =
    let both = and_parts (nat_lt 0 m.length) (nat_lt m.start ram_start || nat_lt ram_end (m.start + span m)) h in (
      ltb-true 0 m.length both.0,
      elim (or_cases (nat_lt m.start ram_start) (nat_lt ram_end (m.start + span m)) both.1) [
        | inl below ↦ inl (ltb-true m.start ram_start below)
        | inr above ↦ inr (ltb-true ram_end (m.start + span m) above)
      ],
    )

leaves_from : (m : SyncManagerSettings) → 0 < m.length → ((m.start < ram_start) ⊎ (ram_end < m.start + span m)) → leaves_ram m ≡ true
leaves_from m some past =
    and_from (nat_lt 0 m.length) (nat_lt m.start ram_start || nat_lt ram_end (m.start + span m)) (lt-ltb 0 m.length some) (elim past [
      | inl below ↦ or_left (nat_lt m.start ram_start) (nat_lt ram_end (m.start + span m)) (lt-ltb m.start ram_start below)
      | inr above ↦ or_right (nat_lt m.start ram_start) (nat_lt ram_end (m.start + span m)) (lt-ltb ram_end (m.start + span m) above)
    ])

-- ---- the pins

-- as `LeavesPins`, over the managers themselves
record PinsLeft (o : Option Hardware) (ms : List SyncManagerSettings) : Type 0 where
  hardware : Hardware
  there : o ≡ Some hardware
  pins : hardware.has_pins ≡ true
  place : ℕ
  few : place < 4
  some : 0 < (manager_in_place ms place).length
  past : let m = manager_in_place ms place in ((place ≡ 2) × (pins_inside + 4 < m.start + m.length)) ⊎ ((place ≢ 2) × (pins_inside ≤ m.start))

of_place : (x : Hardware) (ms : List SyncManagerSettings) (place : ℕ) → x.has_pins ≡ true → place < 4 → place ≢ 2 → begins_at_pins (manager_in_place ms place) ≡ true → PinsLeft (Some x) ms
of_place x ms place pins few ne h =
    let p = and_parts (nat_lt 0 (manager_in_place ms place).length) (nat_le pins_inside (manager_in_place ms place).start) h in
    record { hardware = x; there = refl; pins = pins; place = place; few = few; some = ltb-true 0 _ p.0; past = inr (ne, leb-true pins_inside _ p.1) }

-- the first of two tests that passes, or the second
pins_is : (o : Option Hardware) (ms : List SyncManagerSettings) → leaves_pins o ms ≡ true → PinsLeft o ms
pins_is None ms h = cc
pins_is (Some x) ms h =
    let both = and_parts x.has_pins (ends_past_pins (manager_in_place ms 2) || list_any begins_at_pins (manager_in_place ms 0 ∷ manager_in_place ms 1 ∷ manager_in_place ms 3 ∷ [])) h in
    elim (or_cases (ends_past_pins (manager_in_place ms 2)) (list_any begins_at_pins (manager_in_place ms 0 ∷ manager_in_place ms 1 ∷ manager_in_place ms 3 ∷ [])) both.1) [
      | inl past ↦
          let p = and_parts (nat_lt 0 (manager_in_place ms 2).length) _ past in
          record { hardware = x; there = refl; pins = both.0; place = 2; few = omega arith; some = ltb-true 0 _ p.0; past = inl (refl, ltb-true _ _ p.1) }
      | inr other ↦ elim (or_cases (begins_at_pins (manager_in_place ms 0)) (list_any begins_at_pins (manager_in_place ms 1 ∷ manager_in_place ms 3 ∷ [])) other) [
        | inl a ↦ of_place x ms 0 both.0 (omega arith) (λ e. absurd (omega (arith, e))) a
        | inr rest ↦ elim (or_cases (begins_at_pins (manager_in_place ms 1)) (list_any begins_at_pins (manager_in_place ms 3 ∷ [])) rest) [
          | inl b ↦ of_place x ms 1 both.0 (omega arith) (λ e. absurd (omega (arith, e))) b
          | inr c ↦ of_place x ms 3 both.0 (omega arith) (λ e. absurd (omega (arith, e))) (sym (or_false (begins_at_pins (manager_in_place ms 3))) ∙ c)
        ]
      ]
    ]

at_place : (ms : List SyncManagerSettings) (n k : ℕ) → n ≡ k → begins_at_pins (manager_in_place ms n) ≡ true → begins_at_pins (manager_in_place ms k) ≡ true
at_place ms n k e h = subst (λ (m : ℕ). begins_at_pins (manager_in_place ms m) ≡ true) e h

pins_from : (o : Option Hardware) (ms : List SyncManagerSettings) → PinsLeft o ms → leaves_pins o ms ≡ true
pins_from None ms h = let e = h.there in cc
pins_from (Some x) ms h =
    let same : x ≡ h.hardware = let e = h.there in cc in
    let pins : x.has_pins ≡ true = ap (λ (y : Hardware). y.has_pins) same ∙ h.pins in
    let first = ends_past_pins (manager_in_place ms 2) in
    let b = λ (n : ℕ). begins_at_pins (manager_in_place ms n) in
    and_from x.has_pins _ pins (elim h.past [
      | inl out ↦
          let some : 0 < (manager_in_place ms 2).length = subst (λ (m : ℕ). 0 < (manager_in_place ms m).length) out.0 h.some in
          let past : pins_inside + 4 < (manager_in_place ms 2).start + (manager_in_place ms 2).length = subst (λ (m : ℕ). pins_inside + 4 < (manager_in_place ms m).start + (manager_in_place ms m).length) out.0 out.1 in
          or_left first _ (and_from _ _ (lt-ltb 0 _ some) (lt-ltb (pins_inside + 4) _ past))
      | inr other ↦
          let begins : b h.place ≡ true = and_from _ _ (lt-ltb 0 _ h.some) (le-leb pins_inside _ other.1) in
          or_right first _ (elim (cases_eq h.place 0) [
            | inl zero_is ↦ or_left (b 0) _ (at_place ms h.place 0 zero_is begins)
            | inr not_zero ↦ or_right (b 0) _ (elim (cases_eq h.place 1) [
              | inl one_is ↦ or_left (b 1) _ (at_place ms h.place 1 one_is begins)
              | inr not_one ↦ or_right (b 1) _ (or_left (b 3) _ (at_place ms h.place 3 (let two = other.0 in let few = h.few in omega (arith, two, few, not_zero, not_one)) begins))
            ])
          ])
    ])

pub ram_tells : (t : Contents) → Tells t 25 t.slaves (λ n (s : SlaveRow). outside_ram t n)
ram_tells t = record {
  is = λ clean k r there h.
      elim (or_cases (list_any leaves_ram (managers_at t k)) (leaves_pins (hardware_of t k) (managers_at t k)) h) [
        | inl ram ↦
            let a = any_at leaves_ram (managers_at t k) ram in
            let w = leaves_is a.row a.hit in
            record { row = r; there = there; has = inl (record { place = a.place; manager = a.row; there = a.there; some = w.0; past = w.1 }) }
        | inr pins ↦
            let p = pins_is (hardware_of t k) (managers_at t k) pins in
            record { row = r; there = there; has = inr (record { hardware = p.hardware; there = p.there; pins = p.pins; place = p.place; few = p.few; some = p.some; past = p.past }) }
      ];
  was = λ clean k at. record {
    row = at.row;
    there = at.there;
    hit = elim at.has [
      | inl ram ↦ or_left (list_any leaves_ram (managers_at t k)) _ (any_passes_from_place leaves_ram (managers_at t k) ram.place ram.manager ram.there (leaves_from ram.manager ram.some ram.past))
      | inr p ↦ or_right (list_any leaves_ram (managers_at t k)) _ (pins_from (hardware_of t k) (managers_at t k) (record { hardware = p.hardware; there = p.there; pins = p.pins; place = p.place; few = p.few; some = p.some; past = p.past }))
    ];
  };
}

-- ---- of a variable

-- a link of the variable, by the unit of its slave
record UnitAt (t : Contents) (v : ℕ) (ls : List LinkRow) (u : ℕ) : Type 0 where
  place : ℕ
  link : LinkRow
  there : slice_get ls place ≡ Some link
  variable_is : link.variable ≡ v
  unit_is : unit_of_link t link ≡ u

unit_later : (t : Contents) (v : ℕ) (l : LinkRow) (ls : List LinkRow) (i u : ℕ) → 0 < i → slice_get (unit_of_link t l ∷ units_of_variable t v ls) i ≡ Some u
    → ((j w : ℕ) → slice_get (units_of_variable t v ls) j ≡ Some w → UnitAt t v ls w) → UnitAt t v (l ∷ ls) u
unit_later t v l ls zero u lt h w = absurd (omega arith)
unit_later t v l ls (suc j) u lt h w = let r = w j u h in record { place = r.place + 1; link = r.link; there = rw add-one r.there; variable_is = r.variable_is; unit_is = r.unit_is }

unit_found : (t : Contents) (v : ℕ) (ls : List LinkRow) (i u : ℕ) → slice_get (units_of_variable t v ls) i ≡ Some u → UnitAt t v ls u
unit_found t v [] i u h = absurd (omega (arith, slice_get_within [] i u h))
unit_found t v (l ∷ ls) i u h = elim (cases_Bool (l.variable == v)) [
  | inl on ↦
      let f = rw on at h in
      elim (cases_eq i 0) [
        | inl first ↦
            let g : slice_get (unit_of_link t l ∷ units_of_variable t v ls) 0 ≡ Some u = subst (λ k. slice_get (unit_of_link t l ∷ units_of_variable t v ls) k ≡ Some u) first f in
            record { place = 0; link = l; there = refl; variable_is = eqb-true l.variable v on; unit_is = cc }
        | inr more ↦ unit_later t v l ls i u (omega arith) f (unit_found t v ls)
      ]
  | inr off ↦ let f = rw off at h in let r = unit_found t v ls i u f in record { place = r.place + 1; link = r.link; there = rw add-one r.there; variable_is = r.variable_is; unit_is = r.unit_is }
]

-- the unit of a link of the variable is among them
record AmongUnits (t : Contents) (v : ℕ) (ls : List LinkRow) (u : ℕ) : Type 0 where
  place : ℕ
  there : slice_get (units_of_variable t v ls) place ≡ Some u

unit_from : (t : Contents) (v : ℕ) (ls : List LinkRow) (k : ℕ) (l : LinkRow) → slice_get ls k ≡ Some l → l.variable ≡ v → AmongUnits t v ls (unit_of_link t l)
unit_from t v [] k l at is = absurd (omega (arith, slice_get_within [] k l at))
unit_from t v (x ∷ ls) zero l at is =
    let same : x ≡ l = cc in
    let on : (x.variable == v) ≡ true = eq-eqb x.variable v (ap (λ (y : LinkRow). y.variable) same ∙ is) in
    record { place = 0; there = rw on (ap Some (ap (unit_of_link t) same)) }
unit_from t v (x ∷ ls) (suc k) l at is =
    let r = unit_from t v ls k l at is in
    elim (cases_Bool (x.variable == v)) [
      | inl on ↦ record { place = r.place + 1; there = rw (on, add-one) r.there }
      | inr off ↦ record { place = r.place; there = rw off r.there }
    ]

-- two numbers of a list that are not the same
record Two (ns : List ℕ) : Type 0 where
  one : ℕ
  other_one : ℕ
  two : one ≢ other_one
  first : ℕ
  second : ℕ
  there : slice_get ns first ≡ Some one
  there_too : slice_get ns second ≡ Some other_one

differ_found : (ns : List ℕ) → differ ns ≡ true → Two ns
differ_found [] h = cc
differ_found (n ∷ ns) h =
    let r = any_at (λ y. not (y == n)) ns h in
    record { one = r.row; other_one = n; two = eqb-false r.row n (not-true (r.row == n) r.hit); first = r.place + 1; second = 0; there = rw add-one r.there; there_too = refl }

past_first : (n : ℕ) (ns : List ℕ) (i x : ℕ) → slice_get (n ∷ ns) i ≡ Some x → x ≢ n → list_any (λ y. not (y == n)) ns ≡ true
past_first n ns zero x at ne = absurd (ne (let e : n ≡ x = cc in sym e))
past_first n ns (suc i) x at ne = any_passes_from_place (λ y. not (y == n)) ns i x at (not_from_false (x == n) (ne_eqb x n ne))

differ_from : (ns : List ℕ) (i j x y : ℕ) → slice_get ns i ≡ Some x → slice_get ns j ≡ Some y → x ≢ y → differ ns ≡ true
differ_from [] i j x y a b ne = absurd (omega (arith, slice_get_within [] i x a))
differ_from (n ∷ ns) i j x y a b ne = elim (cases_eq x n) [
  | inl is ↦ past_first n ns j y b (λ e. ne (is ∙ sym e))
  | inr off ↦ past_first n ns i x a off
]

in_of : (d : Direction) → not (is_out d) ≡ true → d ≡ In
in_of Out h = cc
in_of In h = refl

-- a link joins its variable and its slave's unit
joins_of : (t : Contents) → table.IsSound t → (v u : ℕ) → UnitAt t v t.links u → JoinsUnit t v u
joins_of t sound v u a =
    let lt = slice_get_within t.links a.place a.link a.there in
    let link : table.IsLink t.slaves t.variables a.link = subst (table.IsLink t.slaves t.variables) (get_or_from_slice_get t.links a.place a.link a.link a.there) (sound.links a.place a.link lt) in
    let row : SlaveRow = get_or t.slaves a.link.slave (record { name = []; type_index = 0; outputs = []; inputs = []; serial = 0; unit = 0; init = [] }) in
    let at : slice_get t.slaves a.link.slave ≡ Some row = slice_get_read t.slaves (length t.slaves) a.link.slave row refl link.slave (get_or_default t.slaves a.link.slave _ row link.slave) in
    let unit : unit_of_link t a.link ≡ row.unit = rw at refl in
    record { place = a.place; link = a.link; slave = row; there = a.there; variable_is = a.variable_is; slave_is = at; unit_is = sym unit ∙ a.unit_is }

unit_of : (t : Contents) (v u : ℕ) → (j : JoinsUnit t v u) → unit_of_link t j.link ≡ u
unit_of t v u j = rw j.slave_is j.unit_is

pub split_tells : (t : Contents) → table.IsSound t → Tells t 44 t.variables (split_variable t)
split_tells t sound = record {
  is = λ clean k w there h.
      let both = and_parts (not (is_out w.direction)) (differ (units_of_variable t k t.links)) h in
      let two = differ_found (units_of_variable t k t.links) both.1 in
      record {
        row = w;
        there = there;
        has = record {
          ins = in_of w.direction both.0;
          unit = two.one;
          unit_too = two.other_one;
          two = two.two;
          joins = joins_of t sound k two.one (unit_found t k t.links two.first two.one two.there);
          joins_too = joins_of t sound k two.other_one (unit_found t k t.links two.second two.other_one two.there_too);
        };
      };
  was = λ clean k at.
      let s = at.has in
      let a = unit_from t k t.links s.joins.place s.joins.link s.joins.there s.joins.variable_is in
      let b = unit_from t k t.links s.joins_too.place s.joins_too.link s.joins_too.there s.joins_too.variable_is in
      let ins : not (is_out at.row.direction) ≡ true = ap (λ d. not (is_out d)) s.ins in
      record {
        row = at.row;
        there = at.there;
        hit = and_from (not (is_out at.row.direction)) (differ (units_of_variable t k t.links)) ins
            (differ_from (units_of_variable t k t.links) a.place b.place (unit_of_link t s.joins.link) (unit_of_link t s.joins_too.link) a.there b.there
            (λ e. s.two (sym (unit_of t k s.unit s.joins) ∙ e ∙ unit_of t k s.unit_too s.joins_too)));
      };
}
