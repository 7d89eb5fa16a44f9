-- A frame that feeds a part, at a slave that has all that its plan sets: the slave is left as it was, but that its outputs are
-- awaited no more, and the outputs of the slaves behind it are still zeros.
use Rattle.ec_bringup.proofs.Words.{ℕ, ◌%◌, ◌+◌, ◌-◌, ◌*◌, ◌<◌, ◌≡◌, ◌&&◌, not, Bool, true, false, Option, Some, None, refl, sym, ◌∙◌, ap, subst, inl, inr, arith, if◌then◌else◌, List, [], ◌∷◌, length, set, nat_lt, unwrap_or, cases_Bool, both_ways, and_parts, and_left, if_true, if_false, within, bytes_of_bits, zeros, is_set, SyncManagerSettings, SyncManager, Buffer, buffer_length, SlaveKind, SlaveState, manager_at, fmmus, meets, slave_met, datagram_met, Datagram, IsDatagram, Meeting, SlavePlan, settings_at, fmmu_at, Feed, FeedPart, datagram_of, Config, Up, IsConfigured, HoldsZeros, IsUpAt, Stands, IsFmmu, planned, span_of_feed, IsAway, IsFeedOf, IsFeedAt, IsLeft, with_outputs_written, FeedLaw, awaiting, with_memory, logical_meet, FmmuSettings, length-replicate, ltb-true, eq-eqb, and_from, lt-ltb, from_bool, is_mailbox, is_master_written, is_master_read, Mailbox, Hardware}
use Rattle.std.specs.Option.{ForSome}
use Rattle.ec_bits.specs.Bits.{bit}
use Rattle.ec_bits.proofs.BitLaws.{overlay_own, bit-overlay, bit-zeros, length-overlay}
use Rattle.ec_regs.specs.Managers.{area_settings}
use Rattle.ec_slave.specs.State.{with_answer}
use Rattle.ec_sync.specs.SyncManager.{may_read, may_write}
use Rattle.ec_fmmu.specs.Areas.{Area, Spans}
use Rattle.ec_fmmu.specs.Applied.{LogicalSpan, inside_span}
use Rattle.ec_slave.specs.Interface.{inputs_into, outputs_from, with_published}
use Rattle.ec_slave.specs.Exchange.{IsMapped, takes, gives, with_outputs, inputs_of}
use Rattle.ec_slave.specs.Logical.{span_of, meets_logically}
use Rattle.ec_slave.specs.LogicalLaws.{Misses}
use Rattle.ec_slave.proofs.LogicalAccess.ExchangeLaw.{exchange}
use Rattle.ec_slave.proofs.LogicalAccess.MissesLaw.{misses}
use Rattle.ec_bits.proofs.AnyLaws.{within_parts}
use Rattle.ec_link.specs.Meaning.{area_of}
use Rattle.ec_link.specs.Interface.{AreListed, IsOfBuffer, output_manager, input_manager, lwr_count, lrw_count, whole_share, has_outs, has_ins}
use Rattle.ec_bringup.specs.Fed.{IsCountedIn, Within, Outside}
use Rattle.ec_device.specs.Hardware.{IsHardware, out_manager, in_manager}
use Rattle.ec_link.proofs.ManagersApart.{process_data_is_buffered as buffered}
use Rattle.ec_bringup.proofs.OneSlave.FmmusHeld.{fmmus-held}
use Rattle.ec_bringup.proofs.OneFrame.MappedAreas.{four-managers, mapped-area, set-process}
use Rattle.ec_bringup.proofs.OneFrame.Blank.{blank-misses}

-- ---- the frame as it sets out

pub feed-sets-out : (ps : List SlavePlan) (f : Feed) (number : ℕ) → IsFeedAt ps f number 0 (datagram_of (FeedPart f) number)
feed-sets-out ps f number = record {
  command = refl;
  address = refl;
  data_length = length-zeros f.bytes;
  zeros = λ i o l m c k. bit-zeros f.bytes ((area_of (planned ps i)).out_at + o - 8 * f.address);
}
  where
    length-zeros : (n : ℕ) → length (zeros n) ≡ n
    length-zeros n = length-replicate {A = ℕ} n 0

-- ---- zeros into zeros

-- what a slave's outputs get from data that have zeros there
zero-outputs : (a : Area) (p : LogicalSpan) (bytes : List ℕ) → ((o : ℕ) → o < a.outs → bit bytes (a.out_at + o - p.from) ≡ false) → outputs_from a p bytes ≡ zeros (bytes_of_bits a.outs)
zero-outputs a p bytes h =
    overlay_own (zeros (bytes_of_bits a.outs)) _ (λ k l. elim (cases_Bool (nat_lt k a.outs)) [
      | inl t ↦ ap (λ o. unwrap_or o (bit (zeros (bytes_of_bits a.outs)) k)) (if_true _ _ _ t) ∙ (h k (ltb-true k a.outs t) ∙ sym (bit-zeros (bytes_of_bits a.outs) k))
      | inr e ↦ ap (λ o. unwrap_or o (bit (zeros (bytes_of_bits a.outs)) k)) (if_false _ _ _ e)
    ])

-- the outputs of a manager that holds zeros
published-zeros : (m : SyncManager) → HoldsZeros m → m.buffer.published ≡ zeros (buffer_length m.settings)
published-zeros m h = ap (λ (b : Buffer). b.published) h

with-zeros : (m : SyncManager) → HoldsZeros m → with_published m (zeros (buffer_length m.settings)) ≡ awaiting m false
with-zeros m h = ap (λ (x : List ℕ). record m { buffer = record m.buffer { published = x }; awaited = false }) (sym (published-zeros m h))

-- the modes of the process data of a type
pub out-mode : (mailbox : Option Mailbox) (o : Option Hardware) → ForSome o (IsHardware mailbox) → (out_manager o).control % 16 ≡ 4
out-mode mailbox None h = refl
out-mode mailbox (Some x) h = (h x refl).out_mode

pub in-mode : (mailbox : Option Mailbox) (o : Option Hardware) → ForSome o (IsHardware mailbox) → (in_manager o).control % 16 ≡ 0
in-mode mailbox None h = refl
in-mode mailbox (Some x) h = (h x refl).in_mode

-- ---- a slave that holds its plan

module _ (ps : List SlavePlan) (f : Feed) (number i : ℕ) (c : Config) (d : Datagram) (s : SlaveState) (feed : IsFeedOf ps f) (l : i < length ps) (good : IsDatagram d)
    (em : c.managers ≡ (planned ps i).managers) (ef : c.fmmus ≡ (planned ps i).fmmus) (at : IsFeedAt ps f number i d) where
  abbrev p : SlavePlan
  p = planned ps i

  abbrev a : Area
  a = area_of p

  listed : AreListed p
  listed = feed.listed i l

  hw : ForSome p.kind.hardware (IsHardware p.kind.mailbox)
  hw = feed.hardware i l

  -- the datagram has the part's bits
  span-is : span_of d ≡ span_of_feed f
  span-is = ap (λ (n : ℕ). record { from = 8 * n; bits = 8 * length d.data_bytes }) at.address ∙ ap (λ (n : ℕ). record { from = 8 * f.address; bits = 8 * n }) at.data_length

  -- what is held
  configured-area : length s.managers ≡ 4 → IsConfigured i c s → IsMapped s a
  configured-area four k =
      mapped-area p s four
      (fmmus-held i c s (λ n b. subst (λ (fs : List FmmuSettings). IsFmmu (fmmu_at fs n)) (sym ef) (feed.readable i l n b)) k ∙ (listed-fmmus ∙ ef))
      (four-managers s.managers four p.managers (ap length listed.managers) (λ n b. k.settings n b ∙ ap (λ (ms : List SyncManagerSettings). settings_at ms n) em)) listed hw
    where
      listed-fmmus : fmmu_at c.fmmus 0 ∷ fmmu_at c.fmmus 1 ∷ fmmu_at c.fmmus 2 ∷ fmmu_at c.fmmus 3 ∷ [] ≡ c.fmmus
      listed-fmmus = subst (λ (fs : List FmmuSettings). fmmu_at fs 0 ∷ fmmu_at fs 1 ∷ fmmu_at fs 2 ∷ fmmu_at fs 3 ∷ [] ≡ fs) (sym (ef ∙ listed.fmmus)) refl

  -- ---- it isn't in the part

  away-misses : IsMapped s a → IsAway (span_of_feed f) a → Misses s (span_of d)
  away-misses m w = subst (Misses s) (sym span-is) (record {
    reads = λ k b. m.reads (8 * f.address + k) ∙ elim (cases_Bool (within a.in_at a.ins (8 * f.address + k))) [
      | inl t ↦ let x = within_parts a.in_at a.ins (8 * f.address + k) t in
          absurd (w.ins (8 * f.address + k - a.in_at) k (let y = x.0 in let z = x.1 in omega (arith, y, z)) b (let y = x.0 in omega (arith, y)))
      | inr n ↦ if_false _ _ _ n
    ];
    writes = λ q. ap (inside_span (span_of_feed f)) (m.writes q) ∙ elim (cases_Bool (within (8 * a.out_start) a.outs q)) as (λ _. inside_span (span_of_feed f) (if within (8 * a.out_start) a.outs q then Some (a.out_at + (q - 8 * a.out_start)) else None) ≡ None) [
      | inl t ↦
          let x = within_parts (8 * a.out_start) a.outs q t in
          let j = a.out_at + (q - 8 * a.out_start) in
          ap (inside_span (span_of_feed f)) (if_true _ (Some j) None t) ∙ if_false (within (8 * f.address) (8 * f.bytes) j) (Some (j - 8 * f.address)) None (elim (cases_Bool (within (8 * f.address) (8 * f.bytes) j)) as (λ _. within (8 * f.address) (8 * f.bytes) j ≡ false) [
            | inl u ↦ let v = within_parts (8 * f.address) (8 * f.bytes) j u in
                absurd (w.outs (q - 8 * a.out_start) (j - 8 * f.address) (let y = x.0 in let z = x.1 in omega (arith, y, z)) (let y = v.0 in let z = v.1 in omega (arith, y, z)) (let y = v.0 in omega (arith, y)))
            | inr n ↦ n
          ])
      | inr n ↦ ap (inside_span (span_of_feed f)) (if_false (within (8 * a.out_start) a.outs q) (Some (a.out_at + (q - 8 * a.out_start))) None n)
    ];
  })

  -- ---- both commands

  -- a feed that reads too, or only writes
  by-command : (P : Meeting → Type 0) → (f.split ≡ true → P (meets_logically false true 1 s d)) → (f.split ≡ false → s.kind.lrw ≡ true → P (meets_logically true true 2 s d))
      → (f.split ≡ false → s.kind.lrw ≡ false → P (record { slave = s; datagram = d })) → P (meets s d)
  by-command P split whole none = by f.split refl
    where
      by : (b : Bool) → f.split ≡ b → P (meets s d)
      by true e = subst P (sym ((logical_meet s d).lwr (at.command ∙ if_true _ _ _ e))) (split e)
      by false e = elim (cases_Bool s.kind.lrw) [
        | inl k ↦ subst P (sym ((logical_meet s d).lrw (at.command ∙ if_false _ _ _ e) k)) (whole e k)
        | inr k ↦ subst P (sym ((logical_meet s d).no_lrw (at.command ∙ if_false _ _ _ e) k)) (none e k)
      ]

  -- what is to show of a meeting
  abbrev Fed : Meeting → Type 0
  Fed m = IsLeft s m.slave × IsFeedAt ps f number (i + 1) m.datagram

  same-on : (e : Datagram) → e ≡ d → IsFeedAt ps f number (i + 1) e
  same-on e q = subst (λ (x : Datagram). IsFeedAt ps f number (i + 1) x) (sym q)
      (record { command = at.command; address = at.address; data_length = at.data_length; zeros = λ j o b. at.zeros j o (omega (arith, b)) })

  unchanged : Fed (record { slave = s; datagram = d })
  unchanged = (inl refl, same-on d refl)

  missed : Misses s (span_of d) → Fed (meets s d)
  missed h = by-command Fed
      (λ e. subst Fed (sym (misses false true 1 s d h good.counter)) unchanged)
      (λ e k. subst Fed (sym (misses true true 2 s d h good.counter)) unchanged)
      (λ e k. unchanged)

  -- ---- it is in the part

  -- the inputs that it puts into the data are no outputs of a slave behind it
  inputs-on : (v : List ℕ) → Spans (span_of_feed f) a → IsFeedAt ps f number (i + 1) (record d { data_bytes = inputs_into a (span_of d) v d.data_bytes })
  inputs-on v spans = record {
    command = at.command;
    address = at.address;
    data_length = length-overlay d.data_bytes _ ∙ at.data_length;
    zeros = λ j o b m cj k.
        let x : Area = area_of (planned ps j) in
        let n : ℕ = x.out_at + o - 8 * f.address in
        let low = cj.out_from in
        let high = cj.out_to in
        let back : 8 * f.address + n ≡ x.out_at + o = omega (arith, low) in
        let off : within a.in_at a.ins (8 * d.address + n) ≡ false = elim (cases_Bool (within a.in_at a.ins (8 * d.address + n))) [
          | inl t ↦ let w = within_parts a.in_at a.ins (8 * d.address + n) t in let q = at.address in
              absurd (feed.apart i j (8 * d.address + n - a.in_at) o (omega (arith, b)) (let y = w.0 in let z = w.1 in omega (arith, y, z)) k (let y = w.0 in omega (arith, y, q, back)))
          | inr e ↦ e
        ] in
        let room = at.data_length in
        bit-overlay d.data_bytes _ n (omega (arith, low, high, k, room)) ∙ (ap (λ y. unwrap_or y (bit d.data_bytes n)) (if_false _ _ _ off) ∙ at.zeros j o (omega (arith, b)) m cj k);
  }

  -- a datagram that has its data, and a counter of its own
  answers : (e : Datagram) (bytes : List ℕ) (n : ℕ) → e ≡ with_answer d d.address bytes n → IsFeedAt ps f number (i + 1) (record d { data_bytes = bytes }) → IsFeedAt ps f number (i + 1) e
  answers e bytes n q h = subst (λ (x : Datagram). IsFeedAt ps f number (i + 1) x) (sym q) (record { command = h.command; address = h.address; data_length = h.data_length; zeros = h.zeros })

  -- what it takes are zeros, and zeros are what it has
  taken-zeros : IsMapped s a → HoldsZeros (manager_at s.managers 2) → (manager_at s.managers 2).settings ≡ output_manager p → Spans (span_of_feed f) a → takes s a ≡ true
      → with_outputs s (outputs_from a (span_of d) d.data_bytes) ≡ with_outputs_written s
  taken-zeros m zs es spans t =
      let some : 0 < p.share.outs = ltb-true 0 p.share.outs (and_parts (nat_lt 0 a.outs) (may_write (manager_at s.managers 2)) t).0 in
      let mode : IsOfBuffer (out_manager p.kind.hardware).control = buffered.type_outputs p.kind.mailbox p.kind.hardware hw in
      let is : (manager_at s.managers 2).settings ≡ area_settings p.kind.out_start (bytes_of_bits p.share.outs) (out_manager p.kind.hardware).control
      = es ∙ buffered.some p.kind.out_start p.share.outs (out_manager p.kind.hardware).control some in
      let there : is_set (area_settings p.kind.out_start (bytes_of_bits p.share.outs) (out_manager p.kind.hardware).control) ≡ true
      = set-process p.kind.out_start p.share.outs (out_manager p.kind.hardware).control mode some listed.out_fits in
      let long : buffer_length (manager_at s.managers 2).settings ≡ bytes_of_bits p.share.outs = ap buffer_length is ∙ if_true _ _ _ (and_from _ _ there (eq-eqb _ 0 mode.mode)) in
      let own : outputs_from a (span_of d) d.data_bytes ≡ zeros (buffer_length (manager_at s.managers 2).settings)
      = zero-outputs a (span_of d) d.data_bytes (λ o k. let q = at.address in let z : a.out_at + o - 8 * d.address ≡ a.out_at + o - 8 * f.address = omega (arith, q) in
      ap (bit d.data_bytes) z ∙ at.zeros i o (omega arith) l spans k) ∙ ap zeros (sym long) in
      ap (with_outputs s) own ∙ ap (λ (x : SyncManager). with_memory s s.memory (set s.managers 2 x)) (with-zeros (manager_at s.managers 2) zs)

  left-by : (b : Bool) → ((b ≡ true) → with_outputs s (outputs_from a (span_of d) d.data_bytes) ≡ with_outputs_written s)
      → IsLeft s (if b then with_outputs s (outputs_from a (span_of d) d.data_bytes) else s)
  left-by true h = inr (h refl)
  left-by false h = inl refl

  in-part : IsMapped s a → HoldsZeros (manager_at s.managers 2) → (manager_at s.managers 2).settings ≡ output_manager p → Spans (span_of_feed f) a → Fed (meets s d)
  in-part m zs es spans =
      let here : Spans (span_of d) a = subst (λ (q : LogicalSpan). Spans q a) (sym span-is) spans in
      let left : IsLeft s (if takes s a then with_outputs s (outputs_from a (span_of d) d.data_bytes) else s) = left-by (takes s a) (taken-zeros m zs es spans) in
      by-command Fed
      (λ e. subst Fed (sym (exchange false true 1 s a d m here)) (left, answers _ d.data_bytes _ refl (same-on d refl)))
      (λ e k. subst Fed (sym (exchange true true 2 s a d m here)) (left, answers _ _ _ refl (by-gives (gives s a))))
      (λ e k. unchanged)
    where
      by-gives : (b : Bool) → IsFeedAt ps f number (i + 1) (record d { data_bytes = if b then inputs_into a (span_of d) (inputs_of s) d.data_bytes else d.data_bytes })
      by-gives true = inputs-on (inputs_of s) spans
      by-gives false = same-on d refl

  -- ---- both

  held : length s.managers ≡ 4 → IsConfigured i c s → Fed (meets s d)
  held four k =
      let m = configured-area four k in
      elim (feed.areas i l) [
        | inl spans ↦ in-part m k.outputs (k.settings 2 (omega arith) ∙ (ap (λ (ms : List SyncManagerSettings). settings_at ms 2) em ∙ ap (λ (ms : List SyncManagerSettings). settings_at ms 2) listed.managers)) spans
        | inr w ↦ missed (away-misses m w)
      ]

  feeds : (trouble : Bool) → Stands p.kind i (Up c) trouble s → Fed (meets s d)
  feeds trouble h = elim h.at [
    | inl r ↦ held h.slave.four r.configured
    | inr (t, inl g) ↦ missed (blank-misses s g (span_of d))
    | inr (t, inr g) ↦ held h.slave.four g.faulted.configured
  ]

  -- ---- how it counts, at a slave whose managers are set and not locked

  abbrev Counts : ℕ → Meeting → Type 0
  Counts share m = m.datagram.counter ≡ (d.counter + share) % 65536

  counts-none : Counts 0 (record { slave = s; datagram = d })
  counts-none = let g = good.counter in omega (arith, g)

  counts-missed : Misses s (span_of d) → Counts 0 (meets s d)
  counts-missed h = by-command (Counts 0)
      (λ e. subst (Counts 0) (sym (misses false true 1 s d h good.counter)) counts-none)
      (λ e k. subst (Counts 0) (sym (misses true true 2 s d h good.counter)) counts-none)
      (λ e k. counts-none)

  -- the ring may write the outputs of a slave that has some
  takes-all : (manager_at s.managers 2).settings ≡ output_manager p → (manager_at s.managers 2).locked ≡ false → takes s a ≡ has_outs p.share
  takes-all es u = by (nat_lt 0 p.share.outs) refl
    where
      control : ℕ
      control = (out_manager p.kind.hardware).control

      open_for : 0 < p.share.outs → may_write (manager_at s.managers 2) ≡ true
      open_for some =
          let mode : IsOfBuffer control = buffered.type_outputs p.kind.mailbox p.kind.hardware hw in
          let is : (manager_at s.managers 2).settings ≡ area_settings p.kind.out_start (bytes_of_bits p.share.outs) control = es ∙ buffered.some p.kind.out_start p.share.outs control some in
          and_from _ _ (and_from _ _ (ap is_set is ∙ set-process p.kind.out_start p.share.outs control mode some listed.out_fits) (ap not u))
          (and_from _ _ (ap is_master_written is ∙ eq-eqb _ 1 (let w = out-mode p.kind.mailbox p.kind.hardware hw in omega (arith, w)))
          (if_false _ _ _ (ap is_mailbox is ∙ buffered.no_mailbox p.kind.out_start (bytes_of_bits p.share.outs) control mode)))

      by : (b : Bool) → nat_lt 0 p.share.outs ≡ b → (nat_lt 0 p.share.outs && may_write (manager_at s.managers 2)) ≡ nat_lt 0 p.share.outs
      by true e = and_from _ _ e (open_for (ltb-true 0 p.share.outs e)) ∙ sym e
      by false e = and_left _ _ e ∙ sym e

  -- and read the inputs
  gives-all : (manager_at s.managers 3).settings ≡ input_manager p → (manager_at s.managers 3).locked ≡ false → gives s a ≡ has_ins p.share
  gives-all es u = by (nat_lt 0 p.share.ins) refl
    where
      control : ℕ
      control = (in_manager p.kind.hardware).control

      open_for : 0 < p.share.ins → may_read (manager_at s.managers 3) ≡ true
      open_for some =
          let mode : IsOfBuffer control = buffered.type_inputs p.kind.mailbox p.kind.hardware hw in
          let is : (manager_at s.managers 3).settings ≡ area_settings p.kind.in_start (bytes_of_bits p.share.ins) control = es ∙ buffered.some p.kind.in_start p.share.ins control some in
          and_from _ _ (and_from _ _ (ap is_set is ∙ set-process p.kind.in_start p.share.ins control mode some listed.in_fits) (ap not u))
          (and_from _ _ (ap is_master_read is ∙ eq-eqb _ 0 (let w = in-mode p.kind.mailbox p.kind.hardware hw in omega (arith, w)))
          (if_false _ _ _ (ap is_mailbox is ∙ buffered.no_mailbox p.kind.in_start (bytes_of_bits p.share.ins) control mode)))

      by : (b : Bool) → nat_lt 0 p.share.ins ≡ b → (nat_lt 0 p.share.ins && may_read (manager_at s.managers 3)) ≡ nat_lt 0 p.share.ins
      by true e = and_from _ _ e (open_for (ltb-true 0 p.share.ins e)) ∙ sym e
      by false e = and_left _ _ e ∙ sym e

  abbrev own_count : ℕ
  own_count = if f.split then lwr_count (whole_share p.share) else lrw_count (whole_share p.share)

  counts-in-part : IsMapped s a → takes s a ≡ has_outs p.share → gives s a ≡ has_ins p.share → Spans (span_of_feed f) a → (f.split ≡ false → s.kind.lrw ≡ true) → Counts own_count (meets s d)
  counts-in-part m t g spans lrw =
      let here : Spans (span_of d) a = subst (λ (q : LogicalSpan). Spans q a) (sym span-is) spans in
      by-command (Counts own_count)
      (λ e. subst (Counts own_count) (sym (exchange false true 1 s a d m here))
      (subst (λ (n : ℕ). (d.counter + (from_bool (false && gives s a) + 1 * from_bool (true && takes s a))) % 65536 ≡ (d.counter + n) % 65536) (sym (if_true f.split (lwr_count (whole_share p.share)) (lrw_count (whole_share p.share)) e))
      (let n : from_bool (false && gives s a) + 1 * from_bool (true && takes s a) ≡ from_bool (has_outs p.share) = one-times (from_bool (takes s a)) ∙ ap from_bool t in ap (λ (k : ℕ). (d.counter + k) % 65536) n)))
      (λ e k. subst (Counts own_count) (sym (exchange true true 2 s a d m here))
      (subst (λ (n : ℕ). (d.counter + (from_bool (true && gives s a) + 2 * from_bool (true && takes s a))) % 65536 ≡ (d.counter + n) % 65536) (sym (if_false f.split (lwr_count (whole_share p.share)) (lrw_count (whole_share p.share)) e))
      (ap (λ (x : Bool). (d.counter + (from_bool x + 2 * from_bool (takes s a))) % 65536) g ∙ ap (λ (x : Bool). (d.counter + (from_bool (has_ins p.share) + 2 * from_bool x)) % 65536) t)))
      (λ e k. absurd (both_ways s.kind.lrw k (lrw e)))
    where
      one-times : (n : ℕ) → 0 + 1 * n ≡ n
      one-times n = omega arith

  -- and what is written isn't awaited any more
  wrote-in-part : IsMapped s a → HoldsZeros (manager_at s.managers 2) → (manager_at s.managers 2).settings ≡ output_manager p → takes s a ≡ true → Spans (span_of_feed f) a → (f.split ≡ false → s.kind.lrw ≡ true)
      → slave_met s d ≡ with_outputs_written s
  wrote-in-part m zs es t spans lrw =
      let here : Spans (span_of d) a = subst (λ (q : LogicalSpan). Spans q a) (sym span-is) spans in
      let left = if_true (takes s a) (with_outputs s (outputs_from a (span_of d) d.data_bytes)) s t ∙ taken-zeros m zs es spans t in
      by-command (λ (x : Meeting). x.slave ≡ with_outputs_written s)
      (λ e. subst (λ (x : Meeting). x.slave ≡ with_outputs_written s) (sym (exchange false true 1 s a d m here)) left)
      (λ e k. subst (λ (x : Meeting). x.slave ≡ with_outputs_written s) (sym (exchange true true 2 s a d m here)) left)
      (λ e k. absurd (both_ways s.kind.lrw k (lrw e)))

  -- all of an undisturbed slave that has its plan set
  pub record FeedGoes (share : ℕ) : Type 0 where
    pub counter : (datagram_met s d).counter ≡ (d.counter + share) % 65536
    pub written : Spans (span_of_feed f) a → 0 < p.share.outs → slave_met s d ≡ with_outputs_written s

  pub goes : (share : ℕ) → length s.managers ≡ 4 → s.kind ≡ p.kind → IsUpAt i c s → IsCountedIn f p share → FeedGoes share
  goes share four kind u counted =
      let m = configured-area four u.configured in
      let e2 : (manager_at s.managers 2).settings ≡ output_manager p = u.configured.settings 2 (omega arith) ∙ (ap (λ (ms : List SyncManagerSettings). settings_at ms 2) em ∙ ap (λ (ms : List SyncManagerSettings). settings_at ms 2) listed.managers) in
      let e3 : (manager_at s.managers 3).settings ≡ input_manager p = u.configured.settings 3 (omega arith) ∙ (ap (λ (ms : List SyncManagerSettings). settings_at ms 3) em ∙ ap (λ (ms : List SyncManagerSettings). settings_at ms 3) listed.managers) in
      let t = takes-all e2 (u.unlocked 2 (omega arith)) in
      let g = gives-all e3 (u.unlocked 3 (omega arith)) in
      by m e2 t g counted
    where
      lrw-of : (f.split ≡ false → p.kind.lrw ≡ true) → f.split ≡ false → s.kind.lrw ≡ true
      lrw-of h e = ap (λ (k : SlaveKind). k.lrw) kind ∙ h e

      -- a part that has its outputs as a whole isn't away from them
      no-both : Spans (span_of_feed f) a → IsAway (span_of_feed f) a → 0 < p.share.outs → ⊥
      no-both sp w some =
          let low = sp.out_from in
          let high = sp.out_to in
          w.outs 0 (a.out_at - 8 * f.address) (omega (arith, some)) (omega (arith, some, low, high)) (omega (arith, low))

      by : IsMapped s a → (manager_at s.managers 2).settings ≡ output_manager p → takes s a ≡ has_outs p.share → gives s a ≡ has_ins p.share → IsCountedIn f p share → FeedGoes share
      by m e2 t g (Within spans lrw is) = record {
        counter = subst (λ (n : ℕ). (datagram_met s d).counter ≡ (d.counter + n) % 65536) (sym is) (counts-in-part m t g spans (lrw-of lrw));
        written = λ sp some. wrote-in-part m u.configured.outputs e2 (t ∙ lt-ltb 0 p.share.outs some) sp (lrw-of lrw);
      }
      by m e2 t g (Outside w is) = record {
        counter = subst (λ (n : ℕ). (datagram_met s d).counter ≡ (d.counter + n) % 65536) (sym is) (counts-missed (away-misses m w));
        written = λ sp some. absurd (no-both sp w some);
      }

pub feed_law : FeedLaw
feed_law ps f number i c trouble d s feed l few good em ef at h = feeds ps f number i c d s feed l good em ef at trouble h
