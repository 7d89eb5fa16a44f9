-- One datagram and slave after slave: what it carries is enough, and the loop over the slaves.
use Rattle.std.proofs.Common.{ℕ, ◌+◌, ◌<◌, ◌≤◌, ◌≡◌, ◌^◌, Bool, true, false, if◌then◌else◌, List, [], ◌∷◌, ◌++◌, length, drop, get_or, set, refl, sym, ◌∙◌, ap, subst, arith}
use Rattle.std.proofs.lemmas.List.{drop_all, drop_more, append_assoc, length-append, get_or_at}
use Rattle.std.proofs.Math.Seq.{set-append_seam}
use Rattle.ec_frame.specs.declared.command.Command.{Command}
use Rattle.ec_frame.specs.declared.command.Command.TheVariants.{Nop, Aprd, Apwr, Aprw, Fprd, Fpwr, Fprw, Brd, Bwr, Brw, Lrd, Lwr, Lrw, Armw, Frmw}
use Rattle.ec_frame.specs.Datagram.{Datagram, IsDatagram}
use Rattle.ec_frame.specs.declared.datagram.Header.{Header}
use Rattle.ec_frame.specs.Fields.{header_of, with_address, with_counter, with_data}
use Rattle.ec_slave.specs.State.{SlaveState, Met}
use Rattle.ec_slave.specs.Logical.{span_of, meets_logically}
use Rattle.ec_slave.specs.LogicalLaws.{Misses}
use Rattle.ec_slave.specs.Meeting.{meets, meets_by, slave_met, datagram_met}
use Rattle.ec_slave.specs.Column.{slaves_met, datagram_past}
use Rattle.ec_slave.specs.Carried.{carrying, is_mapped}
use Rattle.ec_slave.specs.Keeping.{past-keeps}
use Rattle.ec_slave.proofs.LogicalAccess.MissesLaw.{misses}

-- ---- what a datagram carries decides its meetings

-- the datagram that carries the same, and nothing else
abbrev pub bare : Datagram → Datagram
bare d = carrying d.command (record { address = d.address; counter = d.counter }) d.data_bytes

-- d with what x carries
abbrev pub laden : Datagram → Datagram → Datagram
laden d x = record d { address = x.address; data_bytes = x.data_bytes; counter = x.counter }

-- one meeting: with less in the datagram, and what it leaves of it
record IsByCargo (d : Datagram) (n m : Met) : Type 0 where
  pub less : n ≡ record { slave = m.slave; datagram = bare m.datagram }
  pub rest : m.datagram ≡ laden d m.datagram

exchange-by-cargo : (b : Bool) (s : SlaveState) (d : Datagram)
    → IsByCargo d (if b then meets_logically true true 2 s (bare d) else record { slave = s; datagram = bare d }) (if b then meets_logically true true 2 s d else record { slave = s; datagram = d })
unfolding meets_logically
exchange-by-cargo true s d = record { less = refl; rest = refl }
exchange-by-cargo false s d = record { less = refl; rest = refl }

by-cargo : (c : Command) (s : SlaveState) (d : Datagram) → IsByCargo d (meets_by c s (bare d)) (meets_by c s d)
unfolding meets_logically
by-cargo Nop s d = record { less = refl; rest = refl }
by-cargo Aprd s d = record { less = refl; rest = refl }
by-cargo Apwr s d = record { less = refl; rest = refl }
by-cargo Aprw s d = record { less = refl; rest = refl }
by-cargo Fprd s d = record { less = refl; rest = refl }
by-cargo Fpwr s d = record { less = refl; rest = refl }
by-cargo Fprw s d = record { less = refl; rest = refl }
by-cargo Brd s d = record { less = refl; rest = refl }
by-cargo Bwr s d = record { less = refl; rest = refl }
by-cargo Brw s d = record { less = refl; rest = refl }
by-cargo Lrd s d = record { less = refl; rest = refl }
by-cargo Lwr s d = record { less = refl; rest = refl }
by-cargo Lrw s d = exchange-by-cargo s.kind.lrw s d
by-cargo Armw s d = record { less = refl; rest = refl }
by-cargo Frmw s d = record { less = refl; rest = refl }

met-by-cargo : (s : SlaveState) (d : Datagram) → IsByCargo d (meets s (bare d)) (meets s d)
unfolding meets
met-by-cargo s d = by-cargo d.command s d

pub slaves-bare : (ss : List SlaveState) (d : Datagram) → slaves_met ss (bare d) ≡ slaves_met ss d
slaves-bare [] d = refl
slaves-bare (s ∷ ss) d =
    let e = (met-by-cargo s d).less in
    ap (λ (m : Met). m.slave ∷ slaves_met ss m.datagram) e ∙ ap (λ (ts : List SlaveState). slave_met s d ∷ ts) (slaves-bare ss (datagram_met s d))

pub past-bare : (ss : List SlaveState) (d : Datagram) → datagram_past ss (bare d) ≡ bare (datagram_past ss d)
past-bare [] d = refl
past-bare (s ∷ ss) d = ap (λ (m : Met). datagram_past ss m.datagram) (met-by-cargo s d).less ∙ past-bare ss (datagram_met s d)

pub past-laden : (ss : List SlaveState) (d : Datagram) → datagram_past ss d ≡ laden d (datagram_past ss d)
past-laden [] d = refl
past-laden (s ∷ ss) d =
    let x : Datagram = datagram_past ss (datagram_met s d) in
    past-laden ss (datagram_met s d) ∙ ap (λ (e : Datagram). laden e x) (met-by-cargo s d).rest

-- ---- what the code puts back into the datagram

-- by a header that was read
pub bare-is : (h : Header) (more : Bool) (d : Datagram) (n : ℕ) → h ≡ header_of more d → n ≡ d.counter
    → carrying h.command (record { address = h.address; counter = n }) d.data_bytes ≡ bare d
bare-is h more d n e k =
    ap (λ (x : Header). carrying x.command (record { address = x.address; counter = n }) d.data_bytes) e
    ∙ ap (λ (m : ℕ). carrying d.command (record { address = d.address; counter = m }) d.data_bytes) k

pub put-good : (ss : List SlaveState) (d x : Datagram) → IsDatagram d → x ≡ bare (datagram_past ss d) → IsDatagram (with_data d x.data_bytes)
put-good ss d x good e =
    let same : length (datagram_past ss d).data_bytes ≡ length d.data_bytes = (past-keeps ss d good).1 in
    let own : length x.data_bytes ≡ length (datagram_past ss d).data_bytes = ap (λ (y : Datagram). length y.data_bytes) e in
    let l : length d.data_bytes < 2048 = good.data_bytes in
    record { index = good.index; address = good.address; reserved = good.reserved; irq = good.irq; data_bytes = omega (arith, same, own, l); counter = good.counter }

pub addressed-good : (ss : List SlaveState) (d x : Datagram) (a : ℕ) → IsDatagram d → x ≡ bare (datagram_past ss d) → a ≡ x.address → IsDatagram (with_address (with_data d x.data_bytes) a)
addressed-good ss d x a good e f =
    let g = put-good ss d x good e in
    let below : (datagram_past ss d).address < 2 ^ 32 = (past-keeps ss d good).0.address in
    let own : x.address ≡ (datagram_past ss d).address = ap (λ (y : Datagram). y.address) e in
    record { index = g.index; address = subst (λ (n : ℕ). n < 2 ^ 32) (sym (f ∙ own)) below; reserved = g.reserved; irq = g.irq; data_bytes = g.data_bytes; counter = g.counter }

pub past-is : (ss : List SlaveState) (d x : Datagram) (a n : ℕ) → x ≡ bare (datagram_past ss d) → a ≡ x.address → n ≡ x.counter
    → with_counter (with_address (with_data d x.data_bytes) a) n ≡ datagram_past ss d
past-is ss d x a n e f k =
    ap (λ (m : ℕ). with_counter (with_address (with_data d x.data_bytes) m) n) f
    ∙ (ap (with_counter (with_address (with_data d x.data_bytes) x.address)) k
    ∙ (ap (laden d) e ∙ sym (past-laden ss d)))

-- ---- datagrams that no slave is concerned with

nop-passes : (s : SlaveState) (d : Datagram) → d.command ≡ Nop → meets s d ≡ record { slave = s; datagram = d }
unfolding meets
nop-passes s d e = ap (λ (c : Command). meets_by c s d) e

pub slaves-nop : (ss : List SlaveState) (d : Datagram) → d.command ≡ Nop → slaves_met ss d ≡ ss
slaves-nop [] d e = refl
slaves-nop (s ∷ ss) d e = ap (λ (m : Met). m.slave ∷ slaves_met ss m.datagram) (nop-passes s d e) ∙ ap (λ (ts : List SlaveState). s ∷ ts) (slaves-nop ss d e)

pub past-nop : (ss : List SlaveState) (d : Datagram) → d.command ≡ Nop → datagram_past ss d ≡ d
past-nop [] d e = refl
past-nop (s ∷ ss) d e = ap (λ (m : Met). datagram_past ss m.datagram) (nop-passes s d e) ∙ past-nop ss d e

lrw-missed : (b : Bool) (s : SlaveState) (d : Datagram) → Misses s (span_of d) → d.counter < 65536
    → (if b then meets_logically true true 2 s d else record { slave = s; datagram = d }) ≡ record { slave = s; datagram = d }
lrw-missed true s d h k = misses true true 2 s d h k
lrw-missed false s d h k = refl

missed-by : (c : Command) (s : SlaveState) (d : Datagram) → is_mapped c ≡ true → Misses s (span_of d) → d.counter < 65536 → meets_by c s d ≡ record { slave = s; datagram = d }
missed-by Nop s d e h k = cc
missed-by Aprd s d e h k = cc
missed-by Apwr s d e h k = cc
missed-by Aprw s d e h k = cc
missed-by Fprd s d e h k = cc
missed-by Fpwr s d e h k = cc
missed-by Fprw s d e h k = cc
missed-by Brd s d e h k = cc
missed-by Bwr s d e h k = cc
missed-by Brw s d e h k = cc
missed-by Lrd s d e h k = misses true false 1 s d h k
missed-by Lwr s d e h k = misses false true 1 s d h k
missed-by Lrw s d e h k = lrw-missed s.kind.lrw s d h k
missed-by Armw s d e h k = cc
missed-by Frmw s d e h k = cc

pub missed : (s : SlaveState) (d : Datagram) → is_mapped d.command ≡ true → Misses s (span_of d) → d.counter < 65536 → meets s d ≡ record { slave = s; datagram = d }
unfolding meets
missed s d e h k = missed-by d.command s d e h k

-- ---- the loop over the slaves

-- i slaves met datagram d, which now is e: what is done, and that going on with the rest gives the whole
pub record IsAlong (ss : List SlaveState) (d : Datagram) (i : ℕ) (slaves : List SlaveState) (e : Datagram) : Type 0 where
  pub done : List SlaveState
  pub many : length done ≡ i
  pub slaves_are : slaves ≡ done ++ drop i ss
  pub ends_slaves : done ++ slaves_met (drop i ss) e ≡ slaves_met ss d
  pub ends_datagram : datagram_past (drop i ss) e ≡ datagram_past ss d

pub along_none : (ss : List SlaveState) (d : Datagram) → IsAlong ss d 0 ss d
along_none ss d = record { done = []; many = refl; slaves_are = refl; ends_slaves = refl; ends_datagram = refl }

pub along_one : (ss : List SlaveState) (d : Datagram) (i : ℕ) (slaves : List SlaveState) (e : Datagram) (s after : SlaveState) (f : Datagram)
    → IsAlong ss d i slaves e → i < length ss → after ≡ slave_met (get_or slaves i s) e → f ≡ datagram_met (get_or slaves i s) e → IsAlong ss d (i + 1) (set slaves i after) f
along_one ss d i slaves e s after f u l q r =
    let m : SlaveState = get_or ss i s in
    let rest : drop i ss ≡ m ∷ drop (i + 1) ss = drop_more ss i s l in
    let now : slaves ≡ u.done ++ m ∷ drop (i + 1) ss = u.slaves_are ∙ ap (λ (t : List SlaveState). u.done ++ t) rest in
    let own : get_or slaves i s ≡ m = ap (λ (t : List SlaveState). get_or t i s) now ∙ get_or_at u.done m (drop (i + 1) ss) s i u.many in
    let made : after ≡ slave_met m e = q ∙ ap (λ (t : SlaveState). slave_met t e) own in
    let left : f ≡ datagram_met m e = r ∙ ap (λ (t : SlaveState). datagram_met t e) own in
    let whole : (t : List SlaveState) → (u.done ++ after ∷ []) ++ t ≡ u.done ++ after ∷ t = λ t. append_assoc u.done (after ∷ []) t in
    let long : length (u.done ++ after ∷ []) ≡ i + 1 = omega (arith, length-append u.done (after ∷ []), u.many) in
    record {
      done = u.done ++ after ∷ [];
      many = long;
      slaves_are =
          ap (λ (t : List SlaveState). set t i after) now
          ∙ (ap (λ (n : ℕ). set (u.done ++ m ∷ drop (i + 1) ss) n after) (sym u.many)
          ∙ (set-append_seam u.done m (drop (i + 1) ss) after ∙ sym (whole (drop (i + 1) ss))));
      ends_slaves =
          whole (slaves_met (drop (i + 1) ss) f)
          ∙ (ap (λ (x : Datagram). u.done ++ after ∷ slaves_met (drop (i + 1) ss) x) left
          ∙ (ap (λ (t : SlaveState). u.done ++ t ∷ slaves_met (drop (i + 1) ss) (datagram_met m e)) made
          ∙ (ap (λ (t : List SlaveState). u.done ++ slaves_met t e) (sym rest) ∙ u.ends_slaves)));
      ends_datagram =
          ap (λ (x : Datagram). datagram_past (drop (i + 1) ss) x) left
          ∙ (ap (λ (t : List SlaveState). datagram_past t e) (sym rest) ∙ u.ends_datagram);
    }

pub along_all : (ss : List SlaveState) (d : Datagram) (i : ℕ) (slaves : List SlaveState) (e : Datagram) → IsAlong ss d i slaves e → length ss ≤ i
    → (slaves ≡ slaves_met ss d) × (e ≡ datagram_past ss d)
along_all ss d i slaves e u l =
    let none = drop_all i ss l in (
      u.slaves_are ∙ (ap (λ (t : List SlaveState). u.done ++ t) none ∙ (sym (ap (λ (t : List SlaveState). u.done ++ slaves_met t e) none) ∙ u.ends_slaves)),
      sym (ap (λ (t : List SlaveState). datagram_past t e) none) ∙ u.ends_datagram,
    )
