-- What a datagram brings to a slave that is set up as usual, and takes from it, as copies.
use Rattle.std.proofs.Common.{ℕ, ◌+◌, ◌-◌, ◌≤◌, ◌≡◌, Bool, true, false, if◌then◌else◌, List, length, refl, sym, ◌∙◌, arith, inl, inr}
use Rattle.std.proofs.lemmas.Bool.{both_ways, cases_Bool}
use Rattle.ec_bits.specs.Bits.{within}
use Rattle.ec_bits.proofs.AnyLaws.{within_true, within_parts}
use Rattle.ec_fmmu.specs.declared.area.MappedArea.{MappedArea}
use Rattle.ec_fmmu.specs.Areas.{IsMappedBy, area}
use Rattle.ec_sync.specs.SyncManager.{SyncManager}
use Rattle.ec_slave.specs.State.{SlaveState, fmmus, with_memory}
use Rattle.ec_slave.specs.Exchange.{IsMapped}
use Rattle.ec_slave.specs.Usual.{LiesIn}

-- the bits of a run, counted from a datagram's first
pub within_moved : (at n from i : ℕ) → from ≤ at → within at n (from + i) ≡ within (at - from) n i
within_moved at n from i l = elim (cases_Bool (within at n (from + i))) [
  | inl t ↦
      let b = within_parts at n (from + i) t in
      t ∙ sym (within_true (at - from) n i (let x = b.0 in omega (arith, x, l)) (let x = b.1 in omega (arith, x, l)))
  | inr f ↦ f ∙ sym (elim (cases_Bool (within (at - from) n i)) as (λ _. within (at - from) n i ≡ false) [
    | inl t ↦
        let b = within_parts (at - from) n i t in
        absurd (both_ways (within at n (from + i)) f (within_true at n (from + i) (let x = b.0 in omega (arith, x, l)) (let x = b.1 in omega (arith, x, l))))
    | inr g ↦ g
  ])
]

-- a slave whose managers became others, or didn't
pub slave_exchanged : (s : SlaveState) (b : Bool) (ms : List SyncManager) → with_memory s s.memory (if b then ms else s.managers) ≡ (if b then with_memory s s.memory ms else s)
slave_exchanged s true ms = refl
slave_exchanged s false ms = refl

-- ---- an area that the FMMUs map

pub is_mapped : (s : SlaveState) (m : MappedArea) → length s.managers ≡ 4 → IsMappedBy (fmmus s) m
    → LiesIn s.managers 2 m.out_start m.outs → LiesIn s.managers 3 m.in_start m.ins → IsMapped s (area m)
is_mapped s m four by out own = record {
  four = four;
  reads = by.reads;
  writes = by.writes;
  in_governed = own.governed;
  out_governed = out.governed;
  in_buffer = own.buffer;
  out_buffer = out.buffer;
}
