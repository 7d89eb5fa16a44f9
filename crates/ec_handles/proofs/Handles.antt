-- The machine values of handles: structs of one pointer, beside which they own what was kept. Assumes `Logic`.
use Rattle.std.proofs.Common.{◌≡◌, ℕ, List, [], ◌∷◌, ◌++◌, refl, subst, Option, None, Some, true, is_some}
use Rattle.std.proofs.lemmas.Bool.{false≢true}
use seplogic.Ra.Ura.{Ura}
use mir.Raw.{raw as bare}
use mir.Val.{Val, vptr, vstruct, of_list}
use base.Logic.{never, fst∗}
use types.Logic.{Logic, sem}
use types.Kit.{Item, Goal, Seq, Step, step, ‵, ◌$◌, drop, fsplit, fjoin, fpick, fpack, feq_i, feq_l, rewrite}
use denote.RattleType.{RattleType, Valss}
use denote.Builtin.{RawPtr}
use denote.Memory.{lone}
use denote.RawPtr.{Ptr, block_ptr, null_ptr, ptr_val, in_a_block}
use denote.Steps.{nothing}
use denote.Struct.Struct.{within}
use denote.Struct.Owning.{shape}
use Rattle.libc.specs.Heap.{chunk}
use Rattle.ec_handles.specs.Keeping.{keeps}
use Rattle.ec_handles.proofs.Values.{alone}
use Rattle.ec_handles.specs.declared.held.HeldMaster.{HeldMaster}
use Rattle.ec_handles.specs.contracts.held.HeldMaster.{the_row as master_row}
use Rattle.ec_ring.specs.contracts.ring.Ring.{the_row as ring_row}
use Rattle.ec_slave.specs.State.{SlaveState}
use Rattle.ec_handles.specs.Owning.{owns_master, owns_slaves}
use Rattle.ec_handles.specs.contracts.handle.MasterHandle as master
use Rattle.ec_handles.specs.contracts.handle.SegmentHandle as segment

abbrev pub Master : RattleType
Master = master.the_row

abbrev pub Segment : RattleType
Segment = segment.the_row

-- what is in an option that has something
pub record Within {X : Type 0} (o : Option X) : Type 0 where
  pub inside : X
  pub is_it : o ≡ Some inside

pub within_some : {X : Type 0} (o : Option X) → is_some o ≡ true → Within o
within_some None e = absurd (false≢true e)
within_some (Some x) e = record { inside = x; is_it = refl }

module _ {M : Type 1} {𝓤 : Ura M} {𝓛 : Logic 𝓤} {K : Type 0} {Γ : List (Item 𝓤)} {G : Goal 𝓤 𝓛.H} where
  pub master_in : K → (b o : ℕ) (x : HeldMaster)
      → Step K 𝓛 (‵ (Master.own_val (record { at = block_ptr b o; held = Some x }) (alone (vptr b o) ∷ [])) ∷ Γ) G (‵ (keeps master_row (block_ptr b o) x) ∷ Γ) G
  master_in t b o x = step (λ s. let v : Val = alone (vptr b o) in
      nothing t $ feq_i t (List Val) (vptr b o ∷ []) (vptr b o ∷ []) refl $ fjoin t $ feq_i t (List Val) (v ∷ []) (v ∷ []) refl $ fjoin t $
      fpack t (Valss (RawPtr ∷ [])) (within (shape master.the_type) (block_ptr b o, tt) (v ∷ [])) (vptr b o ∷ [], tt) $ fjoin t $ s)

  pub master_out : K → (d : Master.Denot) (vs : List Val) (x : HeldMaster) → d.held ≡ Some x
      → ((b o : ℕ) → d.at ≡ block_ptr b o → vs ≡ alone (vptr b o) ∷ [] → Seq K 𝓛 (‵ (keeps master_row (block_ptr b o) x) ∷ Γ) G)
      → Seq K 𝓛 (‵ (Master.own_val d vs) ∷ Γ) G
  master_out t d vs x some k =
      fsplit t $ fpick t (λ vss. fsplit t $ feq_l t (λ ev. fsplit t $ feq_l t (λ ep. drop t $
      rewrite t 0 (λ (m : Option (HeldMaster)). ‵ (owns_master d.at m)) some refl $
      in_a_block t d.at (λ p. keeps master_row p x) (fst∗ 𝓤 (never 𝓤) (sem 𝓛 (chunk (bare (lone master_row.mir)) null_ptr))) (λ b o e. k b o e
      (subst (λ (p : Ptr). vs ≡ vstruct (of_list (ptr_val p ∷ [])) ∷ []) e
      (subst (λ (ps : List Val). vs ≡ vstruct (of_list (ps ++ [])) ∷ []) ep ev))))))

  pub segment_in : K → (b o : ℕ) (x : List SlaveState)
      → Step K 𝓛 (‵ (Segment.own_val (record { at = block_ptr b o; slaves = Some x }) (alone (vptr b o) ∷ [])) ∷ Γ) G (‵ (keeps ring_row (block_ptr b o) x) ∷ Γ) G
  segment_in t b o x = step (λ s. let v : Val = alone (vptr b o) in
      nothing t $ feq_i t (List Val) (vptr b o ∷ []) (vptr b o ∷ []) refl $ fjoin t $ feq_i t (List Val) (v ∷ []) (v ∷ []) refl $ fjoin t $
      fpack t (Valss (RawPtr ∷ [])) (within (shape segment.the_type) (block_ptr b o, tt) (v ∷ [])) (vptr b o ∷ [], tt) $ fjoin t $ s)

  pub segment_out : K → (d : Segment.Denot) (vs : List Val) (x : List SlaveState) → d.slaves ≡ Some x
      → ((b o : ℕ) → d.at ≡ block_ptr b o → vs ≡ alone (vptr b o) ∷ [] → Seq K 𝓛 (‵ (keeps ring_row (block_ptr b o) x) ∷ Γ) G)
      → Seq K 𝓛 (‵ (Segment.own_val d vs) ∷ Γ) G
  segment_out t d vs x some k =
      fsplit t $ fpick t (λ vss. fsplit t $ feq_l t (λ ev. fsplit t $ feq_l t (λ ep. drop t $
      rewrite t 0 (λ (m : Option (List SlaveState)). ‵ (owns_slaves d.at m)) some refl $
      in_a_block t d.at (λ p. keeps ring_row p x) (fst∗ 𝓤 (never 𝓤) (sem 𝓛 (chunk (bare (lone ring_row.mir)) null_ptr))) (λ b o e. k b o e
      (subst (λ (p : Ptr). vs ≡ vstruct (of_list (ptr_val p ∷ [])) ∷ []) e
      (subst (λ (ps : List Val). vs ≡ vstruct (of_list (ps ++ [])) ∷ []) ep ev))))))
