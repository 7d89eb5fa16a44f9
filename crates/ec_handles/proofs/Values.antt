-- The machine value of a `RawBox`: a struct of one pointer, beside which it owns a box. Assumes `Logic`.
use Rattle.std.proofs.Common.{◌≡◌, ℕ, List, [], ◌∷◌, ◌++◌, refl, subst}
use seplogic.Ra.Ura.{Ura}
use mir.Raw.{raw as bare}
use mir.Syntax.{Dict, impl, tcons, tnil, dnil}
use mir.Val.{Val, vptr, vstruct, vcons, vnil, of_list}
use base.Logic.{never, fst∗}
use types.Logic.{Logic, sem}
use types.Kit.{Item, Goal, Seq, Step, step, ‵, ◌$◌, drop, fsplit, fjoin, fpick, fpack, feq_i, feq_l}
use denote.RattleType.{RattleType, Valss}
use denote.Builtin.{RawPtr}
use denote.Memory.{lone}
use denote.Exit.{no}
use denote.Param.{arg, layout}
use denote.Param.Laws.{Laws, arg_laws}
use denote.RawPtr.{Ptr, block_ptr, null_ptr, ptr_val, in_a_block}
use denote.Steps.{nothing}
use denote.Struct.Struct.{within}
use denote.Struct.Owning.{shape}
use Rattle.libc.specs.Heap.{chunk}
use Rattle.std_alloc.proofs.BoxSteps.Form.{Bx}
use Rattle.std_heap.proofs.Global.TheLaws.{the_row_laws as global_laws}
use Rattle.std_heap.specs.contracts.Global.{the_row as global_row}
use Rattle.std_heap.specs.contracts.GlobalAllocator.TheImpl.{ghosts, dict}
use Rattle.ec_handles.specs.Keeping.{keeps}
use Rattle.ec_handles.specs.contracts.handle.RawBox as kept

-- a struct of one pointer
abbrev pub alone : Val → Val
alone v = vstruct (vcons v vnil)

-- an allocator of the C library, as an argument of a generic function
abbrev pub heap_row : RattleType
heap_row = arg (bare (layout global_row)) no global_row

abbrev pub heap_laws : Laws heap_row
heap_laws = arg_laws (bare (layout global_row)) no global_row global_laws refl

-- what drops an allocator of the C library: nothing
abbrev pub no_drop : Dict
no_drop = impl ("ec_handles::Destruct++none::drop" ∷ []) (tcons (layout heap_row) tnil) dnil

-- a box whose block came from the C library
abbrev pub boxed : (T : RattleType) → Laws T → Bx
boxed T L = record { row = T; laws = L; al = record { row = heap_row; laws = heap_laws; g = ghosts; d = dict; drops = no_drop } }

module _ (R : RattleType) where
  abbrev pub Row : RattleType
  Row = kept.the_row R

  module _ {M : Type 1} {𝓤 : Ura M} {𝓛 : Logic 𝓤} {K : Type 0} {Γ : List (Item 𝓤)} {G : Goal 𝓤 𝓛.H} where
    pub kept_in : K → (b o : ℕ) (x : R.Denot)
        → Step K 𝓛 (‵ (Row.own_val (record { at = block_ptr b o; value = x }) (alone (vptr b o) ∷ [])) ∷ Γ) G (‵ (keeps R (block_ptr b o) x) ∷ Γ) G
    kept_in t b o x = step (λ s. let v : Val = alone (vptr b o) in
        nothing t $ feq_i t (List Val) (vptr b o ∷ []) (vptr b o ∷ []) refl $ fjoin t $ feq_i t (List Val) (v ∷ []) (v ∷ []) refl $ fjoin t $
        fpack t (Valss (RawPtr ∷ [])) (within (shape (kept.the_type R)) (block_ptr b o, tt) (v ∷ [])) (vptr b o ∷ [], tt) $ fjoin t $ s)

    pub kept_out : K → (d : Row.Denot) (vs : List Val)
        → ((b o : ℕ) → d.at ≡ block_ptr b o → vs ≡ alone (vptr b o) ∷ [] → Seq K 𝓛 (‵ (keeps R (block_ptr b o) d.value) ∷ Γ) G)
        → Seq K 𝓛 (‵ (Row.own_val d vs) ∷ Γ) G
    kept_out t d vs k =
        fsplit t $ fpick t (λ vss. fsplit t $ feq_l t (λ ev. fsplit t $ feq_l t (λ ep. drop t $
        in_a_block t d.at (λ p. keeps R p d.value) (fst∗ 𝓤 (never 𝓤) (sem 𝓛 (chunk (bare (lone R.mir)) null_ptr))) (λ b o e. k b o e
        (subst (λ (p : Ptr). vs ≡ vstruct (of_list (ptr_val p ∷ [])) ∷ []) e
        (subst (λ (ps : List Val). vs ≡ vstruct (of_list (ps ++ [])) ∷ []) ep ev))))))
