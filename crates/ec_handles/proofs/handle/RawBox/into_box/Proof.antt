-- `into_box` gives the pointer, and what is owned there, to `from_raw`.
use Rattle.std.proofs.Common.{◌≡◌, List, [], ◌∷◌, ◌++◌, refl, sym, ap, subst}
use mir.Syntax.{a_type}
use mir.Val.{Val, vptr}
use mir.MapTy.{inst_fn}
use base.Fraction.{full_share}
use base.Logic.{SProp, ent, emp, id⊢}
use base.Fml.{ftrue, flft}
use prog.Wp.{WpFn}
use types.Kit.{‵, raw, ◌⊛◌, some, later, at_ret, ◌$◌, ◌∵◌, !, qed, by, move, keep, drop, split, split3, join, fsplit, fjoin, pick, suffices, use0, use1, await, rewrite, feq_i}
use types.Run.{stop, fld, of_opd, no_more, and_then, first, blocks, exec, returns, enter}
use types.ByLocal.{alloc_all, pass_all, free_all, look_at, get, get_in, sets, lands_last, env}
use types.Part.{sub, whole}
use contract.Monad.{fact, fact_i}
use contract.BorrowLft.{◌⊑◌, ⊑_static}
use contract.Running.{tables}
use denote.Exit.{yes, no}
use denote.RattleType.{RattleType, owns}
use denote.Signature.{types_at, plain}
use denote.RawPtr.{block_ptr}
use denote.Steps.{nothing, only, heard}
use denote.Param.{param, layout, layouts}
use denote.Param.NoDrop as none
use denote.Triple.Clauses.{Lasts, lasts}
use denote.Triple.Spec.{triple_of}
use denote.Triple.Call.{calls_at_last}
use denote.Triple.Walked.{Stays, stay_dropped, walk_of}
use Rattle.core.proofs.alloc.Calls.{Goes-blank, handle_tells}
use Rattle.core.proofs.alloc.Shapes.{after}
use Rattle.core.proofs.atomic.Steps.{fm}
use Rattle.core.proofs.cell.Inside.{Good}
use Rattle.std_alloc.proofs.BoxSteps.Form as box
use Rattle.std_alloc.proofs.BoxSteps.Steps.{box_out, box_in}
use Rattle.std.proofs.raw_atomic.Walks.{proved_at, leaves}
use Rattle.std_heap.proofs.GlobalAllocator.TheImpl.Met as heap
use Rattle.std_heap.specs.contracts.Global.{the_row as global_row}
use Rattle.std_heap.specs.contracts.GlobalAllocator.TheImpl.{ghosts, dict}
use Rattle.std_alloc.specs.contracts.boxed.Box.from_raw as callee
use Rattle.std_alloc.proofs.boxed.Box.from_raw.Met.{met}
use Rattle.ec_handles.proofs.Values.{Row, alone, boxed, heap_laws, heap_row, kept_out, no_drop}
use Rattle.ec_handles.specs.contracts.handle.RawBox.into_box.{ended, clauses}
use Rattle.ec_handles.specs.contracts.handle.RawBox.into_box.Key.{name as #self}
use Rattle.ec_handles.proofs.handle.RawBox.into_box.Statement.{statement}
use Rattle.ec_handles.proofs.handle.RawBox.into_box.Code as code
use Rattle.ec_handles.proofs.Destruct++none.drop.Code as dropping

pub into_box_spec : {M : Type 1} → statement M
unfolding dropping.code
into_box_spec {M = M} 𝓤 𝓛 𝓜 𝓡 wired T L =
    let H = 𝓛.H in let 𝓣 = tables 𝓤 H 𝓜 𝓡 𝓡.env in let R : RattleType = param 0 T in let K : RattleType = Row R in let E : box.Bx = boxed T L in let B : RattleType = box.B E in
    let En = ended T in let c = clauses T 𝓛 𝓜.mem 𝓡.returns in let inst = layouts (a_type ∷ []) (T, tt) in let fn = inst_fn inst code.function in
    let hs : Stays En.signature.params En.kept = (stay_dropped (plain (λ _. K)) no, (stay_dropped (plain (λ _. global_row)) yes, tt)) in
    let Ce = callee.ended T heap_row ghosts dict no_drop in let k = triple_of 𝓛 (callee.signature T heap_row ghosts dict no_drop) (callee.spec T heap_row ghosts dict no_drop 𝓛 𝓜.mem 𝓡.returns) in
    let known = met 𝓤 𝓛 𝓜 𝓡 (code.calls-std_alloc::boxed::Box::from_raw 𝓡.env wired) T heap_row L heap_laws ghosts dict no_drop
    (heap.passed 𝓡.env (code.calls-std_heap::GlobalAllocator::allocate 𝓡.env wired) (code.calls-std_heap::GlobalAllocator::deallocate 𝓡.env wired) (code.calls-std_heap::GlobalAllocator::grow 𝓡.env wired) (code.calls-std_heap::GlobalAllocator::shrink 𝓡.env wired) M 𝓤 𝓛 𝓜 𝓡)
    (none.glues "ec_handles::Destruct++none::drop" 𝓡.env (code.calls-ec_handles::Destruct++none::drop 𝓡.env wired) heap_row heap_laws M 𝓤 𝓛 𝓜 𝓡) in
    proved_at 𝓛 En hs c 𝓜 𝓡 (Goes-blank 𝓛 1 (plain (λ _. K)) no (λ κs x f. tt), (Goes-blank 𝓛 1 (plain (λ _. global_row)) yes (λ κs x f. tt), tt)) (#self inst) fn (code.unfolded 𝓤 H 𝓜 𝓡 wired (T, tt)) (λ z are.
    let κs = z.0.0 in let qs = z.0.1 in let v = z.0.3.0 in let a = z.0.3.1.0 in let Post : Val → SProp 𝓤 = (walk_of 𝓛 En hs c).post z in let Run : List Val → SProp 𝓤 = λ ws. WpFn 𝓤 H 𝓣.C 𝓣.Λ fn ws Post in
    let token = ‵ (flft κs.0 qs.0) in let asked = raw ((c κs z.0.3).requires z.1) in let Within = κs.0 ⊑ T.lives in let Always = [] ⊑ global_row.lives in
    qed 𝓛 (((token ⊛ ‵ ftrue) ⊛ ‵ (owns (types_at En.signature.params κs) z.0.3 z.0.4)) ∷ asked ∷ []) ∵
    split ! $ move ! (2 ∷ []) $ use1 𝓛 (raw (fact 𝓤 Within) ⊛ ‵ ftrue) (id⊢ 𝓤 _) $ split ! $ heard ! Within (λ within. drop ! $ move ! (1 ∷ []) $ fsplit ! $
    kept_out R ! v z.0.4.0 (λ b o at ew. move ! (1 ∷ []) $ fsplit ! $ handle_tells E.al ! a z.0.4.1.0 (λ h eh fits.
    let w : Val = alone (vptr b o) in let us : List Val = w ∷ h ∷ [] in let two = ‵ (flft κs.0 qs.0) ⊛ ‵ (flft [] full_share) ⊛ ‵ ftrue in
    let y : k.Ghost = (((κs.0, ([], tt)), (qs.0, (full_share, tt)), tt, (a, (block_ptr b o, tt)), (h ∷ [], (vptr b o ∷ [], tt))), v.value) in
    -- [the allocator; the end of the list; what was kept; the token; nothing]: what `from_raw` asks for, then what it owns, then the tokens
    move ! (2 ∷ []) $ use0 𝓛 (raw (fact 𝓤 Always)) (fact_i 𝓤 Always (emp 𝓤) (⊑_static [])) $ join ! $ use0 𝓛 (raw (fact 𝓤 Within)) (fact_i 𝓤 Within (emp 𝓤) within) $ join ! $
    move ! (1 ∷ 2 ∷ []) $ move ! (1 ∷ []) $ feq_i ! (List Val) (vptr b o ∷ []) (vptr b o ∷ []) refl $ fjoin ! $ move ! (1 ∷ 0 ∷ []) $ fjoin ! $
    move ! (2 ∷ []) $ use0 𝓛 (‵ (flft [] full_share)) (𝓛.lfts.lft-nil full_share) $ move ! (1 ∷ []) $ split ! $
    move ! (2 ∷ 1 ∷ []) $ join ! $ move ! (1 ∷ 0 ∷ []) $ join ! $ join ! $ join ! $ use1 𝓛 (raw (k.pre y)) (id⊢ 𝓤 _) $
    suffices ! (Run us) (subst (λ (ws : List Val). ent 𝓤 (Run us) (Run ws)) (sym (λ i. ew i ++ (eh i ++ []))) (id⊢ 𝓤 (Run us))) $
    enter ! 𝓣.C 𝓣.Λ fn us Post $ alloc_all ! (λ l. pass_all ! refl ((tt, (tt, tt)), (fits, tt)) $ let Ev = env fn.locals l in
    sets ! (of_opd ! (get_in ! (fld ! refl (stop !)) (sub ! 0 refl (whole !)))) refl (tt, tt) $ first ! $ blocks ! $
    calls_at_last ! (fm 𝓛 𝓜 𝓡) k known y (and_then ! (get ! refl) (and_then ! (get ! refl) (no_more !))) (λ u.
    use1 𝓛 (later (some (λ (r : B.Denot). (two ⊛ ‵ (B.own_val r (u ∷ []))) ⊛ some (λ (ws : Lasts Ce (κs.0, ([], tt)) (a, (block_ptr b o, tt))). ‵ (lasts Ce (κs.0, ([], tt)) (a, (block_ptr b o, tt)) ws) ⊛ (raw (fact 𝓤 (r.value ≡ v.value)) ⊛ raw (fact 𝓤 (r.alloc ≡ a))))))) (id⊢ 𝓤 (k.post y u)) $
    await ! tt $ pick ! (λ r. split ! $ move ! (1 ∷ []) $ pick ! (λ _. split3 ! $ drop ! $ heard ! (r.value ≡ v.value) (λ same. drop ! $ split ! $ move ! (1 ∷ []) $
    box_out E ! r (u ∷ []) (λ b' o' h' at' eu fits'. box_in E ! r b' o' r.value at' refl $ rewrite ! 0 (λ (xs : List Val). ‵ (B.own_val r xs)) (sym eu) refl $
    let good : Good (layout B) u = subst (Good (layout B)) (sym (ap only eu)) (box.box_typed E h' b' o' fits') in
    lands_last ! refl good $ exec ! 𝓣.C 𝓣.Λ Ev (after 2 fn.body) (at_ret Ev Post) $ sets ! (of_opd ! (get ! refl)) refl good $ returns ! (look_at ! 0 refl) $ free_all ! refl $
    -- the box is the result; of the tokens that of `T` alone was the caller's, and nothing is left of the parameters
    move ! (1 ∷ []) $ split3 ! $ move ! (0 ∷ 2 ∷ []) $ join ! $ move ! (1 ∷ []) $ drop ! $
    use0 𝓛 (raw (fact 𝓤 (r.value ≡ v.value))) (fact_i 𝓤 (r.value ≡ v.value) (emp 𝓤) same) $ nothing ! $ nothing ! $ fjoin ! $ nothing ! $ fjoin ! $
    keep ! (2 ∷ 0 ∷ 3 ∷ 1 ∷ []) $ by ! (leaves 𝓛 En hs c z u r (tt, (tt, tt)) (tt, (tt, tt)))))))))))
    ))
