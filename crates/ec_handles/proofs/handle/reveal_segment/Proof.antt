-- `reveal_segment` takes the handle's pointer for that of what was kept.
use Rattle.std.proofs.Common.{Some, true, is_some, ◌≡◌, List, [], ◌∷◌, ◌++◌, refl, sym, subst}
use mir.Val.{Val, vptr}
use base.Logic.{SProp, ent, emp, id⊢}
use base.Fml.{ftrue}
use prog.Wp.{WpFn}
use types.Kit.{‵, raw, ◌⊛◌, ◌$◌, ◌∵◌, !, qed, by, move, keep, split, fsplit, fjoin, suffices, use0}
use types.Run.{stop, fld, of_opd, no_more, and_then, returns, enter}
use types.ByLocal.{alloc_all, pass_all, free_all, look_at, get, get_in, sets}
use types.Part.{agg, sub, whole}
use contract.Monad.{fact, fact_i}
use contract.Running.{tables}
use denote.Exit.{yes}
use denote.RattleType.{owns}
use denote.Signature.{types_at, plain}
use denote.RawPtr.{block_ptr}
use denote.Steps.{nothing, heard}
use denote.Triple.Walked.{Stays, stay_dropped, walk_of}
use Rattle.core.proofs.alloc.Calls.{Goes-blank}
use Rattle.std.proofs.raw_atomic.Walks.{proved_at, leaves}
use Rattle.ec_handles.proofs.Values.{alone, kept_in}
use Rattle.ec_ring.specs.contracts.ring.Ring.{the_row as ring_row}
use Rattle.ec_handles.proofs.Handles.{Segment, segment_out, within_some}
use Rattle.ec_handles.specs.contracts.handle.reveal_segment.{ended, clauses}
use Rattle.ec_handles.specs.contracts.handle.reveal_segment.Key.{name as #self}
use Rattle.ec_handles.proofs.handle.reveal_segment.Statement.{statement}
use Rattle.ec_handles.proofs.handle.reveal_segment.Code as code

pub reveal_segment_spec : {M : Type 1} → statement M
reveal_segment_spec 𝓤 𝓛 𝓜 𝓡 wired =
    let H = 𝓛.H in let 𝓣 = tables 𝓤 H 𝓜 𝓡 𝓡.env in let c = clauses 𝓛 𝓜.mem 𝓡.returns in let fn = code.function in
    let hs : Stays ended.signature.params ended.kept = (stay_dropped (plain (λ _. Segment)) yes, tt) in
    proved_at 𝓛 ended hs c 𝓜 𝓡 (Goes-blank 𝓛 0 (plain (λ _. Segment)) yes (λ κs x f. tt), tt) #self fn (code.unfolded 𝓤 H 𝓜 𝓡 wired) (λ z are.
    let κs = z.0.0 in let v = z.0.3.0 in let Post : Val → SProp 𝓤 = (walk_of 𝓛 ended hs c).post z in let Run : List Val → SProp 𝓤 = λ ws. WpFn 𝓤 H 𝓣.C 𝓣.Λ fn ws Post in
    let asked = raw ((c κs z.0.3).requires z.1) in
    qed 𝓛 ((‵ ftrue ⊛ ‵ (owns (types_at ended.signature.params κs) z.0.3 z.0.4)) ∷ asked ∷ []) ∵ move ! (1 ∷ []) $ heard ! (is_some v.slaves ≡ true) (λ known.
    let x = (within_some v.slaves known).inside in let is = (within_some v.slaves known).is_it in
    split ! $ move ! (1 ∷ []) $ fsplit ! $ segment_out ! v z.0.4.0 x is (λ b o e ws.
    let w : Val = alone (vptr b o) in
    suffices ! (Run (w ∷ [])) (subst (λ (us : List Val). ent 𝓤 (Run (w ∷ [])) (Run us)) (sym (λ i. ws i ++ [])) (id⊢ 𝓤 (Run (w ∷ [])))) $
    enter ! 𝓣.C 𝓣.Λ fn (w ∷ []) Post $ alloc_all ! (λ l. pass_all ! refl ((tt, (tt, tt)), tt) $
    sets ! (of_opd ! (get_in ! (fld ! refl (stop !)) (sub ! 0 refl (whole !)))) refl (tt, tt) $
    sets ! (of_opd ! (get ! refl)) refl (tt, tt) $
    sets ! (agg ! (and_then ! (get ! refl) (no_more !))) refl (tt, (tt, tt)) $
    kept_in ring_row ! b o x $
    use0 𝓛 (raw (fact 𝓤 (Some x ≡ v.slaves))) (fact_i 𝓤 (Some x ≡ v.slaves) (emp 𝓤) (sym is)) $ nothing ! $ nothing ! $ fjoin ! $
    returns ! (look_at ! 0 refl) $ free_all ! refl $ keep ! (4 ∷ 0 ∷ 2 ∷ 1 ∷ []) $ by ! (leaves 𝓛 ended hs c z (alone (vptr b o)) (record { at = block_ptr b o; value = x }) (tt, tt) (tt, tt))))))
