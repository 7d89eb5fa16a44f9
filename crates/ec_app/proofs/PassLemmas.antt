-- A text that spells no frame is refused by the fault of the payload.
use Rattle.std.proofs.Common.{◌≡◌, ℕ, List, inl, sym, subst, Result, Ok, Err, IfErr}
use Rattle.std.specs.Result.{IsErrAnd}
use Rattle.ec_console.specs.declared.refusal.Refusal.{Refusal}
use Rattle.ec_console.specs.declared.refusal.Refusal.TheVariants.{Frame}
use Rattle.ec_frame.specs.declared.error.FrameError.{FrameError}
use Rattle.ec_app.specs.Passing.{SpellsNoFrame, IsPassRefusal}

-- also where a call passes the fault on
pub passed_up : {T : Type 0} (r : Result T Refusal) (text : List ℕ) (fault : FrameError)
    → IsErrAnd r (λ refusal. refusal ≡ Frame fault) → SpellsNoFrame text fault → IfErr r (IsPassRefusal text)
passed_up (Ok v) text fault is h = tt
passed_up (Err e) text fault is h = subst (IsPassRefusal text) (sym is) (inl h)
