-- A start-up that nothing disturbs takes few frames, whatever state its slaves are in.
use Rattle.ec_bringup.proofs.Words.{◌<◌, arith, List, [], ◌∷◌, SlaveState, SlavePlan, Feed, CountSlaves, phases, script, frames_up, FramesAreFew}
use Rattle.ec_bringup.proofs.Script.Polls.{behind-few, behind-more, slow-any}

-- the first counts the slaves
some-frame : (ps : List SlavePlan) (fs : List Feed) (ss : List SlaveState) → 0 < frames_up ps fs ss
some-frame [] fs ss = omega arith
some-frame (p ∷ ps) fs ss = behind-more (p ∷ ps) fs ss 1 CountSlaves (phases (p ∷ ps))

pub frames-few : FramesAreFew
frames-few ps fs h ss =
    let few = behind-few ps fs ss 0 CountSlaves (script ps) (slow-any ps (λ i l. (h.complete i l).slow)) in
    (some-frame ps fs ss, omega (arith, few))
