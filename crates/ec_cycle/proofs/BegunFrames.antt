-- What goes out in a begun frame.
use Rattle.std.proofs.Common.{ℕ, ◌+◌, ◌-◌, ◌*◌, ◌<◌, ◌≡◌, false, Option, None, refl, ◌∙◌, sym, ap, arith, List, [], length, get_or, take, drop}
use Rattle.std.specs.Option.{option_map_or}
use Rattle.std.specs.List.{slice_range}
use Rattle.std.proofs.lemmas.List.{drop-drop}
use Rattle.ec_bits.specs.Bits.{bit}
use Rattle.ec_frame.specs.Building.{bare_payload}
use Rattle.ec_frame.specs.Frame.{IsFrame}
use Rattle.ec_link.specs.Plan.{PlanState, part_at}
use Rattle.ec_link.specs.Meaning.{slave_at, area_at, out_source}
use Rattle.ec_link.specs.Usable.{IsUsable}
use Rattle.ec_cycle.specs.Frames.{process_bytes, sent_datagrams}
use Rattle.ec_cycle.specs.Laws.{outgoing}
use Rattle.ec_cycle.specs.Master.{MasterState, OpenCycle, Begun}
use Rattle.ec_cycle.proofs.AnswersFrame.{length-process_bytes}
use Rattle.ec_cycle.proofs.ProcessBits.{outputs_by_source}
use Rattle.ec_cycle.proofs.RenewedFrame.{cut, sent_in}

-- the data that stand in a frame
carried : (p : PlanState) (k n : ℕ) (image frame : List ℕ) → ((part_at p.parts k).bytes ≡ 0 → ⊥) → IsFrame frame (bare_payload (sent_datagrams p n k image))
    → slice_range frame 48 (48 + (part_at p.parts k).bytes) ≡ process_bytes p k image
carried p k n image frame some h =
    let size : ℕ = (part_at p.parts k).bytes in
    let x = cut p k n image frame (take 38 frame) (drop 38 frame) h refl refl in
    let many : 48 + size - 48 ≡ size = omega arith in
    ap (λ (m : ℕ). take m (drop 48 frame)) many
    ∙ (ap (λ (xs : List ℕ). take size xs) (sym (drop-drop 10 38 frame))
    ∙ sent_in (part_at p.parts k) n size (process_bytes p k image) (drop 38 frame) some refl (length-process_bytes p k image) x.back_is)

pub unlinked_go_out_as_zero : (old new : MasterState) (c : OpenCycle) (k s o i : ℕ) → IsUsable old.plan → Begun old new c → k < length old.plan.parts → s < length old.plan.slaves → (slave_at old.plan s).share.part ≡ k
    → o < (slave_at old.plan s).share.outs → out_source old.plan.out_links s o ≡ None → i < 8 * (part_at old.plan.parts k).bytes → 8 * (part_at old.plan.parts k).address + i ≡ (area_at old.plan s).out_at + o
    → bit (outgoing new k) i ≡ false
unlinked_go_out_as_zero old new c k s o i usable b there slave part out none inside here =
    let p = old.plan in
    ap (λ (m : MasterState). bit (outgoing m k) i) b.is
    ∙ (ap (λ (xs : List ℕ). bit xs i) (carried p k old.next old.outputs (get_or c.frames k []) (λ z. absurd (omega arith)) (b.frames k there))
    ∙ (outputs_by_source p k s o i old.outputs usable slave part out inside here ∙ ap (λ (q : Option ℕ). option_map_or (bit old.outputs) q false) none))
