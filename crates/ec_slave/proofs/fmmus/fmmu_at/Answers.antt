use Rattle.std.proofs.Common.{ℕ, ◌+◌, ◌-◌, ◌∙◌, List, drop, slice_index, ap, arith}
use Rattle.std.proofs.lemmas.List.{get_or-drop, get_or-take}
use Rattle.ec_regs.specs.Names.{shown_fmmu}
use Rattle.ec_regs.specs.Memory.{fmmu_start}
use Rattle.ec_slave.proofs.LogicalAccess.FmmusOf.{fmmu_of-alike}
use Rattle.ec_slave.proofs.fmmus.fmmu_at.Goals as goal

pub returns : goal.returns
returns c =
    let memory : List ℕ = c.args.memory.now in
    let at : ℕ = c.fmmu_address-at.result in
    let bytes : List ℕ = c.copy_from_slice.new.self in
    let place = c.fmmu_address-at.ensures in
    c.new.ensures
    ∙ (c.shown_fmmu.ensures
    ∙ ap (shown_fmmu c.args.kind.now.hardware) (c.decode_fmmu.ensures
    ∙ fmmu_of-alike (slice_index bytes) (λ k. slice_index memory (fmmu_start c.args.number + k)) (λ k l.
    ap (λ (xs : List ℕ). slice_index xs k) c.copy_from_slice.ensures.after
    ∙ (get_or-take (at + 16 - at) (drop at memory) k 0 (omega (arith, l))
    ∙ (get_or-drop at memory k 0 ∙ ap (λ (a : ℕ). slice_index memory (a + k)) place)))))
