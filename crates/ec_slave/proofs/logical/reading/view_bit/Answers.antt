use Rattle.std.proofs.Common.{ℕ, ◌≡◌, ◌≤◌, ◌/◌, Some, sym, ◌∙◌, subst}
use Rattle.std.proofs.lemmas.List.{get_or_default}
use Rattle.ec_sync.specs.SyncManager.{SyncManager, no_manager}
use Rattle.ec_sync.specs.Governing.{governor}
use Rattle.ec_slave.specs.State.{manager_at}
use Rattle.ec_slave.proofs.LogicalAccess.ReadViews.{governor-start, governor-below}
use Rattle.ec_slave.proofs.logical.reading.view_bit.Goals as goal

pub view_behind-requires : goal.view_behind-requires
view_behind-requires c =
    let ms = c.args.managers.now in
    let a : ℕ = c.args.physical / 8 in
    let n : ℕ = c.in-Some.place in
    let g : governor ms a ≡ Some n = sym c.governor.ensures.value ∙ c.in-Some.is in
    let same : c.index-managers-place.result ≡ manager_at ms n
    = c.index-managers-place.is ∙ get_or_default ms n (c.index-managers-place.result) no_manager (governor-below ms a n g) in
    subst (λ (m : SyncManager). m.settings.start ≤ a) (sym same) (governor-start ms a n g)
