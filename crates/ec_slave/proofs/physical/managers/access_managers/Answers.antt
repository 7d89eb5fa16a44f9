use Rattle.std.proofs.Common.{ℕ, ◌≡◌, ◌+◌, ◌-◌, ◌++◌, ◌∙◌, List, take, get_or, set, ap, arith, Option}
use Rattle.ec_device.specs.declared.hardware.Hardware.{Hardware}
use Rattle.ec_sync.specs.SyncManager.{SyncManager}
use Rattle.ec_slave.specs.Physical.{Window, physical_manager}
use Rattle.ec_slave.proofs.Memory.MetFrom.{met_from, met_from-step}
use Rattle.ec_slave.proofs.physical.managers.access_managers.Goals as goal

pub loop-k-preserved : goal.loop-k-preserved
loop-k-preserved c =
    let o : Option Hardware = c.args.kind.now.hardware in
    let ms : List SyncManager = c.args.managers.now in
    let before : List SyncManager = c.loop-k.managers in
    let reads = c.args.reads in
    let writes = c.args.writes in
    let w : Window = record { from = c.args.from; bytes = c.args.bytes.now } in
    let n : ℕ = 3 - c.loop-k.k in
    let d : SyncManager = c.index-rest-0.result in
    let x : SyncManager = c.access_manager.new.manager in
    let rest : List SyncManager = c.split_at_mut-lower.result.1.now in
    let front = c.split_at_mut-lower.ensures.front in
    let back = c.split_at_mut-lower.ensures.back in
    let more : 4 - c.loop-k.k ≡ n + 1 = omega arith in
    let next : n ≡ 4 - (c.loop-k.k + 1) = omega arith in
    met_from-step o ms before (c.split_at_mut-lower.result.0.now ++ set rest 0 x) reads writes w n d x (omega arith)
    (c.loop-k.invariant ∙ ap (met_from o ms reads writes w) more)
    (c.access_manager.ensures
    ∙ (ap (λ t. physical_manager o t reads writes w n (get_or rest 0 d)) front ∙ ap (λ y. physical_manager o (take n before) reads writes w n (get_or y 0 d)) back))
    (ap (λ t. t ++ set rest 0 x) front ∙ ap (λ t. take n before ++ set t 0 x) back)
    ∙ ap (met_from o ms reads writes w) next
