use Rattle.std.proofs.Common.{ℕ, ◌≡◌, ◌+◌, ◌-◌, ◌*◌, ◌&&◌, List, ◌++◌, length, take, drop, get_or, set, ◌∙◌, ap, arith}
use Rattle.ec_sync.specs.SyncManager.{SyncManager}
use Rattle.ec_fmmu.specs.Applied.{LogicalSpan, touched_by_writing}
use Rattle.ec_slave.specs.Managers.{is_ungoverned, is_written_by}
use Rattle.ec_slave.proofs.LogicalAccess.ExchangedFrom.{one_exchanged, exchanged_from, exchanged_from-step, exchanged_from-end, written_from}
use Rattle.ec_slave.proofs.LogicalAccess.WrittenFrom.{written_from-step, written_from-end}
use Rattle.ec_slave.proofs.logical.managers.access_managers.Goals as goal

pub loop-k-preserved : goal.loop-k-preserved
loop-k-preserved c =
    let ms : List SyncManager = c.args.managers.now in
    let before : List SyncManager = c.loop-k.managers in
    let fs = c.args.fmmus.now in
    let bytes = c.args.bytes.now in
    let p : LogicalSpan = record { from = c.args.from; bits = 8 * length bytes } in
    let n : ℕ = 3 - c.loop-k.k in
    let d : SyncManager = c.index-rest-0.result in
    let x : SyncManager = c.access_manager-is_written.new.manager in
    let lower : List SyncManager = c.split_at_mut-lower.result.0.now in
    let rest : List SyncManager = c.split_at_mut-lower.result.1.now in
    let front : lower ≡ take n before = c.split_at_mut-lower.ensures.front in
    let back : rest ≡ drop n before = c.split_at_mut-lower.ensures.back in
    let more : 4 - c.loop-k.k ≡ n + 1 = omega arith in
    let next : n ≡ 4 - (c.loop-k.k + 1) = omega arith in
    let was : before ≡ exchanged_from ms (c.args.reading) (c.args.writing) fs p bytes (n + 1)
    = c.loop-k.invariant.0 ∙ ap (λ i. exchanged_from ms (c.args.reading) (c.args.writing) fs p bytes i) more in
    let one : x ≡ one_exchanged (take n before) (c.args.reading) (c.args.writing) fs p bytes (get_or (drop n before) 0 d)
    = c.access_manager-is_written.ensures.after
    ∙ (ap (λ t. one_exchanged t (c.args.reading) (c.args.writing) fs p bytes (get_or rest 0 d)) front
    ∙ ap (λ y. one_exchanged (take n before) (c.args.reading) (c.args.writing) fs p bytes (get_or y 0 d)) back) in
    let after : lower ++ set rest 0 x ≡ take n before ++ set (drop n before) 0 x
    = ap (λ t. t ++ set rest 0 x) front ∙ ap (λ t. take n before ++ set t 0 x) back in
    let found : c.loop-k.is_written ≡ (c.args.writing && written_from ms fs p bytes (n + 1))
    = c.loop-k.invariant.1 ∙ ap (λ i. c.args.writing && written_from ms fs p bytes i) more in
    let this : c.access_manager-is_written.result ≡ (c.args.writing && is_written_by (touched_by_writing fs p) (is_ungoverned (take n before)) (get_or (drop n before) 0 d))
    = c.access_manager-is_written.ensures.written
    ∙ (ap (λ t. c.args.writing && is_written_by (touched_by_writing fs p) (is_ungoverned t) (get_or rest 0 d)) front
    ∙ ap (λ y. c.args.writing && is_written_by (touched_by_writing fs p) (is_ungoverned (take n before)) (get_or y 0 d)) back) in (
      exchanged_from-step ms before (lower ++ set rest 0 x) (c.args.reading) (c.args.writing) fs p bytes n d x (omega arith) was one after
          ∙ ap (λ i. exchanged_from ms (c.args.reading) (c.args.writing) fs p bytes i) next,
      written_from-step ms before c.args.reading c.args.writing fs p bytes n d c.loop-k.is_written c.access_manager-is_written.result (omega arith) was found this
          ∙ ap (λ i. c.args.writing && written_from ms fs p bytes i) next,
    )

pub loop-k-init : goal.loop-k-init
loop-k-init c =
    let p : LogicalSpan = record { from = c.args.from; bits = 8 * length c.args.bytes.now } in (
      exchanged_from-end c.args.managers.now c.args.reading c.args.writing c.args.fmmus.now p c.args.bytes.now c.requires.four,
      written_from-end c.args.managers.now c.args.writing c.args.fmmus.now p c.args.bytes.now c.requires.four,
    )
