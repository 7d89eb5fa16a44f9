use Rattle.std.proofs.Common.{ℕ, ◌+◌, ◌*◌, ◌≡◌, ◌∙◌, ◌&&◌, Bool, true, false, List, set, nat_lt, if◌then◌else◌, get_or, get_or-set_other, refl, sym, ap, arith}
use Rattle.std.proofs.lemmas.List.{set-get_or}
use Rattle.std.specs.Int.{from_bool}
use Rattle.ec_fmmu.specs.Applied.{LogicalSpan}
use Rattle.ec_fmmu.specs.Areas.{Area, area}
use Rattle.ec_sync.specs.SyncManager.{SyncManager, may_read, may_write, no_manager}
use Rattle.ec_slave.specs.State.{manager_at}
use Rattle.ec_slave.specs.Roles.{is_reading, is_writing}
use Rattle.ec_slave.specs.Mapped.{at_bits, weight}
use Rattle.ec_slave.specs.Exchange.{inputs_into, outputs_from, with_published}
use Rattle.ec_slave.proofs.AppAccess.Bytes.{indexed}
use Rattle.ec_slave.proofs.logical.exchange.exchange_values.Goals as goal
use Rattle.ec_slave.proofs.logical.exchange.exchange_values.Goals.{then-writes, else-writes, then-reads, else-reads}

set_if : (ms : List SyncManager) (b : Bool) (x : SyncManager) → set ms 2 (if b then x else manager_at ms 2) ≡ (if b then set ms 2 x else ms)
set_if ms true x = refl
set_if ms false x = set-get_or ms 2 no_manager

abbrev takes_outputs : SyncManager → Area → Bool
takes_outputs m a = nat_lt 0 a.outs && may_write m

abbrev gives_inputs : SyncManager → Area → Bool
gives_inputs m a = nat_lt 0 a.ins && may_read m

pub returns-clause-managers : goal.returns-clause-managers
returns-clause-managers c =
    let ms : List SyncManager = c.args.managers.now in
    let a : Area = area c.args.mapped.now in
    let p : LogicalSpan = at_bits c.args.from c.args.bytes.now in
    let role = c.args.role in
    let m : SyncManager = manager_at ms 2 in
    let out : List ℕ = outputs_from a p c.args.bytes.now in
    let new : List SyncManager = set ms 2 (with_published m out) in
    let four = c.requires.four in
    elim c.if-writes.branch [
      | then-writes w ↦
          let writing : is_writing role ≡ true = sym c.writes.ensures ∙ w.if-writes.true in
          let own : get_or ms 2 w.index-managers-2.result ≡ m = sym w.index-managers-2.is ∙ indexed ms ms 2 w.index-managers-2.result (omega (arith, four)) w.index-managers-2.is refl in
          w.managers-is
          ∙ (ap (set ms 2) (w.take_outputs-is_written.ensures.after ∙ ap (λ (y : SyncManager). if takes_outputs y a then with_published y out else y) own)
          ∙ (set_if ms (takes_outputs m a) (with_published m out)
          ∙ sym (ap (λ (b : Bool). if b && takes_outputs m a then new else ms) writing)))
      | else-writes w ↦
          let writing : is_writing role ≡ false = sym c.writes.ensures ∙ w.if-writes.false in
          w.managers-is ∙ sym (ap (λ (b : Bool). if b && takes_outputs m a then new else ms) writing)
    ]

pub returns-clause-bytes : goal.returns-clause-bytes
returns-clause-bytes c =
    let ms : List SyncManager = c.args.managers.now in
    let now : List SyncManager = c.if-writes.managers in
    let a : Area = area c.args.mapped.now in
    let bytes : List ℕ = c.args.bytes.now in
    let p : LogicalSpan = at_bits c.args.from bytes in
    let role = c.args.role in
    let m : SyncManager = manager_at ms 3 in
    let four = c.requires.four in
    let long = c.if-writes.auto.managers in
    let third : manager_at now 3 ≡ m = elim c.if-writes.branch [
      | then-writes w ↦ ap (λ (xs : List SyncManager). manager_at xs 3) w.managers-is ∙ get_or-set_other ms 2 3 w.take_outputs-is_written.new.manager no_manager (λ z. omega (arith, z))
      | else-writes w ↦ ap (λ (xs : List SyncManager). manager_at xs 3) w.managers-is
    ] in
    elim c.if-reads.branch [
      | then-reads w ↦
          let reading : is_reading role ≡ true = sym c.reads.ensures ∙ w.if-reads.true in
          let own : get_or now 3 w.index-managers-3.result ≡ m = sym w.index-managers-3.is ∙ indexed now now 3 w.index-managers-3.result (omega (arith, four, long)) w.index-managers-3.is refl ∙ third in
          w.bytes-is
          ∙ (w.give_inputs-is_read.ensures.bytes
          ∙ (ap (λ (y : SyncManager). if gives_inputs y a then inputs_into a p y.buffer.published bytes else bytes) own
          ∙ sym (ap (λ (b : Bool). if b && gives_inputs m a then inputs_into a p m.buffer.published bytes else bytes) reading)))
      | else-reads w ↦
          let reading : is_reading role ≡ false = sym c.reads.ensures ∙ w.if-reads.false in
          w.bytes-is ∙ sym (ap (λ (b : Bool). if b && gives_inputs m a then inputs_into a p m.buffer.published bytes else bytes) reading)
    ]

pub returns-clause-added : goal.returns-clause-added
returns-clause-added c =
    let ms : List SyncManager = c.args.managers.now in
    let now : List SyncManager = c.if-writes.managers in
    let a : Area = area c.args.mapped.now in
    let role = c.args.role in
    let m : SyncManager = manager_at ms 2 in
    let n : SyncManager = manager_at ms 3 in
    let four = c.requires.four in
    let long = c.if-writes.auto.managers in
    let third : manager_at now 3 ≡ n = elim c.if-writes.branch [
      | then-writes w ↦ ap (λ (xs : List SyncManager). manager_at xs 3) w.managers-is ∙ get_or-set_other ms 2 3 w.take_outputs-is_written.new.manager no_manager (λ z. omega (arith, z))
      | else-writes w ↦ ap (λ (xs : List SyncManager). manager_at xs 3) w.managers-is
    ] in
    let written : c.if-writes.is_written ≡ (is_writing role && takes_outputs m a) = elim c.if-writes.branch [
      | then-writes w ↦
          let writing : is_writing role ≡ true = sym c.writes.ensures ∙ w.if-writes.true in
          let own : get_or ms 2 w.index-managers-2.result ≡ m = sym w.index-managers-2.is ∙ indexed ms ms 2 w.index-managers-2.result (omega (arith, four)) w.index-managers-2.is refl in
          w.is_written-is ∙ (w.take_outputs-is_written.ensures.taken ∙ (ap (λ (y : SyncManager). takes_outputs y a) own ∙ sym (ap (λ (b : Bool). b && takes_outputs m a) writing)))
      | else-writes w ↦
          let writing : is_writing role ≡ false = sym c.writes.ensures ∙ w.if-writes.false in
          w.is_written-is ∙ (w.if-writes.false ∙ sym (ap (λ (b : Bool). b && takes_outputs m a) writing))
    ] in
    let read : c.if-reads.is_read ≡ (is_reading role && gives_inputs n a) = elim c.if-reads.branch [
      | then-reads w ↦
          let reading : is_reading role ≡ true = sym c.reads.ensures ∙ w.if-reads.true in
          let own : get_or now 3 w.index-managers-3.result ≡ n = sym w.index-managers-3.is ∙ indexed now now 3 w.index-managers-3.result (omega (arith, four, long)) w.index-managers-3.is refl ∙ third in
          w.is_read-is ∙ (w.give_inputs-is_read.ensures.given ∙ (ap (λ (y : SyncManager). gives_inputs y a) own ∙ sym (ap (λ (b : Bool). b && gives_inputs n a) reading)))
      | else-reads w ↦
          let reading : is_reading role ≡ false = sym c.reads.ensures ∙ w.if-reads.false in
          w.is_read-is ∙ (w.if-reads.false ∙ sym (ap (λ (b : Bool). b && gives_inputs n a) reading))
    ] in
    c.count.ensures
    ∙ (ap (λ (b : Bool). from_bool b + weight role * from_bool c.if-writes.is_written) read
    ∙ ap (λ (b : Bool). from_bool (is_reading role && gives_inputs n a) + weight role * from_bool b) written)
