use Rattle.std.proofs.Common.{◌≡◌, ◌∙◌, ◌+◌, ◌*◌, ◌/◌, ap, sym, length, List, ℕ}
use Rattle.ec_frame.specs.Datagram.{Datagram}
use Rattle.ec_slave.specs.State.{Met, MetBytes, SlaveState, with_answer}
use Rattle.ec_slave.specs.Physical.{Window, physical_met}
use Rattle.ec_slave.specs.Mapped.{mapped_met}
use Rattle.ec_slave.specs.Carried.{carrying}
use Rattle.ec_slave.proofs.Commands.Encounter.{meets-is, meets_mapped-is}
use Rattle.ec_slave.proofs.slave.Slave.meet_by_command.Goals as goal

pub returns-in-Passing-clause-slave : goal.returns-in-Passing-clause-slave
returns-in-Passing-clause-slave c =
    ap (λ (m : Met). m.slave) (meets-is c.args.self.now (carrying c.args.command c.args.carried c.args.bytes.now) _ (sym c.in-Passing.is ∙ c.of.ensures))

pub returns-in-Passing-clause-datagram : goal.returns-in-Passing-clause-datagram
returns-in-Passing-clause-datagram c =
    ap (λ (m : Met). m.datagram) (meets-is c.args.self.now (carrying c.args.command c.args.carried c.args.bytes.now) _ (sym c.in-Passing.is ∙ c.of.ensures))

pub returns-in-Physical-clause-slave : goal.returns-in-Physical-clause-slave
returns-in-Physical-clause-slave c =
    c.access_bytes-added.ensures.slave
    ∙ ap (λ (m : Met). m.slave) (meets-is c.args.self.now (carrying c.args.command c.args.carried c.args.bytes.now) _ (sym c.in-Physical.is ∙ c.of.ensures))

pub returns-in-Physical-clause-datagram : goal.returns-in-Physical-clause-datagram
returns-in-Physical-clause-datagram c =
    let d : Datagram = carrying c.args.command c.args.carried c.args.bytes.now in
    let w : Window = record { from = c.args.carried.address / 65536; bytes = c.args.bytes.now } in
    let m : MetBytes = physical_met c.args.self.now c.in-Physical.role w in
    ap (λ (n : ℕ). with_answer d n c.access_bytes-added.new.bytes c.access_bytes-added.result) c.address_of.ensures
    ∙ (ap (λ (t : List ℕ). with_answer d (c.in-Physical.adp + 65536 * (c.args.carried.address / 65536)) t c.access_bytes-added.result) c.access_bytes-added.ensures.bytes
    ∙ (ap (with_answer d (c.in-Physical.adp + 65536 * (c.args.carried.address / 65536)) m.bytes) c.access_bytes-added.ensures.added
    ∙ ap (λ (x : Met). x.datagram) (meets-is c.args.self.now d _ (sym c.in-Physical.is ∙ c.of.ensures))))

pub returns-in-Logical-clause-slave : goal.returns-in-Logical-clause-slave
returns-in-Logical-clause-slave c =
    let s : SlaveState = c.args.self.now in
    let d : Datagram = carrying c.args.command c.args.carried c.args.bytes.now in
    let role = c.in-Logical.role in
    let from : c.from.result ≡ c.args.carried.address = c.from.ensures in
    c.access_bits-added.ensures.slave
    ∙ (ap (λ (n : ℕ). (mapped_met s role (record { from = 8 * n; bits = 8 * length c.args.bytes.now }) c.args.bytes.now).slave) from
    ∙ (ap (λ (m : Met). m.slave) (sym (meets_mapped-is role s d)) ∙ ap (λ (m : Met). m.slave) (meets-is s d _ (sym c.in-Logical.is ∙ c.of.ensures))))

pub returns-in-Logical-clause-datagram : goal.returns-in-Logical-clause-datagram
returns-in-Logical-clause-datagram c =
    let s : SlaveState = c.args.self.now in
    let d : Datagram = carrying c.args.command c.args.carried c.args.bytes.now in
    let role = c.in-Logical.role in
    let met : ℕ → MetBytes = λ n. mapped_met s role (record { from = 8 * n; bits = 8 * length c.args.bytes.now }) c.args.bytes.now in
    let from : c.from.result ≡ c.args.carried.address = c.from.ensures in
    ap (λ (t : List ℕ). with_answer d c.args.carried.address t c.access_bits-added.result) (c.access_bits-added.ensures.bytes ∙ ap (λ (n : ℕ). (met n).bytes) from)
    ∙ (ap (with_answer d c.args.carried.address (met c.args.carried.address).bytes) (c.access_bits-added.ensures.added ∙ ap (λ (n : ℕ). (met n).added) from)
    ∙ (ap (λ (m : Met). m.datagram) (sym (meets_mapped-is role s d)) ∙ ap (λ (m : Met). m.datagram) (meets-is s d _ (sym c.in-Logical.is ∙ c.of.ensures))))
