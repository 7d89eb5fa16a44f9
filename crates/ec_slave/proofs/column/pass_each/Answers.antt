use Rattle.std.proofs.Common.{rules, ◌≡◌, ◌∙◌, ap, sym, List, Bool}
use denote.Enum.Bare.{same_true}
use Rattle.ec_frame.specs.contracts.command.Command.{the_type}
use Rattle.ec_frame.specs.declared.command.Command.TheVariants.{Nop}
use Rattle.ec_frame.specs.declared.datagram.Header.{Header}
use Rattle.ec_frame.specs.Datagram.{Datagram, IsDatagram, spelling}
use Rattle.ec_frame.specs.Fields.{with_address, with_data}
use Rattle.ec_slave.specs.State.{SlaveState}
use Rattle.ec_slave.specs.Column.{datagram_past, slaves_met}
use Rattle.ec_slave.specs.Carried.{carrying}
use Rattle.ec_slave.proofs.Commands.Columns.{bare, bare-is, slaves-bare, past-bare, past-is, put-good, addressed-good, slaves-nop, past-nop}
use Rattle.ec_slave.proofs.column.pass_each.Goals as goal

pub returns-then-eq : goal.returns-then-eq
returns-then-eq c =
    let ss : List SlaveState = c.args.slaves.now in
    let is : c.read-header.result.command ≡ Nop = same_true the_type (search rules) _ _ (sym c.if-eq.ensures) in
    let own : (more : Bool) (d : Datagram) → IsDatagram d → c.args.part.now ≡ spelling more d → d.command ≡ Nop =
    λ more d good e. ap (λ (h : Header). h.command) (sym (c.read-header.ensures more d good e)) ∙ is in
    record {
      slaves = λ more d good e. sym (slaves-nop ss d (own more d good e));
      datagram = λ more d good e. e ∙ ap (spelling more) (sym (past-nop ss d (own more d good e)));
    }

pub write_address-requires : goal.write_address-requires
write_address-requires c =
    let r = c.requires in
    let ss : List SlaveState = c.args.slaves.now in
    let d : Datagram = r.1 in
    let is = bare-is c.read-header.result r.0 d c.read_counter.result (c.read-header.ensures r.0 d r.2 r.3) (c.read_counter.ensures r.0 d r.2 r.3) in
    (r.0, with_data d _, put-good ss d _ r.2 (ap (datagram_past ss) is ∙ past-bare ss d), c.carry_data-carried.ensures.data r.0 d r.2 r.3)

pub returns : goal.returns
returns c =
    let ss : List SlaveState = c.args.slaves.now in
    record {
      slaves = λ more d good e.
          let is = bare-is c.read-header.result more d c.read_counter.result (c.read-header.ensures more d good e) (c.read_counter.ensures more d good e) in
          c.carry_data-carried.ensures.slaves more d good e ∙ (ap (slaves_met ss) is ∙ slaves-bare ss d);
      datagram = λ more d good e.
          let is = bare-is c.read-header.result more d c.read_counter.result (c.read-header.ensures more d good e) (c.read_counter.ensures more d good e) in
          let x : Datagram = datagram_past ss (carrying c.read-header.result.command (record { address = c.read-header.result.address; counter = c.read_counter.result }) d.data_bytes) in
          let own : x ≡ bare (datagram_past ss d) = ap (datagram_past ss) is ∙ past-bare ss d in
          let kept = c.carry_data-carried.ensures.carried more d good e in
          let one = c.write_address.ensures.written more (with_data d x.data_bytes) (put-good ss d x good own) (c.carry_data-carried.ensures.data more d good e) in
          c.write_counter.ensures.written more (with_address (with_data d x.data_bytes) c.carry_data-carried.result.address) (addressed-good ss d x _ good own kept.0) one
          ∙ ap (spelling more) (past-is ss d x c.carry_data-carried.result.address c.carry_data-carried.result.counter own kept.0 kept.1);
    }
