use Rattle.std.proofs.Common.{◌≡◌, ◌∙◌, Option, ap, arith}
use Rattle.std.specs.Option.{option_copied}
use Rattle.ec_device.specs.declared.hardware.Hardware.{Hardware}
use Rattle.ec_device.specs.Types.{SlaveKind}
use Rattle.ec_slave.specs.State.{SlaveState}
use Rattle.ec_slave.specs.Serving.{slow_by}
use Rattle.ec_slave.proofs.slave.Slave.is_slow.Goals as goal

pub returns-clause-slow : goal.returns-clause-slow
returns-clause-slow c =
    let s : SlaveState = c.args.self.now in
    let o : Option Hardware = s.kind.hardware in
    let kind : c.kind.result.now ≡ s.kind = c.kind.ensures ∙ ap (λ (x : SlaveState). x.kind) c.self.view_is in
    let hardware : option_copied c.hardware-hardware.result ≡ o = c.hardware-hardware.ensures.value ∙ ap (λ (k : SlaveKind). k.hardware) kind in
    let waited : c.waited-waited.result ≡ s.al.waited = c.waited-waited.ensures ∙ ap (λ (x : SlaveState). x.al.waited) c.self.view_is in
    c.lets_wait.ensures.slow ∙ (ap (λ (x : Option Hardware). slow_by x c.waited-waited.result) hardware ∙ ap (slow_by o) waited)

pub returns-clause-few : goal.returns-clause-few
returns-clause-few c = λ t.
    let waited : c.waited-waited.result ≡ c.args.self.now.al.waited = c.waited-waited.ensures ∙ ap (λ (x : SlaveState). x.al.waited) c.self.view_is in
    let few = c.lets_wait.ensures.few t in
    omega (arith, waited, few)
