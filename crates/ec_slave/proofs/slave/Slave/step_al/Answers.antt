use Rattle.std.proofs.Common.{ℕ, ◌≡◌, ◌∙◌, true, false, Option, None, Some, refl, sym, ap}
use Rattle.ec_bits.proofs.AnyLaws.{if_false, if_true}
use Rattle.ec_device.specs.declared.hardware.Hardware.{Hardware}
use Rattle.ec_device.specs.Hardware.{has_firmware}
use Rattle.ec_device.specs.Types.{SlaveKind}
use Rattle.ec_al.specs.Al.{Al, copied, decided, stepped}
use Rattle.ec_al.specs.declared.transition.Checks.{Checks}
use Rattle.ec_slave.specs.State.{SlaveState}
use Rattle.ec_slave.specs.Checking.{checks_of, control_word}
use Rattle.ec_slave.specs.Serving.{al_decided}
use Rattle.ec_slave.proofs.slave.Slave.step_al.Goals as goal

by-checks : (o : Option Hardware) (s : SlaveState) → has_firmware o ≡ true → decided s.al (control_word s) (checks_of s) ≡ al_decided o s
by-checks None s e = refl
by-checks (Some h) s e = sym (if_true _ _ _ e)

by-copy : (o : Option Hardware) (s : SlaveState) → has_firmware o ≡ false → copied s.al (control_word s) ≡ al_decided o s
by-copy None s e = absurd (let z : true ≡ false = e in cc)
by-copy (Some h) s e = sym (if_false _ _ _ e)

pub returns-then-has_firmware : goal.returns-then-has_firmware
returns-then-has_firmware c =
    let s : SlaveState = c.args.self.now in
    let own : c.kind.result.now ≡ s.kind = c.kind.ensures ∙ ap (λ (x : SlaveState). x.kind) c.self.view_is in
    let firm : has_firmware s.kind.hardware ≡ true = ap (λ (k : SlaveKind). has_firmware k.hardware) (sym own) ∙ (sym c.has_firmware.ensures ∙ c.if-has_firmware.true) in
    let al = ap (λ (x : SlaveState). x.al) c.self.view_is in
    ap (λ (x : SlaveState). record x { al = c.step.new.self }) c.self.view_is
    ∙ ap (λ (a : Al). record s { al = a }) (c.step.ensures
    ∙ (ap (λ (x : Al). stepped x c.args.control c.checks-checks.result) al
    ∙ (if_true _ _ _ c.requires.waits
    ∙ (ap (λ (n : ℕ). decided s.al n c.checks-checks.result) c.requires.control
    ∙ (ap (λ (k : Checks). decided s.al (control_word s) k) c.checks-checks.ensures
    ∙ by-checks s.kind.hardware s firm)))))

pub returns-else-has_firmware : goal.returns-else-has_firmware
returns-else-has_firmware c =
    let s : SlaveState = c.args.self.now in
    let own : c.kind.result.now ≡ s.kind = c.kind.ensures ∙ ap (λ (x : SlaveState). x.kind) c.self.view_is in
    let none : has_firmware s.kind.hardware ≡ false = ap (λ (k : SlaveKind). has_firmware k.hardware) (sym own) ∙ (sym c.has_firmware.ensures ∙ c.if-has_firmware.false) in
    let al = ap (λ (x : SlaveState). x.al) c.self.view_is in
    ap (λ (x : SlaveState). record x { al = c.copy.new.self }) c.self.view_is
    ∙ ap (λ (a : Al). record s { al = a }) (c.copy.ensures
    ∙ (ap (λ (x : Al). copied x c.args.control) al
    ∙ (ap (copied s.al) c.requires.control
    ∙ by-copy s.kind.hardware s none)))
