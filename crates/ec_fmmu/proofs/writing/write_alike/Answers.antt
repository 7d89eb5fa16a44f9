use Rattle.std.proofs.Common.{ℕ, ◌≡◌, ◌<◌, ◌+◌, ◌*◌, ◌/◌, ◌∙◌, true, false, length, sym, arith, rules}
use Rattle.ec_fmmu.proofs.AloneWriting.{written_some, written_none}
use Rattle.ec_fmmu.proofs.writing.write_alike.Goals as goal

pub returns-clause-any : goal.returns-clause-any
returns-clause-any g c =
    let allowed = g.A.WritableBytes.allowed c.args.rights.now in
    let first : allowed (c.args.physical / 8) ≡ true = sym c.is_allowed.ensures ∙ c.if-not-is_allowed.false in
    written_some (8 * length c.args.window.now) allowed c.args.physical c.args.bytes.now c.args.at c.args.to c.args.count c.requires.some c.requires.there first

pub returns-then-not-is_allowed-clause-any : goal.returns-then-not-is_allowed-clause-any
returns-then-not-is_allowed-clause-any g c =
    let allowed = g.A.WritableBytes.allowed c.args.rights.now in
    let none : (i : ℕ) → i < c.args.count → allowed ((c.args.physical + i) / 8) ≡ false
    = λ i l. c.requires.alike ((c.args.physical + i) / 8) (omega arith) (omega arith) ∙ (sym c.is_allowed.ensures ∙ c.if-not-is_allowed.true) in
    (written_none c.args.window.now allowed c.args.physical c.args.bytes.now c.args.at c.args.to c.args.count none).1

pub returns-then-not-is_allowed-clause-bits : goal.returns-then-not-is_allowed-clause-bits
returns-then-not-is_allowed-clause-bits g c =
    let allowed = g.A.WritableBytes.allowed c.args.rights.now in
    let none : (i : ℕ) → i < c.args.count → allowed ((c.args.physical + i) / 8) ≡ false
    = λ i l. c.requires.alike ((c.args.physical + i) / 8) (omega arith) (omega arith) ∙ (sym c.is_allowed.ensures ∙ c.if-not-is_allowed.true) in
    (written_none c.args.window.now allowed c.args.physical c.args.bytes.now c.args.at c.args.to c.args.count none).0

pub returns-clause-bits : goal.returns-clause-bits
returns-clause-bits g c = search rules
