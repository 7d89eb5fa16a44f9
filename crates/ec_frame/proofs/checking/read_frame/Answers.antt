use Rattle.std.proofs.Common.{◌≡◌, ℕ, ◌+◌, ◌-◌, ◌/◌, take, drop, sym, ap, subst, ◌∙◌, arith, rules}
use Rattle.ec_frame.specs.Reading.{GivesCount}
use Rattle.ec_frame.specs.Frame.{length_field}
use Rattle.ec_frame.proofs.FrameOrFault.{verdict_of}
use Rattle.ec_frame.proofs.checking.read_frame.Goals as goal

pub returns : goal.returns
returns c =
    let payload = c.args.payload.now in
    let size : (2 + c.from-end.result) - 2 ≡ length_field payload = omega arith in
    verdict_of payload c.count_datagrams.result (λ i. omega (arith, c.type_inv.payload i))
    (record { header = record { whole = omega arith; type = ap (λ (x : ℕ). x / 4096) (sym c.read_u16-header.ensures) ∙ sym c.type_in.ensures ∙ c.if-type_in-ne1.false; most = omega arith }; whole = omega arith })
    (omega arith)
    (subst (λ (n : ℕ). GivesCount (take n (drop 2 payload)) c.count_datagrams.result) size c.count_datagrams.ensures)

pub returns-then-length-gt-MAX_AREA : goal.returns-then-length-gt-MAX_AREA
returns-then-length-gt-MAX_AREA c = search rules
