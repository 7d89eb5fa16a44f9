use Rattle.std.proofs.Common.{◌≡◌, ℕ, ◌/◌, ◌%◌, eqb, List, drop, ap, ◌∙◌}
use Rattle.std.proofs.lemmas.Result.{on_ok_weaker}
use Rattle.ec_frame.specs.Frame.{length_field}
use Rattle.ec_decode.proofs.Lines.{frame_added}
use Rattle.ec_decode.proofs.Payloads.{parts_of}
use Rattle.ec_decode.proofs.frame.write_counted.Goals as goal

pub write_datagrams-requires : goal.write_datagrams-requires
write_datagrams-requires c =
    let p = parts_of c.args.payload.now c.requires.0 c.requires.1 in
    (c.requires.0.datagrams, rw (c.split_at.ensures.back) p.begins, c.requires.2)

pub returns : goal.returns
returns c =
    on_ok_weaker c.write_datagrams.result
    (λ written. λ p frame count.
    let parts = parts_of c.args.payload.now p frame in
    let header = c.read_u16-header.ensures in
    let size : c.from.result ≡ length_field c.args.payload.now = c.from.ensures ∙ ap (λ (n : ℕ). n % 2048) header in
    let rest = c.split_at-2.ensures.back ∙ (ap (λ (n : ℕ). drop n c.split_at.result.1.now) size ∙ (ap (λ (xs : List ℕ). drop (length_field c.args.payload.now) xs) c.split_at.ensures.back ∙ parts.rest)) in
    frame_added p c.args.count _ c.split_at-2.result.1.now _ _ _ count (ap (λ (n : ℕ). eqb (n / 2048 % 2) 1) header ∙ parts.reserved) rest c.in_ok-write_heading.ensures (written p.datagrams (rw (c.split_at.ensures.back) parts.begins) count))
    c.write_datagrams.ensures
