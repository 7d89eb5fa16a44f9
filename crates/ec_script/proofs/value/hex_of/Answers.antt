use Rattle.std.proofs.Common.{◌≡◌, ◌∙◌, ap, sym, ℕ, List}
use Rattle.std.specs.Option.{unwrap_or}
use Rattle.std.specs.List.{slice_get}
use Rattle.ec_script.proofs.Hex.{no_hex, parsed}
use Rattle.ec_script.proofs.value.hex_of.Goals as goal

pub returns-then-first-eq43 : goal.returns-then-first-eq43
returns-then-first-eq43 c =
    let got = c.copied.ensures ∙ (c.first.ensures.value ∙ ap (λ (xs : List ℕ). slice_get xs 0) c.as_bytes.ensures.value) in
    let first : c.unwrap_or-first.result ≡ unwrap_or (slice_get c.args.word.now 0) 43 = c.unwrap_or-first.ensures ∙ ap (λ o. unwrap_or o 43) got in
    no_hex c.args.word.now (sym first ∙ c.if-first-eq43.true)

pub returns : goal.returns
returns c =
    let got = c.copied.ensures ∙ (c.first.ensures.value ∙ ap (λ (xs : List ℕ). slice_get xs 0) c.as_bytes.ensures.value) in
    let first : c.unwrap_or-first.result ≡ unwrap_or (slice_get c.args.word.now 0) 43 = c.unwrap_or-first.ensures ∙ ap (λ o. unwrap_or o 43) got in
    c.ok.ensures.value ∙ parsed c.args.word.now c.from_str_radix.result (λ h. c.if-first-eq43.false (first ∙ h)) c.from_str_radix.ensures.value
