use Rattle.std.proofs.Common.{ℕ, List, ◌≡◌, ◌+◌, ◌-◌, ◌*◌, ◌/◌, ◌∙◌, ap, sym, arith, length}
use Rattle.ec_bits.specs.Bits.{copied}
use Rattle.ec_bits.proofs.Copies.{copied_none, copied_more}
use Rattle.ec_bits.proofs.by_words.shift_all.Goals as goal

pub loop-w-init : goal.loop-w-init
loop-w-init c = sym (copied_none c.args.dst.now 0 c.args.src.now c.args.shift)

pub loop-w-preserved : goal.loop-w-preserved
loop-w-preserved c =
    let src = c.args.src.now in
    let start = c.args.dst.now in
    let w = c.loop-w.w in
    let s = c.args.shift in
    let p : 8 * (8 * w) ≡ 0 + 64 * w = omega arith in
    let q : 8 * (8 * w) + s ≡ s + 64 * w = omega arith in
    let n : 64 * w + 64 ≡ 64 * (w + 1) = omega arith in
    c.shift_word.ensures
    ∙ (ap (λ (m : ℕ). copied c.loop-w.dst m src (8 * (8 * w) + s) 64) p
    ∙ (ap (λ (m : ℕ). copied c.loop-w.dst (0 + 64 * w) src m 64) q
    ∙ (ap (λ (ys : List ℕ). copied ys (0 + 64 * w) src (s + 64 * w) 64) c.loop-w.invariant
    ∙ (copied_more start 0 src s (64 * w) 64 ∙ ap (copied start 0 src s) n))))

pub returns : goal.returns
returns c =
    let src = c.args.src.now in
    let start = c.args.dst.now in
    let now = c.loop-w.dst in
    let s = c.args.shift in
    let len : length now ≡ length start = c.loop-w.auto.dst in
    let done = 8 * (length now / 8) in
    let rest = length now - done in
    let w : c.loop-w.w ≡ length now / 8 = omega (arith, len, c.loop-w-test.false, c.loop-w.auto.w-end) in
    let inv : now ≡ copied start 0 src s (8 * done) = c.loop-w.invariant ∙ ap (copied start 0 src s) (let x : 64 * c.loop-w.w ≡ 8 * done = omega (arith, w) in x) in
    let p : 8 * done ≡ 0 + 8 * done = omega arith in
    let q : 8 * done + s ≡ s + 8 * done = omega arith in
    let n : 8 * done + 8 * rest ≡ 8 * length start = omega (arith, len) in
    c.shift_bytes.ensures.bits
    ∙ (ap (λ (m : ℕ). copied now m src (8 * done + s) (8 * rest)) p
    ∙ (ap (λ (m : ℕ). copied now (0 + 8 * done) src m (8 * rest)) q
    ∙ (ap (λ (ys : List ℕ). copied ys (0 + 8 * done) src (s + 8 * done) (8 * rest)) inv
    ∙ (copied_more start 0 src s (8 * done) (8 * rest) ∙ ap (copied start 0 src s) n))))
