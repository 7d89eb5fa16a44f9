use Rattle.std.proofs.Common.{ℕ, ◌≡◌, ◌≤◌, ◌∙◌, List, ap, arith, drop, length, subst, sym}
use Rattle.std.specs.List.{refill}
use Rattle.std.proofs.lemmas.List.{take-append-le, take_all}
use Rattle.ec_frame.specs.Building.{bare_payload}
use Rattle.ec_frame.specs.Frame.{IsFrame}
use Rattle.ec_cycle.specs.Frames.{sent_datagrams}
use Rattle.ec_cycle.proofs.renewing.SentFrame.renew.Goals as goal

-- as many bytes as there were
refilled : (xs ws : List ℕ) → length ws ≡ length xs → refill (length xs) xs ws ≡ ws
refilled xs ws e =
    let few : length xs ≤ length ws = omega (arith, e) in
    let all : length ws ≤ length xs = omega (arith, e) in
    take-append-le (length xs) ws (drop (length ws) xs) few ∙ take_all (length xs) ws all

pub returns-clause-spelled : goal.returns-clause-spelled
returns-clause-spelled c =
    let items = c.self.inside.frame.items in
    let bytes : refill (length items) items c.renew.new.frame ≡ c.renew.new.frame = refilled items c.renew.new.frame (c.renew.auto.frame ∙ ap length c.as_mut_slice.ensures.value) in
    subst (λ (xs : List ℕ). IsFrame xs (bare_payload (sent_datagrams c.args.plan.now c.args.number c.args.part c.args.image.now))) (sym bytes) c.renew.ensures

pub returns-clause-made : goal.returns-clause-made
returns-clause-made c = record { number = c.args.number; image = c.args.image.now; spelled = returns-clause-spelled c }
