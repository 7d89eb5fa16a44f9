-- The process datagrams of a split part.
use Rattle.std.proofs.Common.{ℕ, ◌+◌, ◌*◌, ◌%◌, ◌≤◌, ◌≡◌, ◌==◌, Bool, true, sym, ◌∙◌, ap, subst, arith, List, [], ◌∷◌, ◌++◌, length, if◌then◌else◌, append_assoc, Some, Option}
use Rattle.std.proofs.lemmas.Bool.{ne_eqb}
use Rattle.ec_bits.specs.Bits.{zeros}
use Rattle.ec_bits.proofs.AnyLaws.{if_true, if_false}
use Rattle.ec_frame.specs.declared.command.Command.TheVariants.{Lrd, Lwr}
use Rattle.ec_frame.specs.Building.{new_datagram}
use Rattle.ec_frame.specs.Datagram.{Datagram, joined}
use Rattle.ec_frame.proofs.BuilderCalls.{joined_push}
use Rattle.ec_link.specs.declared.plan.PartPlan.{PartPlan}
use Rattle.ec_link.specs.declared.plan.ExpectedCounters.{ExpectedCounters}
use Rattle.ec_cycle.specs.Closing.{ReturnedPart}
use Rattle.ec_cycle.specs.Frames.{process_datagrams, returned_first}

pub split_room : (old new : List Datagram) (d : Datagram) (part : PartPlan) (content : List ℕ) → new ≡ old ++ d ∷ [] → length d.data_bytes ≡ part.bytes → length content ≡ part.bytes → part.split ≡ true
    → (if part.split then 2 * part.bytes + 12 else part.bytes) ≤ 1422 → length (joined old) ≤ 36 → length (joined new) + 12 + length content ≤ 1470
split_room old new d part content e a b s small room =
    let few : 2 * part.bytes + 12 ≤ 1422 = subst (λ (c : Bool). (if c then 2 * part.bytes + 12 else part.bytes) ≤ 1422) s small in
    let size : length (joined new) ≡ length (joined old) + (12 + length d.data_bytes) = ap (λ ds. length (joined ds)) e ∙ joined_push old d in
    omega arith

pub split_small : (part : PartPlan) → part.split ≡ true → (if part.split then 2 * part.bytes + 12 else part.bytes) ≤ 1422 → part.bytes ≤ 705
split_small part s small = let few : 2 * part.bytes + 12 ≤ 1422 = subst (λ (c : Bool). (if c then 2 * part.bytes + 12 else part.bytes) ≤ 1422) s small in omega arith

pub split_appended : (old mid new : List Datagram) (part : PartPlan) (number : ℕ) (sent content : List ℕ) → (part.bytes ≡ 0 → ⊥) → part.split ≡ true → content ≡ zeros part.bytes
    → mid ≡ old ++ new_datagram Lwr (number % 256) part.address sent ∷ [] → new ≡ mid ++ new_datagram Lrd (number % 256) part.address content ∷ []
    → new ≡ old ++ process_datagrams part number sent (returned_first part sent) []
split_appended old mid new part number sent content some s blank a b =
    b ∙ (ap (λ (ds : List Datagram). ds ++ new_datagram Lrd (number % 256) part.address content ∷ []) a
    ∙ (append_assoc old (new_datagram Lwr (number % 256) part.address sent ∷ []) (new_datagram Lrd (number % 256) part.address content ∷ [])
    ∙ (ap (λ (xs : List ℕ). old ++ (new_datagram Lwr (number % 256) part.address sent ∷ new_datagram Lrd (number % 256) part.address xs ∷ [])) (blank ∙ sym (if_true part.split (zeros part.bytes) sent s))
    ∙ ap (λ (ds : List Datagram). old ++ ds) (sym (if_false (part.bytes == 0) _ _ (ne_eqb part.bytes 0 some) ∙ if_true part.split _ _ s)))))

abbrev pub kept_value : ℕ → ℕ → ExpectedCounters → List ℕ → Option ReturnedPart
kept_value a w p xs = Some (record { broadcast = a; al_word = w; counters = p; bytes = xs })

pub made_kept : (a a2 w w2 : ℕ) (p p2 : ExpectedCounters) (xs ys : List ℕ) → a ≡ a2 → w ≡ w2 → p ≡ p2 → xs ≡ ys → kept_value a w p xs ≡ kept_value a2 w2 p2 ys
made_kept a a2 w w2 p p2 xs ys e f g h =
    ap (λ (z : ℕ). kept_value z w p xs) e ∙ (ap (λ (z : ℕ). kept_value a2 z p xs) f ∙ (ap (λ (z : ExpectedCounters). kept_value a2 w2 z xs) g ∙ ap (kept_value a2 w2 p2) h))
