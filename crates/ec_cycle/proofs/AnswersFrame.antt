-- When a payload answers a frame of the cycle.
use Rattle.std.proofs.Common.{ℕ, ◌^◌, ◌<◌, ◌≡◌, ◌==◌, Bool, true, false, refl, sym, ◌∙◌, ap, List, [], ◌∷◌, ◌++◌, length, map, take, drop, if◌then◌else◌}
use Rattle.std.specs.Int.{to_le_bytes, from_le_bytes, w16, w64}
use Rattle.std.proofs.lemmas.Nat.{from_le_bytes-to_le_bytes_2, from_le_bytes-to_le_bytes_8}
use Rattle.std.proofs.lemmas.List.{length-replicate}
use Rattle.ec_bits.specs.Bits.{zeros}
use Rattle.ec_bits.proofs.BitLaws.{length-overlay}
use Rattle.ec_frame.specs.declared.command.Command.TheVariants.{Lrd, Lwr, Lrw}
use Rattle.ec_frame.specs.Datagram.{Datagram}
use Rattle.ec_link.specs.Shares.{Gave, sum_of, lwr_count, lrd_count, lrw_count}
use Rattle.ec_link.specs.Plan.{PlanState, part_at}
use Rattle.ec_link.specs.declared.plan.PartPlan.{PartPlan}
use Rattle.ec_cycle.specs.Frames.{name_datagram, status_datagram, process_datagram, process_datagrams, process_bytes, returned_first, sent_datagrams}
use Rattle.ec_cycle.specs.Interface.{NamesAreDistinct}
use Rattle.ec_cycle.specs.Master.{shape, name_of, process_addresses, Answers}

-- ---- the names of frames

name_start : (a j : ℕ) → a < 2 ^ 64 → from_le_bytes w64 (take 8 (to_le_bytes w64 a ++ to_le_bytes w16 j)) ≡ a
name_start a j l = from_le_bytes-to_le_bytes_8 a l

name_end : (a j : ℕ) → j < 2 ^ 16 → from_le_bytes w16 (drop 8 (to_le_bytes w64 a ++ to_le_bytes w16 j)) ≡ j
name_end a j l = from_le_bytes-to_le_bytes_2 j l

pub names_tell : NamesAreDistinct
names_tell a b j k la lb lj lk e = (
  sym (name_start a j la) ∙ (ap (λ xs. from_le_bytes w64 (take 8 xs)) e ∙ name_start b k lb),
  sym (name_end a j lj) ∙ (ap (λ xs. from_le_bytes w16 (drop 8 xs)) e ∙ name_end b k lk),
)

-- ---- shapes and addresses

pub same_shapes : (part : PartPlan) (number : ℕ) (sent returned sent2 returned2 : List ℕ) (gave gave2 : List Gave) → length sent ≡ length sent2 → length returned ≡ length returned2
    → map shape (process_datagrams part number sent returned gave) ≡ map shape (process_datagrams part number sent2 returned2 gave2)
same_shapes part number sent returned sent2 returned2 gave gave2 e f = go (part.bytes == 0) part.split
  where
    go : (b y : Bool) → map shape (if b then [] else (if y then process_datagram Lwr number part.address sent (sum_of lwr_count gave) ∷ process_datagram Lrd number part.address returned (sum_of lrd_count gave) ∷ [] else process_datagram Lrw number part.address returned (sum_of lrw_count gave) ∷ []))
        ≡ map shape (if b then [] else (if y then process_datagram Lwr number part.address sent2 (sum_of lwr_count gave2) ∷ process_datagram Lrd number part.address returned2 (sum_of lrd_count gave2) ∷ [] else process_datagram Lrw number part.address returned2 (sum_of lrw_count gave2) ∷ []))
    go true y = refl
    go false true = rw (e, f) refl
    go false false = rw f refl

pub same_addresses : (part : PartPlan) (number : ℕ) (sent returned sent2 returned2 : List ℕ) (gave gave2 : List Gave)
    → map (λ (d : Datagram). d.address) (process_datagrams part number sent returned gave) ≡ map (λ (d : Datagram). d.address) (process_datagrams part number sent2 returned2 gave2)
same_addresses part number sent returned sent2 returned2 gave gave2 = go (part.bytes == 0) part.split
  where
    go : (b y : Bool) → map (λ (d : Datagram). d.address) (if b then [] else (if y then process_datagram Lwr number part.address sent (sum_of lwr_count gave) ∷ process_datagram Lrd number part.address returned (sum_of lrd_count gave) ∷ [] else process_datagram Lrw number part.address returned (sum_of lrw_count gave) ∷ []))
        ≡ map (λ (d : Datagram). d.address) (if b then [] else (if y then process_datagram Lwr number part.address sent2 (sum_of lwr_count gave2) ∷ process_datagram Lrd number part.address returned2 (sum_of lrd_count gave2) ∷ [] else process_datagram Lrw number part.address returned2 (sum_of lrw_count gave2) ∷ []))
    go true y = refl
    go false true = refl
    go false false = refl

pub length-process_bytes : (plan : PlanState) (k : ℕ) (image : List ℕ) → length (process_bytes plan k image) ≡ (part_at plan.parts k).bytes
length-process_bytes plan k image = length-overlay (zeros (part_at plan.parts k).bytes) _ ∙ length-replicate (part_at plan.parts k).bytes 0

pub length-returned_first : (plan : PlanState) (k : ℕ) (image : List ℕ) → length (returned_first (part_at plan.parts k) (process_bytes plan k image)) ≡ (part_at plan.parts k).bytes
length-returned_first plan k image = go (part_at plan.parts k).split
  where
    go : (b : Bool) → length (if b then zeros (part_at plan.parts k).bytes else process_bytes plan k image) ≡ (part_at plan.parts k).bytes
    go true = length-replicate (part_at plan.parts k).bytes 0
    go false = length-process_bytes plan k image

-- ---- against the frame that was sent, of any image

pub sent_shapes : (p : PlanState) (number k : ℕ) (image other : List ℕ) → map shape (sent_datagrams p number k image) ≡ map shape (sent_datagrams p number k other)
sent_shapes p number k image other =
    ap (λ ss. shape (name_datagram number k) ∷ shape (status_datagram number 0 (zeros 2)) ∷ ss)
    (same_shapes (part_at p.parts k) number (process_bytes p k image) (returned_first (part_at p.parts k) (process_bytes p k image)) (process_bytes p k other) (returned_first (part_at p.parts k) (process_bytes p k other)) [] []
    (length-process_bytes p k image ∙ sym (length-process_bytes p k other)) (length-returned_first p k image ∙ sym (length-returned_first p k other)))

pub sent_addresses : (p : PlanState) (number k : ℕ) (image other : List ℕ) → process_addresses (sent_datagrams p number k image) ≡ process_addresses (sent_datagrams p number k other)
sent_addresses p number k image other =
    same_addresses (part_at p.parts k) number (process_bytes p k image) (returned_first (part_at p.parts k) (process_bytes p k image)) (process_bytes p k other) (returned_first (part_at p.parts k) (process_bytes p k other)) [] []

-- to answer is to have the shapes, the name and the process addresses of the frame that was sent
pub answers_by_sent : (p : PlanState) (number k : ℕ) (image : List ℕ) (ds : List Datagram)
    → map shape ds ≡ map shape (sent_datagrams p number k image) → name_of ds ≡ name_of (sent_datagrams p number k image) → process_addresses ds ≡ process_addresses (sent_datagrams p number k image)
    → Answers p number k ds
answers_by_sent p number k image ds a b c = record {
  shapes = a ∙ sent_shapes p number k image [];
  named = b;
  addresses = c ∙ sent_addresses p number k image [];
}

pub sent_by_answers : (p : PlanState) (number k : ℕ) (image : List ℕ) (ds : List Datagram) → Answers p number k ds
    → (map shape ds ≡ map shape (sent_datagrams p number k image)) × (name_of ds ≡ name_of (sent_datagrams p number k image)) × (process_addresses ds ≡ process_addresses (sent_datagrams p number k image))
sent_by_answers p number k image ds h = (h.shapes ∙ sent_shapes p number k [] image, h.named, h.addresses ∙ sent_addresses p number k [] image)
