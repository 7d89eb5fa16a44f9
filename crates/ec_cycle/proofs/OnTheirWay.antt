-- Cyclic frames on their way: they answer their part, and what is kept of them.
use Rattle.std.proofs.Common.{ℕ, ◌%◌, ◌≡◌, ◌≢◌, Bool, true, false, refl, sym, ◌∙◌, ap, List, [], ◌∷◌, map, if◌then◌else◌}
use Rattle.std.proofs.lemmas.Bool.{eq-eqb, ne_eqb}
use Rattle.ec_bits.proofs.AnyLaws.{if_true, if_false}
use Rattle.ec_frame.specs.declared.command.Command.TheVariants.{Brd, Lrd, Lwr, Lrw}
use Rattle.ec_frame.specs.Datagram.{Datagram}
use Rattle.ec_link.specs.Shares.{Gave, counters_of, sum_of, lwr_count, lrd_count, lrw_count}
use Rattle.ec_link.specs.declared.plan.PartPlan.{PartPlan}
use Rattle.ec_link.specs.Plan.{part_at}
use Rattle.ec_cycle.specs.Closing.{returned_part_by}
use Rattle.ec_cycle.specs.Frames.{name_datagram, status_datagram, process_datagram, process_datagrams, cyclic_datagrams, process_bytes, returned_first}
use Rattle.ec_cycle.specs.Interface.{IsReturned, ProcessDataFillTheirPart, FramesOnTheirWayAnswer, FramesAreReturned}
use Rattle.ec_cycle.specs.Master.{Shape, shape}
use Rattle.ec_cycle.proofs.AnswersFrame.{same_shapes, same_addresses, length-process_bytes, length-returned_first}

pub data_fill_their_part : ProcessDataFillTheirPart
data_fill_their_part p k image = record { sent = length-process_bytes p k image; returned = length-returned_first p k image }

pub answer_on_their_way : FramesOnTheirWayAnswer
answer_on_their_way p number k passed al sent returned gave word outs ins =
    let part = part_at p.parts k in
    let first = data_fill_their_part p k [] in
    record {
      shapes = ap (λ (n : ℕ). shapes_of n (map shape (process_datagrams part number sent returned gave))) word
          ∙ ap (shapes_of 2) (same_shapes part number sent returned (process_bytes p k []) (returned_first part (process_bytes p k [])) gave [] (outs ∙ sym first.sent) (ins ∙ sym first.returned));
      named = refl;
      addresses = same_addresses part number sent returned (process_bytes p k []) (returned_first part (process_bytes p k [])) gave [];
    }
  where
    shapes_of : ℕ → List Shape → List Shape
    shapes_of n ss = shape (name_datagram number k) ∷ record { command = Brd; index = number % 256; bytes = n } ∷ ss

-- ---- what is kept

kept_counted : (part : PartPlan) (number k passed : ℕ) (al sent returned : List ℕ) (gave : List Gave) → IsReturned part passed returned gave (returned_part_by part.split (cyclic_datagrams part number k passed al sent returned gave))
kept_counted part number k passed al sent returned gave = record {
  broadcast = refl;
  counters = λ ne. go part.split (there ne);
  no_bytes = λ e. none part.split (if_true _ _ _ (eq-eqb part.bytes 0 e));
  bytes = λ ne. back part.split (there ne);
}
  where
    front : List Datagram → List Datagram
    front ds = name_datagram number k ∷ status_datagram number passed al ∷ ds

    both : Bool → List Datagram
    both y = if y then process_datagram Lwr number part.address sent (sum_of lwr_count gave) ∷ process_datagram Lrd number part.address returned (sum_of lrd_count gave) ∷ [] else process_datagram Lrw number part.address returned (sum_of lrw_count gave) ∷ []

    there : part.bytes ≢ 0 → process_datagrams part number sent returned gave ≡ both part.split
    there ne = if_false _ _ _ (ne_eqb part.bytes 0 ne)

    go : (y : Bool) → process_datagrams part number sent returned gave ≡ both y → (returned_part_by y (front (process_datagrams part number sent returned gave))).counters ≡ counters_of y gave
    go true e = ap (λ ds. (returned_part_by true (front ds)).counters) e
    go false e = ap (λ ds. (returned_part_by false (front ds)).counters) e

    back : (y : Bool) → process_datagrams part number sent returned gave ≡ both y → (returned_part_by y (front (process_datagrams part number sent returned gave))).bytes ≡ returned
    back true e = ap (λ ds. (returned_part_by true (front ds)).bytes) e
    back false e = ap (λ ds. (returned_part_by false (front ds)).bytes) e

    none : (y : Bool) → process_datagrams part number sent returned gave ≡ [] → (returned_part_by y (front (process_datagrams part number sent returned gave))).counters ≡ counters_of y []
    none true e = ap (λ ds. (returned_part_by true (front ds)).counters) e
    none false e = ap (λ ds. (returned_part_by false (front ds)).counters) e

pub frames_are_returned : FramesAreReturned
frames_are_returned = kept_counted
