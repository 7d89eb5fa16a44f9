-- The bits of a frame's process data, one by one.
use Rattle.std.proofs.Common.{ℕ, ◌+◌, ◌-◌, ◌*◌, ◌<◌, ◌≡◌, false, Option, Some, None, refl, ◌∙◌, ap, inl, inr, arith, List, length, option_map, unwrap_or}
use Rattle.std.specs.Option.{option_map_or}
use Rattle.std.proofs.lemmas.Bool.{cases_Bool}
use Rattle.std.proofs.lemmas.List.{length-replicate}
use Rattle.ec_bits.specs.Bits.{bit, zeros, within}
use Rattle.ec_bits.proofs.BitLaws.{bit-overlay, bit-zeros}
use Rattle.ec_bits.proofs.AnyLaws.{within_parts}
use Rattle.ec_link.specs.Plan.{PlanState, part_at}
use Rattle.ec_link.specs.Meaning.{slave_at, area_at, out_source}
use Rattle.ec_cycle.specs.Laws.{OutputsBySource}
use Rattle.ec_cycle.specs.Frames.{image_bit, process_bytes}
use Rattle.ec_cycle.proofs.OutputBits.{image_bit_is, nobody_bit}

told : (image : List ℕ) (o : Option ℕ) → unwrap_or (option_map (bit image) o) false ≡ option_map_or (bit image) o false
told image None = refl
told image (Some b) = refl

-- a bit of the data is that of the image which stands there
bit_is : (p : PlanState) (k i : ℕ) (image : List ℕ) → i < 8 * (part_at p.parts k).bytes
    → bit (process_bytes p k image) i ≡ option_map_or (bit image) (image_bit p.out_links k 0 p.slaves (8 * (part_at p.parts k).address + i)) false
bit_is p k i image lt =
    let size : length (zeros (part_at p.parts k).bytes) ≡ (part_at p.parts k).bytes = length-replicate (part_at p.parts k).bytes 0 in
    bit-overlay (zeros (part_at p.parts k).bytes) (λ j. option_map (bit image) (image_bit p.out_links k 0 p.slaves (8 * (part_at p.parts k).address + j))) i (omega (arith, lt, size))
    ∙ (ap (unwrap_or (option_map (bit image) (image_bit p.out_links k 0 p.slaves (8 * (part_at p.parts k).address + i)))) (bit-zeros (part_at p.parts k).bytes i)
    ∙ told image (image_bit p.out_links k 0 p.slaves (8 * (part_at p.parts k).address + i)))

pub outputs_by_source : OutputsBySource
outputs_by_source p k s o i image sound there part less lt here =
    let z : 0 + s ≡ s = omega arith in
    bit_is p k i image lt
    ∙ ap (λ q. option_map_or (bit image) q false) (image_bit_is p.out_links k 0 p.slaves (8 * (part_at p.parts k).address + i) s o there part less here
    (λ u l. elim (cases_Bool (within (area_at p u).out_at (slave_at p u).share.outs (8 * (part_at p.parts k).address + i))) [
      | inr n ↦ n
      | inl w ↦ let w2 = within_parts (area_at p u).out_at (slave_at p u).share.outs (8 * (part_at p.parts k).address + i) w in
          let v = w2.0 in let q = w2.1 in
          absurd (sound.laid.out_out u s (8 * (part_at p.parts k).address + i - (area_at p u).out_at) o (omega arith) (omega arith) less (omega arith))
    ])
    ∙ ap (λ n. out_source p.out_links n o) z)

pub other_bits_are_zero : (p : PlanState) (k i : ℕ) (image : List ℕ) → i < 8 * (part_at p.parts k).bytes
    → ((s : ℕ) → s < length p.slaves → (slave_at p s).share.part ≡ k → within (area_at p s).out_at (slave_at p s).share.outs (8 * (part_at p.parts k).address + i) ≡ false)
    → bit (process_bytes p k image) i ≡ false
other_bits_are_zero p k i image lt none =
    bit_is p k i image lt
    ∙ ap (λ q. option_map_or (bit image) q false) (nobody_bit p.out_links k 0 p.slaves (8 * (part_at p.parts k).address + i) none)
