-- The datagram at the front of some bytes, as the tests of the reader show it.
use Rattle.std.proofs.Common.{◌≡◌, ℕ, ◌+◌, ◌%◌, ◌<◌, ◌≤◌, Bool, true, false, leb, eqb, List, [], ◌++◌, length, get_or, drop, refl, sym, ap, ◌∙◌, arith, inl, inr}
use Rattle.std.proofs.Math.Bool.{not, beq}
use Rattle.std.proofs.Common.{◌⊎◌}
use Rattle.std.proofs.lemmas.List.{length-drop, length-take-le, nil_from_length}
use Rattle.std.proofs.lemmas.Bool.Decides.{nat_tests}
use Rattle.byteorder.specs.Endian.{little_number}
use Rattle.ec_frame.specs.declared.error.FrameError.TheVariants.{BadMore, BadCommand}
use Rattle.ec_frame.specs.Datagram.{spelling, data_length}
use Rattle.ec_frame.specs.Refusals.{FaultAt}
use Rattle.ec_frame.specs.Reading.{HasShape}
use Rattle.ec_frame.proofs.Numbers.{IsBytes}
use Rattle.ec_frame.specs.Decoded.{after_data, decoded}
use Rattle.ec_frame.proofs.Decoding.{more_at, decodes, good_decoded}

same_test : (a b : Bool) → not (beq a b) ≡ false → a ≡ b
same_test true true e = refl
same_test true false e = absurd cc
same_test false true e = absurd cc
same_test false false e = refl

other_test : (a b : Bool) → not (beq a b) ≡ true → b ≡ not a
other_test true true e = absurd cc
other_test true false e = refl
other_test false true e = refl
other_test false false e = absurd cc

twice : (b : Bool) → not (not b) ≡ b
twice true = refl
twice false = refl

not_true : (b : Bool) → not b ≡ true → b ≡ false
not_true true e = absurd cc
not_true false e = refl

eqb_is : (m n : ℕ) → eqb m n ≡ true → m ≡ n
eqb_is m n e = grind (arith, nat_tests)

eqb_not : (m n : ℕ) → eqb m n ≡ false → n ≤ m → n < m
eqb_not m n e le = grind (arith, nat_tests)

more_ends : (more same : Bool) (after : List ℕ) → same ≡ more → (same ≡ true → length after ≡ 0) → (same ≡ false → 0 < length after) → ((more ≡ true) × (after ≡ [])) ⊎ ((more ≡ false) × (0 < length after))
more_ends true same after e empty some = inl (refl, nil_from_length after (empty e))
more_ends false same after e empty some = inr (refl, some e)

module _ (bytes : List ℕ) (w size : ℕ) (more : Bool) (fits : IsBytes bytes) (is : w ≡ little_number 2 (drop 6 bytes)) (length_is : size ≡ w % 2048) (more_is : more ≡ leb 32768 w) (some : 12 ≤ length bytes) (whole : 12 + size ≤ length bytes) where
  n-is : size ≡ data_length bytes
  n-is = length_is ∙ ap (λ (x : ℕ). x % 2048) is

  says_more : more ≡ more_at bytes
  says_more = more_is ∙ ap (λ (x : ℕ). leb 32768 x) is

  after_length : length (drop 2 (after_data bytes)) + (12 + size) ≡ length bytes
  after_length = let e = n-is in omega (arith, length-drop 2 (after_data bytes), length-drop (data_length bytes) (drop 10 bytes), length-drop 10 bytes)

  back : get_or bytes 0 0 ≤ 14 → bytes ≡ spelling (more_at bytes) (decoded bytes) ++ drop 2 (after_data bytes)
  back known = let e = n-is in sym (decodes bytes fits some (omega arith) known)

  len : 12 + size ≡ 12 + length (decoded bytes).data_bytes
  len = let e = n-is in let long = length-take-le (data_length bytes) (drop 10 bytes) (omega (arith, length-drop 10 bytes)) in omega arith

  pub shape_found : get_or bytes 0 0 ≤ 14 → not (beq (not more) (eqb (length bytes) (12 + size))) ≡ false → HasShape bytes (record { len = 12 + size; is_last = not more })
  shape_found known test =
      let same : not more ≡ eqb (length bytes) (12 + size) = same_test _ _ test in
      let again : not (not more) ≡ more_at bytes = twice more ∙ says_more in
      let e = after_length in
      record {
        datagram = decoded bytes;
        after = drop 2 (after_data bytes);
        good = good_decoded bytes fits;
        parts = rw again (back known);
        len = len;
        ends = λ last. let whole : length bytes ≡ 12 + size = eqb_is _ _ (sym same ∙ last) in nil_from_length (drop 2 (after_data bytes)) (omega arith);
        goes_on = λ last. let whole : 12 + size < length bytes = eqb_not _ _ (sym same ∙ last) whole in omega arith;
      }

  pub bad_command : 14 < get_or bytes 0 0 → FaultAt bytes BadCommand
  bad_command big = let e = n-is in (record { overhead = some; whole = omega arith }, big)

  pub bad_more : get_or bytes 0 0 ≤ 14 → not (beq (not more) (eqb (length bytes) (12 + size))) ≡ true → FaultAt bytes BadMore
  bad_more known test =
      let other : eqb (length bytes) (12 + size) ≡ not (not more) = other_test _ _ test in
      let again : not (not more) ≡ more_at bytes = twice more ∙ says_more in
      let e = after_length in
      record {
        more = more_at bytes;
        datagram = decoded bytes;
        after = drop 2 (after_data bytes);
        good = good_decoded bytes fits;
        parts = back known;
        wrong = more_ends (more_at bytes) (eqb (length bytes) (12 + size)) (drop 2 (after_data bytes)) (other ∙ again) (λ t. let is_whole : length bytes ≡ 12 + size = eqb_is _ _ t in omega arith) (λ t. let is_more : 12 + size < length bytes = eqb_not _ _ t whole in omega arith);
      }
