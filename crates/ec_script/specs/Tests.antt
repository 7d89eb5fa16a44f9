-- Tests of the value of a variable (this project's profile). Values of a signed variable are compared as numbers with a sign.
use Rattle.std.specs.Prelude.{ℕ, ℤ, ◌==◌, ◌&&◌, not, int_lt, int_le, bit_and, Bool, true, false, if◌then◌else◌, Option, Some, None, option_map}
use Rattle.ec_script.specs.declared.value_test.Comparison.{Comparison}
use Rattle.ec_script.specs.declared.value_test.Comparison.TheVariants.{Equal, Unequal, Less, LessEqual, Greater, GreaterEqual}
use Rattle.ec_script.specs.declared.value_test.ValueTest.{ValueTest}
use Rattle.ec_script.specs.declared.value_test.ValueTest.TheVariants.{Compared, Masked, Between}

-- ---- whether a value meets a test, by the number that a value is

abbrev pub compares : (ℕ → ℤ) → Comparison → ℕ → ℕ → Bool
compares number Equal x n = x == n
compares number Unequal x n = not (x == n)
compares number Less x n = int_lt (number x) (number n)
compares number LessEqual x n = int_le (number x) (number n)
compares number Greater x n = int_lt (number n) (number x)
compares number GreaterEqual x n = int_le (number n) (number x)

abbrev pub holds : (ℕ → ℤ) → ValueTest → ℕ → Bool
holds number (Compared c n) x = compares number c x n
holds number (Masked mask true n) x = bit_and x mask == n
holds number (Masked mask false n) x = not (bit_and x mask == n)
holds number (Between low high) x = int_le (number low) (number x) && int_le (number x) (number high)

-- ---- the tests of numbers, each of which a variable's bits hold or not

abbrev pub compared_test : Comparison → Option ℕ → Option ValueTest
compared_test c n = option_map (λ n. Compared c n) n

-- a masked value has no bit outside the mask, so a number with one would be no test
abbrev pub masked_test : Bool → Option ℕ → Option ℕ → Option ValueTest
masked_test is None n = None
masked_test is (Some mask) None = None
masked_test is (Some mask) (Some n) = if bit_and n mask == n then Some (Masked mask is n) else None

abbrev pub between_test : Option ℕ → Option ℕ → Option ValueTest
between_test None high = None
between_test (Some low) None = None
between_test (Some low) (Some high) = Some (Between low high)
