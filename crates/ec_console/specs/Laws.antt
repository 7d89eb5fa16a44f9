-- Laws of what is printed.
use Rattle.std.specs.Prelude.{ℕ, List, [], ◌++◌}
use Rattle.ec_console.specs.Printing.{IsCutOff, IsPartPrinted, IsPrinted, OutputState}

-- Texts printed one behind the other are printed as one text, and if nothing was done, nothing is printed. If the second is cut off
-- or printed in part, so is the one text. A printed text is a printed part of itself.
pub record TextsLaw : Type 0 where
  pub none : (old : OutputState) → IsPrinted old old []
  pub both : (old mid new : OutputState) (first second : List ℕ) → IsPrinted old mid first → IsPrinted mid new second → IsPrinted old new (first ++ second)
  pub cut : (old mid new : OutputState) (first second : List ℕ) → IsPrinted old mid first → IsCutOff mid new second → IsCutOff old new (first ++ second)
  pub part : (old mid new : OutputState) (first second : List ℕ) → IsPrinted old mid first → IsPartPrinted mid new second → IsPartPrinted old new (first ++ second)
  pub whole : (old new : OutputState) (text : List ℕ) → IsPrinted old new text → IsPartPrinted old new text
