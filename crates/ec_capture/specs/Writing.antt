-- What a write of bytes leaves in a file, if the file's bytes are known.
use Rattle.std.specs.Prelude.{◌≡◌, ℕ, List, take, Bool, true, Option, Result, OnOk, OnErr}
use Rattle.std.specs.Io.KnownBytes.{Appends}
use Rattle.ec_capture.specs.declared.writing.WriteFault.{WriteFault}

-- known bytes stay, and a first part of `bytes` stands behind them
abbrev pub AppendsPart : Option (List ℕ) → Option (List ℕ) → List ℕ → Type 0
AppendsPart old new bytes = (count : ℕ) × Appends old new (take count bytes)

-- all bytes were written; or a write was refused, and a first part of them was written
pub record Writes (bytes : List ℕ) (old new : Option (List ℕ)) (ended : Result Unit WriteFault) : Type 0 where
  pub all : OnOk ended (Appends old new bytes)
  pub part : OnErr ended (AppendsPart old new bytes)

-- a file for writing: what it holds, if that is known, and whether a flush has handed on all written bytes
pub record FileState : Type 0 where
  pub holds : Option (List ℕ)
  pub is_flushed : Bool

-- if a capture is whole, all of it is handed on
abbrev pub IsHandedOn : (is_whole : Bool) → FileState → Type 0
IsHandedOn is_whole file = is_whole ≡ true → file.is_flushed ≡ true
