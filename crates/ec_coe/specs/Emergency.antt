-- The emergency with which a simulated slave may greet its master (ETG.1000.6, "Emergency services").
use Rattle.std.specs.Prelude.{ℕ, ◌+◌, ◌*◌, List, [], ◌∷◌}

-- the number of emergencies in the CoE header
abbrev pub emergency_service : ℕ
emergency_service = 1

-- The mailbox header with length 10, address and channel 0, type 3 with the counter; the CoE header with number 0 and service 1; the
-- error code 0x5000, "device hardware", low byte first; the error register; five bytes of the maker's.
abbrev pub emergency_bytes : ℕ → List ℕ
emergency_bytes counter =
    10 ∷ 0 ∷ 0 ∷ 0 ∷ 0 ∷ (3 + 16 * counter) ∷ 0 ∷ (16 * emergency_service) ∷ 0x00 ∷ 0x50 ∷ 0 ∷ 0 ∷ 0 ∷ 0 ∷ 0 ∷ 0 ∷ []
