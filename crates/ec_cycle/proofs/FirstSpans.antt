-- What stands at the first places is what the definitions count out.
use Rattle.std.proofs.Common.{◌≡◌, refl, List, [], ◌∷◌, slice_get}
use Rattle.std.specs.Option.{option_map_or}
use Rattle.ec_frame.specs.Datagram.{Datagram}
use Rattle.ec_cycle.specs.Closing.{counter_at, bytes_at}

pub counter_1 : (ds : List Datagram) → option_map_or (λ (d : Datagram). d.counter) (slice_get ds 1) 0 ≡ counter_at ds 1
counter_1 [] = refl
counter_1 (a ∷ []) = refl
counter_1 (a ∷ b ∷ ds) = refl

pub counter_2 : (ds : List Datagram) → option_map_or (λ (d : Datagram). d.counter) (slice_get ds 2) 0 ≡ counter_at ds 2
counter_2 [] = refl
counter_2 (a ∷ []) = refl
counter_2 (a ∷ b ∷ []) = refl
counter_2 (a ∷ b ∷ c ∷ ds) = refl

pub counter_3 : (ds : List Datagram) → option_map_or (λ (d : Datagram). d.counter) (slice_get ds 3) 0 ≡ counter_at ds 3
counter_3 [] = refl
counter_3 (a ∷ []) = refl
counter_3 (a ∷ b ∷ []) = refl
counter_3 (a ∷ b ∷ c ∷ []) = refl
counter_3 (a ∷ b ∷ c ∷ d ∷ ds) = refl

pub bytes_1 : (ds : List Datagram) → option_map_or (λ (d : Datagram). d.data_bytes) (slice_get ds 1) [] ≡ bytes_at ds 1
bytes_1 [] = refl
bytes_1 (a ∷ []) = refl
bytes_1 (a ∷ b ∷ ds) = refl

pub bytes_2 : (ds : List Datagram) → option_map_or (λ (d : Datagram). d.data_bytes) (slice_get ds 2) [] ≡ bytes_at ds 2
bytes_2 [] = refl
bytes_2 (a ∷ []) = refl
bytes_2 (a ∷ b ∷ []) = refl
bytes_2 (a ∷ b ∷ c ∷ ds) = refl

pub bytes_3 : (ds : List Datagram) → option_map_or (λ (d : Datagram). d.data_bytes) (slice_get ds 3) [] ≡ bytes_at ds 3
bytes_3 [] = refl
bytes_3 (a ∷ []) = refl
bytes_3 (a ∷ b ∷ []) = refl
bytes_3 (a ∷ b ∷ c ∷ []) = refl
bytes_3 (a ∷ b ∷ c ∷ d ∷ ds) = refl

pub ruleset place_steps = (counter_1, counter_2, counter_3, bytes_1, bytes_2, bytes_3)
