-- What a line's words do to a frame that isn't whole, as private code says it.
use Rattle.std.specs.Prelude.{◌≡◌, ℕ, List, Option, Some, None, Result, Ok, Err}
use Rattle.std.specs.declared.vec.Vec.{Vec}
use Rattle.std.specs.declared.alloc.Global.{Global}
use Rattle.ec_frame.specs.Frame.{IsFrame, Payload}
use Rattle.ec_decode.specs.declared.error.DecodeError.{DecodeError}
use Rattle.ec_decode.specs.declared.error.DecodeError.TheVariants.{Memory, BadScript}
use Rattle.ec_decode.specs.FrameText.{Text}
use Rattle.ec_decode.specs.Reading.{Begun, step_by}

-- line n stands for nothing, or memory ran out
abbrev pub Refuses : {X : Type 0} → ℕ → Option X → DecodeError → Type 0
Refuses n found Memory = Unit {0}
Refuses n found (BadScript k) = (k ≡ n) × (found ≡ None)

abbrev pub Grows : Begun → ℕ → List Text → Begun → Result (Option (Vec ℕ Global)) DecodeError → Type 0
Grows old n words new (Ok None) = step_by (Some old) words ≡ Some (record { left = Some new; frame = None })
Grows old n words new (Ok (Some payload)) =
    (p : Payload) × IsFrame payload.items p × (step_by (Some old) words ≡ Some (record { left = None; frame = Some p }))
Grows old n words new (Err Memory) = new ≡ old
Grows old n words new (Err (BadScript k)) = (k ≡ n) × (step_by (Some old) words ≡ None) × (new ≡ old)
