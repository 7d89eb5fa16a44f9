-- A place in runs of requests that follow each other. It serves private code and its proofs alone.
use Rattle.std.specs.Prelude.{ℕ, zero, suc, List, [], ◌∷◌, ◌++◌, Option, Some, None}
use Rattle.std.specs.List.{flat_map}
use Rattle.ec_device.specs.Hardware.{is_fixed}
use Rattle.ec_device.specs.Objects.{pdo_at}
use Rattle.ec_coe.specs.Objects.{output_assignment, input_assignment, has_some}
use Rattle.ec_link.specs.declared.settings.SlavePlan.{SlavePlan}
use Rattle.ec_start.specs.declared.action.SdoRequest.{SdoRequest}
use Rattle.ec_start.specs.declared.requests.Seek.{Seek}
use Rattle.ec_start.specs.declared.requests.Seek.TheVariants.{Found, Past}
use Rattle.ec_start.specs.Scripts.{pdo_read, assignment_of}

-- the request with a place, or how many places past the end it is
abbrev pub seek : List SdoRequest → ℕ → Seek
seek [] place = Past place
seek (r ∷ rs) zero = Found r
seek (r ∷ rs) (suc place) = seek rs place

-- and the same in the requests that follow
abbrev pub seek_on : Seek → List SdoRequest → Seek
seek_on (Found r) rs = Found r
seek_on (Past place) rs = seek rs place

abbrev pub found : Seek → Option SdoRequest
found (Found r) = Some r
found (Past place) = None

-- the two halves of a slave's requests about its PDOs
abbrev pub mappings_of : SlavePlan → List SdoRequest
mappings_of p = flat_map (λ index. pdo_read (pdo_at p.kind.outputs index)) p.outputs ++ flat_map (λ index. pdo_read (pdo_at p.kind.inputs index)) p.inputs

abbrev pub assignments_of : SlavePlan → List SdoRequest
assignments_of p =
    assignment_of (is_fixed p.kind.hardware) output_assignment p.outputs (has_some p.kind.outputs)
    ++ assignment_of (is_fixed p.kind.hardware) input_assignment p.inputs (has_some p.kind.inputs)
