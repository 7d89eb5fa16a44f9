-- What the requests of a start-up make of a slave's object dictionary.
use Rattle.std.specs.Prelude.{ℕ, ◌*◌, ◌^◌, ◌<◌, ◌≡◌, List, [], ◌∷◌, ◌++◌, length, map, true, false, Result, Ok}
use Rattle.std.specs.List.{flat_map}
use Rattle.ec_device.specs.declared.parameter.Parameter.{Parameter}
use Rattle.ec_device.specs.Hardware.{is_assignable}
use Rattle.ec_device.specs.Objects.{pdo_at}
use Rattle.ec_device.specs.Parameters.{byte_count}
use Rattle.ec_device.specs.Types.{SlaveKind}
use Rattle.ec_coe.specs.declared.abort_code.AbortCode.{AbortCode}
use Rattle.ec_coe.specs.declared.value.SdoValue.{SdoValue}
use Rattle.ec_coe.specs.Messages.{size_number}
use Rattle.ec_coe.specs.Objects.{Dictionary, all_assigned}
use Rattle.ec_coe.specs.Transfers.{uploaded, downloaded}
use Rattle.ec_link.specs.declared.settings.SlavePlan.{SlavePlan}
use Rattle.ec_start.specs.declared.action.SdoRequest.{SdoRequest}
use Rattle.ec_start.specs.declared.action.Transfer.{Transfer}
use Rattle.ec_start.specs.declared.action.Transfer.TheVariants.{Download, Upload}
use Rattle.ec_start.specs.Scripts.{parameters_written, pdo_read}

-- how many bytes each parameter has, and each value
abbrev pub sizes_of : List SdoValue → List ℕ
sizes_of values = map (λ (v : SdoValue). size_number v.size) values

abbrev pub sizes_in : List Parameter → List ℕ
sizes_in parameters = map (λ (q : Parameter). byte_count q.size) parameters

-- A dictionary of a type: a slot for each PDO, a value for each parameter, and where the assignment can't be written, all PDOs.
pub record IsDictionary (kind : SlaveKind) (d : Dictionary) : Type 0 where
  pub kind_is : d.kind ≡ kind
  pub outs : length d.outs.slots ≡ length kind.outputs
  pub ins : length d.ins.slots ≡ length kind.inputs
  pub fixed : is_assignable kind.mailbox kind.hardware ≡ false → (d.outs ≡ all_assigned kind.outputs) × (d.ins ≡ all_assigned kind.inputs)
  pub sizes : sizes_of d.values ≡ sizes_in kind.init

-- ---- requests that are done, in PREOP

abbrev pub done_by : Dictionary → SdoRequest → Transfer → Result Dictionary AbortCode
done_by d r (Download value) = downloaded true d r.index r.subindex value
done_by d r (Upload value) = Ok d

-- the requests, one after another, make the one dictionary of the other
abbrev pub AreDone : Dictionary → List SdoRequest → Dictionary → Type 0
AreDone d [] e = d ≡ e
AreDone d (r ∷ rs) e = (next : Dictionary) × (done_by d r r.transfer ≡ Ok next) × AreDone next rs e

-- the dictionary is what these requests made of one of the type
pub record Came (kind : SlaveKind) (rs : List SdoRequest) (d : Dictionary) : Type 0 where
  pub from : Dictionary
  pub of_type : IsDictionary kind from
  pub done : AreDone from rs d

-- ---- what the parameters of a plan must be

-- an upload brings this number, in as many bytes as it has there
pub record IsShown (d : Dictionary) (r : SdoRequest) (number : ℕ) : Type 0 where
  pub value : SdoValue
  pub shown : uploaded d r.index r.subindex ≡ Ok value
  pub same : value.number ≡ number
  pub few : value.number < 2 ^ (8 * size_number value.size)

abbrev pub ShowsBy : Dictionary → SdoRequest → Transfer → Type 0
ShowsBy d r (Upload value) = IsShown d r value.number
ShowsBy d r (Download value) = Unit {0}

abbrev pub ShowsAll : Dictionary → List SdoRequest → Type 0
ShowsAll d [] = Unit {0}
ShowsAll d (r ∷ rs) = ShowsBy d r r.transfer × ShowsAll d rs

-- the uploads that read back the mappings of the PDOs that a plan assigns
abbrev pub mappings : SlavePlan → List SdoRequest
mappings p = flat_map (λ index. pdo_read (pdo_at p.kind.outputs index)) p.outputs ++ flat_map (λ index. pdo_read (pdo_at p.kind.inputs index)) p.inputs

-- Each dictionary of the type takes the downloads of the plan's parameters, one after another, and then shows the mappings that the
-- type has. If not, the start-up ends with an abort or with another mapping than the type's, on real devices too.
pub record ParametersAgree (p : SlavePlan) : Type 0 where
  pub each : (d : Dictionary) → IsDictionary p.kind d → (e : Dictionary) × AreDone d (parameters_written p.kind.init) e × ShowsAll e (mappings p)
