-- The object dictionary of a slave that was just switched on: every PDO is assigned, in order, and each parameter has the value that
-- its object has without one (the profile of the simulated slaves).
use Rattle.std.specs.Prelude.{ℕ, List, [], map, Result, Ok, Err}
use Rattle.ec_device.specs.declared.parameter.Parameter.{Parameter}
use Rattle.ec_device.specs.declared.parameter.ParameterSize.{ParameterSize}
use Rattle.ec_device.specs.declared.parameter.ParameterSize.TheVariants.{One as OneByte, Two as TwoBytes, Four as FourBytes}
use Rattle.ec_device.specs.declared.slave_type.Identity.{Identity}
use Rattle.ec_device.specs.Types.{SlaveKind}
use Rattle.ec_coe.specs.declared.abort_code.AbortCode.{AbortCode}
use Rattle.ec_coe.specs.declared.value.ValueSize.{ValueSize}
use Rattle.ec_coe.specs.declared.value.ValueSize.TheVariants.{One, Two, Four}
use Rattle.ec_coe.specs.declared.value.SdoValue.{SdoValue}
use Rattle.ec_coe.specs.Objects.{Dictionary, all_assigned, own_values, value_of}
use Rattle.ec_coe.specs.Transfers.{value_at}

-- without the values of parameters
abbrev pub bare_dictionary : SlaveKind → Identity → Dictionary
bare_dictionary kind identity = record { kind = kind; identity = identity; outs = all_assigned kind.outputs; ins = all_assigned kind.inputs; values = [] }

-- how many bytes a parameter has, as the size of a value
abbrev pub value_size : ParameterSize → ValueSize
value_size OneByte = One
value_size TwoBytes = Two
value_size FourBytes = Four

abbrev pub number_or_zero : Result SdoValue AbortCode → ℕ
number_or_zero (Ok value) = value.number
number_or_zero (Err code) = 0

-- what stands in the dictionary without parameters, or 0, in as many bytes as the parameter has
abbrev pub first_value : Dictionary → Parameter → SdoValue
first_value d q = value_of (value_size q.size) (number_or_zero (value_at (own_values d q.index) q.subindex))

abbrev pub first_values : SlaveKind → Identity → List SdoValue
first_values kind identity = map (first_value (bare_dictionary kind identity)) kind.init

abbrev pub new_dictionary : SlaveKind → Identity → Dictionary
new_dictionary kind identity = record (bare_dictionary kind identity) { values = first_values kind identity }
