-- When what a line expects of a world holds (this project's profile): what its slaves have, and else what its master shows.
use Rattle.std.specs.Prelude.{ℕ, ◌+◌, ◌-◌, ◌*◌, ◌%◌, ◌==◌, ◌&&◌, List, slice_get, Bool, true, false, if◌then◌else◌, Option, Some, None}
use Rattle.std.specs.List.{list_all, list_any}
use Rattle.ec_al.specs.declared.state.State.{State}
use Rattle.ec_al.specs.States.{state_number}
use Rattle.ec_bits.specs.Bits.{bits_number}
use Rattle.ec_link.specs.Image.{number_of}
use Rattle.ec_link.specs.declared.image.Variable.{Variable}
use Rattle.ec_link.specs.declared.plan.Link.{Link}
use Rattle.ec_link.specs.LinkRuns.{is_out}
use Rattle.ec_slave.specs.Application.{outputs_shown}
use Rattle.ec_world.specs.World.{WorldState, is_slave, slave_of}
use Rattle.ec_script.specs.declared.expectation.Expectation.{Expectation}
use Rattle.ec_script.specs.declared.expectation.Expectation.TheVariants.{Is, Holds, State as InState}
use Rattle.ec_script.specs.declared.value_test.ValueTest.{ValueTest}
use Rattle.ec_script.specs.Expecting as master
use Rattle.ec_script.specs.Tests.{holds}
use Rattle.ec_simulation.specs.Inputs.{is_of, is_short, slave_byte, value_bytes}
use Rattle.ec_simulation.specs.Showing.{has_room, value_shown}
use Rattle.ec_simulation.specs.Views.{view_of}

-- ---- values

-- these published outputs have the link's bits, and they are the value's
abbrev pub has_bits : Variable → ℕ → Link → List ℕ → Bool
has_bits v x l outputs = has_room l outputs && (bits_number outputs l.object_bit l.count == bits_number (value_bytes x) (l.image - v.from) l.count)

-- the slave of a link of the variable publishes the value's bits
abbrev pub is_published : WorldState → Variable → ℕ → Link → Bool
is_published w v x l = if is_of v l then is_slave w l.slave && has_bits v x l (outputs_shown (slave_of w l.slave)) else true

-- an output if all slaves publish their linked bits so; bits of the variable that aren't linked don't count
abbrev pub is_value : WorldState → ℕ → ℕ → Option Variable → Bool
is_value w n x None = false
is_value w n x (Some v) =
    if is_out v.direction then is_short v.bits x && list_all (is_published w v x) w.plan.out_links
    else master.is_met (Is n x) (view_of w)

-- a value that slaves publish of an output meets the test: the variable has a link, and the slave of each publishes its bits of the value
abbrev pub is_so : WorldState → Variable → ValueTest → Option ℕ → Bool
is_so w v test None = false
is_so w v test (Some x) = list_any (is_of v) w.plan.out_links && (list_all (is_published w v x) w.plan.out_links && holds (number_of v) test x)

-- an input by the process image, and an output as slaves publish it; its bits that aren't linked are 0
abbrev pub is_tested : WorldState → ℕ → ValueTest → Option Variable → Bool
is_tested w n test None = false
is_tested w n test (Some v) = if is_out v.direction then is_so w v test (value_shown w v) else master.is_met (Holds n test) (view_of w)

-- ---- AL states, by the slave's registers

-- the low nibble of AL status (0x0130)
abbrev pub is_in_state : WorldState → ℕ → State → Bool
is_in_state w s state = is_slave w s && (slave_byte w s 0x0130 % 16 == state_number state)

-- the AL status code (0x0134), if one is given
abbrev pub has_code : WorldState → ℕ → Option ℕ → Bool
has_code w s None = true
has_code w s (Some code) = slave_byte w s 0x0134 + 256 * slave_byte w s 0x0135 == code

-- ---- whatever is expected

abbrev pub is_met : Expectation → WorldState → Bool
is_met (Is v x) w = is_value w v x (slice_get w.plan.variables v)
is_met (Holds v test) w = is_tested w v test (slice_get w.plan.variables v)
is_met (InState s state code) w = is_in_state w s state && has_code w s code
is_met expected w = master.is_met expected (view_of w)
