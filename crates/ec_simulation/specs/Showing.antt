-- An output variable as the slaves publish it (this project's profile).
use Rattle.std.specs.Prelude.{ℕ, ◌+◌, ◌-◌, ◌*◌, ◌&&◌, List, [], ◌∷◌, length, nat_le, Bool, if◌then◌else◌, Option, Some, None, option_and_then, option_map}
use Rattle.std.specs.List.{list_any}
use Rattle.ec_bits.specs.Bits.{bits_number, copied, zeros}
use Rattle.ec_link.specs.declared.image.Variable.{Variable}
use Rattle.ec_link.specs.declared.plan.Link.{Link}
use Rattle.ec_link.specs.LinkRuns.{is_out}
use Rattle.ec_slave.specs.Application.{outputs_shown}
use Rattle.ec_world.specs.World.{WorldState, is_slave, slave_of}
use Rattle.ec_script.specs.declared.output.LineOutput.{LineOutput}
use Rattle.ec_script.specs.declared.output.LineOutput.TheVariants as output
use Rattle.ec_text.specs.InputText.{value_of_variable}
use Rattle.ec_simulation.specs.Inputs.{is_of}

-- these published outputs have the link's bits; 0x10000 bits are more than a slave's memory has room for
abbrev pub has_room : Link → List ℕ → Bool
has_room l outputs = nat_le (l.object_bit + l.count) 0x10000 && nat_le (l.object_bit + l.count) (8 * length outputs)

-- the bytes of a variable's value, with the bits that the slave of a link of the variable publishes; none if it publishes none of them
abbrev pub with_shown : WorldState → Variable → Link → List ℕ → Option (List ℕ)
with_shown w v l bytes =
    if is_of v l
    then (if is_slave w l.slave && has_room l (outputs_shown (slave_of w l.slave))
    then Some (copied bytes (l.image - v.from) (outputs_shown (slave_of w l.slave)) l.object_bit l.count)
    else None)
    else Some bytes

-- link after link
unfoldable pub with_all_shown : WorldState → Variable → List Link → List ℕ → Option (List ℕ)
with_all_shown w v [] bytes = Some bytes
with_all_shown w v (l ∷ ls) bytes = option_and_then (with_all_shown w v ls) (with_shown w v l bytes)

-- the value that slaves publish; bits that no link takes to a slave are 0
abbrev pub value_shown : WorldState → Variable → Option ℕ
value_shown w v = option_map (λ bytes. bits_number bytes 0 64) (with_all_shown w v w.plan.out_links (zeros 8))

-- the value of an output; none of an input
abbrev pub output_shown : WorldState → Option Variable → Option ℕ
output_shown w None = None
output_shown w (Some v) = if is_out v.direction then value_shown w v else None

-- the value of a variable that an expectation looks at: of an input the one in the process image, of an output with links the one that
-- slaves publish
abbrev pub value_seen : WorldState → ℕ → Option Variable → Option ℕ
value_seen w n None = None
value_seen w n (Some v) =
    if is_out v.direction then (if list_any (is_of v) w.plan.out_links then value_shown w v else None) else Some (value_of_variable w.master n)

-- the output of `out`: a variable's value, or `No` if no slave publishes one
abbrev pub said_value : ℕ → Option ℕ → LineOutput
said_value v None = output.No
said_value v (Some x) = output.Value v x
