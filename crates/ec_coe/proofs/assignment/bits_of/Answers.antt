use Rattle.std.proofs.Common.{◌≤◌, ◌==◌, length, sym, arith}
use Rattle.ec_device.specs.declared.slave_type.Pdo.{Pdo}
use Rattle.ec_device.specs.Types.{pdo_bits}
use Rattle.ec_coe.proofs.Finding.{find-all}
use Rattle.ec_coe.proofs.assignment.bits_of.Goals as goal

pub bits-requires : goal.bits-requires
bits-requires c =
    let few : (length c.in-Some.pdo.now.entries ≤ 64) × (pdo_bits c.in-Some.pdo.now ≤ 4096)
    = find-all (λ (p : Pdo). (length p.entries ≤ 64) × (pdo_bits p ≤ 4096)) (λ (p : Pdo). p.index == c.args.index) c.args.pdos.now c.in-Some.pdo.now c.requires (sym c.in-Some.ensures) in
    few.0

pub returns-in-Some-clause-small : goal.returns-in-Some-clause-small
returns-in-Some-clause-small c =
    let few : (length c.in-Some.pdo.now.entries ≤ 64) × (pdo_bits c.in-Some.pdo.now ≤ 4096)
    = find-all (λ (p : Pdo). (length p.entries ≤ 64) × (pdo_bits p ≤ 4096)) (λ (p : Pdo). p.index == c.args.index) c.args.pdos.now c.in-Some.pdo.now c.requires (sym c.in-Some.ensures) in
    let small = few.1 in
    omega (arith, small, c.bits.ensures)
