use Rattle.std.proofs.Common.{◌≤◌, ◌==◌, sym, length}
use Rattle.ec_device.specs.declared.slave_type.Pdo.{Pdo}
use Rattle.ec_device.specs.Types.{pdo_bits}
use Rattle.ec_coe.proofs.Finding.{find-all}
use Rattle.ec_start.proofs.requests.upload_at.Goals as goal

pub pdo_upload-requires : goal.pdo_upload-requires
pdo_upload-requires c =
    (find-all (λ (p : Pdo). (length p.entries ≤ 64) × (pdo_bits p ≤ 4096)) (λ (p : Pdo). p.index == c.args.index) c.args.pdos.now c.in-Some.pdo.now c.requires (sym c.in-Some.ensures)).0
