use Rattle.std.proofs.Common.{◌≡◌, false, [], refl}
use Rattle.ec_table.specs.Names.{is_named}
use Rattle.ec_table.proofs.NameIndex.{apart_more, place_more}
use Rattle.ec_table.proofs.named.NamedRows.with.Goals as goal

pub invariant_of-result : goal.invariant_of-result
invariant_of-result g c =
    let fresh : is_named g.X.Named.name (g.X.Named.name c.args.row) c.self.inside.rows ≡ false = rw c.self.view_is c.requires in (
      (λ q.
          let put = c.in_ok-insert.ensures.updates.0 (record { bytes = q; spare = [] }) in
          place_more g.X.Named.name c.self.inside.rows c.push.new.self c.args.row (g.X.Named.name c.args.row) q _ _ c.len.result refl fresh c.in_ok-push.ensures.ok c.len.ensures (c.self.invariant.0 q) (rw (c.key.ensures, c.own_name.ensures) at put)),
      apart_more g.X.Named.name c.self.inside.rows c.push.new.self c.args.row (g.X.Named.name c.args.row) refl fresh c.in_ok-push.ensures.ok c.self.invariant.1,
    )
