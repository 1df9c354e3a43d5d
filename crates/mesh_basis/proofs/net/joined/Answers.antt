use Rattle.mesh_basis.proofs.Rows.{sixteen_items}
use Rattle.mesh_basis.proofs.net.joined.Goals as goal

pub returns : goal.returns
returns c =
    sixteen_items c.args.first.now c.args.second.now c.args.third.now c.args.fourth.now _ _ _ _ _ _ _ _ _ _ _ _ _ _ _ _ c.type_inv.first c.type_inv.second c.type_inv.third c.type_inv.fourth
