use Rattle.std.proofs.Common.{sym, subst}
use Rattle.transforms.specs.Map.{Map}
use Rattle.transforms.specs.Laws.{IsQuarterTurn}
use Rattle.transforms.proofs.Quarters.{quarter_turns}
use Rattle.transforms.proofs.affine.Affine.rotate.Goals as goal

pub returns-clause-quarters : goal.returns-clause-quarters
returns-clause-quarters c q a h e k =
    let P : Map → Type 0 = IsQuarterTurn q a in
    let s = c.is_nothing.ensures in
    subst P (sym c.rotation.ensures) (quarter_turns c.args.angle c.args.axis s.x s.y s.z q a h e k)
