use Rattle.std.proofs.Common.{◌∙◌}
use Rattle.sl_types.specs.Extents.{beside}
use Rattle.sl_types.proofs.Joins.{operands_are}
use Rattle.sl_types.proofs.sizes.pair.Goals as goal

pub returns : goal.returns
returns c = λ u v p q. c.over.ensures (beside u v) (c.with.ensures u v p q) ∙ operands_are u v
