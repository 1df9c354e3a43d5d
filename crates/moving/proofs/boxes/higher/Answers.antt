use Rattle.std.proofs.Common.{refl}
use Rattle.moving.proofs.boxes.higher.Goals as goal

pub returns : goal.returns
returns c = rw (c.greater.ensures, c.greater-2.ensures, c.greater-3.ensures) refl
