use Rattle.std.proofs.Common.{refl}
use Rattle.moving.proofs.boxes.lower.Goals as goal

pub returns : goal.returns
returns c = rw (c.lesser.ensures, c.lesser-2.ensures, c.lesser-3.ensures) refl
