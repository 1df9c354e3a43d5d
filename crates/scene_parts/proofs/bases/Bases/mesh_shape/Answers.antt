use Rattle.std.proofs.Common.{pos, ap}
use Rattle.std.specs.List.{slice_get}
use Rattle.rib_reader.specs.Table.{rules_of}
use Rattle.scene_parts.proofs.Words.{fits_32, sized}
use Rattle.scene_parts.proofs.bases.Bases.mesh_shape.Goals as goal

pub overflow_cast-whole : goal.overflow_cast-whole
overflow_cast-whole c = fits_32 c.whole.result (sized c.whole.result (c.whole.ensures.limits 1 (pos 1) (pos 65536) (ap (λ n. slice_get (rules_of n) 1) c.requires)))

pub overflow_cast-whole-2 : goal.overflow_cast-whole-2
overflow_cast-whole-2 c = fits_32 c.whole-2.result (sized c.whole-2.result (c.whole-2.ensures.limits 3 (pos 1) (pos 65536) (ap (λ n. slice_get (rules_of n) 3) c.requires)))
