use Rattle.std.proofs.Common.{pos, ap}
use Rattle.std.specs.List.{slice_get}
use Rattle.rib_reader.specs.Table.{rules_of, greatest}
use Rattle.scene_parts.proofs.Words.{fits_32, some_32}
use Rattle.scene_parts.proofs.bases.Bases.after.Goals as goal

pub overflow_cast-result : goal.overflow_cast-result
overflow_cast-result c = fits_32 c.whole.result (c.whole.ensures.limits 2 (pos 1) greatest (ap (λ n. slice_get (rules_of n) 2) c.requires))

pub overflow_cast-result-2 : goal.overflow_cast-result-2
overflow_cast-result-2 c = fits_32 c.whole-2.result (c.whole-2.ensures.limits 5 (pos 1) greatest (ap (λ n. slice_get (rules_of n) 5) c.requires))

pub invariant_of-result : goal.invariant_of-result
invariant_of-result c = record {
  some_u = some_32 c.whole.result (c.whole.ensures.limits 2 (pos 1) greatest (ap (λ n. slice_get (rules_of n) 2) c.requires));
  some_v = some_32 c.whole-2.result (c.whole-2.ensures.limits 5 (pos 1) greatest (ap (λ n. slice_get (rules_of n) 5) c.requires));
}
