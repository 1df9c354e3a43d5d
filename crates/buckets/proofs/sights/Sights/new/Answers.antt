use Rattle.std.proofs.Common.{◌≡◌, refl, Option, Some, None}
use Rattle.buckets.specs.declared.sights.Known.{Known}
use Rattle.buckets.proofs.Sighted.{none_known}
use Rattle.buckets.proofs.sights.Sights.new.Goals as goal

-- a copy of nothing is nothing
only_none : (C : Option Known → Type 0) → ((k : Known) → C (Some k) → ⊥) → (y : Option Known) → C y → y ≡ None
only_none C other None c = refl
only_none C other (Some k) c = absurd (other k c)

pub invariant_of-result : goal.invariant_of-result
invariant_of-result c = record {
  known = none_known c.args.frame.now 16384 c.in_ok-vec.field-0.items (c.in_ok-vec.ensures.items_if_clones_equal (only_none _ (λ k other. other))) refl;
  extents = c.in_ok-extents_of.ensures;
  narrowed = c.in_ok-first_narrowed.ensures;
}
