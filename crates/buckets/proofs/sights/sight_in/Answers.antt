use Rattle.std.proofs.Common.{◌≡◌, ◌∙◌, sym, ap, subst, arith, Some}
use Rattle.std.specs.Prelude.{slice_get}
use Rattle.patches.specs.Parts.{Part}
use Rattle.grid_epoch.proofs.Keeping.{same_part-true}
use Rattle.buckets.specs.Sights.{IsSight, IsKnown}
use Rattle.buckets.proofs.sights.sight_in.Goals as goal

pub returns-then-is_same : goal.returns-then-is_same
returns-then-is_same c = λ f known prim there.
    let it = c.in-Some.it in
    let is : IsKnown f (Some it) = subst (IsKnown f) c.in-Some.is known in
    let number : it.number ≡ c.args.number = omega (arith, c.if-it-number.true) in
    let piece : it.piece ≡ c.args.piece.now = same_part-true _ _ (sym c.is_same.ensures ∙ c.if-is_same.true) in
    subst (λ (p : Part). IsSight f prim p it.sight) piece (is prim (ap (slice_get f.prims) number ∙ there))
