use Rattle.std.proofs.Common.{◌≡◌, ℕ, length, sym, ◌∙◌, subst}
use Rattle.std.specs.Option.{ForSome}
use Rattle.grid_variables.proofs.ClosingPlaces.{closings_sized}
use Rattle.grid_variables.proofs.closings.moving_grid.Goals as goal

pub invariant_of-result-clause-closing_places : goal.invariant_of-result-clause-closing_places
invariant_of-result-clause-closing_places c =
    let grid = c.args.grid in
    subst (λ (n : ℕ). ForSome c.in_ok-closing.closing (λ q. length q.now ≡ n)) (sym c.requires.after ∙ grid.points)
    (closings_sized c.args.leaf.now grid.p.now c.in_ok-closing.closing c.in_ok-closing.ensures)
