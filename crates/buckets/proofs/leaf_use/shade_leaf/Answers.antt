use Rattle.std.proofs.Common.{◌≡◌, ◌∙◌, ◌*◌, ap, arith, subst, sym}
use Rattle.std.proofs.lemmas.Grind.{common_steps}
use Rattle.dice.specs.Grids.{line_count}
use Rattle.dice.specs.declared.diced.GridRef.{GridRef}
use Rattle.transforms.specs.declared.view.View.{View}
use Rattle.scene.specs.Scene.{FrameValue}
use Rattle.hider.specs.Flat.{IsSeenBy}
use Rattle.buckets.specs.Standing.{IsShadedOf}
use Rattle.buckets.proofs.leaf_use.shade_leaf.Goals as goal

pub add-requires-clause-room : goal.add-requires-clause-room
add-requires-clause-room g c =
    let seen = c.in_ok-seen.seen in
    let leaf = c.args.leaf.now in
    let points : seen.grid.columns * seen.grid.rows ≡ line_count leaf.p * line_count leaf.q = ap (λ (h : GridRef). h.columns * h.rows) c.in_ok-seen.ensures.grid ∙ c.in_ok-grid.ensures.points in
    omega (arith, points, c.requires.1.1.1.0)

pub returns-clause-kept : goal.returns-clause-kept
returns-clause-kept g c =
    let seen = c.in_ok-seen.seen in
    let camera = ap (λ (f : FrameValue). f.camera) (c.frame.view_is ∙ c.requires.0.frame) in
    record {
      grid = (subst (λ (v : View). IsSeenBy v seen) camera c.in_ok-seen.ensures.seen, subst (λ (h : GridRef). IsShadedOf g.begun.drawing c.args.leaf.now.piece h) (sym c.in_ok-seen.ensures.grid) c.in_ok-grid.ensures.grid);
      points = ap (λ (h : GridRef). h.columns * h.rows) c.in_ok-seen.ensures.grid ∙ c.in_ok-grid.ensures.points;
      kept = grind (arith, common_steps);
    }
