use Rattle.std.proofs.Common.{◌≡◌, ◌∙◌, ap, sym, subst, List, Option}
use Rattle.std.specs.Prelude.{All, option_map, slice_index_or}
use Rattle.std.specs.Borrow.{Bor}
use Rattle.fixed_math.specs.declared.vec3.Vec3.{Vec3}
use Rattle.fixed_math.specs.Axes.{origin, IsInBox}
use Rattle.dice.specs.declared.diced.GridRef.{GridRef}
use Rattle.hider.specs.CellBoxes.{low_when, high_when}
use Rattle.hider.proofs.Boxes.{four_held}
use Rattle.hider.proofs.CellsHeld.{held_when}
use Rattle.moving_cells.specs.MovingGrids.{point_when}
use Rattle.moving_cells.proofs.FourCorners.{number_of, corners_at, ways_held}
use Rattle.moving_cells.proofs.moving_cells.MovingCellsCells.moving_box.Goals as goal

pub returns-in-None : goal.returns-in-None
returns-in-None c = λ k t l h.
    let g = c.args.self.now.grid in
    let i = c.args.cell in
    let b = c.around.result in
    let opening : c.corners-opening.result ≡ corners_at g.columns g.p.now i = c.corners-opening.ensures ∙ ap (λ (h : GridRef). corners_at h.columns h.p.now i) c.opening_cells.ensures.grid in
    let first : All (IsInBox b.low b.high) (corners_at g.columns g.p.now i) = subst (All (IsInBox b.low b.high)) opening c.around.ensures.opening in
    let last : All (IsInBox b.closing_low b.closing_high) (corners_at g.columns g.p.now i) = subst (All (IsInBox b.closing_low b.closing_high)) opening c.around.ensures.closing in
    let stays = held_when b (slice_index_or g.p.now (number_of g.columns i k) origin) t h
    (four_held (IsInBox b.low b.high) (λ n. slice_index_or g.p.now (number_of g.columns i n) origin) first k l)
    (four_held (IsInBox b.closing_low b.closing_high) (λ n. slice_index_or g.p.now (number_of g.columns i n) origin) last k l) in
    subst (λ (o : Option (Bor (List Vec3))). IsInBox (low_when b t) (high_when b t) (point_when (option_map (λ (q : Bor (List Vec3)). q.now) o) g.p.now (number_of g.columns i k) t)) (sym c.in-None.is) stays

pub returns-in-Some : goal.returns-in-Some
returns-in-Some c = λ k t l h.
    let g = c.args.self.now.grid in
    let i = c.args.cell in
    let b = c.around-in-Some.result in
    let places = c.in-Some.places.now in
    let other = c.closing_cells.result.grid in
    let opening : c.corners-opening.result ≡ corners_at g.columns g.p.now i = c.corners-opening.ensures ∙ ap (λ (h : GridRef). corners_at h.columns h.p.now i) c.opening_cells.ensures.grid in
    let closing : c.corners-closing.result ≡ corners_at g.columns places i =
    c.corners-closing.ensures ∙ ap (λ m. corners_at m other.p.now i) c.closing_cells.ensures.columns ∙ ap (λ (p : List Vec3). corners_at g.columns p i) c.closing_cells.ensures.places in
    let first : All (IsInBox b.low b.high) (corners_at g.columns g.p.now i) = subst (All (IsInBox b.low b.high)) opening c.around-in-Some.ensures.opening in
    let last : All (IsInBox b.closing_low b.closing_high) (corners_at g.columns places i) = subst (All (IsInBox b.closing_low b.closing_high)) closing c.around-in-Some.ensures.closing in
    subst (λ (o : Option (Bor (List Vec3))). IsInBox (low_when b t) (high_when b t) (point_when (option_map (λ (q : Bor (List Vec3)). q.now) o) g.p.now (number_of g.columns i k) t)) (sym c.in-Some.is)
    (ways_held g.columns g.p.now places b i t k first last l h)
