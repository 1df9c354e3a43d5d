use Rattle.std.proofs.Common.{◌≡◌, ◌∙◌, ◌*◌, ◌<◌, ap, arith, length, subst, sym, Option, List}
use Rattle.std.specs.Prelude.{slice_index_or, option_map}
use Rattle.std.specs.Borrow.{Bor}
use Rattle.std.proofs.lemmas.List.{get_or_default}
use Rattle.fixed_math.specs.declared.vec3.Vec3.{Vec3}
use Rattle.fixed_math.specs.Axes.{origin}
use Rattle.dice.specs.declared.diced.GridRef.{GridRef}
use Rattle.hider.specs.Cells.{first_corner}
use Rattle.hider.specs.CellValues.{corner_number}
use Rattle.moving.specs.Ways.{place_on_way}
use Rattle.moving_cells.specs.MovingGrids.{point_when}
use Rattle.moving_cells.proofs.moving_cells.MovingCellsCells.corner.Goals as goal

pub returns-in-Some : goal.returns-in-Some
returns-in-Some c =
    let g = c.args.self.now.grid in
    let k = c.point_of-n.result in
    let n = corner_number g.columns (first_corner g.columns c.args.cell) c.args.k in
    let is : k ≡ n = c.point_of-n.ensures.value ∙ ap (λ (h : GridRef). corner_number h.columns (first_corner h.columns c.args.cell) c.args.k) c.opening_cells.ensures.grid in
    let inside : k < g.columns * g.rows = subst (λ (h : GridRef). k < h.columns * h.rows) c.opening_cells.ensures.grid c.point_of-n.ensures.inside in
    let places = c.in-Some.closing.now in
    let many : length places ≡ g.columns * g.rows = g.closing_places c.in-Some.closing c.in-Some.is in
    let opening : slice_index_or g.p.now k c.index-self-n.result ≡ slice_index_or g.p.now n origin =
    get_or_default g.p.now k c.index-self-n.result origin (omega (arith, inside, g.points)) ∙ ap (λ m. slice_index_or g.p.now m origin) is in
    let closing : c.index-closing-n.result ≡ slice_index_or places n origin =
    c.index-closing-n.is ∙ get_or_default places k c.index-closing-n.result origin (omega (arith, inside, many)) ∙ ap (λ m. slice_index_or places m origin) is in
    c.place_on_way.ensures.value
    ∙ ap (λ (p : Vec3). place_on_way c.args.time p c.index-closing-n.result) opening
    ∙ ap (λ (p : Vec3). place_on_way c.args.time (slice_index_or g.p.now n origin) p) closing
    ∙ sym (ap (λ (o : Option (Bor (List Vec3))). point_when (option_map (λ (q : Bor (List Vec3)). q.now) o) g.p.now n c.args.time) c.in-Some.is)
