use Rattle.std.proofs.Common.{◌≡◌, ◌∙◌, ap, sym, List, Option, [], ◌∷◌, refl}
use Rattle.std.specs.Prelude.{Some, slice_index_or}
use Rattle.std.specs.Borrow.{Bor}
use Rattle.fixed_math.specs.declared.vec3.Vec3.{Vec3}
use Rattle.dice.specs.declared.diced.GridRef.{GridRef}
use Rattle.moving.specs.Ways.{place_on_way}
use Rattle.moving_cells.proofs.FourCorners.{corners_at, moving_corners}
use Rattle.moving_cells.proofs.moving_cells.MovingCellsCells.corners.Goals as goal

pub returns-in-None : goal.returns-in-None
returns-in-None c =
    let g = c.args.self.now.grid in
    let i = c.args.cell in
    c.corners-opening.ensures ∙ ap (λ (h : GridRef). corners_at h.columns h.p.now i) c.opening_cells.ensures.grid
    ∙ sym (ap (λ (o : Option (Bor (List Vec3))). moving_corners g.columns g.p.now o i c.args.time) c.in-None.is)

pub returns-in-Some : goal.returns-in-Some
returns-in-Some c =
    let g = c.args.self.now.grid in
    let i = c.args.cell in
    let t = c.args.time in
    let places = c.in-Some.places.now in
    let other = c.closing_cells.result.grid in
    let p = corners_at g.columns g.p.now i in
    let q = c.corners.result in
    let opening : c.corners-opening.result ≡ p = c.corners-opening.ensures ∙ ap (λ (h : GridRef). corners_at h.columns h.p.now i) c.opening_cells.ensures.grid in
    let closing : q ≡ corners_at g.columns places i =
    c.corners.ensures ∙ ap (λ m. corners_at m other.p.now i) c.closing_cells.ensures.columns ∙ ap (λ (l : List Vec3). corners_at g.columns l i) c.closing_cells.ensures.places in
    let a =
    c.place_on_way.ensures.value ∙ ap (λ (o : List Vec3). place_on_way t (slice_index_or o 0 c.index-opening-0.result) (slice_index_or q 0 c.index-corners-0.result)) opening
    ∙ ap (λ (o : List Vec3). place_on_way t (slice_index_or p 0 c.index-opening-0.result) (slice_index_or o 0 c.index-corners-0.result)) closing in
    let b =
    c.place_on_way-in-Some.ensures.value ∙ ap (λ (o : List Vec3). place_on_way t (slice_index_or o 1 c.index-opening-1.result) (slice_index_or q 1 c.index-corners-1.result)) opening
    ∙ ap (λ (o : List Vec3). place_on_way t (slice_index_or p 1 c.index-opening-1.result) (slice_index_or o 1 c.index-corners-1.result)) closing in
    let d =
    c.place_on_way-in-Some-2.ensures.value ∙ ap (λ (o : List Vec3). place_on_way t (slice_index_or o 2 c.index-opening-2.result) (slice_index_or q 2 c.index-corners-2.result)) opening
    ∙ ap (λ (o : List Vec3). place_on_way t (slice_index_or p 2 c.index-opening-2.result) (slice_index_or o 2 c.index-corners-2.result)) closing in
    let e =
    c.place_on_way-in-Some-3.ensures.value ∙ ap (λ (o : List Vec3). place_on_way t (slice_index_or o 3 c.index-opening-3.result) (slice_index_or q 3 c.index-corners-3.result)) opening
    ∙ ap (λ (o : List Vec3). place_on_way t (slice_index_or p 3 c.index-opening-3.result) (slice_index_or o 3 c.index-corners-3.result)) closing in
    let l : (c.place_on_way.result ∷ c.place_on_way-in-Some.result ∷ c.place_on_way-in-Some-2.result ∷ c.place_on_way-in-Some-3.result ∷ []) ≡ moving_corners g.columns g.p.now (Some c.in-Some.places) i t = rw (a, b, d, e) refl in
    l ∙ sym (ap (λ (o : Option (Bor (List Vec3))). moving_corners g.columns g.p.now o i t) c.in-Some.is)
