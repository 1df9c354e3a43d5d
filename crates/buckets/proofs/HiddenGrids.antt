-- Cells that are hidden in a tile, which then shows their micropolygons as well; those of a leaf's grid are the leaf's.
use Rattle.std.proofs.Common.{◌≡◌, ◌∙◌, ap, sym, subst, ℕ, Bool, List, Option, Some, None}
use Rattle.std.specs.Prelude.{slice_get, option_map}
use Rattle.std.specs.Borrow.{Bor}
use Rattle.fixed_math.specs.declared.vec3.Vec3.{Vec3}
use Rattle.patches.specs.Parts.{Part}
use Rattle.transforms.specs.declared.view.View.{View}
use Rattle.bound_split.specs.declared.splits.Decision.TheVariants.{Dice}
use Rattle.dice.specs.declared.diced.GridRef.{GridRef}
use Rattle.scene.specs.Scene.{PrimValue}
use Rattle.grid_variables.specs.Closings.{closing_of}
use Rattle.displace_shade.specs.Diced.{grid_value}
use Rattle.displace_shade.specs.Shaded.{GridValue}
use Rattle.displace_shade.specs.Shop.{leaf_of}
use Rattle.hider.specs.declared.fragment.Fragment.{Fragment}
use Rattle.hider.specs.declared.sample.Sample.{Sample}
use Rattle.hider.specs.CellValues.{CellValues, values_of, micropolygons_of}
use Rattle.hider.specs.Fragments.{fragments}
use Rattle.hider.specs.Tiles.{TileValue, Shows, with_covering}
use Rattle.hider.proofs.Frames.{shows_further}
use Rattle.moving_cells.specs.MovingGrids.{moving_values, values_when}
use Rattle.buckets.specs.Pictures.{decide, grid_micropolygons, diced_micropolygons, micropolygons_by, leaf_micropolygons}
use Rattle.buckets.specs.Sampled.{ShowsMore}
use Rattle.buckets.specs.Standing.{IsShadedOf}
use Rattle.buckets.specs.TileWalk.{Drawing}

-- cells of one colour each or of varying ones, with one side or two, as their primitive has it
pub cells_hidden : (old new : TileValue) (v : View) (k : Bool → CellValues) (smooth smooth' one_sided one_sided' flip flip' : Bool) → smooth ≡ smooth' → one_sided ≡ one_sided' → flip ≡ flip'
    → ((f : Sample → List Fragment) → Shows old f → Shows new (with_covering v (micropolygons_of (k smooth) one_sided flip) f))
    → ShowsMore v (micropolygons_of (k smooth') one_sided' flip') old new
cells_hidden old new v k smooth smooth' one_sided one_sided' flip flip' em es ef h =
    let more : ShowsMore v (micropolygons_of (k smooth) one_sided flip) old new = λ ms s. shows_further new v ms (micropolygons_of (k smooth) one_sided flip) (h (fragments v ms) s) in
    subst (λ b. ShowsMore v (micropolygons_of (k b) one_sided' flip') old new) em
    (subst (λ b. ShowsMore v (micropolygons_of (k smooth) b flip') old new) es (subst (λ b. ShowsMore v (micropolygons_of (k smooth) one_sided b) old new) ef more))

-- a grid without closing places stays
pub stays : (smooth : Bool) (g : GridRef) → g.closing ≡ None → values_of smooth g ≡ values_when smooth g
stays smooth g none = ap (λ (c : Option (Bor (List Vec3))). moving_values smooth g.columns g.rows g.p.now g.ci.now g.oi.now (option_map (λ q. q.now) c)) (sym none)

-- the cells of a leaf's grid are the leaf's micropolygons
pub leaf_made : (d : Drawing) (prim : PrimValue) (part : Part) (p q : ℕ) (grid : GridRef) → slice_get d.frame.prims part.prim ≡ Some prim → decide d.frame.camera prim part ≡ Dice p q → IsShadedOf d part grid
    → micropolygons_of (values_when prim.smooth grid) prim.one_sided prim.flip ≡ leaf_micropolygons d.accepted d.frame prim part
unfolding leaf_micropolygons diced_micropolygons
leaf_made d prim part p q grid there sizes is =
    let l = leaf_of d.frame prim part p q in
    let both = is prim p q there sizes in
    ap (grid_micropolygons prim (grid_value grid)) both.1
    ∙ ap (λ (v : GridValue). grid_micropolygons prim v (closing_of l v.points)) both.0
    ∙ ap (micropolygons_by d.accepted d.frame prim part) (sym sizes)
