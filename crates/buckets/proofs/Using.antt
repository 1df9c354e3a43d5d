-- What a leaf changes that is hidden, by a kept grid or by a new one.
use Rattle.std.proofs.Common.{◌≡◌, ℕ, zero, suc, ◌+◌, ◌*◌, ◌≤◌, arith, refl, sym, ◌∙◌, ap, subst, Bool, true, false, List, [], ◌∷◌, ◌++◌, Some}
use Rattle.std.specs.Prelude.{nat_le, slice_get, IfSome}
use Rattle.patches.specs.Parts.{Part}
use Rattle.hider.specs.declared.seen_grid.SeenGrid.{SeenGrid}
use Rattle.dice.specs.Grids.{line_count}
use Rattle.bound_split.specs.declared.splits.Decision.TheVariants.{Dice}
use Rattle.hider.specs.Tiles.{TileValue}
use Rattle.scene.specs.Scene.{PrimValue, FrameValue, SceneValue}
use Rattle.scene.specs.declared.uses.ShaderUse.{ShaderUse}
use Rattle.shader_binding.specs.Sets.{SetValue}
use Rattle.dice.specs.declared.diced.GridRef.{GridRef}
use Rattle.grid_variables.specs.Points.{Leaf}
use Rattle.grid_variables.specs.Closings.{closing_of}
use Rattle.displace_shade.specs.Pieces.{IsShaded, Closes}
use Rattle.displace_shade.specs.Shop.{leaf_of}
use Rattle.displace_shade.specs.Shaded.{shaded}
use Rattle.std.proofs.Math.Nat.{mul-le-mul}
use Rattle.grid_epoch.specs.Kept.{has, pieces_in, points_in}
use Rattle.buckets.specs.Pictures.{decide, FrameLeaf, leaf_micropolygons}
use Rattle.buckets.specs.Sampled.{ShowsMore}
use Rattle.buckets.specs.TileWalk.{Drawing, Counts, has_room, with_needed, points_by, leaf_points}
use Rattle.buckets.specs.Standing.{IsDrawable, IsShadedOf, IsGridOf, AreGrids, Keeps, CountsGo, Uses}
use Rattle.buckets.proofs.Counting.{needed_kept, needed_new, needed_rises}

pub points_of_leaf : (d : Drawing) (x : FrameLeaf) (p q : ℕ) → decide d.frame.camera x.prim x.part ≡ Dice p q → leaf_points d x ≡ line_count p * line_count q
unfolding leaf_points
points_of_leaf d x p q is = ap points_by is

pieces-more : (ks : List (Part × SeenGrid)) (k : Part × SeenGrid) → pieces_in (ks ++ k ∷ []) ≡ pieces_in ks ++ k.0 ∷ []
pieces-more [] k = refl
pieces-more (j ∷ js) k = ap (λ r. j.0 ∷ r) (pieces-more js k)

points-more : (ks : List (Part × SeenGrid)) (k : Part × SeenGrid) → points_in (ks ++ k ∷ []) ≡ points_in ks + k.1.grid.columns * k.1.grid.rows
points-more [] k = omega arith
points-more (j ∷ js) k = let e = points-more js k in omega (arith, e)

grids-more : (d : Drawing) (ks : List (Part × SeenGrid)) (k : Part × SeenGrid) → AreGrids d ks → IsGridOf d k.0 k.1 → AreGrids d (ks ++ k ∷ [])
grids-more d [] k h g = (g, tt)
grids-more d (j ∷ js) k h g = (h.0, grids-more d js k h.1 g)

-- the grid at a place is that of the piece there
pub grid_at : (d : Drawing) (ks : List (Part × SeenGrid)) (at' : ℕ) (part : Part) (grid : SeenGrid) → AreGrids d ks → slice_get (pieces_in ks) at' ≡ Some part → IfSome (slice_get ks at') (λ k. grid ≡ k.1) → IsGridOf d part grid
grid_at d [] at' part grid h there is = absurd (cc)
grid_at d (k ∷ ks) zero part grid h there is =
    let same : k.0 ≡ part = cc in
    subst (λ p. IsGridOf d p grid) same (subst (IsGridOf d k.0) (sym is) h.0)
grid_at d (k ∷ ks) (suc n) part grid h there is = grid_at d ks n part grid h.1 there is

pub uses_kept : (d : Drawing) (x : FrameLeaf) (kept : List (Part × SeenGrid)) (count : ℕ) (old new : TileValue) → AreGrids d kept → has x.part (pieces_in kept) ≡ true
    → ShowsMore d.frame.camera (leaf_micropolygons d.accepted d.frame x.prim x.part) old new → Uses true d x kept count old kept count new
uses_kept d x kept count old new grids there more = (
  grids,
  more,
  λ c k.
      let has' : has x.part c.kept ≡ true = ap (has x.part) k.pieces ∙ there in
      subst (λ c'. CountsGo c c' kept count count) (sym (needed_kept d.limit x.part (leaf_points d x) c has'))
      (record { keeps = k; shadings = refl; epochs = refl; most = refl }),
)

pub uses_new : (d : Drawing) (x : FrameLeaf) (kept kept' : List (Part × SeenGrid)) (count count' : ℕ) (old new : TileValue) (grid : SeenGrid) → AreGrids d kept
    → has x.part (pieces_in kept) ≡ false → nat_le (points_in kept + leaf_points d x) d.limit ≡ true
    → IsGridOf d x.part grid → grid.grid.columns * grid.grid.rows ≡ leaf_points d x → kept' ≡ kept ++ (x.part, grid) ∷ [] → count' ≡ count + 1
    → ShowsMore d.frame.camera (leaf_micropolygons d.accepted d.frame x.prim x.part) old new → Uses true d x kept count old kept' count' new
uses_new d x kept kept' count count' old new grid grids fresh room is points more counted shows = (
  subst (AreGrids d) (sym more) (grids-more d kept (x.part, grid) grids is),
  shows,
  λ c k.
      let n = leaf_points d x in
      let lacks : has x.part c.kept ≡ false = ap (has x.part) k.pieces ∙ fresh in
      let some : has_room d.limit n c ≡ true = ap (λ m. nat_le (m + n) d.limit) k.points ∙ room in
      let sum = points-more kept (x.part, grid) in
      let p = k.points in
      subst (λ c'. CountsGo c c' kept' count count') (sym (needed_new d.limit x.part n c lacks some))
      (record {
        keeps = record {
          pieces = ap (λ ps. ps ++ x.part ∷ []) k.pieces ∙ sym (pieces-more kept (x.part, grid)) ∙ ap pieces_in (sym more);
          points = (let e : c.points + n ≡ points_in (kept ++ (x.part, grid) ∷ []) = omega (arith, p, sum, points) in e) ∙ ap points_in (sym more);
        };
        shadings = omega (arith, counted);
        epochs = refl;
        most = refl;
      }),
)

-- where memory is wanting
pub part_kept : (d : Drawing) (x : FrameLeaf) (count : ℕ) (c : Counts) → count + c.shadings ≤ count + (with_needed d.limit x.part (leaf_points d x) c).shadings
part_kept d x count c = let r = needed_rises d.limit x.part (leaf_points d x) c in let s = r.shadings in omega (arith, s)

pub part_new : (d : Drawing) (x : FrameLeaf) (kept : List (Part × SeenGrid)) (count count' : ℕ) → has x.part (pieces_in kept) ≡ false → nat_le (points_in kept + leaf_points d x) d.limit ≡ true → count' ≤ count + 1
    → (c : Counts) → Keeps kept c → count' + c.shadings ≤ count + (with_needed d.limit x.part (leaf_points d x) c).shadings
part_new d x kept count count' fresh room few c k =
    let n = leaf_points d x in
    let lacks : has x.part c.kept ≡ false = ap (has x.part) k.pieces ∙ fresh in
    let some : has_room d.limit n c ≡ true = ap (λ m. nat_le (m + n) d.limit) k.points ∙ room in
    let is = ap (λ (c : Counts). c.shadings) (needed_new d.limit x.part n c lacks some) in
    omega (arith, is, few)

-- whether there is room, as the table tells it
pub has_room_as : (d : Drawing) (x : FrameLeaf) (p q : ℕ) (kept : List (Part × SeenGrid)) (limit points : ℕ) (room b : Bool) → decide d.frame.camera x.prim x.part ≡ Dice p q → points ≡ line_count p * line_count q → limit ≡ d.limit
    → room ≡ nat_le (points_in kept + points) limit → room ≡ b → nat_le (points_in kept + leaf_points d x) d.limit ≡ b
has_room_as d x p q kept limit points room b sizes is same told at' =
    ap (λ m. nat_le (points_in kept + m) d.limit) (points_of_leaf d x p q sizes ∙ sym is) ∙ ap (λ l. nat_le (points_in kept + points) l) (sym same) ∙ sym told ∙ at'

-- what the shop shades of a piece of the drawing's frame is the grid of that piece
pub shaded_as : (d : Drawing) (scene : SceneValue) (n : ℕ) (f : FrameValue) (set : SetValue) (prim : PrimValue) (part : Part) (p q : ℕ) (grid : GridRef) → scene ≡ d.accepted.scene → f ≡ d.frame → set ≡ d.accepted.set
    → slice_get scene.frames n ≡ Some f → slice_get d.frame.prims part.prim ≡ Some prim → decide d.frame.camera prim part ≡ Dice p q → IsShaded set scene n part p q grid → Closes scene n part p q grid → IsShadedOf d part grid
shaded_as d scene n f set prim part p q grid scenes frames sets there at' sizes shaded_is closes prim' p' q' at'' sizes' =
    let frame : slice_get scene.frames n ≡ Some d.frame = there ∙ ap Some frames in
    let prims : prim ≡ prim' = cc (sym at' ∙ at'') in
    let same : Dice p q ≡ Dice p' q' = sym sizes ∙ ap (λ (o : PrimValue). decide d.frame.camera o part) prims ∙ sizes' in
    let columns : p ≡ p' = cc in
    let rows : q ≡ q' = cc in
    let leaf : leaf_of d.frame prim' part p q ≡ leaf_of d.frame prim' part p' q' = ap (λ k. leaf_of d.frame prim' part k q) columns ∙ ap (leaf_of d.frame prim' part p') rows in (
      shaded_is d.frame prim' frame at''
          ∙ ap (λ (c : SceneValue). shaded (leaf_of d.frame prim' part p q) set c.uses) scenes
          ∙ ap (λ (s : SetValue). shaded (leaf_of d.frame prim' part p q) s d.accepted.scene.uses) sets
          ∙ ap (λ (l : Leaf). shaded l d.accepted.set d.accepted.scene.uses) leaf,
      closes d.frame prim' frame at'' ∙ ap (λ (l : Leaf). closing_of l grid.p.now) leaf,
    )

-- the points of a shaded grid
pub shaded_points : (f : FrameValue) (prim : PrimValue) (part : Part) (p q : ℕ) (s : SetValue) (uses : List ShaderUse)
    → (shaded (leaf_of f prim part p q) s uses).columns * (shaded (leaf_of f prim part p q) s uses).rows ≡ line_count p * line_count q
unfolding shaded
shaded_points f prim part p q s uses = refl

-- no leaf has more points than an empty epoch can keep
sixteen : (p : ℕ) → p ≤ 4 → line_count p ≤ 17
sixteen zero h = omega arith
sixteen (suc zero) h = omega arith
sixteen (suc (suc zero)) h = omega arith
sixteen (suc (suc (suc zero))) h = omega arith
sixteen (suc (suc (suc (suc zero)))) h = omega arith
sixteen (suc (suc (suc (suc (suc p))))) h = absurd (omega (arith, h))

pub fits_empty : (d : Drawing) (x : FrameLeaf) (p q : ℕ) → IsDrawable d → decide d.frame.camera x.prim x.part ≡ Dice p q → p ≤ 4 → q ≤ 4 → leaf_points d x ≤ d.limit
fits_empty d x p q h sizes low high =
    let is = points_of_leaf d x p q sizes in
    let most : line_count p * line_count q ≤ 17 * 17 = mul-le-mul (sixteen p low) (sixteen q high) in
    let limit = h.limit_low in
    omega (arith, is, most, limit)
