-- How much a frame takes at most, and what its drawing comes to.
use Rattle.std.proofs.Common.{◌≡◌, ℕ, ◌+◌, ◌-◌, ◌*◌, ◌≤◌, max, arith, sym, ◌∙◌, ap, List, [], ◌∷◌, length, length-append}
use Rattle.std.proofs.Math.Nat.{mul-le-mul}
use Rattle.std.proofs.lemmas.List.{length-map}
use Rattle.patches.specs.Parts.{Part, whole_of}
use Rattle.hider.specs.declared.seen_grid.SeenGrid.{SeenGrid}
use Rattle.bound_split.specs.Leaves.{leaves}
use Rattle.scene.specs.Scene.{PrimValue, FrameValue}
use Rattle.grid_epoch.specs.Kept.{points_in}
use Rattle.buckets.specs.Pictures.{decide, leaf_in, prim_leaves, leaves_from, frame_leaves}
use Rattle.buckets.specs.TileWalk.{Drawing, Counts, tile_count, tile_walk, past_tiles, most_points}
use Rattle.buckets.specs.Standing.{InEpoch, IsDrawable, Before}
use Rattle.buckets.proofs.LeafParts.{few_leaves}
use Rattle.buckets.proofs.Counting.{walk_rises}
use Rattle.buckets.proofs.BucketRows.{few_tiles}

-- no primitive has more than 65,536 leaves
few_from : (f : FrameValue) (n : ℕ) (ps : List PrimValue) → length (leaves_from f n ps) ≤ 65536 * length ps
few_from f n [] = omega arith
few_from f n (p ∷ ps) =
    let sum = length-append (prim_leaves f n p) (leaves_from f (n + 1) ps) in
    let same = length-map (leaves (decide f.camera p) (whole_of n)) (leaf_in p) in
    let few = few_leaves n (decide f.camera p) in
    let rest = few_from f (n + 1) ps in
    omega (arith, sum, same, few, rest)

few_frame : (f : FrameValue) → length f.prims ≤ 65536 → length (frame_leaves f) ≤ 4294967296
few_frame f few = let all = few_from f 0 f.prims in omega (arith, all, few)

-- a frame is shaded less than 2 ^ 53 times
pub few_shadings : (d : Drawing) → IsDrawable d → (tile_walk d).shadings ≤ 4503599627370496
few_shadings d h =
    let most : tile_count d * length (frame_leaves d.frame) ≤ 1048576 * 4294967296 = mul-le-mul (few_tiles d h) (few_frame d.frame h.few_prims) in
    let r = walk_rises d in
    let s = r.few_shadings in
    omega (arith, most, s)

pub few_epochs : (d : Drawing) → IsDrawable d → (tile_walk d).epochs ≤ 4503599627370497
few_epochs d h =
    let s = few_shadings d h in
    let r = walk_rises d in
    let e = r.few_epochs in
    omega (arith, s, e)

-- behind the last tile the counts are those of the whole walk
last_counts : (e : InEpoch) (n : ℕ) (kept : List (Part × SeenGrid)) (count : ℕ) → n ≡ tile_count e.begun.drawing → (b : Before e n kept count) → b.counts ≡ tile_walk e.begun.drawing
last_counts e n kept count is b =
    let d = e.begun.drawing in
    let none : tile_count d - n ≡ 0 = omega (arith, is) in
    ap (λ k. past_tiles d k n b.counts) (sym none) ∙ b.walk

pub ends_shadings : (e : InEpoch) (n : ℕ) (kept : List (Part × SeenGrid)) (count : ℕ) → n ≡ tile_count e.begun.drawing → Before e n kept count → count ≡ e.begun.count + (tile_walk e.begun.drawing).shadings
ends_shadings e n kept count is b = b.counted.shadings ∙ ap (λ (c : Counts). e.begun.count + c.shadings) (last_counts e n kept count is b)

pub ends_epochs : (e : InEpoch) (n : ℕ) (kept : List (Part × SeenGrid)) (count : ℕ) → n ≡ tile_count e.begun.drawing → Before e n kept count → e.epochs ≡ e.begun.epochs + (tile_walk e.begun.drawing).epochs
ends_epochs e n kept count is b = b.counted.epochs ∙ ap (λ (c : Counts). e.begun.epochs + c.epochs) (last_counts e n kept count is b)

pub ends_points : (e : InEpoch) (n : ℕ) (kept : List (Part × SeenGrid)) (count : ℕ) → n ≡ tile_count e.begun.drawing → Before e n kept count
    → max e.most_points (points_in kept) ≡ max e.begun.most_points (most_points e.begun.drawing)
ends_points e n kept count is b =
    let c = last_counts e n kept count is b in
    let m : e.most_points ≡ max e.begun.most_points (tile_walk e.begun.drawing).most = b.counted.most ∙ ap (λ (c : Counts). max e.begun.most_points c.most) c in
    let p : points_in kept ≡ (tile_walk e.begun.drawing).points = sym b.keeps.points ∙ ap (λ (c : Counts). c.points) c in
    omega (arith, m, p)
