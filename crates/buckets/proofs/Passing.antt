-- A leaf that is next in a tile, and what becomes of it.
use Rattle.std.proofs.Common.{◌≡◌, ℕ, ◌+◌, ◌^◌, ◌<◌, ◌≤◌, arith, refl, sym, ◌∙◌, ap, subst, Bool, true, false, ◌↔◌, List, [], ◌∷◌, ◌++◌, Option, Some, None, length, length-append}
use Rattle.std.specs.Prelude.{ℤ, slice_get, IsTrue}
use Rattle.patches.specs.Parts.{Part}
use Rattle.hider.specs.declared.seen_grid.SeenGrid.{SeenGrid}
use Rattle.bound_split.specs.declared.walk.Leaf.{Leaf}
use Rattle.bound_split.specs.declared.splits.Decision.TheVariants.{Dice}
use Rattle.scene.specs.Scene.{PrimValue, FrameValue}
use Rattle.hider.specs.declared.fragment.Fragment.{Fragment}
use Rattle.hider.specs.declared.sample.Sample.{Sample}
use Rattle.hider.specs.Tiles.{TileValue, Shows, BlocksAll}
use Rattle.grid_epoch.specs.Kept.{points_in}
use Rattle.buckets.specs.Pictures.{decide, FrameLeaf, leaf_in, frame_leaves}
use Rattle.fixed_math.specs.Spots.{PixelRect}
use Rattle.buckets.specs.TileWalk.{nearest, meets_tile, behind_in, fragments_of, leaf_points, tile_grid, tile_rect}
use Rattle.buckets.specs.Standing.{InEpoch, IsDrawable, Goes, Going, IsLeafOf, GivesNext, Uses, UsesInPart, PassesLeaf, PassesInPart, next_epoch, shows_in}
use Rattle.buckets.proofs.Going.{GivesShown, goes_behind, goes_used, goes_full, goes_used_part, goes_shaded, not_behind}
use Rattle.buckets.specs.Sampled.{TellsBehind}
use Rattle.buckets.proofs.Behind.{tells}
use Rattle.buckets.proofs.Laws.{leaf_is_in, leaf_lawful}
use Rattle.buckets.proofs.Bounds.{few_shadings}
use Rattle.buckets.proofs.BucketPixels.{rect_is}

-- the next leaf with its primitive
pub record NextLeaf (e : InEpoch) (n : ℕ) (tile : TileValue) (leaf : Leaf) (prim : PrimValue) (behind : List FrameLeaf) (kept : List (Part × SeenGrid)) (count : ℕ) : Type 0 where
  pub sizes : decide e.begun.drawing.frame.camera prim leaf.piece ≡ Dice leaf.p leaf.q
  pub p : leaf.p ≤ 4
  pub q : leaf.q ≤ 4
  pub meets : meets_tile e.begun.drawing n (leaf_in prim leaf.piece) ≡ true
  pub goes : Goes e n tile (leaf_in prim leaf.piece ∷ behind) kept count

next_of : (e : InEpoch) (n : ℕ) (tile : TileValue) (leaf : Leaf) (x : FrameLeaf) (part : Part) (behind rest : List FrameLeaf) (kept : List (Part × SeenGrid)) (count : ℕ)
    → x.part ≡ part → leaf.piece ≡ part → IsLeafOf e.begun.drawing.frame leaf x → meets_tile e.begun.drawing n x ≡ true → rest ≡ x ∷ behind → Goes e n tile rest kept count
    → NextLeaf e n tile leaf x.prim behind kept count
next_of e n tile leaf x part behind rest kept count same at' is meets split g =
    let one : x ≡ leaf_in x.prim leaf.piece = ap (leaf_in x.prim) is.part in
    record {
      sizes = is.sizes;
      p = is.p;
      q = is.q;
      meets = ap (meets_tile e.begun.drawing n) (sym one) ∙ meets;
      goes = subst (λ y. Goes e n tile (y ∷ behind) kept count) one (subst (λ r. Goes e n tile r kept count) split g);
    }

-- its primitive is one of the frame
pub next_there : (e : InEpoch) (n : ℕ) (tile : TileValue) (leaf : Leaf) (behind : List FrameLeaf) (kept : List (Part × SeenGrid)) (count : ℕ) → IsDrawable e.begun.drawing → Going e n tile (Some leaf) behind kept count
    → (p : PrimValue) × (slice_get e.begun.drawing.frame.prims leaf.piece.prim ≡ Some p)
next_there e n tile leaf behind kept count h g =
    let d = e.begun.drawing in
    let x = g.comes.0 in
    let all : g.goes.past ++ x ∷ behind ≡ frame_leaves d.frame = ap (λ r. g.goes.past ++ r) (sym g.comes.3) ∙ g.goes.split in
    let is = leaf_is_in d g.goes.past x behind h all in
    (x.prim, ap (λ (p : Part). slice_get d.frame.prims p.prim) (sym g.comes.1.part) ∙ is.there)

pub next_leaf_of : (e : InEpoch) (n : ℕ) (tile : TileValue) (leaf : Leaf) (prim : PrimValue) (behind : List FrameLeaf) (kept : List (Part × SeenGrid)) (count : ℕ) → IsDrawable e.begun.drawing → (g : Going e n tile (Some leaf) behind kept count)
    → slice_get e.begun.drawing.frame.prims leaf.piece.prim ≡ Some prim → NextLeaf e n tile leaf prim behind kept count
next_leaf_of e n tile leaf prim behind kept count h g there =
    let d = e.begun.drawing in
    let x = g.comes.0 in
    let all : g.goes.past ++ x ∷ behind ≡ frame_leaves d.frame = ap (λ r. g.goes.past ++ r) (sym g.comes.3) ∙ g.goes.split in
    let is = leaf_is_in d g.goes.past x behind h all in
    let at' : slice_get d.frame.prims leaf.piece.prim ≡ Some x.prim = ap (λ (p : Part). slice_get d.frame.prims p.prim) (sym g.comes.1.part) ∙ is.there in
    let same : x.prim ≡ prim = cc (sym at' ∙ there) in
    subst (λ p. NextLeaf e n tile leaf p behind kept count) same (next_of e n tile leaf x leaf.piece behind g.rest kept count g.comes.1.part refl g.comes.1 g.comes.2 g.comes.3 g.goes)

-- ---- what becomes of it
pub passes_behind : (e : InEpoch) (x : FrameLeaf) (tile : TileValue) (kept : List (Part × SeenGrid)) (count : ℕ) → IsDrawable e.begun.drawing
    → ((f : Sample → List Fragment) → Shows tile f → BlocksAll (nearest e.begun.drawing x) tile.grid f) → PassesLeaf true e x tile kept count tile kept count
passes_behind e x tile kept count h blocked = λ n rest meets g.
    goes_behind e n tile x rest kept count (leaf_lawful e.begun.drawing n x (leaf_is_in e.begun.drawing g.past x rest h g.split)) meets blocked g

pub passes_used : (b : Bool) (e : InEpoch) (x : FrameLeaf) (old new : TileValue) (kept kept' : List (Part × SeenGrid)) (count count' : ℕ) (behind : Bool) → behind ≡ false
    → ((f : Sample → List Fragment) → Shows old f → IsTrue behind ↔ BlocksAll (nearest e.begun.drawing x) old.grid f) → leaf_points e.begun.drawing x ≤ e.begun.drawing.limit → new.grid ≡ old.grid
    → Uses b e.begun.drawing x kept count old kept' count' new → PassesLeaf b e x old kept count new kept' count'
passes_used true e x old new kept kept' count count' behind is blocked fits same u = λ n rest meets g.
    goes_used e n old new x rest kept kept' count count' meets same u.0 u.1 u.2 g (not_behind e n old x rest kept count behind is blocked g)
passes_used false e x old new kept kept' count count' behind is blocked fits same u = λ n rest meets g.
    let next = goes_full e n old x rest kept count meets fits u.3 u.4 g (not_behind e n old x rest kept count behind is blocked g) in
    subst (λ ks. Goes (next_epoch (points_in ks) e) n new (x ∷ rest) [] count') (sym u.0)
    (subst (λ t. Goes (next_epoch (points_in kept) e) n t (x ∷ rest) [] count') (sym u.2) (subst (λ k. Goes (next_epoch (points_in kept) e) n old (x ∷ rest) [] k) (sym u.1) next))

pub passes_in_part : (e : InEpoch) (x : FrameLeaf) (old : TileValue) (kept : List (Part × SeenGrid)) (count count' : ℕ) (behind : Bool) → behind ≡ false
    → ((f : Sample → List Fragment) → Shows old f → IsTrue behind ↔ BlocksAll (nearest e.begun.drawing x) old.grid f) → UsesInPart e.begun.drawing x kept count count' → PassesInPart e x old kept count count'
passes_in_part e x old kept count count' behind is blocked u = λ n rest meets g.
    goes_used_part e n old x rest kept count count' meets u.0 u.2 g (not_behind e n old x rest kept count behind is blocked g)

-- ---- the next one
-- by the frame and the rectangle that the code has, where the tile shows what the drawing shows
pub gives_as : (next : Option Leaf) (e : InEpoch) (n : ℕ) (f : FrameValue) (r : PixelRect) (t : TileValue) (shown : List FrameLeaf) (old new : FrameValue → List FrameLeaf)
    → f ≡ e.begun.drawing.frame → r ≡ tile_rect e.begun.drawing n → t.grid ≡ tile_grid e.begun.drawing n → Shows t (fragments_of e.begun.drawing shown)
    → ((back : ℤ → Bool) → TellsBehind t back → GivesNext f (shows_in f r back) next (old f) (new f)) → GivesShown e n shown next (old e.begun.drawing.frame) (new e.begun.drawing.frame)
gives_as next e n f r t shown old new frame rect grid shows gives =
    let d = e.begun.drawing in
    let back = behind_in d n shown in
    subst (λ q. GivesNext d.frame (shows_in d.frame q back) next (old d.frame) (new d.frame)) (rect ∙ sym (rect_is d n))
    (subst (λ (g : FrameValue). GivesNext g (shows_in g r back) next (old g) (new g)) frame (gives back (tells d n shown t grid shows)))

-- by the frame that the walk's sights have
pub gives_again : (next : Option Leaf) (e : InEpoch) (n : ℕ) (g f : FrameValue) (r : PixelRect) (t : TileValue) (shown : List FrameLeaf) (old new : FrameValue → List FrameLeaf)
    → g ≡ f → f ≡ e.begun.drawing.frame → r ≡ tile_rect e.begun.drawing n → t.grid ≡ tile_grid e.begun.drawing n → Shows t (fragments_of e.begun.drawing shown)
    → ((back : ℤ → Bool) → TellsBehind t back → GivesNext g (shows_in g r back) next (old g) (new g)) → GivesShown e n shown next (old f) (new f)
gives_again next e n g f r t shown old new same frame rect grid shows gives =
    subst (λ (v : FrameValue). GivesShown e n shown next (old v) (new v)) (sym frame) (gives_as next e n g r t shown old new (same ∙ frame) rect grid shows gives)

-- the first leaf of a frame in a tile
pub gives_first : (next : Option Leaf) (f g : FrameValue) (r q : PixelRect) (back : ℤ → Bool) (first new : FrameValue → List FrameLeaf) → f ≡ g → r ≡ q → ((v : FrameValue) → first v ≡ frame_leaves v)
    → GivesNext f (shows_in f r back) next (first f) (new f) → GivesNext g (shows_in g q back) next (frame_leaves g) (new g)
gives_first next f g r q back first new same rect all gives =
    subst (λ (v : FrameValue). GivesNext v (shows_in v q back) next (frame_leaves v) (new v)) same
    (subst (λ p. GivesNext f (shows_in f p back) next (frame_leaves f) (new f)) rect (subst (λ xs. GivesNext f (shows_in f r back) next xs (new f)) (all f) gives))

abbrev pub some_leaf : Option Leaf → ℕ
some_leaf None = 0
some_leaf (Some leaf) = 1

-- there is one leaf less to come
pub fewer : (next : Option Leaf) (f : FrameValue) (test : FrameLeaf → Bool) (old new : List FrameLeaf) → GivesNext f test next old new → some_leaf next + length new < 1 + length old
fewer None f test old new gives = let none = ap (λ (xs : List FrameLeaf). length xs) gives.1 in omega (arith, none)
fewer (Some leaf) f test old new gives =
    let split = ap (λ (xs : List FrameLeaf). length xs) gives.3.split in
    let sum = length-append gives.3.skipped (gives.0 ∷ new) in
    omega (arith, split, sum)

-- a leaf that was next, in the next epoch
pub going_again : (e : InEpoch) (n : ℕ) (tile : TileValue) (leaf : Leaf) (prim : PrimValue) (behind : List FrameLeaf) (kept : List (Part × SeenGrid)) (count : ℕ)
    → decide e.begun.drawing.frame.camera prim leaf.piece ≡ Dice leaf.p leaf.q → leaf.p ≤ 4 → leaf.q ≤ 4 → meets_tile e.begun.drawing n (leaf_in prim leaf.piece) ≡ true → Goes e n tile (leaf_in prim leaf.piece ∷ behind) kept count
    → Going e n tile (Some leaf) behind kept count
going_again e n tile leaf prim behind kept count sizes p q meets g =
    record { rest = leaf_in prim leaf.piece ∷ behind; comes = (leaf_in prim leaf.piece, record { part = refl; sizes = sizes; p = p; q = q }, meets, refl); goes = g }

-- shading can go on
pub can_shade : (e : InEpoch) (n : ℕ) (tile : TileValue) (rest : List FrameLeaf) (kept : List (Part × SeenGrid)) (count : ℕ) → IsDrawable e.begun.drawing → e.begun.count ≤ 2 ^ 62 → Goes e n tile rest kept count → count < 18446744073709551615
can_shade e n tile rest kept count h few g =
    let most = goes_shaded e n tile rest kept count g in
    let all = few_shadings e.begun.drawing h in
    omega (arith, most.1, all, few)
