use Rattle.std.proofs.Common.{◌≡◌, ◌∙◌, ◌<◌, ◌+◌, sym, ap, subst, Bool, false, true, length, ℕ, List, Option, Some, ◌∷◌, [], rules}
use Rattle.std.specs.Prelude.{slice_get}
use Rattle.outside.proofs.Puts.{on_err}
use Rattle.bound_split.specs.declared.walk.Leaf.{Leaf}
use Rattle.bound_split.specs.Extents.{pixels_of}
use Rattle.grid_epoch.specs.Kept.{points_in}
use Rattle.scene.specs.Scene.{FrameValue, PrimValue}
use Rattle.buckets.specs.Pictures.{leaf_in}
use Rattle.filter_ppm.specs.Bands.{rect_with}
use Rattle.buckets.specs.TileWalk.{tile_rect}
use Rattle.buckets.specs.Standing.{Goes, Going, PassesLeaf, next_epoch, to_come}
use Rattle.buckets.proofs.Going.{goes_next}
use Rattle.buckets.proofs.Stock.{keeps_stock}
use Rattle.buckets.proofs.Laws.{lawful}
use Rattle.buckets.proofs.Passing.{next_there, next_leaf_of, gives_again, some_leaf, fewer, going_again, can_shade}
use Rattle.buckets.proofs.tile_drawing.TileDrawing.fill.Goals as goal

pub prim_at-prim-requires : goal.prim_at-prim-requires
prim_at-prim-requires g c =
    let now = c.loop-self.self in
    let going : Going g.at_epoch now.at now.tile (Some c.in-Some.leaf) (to_come c.args.shown.now.frame.now now.leaves.number now.leaves.pieces) c.loop-self.epoch.kept c.loop-self.shop.count =
    subst (λ (o : Option Leaf). Going g.at_epoch now.at now.tile o (to_come c.args.shown.now.frame.now now.leaves.number now.leaves.pieces) c.loop-self.epoch.kept c.loop-self.shop.count) c.in-Some.is c.loop-self.invariant.going in
    let number = ap (λ (l : Leaf). l.piece.prim) c.leaf.view_is in
    subst (λ (k : ℕ). (p : PrimValue) × (slice_get c.args.shown.now.frame.now.prims k ≡ Some p)) (sym number)
    (subst (λ (f : FrameValue). (p : PrimValue) × (slice_get f.prims c.in-Some.leaf.piece.prim ≡ Some p)) (sym c.requires.0.frame)
    (next_there g.at_epoch now.at now.tile c.in-Some.leaf (to_come c.args.shown.now.frame.now now.leaves.number now.leaves.pieces) c.loop-self.epoch.kept c.loop-self.shop.count c.requires.0.drawable going))

pub pass_leaf-requires : goal.pass_leaf-requires
pass_leaf-requires g c =
    let e = g.at_epoch in
    let now = c.loop-self.self in
    let leaf = c.in-Some.leaf in
    let behind = to_come c.args.shown.now.frame.now now.leaves.number now.leaves.pieces in
    let kept = c.loop-self.epoch.kept in
    let count = c.loop-self.shop.count in
    let h = c.requires.0.drawable in
    let going : Going e now.at now.tile (Some leaf) behind kept count = subst (λ (o : Option Leaf). Going e now.at now.tile o behind kept count) c.in-Some.is c.loop-self.invariant.going in
    let there : slice_get e.begun.drawing.frame.prims leaf.piece.prim ≡ Some c.prim_at-prim.result.now = ap (λ (f : FrameValue). slice_get f.prims leaf.piece.prim) (sym c.requires.0.frame)
    ∙ ap (slice_get c.args.shown.now.frame.now.prims) (sym (ap (λ (l : Leaf). l.piece.prim) c.leaf.view_is)) ∙ c.prim_at-prim.ensures in
    let n = next_leaf_of e now.at now.tile leaf c.prim_at-prim.result.now behind kept count h going there in (
      c.requires.0,
      (
        record {
          set = keeps_stock c.loop-self.shop c.args.shop.now c.loop-self.invariant.set c.loop-self.invariant.textures ∙ c.requires.1.0;
          count = can_shade e now.at now.tile (leaf_in c.prim_at-prim.result.now leaf.piece ∷ behind) kept count h c.requires.0.count n.goes;
        },
        (
          record { there = there; sizes = n.sizes; p = n.p; q = n.q },
          (
            record { limit = c.loop-self.invariant.limit ∙ c.requires.1.1.0; grids = n.goes.grids },
            c.loop-self.invariant.leaves ∙ c.requires.0.frame,
          ),
        ),
      ),
    )

pub returns-in_err-pass_leaf : goal.returns-in_err-pass_leaf
returns-in_err-pass_leaf g c =
    let e = g.at_epoch in
    let now = c.loop-self.self in
    let leaf = c.in-Some.leaf in
    let behind = to_come c.args.shown.now.frame.now now.leaves.number now.leaves.pieces in
    let kept = c.loop-self.epoch.kept in
    let count = c.loop-self.shop.count in
    let going : Going e now.at now.tile (Some leaf) behind kept count = subst (λ (o : Option Leaf). Going e now.at now.tile o behind kept count) c.in-Some.is c.loop-self.invariant.going in
    let there : slice_get e.begun.drawing.frame.prims leaf.piece.prim ≡ Some c.prim_at-prim.result.now = ap (λ (f : FrameValue). slice_get f.prims leaf.piece.prim) (sym c.requires.0.frame)
    ∙ ap (slice_get c.args.shown.now.frame.now.prims) (sym (ap (λ (l : Leaf). l.piece.prim) c.leaf.view_is)) ∙ c.prim_at-prim.ensures in
    let n = next_leaf_of e now.at now.tile leaf c.prim_at-prim.result.now behind kept count c.requires.0.drawable going there in
    let i = c.loop-self.invariant in
    let passes = c.pass_leaf.ensures.passes in
    record {
      same = i.at_same;
      rect = i.rect;
      leaves = c.pass_leaf.ensures.sights ∙ i.leaves;
      limit = passes.limit ∙ i.limit;
      keeps = record { set = passes.keeps.set ∙ i.set; textures = passes.keeps.textures ∙ i.textures };
      ended = search rules;
      full = search rules;
      part = on_err _ _ (c.in_err-pass_leaf.ensures.passes.part now.at behind n.meets n.goes);
    }

pub returns-then-not-branch : goal.returns-then-not-branch
returns-then-not-branch g c =
    let e = g.at_epoch in
    let now = c.loop-self.self in
    let leaf = c.in-Some.leaf in
    let behind = to_come c.args.shown.now.frame.now now.leaves.number now.leaves.pieces in
    let kept = c.loop-self.epoch.kept in
    let count = c.loop-self.shop.count in
    let h = c.requires.0.drawable in
    let going : Going e now.at now.tile (Some leaf) behind kept count = subst (λ (o : Option Leaf). Going e now.at now.tile o behind kept count) c.in-Some.is c.loop-self.invariant.going in
    let there : slice_get e.begun.drawing.frame.prims leaf.piece.prim ≡ Some c.prim_at-prim.result.now = ap (λ (f : FrameValue). slice_get f.prims leaf.piece.prim) (sym c.requires.0.frame)
    ∙ ap (slice_get c.args.shown.now.frame.now.prims) (sym (ap (λ (l : Leaf). l.piece.prim) c.leaf.view_is)) ∙ c.prim_at-prim.ensures in
    let n = next_leaf_of e now.at now.tile leaf c.prim_at-prim.result.now behind kept count h going there in
    let prim = c.prim_at-prim.result.now in
    let kept' = c.pass_leaf.new.epoch.kept in
    let count' = c.pass_leaf.new.shop.count in
    let passed : PassesLeaf false e (leaf_in prim leaf.piece) now.tile kept count c.pass_leaf.new.tile kept' count' =
    subst (λ (b : Bool). PassesLeaf b e (leaf_in prim leaf.piece) now.tile kept count c.pass_leaf.new.tile kept' count') c.if-not-branch.true c.in_ok-pass_leaf.ensures.passes.passed in
    let next = next_epoch (points_in kept') e in
    let i = c.loop-self.invariant in
    let passes = c.pass_leaf.ensures.passes in
    record {
      same = i.at_same;
      rect = i.rect;
      leaves = c.pass_leaf.ensures.sights ∙ i.leaves;
      limit = passes.limit ∙ i.limit;
      keeps = record { set = passes.keeps.set ∙ i.set; textures = passes.keeps.textures ∙ i.textures };
      ended = λ none. absurd (cc (sym none ∙ c.in-Some.is));
      full = λ some.
          subst (λ (o : Option Leaf). Going next now.at c.pass_leaf.new.tile o behind [] count') (sym c.in-Some.is)
          (going_again next now.at c.pass_leaf.new.tile leaf prim behind [] count' n.sizes n.p n.q n.meets (passed now.at behind n.meets n.goes));
      part = tt;
    }

pub loop-self-smaller : goal.loop-self-smaller
loop-self-smaller g c =
    let e = g.at_epoch in
    let now = c.loop-self.self in
    let leaf = c.in-Some.leaf in
    let behind = to_come c.args.shown.now.frame.now now.leaves.number now.leaves.pieces in
    let kept = c.loop-self.epoch.kept in
    let count = c.loop-self.shop.count in
    let h = c.requires.0.drawable in
    let going : Going e now.at now.tile (Some leaf) behind kept count = subst (λ (o : Option Leaf). Going e now.at now.tile o behind kept count) c.in-Some.is c.loop-self.invariant.going in
    let there : slice_get e.begun.drawing.frame.prims leaf.piece.prim ≡ Some c.prim_at-prim.result.now = ap (λ (f : FrameValue). slice_get f.prims leaf.piece.prim) (sym c.requires.0.frame)
    ∙ ap (slice_get c.args.shown.now.frame.now.prims) (sym (ap (λ (l : Leaf). l.piece.prim) c.leaf.view_is)) ∙ c.prim_at-prim.ensures in
    let n = next_leaf_of e now.at now.tile leaf c.prim_at-prim.result.now behind kept count h going there in
    let d = e.begun.drawing in
    let prim = c.prim_at-prim.result.now in
    let f = c.args.shown.now.frame.now in
    let kept' = c.pass_leaf.new.epoch.kept in
    let count' = c.pass_leaf.new.shop.count in
    let new = to_come f c.next-self.new.self.number c.next-self.new.self.pieces in
    let passed : PassesLeaf true e (leaf_in prim leaf.piece) now.tile kept count c.pass_leaf.new.tile kept' count' =
    subst (λ (b : Bool). PassesLeaf b e (leaf_in prim leaf.piece) now.tile kept count c.pass_leaf.new.tile kept' count') c.if-not-branch.false c.in_ok-pass_leaf.ensures.passes.passed in
    let rect : rect_with now.rect ≡ tile_rect d now.at = ap (λ (r : List ℕ). rect_with r) c.loop-self.invariant.rect ∙ c.requires.1.1.1.rect ∙ ap (tile_rect d) (sym c.loop-self.invariant.at_same) in
    let past : Goes e now.at c.pass_leaf.new.tile behind kept' count' = passed now.at behind n.meets n.goes in
    let gives = gives_again c.next-self.result e now.at c.pass_leaf.new.sights f (pixels_of now.rect) c.pass_leaf.new.tile past.shown (λ v. to_come v now.leaves.number now.leaves.pieces) (λ v. to_come v c.next-self.new.self.number c.next-self.new.self.pieces)
    (c.pass_leaf.ensures.sights ∙ c.loop-self.invariant.leaves) c.requires.0.frame rect past.grid past.shows c.next-self.ensures.next in
    let less = fewer c.next-self.result d.frame _ behind new gives in
    let one : some_leaf now.next ≡ 1 = ap (λ (o : Option Leaf). some_leaf o) c.in-Some.is in
    let all : some_leaf c.next-self.result + length new < some_leaf now.next + length behind = subst (λ (k : ℕ). some_leaf c.next-self.result + length new < k + length behind) (sym one) less in
    all

pub loop-self-preserved : goal.loop-self-preserved
loop-self-preserved g c =
    let e = g.at_epoch in
    let now = c.loop-self.self in
    let leaf = c.in-Some.leaf in
    let behind = to_come c.args.shown.now.frame.now now.leaves.number now.leaves.pieces in
    let kept = c.loop-self.epoch.kept in
    let count = c.loop-self.shop.count in
    let h = c.requires.0.drawable in
    let going : Going e now.at now.tile (Some leaf) behind kept count = subst (λ (o : Option Leaf). Going e now.at now.tile o behind kept count) c.in-Some.is c.loop-self.invariant.going in
    let there : slice_get e.begun.drawing.frame.prims leaf.piece.prim ≡ Some c.prim_at-prim.result.now = ap (λ (f : FrameValue). slice_get f.prims leaf.piece.prim) (sym c.requires.0.frame)
    ∙ ap (slice_get c.args.shown.now.frame.now.prims) (sym (ap (λ (l : Leaf). l.piece.prim) c.leaf.view_is)) ∙ c.prim_at-prim.ensures in
    let n = next_leaf_of e now.at now.tile leaf c.prim_at-prim.result.now behind kept count h going there in
    let d = e.begun.drawing in
    let prim = c.prim_at-prim.result.now in
    let f = c.args.shown.now.frame.now in
    let kept' = c.pass_leaf.new.epoch.kept in
    let count' = c.pass_leaf.new.shop.count in
    let new = to_come f c.next-self.new.self.number c.next-self.new.self.pieces in
    let passed : PassesLeaf true e (leaf_in prim leaf.piece) now.tile kept count c.pass_leaf.new.tile kept' count' =
    subst (λ (b : Bool). PassesLeaf b e (leaf_in prim leaf.piece) now.tile kept count c.pass_leaf.new.tile kept' count') c.if-not-branch.false c.in_ok-pass_leaf.ensures.passes.passed in
    let rect : rect_with now.rect ≡ tile_rect d now.at = ap (λ (r : List ℕ). rect_with r) c.loop-self.invariant.rect ∙ c.requires.1.1.1.rect ∙ ap (tile_rect d) (sym c.loop-self.invariant.at_same) in
    let past : Goes e now.at c.pass_leaf.new.tile behind kept' count' = passed now.at behind n.meets n.goes in
    let gives = gives_again c.next-self.result e now.at c.pass_leaf.new.sights f (pixels_of now.rect) c.pass_leaf.new.tile past.shown (λ v. to_come v now.leaves.number now.leaves.pieces) (λ v. to_come v c.next-self.new.self.number c.next-self.new.self.pieces)
    (c.pass_leaf.ensures.sights ∙ c.loop-self.invariant.leaves) c.requires.0.frame rect past.grid past.shows c.next-self.ensures.next in
    record {
      at_same = c.loop-self.invariant.at_same;
      rect = c.loop-self.invariant.rect;
      limit = c.pass_leaf.ensures.passes.limit ∙ c.loop-self.invariant.limit;
      set = c.pass_leaf.ensures.passes.keeps.set ∙ c.loop-self.invariant.set;
      textures = c.pass_leaf.ensures.passes.keeps.textures ∙ c.loop-self.invariant.textures;
      leaves = c.next-self.ensures.frame ∙ c.pass_leaf.ensures.sights ∙ c.loop-self.invariant.leaves;
      going = goes_next c.next-self.result e now.at c.pass_leaf.new.tile behind new kept' count' (lawful d now.at h) past gives;
    }
