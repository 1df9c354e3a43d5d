use Rattle.std.proofs.Common.{◌∙◌, ap, true, false, refl, sym, arith, rules}
use Rattle.scene.specs.Scene.{FrameValue}
use Rattle.outside.proofs.Puts.{on_err}
use Rattle.buckets.specs.Pictures.{leaf_in}
use Rattle.buckets.specs.Standing.{UsesInPart}
use Rattle.buckets.proofs.Using.{grid_at, points_of_leaf, uses_kept, uses_new, part_kept, part_new, has_room_as}
use Rattle.buckets.proofs.leaf_use.use_leaf.Goals as goal

pub hide_leaf-requires : goal.hide_leaf-requires
hide_leaf-requires g c = (
  ap (λ (f : FrameValue). f.camera) (c.frame.view_is ∙ c.requires.0.frame),
  (
    c.requires.1.1.0,
    grid_at g.begun.drawing c.args.epoch.now.kept c.in-Some.at c.args.leaf.now.piece c.grid.result c.requires.1.1.1.grids c.in-Some.ensures.place c.grid.ensures,
  ),
)

pub hide_leaf-requires-2 : goal.hide_leaf-requires-2
hide_leaf-requires-2 g c =
    (ap (λ (f : FrameValue). f.camera) (c.frame.view_is ∙ c.requires.0.frame), (c.requires.1.1.0, c.in_ok-seen.ensures.kept.grid))

pub returns-in_err-hide_leaf : goal.returns-in_err-hide_leaf
returns-in_err-hide_leaf g c =
    let part : UsesInPart g.begun.drawing (leaf_in c.args.prim.now c.args.leaf.now.piece) c.args.epoch.now.kept c.args.shop.now.count c.args.shop.now.count =
    (omega arith, omega arith, λ n k. part_kept g.begun.drawing (leaf_in c.args.prim.now c.args.leaf.now.piece) c.args.shop.now.count n) in
    record { limit = refl; grid = c.hide_leaf.ensures.grid; keeps = record { set = refl; textures = refl }; used = search rules; part = on_err _ _ part }

pub returns-in-Some : goal.returns-in-Some
returns-in-Some g c = record {
  limit = refl;
  grid = c.hide_leaf.ensures.grid;
  keeps = record { set = refl; textures = refl };
  used = uses_kept g.begun.drawing (leaf_in c.args.prim.now c.args.leaf.now.piece) c.args.epoch.now.kept c.args.shop.now.count c.args.tile.now c.hide_leaf.new.tile
      c.requires.1.1.1.grids c.in-Some.ensures.there c.in_ok-hide_leaf.ensures.shows;
  part = tt;
}

pub returns-then-not-room : goal.returns-then-not-room
returns-then-not-room g c = record {
  limit = refl;
  grid = refl;
  keeps = record { set = refl; textures = refl };
  used = (
    refl,
    refl,
    refl,
    c.in_default.ensures.there,
    has_room_as g.begun.drawing (leaf_in c.args.prim.now c.args.leaf.now.piece) c.args.leaf.now.p c.args.leaf.now.q c.args.epoch.now.kept c.args.epoch.now.limit c.points_of.result c.room.result false
        c.requires.1.1.0.sizes c.points_of.ensures c.requires.1.1.1.limit c.room.ensures.value c.if-not-room.true,
  );
  part = tt;
}

pub returns-in_err-seen : goal.returns-in_err-seen
returns-in_err-seen g c =
    let room = has_room_as g.begun.drawing (leaf_in c.args.prim.now c.args.leaf.now.piece) c.args.leaf.now.p c.args.leaf.now.q c.args.epoch.now.kept c.args.epoch.now.limit c.points_of.result c.room.result true
    c.requires.1.1.0.sizes c.points_of.ensures c.requires.1.1.1.limit c.room.ensures.value c.if-not-room.false in
    let part : UsesInPart g.begun.drawing (leaf_in c.args.prim.now c.args.leaf.now.piece) c.args.epoch.now.kept c.args.shop.now.count c.shade_leaf.new.shop.count = (
      c.shade_leaf.ensures.shop.least,
      c.shade_leaf.ensures.shop.most,
      part_new g.begun.drawing (leaf_in c.args.prim.now c.args.leaf.now.piece) c.args.epoch.now.kept c.args.shop.now.count c.shade_leaf.new.shop.count c.in_default.ensures.there room c.shade_leaf.ensures.shop.most,
    ) in
    record { limit = c.shade_leaf.ensures.limit; grid = refl; keeps = c.shade_leaf.ensures.shop.keeps; used = search rules; part = on_err _ _ part }

pub returns-in_err-hide_leaf-2 : goal.returns-in_err-hide_leaf-2
returns-in_err-hide_leaf-2 g c =
    let room = has_room_as g.begun.drawing (leaf_in c.args.prim.now c.args.leaf.now.piece) c.args.leaf.now.p c.args.leaf.now.q c.args.epoch.now.kept c.args.epoch.now.limit c.points_of.result c.room.result true
    c.requires.1.1.0.sizes c.points_of.ensures c.requires.1.1.1.limit c.room.ensures.value c.if-not-room.false in
    let part : UsesInPart g.begun.drawing (leaf_in c.args.prim.now c.args.leaf.now.piece) c.args.epoch.now.kept c.args.shop.now.count c.shade_leaf.new.shop.count = (
      c.shade_leaf.ensures.shop.least,
      c.shade_leaf.ensures.shop.most,
      part_new g.begun.drawing (leaf_in c.args.prim.now c.args.leaf.now.piece) c.args.epoch.now.kept c.args.shop.now.count c.shade_leaf.new.shop.count c.in_default.ensures.there room c.shade_leaf.ensures.shop.most,
    ) in
    record { limit = c.shade_leaf.ensures.limit; grid = c.hide_leaf-2.ensures.grid; keeps = c.shade_leaf.ensures.shop.keeps; used = search rules; part = on_err _ _ part }

pub returns : goal.returns
returns g c =
    let d = g.begun.drawing in
    let leaf = c.args.leaf.now in
    let x = leaf_in c.args.prim.now leaf.piece in
    let room = has_room_as d x leaf.p leaf.q c.args.epoch.now.kept c.args.epoch.now.limit c.points_of.result c.room.result true
    c.requires.1.1.0.sizes c.points_of.ensures c.requires.1.1.1.limit c.room.ensures.value c.if-not-room.false in
    record {
      limit = c.shade_leaf.ensures.limit;
      grid = c.hide_leaf-2.ensures.grid;
      keeps = c.shade_leaf.ensures.shop.keeps;
      used = uses_new d x c.args.epoch.now.kept c.shade_leaf.new.epoch.kept c.args.shop.now.count c.shade_leaf.new.shop.count c.args.tile.now c.hide_leaf-2.new.tile c.in_ok-seen.seen c.requires.1.1.1.grids
          c.in_default.ensures.there room c.in_ok-seen.ensures.kept.grid (c.in_ok-seen.ensures.kept.points ∙ sym (points_of_leaf d x leaf.p leaf.q c.requires.1.1.0.sizes)) c.in_ok-seen.ensures.kept.kept c.in_ok-seen.ensures.shop.count c.in_ok-hide_leaf-2.ensures.shows;
      part = tt;
    }
