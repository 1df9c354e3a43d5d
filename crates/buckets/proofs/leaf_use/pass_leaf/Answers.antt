use Rattle.std.proofs.Common.{◌∙◌, ap, sym, refl, rules}
use Rattle.std.specs.Prelude.{slice_get}
use Rattle.scene.specs.Scene.{FrameValue}
use Rattle.outside.proofs.Puts.{on_err}
use Rattle.buckets.specs.Pictures.{leaf_in}
use Rattle.buckets.proofs.Using.{fits_empty}
use Rattle.buckets.proofs.Passing.{passes_behind, passes_used, passes_in_part}
use Rattle.buckets.proofs.leaf_use.pass_leaf.Goals as goal

pub is_behind-requires : goal.is_behind-requires
is_behind-requires g c =
    ap (λ (f : FrameValue). slice_get f.prims c.args.leaf.now.piece.prim) c.requires.1.1.1.1 ∙ c.requires.1.1.0.there

pub returns-then-is_behind-clause-passes : goal.returns-then-is_behind-clause-passes
returns-then-is_behind-clause-passes g c = record {
  limit = refl;
  keeps = record { set = refl; textures = refl };
  passed = passes_behind g.at_epoch (leaf_in c.args.prim.now c.args.leaf.now.piece) c.args.tile.now c.args.epoch.now.kept c.args.shop.now.count c.requires.0.drawable
      (λ f s. (c.is_behind.ensures.behind g.at_epoch.begun.drawing f (sym c.requires.1.1.1.1) s).0 c.if-is_behind.true);
  part = tt;
}

pub returns-in_err-used-clause-passes : goal.returns-in_err-used-clause-passes
returns-in_err-used-clause-passes g c = record {
  limit = c.use_leaf.ensures.limit;
  keeps = c.use_leaf.ensures.keeps;
  passed = search rules;
  part = on_err _ _ (passes_in_part g.at_epoch (leaf_in c.args.prim.now c.args.leaf.now.piece) c.args.tile.now c.args.epoch.now.kept c.args.shop.now.count c.use_leaf.new.shop.count c.is_behind.result c.if-is_behind.false
      (λ f s. c.is_behind.ensures.behind g.at_epoch.begun.drawing f (sym c.requires.1.1.1.1) s) c.in_err-used.ensures.part);
}

pub returns-clause-passes : goal.returns-clause-passes
returns-clause-passes g c =
    let d = g.at_epoch.begun.drawing in
    let leaf = c.args.leaf.now in
    let x = leaf_in c.args.prim.now leaf.piece in
    record {
      limit = c.use_leaf.ensures.limit;
      keeps = c.use_leaf.ensures.keeps;
      passed = passes_used c.in_ok-used.used g.at_epoch x c.args.tile.now c.use_leaf.new.tile c.args.epoch.now.kept c.use_leaf.new.epoch.kept c.args.shop.now.count c.use_leaf.new.shop.count c.is_behind.result c.if-is_behind.false
          (λ f s. c.is_behind.ensures.behind d f (sym c.requires.1.1.1.1) s) (fits_empty d x leaf.p leaf.q c.requires.0.drawable c.requires.1.1.0.sizes c.requires.1.1.0.p c.requires.1.1.0.q) c.use_leaf.ensures.grid c.in_ok-used.ensures.used;
      part = tt;
    }
