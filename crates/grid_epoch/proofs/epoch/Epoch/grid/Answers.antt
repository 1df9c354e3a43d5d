use Rattle.std.proofs.Common.{arith, ◌≡◌, sym, ◌∙◌, ap, length}
use Rattle.std.specs.List.{zip}
use Rattle.grid_epoch.proofs.Keeping.{length-pairs, grid_at}
use Rattle.grid_epoch.proofs.epoch.Epoch.grid.Goals as goal

pub index-requires : goal.index-requires
index-requires c =
    let pieces = c.self.inside.pieces.keys in
    let e : length c.args.self.now.kept ≡ length pieces = ap (λ v. length v.kept) (sym c.self.view_is) ∙ length-pairs pieces c.self.inside.grids.items c.self.invariant.alike in
    omega (arith, e, c.requires, c.self.invariant.alike)

pub returns : goal.returns
returns c =
    let pieces = c.self.inside.pieces.keys in
    let grids = c.self.inside.grids.items in
    let l : length c.args.self.now.kept ≡ length pieces = ap (λ v. length v.kept) (sym c.self.view_is) ∙ length-pairs pieces grids c.self.invariant.alike in
    let k : c.args.self.now.kept ≡ zip pieces grids = ap (λ v. v.kept) (sym c.self.view_is) in
    let at = grid_at pieces grids c.args.at c.index.result.now c.self.invariant.alike (omega (arith, l, c.requires, c.self.invariant.alike)) in
    rw k (rw c.index.ensures at)
