use Rattle.std.proofs.Common.{◌≡◌, sym, ◌∙◌, ap, length}
use Rattle.std.proofs.lemmas.Slice.Zip.{firsts-zip}
use Rattle.grid_epoch.specs.Kept.{pieces_in}
use Rattle.grid_epoch.proofs.Keeping.{there_is, placed_at, placed_within, length-pairs}
use Rattle.grid_epoch.proofs.epoch.Epoch.find.Goals as goal

pub returns-clause-there : goal.returns-clause-there
returns-clause-there c =
    let pieces = c.self.inside.pieces.keys in
    let e : pieces_in c.args.self.now.kept ≡ pieces = ap (λ v. pieces_in v.kept) (sym c.self.view_is) ∙ firsts-zip pieces c.self.inside.grids.items c.self.invariant.alike in
    rw e (there_is c.args.piece.now pieces c.get_index_of.result c.get_index_of.ensures.found)

pub returns-clause-place : goal.returns-clause-place
returns-clause-place c =
    let pieces = c.self.inside.pieces.keys in
    let e : pieces_in c.args.self.now.kept ≡ pieces = ap (λ v. pieces_in v.kept) (sym c.self.view_is) ∙ firsts-zip pieces c.self.inside.grids.items c.self.invariant.alike in
    rw e (placed_at c.args.piece.now pieces c.get_index_of.result c.get_index_of.ensures.index)

pub returns-clause-within : goal.returns-clause-within
returns-clause-within c =
    let pieces = c.self.inside.pieces.keys in
    let e : length c.args.self.now.kept ≡ length pieces = ap (λ v. length v.kept) (sym c.self.view_is) ∙ length-pairs pieces c.self.inside.grids.items c.self.invariant.alike in
    rw e (placed_within c.args.piece.now pieces c.get_index_of.result c.get_index_of.ensures.index)
