use Rattle.std.proofs.Common.{◌≡◌, ap, arith}
use Rattle.std.specs.Prelude.{ℤ, pos, List, slice_index_or}
use Rattle.fixed_math.specs.Spots.{Spot}
use Rattle.hider.specs.Tiles.{sample_of}
use Rattle.hider.proofs.Small.{read64}
use Rattle.filter_ppm.proofs.Places.{on_raster}
use Rattle.filter_ppm.proofs.sampling.sample_at.Goals as goal

pub new-requires-clause-x : goal.new-requires-clause-x
new-requires-clause-x c =
    let s : Spot = (sample_of c.args.tile.now.grid c.args.n).place in
    let small = (on_raster c.args.tile.now.grid c.args.n c.requires.grid c.requires.inside).small_x in
    let e : slice_index_or c.at-place.result 0 (pos 0) ≡ s.x = ap (λ (l : List ℤ). slice_index_or l 0 (pos 0)) c.at-place.ensures in
    rw (e, read64 s.x (omega (arith, small))) small

pub new-requires-clause-y : goal.new-requires-clause-y
new-requires-clause-y c =
    let s : Spot = (sample_of c.args.tile.now.grid c.args.n).place in
    let small = (on_raster c.args.tile.now.grid c.args.n c.requires.grid c.requires.inside).small_y in
    let e : slice_index_or c.at-place.result 1 (pos 0) ≡ s.y = ap (λ (l : List ℤ). slice_index_or l 1 (pos 0)) c.at-place.ensures in
    rw (e, read64 s.y (omega (arith, small))) small
