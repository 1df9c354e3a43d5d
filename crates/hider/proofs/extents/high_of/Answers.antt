use Rattle.std.proofs.Common.{slice_index_or}
use Rattle.hider.specs.Extents.{IsBelow}
use Rattle.hider.proofs.Boxes.{all_four, below_through}
use Rattle.hider.proofs.extents.high_of.Goals as goal

pub returns : goal.returns
returns c =
    let q = c.high-3.result in
    let i = slice_index_or c.args.corners.now 0 c.index-corners-0.result in
    let j = slice_index_or c.args.corners.now 1 c.index-corners-1.result in
    let k = slice_index_or c.args.corners.now 2 c.index-corners-2.result in
    let l = slice_index_or c.args.corners.now 3 c.index-corners-3.result in
    all_four (λ r. IsBelow r q) c.args.corners.now c.index-corners-0.result c.index-corners-1.result c.index-corners-2.result c.index-corners-3.result c.type_inv.corners
    (below_through i c.high.result q c.high.ensures.first c.high-3.ensures.first)
    (below_through j c.high.result q c.high.ensures.second c.high-3.ensures.first)
    (below_through k c.high-2.result q c.high-2.ensures.first c.high-3.ensures.second)
    (below_through l c.high-2.result q c.high-2.ensures.second c.high-3.ensures.second)
