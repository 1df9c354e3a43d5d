use Rattle.std.proofs.Common.{rules, ◌≡◌, List, [], ◌∷◌, length, slice_index_or, ◌∙◌}
use Rattle.std.proofs.lemmas.Result.{IfOk-weaker}
use Rattle.account_text.specs.Fragments.{corners_json}
use Rattle.account_text.proofs.Corners.{four_points, four_corners}
use Rattle.account_text.proofs.fragments.corners_json.Goals as goal

pub returns : goal.returns
unfolding corners_json
returns c =
    let f = c.args.fragment.now in
    let ps = f.cell.points in
    let p = slice_index_or ps 0 c.index-points-0.result in
    let q = slice_index_or ps 1 c.index-points-1.result in
    let r = slice_index_or ps 2 c.index-points-2.result in
    let s = slice_index_or ps 3 c.index-points-3.result in
    let is : ps ≡ p ∷ q ∷ r ∷ s ∷ [] = four_points ps c.index-points-0.result c.index-points-1.result c.index-points-2.result c.index-points-3.result (search rules) in
    IfOk-weaker c.four_json.result _ _
    (λ v h. h ∙ four_corners ps p q r s f.seen.a f.seen.b f.seen.c f.seen.d _ _ _ _ is
    c.in_ok-a.ensures c.in_ok-b.ensures c.in_ok-c.ensures c.in_ok-d.ensures)
    c.four_json.ensures
