use Rattle.std.proofs.Common.{◌≡◌, ◌∙◌, sym, ap, Some}
use Rattle.hider.specs.Cells.{quad_of}
use Rattle.hider.proofs.Stills.{covers_inside, unseen_put, seen_put}
use Rattle.hider.proofs.hiding.hide_still.Goals as goal

pub put_near-requires-clause-inside : goal.put_near-requires-clause-inside
put_near-requires-clause-inside c = covers_inside c.new-shown.result c.bounds.result.now c.bounds.ensures

pub returns-in-None : goal.returns-in-None
returns-in-None c =
    unseen_put c.args.camera.now c.args.one_sided c.args.flip c.args.cell.now c.args.places.now.grid c.args.lists.now (sym c.quad_of.ensures ∙ c.in-None.is)

pub returns-in_ok-put_near-in-Some : goal.returns-in_ok-put_near-in-Some
returns-in_ok-put_near-in-Some c =
    let v = c.args.camera.now in
    let k = c.args.cell.now in
    let q = c.new-shown.result in
    let e : quad_of v c.args.one_sided c.args.flip k ≡ Some q = sym c.quad_of.ensures ∙ c.in-Some.is ∙ ap Some (sym c.new-shown.ensures) in
    seen_put v c.args.one_sided c.args.flip k q c.args.places.now.grid c.args.lists.now c.put_near.new.lists e c.in_ok-put_near-in-Some.ensures
