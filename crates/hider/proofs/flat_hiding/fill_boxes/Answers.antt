use Rattle.std.proofs.Common.{◌+◌, ◌∙◌, ap, sym, subst, length, ℕ, false}
use Rattle.hider.specs.CellValues.{values_of}
use Rattle.hider.specs.Flat.{flat_of}
use Rattle.hider.proofs.Besides.{AreFirstBoxes, length_pushed, one_more_box}
use Rattle.hider.proofs.flat_hiding.fill_boxes.Goals as goal

pub loop-cell-preserved : goal.loop-cell-preserved
loop-cell-preserved g c =
    let i = c.loop-cell.invariant in
    let k = values_of false c.args.grid.now in
    let n = c.loop-cell.cell in
    let boxes = c.loop-cell.boxes.items in
    let b = c.bounds_of.result in
    record {
      counted = ap length c.in_ok-push.ensures.items ∙ length_pushed boxes b ∙ ap (λ (m : ℕ). m + 1) i.counted;
      each = λ v h. subst (AreFirstBoxes v k (n + 1)) (sym c.in_ok-push.ensures.items) (one_more_box v k n boxes b (flat_of c.flat_cell.result) i.counted (c.flat_cell.ensures v h).placed c.bounds_of.ensures (i.each v h));
    }
