use Rattle.std.proofs.Common.{◌≡◌, ◌∙◌, ap, sym, subst, refl, List, slice_index_or}
use Rattle.std.specs.Prelude.{OnOk}
use Rattle.hider.specs.declared.fragment.Fragment.{Fragment}
use Rattle.hider.specs.Flat.{FlatCell}
use Rattle.hider.specs.Kept.{keep_all}
use Rattle.hider.proofs.Whens.{IsFlatWhen, seen_when, beside_when, flat_shown}
use Rattle.hider.proofs.moving_cell.MovingCell.put_points.Goals as goal

pub returns-then-not-holds : goal.returns-then-not-holds
returns-then-not-holds g c =
    let m = c.args.self.now in
    let w = m.camera.now in
    let v = g.C.Cells.values m.cells.now in
    let s = c.args.sample.now in
    let l = c.args.points.now in
    let o = c.requires.points in
    let f : FlatCell = record {
      a = slice_index_or l 0 c.index-points-0.result;
      b = slice_index_or l 1 c.index-points-1.result;
      c = slice_index_or l 2 c.index-points-2.result;
      d = slice_index_or l 3 c.index-points-3.result;
      colour = m.colour;
      opacity = m.opacity;
    } in
    let h : IsFlatWhen w v m.cell s.time f = record {
      a = ap (λ x. slice_index_or x 0 c.index-points-0.result) o;
      b = ap (λ x. slice_index_or x 1 c.index-points-1.result) o;
      c = ap (λ x. slice_index_or x 2 c.index-points-2.result) o;
      d = ap (λ x. slice_index_or x 3 c.index-points-3.result) o;
      colour = m.colour_is;
      opacity = m.opacity_is;
    } in
    let n = beside_when w v m.cell f m.one_sided m.flip s c.bounds_of-bounds.result h (seen_when w v m.cell s.time f h ∙ c.requires.seen) c.bounds_of-bounds.ensures (sym c.if-not-holds.ensures) in
    rw n refl

pub returns-then-self : goal.returns-then-self
returns-then-self g c =
    let m = c.args.self.now in
    let w = m.camera.now in
    let v = g.C.Cells.values m.cells.now in
    let s = c.args.sample.now in
    let l = c.args.points.now in
    let o = c.requires.points in
    let f : FlatCell = record {
      a = slice_index_or l 0 c.index-points-0.result;
      b = slice_index_or l 1 c.index-points-1.result;
      c = slice_index_or l 2 c.index-points-2.result;
      d = slice_index_or l 3 c.index-points-3.result;
      colour = m.colour;
      opacity = m.opacity;
    } in
    let h : IsFlatWhen w v m.cell s.time f = record {
      a = ap (λ x. slice_index_or x 0 c.index-points-0.result) o;
      b = ap (λ x. slice_index_or x 1 c.index-points-1.result) o;
      c = ap (λ x. slice_index_or x 2 c.index-points-2.result) o;
      d = ap (λ x. slice_index_or x 3 c.index-points-3.result) o;
      colour = m.colour_is;
      opacity = m.opacity_is;
    } in
    let e = flat_shown w v m.cell f m.one_sided m.flip s h (m.one_colour c.if-self.true) (seen_when w v m.cell s.time f h ∙ c.requires.seen) in
    subst (λ (x : List Fragment). OnOk c.put_flat.result (c.put_flat.new.list ≡ keep_all c.args.list.now x)) (sym e) (rw (c.requires.sample) c.put_flat.ensures)
