use Rattle.std.proofs.Common.{◌≡◌, arith, sym, subst, refl}
use Rattle.std.specs.Prelude.{None}
use Rattle.hider.specs.declared.sample.Sample.{Sample}
use Rattle.hider.specs.CellValues.{micropolygon_of}
use Rattle.hider.specs.Fragments.{fragment_of}
use Rattle.hider.specs.Tiles.{sample_of}
use Rattle.hider.proofs.Passages.{outside_of}
use Rattle.hider.proofs.moving_cell.MovingCellShowing.put_at.Goals as goal

pub returns-then-not-holds : goal.returns-then-not-holds
returns-then-not-holds g c =
    let m = c.args.self.now in
    let w = m.camera.now in
    let p = micropolygon_of (g.C.Cells.values m.cells.now) m.one_sided m.flip m.cell in
    let k = c.step_of.result in
    let s = c.sample-sample.result in
    let v = c.step_of.ensures.value in
    let n : fragment_of w s p ≡ None = m.in_steps k _ c.step_of.ensures.step s (omega (arith, v)) (omega (arith, v)) (outside_of _ s.place (sym c.if-not-holds.ensures)) in
    let q : fragment_of w (sample_of c.args.places.now.grid c.args.n) p ≡ None = subst (λ (x : Sample). fragment_of w x p ≡ None) c.sample-sample.ensures n in
    rw q refl

pub returns-then-is_beside : goal.returns-then-is_beside
returns-then-is_beside g c =
    let m = c.args.self.now in
    let w = m.camera.now in
    let p = micropolygon_of (g.C.Cells.values m.cells.now) m.one_sided m.flip m.cell in
    let n : fragment_of w c.sample-sample.result p ≡ None = c.is_beside.ensures c.if-is_beside.true in
    let q : fragment_of w (sample_of c.args.places.now.grid c.args.n) p ≡ None = subst (λ (x : Sample). fragment_of w x p ≡ None) c.sample-sample.ensures n in
    rw q refl
