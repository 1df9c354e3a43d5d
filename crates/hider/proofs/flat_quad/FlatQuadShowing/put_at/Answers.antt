use Rattle.std.proofs.Common.{◌≡◌, refl, sym, true, false}
use Rattle.hider.specs.Bounding.{holds}
use Rattle.hider.proofs.flat_quad.FlatQuadShowing.put_at.Goals as goal

pub returns-then-not-holds : goal.returns-then-not-holds
returns-then-not-holds c =
    let q = c.args.self.now in
    let n : holds q.bounds.now c.at-s.result ≡ false = sym c.if-not-holds.ensures in
    let m = rw c.at-s.ensures at n in
    rw m refl

pub returns : goal.returns
returns c =
    let q = c.args.self.now in
    let n : holds q.bounds.now c.at-s.result ≡ true = sym c.if-not-holds.ensures in
    let m = rw c.at-s.ensures at n in
    rw m (rw c.at-s.ensures at c.put_inside.ensures)
