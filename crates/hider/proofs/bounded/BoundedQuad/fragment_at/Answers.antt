use Rattle.std.proofs.Common.{◌∙◌, ap, arith, sym}
use Rattle.std.specs.Prelude.{◌<ℤ◌}
use Rattle.std.proofs.lemmas.Int.{ints}
use Rattle.hider.specs.declared.quad.Quad.{Quad}
use Rattle.hider.specs.Coverage.{covers}
use Rattle.hider.proofs.Outside.{left_of, right_of, above, below}
use Rattle.hider.proofs.bounded.BoundedQuad.fragment_at.Goals as goal

pub returns-then-x-self : goal.returns-then-x-self
returns-then-x-self c =
    let b = c.self.inside.bounds in
    let s = c.args.s in
    let h : s.x <ℤ b.left = omega (arith, ints, c.if-x-self.true, c.x.ensures.value) in
    sym (left_of b c.self.inside.quad s c.self.invariant h) ∙ ap (λ (q : Quad). covers q s) c.self.view_is

pub returns-then-self-x : goal.returns-then-self-x
returns-then-self-x c =
    let b = c.self.inside.bounds in
    let s = c.args.s in
    let h : b.right <ℤ s.x = omega (arith, ints, c.if-self-x.true, c.x-2.ensures.value) in
    sym (right_of b c.self.inside.quad s c.self.invariant h) ∙ ap (λ (q : Quad). covers q s) c.self.view_is

pub returns-then-y-self : goal.returns-then-y-self
returns-then-y-self c =
    let b = c.self.inside.bounds in
    let s = c.args.s in
    let h : s.y <ℤ b.top = omega (arith, ints, c.if-y-self.true, c.y.ensures.value) in
    sym (above b c.self.inside.quad s c.self.invariant h) ∙ ap (λ (q : Quad). covers q s) c.self.view_is

pub returns-then-self-y : goal.returns-then-self-y
returns-then-self-y c =
    let b = c.self.inside.bounds in
    let s = c.args.s in
    let h : b.bottom <ℤ s.y = omega (arith, ints, c.if-self-y.true, c.y-2.ensures.value) in
    sym (below b c.self.inside.quad s c.self.invariant h) ∙ ap (λ (q : Quad). covers q s) c.self.view_is
