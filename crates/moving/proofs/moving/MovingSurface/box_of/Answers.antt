use Rattle.std.proofs.Common.{sym, subst, ◌^◌}
use Rattle.fixed_math.specs.Axes.{AreWithin}
use Rattle.patches.specs.Boxes.{Box}
use Rattle.patches.specs.Parts.{rect_of}
use Rattle.moving.specs.MovingLaws.{both-IsOrdered, both-within}
use Rattle.moving.proofs.moving.MovingSurface.box_of.Goals as goal

pub returns-clause-value : goal.returns-clause-value
returns-clause-value g c =
    c.both_boxes.ensures (g.S.Surface.box_in c.args.self.now.first.now (rect_of c.args.piece.now)) (g.S.Surface.box_in c.args.self.now.last.now (rect_of c.args.piece.now))
    c.box_of.ensures.value c.box_of-2.ensures.value

pub returns-clause-ordered : goal.returns-clause-ordered
returns-clause-ordered g c =
    both-IsOrdered (g.S.Surface.box_in c.args.self.now.first.now (rect_of c.args.piece.now)) (g.S.Surface.box_in c.args.self.now.last.now (rect_of c.args.piece.now)) c.box_of.ensures.ordered

pub returns-clause-small : goal.returns-clause-small
returns-clause-small g c =
    let b : Box = g.S.Surface.box_in c.args.self.now.first.now (rect_of c.args.piece.now) in
    let d : Box = g.S.Surface.box_in c.args.self.now.last.now (rect_of c.args.piece.now) in
    subst (AreWithin (2 ^ 30)) (sym (c.both_boxes.ensures b d c.box_of.ensures.value c.box_of-2.ensures.value))
    (both-within (2 ^ 30) b d (subst (AreWithin (2 ^ 30)) c.box_of.ensures.value c.box_of.ensures.small) (subst (AreWithin (2 ^ 30)) c.box_of-2.ensures.value c.box_of-2.ensures.small))
