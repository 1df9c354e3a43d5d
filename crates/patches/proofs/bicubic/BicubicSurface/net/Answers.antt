use Rattle.std.proofs.Common.{rules, sym, subst, refl, lit<, ◌^◌}
use Rattle.fixed_math.specs.Axes.{AreWithin}
use Rattle.fixed_math.specs.Blossom.{denominator}
use Rattle.patches.specs.Nets.{bicubic_net}
use Rattle.patches.specs.Parts.{rect_of, IsPart}
use Rattle.patches.specs.BoxLaws.{Each-AreWithin, net_points-within}
use Rattle.patches.proofs.Spans.{rect_of-IsRect}
use Rattle.patches.proofs.bicubic.BicubicSurface.net.Goals as goal

pub returns-clause-value : goal.returns-clause-value
returns-clause-value c = search rules

pub returns-clause-small : goal.returns-clause-small
returns-clause-small c =
    let t = c.args.piece.now in
    subst (AreWithin (2 ^ 30)) (sym (returns-clause-value c))
    (Each-AreWithin (2 ^ 30) (bicubic_net c.args.self.now (rect_of t))
    (net_points-within 3 4 (denominator ^ 6) (2 ^ 30) c.args.self.now (rect_of t) (lit< tt) refl (rect_of-IsRect t (subst IsPart c.piece.view_is c.piece.invariant))
    (subst (AreWithin (2 ^ 30)) c.self.view_is c.self.invariant)))
