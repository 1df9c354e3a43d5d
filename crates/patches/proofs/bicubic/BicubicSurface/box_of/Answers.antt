use Rattle.std.proofs.Common.{lit<, ap, ◌∙◌, sym, subst, ◌^◌}
use Rattle.fixed_math.specs.Axes.{AreWithin}
use Rattle.patches.specs.Nets.{bicubic_net}
use Rattle.patches.specs.Parts.{rect_of}
use Rattle.patches.specs.Boxes.{corners, least_box}
use Rattle.patches.specs.BoxLaws.{least_box-IsOrdered, least_box-within}
use Rattle.patches.proofs.bicubic.BicubicSurface.box_of.Goals as goal

pub returns-clause-ordered : goal.returns-clause-ordered
returns-clause-ordered c = least_box-IsOrdered (bicubic_net c.args.self.now (rect_of c.args.piece.now)) (lit< tt)

pub returns-clause-small : goal.returns-clause-small
returns-clause-small c =
    subst (AreWithin (2 ^ 30)) (sym (c.box_of_points.ensures ∙ ap (λ ps. corners (least_box ps)) c.as_slice.ensures.value))
    (least_box-within (2 ^ 30) c.net-net.result.items c.net-net.ensures.some c.net-net.ensures.small)
