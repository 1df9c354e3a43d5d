use Rattle.std.proofs.Common.{subst}
use Rattle.std.specs.Prelude.{IfSome}
use Rattle.texture.specs.Around.{AreKnown}
use Rattle.texture.specs.Looks.{colour_of}
use Rattle.texture.proofs.LookSteps.{known_mixed}
use Rattle.texture.proofs.cache.Slot.mixed.Goals as goal

pub returns-in-Some-clause-value : goal.returns-in-Some-clause-value
returns-in-Some-clause-value c =
    let a = c.args.a in
    let xs = c.args.self.now.texels in
    known_mixed c.args.texture.now a xs c.in-Some.corners (colour_of c.mixed.result) c.requires.one c.requires.texels
    (subst (λ o. IfSome o (AreKnown xs a)) c.in-Some.is c.corners.ensures) c.mixed.ensures
