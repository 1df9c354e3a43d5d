use Rattle.std.proofs.Common.{ap, subst, sym}
use Rattle.texture.specs.Slots.{Held, AreOf}
use Rattle.texture.proofs.Filled.{more_known}
use Rattle.texture.proofs.cache.Slot.learn.Goals as goal

pub returns-clause-texels : goal.returns-clause-texels
returns-clause-texels c =
    let here = c.requires.inside in
    let known = subst (AreOf c.args.texture.now c.args.tile) (ap (λ (h : Held). h.texels) (sym c.self.view_is)) c.requires.texels in
    more_known c.args.texture.now c.args.tile c.args.x c.args.y c.self.inside.texels.items c.texel-texel.result known here.across here.up c.self.invariant c.texel-texel.ensures
