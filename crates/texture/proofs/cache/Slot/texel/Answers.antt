use Rattle.std.proofs.Common.{◌∙◌, sym}
use Rattle.texture.proofs.Filled.{known_texel}
use Rattle.texture.proofs.cache.Slot.texel.Goals as goal

pub returns-in-Some-clause-value : goal.returns-in-Some-clause-value
returns-in-Some-clause-value c =
    let here = c.requires.inside in
    known_texel c.args.texture.now c.args.tile c.args.x c.args.y c.args.self.now.texels c.in-Some.texel c.requires.texels here.across here.up (sym c.known.ensures ∙ c.in-Some.is)
