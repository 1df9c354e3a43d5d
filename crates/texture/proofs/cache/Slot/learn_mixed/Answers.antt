use Rattle.std.proofs.Common.{refl, sym, subst, ◌≤◌}
use Rattle.texture.specs.declared.look.Tile.{Tile}
use Rattle.texture.specs.Looks.{colour_of}
use Rattle.texture.specs.Slots.{AreOf}
use Rattle.texture.proofs.LookSteps.{is_texel, mixed_through}
use Rattle.texture.proofs.cache.Slot.learn_mixed.Goals as goal

pub texel-left-requires-clause-texels : goal.texel-left-requires-clause-texels
texel-left-requires-clause-texels c = subst (λ k. AreOf c.args.texture.now k c.args.self.now.texels) (sym c.tile-tile.ensures) c.requires.texels

pub texel-left-requires-clause-level : goal.texel-left-requires-clause-level
texel-left-requires-clause-level c = subst (λ (k : Tile). k.level ≤ 11) (sym c.tile-tile.ensures) c.requires.around.level

pub texel-left-requires-clause-inside : goal.texel-left-requires-clause-inside
texel-left-requires-clause-inside c =
    let a = c.requires.around in
    is_texel c.args.texture.now c.args.a c.tile-tile.result c.tile-tile.ensures c.args.a.across.first c.args.a.up.first a.across.first a.up.first a.across.first_most a.up.first_most refl refl

pub texel-right-requires-clause-inside : goal.texel-right-requires-clause-inside
texel-right-requires-clause-inside c =
    let a = c.requires.around in
    is_texel c.args.texture.now c.args.a c.tile-tile.result c.tile-tile.ensures c.args.a.across.second c.args.a.up.first a.across.second a.up.first a.across.second_most a.up.first_most c.requires.one.columns refl

pub texel-below_left-requires-clause-inside : goal.texel-below_left-requires-clause-inside
texel-below_left-requires-clause-inside c =
    let a = c.requires.around in
    is_texel c.args.texture.now c.args.a c.tile-tile.result c.tile-tile.ensures c.args.a.across.first c.args.a.up.second a.across.first a.up.second a.across.first_most a.up.second_most refl c.requires.one.rows

pub texel-below_right-requires-clause-inside : goal.texel-below_right-requires-clause-inside
texel-below_right-requires-clause-inside c =
    let a = c.requires.around in
    is_texel c.args.texture.now c.args.a c.tile-tile.result c.tile-tile.ensures c.args.a.across.second c.args.a.up.second a.across.second a.up.second a.across.second_most a.up.second_most c.requires.one.columns c.requires.one.rows

pub returns-clause-value : goal.returns-clause-value
returns-clause-value c =
    mixed_through c.args.texture.now c.args.a c.tile-tile.result c.tile-tile.ensures
    (colour_of c.texel-left.result) (colour_of c.texel-right.result) (colour_of c.texel-below_left.result) (colour_of c.texel-below_right.result) (colour_of c.mixed.result)
    c.texel-left.ensures.value c.texel-right.ensures.value c.texel-below_left.ensures.value c.texel-below_right.ensures.value c.mixed.ensures

pub returns-clause-texels : goal.returns-clause-texels
returns-clause-texels c = subst (λ k. AreOf c.args.texture.now k c.texel-below_right.new.self.texels) c.tile-tile.ensures c.texel-below_right.ensures.texels
