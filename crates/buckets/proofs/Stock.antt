-- A shop that keeps its shaders and its textures keeps the set that it shades by.
use Rattle.std.proofs.Common.{◌≡◌, ◌∙◌, ap}
use Rattle.displace_shade.specs.Shop.{set_value, shop_set}
use Rattle.displace_shade.specs.declared.set.ShaderSet.{ShaderSet}
use Rattle.displace_shade.specs.declared.shop.Shop.{Shop}

pub keeps_stock : (a b : Shop) → a.set ≡ b.set → a.cache.textures ≡ b.cache.textures → shop_set a ≡ shop_set b
keeps_stock a b same textures = ap (λ (s : ShaderSet). set_value s a.cache.textures) same ∙ ap (set_value b.set) textures
