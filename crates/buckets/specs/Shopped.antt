-- The scene that a shop shades.
use Rattle.scene.specs.Scene.{SceneValue}
use Rattle.displace_shade.specs.Shop.{shop_set}
use Rattle.displace_shade.specs.declared.shop.Shop.{Shop}
use Rattle.shader_binding.specs.Sets.{AcceptedValue}

-- a scene with the set of a shop
abbrev pub shaded_by : SceneValue → Shop → AcceptedValue
shaded_by s shop = record { scene = s; set = shop_set shop }
