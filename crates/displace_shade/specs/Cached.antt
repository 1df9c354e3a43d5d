-- The textures of a scene as its shaders look them up.
use Rattle.std.specs.Prelude.{◌≡◌, List, [], Option, Some, None}
use Rattle.texture.specs.Images.{Image}
use Rattle.texture.specs.Slots.{Kept}

-- what contracts see of a cache
pub record CacheValue : Type 0 where
  pub textures : List Image

-- a cache of these textures, or none where there are no textures
abbrev pub AreCached : List Image → Option Kept → Type 0
AreCached images None = images ≡ []
AreCached images (Some cache) = cache.textures ≡ images
