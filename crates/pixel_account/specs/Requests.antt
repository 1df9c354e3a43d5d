-- A place among a scene's shader requests.
use Rattle.std.specs.Prelude.{ℕ, ◌<◌, List, length}
use Rattle.scene.specs.declared.uses.ShaderUse.{ShaderUse}

abbrev pub IsThere : List ShaderUse → ℕ → Type 0
IsThere uses n = n < length uses
