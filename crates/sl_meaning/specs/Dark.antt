-- What lies around a point that no light reaches, as where a parameter's default is evaluated.
use Rattle.std.specs.Prelude.{pos, [], None}
use Rattle.transforms.specs.declared.spaces.Spaces.{Spaces}
use Rattle.sl_meaning.specs.Environment.{Around}

-- no lights, no grid and no textures
abbrev pub dark : Spaces → Around
dark sp = record { lines = record { columns = 0; rows = 0; du = pos 0; dv = pos 0 }; spaces = sp; lights = []; images = λ k. None }
