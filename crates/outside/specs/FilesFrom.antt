-- What rows of files and of names hold.
use Rattle.std.specs.Prelude.{ℕ, List, [], ◌∷◌, map, string_bytes, String}
use Rattle.std.specs.declared.alloc.Global.{Global}
use Rattle.std.specs.FinMap as finite
use Rattle.outside.specs.Library.{Files}
use Rattle.outside.specs.declared.memory_library.File.{File}

-- the newest, which stands first, holds
abbrev pub files_from : List File → Files
files_from [] = finite.empty
files_from (f ∷ fs) = finite.insert (files_from fs) (string_bytes f.name) f.bytes.items

-- names as the lists of their bytes
abbrev pub names_of : List (String Global) → List (List ℕ)
names_of names = map (λ s. string_bytes s) names
