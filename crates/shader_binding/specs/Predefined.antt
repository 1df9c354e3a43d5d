-- The variables of primitives that set predefined variables of shaders (RenderMan Interface 3.2, section 5, primitive variables).
use Rattle.std.specs.Prelude.{ℕ, Bool, ◌||◌, List, codes}
use Rattle.std.specs.Str.{bytes_eq}

-- variables of these names set predefined variables alone
abbrev pub sets_predefined : List ℕ → Bool
sets_predefined name =
    bytes_eq name (codes "P") || (bytes_eq name (codes "N") || (bytes_eq name (codes "Cs") || (bytes_eq name (codes "Os") || (bytes_eq name (codes "s") || (bytes_eq name (codes "t") || bytes_eq name (codes "st"))))))
