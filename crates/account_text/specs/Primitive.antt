-- The primitive of a fragment in JSON.
use Rattle.std.specs.Prelude.{ℕ, List, [], ◌∷◌, codes, slice_index_or, Option, Some, None}
use Rattle.serde_json.specs.Data.{Data, null, boolean, string}
use Rattle.pixel_record.specs.declared.primitive.PrimitiveAccount.{PrimitiveAccount}
use Rattle.pixel_record.specs.declared.primitive.ShaderRequest.{ShaderRequest}
use Rattle.account_text.specs.Numbers.{object_of, count, num}

-- where a patch stands in its mesh
abbrev pub mesh_json : List ℕ → Data
mesh_json place = object_of (
    (codes "column", count (slice_index_or place 0 0)) ∷
    (codes "columns", count (slice_index_or place 1 0)) ∷
    (codes "row", count (slice_index_or place 2 0)) ∷
    (codes "rows", count (slice_index_or place 3 0)) ∷ [])

-- a shader by its name, with the line of its request in the scene
abbrev pub shader_json : ShaderRequest → Data
shader_json s = object_of ((codes "line", count s.line) ∷ (codes "name", string s.name) ∷ [])

abbrev pub shader_or_none : Option ShaderRequest → Data
shader_or_none None = null
shader_or_none (Some s) = shader_json s

-- the primitive, with its shaders but for its lights
unfoldable pub primitive_json : PrimitiveAccount → Data
primitive_json p = object_of (
    (codes "atmosphere", shader_or_none p.atmosphere) ∷
    (codes "bound", num p.bound) ∷
    (codes "displacement", shader_or_none p.displacement) ∷
    (codes "flip", boolean p.flip) ∷
    (codes "line", count p.line) ∷
    (codes "mesh", mesh_json p.place) ∷
    (codes "moves", boolean p.moves) ∷
    (codes "number", count p.number) ∷
    (codes "one_sided", boolean p.one_sided) ∷
    (codes "rate", num p.rate) ∷
    (codes "smooth", boolean p.smooth) ∷
    (codes "surface", shader_json p.surface) ∷ [])
