-- The textures of a scene: what the look-ups of its uses name, and what is read of their files (RenderMan Interface 3.2, Shading Language, section
-- 15.7).
use Rattle.std.specs.Prelude.{ℕ, ◌+◌, Bool, true, false, ◌&&◌, List, [], ◌∷◌, ◌++◌, length, filter, map, get_or, All, ◌<◌, Option, Some, None, Ok, Err, if◌then◌else◌, nat_lt, nat_le, slice_get}
use Rattle.outside.specs.Library.{Files, held_as}
use Rattle.texture.specs.Images.{Image, image_bytes}
use Rattle.sl_ast.specs.declared.typed.Value.{Value}
use Rattle.sl_ast.specs.declared.typed.Value.TheVariants.{Number, Triple, Word}
use Rattle.sl_ast.specs.declared.typed.Variable.TheVariants.{Level}
use Rattle.sl_ast.specs.Textures.{texture_nodes}
use Rattle.sl_ast.specs.Typed.{Expr, word, variable, Tree}
use Rattle.acceptance.specs.declared.code.FaultCode.TheVariants.{M10, M11, M12, X1}
use Rattle.acceptance.specs.declared.refusal.FileId.TheVariants.{Texture}
use Rattle.acceptance.specs.Causes.{Missing, At, Reads}
use Rattle.acceptance.specs.ImageFiles.{Reading, NoFile, TooLarge, Form, reading}
use Rattle.acceptance.specs.Shaders.{distinct}
use Rattle.acceptance.specs.Places.{place_in}

-- ---- names
-- what names a texture, where parameters have these values
abbrev pub text_of : Value → List ℕ
text_of (Word text) = text
text_of (Number x) = []
text_of (Triple x) = []

-- the text at a place of these values
abbrev pub text_at : List Value → ℕ → List ℕ
text_at vs k = text_of (get_or vs k (Word []))

-- what an operand names: the text that is written out, or the value of the parameter
abbrev pub name_with : List Value → Expr → List ℕ
name_with vs (word text p) = text
name_with vs (variable (Level k) kind p) = text_at vs k
name_with vs e = []

abbrev pub text_or : Option (List ℕ) → List ℕ
text_or None = []
text_or (Some text) = text

-- the name of a texture, where it isn't empty
abbrev pub some_name : List ℕ → Option (List ℕ)
some_name [] = None
some_name (c ∷ cs) = Some (c ∷ cs)

-- what each look-up of a tree names, in their order; the empty name is that of no texture
abbrev pub names_with : Tree → List Value → List (List ℕ)
names_with t vs = map (λ n. name_with vs n.name) (texture_nodes t)

-- the empty name stands for no texture
abbrev pub is_some_name : List ℕ → Bool
is_some_name [] = false
is_some_name (c ∷ cs) = true

-- those of a use, by the shader at its place and what its parameters are bound to
abbrev pub names_at : Option Tree → List Value → List (List ℕ)
names_at None vs = []
names_at (Some t) vs = names_with t vs

abbrev pub all_names : List Tree → List ℕ → List (List Value) → List (List (List ℕ))
all_names trees (n ∷ ns) (vs ∷ vss) = names_at (slice_get trees n) vs ∷ all_names trees ns vss
all_names trees ns vss = []

-- numbers below a count
abbrev pub ArePlaces : List ℕ → ℕ → Type 0
ArePlaces ns count = All (λ n. n < count) ns

abbrev pub joined : List (List (List ℕ)) → List (List ℕ)
joined [] = []
joined (names ∷ rest) = names ++ joined rest

-- the names of all textures, by first use, each once
abbrev pub texture_names : List (List (List ℕ)) → List (List ℕ)
texture_names names = distinct (filter is_some_name (joined names))

-- ---- files
-- the most bytes of a texture's file, the most textures, and the most bytes of the samples of all
abbrev pub most_texture_bytes : ℕ
most_texture_bytes = 16777216

-- as many textures as a scene may have
abbrev pub most_textures : ℕ
most_textures = 64

-- as many bytes as the samples of all textures may have
abbrev pub most_samples : ℕ
most_samples = 268435456

-- the image of a texture's file, or its first fault
abbrev pub image_of_reading : List ℕ → Reading → Reads Image
image_of_reading name NoFile = Err (At (Texture name) 1 X1)
image_of_reading name TooLarge = Err (At (Texture name) 1 M11)
image_of_reading name (Form image) = Ok image

-- the image of the bytes held under a name, or why it is refused
abbrev pub image_of_held : List ℕ → Option (List ℕ) → Reads Image
image_of_held name None = Err (Missing name)
image_of_held name (Some bytes) = if nat_lt most_texture_bytes (length bytes) then Err (At (Texture name) 1 M10) else image_of_reading name (reading bytes)

-- the bytes of the samples of these
abbrev pub samples_of : List Image → ℕ
samples_of [] = 0
samples_of (p ∷ ps) = image_bytes p + samples_of ps

-- an image behind others, or M12 where there are too many or they are too large
abbrev pub with_image : List ℕ → List Image → Reads Image → Reads (List Image)
with_image name ps (Err cause) = Err cause
with_image name ps (Ok p) = if nat_lt (length ps) most_textures && nat_le (samples_of ps + image_bytes p) most_samples then Ok (ps ++ p ∷ []) else Err (At (Texture name) 1 M12)

-- the image of a name behind others, or its refusal
abbrev pub image_behind : Files → List Image → List ℕ → Reads (List Image)
image_behind files ps name = with_image name ps (image_of_held name (held_as files name))

-- what goes on behind these, or the refusal
abbrev pub images_behind : Reads (List Image) → (List Image → Reads (List Image)) → Reads (List Image)
images_behind (Err cause) others = Err cause
images_behind (Ok ps) others = others ps

-- the images of these names behind others, or the first refusal
abbrev pub images_from : Files → List Image → List (List ℕ) → Reads (List Image)
images_from files ps [] = Ok ps
images_from files ps (name ∷ names) = images_behind (image_behind files ps name) (λ qs. images_from files qs names)

-- the images of textures by their names, or the first refusal
abbrev pub images_of : Files → List (List ℕ) → Reads (List Image)
images_of files names = images_from files [] names

-- the names that are asked for: up to and with the first that is refused
abbrev pub asked_behind : Reads (List Image) → (List Image → List (List ℕ)) → List (List ℕ)
asked_behind (Err cause) others = []
asked_behind (Ok ps) others = others ps

abbrev pub textures_from : Files → List Image → List (List ℕ) → List (List ℕ)
textures_from files ps [] = []
textures_from files ps (name ∷ names) = name ∷ asked_behind (image_behind files ps name) (λ qs. textures_from files qs names)

-- the names asked for, up to and with the first that is refused
abbrev pub textures_asked : Files → List (List ℕ) → List (List ℕ)
textures_asked files names = textures_from files [] names

-- ---- entries
-- the place of a look-up's texture among these names, none where it has none
abbrev pub entry_in : List (List ℕ) → List ℕ → Option ℕ
entry_in all [] = None
entry_in all (c ∷ cs) = Some (place_in all (c ∷ cs))

-- for each look-up of each use the place of its texture among all names
abbrev pub entries_in : List (List ℕ) → List (List (List ℕ)) → List (List (Option ℕ))
entries_in all names = map (λ ns. map (entry_in all) ns) names
