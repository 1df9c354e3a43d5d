-- What reading shaders comes to.
use Rattle.std.specs.Prelude.{◌≡◌, ℕ, Bool, List, [], ◌∷◌, ◌++◌, map, slice_get, true, Option, Some, None, Result, Vec, Ok, Err, IsErrOf, IfOk, All, if◌then◌else◌}
use Rattle.std.specs.List.{list_any}
use Rattle.std.specs.Str.{bytes_eq}
use Rattle.std.specs.declared.alloc.Global.{Global}
use Rattle.outside.specs.Library.{Files}
use Rattle.scene.specs.declared.uses.ShaderUse.{ShaderUse}
use Rattle.sl_ast.specs.Typed.{Tree}
use Rattle.sl_ast.specs.TreeView.{tree_of}
use Rattle.sl_ast.specs.declared.tree.Tree.{Tree as TreeRead}
use Rattle.sl_ast.specs.declared.typed.Value.{Value}
use Rattle.sl_types.specs.Distinct.{are_distinct}
use Rattle.shader_binding.specs.Sets.{SetValue, AcceptedValue, FitsUse, FitUses}
use Rattle.acceptance.specs.declared.refusal.Refusal.{Refusal}
use Rattle.acceptance.specs.declared.refusal.Refusal.TheVariants.{ReadFault}
use Rattle.acceptance.specs.declared.read.ReadShader.{ReadShader}
use Rattle.acceptance.specs.declared.shaders.UsedShaders.{UsedShaders}
use Rattle.acceptance.specs.declared.textures.UsedTextures.{UsedTextures}
use Rattle.texture.specs.Images.{Image}
use Rattle.acceptance.specs.Textures.{all_names, texture_names, entries_in}
use Rattle.acceptance.specs.declared.accepted_scene.AcceptedScene.{AcceptedScene}
use Rattle.acceptance.specs.Causes.{Reads, cause_in}
use Rattle.acceptance.specs.Shaders.{IsCompilable, file_of, text_with, tree_of_text, shader_names, shader_tree, shaders_refused}
use Rattle.acceptance.specs.RequestFit.{declared_names}
use Rattle.acceptance.specs.Bound.{bound_values}
use Rattle.acceptance.specs.Answers.{Because, Gives}

abbrev pub name_of : ReadShader → List ℕ
name_of s = s.name

abbrev pub tree_read : ReadShader → Tree
tree_read s = tree_of s.tree

abbrev pub declared_by : ReadShader → List (List ℕ)
declared_by s = declared_names (tree_read s)

-- a shader's tree is read, which can be compiled and declares no name twice, or refused
pub record GivesTree (result : Result TreeRead Refusal) (read : Reads Tree) : Type 0 where
  pub gives : Gives tree_of result read
  pub compilable : IfOk result (λ t. IsCompilable (tree_of t))
  pub distinct : IfOk result (λ t. are_distinct (declared_names (tree_of t)) ≡ true)
  pub alone : IsErrOf result ReadFault → ⊥

-- the text of a shader whose file is held so, or why there is none
abbrev pub GivesShaderText : List ℕ → Option (List ℕ) → Result (Vec ℕ Global) Refusal → Type 0
GivesShaderText name held (Ok text) = text_with held name ≡ Some text.items
GivesShaderText name held (Err refusal) = Because refusal (cause_in (tree_of_text name (text_with held name)))

-- what is held gives this tree
pub record IsReadOf (files : Files) (s : ReadShader) : Type 0 where
  pub tree : shader_tree files s.name ≡ Ok (tree_of s.tree)

-- a shader of that name is read, or refused
abbrev pub ReadsShader : Files → List ℕ → Result ReadShader Refusal → Type 0
ReadsShader files name (Ok s) = IsReadOf files s
ReadsShader files name (Err refusal) = Because refusal (cause_in (shader_tree files name))

-- one more is read, or refused
abbrev pub ReadsNext : {A : Type 0} → Files → List ℕ → List ReadShader → List ReadShader → Result A Refusal → Type 0
ReadsNext files name old new (Ok x) = All (IsReadOf files) old → All (IsReadOf files) new
ReadsNext files name old new (Err refusal) = Because refusal (cause_in (shader_tree files name))

-- the shaders of these names are read, or one is refused
abbrev pub ReadsShaders : Files → List (List ℕ) → Result UsedShaders Refusal → Type 0
ReadsShaders files names (Ok shaders) = All (IsReadOf files) shaders.read
ReadsShaders files names (Err refusal) = Because refusal (shaders_refused files names)

-- beside each use stands the place of the shader of its name
abbrev pub named_use : ShaderUse → Option (List ℕ)
named_use u = Some u.name

-- beside each use stands the place of the shader of its name
abbrev pub ArePlaced : List ShaderUse → UsedShaders → Type 0
ArePlaced uses shaders = map (slice_get (map name_of shaders.read)) shaders.of_use ≡ map named_use uses

-- each shader of these uses is there once, by first use, and beside each use its place
pub record AreUsed (uses : List ShaderUse) (shaders : UsedShaders) : Type 0 where
  pub names : map name_of shaders.read ≡ shader_names uses
  pub placed : ArePlaced uses shaders

abbrev pub is_among : List ℕ → List (List ℕ) → Bool
is_among name names = list_any (λ n. bytes_eq n name) names

-- a name behind those that are read, unless it is among them, and the file that is then asked for
abbrev pub with_once : List (List ℕ) → List ℕ → List (List ℕ)
with_once names name = if is_among name names then names else names ++ name ∷ []

abbrev pub file_once : List (List ℕ) → List ℕ → List (List ℕ)
file_once names name = if is_among name names then [] else file_of name ∷ []

-- what the parameters of a use are bound to, over the shader at place n of these
abbrev pub values_with : Option ReadShader → ShaderUse → List Value
values_with (Some s) u = bound_values (tree_read s) u
values_with None u = []

abbrev pub values_at : List ReadShader → ShaderUse → ℕ → List Value
values_at read u n = values_with (slice_get read n) u

-- and of all uses
abbrev pub all_values : List ReadShader → List ShaderUse → List ℕ → List (List Value)
all_values read (u ∷ us) (n ∷ ns) = values_at read u n ∷ all_values read us ns
all_values read _ _ = []

-- the parameters of a use are bound to these values, which fit its tree, or it is refused
pub record BindsUse (u : ShaderUse) (tree : Option Tree) (bound : List Value) (result : Result (List Value) Refusal) : Type 0 where
  pub values : IfOk result (λ vs. vs ≡ bound)
  pub fits : IfOk result (λ vs. FitsUse u vs tree)
  pub alone : IsErrOf result ReadFault → ⊥

-- the same of all uses
pub record BindsUses (uses : List ShaderUse) (shaders : UsedShaders) (result : Result (Vec (List Value) Global) Refusal) : Type 0 where
  pub values : IfOk result (λ vss. vss.items ≡ all_values shaders.read uses shaders.of_use)
  pub fit : IfOk result (λ vss. FitUses (map tree_read shaders.read) uses shaders.of_use vss.items)
  pub alone : IsErrOf result ReadFault → ⊥

-- what the look-ups of these uses name, over what their parameters are bound to
abbrev pub names_read : UsedShaders → List (List Value) → List (List (List ℕ))
names_read s bound = all_names (map tree_read s.read) s.of_use bound

-- the set that is made of them with these textures
abbrev pub set_read : UsedShaders → List ShaderUse → List Image → SetValue
set_read s uses images =
    let bound = all_values s.read uses s.of_use in
    record {
      trees = map tree_read s.read;
      of_use = s.of_use;
      bound = bound;
      look_ups = entries_in (texture_names (names_read s bound)) (names_read s bound);
      textures = images;
    }

-- the set of an accepted scene's shaders, and the scene with it
abbrev pub set_in : AcceptedScene → SetValue
set_in a = record { trees = map tree_read a.shaders.read; of_use = a.shaders.of_use; bound = a.bound; look_ups = a.textures.look_ups; textures = a.textures.read }

abbrev pub images_read : UsedTextures → List Image
images_read t = t.read

-- the scene that the code has read, with its shaders
abbrev pub accepted_in : AcceptedScene → AcceptedValue
accepted_in a = record { scene = a.scene; set = set_in a }
