-- The shaders of a scene: where their texts are found, and what is read of them.
use Rattle.std.specs.Prelude.{◌≤◌, ℕ, not, List, [], ◌∷◌, ◌++◌, length, filter, map, Option, Some, None, Result, Ok, Err, codes, if◌then◌else◌, nat_lt}
use Rattle.std.specs.Str.{bytes_eq}
use Rattle.outside.specs.Library.{Files, held_as}
use Rattle.scene.specs.declared.uses.ShaderUse.{ShaderUse}
use Rattle.stock.specs.Texts.{text_of, stock_texts}
use Rattle.sl_ast.specs.Syntax as syntax
use Rattle.sl_ast.specs.Typed.{Tree}
use Rattle.sl_ast.specs.Settled.{IsSettled}
use Rattle.sl_expression_grammar.specs.declared.fault.SlCode.{SlCode}
use Rattle.sl_parser.specs.Files.{parsed}
use Rattle.sl_expressions.specs.Found.{Found}
use Rattle.sl_types.specs.Checked.{checked}
use Rattle.sl_ast.specs.Registers.{rows_of}
use Rattle.acceptance.specs.declared.code.FaultCode.TheVariants.{M9, M10}
use Rattle.acceptance.specs.declared.refusal.FileId.TheVariants.{Shader}
use Rattle.acceptance.specs.Codes.{of_syntax, of_type}
use Rattle.acceptance.specs.Causes.{Cause, Missing, At, Reads, cause_in, first_of}

-- the most bytes of a shader's file
abbrev pub most_shader_bytes : ℕ
most_shader_bytes = 1048576

-- the file of a shader
abbrev pub file_of : List ℕ → List ℕ
file_of name = name ++ codes ".sl"

-- its text: the file's, else the stock text of its name
unfoldable pub stock_text : List ℕ → Option (List ℕ)
stock_text name = text_of stock_texts name

abbrev pub text_with : Option (List ℕ) → List ℕ → Option (List ℕ)
text_with (Some bytes) name = Some bytes
text_with None name = stock_text name

-- the text of a shader: that of its file, else the stock's
abbrev pub shader_text : Files → List ℕ → Option (List ℕ)
shader_text files name = text_with (held_as files (file_of name)) name

-- the most rows of registers that the code of a shader takes
abbrev pub most_rows : ℕ
most_rows = 4096

-- a tree whose rows of registers are few enough, else M9
abbrev pub tree_in_rows : List ℕ → Tree → Reads Tree
tree_in_rows name tree = if nat_lt most_rows (rows_of tree) then Err (At (Shader name) tree.place.line M9) else Ok tree

-- a tree that can be compiled
pub record IsCompilable (t : Tree) : Type 0 where
  pub settled : IsSettled t
  pub few : rows_of t ≤ most_rows

-- the typed tree of a shader's text, or its first fault: its size, its grammar, its types, then the rows of its code
abbrev pub tree_of_checked : List ℕ → Found Tree → Reads Tree
tree_of_checked name (Ok tree) = tree_in_rows name tree
tree_of_checked name (Err (code, line)) = Err (At (Shader name) line (of_type code))

-- the typed tree of a tree that was parsed, or the first fault
abbrev pub tree_of_parsed : List ℕ → Result syntax.Shader (SlCode × ℕ) → Reads Tree
tree_of_parsed name (Ok shader) = tree_of_checked name (checked shader)
tree_of_parsed name (Err (code, line)) = Err (At (Shader name) line (of_syntax code))

-- the typed tree of a shader's text, which may not be too long
abbrev pub tree_of_bytes : List ℕ → List ℕ → Reads Tree
tree_of_bytes name bytes = if nat_lt most_shader_bytes (length bytes) then Err (At (Shader name) 1 M10) else tree_of_parsed name (parsed bytes)

-- the typed tree of the text that was found, or that there is none
abbrev pub tree_of_text : List ℕ → Option (List ℕ) → Reads Tree
tree_of_text name None = Err (Missing (file_of name))
tree_of_text name (Some bytes) = tree_of_bytes name bytes

-- the typed tree of a shader by its name, or its first fault
unfoldable pub shader_tree : Files → List ℕ → Reads Tree
shader_tree files name = tree_of_text name (shader_text files name)

-- these texts without that one
abbrev pub without : List ℕ → List (List ℕ) → List (List ℕ)
without name names = filter (λ n. not (bytes_eq n name)) names

-- each once, where it stands first
abbrev pub distinct : List (List ℕ) → List (List ℕ)
distinct [] = []
distinct (name ∷ names) = name ∷ without name (distinct names)

-- the names of a scene's shaders, by first use
abbrev pub use_name : ShaderUse → List ℕ
use_name u = u.name

-- the names of a scene's shaders, each once, by first use
abbrev pub shader_names : List ShaderUse → List (List ℕ)
shader_names uses = distinct (map use_name uses)

-- the first reason why one of these shaders is refused
abbrev pub shaders_refused : Files → List (List ℕ) → Option Cause
shaders_refused files names = first_of (map (λ n. cause_in (shader_tree files n)) names)

-- the files that are asked for: those of the shaders in order, up to and with the first that is refused
abbrev pub asked_behind : Reads Tree → List (List ℕ) → List (List ℕ)
asked_behind (Ok tree) others = others
asked_behind (Err cause) others = []

-- the files that are asked for shaders, up to the first that is refused
abbrev pub shaders_asked : Files → List (List ℕ) → List (List ℕ)
shaders_asked files [] = []
shaders_asked files (name ∷ names) = file_of name ∷ asked_behind (shader_tree files name) (shaders_asked files names)
