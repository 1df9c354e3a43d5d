-- The reserved words, and all other words, which are names.
use Rattle.std.specs.Prelude.{ℕ, List, Option, Some, None, codes, if◌then◌else◌}
use Rattle.std.specs.Str.{bytes_eq}
use Rattle.sl_ast.specs.declared.kinds.SlKind.{SlKind}
use Rattle.sl_ast.specs.declared.kinds.SlKind.TheVariants as sorts
use Rattle.sl_ast.specs.declared.kinds.SlType.{SlType}
use Rattle.sl_ast.specs.declared.kinds.SlType.TheVariants as types
use Rattle.sl_ast.specs.declared.kinds.Class.{Class}
use Rattle.sl_ast.specs.declared.kinds.Class.TheVariants as classes
use Rattle.sl_lexer.specs.declared.token.Word.{Word}
use Rattle.sl_lexer.specs.declared.token.Word.TheVariants as words
use Rattle.sl_lexer.specs.declared.token.TokenKind.{TokenKind}
use Rattle.sl_lexer.specs.declared.token.TokenKind.TheVariants as kinds

abbrev pub sort_named : List ℕ → Option SlKind
sort_named name =
    if bytes_eq name (codes "surface") then Some sorts.Surface
    else if bytes_eq name (codes "displacement") then Some sorts.Displacement
    else if bytes_eq name (codes "light") then Some sorts.Light
    else if bytes_eq name (codes "volume") then Some sorts.Volume
    else None

abbrev pub class_named : List ℕ → Option Class
class_named name =
    if bytes_eq name (codes "uniform") then Some classes.Uniform
    else if bytes_eq name (codes "varying") then Some classes.Varying
    else None

abbrev pub type_named : List ℕ → Option SlType
type_named name =
    if bytes_eq name (codes "float") then Some types.Float
    else if bytes_eq name (codes "color") then Some types.Color
    else if bytes_eq name (codes "point") then Some types.Point
    else if bytes_eq name (codes "vector") then Some types.Vector
    else if bytes_eq name (codes "normal") then Some types.Normal
    else if bytes_eq name (codes "string") then Some types.Str
    else None

abbrev pub word_named : List ℕ → Option Word
word_named name =
    if bytes_eq name (codes "break") then Some words.Break
    else if bytes_eq name (codes "continue") then Some words.Continue
    else if bytes_eq name (codes "return") then Some words.Return
    else if bytes_eq name (codes "if") then Some words.If
    else if bytes_eq name (codes "else") then Some words.Else
    else if bytes_eq name (codes "while") then Some words.While
    else if bytes_eq name (codes "for") then Some words.For
    else if bytes_eq name (codes "illuminance") then Some words.Illuminance
    else if bytes_eq name (codes "illuminate") then Some words.Illuminate
    else if bytes_eq name (codes "solar") then Some words.Solar
    else None

-- the first that is there
abbrev pub kind_or : {A : Type 0} → (A → TokenKind) → Option A → TokenKind → TokenKind
kind_or kind None other = other
kind_or kind (Some x) other = kind x

-- the token that a word is: a reserved word, or a name
abbrev pub kind_named : List ℕ → TokenKind
kind_named name =
    kind_or kinds.Kind (sort_named name) (kind_or kinds.Class (class_named name) (kind_or kinds.Type (type_named name) (kind_or kinds.Word (word_named name) (kinds.Name name))))
