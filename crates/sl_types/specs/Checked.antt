-- The typed tree of a file, or its first fault: those of names, types, kinds and places in the order of the text, then a tree that is too great,
-- then those of classes and control.
use Rattle.std.specs.Prelude.{ℕ, ◌&&◌, nat_lt, length, Bool, Option, Some, None, Ok, Err, if◌then◌else◌}
use Rattle.sl_ast.specs.Syntax as U
use Rattle.sl_ast.specs.Typed.{Tree, numbers_tree, depth_tree}
use Rattle.sl_ast.specs.Settled.{unsettled}
use Rattle.sl_ast.specs.declared.kinds.ControlCode.{ControlCode}
use Rattle.sl_ast.specs.declared.kinds.ControlCode.TheVariants as controls
use Rattle.sl_expressions.specs.declared.faults.TypeCode.{TypeCode}
use Rattle.sl_expressions.specs.declared.faults.TypeCode.TheVariants as codes
use Rattle.sl_expressions.specs.Found.{Found, ◌>>=◌}
use Rattle.sl_typing.specs.Functions.{Program, program}
use Rattle.sl_types.specs.Inline.{tree_of}

-- a tree of at most 65,536 nodes, 256 in one another
abbrev pub is_within : Tree → Bool
is_within t = nat_lt (length (numbers_tree t)) 65537 && nat_lt (depth_tree t) 257

abbrev pub code_of : ControlCode → TypeCode
code_of controls.T3 = codes.T3
code_of controls.T4 = codes.T4
code_of controls.T5 = codes.T5
code_of controls.T9 = codes.T9
code_of controls.T11 = codes.T11

abbrev pub settled : Tree → Option (ControlCode × ℕ) → Found Tree
settled t None = Ok t
settled t (Some f) = Err (code_of f.0, f.1)

-- the program of a file whose tree is within the limits
abbrev pub limited : U.Shader → Program → Found Program
limited s p = if is_within (tree_of s p) then Ok p else Err (codes.M8, s.line)

-- the typed file where its tree is within the limits, or the first fault
abbrev pub sized : U.Shader → Found Program
sized s = program s >>= limited s

abbrev pub checked : U.Shader → Found Tree
checked s = sized s >>= λ p. settled (tree_of s p) (unsettled (tree_of s p))
