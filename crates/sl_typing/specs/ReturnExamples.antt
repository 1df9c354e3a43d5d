-- Worked values: the fault of a `return` that isn't a function's last statement.
use Rattle.std.specs.Prelude.{◌≡◌, [], pos, Option, Some, None, Ok, Err, codes, refl}
use Rattle.sl_ast.specs.declared.kinds.SlType.TheVariants as types
use Rattle.sl_expressions.specs.declared.faults.TypeCode.TheVariants.{T1, T2, T8}
use Rattle.sl_expressions.specs.Typed as T
use Rattle.sl_expressions.specs.Scope.{Own}
use Rattle.sl_typing.specs.Stmts.{misplaced}

-- in a function of floats
abbrev function : Option Own
function = Some (record { name = []; formals = []; returns = types.Float })

abbrev string_returned : misplaced function (Ok (T.word (codes "a") 1)) ≡ T2
string_returned = refl

abbrev number_returned : misplaced function (Ok (T.number (pos 1) 1)) ≡ T8
number_returned = refl

abbrev fault_returned : misplaced function (Err (T1, 2)) ≡ T8
fault_returned = refl

-- in a shader's body
abbrev returned_by_a_shader : misplaced None (Ok (T.word (codes "a") 1)) ≡ T8
returned_by_a_shader = refl
