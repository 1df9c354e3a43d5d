-- Control classes are defined twice: on typed trees, by which a shader is accepted, and on core trees, by which it is compiled.
-- What is uniform in the one is so in the other.
use Rattle.std.specs.Prelude.{◌≡◌, Bool, true, List, [], ◌∷◌}
use Rattle.sl_ast.specs.declared.kinds.SlType.{SlType}
use Rattle.sl_ast.specs.Typed as T
use Rattle.sl_ast.specs.Classes as classes
use Rattle.sl_ast.specs.WellTyped.{Around, typed}
use Rattle.sl_meaning.specs.Core as C
use Rattle.sl_meaning.specs.Core.{Slot}
use Rattle.sl_meaning.specs.Lowered as lowered

-- the classes of variables in scope
abbrev pub classes_of : List Slot → List Bool
classes_of [] = []
classes_of (s ∷ ss) = s.uniform ∷ classes_of ss

-- the core tree of a well typed expression is uniform exactly where the expression is
abbrev pub ClassesAgree : Type 0
ClassesAgree = (e : T.Expr) (g : Around) (kinds : List SlType) (us : List Bool) (u : Bool) (ss : List Slot)
    → classes_of ss ≡ us → typed g kinds e ≡ true → C.is_uniform (lowered.expr e us u) ss ≡ classes.is_uniform e us
