-- How great a tree with functions in place is, as the code reckons before it makes one: no part of the tree's definition.
use Rattle.std.specs.Prelude.{◌≡◌, Bool, true, false, ◌&&◌, nat_lt, min, List, [], ◌∷◌, ◌++◌}
use Rattle.sl_expressions.specs.Typed.{stmts}
use Rattle.sl_expressions.specs.Scope.{Callee, body_in}
use Rattle.sl_typing.specs.Functions.{Program}
use Rattle.sl_types.specs.Extents as E
use Rattle.sl_types.specs.Extents.{under, beside, counting, extent_params}
use Rattle.sl_types.specs.Folds.{fold_stmts, fold_body}
use Rattle.sl_types.specs.declared.sizes.Extent.{Extent}

-- the extents that the code holds
abbrev pub extent_of : Extent → E.Extent
extent_of x = record { nodes = x.nodes; depth = x.depth }

-- as far as it matters: 65,536 nodes are allowed, and 256 in one another
abbrev pub cut : E.Extent → E.Extent
cut x = record { nodes = min x.nodes 65537; depth = min x.depth 257 }

abbrev pub IsCutOf : Extent → E.Extent → Type 0
IsCutOf x y = extent_of x ≡ cut y

-- the functions one after another, each from those before it
abbrev pub extents_from : Bool → List E.Extent → List Callee → List E.Extent
extents_from default fs [] = fs
extents_from default fs (c ∷ cs) = extents_from default (fs ++ fold_body counting fs (body_in default c) ∷ []) cs

-- the shader's node over its parameters and its body
abbrev pub extent_program : Program → E.Extent
extent_program p = under (beside (extent_params (extents_from true [] p.known) p.params) (fold_stmts counting (extents_from false [] p.known) (stmts p.body)))

-- within the limits
abbrev pub fits : E.Extent → Bool
fits x = nat_lt x.nodes 65537 && nat_lt x.depth 257
