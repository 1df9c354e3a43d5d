-- What the code keeps as it puts functions in place: no part of the tree's definition. A call's function has only those before it, so what
-- functions do weighs less at each step.
use Rattle.std.specs.Prelude.{◌≡◌, ◌≤◌, ◌+◌, ℕ, Bool, List, [], ◌∷◌, map, get_or, Option, Some, None, Ok}
use Rattle.sl_types.specs.Inline.{Built, nothing, built_in, built_from}
use Rattle.sl_expressions.specs.Scope.{Callee, body_in}
use Rattle.sl_expressions.specs.Views.{callee_of, local_of, stmts_of}
use Rattle.sl_types.specs.Folds.{Fold, fold_body}
use Rattle.sl_expressions.specs.declared.places.Known.{Known}
use Rattle.sl_types.specs.declared.inline.Inside.{Inside}

abbrev pub weighing : Fold ℕ
weighing = record { nothing = 1; under = λ n. 1 + n; beside = λ n m. 1 + (n + m); absent = 0 }

abbrev pub weight_known : Bool → List Callee → ℕ
weight_known default [] = 0
weight_known default (c ∷ cs) = fold_body weighing [] (body_in default c) + weight_known default cs

-- the functions of the code as calls put them in place
abbrev pub functions : Bool → List Known → List Built
functions by_default known = built_from by_default [] (map callee_of known)

-- the function of that number, where calls of it are
abbrev pub Puts : Bool → List Known → ℕ → Option Inside → Type 0
Puts by_default known k (Some i) =
    get_or (functions by_default known) k nothing ≡ built_in (functions by_default i.before.now) (map local_of i.formals.now) (Ok (stmts_of i.body.now))
Puts by_default known k None = get_or (functions by_default known) k nothing ≡ nothing

-- what a function does, with the functions before it, weighs no more than all functions
abbrev pub Lighter : Bool → List Known → Option Inside → Type 0
Lighter by_default known (Some i) =
    fold_body weighing [] (Ok (stmts_of i.body.now)) + weight_known by_default (map callee_of i.before.now) ≤ weight_known by_default (map callee_of known)
Lighter by_default known None = Unit {0}
