-- Each parameter of a well-typed tree is a node.
use Rattle.std.proofs.Common.{◌≡◌, ◌≤◌, true, List, [], ◌∷◌, length, arith, length-append}
use Rattle.std.proofs.lemmas.Bool.{and_parts}
use Rattle.std.proofs.lemmas.List.{length-map}
use Rattle.sl_ast.specs.Typed as T
use Rattle.sl_ast.specs.Typed.{numbers, numbers_defaults, numbers_stmts, numbers_tree}
use Rattle.sl_ast.specs.TypedView.{local_of}
use Rattle.sl_ast.specs.TreeView.{tree_of}
use Rattle.sl_ast.specs.WellTyped.{typed, in_default, typed_defaults, well_typed}
use Rattle.sl_ast.specs.declared.kinds.SlKind.{SlKind}
use Rattle.sl_ast.specs.declared.tree.Tree.{Tree}

as_many : (kind : SlKind) (ls : List T.Local) (ds : List T.Default) → typed_defaults kind ls ds ≡ true → length ls ≤ length (numbers_defaults ds)
as_many kind [] ds h = omega arith
as_many kind (l ∷ ls) [] h = absurd (cc h)
as_many kind (l ∷ ls) (d ∷ ds) h =
    let rest : length ls ≤ length (numbers_defaults ds) = as_many kind ls ds (and_parts (typed (in_default kind) [] d.value) (typed_defaults kind ls ds) (and_parts _ _ h).1).1 in
    let n = length-append (numbers d.value) (numbers_defaults ds) in
    omega (arith, rest, n)

pub few_params : (t : Tree) → well_typed (tree_of t) ≡ true → length t.params ≤ length (numbers_tree (tree_of t))
few_params t h =
    let v = tree_of t in
    let many = as_many v.kind v.params v.defaults (and_parts _ _ h).0 in
    let n = length-append (numbers_defaults v.defaults) (numbers_stmts v.body) in
    let m = length-map t.params local_of in
    omega (arith, many, n, m)
