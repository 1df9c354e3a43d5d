use Rattle.std.proofs.Common.{◌≡◌, true, map, ap, ◌∙◌}
use Rattle.sl_ast.specs.ShaderView.{shader_of}
use Rattle.sl_ast.specs.TreeView.{tree_of}
use Rattle.sl_typing.specs.Views.{program_of}
use Rattle.sl_types.specs.Distinct.{are_distinct}
use Rattle.sl_types.proofs.Apart.{all_kept, distinct_params}
use Rattle.sl_types.proofs.Parted.{sized_parts}
use Rattle.sl_types.proofs.WellFile.{well_typed_tree}
use Rattle.sl_types.proofs.checking.check.Goals as goal

pub tree-requires-clause-within : goal.tree-requires-clause-within
tree-requires-clause-within c =
    let s = shader_of c.args.shader.now in
    let p = program_of c.in_ok-program.program in
    (sized_parts s p c.in_ok-program.ensures).1

pub tree-requires-clause-typed : goal.tree-requires-clause-typed
tree-requires-clause-typed c =
    let s = shader_of c.args.shader.now in
    let p = program_of c.in_ok-program.program in
    well_typed_tree s p ((sized_parts s p c.in_ok-program.ensures).0)

pub returns-clause-distinct : goal.returns-clause-distinct
returns-clause-distinct c =
    let s = shader_of c.args.shader.now in
    let p = program_of c.in_ok-program.program in
    let distinct = distinct_params s p ((sized_parts s p c.in_ok-program.ensures).0) in
    let here = ap (λ t. are_distinct (map (λ l. l.name) t.params)) c.in_ok-tree.ensures ∙ distinct in
    all_kept (λ t. are_distinct (map (λ l. l.name) (tree_of t).params) ≡ true) c.in_ok-tree.tree c.settled.result c.settled.ensures.kept here
