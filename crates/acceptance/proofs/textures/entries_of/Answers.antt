use Rattle.std.proofs.Common.{◌∙◌, ap, subst}
use Rattle.sl_ast.specs.TreeView.{tree_of}
use Rattle.sl_look_ups.specs.Nodes.{nodes}
use Rattle.acceptance.specs.Listed.{ListsAll}
use Rattle.acceptance.proofs.Textured.{names_found}
use Rattle.acceptance.proofs.textures.entries_of.Goals as goal

pub returns : goal.returns
returns c =
    subst (λ ns. ListsAll c.args.listed.now c.entries_found.new.listed ns c.entries_found.result)
    (names_found c.args.values.now c.deref.result.now (tree_of c.args.tree.now) (ap nodes c.deref.ensures.value ∙ c.in_ok-found.ensures.nodes)) c.entries_found.ensures
