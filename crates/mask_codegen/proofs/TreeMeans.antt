-- Code means a well typed tree where it means the core tree that is made of it.
use Rattle.std.proofs.Common.{◌≡◌, ◌*◌, true, sym, subst}
use Rattle.sl_ast.specs.Classes.{local_classes}
use Rattle.sl_ast.specs.Typed.{Tree}
use Rattle.sl_ast.specs.WellTyped.{well_typed}
use Rattle.grid_code.specs.Code.{Block}
use Rattle.grid_code.specs.Masked.{masked}
use Rattle.grid_code.specs.Names.{first_free}
use Rattle.sl_meaning.specs.Grid.{RunsAll, inside_all}
use Rattle.sl_meaning.specs.Lowered.{slots, body_of}
use Rattle.sl_meaning.proofs.CoreGridMeaning.{grid_all_is}
use Rattle.core_codegen.specs.Correct.{Holds, Means, MeansTree}
use Rattle.mask_codegen.proofs.LoweredBranches.{body_in}

pub tree_means : (t : Tree) (code : Block) → well_typed t ≡ true → Means (body_of t) (slots t.params) code → MeansTree t code
tree_means t code w m = record {
  gives = λ a g n es s begins ground i l.
      subst (λ (r : RunsAll). Holds i (slots t.params) first_free ((inside_all r es).1 i) (masked code g (a.lines.columns * a.lines.rows) n s))
      (sym (grid_all_is t.body (local_classes t.params) (slots t.params) a n (body_in t w))) (m.gives a g n es s begins ground i l);
}

pub core_means : (t : Tree) (code : Block) → well_typed t ≡ true → MeansTree t code → Means (body_of t) (slots t.params) code
core_means t code w m = record {
  gives = λ a g n es s begins ground i l.
      subst (λ (r : RunsAll). Holds i (slots t.params) first_free ((inside_all r es).1 i) (masked code g (a.lines.columns * a.lines.rows) n s))
      (grid_all_is t.body (local_classes t.params) (slots t.params) a n (body_in t w)) (m.gives a g n es s begins ground i l);
}
