-- The code of a settled tree means the tree.
use Rattle.std.proofs.Common.{◌*◌, ◌<◌, List, subst, arith, refl}
use Rattle.std.proofs.Math.Nat.{mul-pos}
use Rattle.grid_code.specs.Names.{first_free}
use Rattle.grid_code.specs.Masked.{masked}
use Rattle.sl_meaning.specs.Core.{Slot, Stmts, after_all}
use Rattle.sl_meaning.specs.Grid.{inside_all}
use Rattle.sl_meaning.specs.CoreGrid.{grid_all}
use Rattle.core_codegen.specs.Compile.{behind, shader_code}
use Rattle.core_codegen.specs.Correct.{Means}
use Rattle.core_codegen.specs.Fine.{StaysAll, GridAll}
use Rattle.core_codegen.proofs.Scopes.{extends_all}
use Rattle.core_codegen.specs.UniformRegisters.{AllHold}
use Rattle.core_codegen.proofs.Lands.{AllWent, AllLands, all_inside}
use Rattle.core_codegen.proofs.Uniform.{all_stay, all_all}

pub means : (body : Stmts) (ss : List Slot) → GridAll body ss → StaysAll body → Means body ss (shader_code body ss)
means body ss fine stays =
    record {
      gives = λ a g0 n es s y ground i l.
          let c = a.lines.columns * a.lines.rows in
          let wide = y.wide in
          let tall = y.tall in
          let pos : 0 < a.lines.columns * a.lines.rows = mul-pos (omega arith) (omega arith) in
          let ready : AllHold c ss first_free es s = record { live = y.live; rel = y.holds; exact = y.exact } in
          let step = all_inside c (after_all body ss) ss first_free (grid_all body ss a n) s _ (extends_all body ss) (all_all c n g0 a ground refl y.wide y.tall pos body ss first_free (behind ss first_free body) s fine (omega arith) (omega arith)) in
          let e1 = (inside_all (grid_all body ss a n) es).1 in
          let went : AllWent c ss first_free e1 s (masked (shader_code body ss) g0 c n s) = subst (λ x. AllLands c ss ss first_free x e1 s (masked (shader_code body ss) g0 c n s)) (all_stay body ss a n es stays) (step.runs es ready).0 in
          went.ready.rel i l;
    }
