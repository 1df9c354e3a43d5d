-- The code of a settled tree has no look-ups but those of the tree.
use Rattle.std.proofs.Common.{◌≡◌, ℕ, suc, true, List, [], ◌∷◌, refl, ap, ◌∙◌, arith}
use Rattle.std.specs.List.{Contains, list_all}
use Rattle.sl_ast.specs.Typed as T
use Rattle.sl_ast.specs.WellTyped.{well_typed}
use Rattle.grid_code.specs.Code.{Block}
use Rattle.grid_code.specs.Uses.{is_one_of, looks_within}
use Rattle.grid_code.proofs.Both.{both}
use Rattle.sl_meaning.specs.Core.{Slot}
use Rattle.sl_meaning.specs.Lowered.{body_of}
use Rattle.core_codegen.specs.Compile.{shader_code}
use Rattle.mask_codegen.specs.Compiled.{look_up_numbers}
use Rattle.mask_codegen.proofs.CoreLooks.{shader_code_looks}
use Rattle.mask_codegen.proofs.LoweredLooks.{body_looks}
use Rattle.mask_codegen.proofs.SetRows.{found}

-- numbers that others contain are among those
all_found : (ks ns : List ℕ) → ((x : ℕ) → Contains ks x → Contains ns x) → list_all (is_one_of ns) ks ≡ true
all_found [] ns h = refl
all_found (k ∷ ks) ns h = both _ _ (found ns k (h k (0, omega arith, refl))) (all_found ks ns (λ x m. h x (suc m.0, omega (arith, m.1), m.2)))

pub code_looks : (t : T.Tree) (ss : List Slot) (code : Block) → well_typed t ≡ true → code ≡ shader_code (body_of t) ss → looks_within (is_one_of (look_up_numbers t)) code ≡ true
code_looks t ss code typed is =
    let ns = look_up_numbers t in
    ap (looks_within (is_one_of ns)) is ∙ shader_code_looks (is_one_of ns) (body_of t) ss (body_looks (is_one_of ns) t typed (all_found ns ns (λ x h. h)))
