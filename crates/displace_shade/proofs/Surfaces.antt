-- The surface of a leaf's primitive runs as one.
use Rattle.std.proofs.Common.{◌≡◌, ℕ, true, sym, ap, subst, ◌∙◌}
use Rattle.std.specs.Prelude.{Some}
use Rattle.scene.specs.Scene.{IsUse}
use Rattle.scene.specs.declared.uses.ShaderKind.{ShaderKind}
use Rattle.scene.specs.declared.uses.ShaderKind.TheVariants as requested
use Rattle.sl_ast.specs.declared.kinds.SlKind.TheVariants as kinds
use Rattle.sl_ast.specs.TreeView.{tree_of}
use Rattle.shader_binding.specs.Sets.{bound_at, is_of_kind}
use Rattle.grid_variables.specs.Points.{Leaf}
use Rattle.displace_shade.specs.Shop.{bound_value}
use Rattle.displace_shade.specs.Stages.{set_in, uses_in, Runs, RunsOn, ServesPrim}
use Rattle.displace_shade.specs.declared.bound.BoundShader.{BoundShader}
use Rattle.displace_shade.specs.declared.leaves.Shaders.{Shaders}
use Rattle.displace_shade.proofs.BoundLaws.{of_surface}

pub surface_on : (s : Shaders) (l : Leaf) (b : BoundShader) (n : ℕ) → n ≡ l.prim.surface → ServesPrim s l → bound_at (set_in s) (uses_in s) n ≡ Some (bound_value b) → Runs b → ((kind : ShaderKind) → IsUse (uses_in s) kind n → is_of_kind (tree_of b.compiled.now.tree).kind kind ≡ true) → RunsOn b l kinds.Surface
surface_on s l b n e h found runs kind = record {
  runs = runs;
  variables = h.variables.surface (bound_value b) (ap (bound_at (set_in s) (uses_in s)) (sym e) ∙ found);
  kind = of_surface _ (kind requested.Surface (subst (IsUse (uses_in s) requested.Surface) (sym e) h.uses.surface));
}
