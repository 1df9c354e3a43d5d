-- What the stock's `constant` is, and what is drawn under it (RenderMan Interface 3.2, section 11 and appendix A).
use Rattle.std.specs.Prelude.{◌≡◌, refl, ℕ, List, Some, None, Ok, codes, slice_get}
use Rattle.outside.specs.Library.{Files, held_as}
use Rattle.scene.specs.declared.uses.ShaderUse.{ShaderUse}
use Rattle.grid_variables.specs.Points.{Leaf}
use Rattle.displace_shade.specs.Constant.{constant_tree, IsFlat}
use Rattle.acceptance.specs.Shaders.{file_of, stock_text, tree_of_text}
use Rattle.shader_binding.specs.Sets.{AcceptedValue}
use Rattle.acceptance.specs.Accepting.{accepted}

-- what is read of its text
pub the_constant : tree_of_text (codes "constant") (stock_text (codes "constant")) ≡ Ok constant_tree
unfolding stock_text
the_constant = refl

-- where no file has its name, the leaves under it of an accepted scene are flat, unless a volume is between
abbrev pub StockConstantLaw : Type 0
StockConstantLaw = (files : Files) (text : List ℕ) (a : AcceptedValue) (l : Leaf) (u : ShaderUse) → accepted files text ≡ Ok a → held_as files (file_of (codes "constant")) ≡ None
    → slice_get a.scene.uses l.prim.surface ≡ Some u → u.name ≡ codes "constant" → l.prim.atmosphere ≡ None → IsFlat l a.set a.scene.uses
