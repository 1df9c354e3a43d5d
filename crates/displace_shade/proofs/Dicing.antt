-- The variables at the points of a leaf before any shader runs.
use Rattle.std.proofs.Common.{◌≡◌, ℕ, ◌<◌, List, [], None, map, get_or, refl, sym, ap, ◌∙◌}
use Rattle.fixed_math.specs.Axes.{origin}
use Rattle.fixed_math.specs.declared.vec3.Vec3.{Vec3}
use Rattle.quadrics.specs.AnyPatches.{patch_point}
use Rattle.dice.specs.Grids.{diced_points}
use Rattle.sl_ast.specs.declared.kinds.Predefined.{Predefined}
use Rattle.sl_ast.specs.declared.kinds.Predefined.TheVariants as names
use Rattle.sl_ast.specs.declared.typed.Value.TheVariants.{Triple}
use Rattle.grid_variables.specs.Points.{Leaf, sight}
use Rattle.grid_variables.specs.Variables.{n_at}
use Rattle.grid_variables.specs.Places.{point_count, normals_of}
use Rattle.displace_shade.specs.Diced.{names_of, Hold}
use Rattle.displace_shade.specs.Shaded.{diced_names}
use Rattle.grid_variables.specs.declared.variables.Variables.{Variables}
use Rattle.grid_variables.proofs.Over.{over_at}
use Rattle.grid_variables.proofs.Dicing.{at_place, sight_read}

pub first_hold : (l : Leaf) (d : Variables) (ps : List Vec3) → ps ≡ diced_points (patch_point l.prim.patch) l.part l.p l.q → d.points.now ≡ ps → d.normals ≡ None → d.sights.now ≡ map (sight l.camera) ps → d.colours.now ≡ [] → d.opacities.now ≡ [] → Hold l d (diced_names l)
first_hold l d ps e ep en es ec eo = record { at = λ i name h. at i name h }
  where
    at : (i : ℕ) (name : Predefined) → i < point_count l → diced_names l i name ≡ names_of l d i name
    at i names.P h = ap (λ p. Triple p) (sym (ap (λ xs. get_or xs i origin) (ep ∙ e) ∙ at_place l (patch_point l.prim.patch) i origin h))
    at i names.N h = ap (λ p. Triple p) (sym (ap (λ q. get_or (normals_of l q) i origin) en ∙ over_at (n_at l) (point_count l) i origin h))
    at i names.I h = ap (λ p. Triple p) (sym (sight_read l d.sights.now (es ∙ ap (map (sight l.camera)) e) i h))
    at i names.Ci h = ap (λ xs. Triple (get_or xs i origin)) (sym ec)
    at i names.Oi h = ap (λ xs. Triple (get_or xs i origin)) (sym eo)
    at i _ h = refl
