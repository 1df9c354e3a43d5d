-- A shaded grid with the closing places of its points: all else is as before.
use Rattle.std.proofs.Common.{◌≡◌, ℕ, ◌*◌, List, length, sym, ap, ◌∙◌, refl}
use Rattle.std.specs.Prelude.{Option, Result, Ok, Err, IfOk}
use Rattle.fixed_math.specs.declared.vec3.Vec3.{Vec3}
use Rattle.dice.specs.declared.diced.GridRef.{GridRef}
use Rattle.scene.specs.declared.uses.ShaderUse.{ShaderUse}
use Rattle.shader_binding.specs.Sets.{SetValue}
use Rattle.grid_variables.specs.Points.{Leaf}
use Rattle.grid_variables.specs.Places.{point_count}
use Rattle.grid_variables.specs.Closings.{places_in}
use Rattle.displace_shade.specs.Diced.{grid_value}
use Rattle.displace_shade.specs.Shaded.{GridValue, shaded}

shaded_size : (l : Leaf) (s : SetValue) (uses : List ShaderUse) → (shaded l s uses).columns * (shaded l s uses).rows ≡ point_count l
unfolding shaded
shaded_size l s uses = refl

pub shaded_long : (l : Leaf) (s : SetValue) (uses : List ShaderUse) (g : GridRef) → grid_value g ≡ shaded l s uses → length g.p.now ≡ point_count l
shaded_long l s uses g e = g.points ∙ ap (λ (v : GridValue). v.columns * v.rows) e ∙ shaded_size l s uses

abbrev value : ℕ → ℕ → List Vec3 → List Vec3 → List Vec3 → GridValue
value a b p q r = record { columns = a; rows = b; points = p; colours = q; opacities = r }

same : (a b : ℕ) (p q r : List Vec3) (a' b' : ℕ) (p' q' r' : List Vec3) → a ≡ a' → b ≡ b' → p ≡ p' → q ≡ q' → r ≡ r' → value a b p q r ≡ value a' b' p' q' r'
same a b p q r a' b' p' q' r' e f g h k = ap (λ x. value x b p q r) e ∙ ap (λ x. value a' x p q r) f ∙ ap (λ x. value a' b' x q r) g ∙ ap (λ x. value a' b' p' x r) h ∙ ap (λ x. value a' b' p' q' x) k

pub same_grid : {E : Type 0} (r : Result GridRef E) (g : GridRef) (v : GridValue) → IfOk r (λ h. h.columns ≡ g.columns) → IfOk r (λ h. h.rows ≡ g.rows) → IfOk r (λ h. h.p.now ≡ g.p.now) → IfOk r (λ h. h.ci.now ≡ g.ci.now) → IfOk r (λ h. h.oi.now ≡ g.oi.now) →
    grid_value g ≡ v → IfOk r (λ h. grid_value h ≡ v)
same_grid (Ok h) g v a b p c o e = same h.columns h.rows h.p.now h.ci.now h.oi.now g.columns g.rows g.p.now g.ci.now g.oi.now a b p c o ∙ e
same_grid (Err x) g v a b p c o e = a

pub same_closing : {E : Type 0} (r : Result GridRef E) (g : GridRef) (f : List Vec3 → Option (List Vec3)) → IfOk r (λ h. h.p.now ≡ g.p.now) → IfOk r (λ h. places_in h.closing ≡ f g.p.now) → IfOk r (λ h. places_in h.closing ≡ f h.p.now)
same_closing (Ok h) g f p q = q ∙ ap f (sym p)
same_closing (Err x) g f p q = p
