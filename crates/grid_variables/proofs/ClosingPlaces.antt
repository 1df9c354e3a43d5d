-- The closing places of a leaf's grid, read from the lists of its points.
use Rattle.std.proofs.Common.{◌≡◌, ℕ, ◌<◌, List, length, get_or, Option, Some, None, sym, ap, ◌∙◌, subst}
use Rattle.std.specs.Prelude.{option_map}
use Rattle.std.specs.Borrow.{Bor}
use Rattle.std.specs.Option.{ForSome}
use Rattle.fixed_math.specs.Axes.{origin}
use Rattle.fixed_math.specs.declared.vec3.Vec3.{Vec3}
use Rattle.quadrics.specs.declared.any_patch.AnyPatch.{AnyPatch}
use Rattle.quadrics.specs.AnyPatches.{patch_point}
use Rattle.dice.specs.Grids.{diced_points}
use Rattle.dice.proofs.Grids.{length-diced_points}
use Rattle.moving.specs.Closing.{closing_place}
use Rattle.grid_variables.specs.Points.{Leaf, own_u, own_v}
use Rattle.grid_variables.specs.Places.{point_count, over}
use Rattle.grid_variables.specs.Closings.{closing_at, closing_of, places_in}
use Rattle.grid_variables.proofs.Dicing.{at_place}
use Rattle.grid_variables.proofs.Over.{over_all, over_at, over_long}

pub diced_long : (l : Leaf) (k : AnyPatch) (ps : List Vec3) → ps ≡ diced_points (patch_point k) l.part l.p l.q → length ps ≡ point_count l
diced_long l k ps e = ap (λ xs. length xs) e ∙ length-diced_points (patch_point k) l.part l.p l.q

read_at : (l : Leaf) (k : AnyPatch) (ps : List Vec3) (i : ℕ) → ps ≡ diced_points (patch_point k) l.part l.p l.q → i < point_count l → get_or ps i origin ≡ patch_point k (own_u l i) (own_v l i)
read_at l k ps i e h = ap (λ xs. get_or xs i origin) e ∙ at_place l (patch_point k) i origin h

pub closings_are : (l : Leaf) (k : AnyPatch) (last before after : List Vec3) → last ≡ diced_points (patch_point k) l.part l.p l.q → before ≡ diced_points (patch_point l.prim.patch) l.part l.p l.q →
    over (length last) (λ i. closing_place (get_or last i origin) (get_or before i origin) (get_or after i origin)) ≡ over (point_count l) (closing_at l after k)
closings_are l k last before after el eb =
    let g = λ (i : ℕ). closing_place (get_or last i origin) (get_or before i origin) (get_or after i origin) in
    let long = diced_long l k last el in
    over_all (closing_at l after k) (over (length last) g) (point_count l) origin (over_long g (length last) ∙ long)
    (λ i h. over_at g (length last) i origin (subst (λ n. i < n) (sym long) h)
    ∙ ap (λ x. closing_place x (get_or before i origin) (get_or after i origin)) (read_at l k last i el h)
    ∙ ap (λ y. closing_place (patch_point k (own_u l i) (own_v l i)) y (get_or after i origin)) (read_at l l.prim.patch before i eb h))

-- a list of closing places has one for each point
some_sized : (o : Option (Bor (List Vec3))) (k : Option AnyPatch) (f : AnyPatch → List Vec3) (n : ℕ) → ((q : AnyPatch) → length (f q) ≡ n) → option_map (λ q. q.now) o ≡ option_map f k → ForSome o (λ q. length q.now ≡ n)
some_sized None k f n long e = λ x none. absurd cc
some_sized (Some q) None f n long e = λ x some. absurd (cc e)
some_sized (Some q) (Some k) f n long e = λ x some.
    let it : q ≡ x = cc some in
    let same : q.now ≡ f k = cc e in
    subst (λ (z : Bor (List Vec3)). length z.now ≡ n) it (ap (λ xs. length xs) same ∙ long k)

pub closings_sized : (l : Leaf) (points : List Vec3) (o : Option (Bor (List Vec3))) → places_in o ≡ closing_of l points → ForSome o (λ q. length q.now ≡ point_count l)
closings_sized l points o e = some_sized o l.prim.closing (λ last. over (point_count l) (closing_at l points last)) (point_count l) (λ last. over_long (closing_at l points last) (point_count l)) e
