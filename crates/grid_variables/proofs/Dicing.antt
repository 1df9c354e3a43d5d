-- The points of a leaf, read from the lists of its grid.
use Rattle.std.proofs.Common.{◌≡◌, ℕ, ◌*◌, ◌/◌, ◌%◌, ◌<◌, List, [], Some, None, length, map, get_or, sym, ap, ◌∙◌, subst, arith}
use Rattle.std.proofs.lemmas.List.{get_or-map, length-map}
use Rattle.std.proofs.lemmas.Nat.{div_below}
use Rattle.std.proofs.Math.Nat.{div-add-mod, mod-lt, mul_comm}
use Rattle.fixed_math.specs.Axes.{origin}
use Rattle.fixed_math.specs.declared.vec3.Vec3.{Vec3}
use Rattle.quadrics.specs.AnyPatches.{patch_point, patch_du, patch_dv}
use Rattle.dice.specs.Grids.{line_count, diced_points}
use Rattle.dice.specs.Normals.{normal}
use Rattle.dice.proofs.Grids.{diced_at, length-diced_points}
use Rattle.grid_variables.specs.Points.{Leaf, columns, rows, own_u, own_v, point_at, normal_of, sight, turned, flat_or}
use Rattle.grid_variables.specs.Variables.{n_at}
use Rattle.grid_variables.specs.Places.{point_count, over, normals_of, IsSized}
use Rattle.grid_variables.specs.declared.variables.Variables.{Variables}
use Rattle.grid_variables.proofs.Over.{over_all, over_long}

pub at_place : (l : Leaf) (point : ℕ → ℕ → Vec3) (i : ℕ) (d : Vec3) → i < point_count l → get_or (diced_points point l.part l.p l.q) i d ≡ point (own_u l i) (own_v l i)
at_place l point i d h =
    let some : 0 < line_count l.p = omega arith in
    let turned : i < rows l * columns l = subst (λ n. i < n) (mul_comm (columns l) (rows l)) h in
    subst (λ k. get_or (diced_points point l.part l.p l.q) k d ≡ point (own_u l i) (own_v l i)) (div-add-mod i (columns l)) (diced_at point l.part l.p l.q (i % columns l) (i / columns l) d (mod-lt i some) (div_below i (columns l) (rows l) some turned))

-- each point of the patch, seen, and each normal, turned
abbrev pub points_of : Leaf → List Vec3
points_of l = diced_points (patch_point l.prim.patch) l.part l.p l.q

abbrev units_of : Leaf → List Vec3
units_of l = diced_points (normal (patch_du l.prim.patch) (patch_dv l.prim.patch)) l.part l.p l.q

turned_read : (l : Leaf) (ns : List Vec3) → ns ≡ map (λ n. turned l.prim.flip n) (units_of l) → l.prim.flat ≡ None → (i : ℕ) → i < point_count l → get_or ns i origin ≡ normal_of l i
turned_read l ns e f i h =
    let turn = λ (n : Vec3). turned l.prim.flip n in
    ap (λ xs. get_or xs i origin) e ∙ get_or-map turn (units_of l) i origin origin (let k = length-diced_points (normal (patch_du l.prim.patch) (patch_dv l.prim.patch)) l.part l.p l.q in omega (arith, k, h))
    ∙ ap turn (at_place l (normal (patch_du l.prim.patch) (patch_dv l.prim.patch)) i origin h)
    ∙ ap (λ q. turned l.prim.flip (flat_or q (normal (patch_du l.prim.patch) (patch_dv l.prim.patch) (own_u l i) (own_v l i)))) (sym f)

pub sight_read : (l : Leaf) (is : List Vec3) → is ≡ map (sight l.camera) (points_of l) → (i : ℕ) → i < point_count l → get_or is i origin ≡ sight l.camera (point_at l i)
sight_read l is e i h =
    ap (λ xs. get_or xs i origin) e ∙ get_or-map (sight l.camera) (points_of l) i origin origin (let k = length-diced_points (patch_point l.prim.patch) l.part l.p l.q in omega (arith, k, h))
    ∙ ap (sight l.camera) (at_place l (patch_point l.prim.patch) i origin h)

-- the geometric normals, of a patch and of a flat primitive
pub of_patch : (l : Leaf) (ns : List Vec3) → ns ≡ map (λ n. turned l.prim.flip n) (diced_points (normal (patch_du l.prim.patch) (patch_dv l.prim.patch)) l.part l.p l.q) → l.prim.flat ≡ None → ns ≡ over (point_count l) (normal_of l)
of_patch l ns e f =
    let long : length ns ≡ point_count l = ap (λ xs. length xs) e ∙ length-map (units_of l) (λ n. turned l.prim.flip n) ∙ length-diced_points (normal (patch_du l.prim.patch) (patch_dv l.prim.patch)) l.part l.p l.q in
    over_all (normal_of l) ns (point_count l) origin long (λ i h. turned_read l ns e f i h)

pub of_flat : (l : Leaf) (n : Vec3) → l.prim.flat ≡ Some n → over (point_count l) (λ i. turned l.prim.flip n) ≡ over (point_count l) (normal_of l)
of_flat l n f =
    ap (λ q. over (point_count l) (λ i. turned l.prim.flip (flat_or q (normal (patch_du l.prim.patch) (patch_dv l.prim.patch) (own_u l i) (own_v l i))))) (sym f)

pub first_sized : (l : Leaf) (d : Variables) (ps : List Vec3) → ps ≡ diced_points (patch_point l.prim.patch) l.part l.p l.q → d.points.now ≡ ps → d.normals ≡ None → d.sights.now ≡ map (sight l.camera) ps → d.colours.now ≡ [] → d.opacities.now ≡ [] → IsSized l d
first_sized l d ps e ep en es ec eo =
    let long : length ps ≡ point_count l = ap (λ xs. length xs) e ∙ length-diced_points (patch_point l.prim.patch) l.part l.p l.q in
    record {
      points = ap (λ xs. length xs) ep ∙ long;
      normals = ap (λ q. length (normals_of l q)) en ∙ over_long (n_at l) (point_count l);
      sights = ap (λ xs. length xs) es ∙ length-map ps (sight l.camera) ∙ long;
      colours = let n = ap (λ xs. length xs) ec in omega (arith, n);
      opacities = let n = ap (λ xs. length xs) eo in omega (arith, n);
    }
