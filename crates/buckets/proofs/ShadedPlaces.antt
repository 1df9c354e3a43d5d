-- The points of a shaded leaf lie at each time in the box of its part, widened by the bound of its primitive: displacement moves a point no
-- further, and no other shader moves it.
use Rattle.std.proofs.Common.{◌≡◌, ℕ, zero, suc, ◌*◌, ◌/◌, ◌%◌, ◌<◌, ◌≤◌, arith, refl, sym, ◌∙◌, ap, subst, Bool, true, false, cond, List, [], ◌∷◌, Option, Some, None, get_or}
use Rattle.std.specs.Prelude.{ℤ, pos, ◌+ℤ◌, ◌-ℤ◌, ◌≤ℤ◌, slice_get}
use Rattle.std.specs.Int.{int_min}
use Rattle.std.proofs.lemmas.Bool.{false≢true}
use Rattle.std.proofs.lemmas.Int.{ints, int_min_is, int_max_is}
use Rattle.std.proofs.lemmas.List.FromFn.{get_or-map-range_with_len}
use Rattle.std.proofs.Math.Nat.{mod-lt, div-lt_iff_lt-mul, mul_comm}
use Rattle.fixed_math.specs.declared.vec3.Vec3.{Vec3}
use Rattle.fixed_math.specs.declared.vec3.Axis.TheVariants.{X, Y, Z}
use Rattle.fixed_math.specs.Axes.{origin}
use Rattle.patches.specs.Rects.{IsAt}
use Rattle.patches.specs.Boxes.{Holds}
use Rattle.patches.specs.Parts.{IsPart, rect_of}
use Rattle.patches.proofs.Spans.{rect_of-IsRect}
use Rattle.moving.specs.Closing.{IsNear}
use Rattle.moving_cells.specs.MovingGrids.{point_when}
use Rattle.bound_split.specs.Extents.{widened}
use Rattle.dice.proofs.Directions.{cells_from}
use Rattle.dice.proofs.Grids.{lines-IsAt}
use Rattle.scene.specs.Scene.{FrameValue, IsUse, IsSomeUse}
use Rattle.scene.specs.declared.uses.ShaderKind.{ShaderKind}
use Rattle.scene.specs.declared.uses.ShaderKind.TheVariants as requested
use Rattle.scene.specs.declared.uses.ShaderUse.{ShaderUse}
use Rattle.sl_ast.specs.declared.kinds.SlKind.{SlKind}
use Rattle.sl_ast.specs.declared.kinds.SlKind.TheVariants as written
use Rattle.sl_ast.specs.declared.kinds.Predefined.TheVariants as names
use Rattle.sl_ast.specs.declared.typed.Value.{Value}
use Rattle.sl_ast.specs.Names.{writes}
use Rattle.sl_ast.specs.Typed.{Tree}
use Rattle.builtins.specs.Lights.{Light}
use Rattle.builtins.specs.Values.{triple_of}
use Rattle.sl_meaning.specs.Runs.{Names}
use Rattle.texture.specs.Images.{Image}
use Rattle.shader_binding.specs.Sets.{SetValue, AcceptedValue, Bound, Fits, FitsUse, FitUses, is_of_kind, bound_with, bound_at, bound_for}
use Rattle.grid_variables.specs.Kept.{kept_near, moved}
use Rattle.grid_variables.specs.Points.{Leaf, columns, rows, own_u, own_v, point_at}
use Rattle.grid_variables.specs.Places.{point_count}
use Rattle.grid_variables.specs.Closings.{closing_of}
use Rattle.displace_shade.specs.Shaded.{diced_names, shaded_by, displaced, lights_from, shaded_names, shaded}
use Rattle.buckets.specs.Culled.{IsShadedPrim}
use Rattle.buckets.specs.Pictures.{prim_box}
use Rattle.buckets.proofs.PrimBoxes.{place_inside}

-- ---- which shaders leave points where they are
abbrev KeepsPlaces : Option Bound → Type 0
KeepsPlaces None = Unit {0}
KeepsPlaces (Some b) = writes b.tree.kind names.P ≡ false

abbrev moves_none : ShaderKind → Bool
moves_none requested.Surface = true
moves_none requested.Volume = true
moves_none requested.Displacement = false
moves_none requested.Light = false

kind_keeps : (k : SlKind) (u : ShaderKind) → is_of_kind k u ≡ true → moves_none u ≡ true → writes k names.P ≡ false
kind_keeps written.Surface u h m = refl
kind_keeps written.Volume u h m = refl
kind_keeps written.Light u h m = refl
kind_keeps written.Displacement requested.Displacement h m = absurd (false≢true m)
kind_keeps written.Displacement requested.Surface h m = absurd (false≢true h)
kind_keeps written.Displacement requested.Volume h m = absurd (false≢true h)
kind_keeps written.Displacement requested.Light h m = absurd (false≢true h)

tree_keeps : (images : List Image) (o : Option Tree) (u : ShaderUse) (vs : List Value) (es : Option (List (Option ℕ))) (kind : ShaderKind) → FitsUse u vs o → moves_none kind ≡ true → u.kind ≡ kind → KeepsPlaces (bound_with images o (Some vs) es (Some u))
tree_keeps images None u vs es kind h m e = absurd h
tree_keeps images (Some t) u vs None kind h m e = tt
tree_keeps images (Some t) u vs (Some es) kind h m e = kind_keeps t.kind u.kind h.0 (ap moves_none e ∙ m)

use_keeps : (images : List Image) (trees : List Tree) (uses : List ShaderUse) (ofs : List ℕ) (bounds : List (List Value)) (ess : List (List (Option ℕ))) (n : ℕ) (kind : ShaderKind) → FitUses trees uses ofs bounds → moves_none kind ≡ true → IsUse uses kind n →
    KeepsPlaces (bound_with images (slice_get trees (get_or ofs n 0)) (slice_get bounds n) (slice_get ess n) (slice_get uses n))
use_keeps images trees [] ofs bounds ess n kind h m is = absurd is
use_keeps images trees (u ∷ uses) (o ∷ ofs) (vs ∷ bounds) ess zero kind h m is = tree_keeps images (slice_get trees o) u vs (slice_get ess 0) kind h.0 m is
use_keeps images trees (u ∷ uses) (o ∷ ofs) (vs ∷ bounds) (es ∷ ess) (suc n) kind h m is = use_keeps images trees uses ofs bounds ess n kind h.1 m is
use_keeps images trees (u ∷ uses) (o ∷ ofs) (vs ∷ bounds) [] (suc n) kind h m is = use_keeps images trees uses ofs bounds [] n kind h.1 m is
use_keeps images trees (u ∷ uses) [] bounds ess n kind h m is = absurd h
use_keeps images trees (u ∷ uses) (o ∷ ofs) [] ess n kind h m is = absurd h

some_keeps : (s : SetValue) (uses : List ShaderUse) (n : Option ℕ) (kind : ShaderKind) → Fits s uses → moves_none kind ≡ true → IsSomeUse uses kind n → KeepsPlaces (bound_for s uses n)
some_keeps s uses None kind h m is = tt
some_keeps s uses (Some n) kind h m is = use_keeps s.textures s.trees uses s.of_use s.bound s.look_ups n kind h.uses m is

kept_where : (b : Bool) (x y : Value) → b ≡ false → cond b x y ≡ y
kept_where b x y e = ap (λ c. cond c x y) e

shaded_kept : (l : Leaf) (o : Option Bound) (lights : List (Vec3 → Light)) (before : ℕ → Names) (i : ℕ) → KeepsPlaces o → shaded_by l o lights before i names.P ≡ before i names.P
shaded_kept l None lights before i h = refl
shaded_kept l (Some b) lights before i h = kept_where (writes b.tree.kind names.P) _ (before i names.P) h

-- a point is where displacement moved it
place_moved : (l : Leaf) (s : SetValue) (uses : List ShaderUse) (i : ℕ) → KeepsPlaces (bound_at s uses l.prim.surface) → KeepsPlaces (bound_for s uses l.prim.atmosphere) →
    triple_of (shaded_names l s uses i names.P) ≡ moved l.prim.bound (point_at l i) (triple_of (shaded_by l (bound_for s uses l.prim.displacement) [] (diced_names l) i names.P))
place_moved l s uses i surface volume =
    let before = displaced l (bound_for s uses l.prim.displacement) in
    let lit = shaded_by l (bound_at s uses l.prim.surface) (lights_from l s uses l.prim.lights) before in
    ap triple_of (shaded_kept l (bound_for s uses l.prim.atmosphere) [] lit i volume) ∙ ap triple_of (shaded_kept l (bound_at s uses l.prim.surface) (lights_from l s uses l.prim.lights) before i surface)

-- ---- how far
kept_near_it : (b p q : ℤ) → pos 0 ≤ℤ b → ((p -ℤ b) ≤ℤ kept_near b p q) × (kept_near b p q ≤ℤ (p +ℤ b))
kept_near_it b p q s =
    let least = int_min_is q (p +ℤ b) in
    let greatest = int_max_is (p -ℤ b) (int_min q (p +ℤ b)) in
    (omega (arith, ints, least, greatest), omega (arith, ints, least, greatest))

moved_near : (b : ℤ) (p q : Vec3) → pos 0 ≤ℤ b → IsNear b p (moved b p q)
moved_near b p q s X = kept_near_it b p.x q.x s
moved_near b p q s Y = kept_near_it b p.y q.y s
moved_near b p q s Z = kept_near_it b p.z q.z s

-- ---- where the points of a leaf's grid are
-- their parameters lie in its part
points_at : (l : Leaf) (i : ℕ) → IsPart l.part → l.p ≤ 4 → l.q ≤ 4 → i < point_count l → IsAt (rect_of l.part) (own_u l i) (own_v l i)
points_at l i is hp hq h =
    let wide = cells_from l.p in
    let column : i % columns l < columns l = mod-lt i (omega (arith, wide)) in
    let turned : columns l * rows l ≡ rows l * columns l = mul_comm (columns l) (rows l) in
    let row : i / columns l < rows l = (div-lt_iff_lt-mul {k = columns l} {x = i} {y = rows l} (omega (arith, wide))).1 (omega (arith, h, turned)) in
    lines-IsAt l.part l.p l.q (i % columns l) (i / columns l) is hp hq (omega (arith, column)) (omega (arith, row))

-- a shaded grid has its leaf's columns and rows
pub shaded_wide : (l : Leaf) (s : SetValue) (uses : List ShaderUse) → 2 ≤ (shaded l s uses).columns
unfolding shaded
shaded_wide l s uses = cells_from l.p

pub shaded_tall : (l : Leaf) (s : SetValue) (uses : List ShaderUse) → 2 ≤ (shaded l s uses).rows
unfolding shaded
shaded_tall l s uses = cells_from l.q

pub shaded_few : (l : Leaf) (s : SetValue) (uses : List ShaderUse) (n : ℕ) → n < (shaded l s uses).columns * (shaded l s uses).rows → n < point_count l
unfolding shaded
shaded_few l s uses n h = h

-- and its points, which no shader but the displacement moves, are near the patch
shaded_near : (a : AcceptedValue) (f : FrameValue) (l : Leaf) (i : ℕ) → IsShadedPrim a f l.prim → i < point_count l → IsNear l.prim.bound (point_at l i) (get_or (shaded l a.set a.scene.uses).points i origin)
unfolding shaded
shaded_near a f l i is h =
    let surface = use_keeps a.set.textures a.set.trees a.scene.uses a.set.of_use a.set.bound a.set.look_ups l.prim.surface requested.Surface is.fits.uses refl is.uses.surface in
    let volume = some_keeps a.set a.scene.uses l.prim.atmosphere requested.Volume is.fits refl is.uses.atmosphere in
    let there = get_or-map-range_with_len (λ j. triple_of (shaded_names l a.set a.scene.uses j names.P)) 0 (point_count l) i i origin h (omega arith) in
    subst (IsNear l.prim.bound (point_at l i)) (sym (there ∙ place_moved l a.set a.scene.uses i surface volume)) (moved_near l.prim.bound (point_at l i) _ is.bound)

-- so at each time they lie in the box of its part when that is widened
pub shaded_in : (a : AcceptedValue) (f : FrameValue) (l : Leaf) (t i : ℕ) → IsShadedPrim a f l.prim → IsPart l.part → l.p ≤ 4 → l.q ≤ 4 → t ≤ 65536 → i < point_count l →
    let points = (shaded l a.set a.scene.uses).points in Holds (widened l.prim.bound (prim_box l.prim (rect_of l.part))) (point_when (closing_of l points) points i t)
shaded_in a f l t i is part_is hp hq time h =
    place_inside l.prim.closing l (shaded l a.set a.scene.uses).points i t is.small (rect_of-IsRect l.part part_is) (points_at l i part_is hp hq h) time h (shaded_near a f l i is h)
