-- Quadrics by their requests, and the patches that they are made of (RenderMan Interface 3.2, section 5, on quadrics; all of them
-- whole). A quadric is made of rows, each a circle about the z axis, and a circle of four quarters.
use Rattle.std.specs.Prelude.{ℕ, zero, suc, ◌/◌, ◌%◌, ℤ, pos, neg_ℤ, List, [], ◌∷◌, ◌++◌, map, Option, Some, None, unwrap_or, if◌then◌else◌, ◌≡◌, refl}
use Rattle.fixed_math.specs.declared.vec3.Vec3.{Vec3}
use Rattle.transforms.specs.Map.{Map}
use Rattle.quadrics.specs.declared.quadric.Quadric.{Quadric}
use Rattle.quadrics.specs.declared.quadric.Quadric.TheVariants.{Round, Ruled}
use Rattle.mesh_basis.specs.Ranges.{are_in_range}
use Rattle.rib_reader.specs.declared.args.Arg.{Arg}
use Rattle.rib_reader.specs.declared.req.Req.{Req}
use Rattle.rib_reader.specs.declared.req.Req.TheVariants as reqs
use Rattle.rib_reader.specs.Rules.{raw_at}
use Rattle.primitives.specs.declared.forms.Circle.{Circle}
use Rattle.primitives.specs.declared.forms.Form.{Form}
use Rattle.primitives.specs.declared.forms.Form.TheVariants as forms
use Rattle.primitives.specs.Points.{camera_point}

abbrev pub circle : ℤ → ℤ → Circle
circle radius height = record { radius = radius; height = height }

-- the number that a request's row has at that place
abbrev number : List Arg → ℕ → ℤ
number args k = unwrap_or (raw_at args k) (pos 0)

-- a sphere by its radius; a cylinder by its radius and two heights; a cone and a disk by their height and radius
abbrev pub form_of : Req → List Arg → Option Form
form_of reqs.Sphere args = Some (forms.Sphere (number args 0))
form_of reqs.Cylinder args = Some (forms.Ruled (circle (number args 0) (number args 1)) (circle (number args 0) (number args 2)))
form_of reqs.Cone args = Some (forms.Ruled (circle (number args 1) (pos 0)) (circle (pos 0) (number args 0)))
form_of reqs.Disk args = Some (forms.Ruled (circle (number args 1) (number args 0)) (circle (pos 0) (number args 0)))
form_of _ args = None

abbrev point : ℤ → ℤ → ℤ → Vec3
point x y z = record { x = x; y = y; z = z }

-- turned about the z axis by so many right angles, each of which takes (x, y) to (-y, x)
abbrev pub turned : ℕ → Vec3 → Vec3
turned zero p = p
turned (suc k) p = turned k (point (neg_ℤ p.y) p.x p.z)

-- a quarter of a circle, of three points with the weights 1, 1, 2: quarter 0 turned by that many right angles
abbrev pub arc : ℕ → Circle → List Vec3
arc quarter c = map (turned quarter) (point c.radius (pos 0) c.height ∷ point c.radius c.radius c.height ∷ point (pos 0) c.radius c.height ∷ [])

-- in camera space
abbrev pub placed_arc : Map → ℕ → Circle → List Vec3
placed_arc m quarter c = map (camera_point m) (arc quarter c)

-- the patch between that quarter of three circles with the weights 1, 1, 2, or of two, where each point is in range
abbrev round_in_range : List Vec3 → Option Quadric
round_in_range ps = if are_in_range ps then Some (Round ps) else None

abbrev ruled_in_range : List Vec3 → Option Quadric
ruled_in_range ps = if are_in_range ps then Some (Ruled ps) else None

-- a patch of a sphere, between quarters of three circles in camera space
unfoldable pub round_at : Map → ℕ → Circle → Circle → Circle → Option Quadric
round_at m quarter a b c = round_in_range (placed_arc m quarter a ++ (placed_arc m quarter b ++ placed_arc m quarter c))

-- a patch of straight lines, between quarters of two circles
unfoldable pub ruled_at : Map → ℕ → Circle → Circle → Option Quadric
ruled_at m quarter a b = ruled_in_range (placed_arc m quarter a ++ placed_arc m quarter b)

-- of a sphere, its south before its north
abbrev pub half_at : Map → ℕ → ℕ → ℤ → Option Quadric
half_at m quarter zero r = round_at m quarter (circle (pos 0) (neg_ℤ r)) (circle r (neg_ℤ r)) (circle r (pos 0))
half_at m quarter (suc half) r = round_at m quarter (circle r (pos 0)) (circle r r) (circle (pos 0) r)

-- how many halves it has, of four patches each
abbrev pub halves : Form → ℕ
halves (forms.Sphere r) = 2
halves (forms.Ruled a b) = 1

-- patch k: by halves, the quarter fastest
abbrev pub patch_at : Map → Form → ℕ → Option Quadric
patch_at m (forms.Sphere r) k = half_at m (k % 4) (k / 4) r
patch_at m (forms.Ruled a b) k = ruled_at m (k % 4) a b

-- worked values: the second quarter of a circle, and the last one
second_quarter : arc 1 (circle (pos 3) (pos 7)) ≡ point (neg_ℤ (pos 0)) (pos 3) (pos 7) ∷ point (neg_ℤ (pos 3)) (pos 3) (pos 7) ∷ point (neg_ℤ (pos 3)) (pos 0) (pos 7) ∷ []
second_quarter = refl

last_quarter : arc 3 (circle (pos 3) (pos 7)) ≡ point (pos 0) (neg_ℤ (pos 3)) (pos 7) ∷ point (pos 3) (neg_ℤ (pos 3)) (pos 7) ∷ point (pos 3) (pos 0) (pos 7) ∷ []
last_quarter = refl
