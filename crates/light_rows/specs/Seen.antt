-- What lights answer at the places of a grid, what is seen of it, and sums over lights as they grow.
use Rattle.std.specs.Prelude.{◌≡◌, ℕ, ◌<◌, ℤ, pos, Bool, true, false, int_le, cond, List, [], ◌∷◌, length, get_or, Option, Some, None}
use Rattle.fixed_math.specs.Axes.{origin}
use Rattle.fixed_math.specs.Fixed.{add, div}
use Rattle.fixed_math.specs.Sine.{cos}
use Rattle.fixed_math.specs.declared.vec3.Vec3.{Vec3}
use Rattle.sl_ast.specs.declared.operations.LightSum.{LightSum}
use Rattle.sl_ast.specs.declared.operations.LightSum.TheVariants as sums
use Rattle.sl_ast.specs.declared.typed.Value.{Value}
use Rattle.builtins.specs.Lights as lights
use Rattle.builtins.specs.Lights.{Light, facing, shown, diffused, thrown, is_before}
use Rattle.builtins.specs.Triples.{each_two, normalize}
use Rattle.builtins.specs.Values.{is_nonzero, number_of, triple_of}
use Rattle.grid_code.specs.Masked.{Asked}
use Rattle.number_rows.specs.Planes.{plane_at, triple_at, triple_in, IsPlane, ArePlanes}
use Rattle.light_rows.specs.declared.answers.Answers.{Answers}
use Rattle.light_rows.specs.declared.sums.Sum.{Sum}
use Rattle.light_rows.specs.declared.sums.Sum.TheVariants.{Ambient, Diffuse, Specular, Nothing}
use Rattle.light_rows.specs.declared.triples.Triples.{Triples}
use Rattle.light_rows.specs.declared.viewing.Cone.{Cone}
use Rattle.light_rows.specs.declared.viewing.View.{View}
use Rattle.light_rows.specs.declared.workroom.Workroom.{Workroom}

-- how many triples there are in rows, and the one of a place
abbrev pub size : Triples → ℕ
size t = length t.x.items

abbrev pub at_place : Triples → ℕ → Vec3
at_place t i = triple_in t.x.items t.y.items t.z.items i

-- what a light answers by its class, by whether it is lit, its direction and its colour
abbrev pub answered_by : Bool → Bool → Vec3 → Vec3 → Light
answered_by true lit l cl = lights.ambient cl
answered_by false lit l cl = cond lit (lights.lit l cl) lights.unlit

-- a direction lies in a cone at a place
abbrev pub cone_at : Cone → ℕ → Vec3 → Bool
cone_at cone i l = cond cone.given (int_le (cos (plane_at cone.angle i)) (facing l (triple_at cone.axis i))) true

-- what there is of an option
abbrev pub option_bind : {Y : Type 0} → Option (Vec3 × Vec3) → (Vec3 × Vec3 → Option Y) → Option Y
option_bind None f = None
option_bind (Some x) f = f x

-- what is seen of a light under a test of directions
abbrev pub shown_by : (Vec3 → Bool) → Light → Option (Vec3 × Vec3)
shown_by p l = option_bind (shown [] l) (λ x. cond (p x.0) (Some x) None)

-- what one light adds to a sum
abbrev pub reflected : Vec3 → Vec3 → ℤ → Vec3 × Vec3 → Option Vec3
reflected n v r light = cond (is_before n light) (Some (thrown n v r light)) None

abbrev pub ambient_gain : Light → Option Vec3
ambient_gain (lights.ambient cl) = Some cl
ambient_gain lights.unlit = None
ambient_gain (lights.lit l cl) = None

-- what one light adds to a sum of this kind
abbrev pub gain : LightSum → List Value → Light → Option Vec3
gain sums.Ambient _ l = ambient_gain l
gain sums.Diffuse (n ∷ []) l = option_bind (shown [] l) (λ x. Some (diffused (triple_of n) x))
gain sums.Specular (n ∷ v ∷ r ∷ []) l = option_bind (shown [] l) (reflected (triple_of n) (triple_of v) (number_of r))
gain _ _ l = None

-- the same with the arguments of a place
abbrev pub gain_at : Sum → ℕ → Light → Option Vec3
gain_at Ambient i l = ambient_gain l
gain_at (Diffuse n) i l = option_bind (shown [] l) (λ x. Some (diffused (triple_at n i) x))
gain_at (Specular n v r) i l = option_bind (shown [] l) (reflected (triple_at n i) (triple_at v i) (plane_at r i))
gain_at Nothing i l = None

abbrev pub with_gain : Vec3 → Option Vec3 → Vec3
with_gain t None = t
with_gain t (Some c) = each_two add t c

-- a sum that goes on from a colour
abbrev pub gained : (Light → Option Vec3) → Vec3 → List Light → Vec3
gained f t [] = t
gained f t (l ∷ ls) = gained f (with_gain t (f l)) ls

-- what lights answer at a place, asked at the points q
abbrev pub answers_at : List Asked → (ℕ → Vec3) → ℕ → List Light
answers_at [] q i = []
answers_at (f ∷ fs) q i = f q i ∷ answers_at fs q i

-- lights on a grid of so many places
pub record Lighting : Type 0 where
  pub places : ℕ
  pub lights : List Asked

-- no light is asked behind the last one
abbrev pub unasked : Asked
unasked q i = lights.unlit

-- rows of answers have so many places
pub record HasPlaces (c : ℕ) (a : Answers) : Type 0 where
  pub lit : length a.lit.items ≡ c
  pub towards : size a.towards ≡ c
  pub units : size a.units ≡ c
  pub colours : size a.colours ≡ c

-- what a surface sees of a light at a place of its answers
abbrev pub seen_at : Answers → ℕ → Option (Vec3 × Vec3)
seen_at a i = cond (is_nonzero (get_or a.lit.items i (pos 0))) (Some (at_place a.towards i, at_place a.colours i)) None

-- answers hold at a place what a light answers
pub record IsAnswer (a : Answers) (i : ℕ) (l : Light) : Type 0 where
  pub ambient : ambient_gain l ≡ cond a.ambient (Some (at_place a.colours i)) None
  pub seen : shown [] l ≡ cond a.ambient None (seen_at a i)
  pub unit : a.ambient ≡ false → at_place a.units i ≡ normalize (at_place a.towards i)

-- functions agree at the first places
abbrev pub AtPlaces : {A : Type 0} → ℕ → (ℕ → A) → (ℕ → A) → Type 0
AtPlaces c f g = (i : ℕ) → i < c → f i ≡ g i

-- the same of answers as planes: there are so many places, and what a surface sees of a light at one of them
pub record HasPlanes (c : ℕ) (v : View) : Type 0 where
  pub lit : IsPlane c v.lit
  pub towards : ArePlanes c v.towards
  pub units : ArePlanes c v.units
  pub colours : ArePlanes c v.colours

pub record IsShown (v : View) (i : ℕ) (l : Light) : Type 0 where
  pub seen : shown [] l ≡ cond v.ambient None (cond (is_nonzero (plane_at v.lit i)) (Some (triple_at v.towards i, triple_at v.colours i)) None)
  pub unit : v.ambient ≡ false → triple_at v.units i ≡ normalize (triple_at v.towards i)

-- a view is that of light n at points
pub record IsAnswerOf (w : Lighting) (n : ℕ) (points : ℕ → Vec3) (v : View) : Type 0 where
  pub planes : HasPlanes w.places v
  pub each : (q : ℕ → Vec3) → AtPlaces w.places q points → (i : ℕ) → i < w.places → IsShown v i (get_or w.lights n unasked q i)

-- there are arguments for each of the first places
abbrev pub IsSum : ℕ → Sum → Type 0
IsSum c Ambient = Unit {0}
IsSum c (Diffuse n) = ArePlanes c n
IsSum c (Specular n v r) = ArePlanes c n × (ArePlanes c v × IsPlane c r)
IsSum c Nothing = Unit {0}

pub record IsCone (c : ℕ) (cone : Cone) : Type 0 where
  pub axis : ArePlanes c cone.axis
  pub angle : IsPlane c cone.angle

-- the sums over lights at points
abbrev pub IsSumOf : Sum → Lighting → (ℕ → Vec3) → (ℕ → Vec3) → Type 0
IsSumOf s w points out = (q : ℕ → Vec3) → AtPlaces w.places q points → (i : ℕ) → i < w.places → out i ≡ gained (gain_at s i) origin (answers_at w.lights q i)

-- a workroom has rows of so many places, and the units of the normals that it knows
pub record HasRows (c : ℕ) (w : Workroom) : Type 0 where
  pub sources : size w.sources ≡ c
  pub normals : size w.normals ≡ c
  pub exponents : length w.exponents.items ≡ c
  pub weights : length w.weights.items ≡ c
  pub shown : length w.shown.items ≡ c
  pub sums : size w.sums ≡ c
  pub half_way : size w.half_way ≡ c
  pub units : w.known ≡ true → (i : ℕ) → i < c → at_place w.normals i ≡ normalize (at_place w.sources i)

-- it has the units of normals, and the exponents of highlights of that roughness
abbrev pub AreNormals : ℕ → (ℕ → Vec3) → Workroom → Type 0
AreNormals c n w = (i : ℕ) → i < c → at_place w.normals i ≡ normalize (n i)

abbrev pub AreExponents : ℕ → (ℕ → ℤ) → Workroom → Type 0
AreExponents c r w = (i : ℕ) → i < c → get_or w.exponents.items i (pos 0) ≡ div (pos 65536) (r i)

-- it has what a sum needs of its arguments alone
abbrev pub HasBegun : ℕ → Sum → Workroom → Type 0
HasBegun c Ambient w = Unit {0}
HasBegun c (Diffuse n) w = AreNormals c (triple_at n) w
HasBegun c (Specular n v r) w = AreNormals c (triple_at n) w × AreExponents c (plane_at r) w
HasBegun c Nothing w = Unit {0}

-- whether an ambient light counts in a sum, or one that isn't
abbrev pub counts_in : Sum → Bool → Bool
counts_in Ambient b = b
counts_in (Diffuse n) true = false
counts_in (Diffuse n) false = true
counts_in (Specular n v r) true = false
counts_in (Specular n v r) false = true
counts_in Nothing b = false
