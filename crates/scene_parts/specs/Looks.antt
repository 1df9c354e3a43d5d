-- How primitives look beside their shaders, and what each request sets (RenderMan Interface 3.2, section 4.2).
use Rattle.std.specs.Prelude.{◌==◌, ℤ, pos, ◌≤ℤ◌, Bool, false, not, List, [], ◌∷◌, Option, Some, None, if◌then◌else◌, codes}
use Rattle.fixed_math.specs.Whole.{clamp}
use Rattle.fixed_math.specs.declared.vec3.Vec3.{Vec3}
use Rattle.fixed_math.specs.declared.decimal.Decimal.{Decimal}
use Rattle.fixed_math.specs.Decimal.{num}
use Rattle.rib_reader.specs.declared.args.Arg.{Arg}
use Rattle.scene.specs.declared.params.Param.{Param}
use Rattle.rib_reader.specs.declared.req.Req.{Req}
use Rattle.rib_reader.specs.declared.req.Req.TheVariants as reqs
use Rattle.rib_reader.specs.Holding.{last_named}
use Rattle.rib_reader.specs.Rules.{word_at, raw_at, whole_at, numbers_at}
use Rattle.scene_parts.specs.Choices.{one, is_word, first_number}

-- How a primitive looks beside its shaders: colour and opacity; the shading rate; whether it is seen from one side alone, and whether
-- that side is turned; whether colour and opacity vary over a micropolygon; and how far displacement may move it, in camera space.
pub record LookValues : Type 0 where
  pub cs : Vec3
  pub os : Vec3
  pub rate : ℤ
  pub one_sided : Bool
  pub flip : Bool
  pub smooth : Bool
  pub bound : ℤ

-- the most that displacement may move a point
abbrev pub most_bound : ℤ
most_bound = pos 536870912

pub record IsLook (l : LookValues) : Type 0 where
  pub bound_low : pos 0 ≤ℤ l.bound
  pub bound_high : l.bound ≤ℤ most_bound

-- the colour 1, 1, 1
abbrev pub white : Vec3
white = record { x = one; y = one; z = one }

-- how primitives look at the start
abbrev pub first_look : LookValues
first_look = record { cs = white; os = white; rate = one; one_sided = false; flip = false; smooth = false; bound = pos 0 }

-- ---- what a request sets

-- the colour of three numbers, else the one that was
abbrev pub colour_or : Option (List Decimal) → Vec3 → Vec3
colour_or (Some (r ∷ g ∷ b ∷ [])) c = record { x = num r; y = num g; z = num b }
colour_or _ c = c

-- the look after `ShadingRate`
abbrev pub with_rate : Option ℤ → LookValues → LookValues
with_rate (Some rate) l = record l { rate = rate }
with_rate None l = l

abbrev pub is_single : Option ℤ → Bool
is_single (Some (pos n)) = n == 1
is_single _ = false

-- the look after a displacement bound
abbrev pub with_bound : Option ℤ → LookValues → LookValues
with_bound (Some bound) l = record l { bound = clamp (pos 0) most_bound bound }
with_bound None l = l

abbrev pub number_of : Option Param → Option ℤ
number_of (Some p) = first_number p.values
number_of None = None

-- Attribute: the displacement bound, of which the last one holds; other attributes are without effect
abbrev pub with_attribute : List Arg → List Param → LookValues → LookValues
with_attribute args params l =
    if is_word (word_at args 0) (codes "displacementbound") then with_bound (number_of (last_named (codes "sphere") params)) l else l

-- the look behind a request for a part of it
abbrev pub look_after : Req → List Arg → List Param → LookValues → LookValues
look_after reqs.Color args params l = record l { cs = colour_or (numbers_at args 0) l.cs }
look_after reqs.Opacity args params l = record l { os = colour_or (numbers_at args 0) l.os }
look_after reqs.ShadingRate args params l = with_rate (raw_at args 0) l
look_after reqs.ShadingInterpolation args params l = record l { smooth = is_word (word_at args 0) (codes "smooth") }
look_after reqs.Sides args params l = record l { one_sided = is_single (whole_at args 0) }
look_after reqs.Orientation args params l = record l { flip = is_word (word_at args 0) (codes "inside") }
look_after reqs.ReverseOrientation args params l = record l { flip = not l.flip }
look_after reqs.Attribute args params l = with_attribute args params l
look_after _ args params l = l
