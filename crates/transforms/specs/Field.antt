-- The field of view, and the views that a camera can have.
use Rattle.std.specs.Prelude.{ℕ, ◌≤◌, ℤ, pos, ◌*ℤ◌, ◌≤ℤ◌, ◌<ℤ◌, Bool, true, false, ◌&&◌, int_lt, cond, unsigned_abs, Option, Some, None, option_map, Result, Ok, Err, slice_index_or, ◌≡◌, refl}
use Rattle.std.specs.Ordering.{int_eq}
use Rattle.fixed_math.specs.Whole.{floor_by}
use Rattle.fixed_math.specs.Fixed.{div}
use Rattle.fixed_math.specs.Sine.{sin, cos, series, one_less, folded, reduced}
use Rattle.transforms.specs.declared.fault.FormFault.{FormFault}
use Rattle.transforms.specs.declared.fault.FormFault.TheVariants.{G3}
use Rattle.transforms.specs.declared.view.View.{View}

-- the sides of the screen window
abbrev pub left : View → ℤ
left v = slice_index_or v.window 0 (pos 0)

-- the right end of the screen window
abbrev pub right : View → ℤ
right v = slice_index_or v.window 1 (pos 0)

-- its lower end
abbrev pub bottom : View → ℤ
bottom v = slice_index_or v.window 2 (pos 0)

-- its upper end
abbrev pub top : View → ℤ
top v = slice_index_or v.window 3 (pos 0)

-- half of an angle in degrees, in radians
unfoldable pub half_angle : ℤ → ℤ
half_angle f = floor_by (f *ℤ pos 205887) 23592960

-- the tangent of half the field of view, exactly 1 at 90 degrees
unfoldable pub tangent : ℤ → ℤ
tangent f = cond (int_eq f (pos 5898240)) (pos 65536) (div (sin (half_angle f)) (cos (half_angle f)))

-- a field of view above 0 and below 180 degrees whose tangent is at least the least raw
unfoldable pub is_field : ℤ → Bool
is_field f = int_lt (pos 0) f && int_lt f (pos 11796480) && int_lt (pos 0) (tangent f)

-- the tangent of a perspective view, and none of an orthographic one
abbrev pub scale_of : View → Option ℕ
scale_of v = option_map (λ f. unsigned_abs (tangent f)) v.fov

abbrev pub is_seen : Option ℤ → Bool
is_seen None = true
is_seen (Some f) = is_field f

-- what a camera is made of
abbrev pub camera_of : View → Result View FormFault
camera_of v = cond (is_seen v.fov) (Ok v) (Err G3)

-- what holds of the view of every camera
pub record IsView (v : View) : Type 0 where
  pub near : pos 1 ≤ℤ v.near
  pub far : v.near <ℤ v.far
  pub across : left v <ℤ right v
  pub up : bottom v <ℤ top v
  pub width : 1 ≤ v.width
  pub width_limit : v.width ≤ 4096
  pub height : 1 ≤ v.height
  pub height_limit : v.height ≤ 4096
  pub seen : is_seen v.fov ≡ true

-- worked values: the tangents of 90 and 60 degrees; 0 and 180 degrees, the raw below 180, and the narrowest field that is seen
field_of_90 : tangent (pos 5898240) ≡ pos 65536
unfolding tangent half_angle sin cos series one_less folded reduced
field_of_90 = refl

tangent_of_60 : tangent (pos 3932160) ≡ pos 37836
unfolding tangent half_angle sin cos series one_less folded reduced
tangent_of_60 = refl

no_field_of_0 : is_field (pos 0) ≡ false
unfolding is_field tangent half_angle sin cos series one_less folded reduced
no_field_of_0 = refl

no_field_of_180 : is_field (pos 11796480) ≡ false
unfolding is_field tangent half_angle sin cos series one_less folded reduced
no_field_of_180 = refl

no_field_below_180 : is_field (pos 11796479) ≡ false
unfolding is_field tangent half_angle sin cos series one_less folded reduced
no_field_below_180 = refl

narrowest_field : is_field (pos 230) ≡ true
unfolding is_field tangent half_angle sin cos series one_less folded reduced
narrowest_field = refl

no_narrower_field : is_field (pos 229) ≡ false
unfolding is_field tangent half_angle sin cos series one_less folded reduced
no_narrower_field = refl
