-- For private contracts alone: where s and t of a look-up stand, and what they are at the places of a grid.
use Rattle.std.specs.Prelude.{◌≡◌, ℕ, ℤ, ◌+◌, ◌^◌, ◌<◌, ◌≤◌, min, pos, List, length, get_or, Some}
use Rattle.fixed_math.specs.declared.vec3.Vec3.{Vec3}
use Rattle.texture.specs.Images.{Image}
use Rattle.texture.specs.Slots.{no_image}
use Rattle.sl_ast.specs.declared.typed.Value.{Value}
use Rattle.sl_ast.specs.declared.typed.Value.TheVariants.{Triple}
use Rattle.builtins.specs.Textures.{image_named, looked_up, way, step}
use Rattle.grid_registers.specs.declared.frame.Frame.{Frame}
use Rattle.grid_registers.specs.declared.look_ups.Coordinates.{Coordinates}
use Rattle.grid_registers.specs.declared.look_ups.Placed.{Placed}
use Rattle.grid_registers.specs.declared.sides.Sides.{Sides}
use Rattle.grid_registers.specs.declared.look_ups.Stepped.{Stepped}
use Rattle.grid_registers.specs.declared.registers.Registers.{Registers}
use Rattle.grid_registers.specs.Frames.{lines_of}
use Rattle.grid_registers.specs.Operands.{OperandIn}

pub record PlacedIn (r : Registers) (p : Placed) : Type 0 where
  pub s : OperandIn r p.s
  pub t : OperandIn r p.t

-- what the look-up of a texture of that number gives at each place
abbrev pub numbered_look : Frame → List Image → ℕ → (ℕ → ℤ) → (ℕ → ℤ) → ℕ → Value
numbered_look f ps which s t = looked_up (lines_of f) (image_named ps (Some which)) s t

-- as steps two numbers choose the same level of every texture: past 2,048 samples all read the last one
abbrev pub IsAlike : ℕ → ℕ → Type 0
IsAlike a b = min a 134217729 ≡ min b 134217729

-- s and t have a number at each of n places
pub record AreLong (n : ℕ) (c : Coordinates) : Type 0 where
  pub s : n ≤ length c.s.now
  pub t : n ≤ length c.t.now

-- at a place these are the numbers
pub record IsAt (c : Coordinates) (s t : ℕ → ℤ) (i : ℕ) : Type 0 where
  pub s_is : get_or c.s.now i (pos 0) ≡ s i
  pub t_is : get_or c.t.now i (pos 0) ≡ t i

-- and at each of n
abbrev pub AreAt : ℕ → Coordinates → (ℕ → ℤ) → (ℕ → ℤ) → Type 0
AreAt n c s t = (i : ℕ) → i < n → IsAt c s t i

-- the sides of an image
pub record AreSides (p : Image) (sides : Sides) : Type 0 where
  pub width : p.width ≡ sides.width
  pub height : p.height ≡ sides.height

-- how far s and t go from a place to another in a texture of these sides, the greater of both, as far as it chooses a level
pub record IsWay (sides : Sides) (c : Coordinates) (later earlier r : ℕ) : Type 0 where
  pub value : (p : Image) (s t : ℕ → ℤ) → AreSides p sides → IsAt c s t later → IsAt c s t earlier → IsAlike r (way p s t later earlier)
  pub bound : r ≤ 2 ^ 28

-- the same from each of n places to the one so many on
abbrev pub AreWays : Sides → Coordinates → ℕ → ℕ → List ℕ → Type 0
AreWays sides c n on xs = (i : ℕ) → i < n → IsWay sides c (i + on) i (get_or xs i 0)

-- the step at a place, as far as it chooses a level
pub record IsStep (f : Frame) (sides : Sides) (c : Coordinates) (i r : ℕ) : Type 0 where
  pub value : (p : Image) (s t : ℕ → ℤ) → AreSides p sides → AreAt f.places c s t → IsAlike r (step (lines_of f) p s t i)
  pub bound : r ≤ 2 ^ 28

-- the steps at the first n places
abbrev pub AreSteps : Frame → Sides → Coordinates → ℕ → List ℕ → Type 0
AreSteps f sides c n xs = (i : ℕ) → i < n → IsStep f sides c i (get_or xs i 0)

-- s and t at the places of a frame's grid, and the steps there
pub record AreStepped (f : Frame) (l : Stepped) : Type 0 where
  pub at : AreLong f.places l.at
  pub long : f.places ≤ length l.steps.now
  pub steps : AreSteps f l.sides l.at f.places l.steps.now

-- a colour is what the look-up gives at a place, by s and t of the places
abbrev pub IsLooked : Frame → List Image → ℕ → Stepped → ℕ → Vec3 → Type 0
IsLooked f ps which l i v = (s t : ℕ → ℤ) → AreSides (get_or ps which no_image) l.sides → AreAt f.places l.at s t → Triple v ≡ numbered_look f ps which s t i
