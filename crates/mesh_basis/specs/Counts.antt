-- How many patches a mesh has (RenderMan Interface 3.2, section 5.2, PatchMesh).
use Rattle.std.specs.Prelude.{ℕ, ◌+◌, ◌-◌, ◌*◌, ◌/◌, ◌%◌, ◌==◌, nat_le, Bool, true, false, ◌&&◌, Option, Some, None, if◌then◌else◌, ◌≡◌, refl}
use Rattle.mesh_basis.specs.declared.shape.Shape.{Shape}
use Rattle.mesh_basis.specs.declared.counts.Counts.{Counts}

-- of bilinear patches along a row of n points: a periodic row has one more, from its last point to its first
abbrev pub linear_count : Bool → ℕ → Option ℕ
linear_count true n = Some n
linear_count false n = if nat_le 2 n then Some (n - 1) else None

-- of bicubic patches, each of which begins a step behind the one before it
abbrev pub cubic_count : Bool → ℕ → ℕ → Option ℕ
cubic_count true n step = if nat_le 4 n && n % step == 0 then Some (n / step) else None
cubic_count false n step = if nat_le 4 n && (n - 4) % step == 0 then Some ((n - 4) / step + 1) else None

abbrev pub count_along : Bool → Bool → ℕ → ℕ → Option ℕ
count_along true periodic n step = cubic_count periodic n step
count_along false periodic n step = linear_count periodic n

abbrev pub both : Option ℕ → Option ℕ → Option Counts
both (Some m) (Some n) = Some (record { along_u = m; along_v = n })
both _ _ = None

-- of a mesh of this shape with so many points, where they are as many as it has and make whole patches both ways
abbrev pub counts_of : Shape → ℕ → Option Counts
counts_of s points =
    if points == s.nu * s.nv then both (count_along s.bicubic s.periodic_u s.nu s.step_u) (count_along s.bicubic s.periodic_v s.nv s.step_v)
    else None

-- worked values
five_under_bezier : cubic_count false 5 3 ≡ None
five_under_bezier = refl

five_by_one : cubic_count false 5 1 ≡ Some 2
five_by_one = refl

closed_by_three : cubic_count true 12 3 ≡ Some 4
closed_by_three = refl

closed_line : linear_count true 3 ≡ Some 3
closed_line = refl
