-- A primitive apart from its points, for private contracts.
use Rattle.std.specs.Prelude.{List}
use Rattle.fixed_math.specs.declared.vec3.Vec3.{Vec3}
use Rattle.primitives.specs.Patches.{Made, patches_over}
use Rattle.primitives.specs.declared.requests.Primitive.{Primitive}

-- its patches over these points
abbrev pub made_over : Primitive → List Vec3 → Made
made_over p = patches_over p.request.now.name p.request.now.args p.bases p.variables.now p.room
