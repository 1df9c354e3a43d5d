-- The numbers of a pixel by the mean of its samples.
use Rattle.std.specs.Prelude.{◌≡◌, ◌∷◌, []}
use Rattle.fixed_math.specs.declared.vec3.Vec3.{Vec3}
use Rattle.scene.specs.Settings.{OptionValues}
use Rattle.filter_ppm.specs.Levels.{exposed, level, levels}
use Rattle.pixel_record.specs.declared.pixel.Tones.{Tones}
use Rattle.pixel_account.specs.Account.{brightened}

pub record AreTonesOf (o : OptionValues) (m : Vec3) (t : Tones) : Type 0 where
  pub mean : t.mean ≡ m
  pub bright : t.bright ≡ brightened o m
  pub exposed : t.exposed ≡ exposed o m
  pub rounded : t.rounded ≡ level o.one t.exposed.x ∷ level o.one t.exposed.y ∷ level o.one t.exposed.z ∷ []
  pub levels : t.levels ≡ levels o m
