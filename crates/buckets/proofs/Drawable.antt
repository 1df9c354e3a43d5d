-- That the code draws a frame of a scene within its limits.
use Rattle.std.proofs.Common.{◌≡◌, ℕ, ◌^◌, ◌≤◌, sym, refl, subst, List, Option}
use Rattle.std.specs.Prelude.{All}
use Rattle.fixed_math.specs.Buckets.{bucket_count}
use Rattle.outside.specs.Sink.{Written}
use Rattle.scene.specs.Scene.{SceneValue, HasUses}
use Rattle.shader_binding.specs.Sets.{SetValue, Fits}
use Rattle.shader_binding.specs.Bindings.{FitsPrim}
use Rattle.buckets.specs.declared.limits.Report.{Report}
use Rattle.buckets.specs.declared.share.Share.{Share}
use Rattle.buckets.specs.declared.shown.Shown.{Shown}
use Rattle.buckets.specs.Shares.{IsShare}
use Rattle.buckets.specs.TileWalk.{picture_rect}
use Rattle.buckets.specs.Standing.{IsDrawn, IsFrame}
use Rattle.buckets.specs.Progress.{share_of, begun_with}

-- what is known of a frame that is shown, with a set of shaders
pub record IsKnownFrame (s : Shown) (known : SceneValue) (set : SetValue) : Type 0 where
  pub scene : s.scene.now ≡ known
  pub fits : Fits set known.uses
  pub variables : All (FitsPrim set known.uses) s.frame.now.prims
  pub frame : IsFrame s.frame.now
  pub uses : All (HasUses known.uses) s.frame.now.prims
  pub side_low : 4 ≤ s.limits.bucket
  pub side_high : s.limits.bucket ≤ 64
  pub limit_low : 289 ≤ s.limits.grid_points
  pub tiles : s.tiles ≡ bucket_count s.limits.bucket (picture_rect s.frame.now)

pub drawn_with : (s : Shown) (known_scene : SceneValue) (set : SetValue) (share : Share) (count : ℕ) (r : Report) (w : Option (List Written)) → IsKnownFrame s known_scene set → s.share ≡ share → IsShare share
    → count ≤ 2 ^ 62 → r.epochs ≤ 2 ^ 62 → IsDrawn (begun_with (share_of s.scene.now set s.frame.now s.limits share) count r w) s
drawn_with s known_scene set share count r w k same is few_counts few_epochs =
    let back = sym k.scene in
    let fits = subst (λ (z : SceneValue). Fits set z.uses) back k.fits in
    let uses = subst (λ (z : SceneValue). All (HasUses z.uses) s.frame.now.prims) back k.uses in
    record {
      drawable = record {
        fits = fits;
        variables = subst (λ (z : SceneValue). All (FitsPrim set z.uses) s.frame.now.prims) back k.variables;
        prims = λ i e lt. record { view = k.frame.view; bound = (k.frame.prims i e lt).bound_low; small = (k.frame.prims i e lt).small; fits = fits; uses = uses i e lt };
        format = k.frame.format;
        options = k.frame.options;
        few_prims = k.frame.few;
        side_low = k.side_low;
        side_high = k.side_high;
        limit_low = k.limit_low;
        share = is;
      };
      scene = refl;
      frame = refl;
      side = refl;
      limit = refl;
      share = same;
      tiles = k.tiles;
      count = few_counts;
      epochs = few_epochs;
    }
