use Rattle.std.proofs.Common.{◌*◌, ◌∙◌, refl, ap, ℕ}
use Rattle.std.proofs.Math.Nat.{mul-le-mul}
use Rattle.fixed_math.specs.Buckets.{bucket_columns}
use Rattle.buckets.specs.TileWalk.{picture_rect}
use Rattle.buckets.proofs.frame.shown_in.Goals as goal

pub returns : goal.returns
returns c =
    let side = c.args.limits.bucket in
    let columns = c.columns_of.ensures in
    let rows = c.rows_of.ensures in
    record {
      scene' = refl;
      index' = refl;
      limits' = refl;
      share' = refl;
      tiles = ap (λ (n : ℕ). n * c.rows_of.result) columns.value ∙ ap (λ (n : ℕ). bucket_columns side (picture_rect c.frame_at-frame.result.now) * n) rows.value;
      some = mul-le-mul columns.some rows.some;
      frame = c.recall.ensures;
      uses = c.frame_at-frame.ensures.uses;
    }
