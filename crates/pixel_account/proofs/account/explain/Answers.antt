use Rattle.std.proofs.Common.{◌≡◌, ◌∙◌, refl, ap, sym, subst, arith, ◌∷◌, [], List}
use Rattle.std.specs.Prelude.{All, pos, ◌≤ℤ◌}
use Rattle.scene.specs.Scene.{FrameValue}
use Rattle.scene.specs.Settings.{OptionValues, AreOptions}
use Rattle.filter_ppm.specs.Sums.{mean_of}
use Rattle.filter_ppm.specs.Levels.{band}
use Rattle.buckets.specs.Shopped.{shaded_by}
use Rattle.pixel_record.specs.declared.pixel.PixelAccount.{PixelAccount}
use Rattle.pixel_record.specs.declared.sample.SampleAccount.{SampleAccount}
use Rattle.pixel_account.specs.Account.{IsAccount}
use Rattle.pixel_account.specs.Summing.{as_total, IsSumOf}
use Rattle.pixel_account.specs.Toning.{AreTonesOf}
use Rattle.pixel_account.proofs.Done.{low_weights, tones_within, is_account}
use Rattle.pixel_account.proofs.account.explain.Goals as goal

pub sums_of-sums-requires : goal.sums_of-sums-requires
sums_of-sums-requires c = record {
  weights = subst (λ (l : List SampleAccount). All (λ s. pos 0 ≤ℤ s.weight) l) (sym c.as_slice.ensures)
      (low_weights (shaded_by c.args.scene.now c.args.shop.now) c.frame_at-frame.result.now c.args.x c.args.y c.in_ok-samples.samples c.recall.ensures.options c.in_ok-samples.ensures.each);
}

pub band_bytes-requires : goal.band_bytes-requires
band_bytes-requires c =
    let options = ap (λ (h : FrameValue). h.options) c.frame.view_is in
    tones_within c.frame.inside.options c.mean_of.result c.tones_of-tones.result.levels (subst AreOptions (sym options) c.recall.ensures.options) c.tones_of-tones.ensures.value.levels

pub returns-clause-account : goal.returns-clause-account
returns-clause-account c = λ f has.
    let a = shaded_by c.args.scene.now c.args.shop.now in
    let here = c.frame_at-frame.result.now in
    let same : here ≡ f = cc (sym c.frame_at-frame.ensures.there ∙ has) in
    let options = ap (λ (h : FrameValue). h.options) c.frame.view_is in
    let right = c.recall.ensures.right in
    let bottom = c.recall.ensures.bottom in
    let column = c.requires.column here c.frame_at-frame.ensures.there in
    let row = c.requires.row here c.frame_at-frame.ensures.there in
    let sum = subst (λ (l : List SampleAccount). IsSumOf l (as_total c.sums_of-sums.result)) c.as_slice.ensures c.sums_of-sums.ensures.value in
    let tones = subst (λ (o : OptionValues). AreTonesOf o (mean_of (as_total c.sums_of-sums.result)) c.tones_of-tones.result) options (rw c.mean_of.ensures at c.tones_of-tones.ensures.value) in
    let bytes = c.in_ok-bytes.ensures ∙ ap (λ (o : OptionValues). band o.one (c.tones_of-tones.result.levels ∷ [])) options in
    let r : PixelAccount = record { frame = c.in_ok-frame_of.field-0; x = c.args.x; y = c.args.y; samples = c.in_ok-samples.samples; sums = c.sums_of-sums.result; tones = c.tones_of-tones.result; bytes = c.in_ok-bytes.bytes.items } in
    subst (λ (h : FrameValue). IsAccount a h c.args.frame c.args.x c.args.y r) same
    (is_account a here c.args.frame c.args.x c.args.y r c.in_ok-frame_of.ensures refl refl c.in_ok-samples.ensures.counting c.in_ok-samples.ensures.each sum tones bytes (omega (arith, column, right)) (omega (arith, row, bottom)))
