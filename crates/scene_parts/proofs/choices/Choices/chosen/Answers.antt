use Rattle.std.proofs.Common.{◌≡◌, refl, pos, ap, List, Ok}
use Rattle.rib_reader.specs.declared.req.Req.{Req}
use Rattle.rib_reader.specs.declared.req.Req.TheVariants as reqs
use Rattle.rib_reader.specs.declared.args.Arg.{Arg}
use Rattle.scene.specs.declared.params.Param.{Param}
use Rattle.scene_parts.specs.Choices.{ChoiceValues, chosen_by}
use Rattle.std.specs.List.{slice_get}
use Rattle.rib_reader.specs.Table.{rules_of, greatest}
use Rattle.scene_parts.proofs.Words.{above}
use Rattle.scene_parts.proofs.choices.Choices.chosen.Goals as goal

pub with_format-requires-clause-some_width : goal.with_format-requires-clause-some_width
with_format-requires-clause-some_width c =
    above c.whole.result (c.whole.ensures.limits 0 (pos 1) greatest (ap (λ n. slice_get (rules_of n) 0) c.in-Format.is))

pub with_format-requires-clause-some_height : goal.with_format-requires-clause-some_height
with_format-requires-clause-some_height c =
    above c.whole-in-Format.result (c.whole-in-Format.ensures.limits 1 (pos 1) greatest (ap (λ n. slice_get (rules_of n) 1) c.in-Format.is))

pub with_window-requires-clause-across : goal.with_window-requires-clause-across
with_window-requires-clause-across c = c.number-in-ScreenWindow.ensures.rising 0 1 _ (ap (λ n. slice_get (rules_of n) 0) c.in-ScreenWindow.is) c.number-in-ScreenWindow-2.ensures.value

pub with_window-requires-clause-up : goal.with_window-requires-clause-up
with_window-requires-clause-up c = c.number-in-ScreenWindow-3.ensures.rising 1 3 _ (ap (λ n. slice_get (rules_of n) 1) c.in-ScreenWindow.is) c.number-in-ScreenWindow-4.ensures.value

pub with_crop-requires-clause-left : goal.with_crop-requires-clause-left
with_crop-requires-clause-left c = (c.number-in-CropWindow.ensures.between 0 (pos 0) (pos 65536) (ap (λ n. slice_get (rules_of n) 0) c.in-CropWindow.is)).0

pub with_crop-requires-clause-across : goal.with_crop-requires-clause-across
with_crop-requires-clause-across c = c.number-in-CropWindow.ensures.rising 2 1 _ (ap (λ n. slice_get (rules_of n) 2) c.in-CropWindow.is) c.number-in-CropWindow-2.ensures.value

pub with_crop-requires-clause-right : goal.with_crop-requires-clause-right
with_crop-requires-clause-right c = (c.number-in-CropWindow-2.ensures.between 1 (pos 0) (pos 65536) (ap (λ n. slice_get (rules_of n) 1) c.in-CropWindow.is)).1

pub with_crop-requires-clause-top : goal.with_crop-requires-clause-top
with_crop-requires-clause-top c = (c.number-in-CropWindow-3.ensures.between 3 (pos 0) (pos 65536) (ap (λ n. slice_get (rules_of n) 3) c.in-CropWindow.is)).0

pub with_crop-requires-clause-down : goal.with_crop-requires-clause-down
with_crop-requires-clause-down c = c.number-in-CropWindow-3.ensures.rising 5 3 _ (ap (λ n. slice_get (rules_of n) 5) c.in-CropWindow.is) c.number-in-CropWindow-4.ensures.value

pub with_crop-requires-clause-bottom : goal.with_crop-requires-clause-bottom
with_crop-requires-clause-bottom c = (c.number-in-CropWindow-4.ensures.between 4 (pos 0) (pos 65536) (ap (λ n. slice_get (rules_of n) 4) c.in-CropWindow.is)).1

pub with_samples-requires-clause-x : goal.with_samples-requires-clause-x
with_samples-requires-clause-x c = c.number-in-PixelSamples.ensures.limits 0 (pos 65536) (ap (λ n. slice_get (rules_of n) 0) c.in-PixelSamples.is)

pub with_samples-requires-clause-y : goal.with_samples-requires-clause-y
with_samples-requires-clause-y c = c.number-in-PixelSamples-2.ensures.limits 1 (pos 65536) (ap (λ n. slice_get (rules_of n) 1) c.in-PixelSamples.is)

pub with_filter-requires-clause-x : goal.with_filter-requires-clause-x
with_filter-requires-clause-x c = c.number-in-PixelFilter.ensures.limits 1 (pos 256) (ap (λ n. slice_get (rules_of n) 1) c.in-PixelFilter.is)

pub with_filter-requires-clause-y : goal.with_filter-requires-clause-y
with_filter-requires-clause-y c = c.number-in-PixelFilter-2.ensures.limits 2 (pos 256) (ap (λ n. slice_get (rules_of n) 2) c.in-PixelFilter.is)

pub with_depths-requires-clause-near : goal.with_depths-requires-clause-near
with_depths-requires-clause-near c = c.number-in-Clipping.ensures.limits 0 (pos 1) (ap (λ n. slice_get (rules_of n) 0) c.in-Clipping.is)

-- requests for no option change none
none_chosen : (n : Req) (args : List Arg) (params : List Param) (c : ChoiceValues) → (n ≡ reqs.Format → ⊥) → (n ≡ reqs.FrameAspectRatio → ⊥) → (n ≡ reqs.ScreenWindow → ⊥) → (n ≡ reqs.Clipping → ⊥) → (n ≡ reqs.CropWindow → ⊥)
    → (n ≡ reqs.Shutter → ⊥) → (n ≡ reqs.Projection → ⊥) → (n ≡ reqs.PixelSamples → ⊥) → (n ≡ reqs.PixelFilter → ⊥) → (n ≡ reqs.Exposure → ⊥) → (n ≡ reqs.Quantize → ⊥) → Ok c ≡ chosen_by n args params c
none_chosen reqs.Format args params c h1 h2 h3 h4 h10 h11 h5 h6 h7 h8 h9 = absurd (h1 refl)
none_chosen reqs.FrameAspectRatio args params c h1 h2 h3 h4 h10 h11 h5 h6 h7 h8 h9 = absurd (h2 refl)
none_chosen reqs.ScreenWindow args params c h1 h2 h3 h4 h10 h11 h5 h6 h7 h8 h9 = absurd (h3 refl)
none_chosen reqs.Clipping args params c h1 h2 h3 h4 h10 h11 h5 h6 h7 h8 h9 = absurd (h4 refl)
none_chosen reqs.CropWindow args params c h1 h2 h3 h4 h10 h11 h5 h6 h7 h8 h9 = absurd (h10 refl)
none_chosen reqs.Shutter args params c h1 h2 h3 h4 h10 h11 h5 h6 h7 h8 h9 = absurd (h11 refl)
none_chosen reqs.Projection args params c h1 h2 h3 h4 h10 h11 h5 h6 h7 h8 h9 = absurd (h5 refl)
none_chosen reqs.PixelSamples args params c h1 h2 h3 h4 h10 h11 h5 h6 h7 h8 h9 = absurd (h6 refl)
none_chosen reqs.PixelFilter args params c h1 h2 h3 h4 h10 h11 h5 h6 h7 h8 h9 = absurd (h7 refl)
none_chosen reqs.Exposure args params c h1 h2 h3 h4 h10 h11 h5 h6 h7 h8 h9 = absurd (h8 refl)
none_chosen reqs.Quantize args params c h1 h2 h3 h4 h10 h11 h5 h6 h7 h8 h9 = absurd (h9 refl)
none_chosen _ args params c h1 h2 h3 h4 h10 h11 h5 h6 h7 h8 h9 = refl

pub returns-in_default : goal.returns-in_default
returns-in_default c =
    let d = c.in_default in
    none_chosen c.args.request.now.name c.args.request.now.args c.args.request.now.params c.args.self
    d.not-Format d.not-FrameAspectRatio d.not-ScreenWindow d.not-Clipping d.not-CropWindow d.not-Shutter d.not-Projection d.not-PixelSamples d.not-PixelFilter d.not-Exposure d.not-Quantize
