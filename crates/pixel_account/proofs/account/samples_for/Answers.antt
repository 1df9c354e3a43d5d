use Rattle.std.proofs.Common.{◌∙◌, ap, sym, subst, ℕ, List, map}
use Rattle.std.specs.Prelude.{All}
use Rattle.fixed_math.specs.Spots.{PixelRect}
use Rattle.bound_split.specs.Extents.{pixels_of}
use Rattle.scene.specs.Scene.{FrameValue, SceneValue}
use Rattle.scene.specs.Settings.{OptionValues}
use Rattle.buckets.specs.Pictures.{micropolygons}
use Rattle.pixel_account.specs.declared.stacks.Stack.{Stack}
use Rattle.pixel_account.specs.Account.{counting_in}
use Rattle.pixel_account.specs.Stacks.{IsEmptyFor}
use Rattle.pixel_account.proofs.Done.{done_all, samples_stay}
use Rattle.pixel_account.proofs.account.samples_for.Goals as goal

pub samples_of-requires : goal.samples_of-requires
samples_of-requires g c =
    let a = g.of.accepted in
    let f = c.args.shown.now.frame.now in
    let options = ap (λ (h : FrameValue). h.options) c.frame.view_is in
    let r = c.requires in
    let empty = subst (λ (ks : List Stack). All (IsEmptyFor f.options g.of.x g.of.y) ks) (sym c.as_mut_slice-stacks.ensures.value)
    (subst (λ (o : OptionValues). All (IsEmptyFor o g.of.x g.of.y) c.in_ok-counted.counted.items) options
    (subst (λ (y : ℕ). All (IsEmptyFor c.frame.inside.options g.of.x y) c.in_ok-counted.counted.items) r.1.1.1.1.1.1.0
    (subst (λ (x : ℕ). All (IsEmptyFor c.frame.inside.options x c.args.y) c.in_ok-counted.counted.items) r.1.1.1.1.1.0 c.in_ok-counted.ensures.empty))) in (
      c.as_slice.ensures ∙ ap (λ (s : SceneValue). s.uses) c.scene.view_is ∙ ap (λ (s : SceneValue). s.uses) r.0.scene,
      ((λ k d lt. (r.0.prims k d lt).uses), done_all a f g.of.x g.of.y c.as_mut_slice-stacks.result.now c.put_frame.new.stacks c.in_ok-put_frame.ensures.put empty),
    )

pub returns-clause-counting : goal.returns-clause-counting
returns-clause-counting g c =
    let f = c.args.shown.now.frame.now in
    let options = ap (λ (h : FrameValue). h.options) c.frame.view_is in
    c.in_ok-samples.ensures.samples ∙ samples_stay g.of.accepted f (micropolygons g.of.accepted f) c.as_mut_slice-stacks.result.now c.put_frame.new.stacks c.in_ok-put_frame.ensures.put
    ∙ ap (λ (ks : List Stack). map (λ k. k.sample) ks) c.as_mut_slice-stacks.ensures.value ∙ c.in_ok-counted.ensures.samples
    ∙ ap (λ (o : OptionValues). counting_in o (pixels_of c.args.shown.now.rect) c.args.x c.args.y) options
    ∙ ap (λ (r : PixelRect). counting_in f.options r c.args.x c.args.y) c.requires.1.1.1.0
