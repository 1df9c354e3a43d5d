use Rattle.std.proofs.Common.{◌∙◌, ap}
use Rattle.transforms.specs.declared.view.View.{View}
use Rattle.hider.proofs.Passages.{through}
use Rattle.hider.proofs.Small.{no_less, no_more}
use Rattle.hider.proofs.moving_box.MovingBox.is_seen.Goals as goal

pub returns : goal.returns
returns c = λ yes.
    let w = c.args.camera.now in
    let b = c.args.self.now in
    let near = no_less c.raw.result c.raw-2.result c.nearest.result w.near c.if-raw.false c.raw.ensures.value (c.raw-2.ensures.value ∙ ap (λ (v : View). v.near) c.view-view.ensures.value) c.raw.ensures.size c.raw-2.ensures.size in
    let far = no_more c.raw-3.result c.raw-4.result c.farthest.result w.far yes c.raw-3.ensures.value (c.raw-4.ensures.value ∙ ap (λ (v : View). v.far) c.view-view.ensures.value) c.raw-3.ensures.size c.raw-4.ensures.size in
    record {
      near = through w.near c.nearest.result b.low.z near c.nearest.ensures.opening;
      closing_near = through w.near c.nearest.result b.closing_low.z near c.nearest.ensures.closing;
      far = through b.high.z c.farthest.result w.far c.farthest.ensures.opening far;
      closing_far = through b.closing_high.z c.farthest.result w.far c.farthest.ensures.closing far;
    }
