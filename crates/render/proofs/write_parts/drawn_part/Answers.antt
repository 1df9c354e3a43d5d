use Rattle.std.proofs.Common.{◌≡◌, ◌∙◌, ◌∷◌, [], ap, sym, ℕ, List}
use Rattle.outside.specs.Frames.{Picture}
use Rattle.scene.specs.Scene.{FrameValue}
use Rattle.buckets.specs.Shopped.{shaded_by}
use Rattle.buckets.specs.FrameParts.{part_bytes}
use Rattle.buckets.specs.declared.limits.Limits.{Limits}
use Rattle.render.specs.Parts.{part_picture}
use Rattle.part_files.specs.Parts.{part_name}
use Rattle.displace_shade.specs.Shop.{shop_set}
use Rattle.render.proofs.Parting.{as_part, added_as, in_part_as}
use Rattle.render.proofs.Shopping.{frame_fits}
use Rattle.buckets.proofs.Stock.{keeps_stock}
use Rattle.render.proofs.write_parts.drawn_part.Goals as goal

pub returns-clause-sink : goal.returns-clause-sink
returns-clause-sink g c =
    let t = c.args.task in
    let s = c.args.shown.now in
    let a = shaded_by s.scene.now c.args.shop.now in
    let f = s.frame.now in
    let name : c.deref.result.now ≡ part_name f.name t.part = c.deref.ensures ∙ c.in_ok-name.ensures ∙ ap (λ (n : List ℕ). part_name n t.part) c.name_of.ensures in
    let side : c.limits_of-limits.result.bucket ≡ t.side = ap (λ (l : Limits). l.bucket) c.limits_of-limits.ensures ∙ sym c.requires.task.side in
    let entry : FrameValue → Picture = λ f. record { name = c.deref.result.now; bytes = part_bytes a f c.limits_of-limits.result.bucket c.tag-tag.result (t.part ∷ t.count ∷ []) } in
    let sink = c.render_part.ensures.sink in
    let same = as_part t a f s.index c.limits_of-limits.result.bucket c.tag-tag.result c.deref.result.now name side c.tag-tag.ensures in
    let x = g.O.FrameSink.written c.args.sink.now in
    let y = g.O.FrameSink.written c.render_part.new.sink in
    record {
      closed = sink.closed;
      ok = added_as c.render_part.result entry s.scene.now.frames s.index f (part_picture t a (record { place = s.index; frame = f })) x y s.there same sink.ok;
      err = in_part_as c.render_part.result entry s.scene.now.frames s.index f (part_picture t a (record { place = s.index; frame = f })) x y s.there same sink.err;
      later = sink.later;
      failed = sink.failed;
    }

pub returns-clause-shop : goal.returns-clause-shop
returns-clause-shop g c =
    let shop = c.render_part.ensures.shop in
    record { set = keeps_stock c.render_part.new.shop c.args.shop.now shop.keeps.set shop.keeps.textures; count = shop.few }

pub render_part-requires-clause-fits : goal.render_part-requires-clause-fits
render_part-requires-clause-fits g c = record {
  fits = c.requires.fits.uses;
  variables = λ f there. frame_fits (shop_set c.args.shop.now) c.args.shown.now.scene.now c.args.shown.now.index f c.requires.fits there;
}
