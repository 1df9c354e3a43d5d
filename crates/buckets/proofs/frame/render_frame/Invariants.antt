use Rattle.displace_shade.specs.Shop.{shop_set}
use Rattle.buckets.specs.Progress.{drawing_of, begun_with}
use Rattle.buckets.proofs.frame.render_frame.Given as goal

abbrev pub ghost-draw_tiles : goal.ghost-draw_tiles
ghost-draw_tiles g a =
    begun_with (drawing_of a.shown.now.scene.now (shop_set a.shop.now) a.shown.now.frame.now a.shown.now.limits) a.shop.now.count a.report.now (g.O.FrameSink.written a.sink.now)
