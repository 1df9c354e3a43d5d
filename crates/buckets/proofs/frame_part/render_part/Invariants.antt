use Rattle.displace_shade.specs.Shop.{shop_set}
use Rattle.buckets.specs.Progress.{share_of, begun_with}
use Rattle.buckets.proofs.frame_part.render_part.Given as goal

abbrev pub ghost-put_part : goal.ghost-put_part
ghost-put_part g a =
    begun_with (share_of a.shown.now.scene.now (shop_set a.shop.now) a.shown.now.frame.now a.shown.now.limits a.shown.now.share) a.shop.now.count (record { epochs = 0; most_points = 0; most_samples = 0 }) (g.O.FrameSink.written a.sink.now)
