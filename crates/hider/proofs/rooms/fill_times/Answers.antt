use Rattle.std.proofs.Common.{◌≡◌, ◌+◌, ◌*◌, ◌∙◌, ◌<◌, arith, length, sym, vec_capacity}
use Rattle.fixed_math.specs.Spots.{pixel_count, pixel_x, pixel_y}
use Rattle.hider.specs.Tiles.{rect_of}
use Rattle.hider.proofs.Numbers.{more_pixels, room_more, time_at}
use Rattle.hider.proofs.rooms.fill_times.Goals as goal

pub push_times-requires-clause-room : goal.push_times-requires-clause-room
push_times-requires-clause-room c =
    let g = c.args.grid.now in
    let inside : c.loop-pixel.pixel < pixel_count (rect_of g) = rw (c.width.ensures.value, c.height.ensures.value) at c.loop-pixel-test.true in
    room_more g c.loop-pixel.pixel (length c.loop-pixel.times.items) (vec_capacity c.loop-pixel.times) inside c.loop-pixel.invariant.counted c.loop-pixel.invariant.room

pub loop-pixel-preserved : goal.loop-pixel-preserved
loop-pixel-preserved c =
    let g = c.args.grid.now in
    let p = c.loop-pixel.pixel in
    let k = g.xs * g.ys in
    let i = c.loop-pixel.invariant in
    let e = c.push_times.ensures in
    let s : (p + 1) * k ≡ p * k + k = omega arith in
    let counted = i.counted in
    let long = e.long in
    record {
      counted = omega (arith, s, counted, long);
      room = rw (e.room) i.room;
      each = more_pixels (λ s. s.time) g p c.loop-pixel.times.items c.push_times.new.times.items i.counted i.each e.kept
          (λ n d h. rw (c.pixel.ensures.value) at e.each n d h ∙ sym (time_at g.xs g.ys (pixel_x (rect_of g) p) (pixel_y (rect_of g) p) n));
    }
