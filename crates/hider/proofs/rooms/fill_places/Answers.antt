use Rattle.std.proofs.Common.{◌≡◌, ◌+◌, ◌*◌, ◌<◌, length, vec_capacity, arith}
use Rattle.fixed_math.specs.Spots.{pixel_count}
use Rattle.hider.specs.Tiles.{rect_of}
use Rattle.hider.proofs.Numbers.{room_more, more_pixels}
use Rattle.hider.proofs.rooms.fill_places.Goals as goal

pub push_pixel-requires-clause-room : goal.push_pixel-requires-clause-room
push_pixel-requires-clause-room c =
    let g = c.args.grid.now in
    let inside : c.loop-pixel.pixel < pixel_count (rect_of g) = rw (c.width.ensures.value, c.height.ensures.value) at c.loop-pixel-test.true in
    room_more g c.loop-pixel.pixel (length c.loop-pixel.spots.items) (vec_capacity c.loop-pixel.spots) inside c.loop-pixel.invariant.counted c.loop-pixel.invariant.room

pub loop-pixel-preserved : goal.loop-pixel-preserved
loop-pixel-preserved c =
    let g = c.args.grid.now in
    let p = c.loop-pixel.pixel in
    let k = g.xs * g.ys in
    let i = c.loop-pixel.invariant in
    let e = c.push_pixel.ensures in
    let s : (p + 1) * k ≡ p * k + k = omega arith in
    let counted = i.counted in
    let long = e.long in
    record {
      counted = omega (arith, s, counted, long);
      room = rw (e.room) i.room;
      each = more_pixels (λ s. s.place) g p c.loop-pixel.spots.items c.push_pixel.new.spots.items i.counted i.each e.kept (rw (c.pixel.ensures.value) at e.each);
    }
