use Rattle.std.proofs.Common.{◌<◌, arith, rules, sym, ◌∙◌}
use Rattle.buckets.specs.TileWalk.{tile_count}
use Rattle.buckets.proofs.FewGrids.{shaded_where_met}
use Rattle.buckets.proofs.SharePuts.{puts_begin, puts_end}
use Rattle.buckets.proofs.frame_part.put_buckets.Goals as goal

pub returns-then-first-shown-clause-sink : goal.returns-then-first-shown-clause-sink
returns-then-first-shown-clause-sink g c =
    let q = c.requires.1 in
    let sink = q.1.1.1 in
    let now = g.O.FrameSink.written c.args.sink.now in
    let f = c.first_tile-first.ensures in
    record {
      open' = sink.open';
      ok = puts_end g.begun c.first_tile-first.result now q.0.drawable (c.if-first-shown.true ∙ q.0.tiles) (puts_begin g.begun c.first_tile-first.result now q.0.drawable f sink.has);
      err = tt;
      later = omega arith;
      failed = search rules;
    }

pub returns-then-first-shown-clause-shaded : goal.returns-then-first-shown-clause-shaded
returns-then-first-shown-clause-shaded g c = record { least = omega arith; most = omega arith }

pub draw_tiles-requires : goal.draw_tiles-requires
draw_tiles-requires g c = λ κs h.
    let q = c.requires.1 in
    let f = c.first_tile-first.ensures in
    let low : c.first_tile-first.result < tile_count g.begun.drawing = (let w = f.within in let t = q.0.tiles in let o = c.if-first-shown.false in omega (arith, w, t, o)) in
    (h, (record { drawn = q.0; at' = low }, (f, (q.1.0, (sym q.1.1.0, q.1.1.1)))))

pub returns-in_err-draw_tiles-clause-shaded : goal.returns-in_err-draw_tiles-clause-shaded
returns-in_err-draw_tiles-clause-shaded g c =
    let q = c.requires.1 in
    let same = q.1.0.count in
    let few = shaded_where_met g.begun.drawing in
    let part = c.in_err-draw_tiles.ensures.draws.part in
    let least = part.least_shadings in
    let most = part.shadings in
    record { least = omega (arith, same, least); most = omega (arith, same, most, few) }

pub returns-clause-shaded : goal.returns-clause-shaded
returns-clause-shaded g c =
    let q = c.requires.1 in
    let same = q.1.0.count in
    let few = shaded_where_met g.begun.drawing in
    let is = c.in_ok-draw_tiles.ensures.draws.done.shadings in
    record { least = omega (arith, same, is); most = omega (arith, same, is, few) }
