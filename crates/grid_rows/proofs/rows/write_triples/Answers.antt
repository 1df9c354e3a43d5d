use Rattle.std.proofs.Common.{◌≡◌, pos, get_or, length, map, arith, sym, ap, ◌∙◌}
use Rattle.std.proofs.lemmas.List.{get_or_read, get_or-map}
use Rattle.fixed_math.specs.declared.vec3.Axis.{Axis}
use Rattle.fixed_math.specs.declared.vec3.Axis.TheVariants as axes
use Rattle.fixed_math.specs.Axes.{part_of, origin}
use Rattle.grid_rows.proofs.UnderWay.{written_raw}
use Rattle.grid_rows.proofs.rows.write_triples.Goals as goal

pub loop-k-preserved : goal.loop-k-preserved
loop-k-preserved c =
    let ps = c.args.triples.now in
    let k = c.loop-k.k in
    let n = length ps in
    let read = get_or_read ps k c.index-triples-k.result (omega arith) c.index-triples-k.is origin in
    let at : (a : Axis) → part_of a c.index-triples-k.result ≡ get_or (map (part_of a) ps) k (pos 0) = λ a. ap (part_of a) read ∙ sym (get_or-map (part_of a) ps k origin (pos 0) (omega arith)) in
    record {
      xs = written_raw (map (part_of axes.X) ps) c.loop-k.x n k c.raw.result (omega arith) c.requires.few (c.raw.ensures.low, c.raw.ensures.high) (c.raw.ensures.value ∙ at axes.X) c.loop-k.invariant.xs;
      ys = written_raw (map (part_of axes.Y) ps) c.loop-k.y n k c.raw-in-loop-k.result (omega arith) c.requires.few (c.raw-in-loop-k.ensures.low, c.raw-in-loop-k.ensures.high) (c.raw-in-loop-k.ensures.value ∙ at axes.Y) c.loop-k.invariant.ys;
      zs = written_raw (map (part_of axes.Z) ps) c.loop-k.z n k c.raw-in-loop-k-2.result (omega arith) c.requires.few (c.raw-in-loop-k-2.ensures.low, c.raw-in-loop-k-2.ensures.high) (c.raw-in-loop-k-2.ensures.value ∙ at axes.Z) c.loop-k.invariant.zs;
    }
