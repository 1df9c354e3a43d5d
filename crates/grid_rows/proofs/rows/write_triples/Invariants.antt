use Rattle.std.proofs.Common.{length, map}
use Rattle.fixed_math.specs.declared.vec3.Axis.TheVariants as axes
use Rattle.fixed_math.specs.Axes.{part_of}
use Rattle.grid_rows.proofs.UnderWay.{IsWritten}
use Rattle.grid_rows.proofs.rows.write_triples.Given as goal

abbrev pub invariant-loop-k : goal.invariant-loop-k
invariant-loop-k l = record {
  xs : IsWritten (map (part_of axes.X) l.triples) (length l.triples) l.k l.x;
  ys : IsWritten (map (part_of axes.Y) l.triples) (length l.triples) l.k l.y;
  zs : IsWritten (map (part_of axes.Z) l.triples) (length l.triples) l.k l.z;
}
