use Rattle.std.proofs.Common.{◌≡◌, ℕ, ◌<◌, ◌≤◌, pos, length, get_or, map}
use Rattle.place_rows.specs.Layout.{row_length}
use Rattle.fixed_math.specs.declared.vec3.Axis.TheVariants as axes
use Rattle.fixed_math.specs.Axes.{part_of}
use Rattle.grid_rows.specs.Rows.{IsRoom}
use Rattle.grid_rows.proofs.rows.write_firsts.Given as goal

abbrev pub invariant-loop-k : goal.invariant-loop-k
invariant-loop-k l = record {
  each : (j : ℕ) → j < l.k → get_or l.row j (pos 0) ≡ get_or (map (part_of axes.X) l.triples) j (pos 0);
  rest : (j : ℕ) → length l.triples ≤ j → j < row_length (length l.triples) → get_or l.row j (pos 0) ≡ pos 0;
  room : IsRoom l.row;
}
