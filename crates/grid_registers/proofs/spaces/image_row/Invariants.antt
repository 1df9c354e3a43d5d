use Rattle.std.proofs.Common.{◌≡◌, ℕ, List}
use Rattle.std.specs.Borrow.{Bor}
use Rattle.sl_ast.specs.declared.typed.Value.TheVariants as values
use Rattle.builtins.specs.Table.{image}
use Rattle.builtins.specs.declared.shape.Shape.{Shape}
use Rattle.number_rows.specs.Planes.{triple_at}
use Rattle.place_rows.specs.Banks.{size}
use Rattle.grid_registers.proofs.Filled.{Filled}
use Rattle.grid_registers.proofs.spaces.image_row.Given as goal

abbrev pub invariant-loop-place : goal.invariant-loop-place
invariant-loop-place l = record {
  size : (s : Shape) → size l.row s ≡ size l.initial.row s;
  each : (ts : List (Bor (List ℕ))) → Filled ts l.row (λ i. values.Triple (image l.kind l.map (triple_at l.triples i))) l.place;
}
