use Rattle.std.proofs.Common.{◌≡◌, ℕ, List}
use Rattle.std.specs.Borrow.{Bor}
use Rattle.fixed_math.specs.Axes.{origin}
use Rattle.sl_ast.specs.declared.typed.Value.TheVariants.{Triple}
use Rattle.builtins.specs.declared.shape.Shape.{Shape}
use Rattle.place_rows.specs.Banks.{size}
use Rattle.grid_registers.proofs.Filled.{Filled}
use Rattle.grid_registers.proofs.look_ups.blacken.Given as goal

abbrev pub invariant-loop-place : goal.invariant-loop-place
invariant-loop-place l = ((s : Shape) → size l.row s ≡ size l.initial.row s) × ((ts : List (Bor (List ℕ))) → Filled ts l.row (λ i. Triple origin) l.place)
