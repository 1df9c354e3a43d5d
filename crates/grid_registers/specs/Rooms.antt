-- Room for the values of registers.
use Rattle.std.specs.Prelude.{ℕ, ◌*◌, ◌≤◌, length}
use Rattle.builtins.specs.declared.shape.Shape.{Shape}
use Rattle.place_rows.specs.Banks.{of_shape}
use Rattle.grid_code.specs.declared.register_set.RegisterSet.{RegisterSet}
use Rattle.grid_code.specs.Uses.{numbers_of}
use Rattle.grid_registers.specs.declared.room.Counts.{Counts}
use Rattle.grid_registers.specs.declared.room.Room.{Room}

abbrev pub counted : Counts → Shape → ℕ
counted c s = of_shape c.numbers c.triples c.words s

-- there is room for the values of these varying registers at so many places, and for those of these uniform ones
pub record HasRoom (varying uniform : RegisterSet) (places : ℕ) (room : Room) : Type 0 where
  pub rows : (s : Shape) → length (numbers_of varying s) * places ≤ counted room.rows s
  pub shared : (s : Shape) → length (numbers_of uniform s) ≤ counted room.shared s

-- the second room is no less than the first
pub record IsNoLess (a b : Room) : Type 0 where
  pub rows : (s : Shape) → counted a.rows s ≤ counted b.rows s
  pub shared : (s : Shape) → counted a.shared s ≤ counted b.shared s
