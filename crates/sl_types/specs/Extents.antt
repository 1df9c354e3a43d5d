-- How many nodes a tree with functions in place has, and how many stand one in another, without that tree.
use Rattle.std.specs.Prelude.{ℕ, ◌+◌, max, List, [], ◌∷◌}
use Rattle.sl_typing.specs.Functions.{Param}
use Rattle.sl_types.specs.Folds.{Fold, fold}

pub record Extent : Type 0 where
  pub nodes : ℕ
  pub depth : ℕ

abbrev pub nowhere : Extent
nowhere = record { nodes = 0; depth = 0 }

-- a node over such parts, and parts beside each other
abbrev pub under : Extent → Extent
under x = record { nodes = 1 + x.nodes; depth = 1 + x.depth }

abbrev pub beside : Extent → Extent → Extent
beside x y = record { nodes = x.nodes + y.nodes; depth = max x.depth y.depth }

-- that of a function that does nothing but return a number, which stands for one that has a fault and is never called
abbrev pub absent : Extent
absent = beside nowhere (under (under nowhere))

abbrev pub counting : Fold Extent
counting = record { nothing = nowhere; under = under; beside = beside; absent = absent }

abbrev pub extent_params : List Extent → List Param → Extent
extent_params fs [] = nowhere
extent_params fs (p ∷ ps) = beside (under (fold counting fs p.value)) (extent_params fs ps)
