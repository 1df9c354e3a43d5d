-- The names of a scope that is cut.
use Rattle.std.proofs.Common.{◌≡◌, ℕ, List, map, take, sym, ap, ◌∙◌}
use Rattle.std.proofs.lemmas.List.{take-map}
use Rattle.sl_expressions.specs.declared.places.Local.{Local}

-- the names of the first so many
abbrev name_of : Local → List ℕ
name_of l = l.name.now

pub names_left : (count : ℕ) (ls left : List Local) (ns short : List (List ℕ)) → short ≡ take count ns → ns ≡ map name_of ls → left ≡ take count ls → short ≡ map name_of left
names_left count ls left ns short cut names first = cut ∙ ap (take count) names ∙ take-map name_of count ls ∙ ap (map name_of) (sym first)
