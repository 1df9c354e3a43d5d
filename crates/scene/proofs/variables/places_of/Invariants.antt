use Rattle.std.proofs.Common.{◌≡◌, ℕ, List, take}
use Rattle.std.specs.BTreeMap.{get_by_text}
use Rattle.fixed_math.specs.Names.{last_place}
use Rattle.scene.specs.Seats.{names_of}
use Rattle.scene.proofs.variables.places_of.Given as goal

abbrev pub invariant-loop-k : goal.invariant-loop-k
invariant-loop-k l = (name : List ℕ) → get_by_text l.places name ≡ last_place name (names_of (take l.k l.params))
