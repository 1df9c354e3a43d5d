use Rattle.parts.proofs.Places.{PlacedTo}
use Rattle.parts.proofs.placing.places_of.Given as goal

abbrev pub invariant-loop-m : goal.invariant-loop-m
invariant-loop-m l = PlacedTo l.all l.total l.m l.places.items
