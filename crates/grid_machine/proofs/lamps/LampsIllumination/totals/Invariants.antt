use Rattle.std.proofs.Common.{◌≡◌, ℕ, ◌<◌, length, drop, map}
use Rattle.fixed_math.specs.Axes.{origin}
use Rattle.fixed_math.specs.declared.vec3.Vec3.{Vec3}
use Rattle.number_rows.specs.Planes.{triple_at, triple_in}
use Rattle.light_rows.specs.Seen.{at_place, gain_at, gained, answers_at, AtPlaces, HasBegun}
use Rattle.grid_machine.specs.Lamps.{asked_by}
use Rattle.grid_machine.proofs.lamps.LampsIllumination.totals.Given as goal

-- what is left to add, from the sums so far
abbrev pub invariant-loop-n : goal.invariant-loop-n
invariant-loop-n l = record {
  places : l.self.places ≡ l.initial.self.places;
  lamps : map asked_by l.self.lanterns.items ≡ map asked_by l.initial.self.lanterns.items;
  points : (i : ℕ) → i < l.initial.self.places → at_place l.self.points i ≡ triple_at l.points i;
  begun : HasBegun l.initial.self.places l.sum l.self.work;
  x_long : length l.x ≡ l.initial.self.places;
  y_long : length l.y ≡ l.initial.self.places;
  z_long : length l.z ≡ l.initial.self.places;
  rest : (q : ℕ → Vec3) → AtPlaces l.initial.self.places q (triple_at l.points) → (i : ℕ) → i < l.initial.self.places → gained (gain_at l.sum i) (triple_in l.x l.y l.z i) (answers_at (drop l.n (map asked_by l.initial.self.lanterns.items)) q i) ≡ gained (gain_at l.sum i) origin (answers_at (map asked_by l.initial.self.lanterns.items) q i);
}
