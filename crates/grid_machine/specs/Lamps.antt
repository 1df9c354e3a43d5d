-- For private contracts alone: lights that are run in one machine: their places, the room for them, and what they answer.
use Rattle.std.specs.Prelude.{◌≡◌, ℕ, ◌<◌, true}
use Rattle.fixed_math.specs.declared.vec3.Vec3.{Vec3}
use Rattle.grid_code.specs.Masked.{Asked}
use Rattle.light_rows.specs.Seen.{at_place, gain_at, with_gain, AtPlaces, HasPlaces, IsAnswer}
use Rattle.light_rows.specs.declared.sums.Sum.{Sum}
use Rattle.light_rows.specs.declared.triples.Triples.{Triples}
use Rattle.grid_machine.specs.Asked.{asked}
use Rattle.grid_machine.specs.State.{lines_of}
use Rattle.grid_machine.specs.declared.lamp.Lamp.{Lamp}
use Rattle.grid_machine.specs.declared.lamps.Lantern.{Lantern}
use Rattle.grid_machine.specs.declared.machine.Machine.{Machine}
use Rattle.grid_registers.specs.declared.room.Room.{Room}

-- the code of a light runs at so many places, in a machine with that room
pub record IsPlaced (c : ℕ) (r : Room) (lamp : Lamp) : Type 0 where
  pub places : lamp.frame.now.places ≡ c
  pub room : lamp.frame.now.room ≡ r

-- and its answers have as many places
pub record IsLevel (c : ℕ) (r : Room) (k : Lantern) : Type 0 where
  pub placed : IsPlaced c r k.lamp
  pub rows : HasPlaces c k.answers
  pub ambient : k.answers.ambient ≡ k.lamp.code.now.ambient

-- a machine has that many places, and that room
pub record IsOfRoom (c : ℕ) (r : Room) (m : Machine) : Type 0 where
  pub places : m.registers.frame.now.places ≡ c
  pub room : m.registers.frame.now.room ≡ r

-- what a light answers
abbrev pub asked_of : Lamp → Asked
asked_of lamp =
    let f = lamp.frame.now in
    asked (lines_of f) f.places f.setting.spaces.now lamp.code.now lamp.values.now

abbrev pub asked_by : Lantern → Asked
asked_by k = asked_of k.lamp

-- its answers are those at points
abbrev pub AnswersAt : ℕ → Triples → Lantern → Type 0
AnswersAt c points k = (q : ℕ → Vec3) → AtPlaces c q (at_place points) → (i : ℕ) → i < c → IsAnswer k.answers i (asked_by k q i)

-- and so they are where it has been asked
pub record IsKept (c : ℕ) (points : Triples) (k : Lantern) : Type 0 where
  pub answered : k.given ≡ true → AnswersAt c points k

-- sums at points go on by what a light answers
abbrev pub Grows : Sum → ℕ → (ℕ → Vec3) → Asked → (ℕ → Vec3) → (ℕ → Vec3) → Type 0
Grows s c points f before now = (q : ℕ → Vec3) → AtPlaces c q points → (i : ℕ) → i < c → now i ≡ with_gain (before i) (gain_at s i (f q i))
