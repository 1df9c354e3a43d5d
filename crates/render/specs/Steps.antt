-- What the steps of a run leave: in the sink, in the shop, and of the report.
use Rattle.std.specs.Prelude.{◌≡◌, ◌≢◌, ◌≤◌, ◌+◌, ◌^◌, ◌⊎◌, ℕ, Bool, true, false, List, Option, Result, OnOk, OnErr}
use Rattle.fixed_math.specs.declared.memory.NoMemory.{NoMemory as NoNote}
use Rattle.outside.specs.Causes.{Rose}
use Rattle.outside.specs.Sink.{Written}
use Rattle.displace_shade.specs.Shop.{shop_set}
use Rattle.displace_shade.specs.declared.shop.Shop.{Shop}
use Rattle.render.specs.declared.program.Answer.{Answer}
use Rattle.render.specs.declared.program.Answer.TheVariants.{WriteFault, NoMemory}
use Rattle.render.specs.Answers.{ComesBefore, IsFaultAt, number_of}

-- What a command leaves in the sink, by its answer and whether it writes frames at all. The first three arguments are what the sink tells: its
-- entries, whether one is open, and the count of its faults.
pub record Leaves {S : Type 0} (entries : S → Option (List Written)) (has_open : S → Bool) (count : S → ℕ) (old new : S) (drawing : Bool) (answer : Answer) : Type 0 where
  pub before : ComesBefore answer → entries new ≡ entries old
  pub closed : answer ≢ WriteFault → answer ≢ NoMemory → has_open new ≡ false
  pub unwritten : drawing ≡ false → entries new ≡ entries old
  pub unopened : drawing ≡ false → has_open new ≡ false
  pub drawn : answer ≡ WriteFault → drawing ≡ true
  pub later : count old ≤ count new
  pub failed : answer ≡ WriteFault → Rose (count old) (count new)

-- the shop keeps its set, and shades at most 2 ^ 52 grids for a frame that is drawn to its end
pub record DrawsFrame {T E : Type 0} (old new : Shop) (result : Result T E) : Type 0 where
  pub set : shop_set new ≡ shop_set old
  pub count : OnOk result (new.count ≤ old.count + 2 ^ 52)

-- The status of an answer with its note: its number, or 9 where memory ran out for the note. It is 0, or one of 2 to 9, and of a fault at a line of a
-- file one of 3 to 5.
pub record IsStatusOf {A : Type 0} (answer : Answer) (note : Result A NoNote) (status : ℕ) : Type 0 where
  pub number : (status ≡ number_of answer) ⊎ (status ≡ 9)
  pub told : OnOk note (status ≡ number_of answer)
  pub untold : OnErr note (status ≡ 9)
  pub fault : IsFaultAt answer → OnOk note ((3 ≤ status) × (status ≤ 5))
  pub answers : (status ≡ 0) ⊎ ((2 ≤ status) × (status ≤ 9))
