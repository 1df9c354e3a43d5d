-- What a request says of the levels that are written.
use Rattle.std.specs.Prelude.{◌≡◌, pos, List, Option, Some, None, true, false}
use Rattle.rib_reader.specs.declared.args.Arg.{Arg}
use Rattle.rib_reader.specs.declared.levels.Levels.{Levels}
use Rattle.rib_reader.specs.declared.table.Words.TheVariants.{Modes}
use Rattle.rib_reader.specs.Rules.{is_one, word_at, whole_at}

-- these levels are the arguments, in order
pub record AreLevels (args : List Arg) (l : Levels) : Type 0 where
  pub one : whole_at args 1 ≡ Some (pos l.one)
  pub least : whole_at args 2 ≡ Some (pos l.least)
  pub most : whole_at args 3 ≡ Some (pos l.most)

-- the levels are there exactly where the first word is "rgb" or "rgba"
abbrev pub GivesLevels : List Arg → Option Levels → Type 0
GivesLevels args (Some l) = (is_one Modes (word_at args 0) ≡ true) × AreLevels args l
GivesLevels args None = is_one Modes (word_at args 0) ≡ false
