-- The ranges of the options.
use Rattle.std.specs.Prelude.{◌≤◌, ◌<◌, Option, Some, None, IfSome}
use Rattle.command_line.specs.declared.command.Action.{Action}
use Rattle.command_line.specs.declared.command.Action.TheVariants.{Render, Check, Part}
use Rattle.command_line.specs.declared.command.PartOptions.{PartOptions}
use Rattle.command_line.specs.declared.command.RunOptions.{RunOptions}
use Rattle.command_line.specs.Command.{Command, SceneTask, OnScene, Join}

-- the options lie in their ranges
pub record LieInRanges (o : RunOptions) : Type 0 where
  pub bucket_low : 4 ≤ o.bucket
  pub bucket_high : o.bucket ≤ 64
  pub points_low : 289 ≤ o.grid_points
  pub points_high : o.grid_points ≤ 1000000

-- the options of parts lie in theirs
pub record IsInParts (o : PartOptions) : Type 0 where
  pub part : IfSome o.part (λ part. part ≤ 255)
  pub some : IfSome o.of (λ count. 1 ≤ count)
  pub most : IfSome o.of (λ count. count ≤ 256)

-- a part is one of at most 256
abbrev pub IsPartInRange : Action → Type 0
IsPartInRange Render = Unit {0}
IsPartInRange Check = Unit {0}
IsPartInRange (Part part count) = (part < count) × (count ≤ 256)

-- what a command chooses lies in its ranges
abbrev pub IsInRange : Command → Type 0
IsInRange (OnScene task) = LieInRanges task.options × IsPartInRange task.action
IsInRange (Join name count) = (1 ≤ count) × (count ≤ 256)
