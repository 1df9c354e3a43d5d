-- The note that tells what was done for a frame.
use Rattle.std.specs.Prelude.{ℕ, Bool, true, false, List, ◌++◌, codes, decimal, Option, Some, None}
use Rattle.scene.specs.Scene.{FrameValue}
use Rattle.shader_binding.specs.Sets.{AcceptedValue}
use Rattle.command_line.specs.declared.command.RunOptions.{RunOptions}
use Rattle.buckets.specs.declared.limits.Limits.{Limits}
use Rattle.buckets.specs.TileWalk.{Counts, tile_walk}
use Rattle.buckets.specs.Progress.{drawing_of}

-- what the options of a command set for the drawing of frames
abbrev pub limits_of : RunOptions → Limits
limits_of o = record { bucket = o.bucket; grid_points = o.grid_points }

-- the line: how many grids were shaded for a frame of that name, and in how many epochs
abbrev pub summary_line : List ℕ → ℕ → ℕ → List ℕ
summary_line frame shadings epochs = frame ++ (codes ": " ++ (decimal shadings ++ (codes " shadings, " ++ (decimal epochs ++ codes " epochs\n"))))

-- that line, where one is wanted
abbrev pub summary_with : Bool → List ℕ → ℕ → ℕ → Option (List ℕ)
summary_with true frame shadings epochs = Some (summary_line frame shadings epochs)
summary_with false frame shadings epochs = None

-- what is done for a frame: the walk through its tiles within the limits
abbrev pub work_of : RunOptions → AcceptedValue → FrameValue → Counts
work_of o a f = tile_walk (drawing_of a.scene a.set f (limits_of o))

-- the line of a frame, where one is wanted
abbrev pub summary_of : RunOptions → AcceptedValue → FrameValue → Option (List ℕ)
summary_of o a f = summary_with o.stats f.name (work_of o a f).shadings (work_of o a f).epochs
