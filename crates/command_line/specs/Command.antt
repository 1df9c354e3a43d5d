-- The words of the command, as clap reads them.
use Rattle.std.specs.Prelude.{ℕ, Bool, List, [], ◌∷◌, codes, Option, Some, None, true, false, ◌&&◌, nat_le, nat_lt, option_and_then, if◌then◌else◌}
use Rattle.std.specs.List.{list_all}
use Rattle.std.specs.Str.Parse.{digits_value, without_leading_plus}
use Rattle.std.specs.Str.{bytes_eq}
use Rattle.clap.specs.Faults.{fault_of}
use Rattle.clap.specs.Simple.{App, matches_of, new_app, new_rule, with_rule}
use Rattle.clap.specs.ValueTests.{is_unsigned_in}
use Rattle.clap.specs.Walk.{Text, Row, Rule, first_of, is_empty}
use Rattle.clap.specs.declared.builder.action.ArgAction.TheVariants.{SetTrue}
use Rattle.command_line.specs.declared.command.Action.{Action}
use Rattle.command_line.specs.declared.command.RunOptions.{RunOptions}
use Rattle.command_line.specs.declared.command.Source as code
use Rattle.command_line.specs.declared.command.Source.TheVariants as sources
use Rattle.command_line.specs.declared.command.SceneCommand.{SceneCommand}
use Rattle.command_line.specs.declared.command.Command as code_command
use Rattle.command_line.specs.declared.command.Command.TheVariants as commands
use Rattle.command_line.specs.declared.command.PartOptions.{PartOptions}
use Rattle.command_line.specs.declared.command.Action.TheVariants.{Render, Check, Part}
use Rattle.clap.specs.declared.builder.value_parser.ValueParser.TheVariants.{Unsigned}

abbrev pub action_rule : Rule
action_rule = record (new_rule (codes "action")) { required = true }

abbrev pub name_rule : Rule
name_rule = record (new_rule (codes "name")) { required = true }

-- `--bucket` takes a whole number from 4 to 64
abbrev pub bucket_rule : Rule
bucket_rule = record (new_rule (codes "bucket")) { long = Some (codes "bucket"); parser = Some (Unsigned 4 64); defaults = codes "16" ∷ [] }

-- `--grid-points` takes one from 289 to 1,000,000
abbrev pub grid_points_rule : Rule
grid_points_rule = record (new_rule (codes "grid-points")) { long = Some (codes "grid-points"); parser = Some (Unsigned 289 1000000); defaults = codes "65536" ∷ [] }

-- `--stats` takes no value
abbrev pub stats_rule : Rule
stats_rule = record (new_rule (codes "stats")) { long = Some (codes "stats"); action = Some SetTrue }

-- `--part` takes a number from 0 to 255
abbrev pub part_rule : Rule
part_rule = record (new_rule (codes "part")) { long = Some (codes "part"); parser = Some (Unsigned 0 255) }

-- `--of` takes one from 1 to 256
abbrev pub of_rule : Rule
of_rule = record (new_rule (codes "of")) { long = Some (codes "of"); parser = Some (Unsigned 1 256) }

-- the command: reyes ACTION NAME [--bucket B] [--grid-points G] [--stats] [--part K] [--of N]
abbrev pub reyes : App
reyes = with_rule (with_rule (with_rule (with_rule (with_rule (with_rule (with_rule (new_app (codes "reyes")) action_rule) name_rule) bucket_rule) grid_points_rule) stats_rule) part_rule) of_rule

-- the number that a text writes, where it is one in this range
abbrev pub number_in : ℕ → ℕ → Text → Option ℕ
number_in low high text = if is_unsigned_in low high text then Some (digits_value 10 (without_leading_plus text)) else None

abbrev pub is_set : Option Text → Bool
is_set None = false
is_set (Some text) = bytes_eq text (codes "true")

-- the options, by the texts of their values: defaults stand for what isn't written
abbrev pub options_with : Option ℕ → Option ℕ → Bool → Option RunOptions
options_with None grid_points stats = None
options_with (Some bucket) None stats = None
options_with (Some bucket) (Some grid_points) stats = Some (record { bucket = bucket; grid_points = grid_points; stats = stats })

abbrev pub options_for : Option Text → Option Text → Option Text → Option RunOptions
options_for bucket grid_points stats =
    options_with (option_and_then (number_in 4 64) bucket) (option_and_then (number_in 289 1000000) grid_points) (is_set stats)

-- the options that tell of parts, where they are given
abbrev pub parts_for : Option Text → Option Text → PartOptions
parts_for part of = record { part = option_and_then (number_in 0 255) part; of = option_and_then (number_in 1 256) of }

-- where a scene comes from: the file of a name, or the demonstration scene with so many patches
pub data Source : Type 0 where
  File : (name : List ℕ) → Source
  Demo : (count : ℕ) → Source

-- what is done with a scene, with which one, and how
pub record SceneTask : Type 0 where
  pub action : Action
  pub source : Source
  pub options : RunOptions

-- what a command asks for: something is done with a scene, or the parts of a picture, so many, are joined
pub data Command : Type 0 where
  OnScene : (task : SceneTask) → Command
  Join : (name : List ℕ) → (count : ℕ) → Command

abbrev pub file_command : Action → Text → RunOptions → Command
file_command action name options = OnScene (record { action = action; source = File name; options = options })

-- a number of patches is a row of digits
abbrev pub is_digit : ℕ → Bool
is_digit b = nat_le 48 b && nat_le b 57

-- the number of patches that a row of digits writes, 1 to 1,000
abbrev pub patches_named : Text → Option ℕ
patches_named text = if list_all is_digit text then number_in 1 1000 text else None

-- the demonstration scene is drawn, and a note tells what was done
abbrev pub demo_command : Option ℕ → RunOptions → Option Command
demo_command None options = None
demo_command (Some count) options = Some (OnScene (record { action = Render; source = Demo count; options = record options { stats = true } }))

-- a part is drawn: it needs its number and how many there are, and the number is below that
abbrev pub part_of : Text → RunOptions → Option ℕ → Option ℕ → Option Command
part_of name options (Some part) (Some count) = if nat_lt part count then Some (file_command (Part part count) name options) else None
part_of name options (Some part) None = None
part_of name options None count = None

-- the command `part`, which needs both numbers
abbrev pub part_command : Text → RunOptions → PartOptions → Option Command
part_command name options parts = part_of name options parts.part parts.of

-- parts are joined: it needs how many there are, and takes no number of a part
abbrev pub join_of : Text → Option ℕ → Option ℕ → Option Command
join_of name None (Some count) = Some (Join name count)
join_of name None None = None
join_of name (Some part) count = None

-- the command `join`, which needs the count alone
abbrev pub join_command : Text → PartOptions → Option Command
join_command name parts = join_of name parts.part parts.of

-- the other actions
abbrev pub scene_command : Text → Text → RunOptions → Option Command
scene_command action name options =
    if bytes_eq action (codes "render") then Some (file_command Render name options)
    else if bytes_eq action (codes "check") then Some (file_command Check name options)
    else if bytes_eq action (codes "demo") then demo_command (patches_named name) options
    else None

-- they take no option of parts
abbrev pub without_parts : Option ℕ → Option ℕ → Option Command → Option Command
without_parts None None command = command
without_parts None (Some count) command = None
without_parts (Some part) count command = None

-- the command of an action
abbrev pub command_named : Text → Text → RunOptions → PartOptions → Option Command
command_named action name options parts =
    if bytes_eq action (codes "part") then part_command name options parts
    else if bytes_eq action (codes "join") then join_command name parts
    else without_parts parts.part parts.of (scene_command action name options)

abbrev pub command_for : Option Text → Option Text → Option RunOptions → PartOptions → Option Command
command_for None name options parts = None
command_for (Some action) None options parts = None
command_for (Some action) (Some name) None parts = None
command_for (Some action) (Some name) (Some options) parts = command_named action name options parts

-- the command, where each of clap's names has its value by this function
abbrev pub command_by : (Text → Option Text) → Option Command
command_by value =
    command_for (value (codes "action")) (value (codes "name"))
    (options_for (value (codes "bucket")) (value (codes "grid-points")) (value (codes "stats")))
    (parts_for (value (codes "part")) (value (codes "of")))

-- the command that values by names make
abbrev pub command_in : List Row → Option Command
command_in rows = command_by (λ name. first_of name rows)

-- the command in some words, where clap finds no fault in them; a call for help is a fault too
abbrev pub command_of : List Text → Option Command
command_of words = if is_empty (fault_of reyes words) then command_in (matches_of reyes words) else None

-- the command as code has it
abbrev pub source_view : code.Source → Source
source_view (sources.File name) = File name.now
source_view (sources.Demo patches) = Demo patches.count

abbrev pub scene_view : SceneCommand → SceneTask
scene_view c = record { action = c.action; source = source_view c.source; options = c.options }

abbrev pub command_view : code_command.Command → Command
command_view (commands.Scene c) = OnScene (scene_view c)
command_view (commands.Join j) = Join j.name.now j.count
