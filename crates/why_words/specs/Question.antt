-- The words of the command `why`, as clap reads them.
use Rattle.std.specs.Prelude.{ℕ, Bool, List, [], ◌∷◌, codes, Option, Some, None, true, option_and_then, if◌then◌else◌}
use Rattle.clap.specs.Faults.{fault_of}
use Rattle.clap.specs.Simple.{App, matches_of, new_app, new_rule, with_rule}
use Rattle.clap.specs.Walk.{Text, Row, Rule, first_of, is_empty}
use Rattle.clap.specs.declared.builder.action.ArgAction.TheVariants.{SetTrue}
use Rattle.clap.specs.declared.builder.value_parser.ValueParser.TheVariants.{Unsigned}
use Rattle.command_line.specs.Command.{number_in, is_set}
use Rattle.why_words.specs.declared.question.Question as code

abbrev pub name_rule : Rule
name_rule = record (new_rule (codes "name")) { required = true }

-- the column of a pixel is a whole number from 0 to 4,095
abbrev pub column_rule : Rule
column_rule = record (new_rule (codes "x")) { parser = Some (Unsigned 0 4095); required = true }

-- its row too
abbrev pub row_rule : Rule
row_rule = record (new_rule (codes "y")) { parser = Some (Unsigned 0 4095); required = true }

-- `--frame` takes a number from 0 to 999
abbrev pub frame_rule : Rule
frame_rule = record (new_rule (codes "frame")) { long = Some (codes "frame"); parser = Some (Unsigned 0 999); defaults = codes "0" ∷ [] }

-- `--points` takes no value
abbrev pub points_rule : Rule
points_rule = record (new_rule (codes "points")) { long = Some (codes "points"); action = Some SetTrue }

-- the command: why NAME X Y [--frame F] [--points]
abbrev pub why : App
why = with_rule (with_rule (with_rule (with_rule (with_rule (new_app (codes "why")) name_rule) column_rule) row_rule) frame_rule) points_rule

-- which pixel is asked about: of the scene of a name the frame of a number, from 0, and of that the column and the row; and whether the
-- corners of micropolygons are told
pub record Question : Type 0 where
  pub name : List ℕ
  pub x : ℕ
  pub y : ℕ
  pub frame : ℕ
  pub points : Bool

-- the question, where all of its parts are there
abbrev pub question_with : Option Text → Option ℕ → Option ℕ → Option ℕ → Bool → Option Question
question_with (Some name) (Some x) (Some y) (Some frame) points = Some (record { name = name; x = x; y = y; frame = frame; points = points })
question_with _ _ _ _ points = None

-- the question, where each of clap's names has its value by this function
abbrev pub question_by : (Text → Option Text) → Option Question
question_by value =
    question_with (value (codes "name")) (option_and_then (number_in 0 4095) (value (codes "x"))) (option_and_then (number_in 0 4095) (value (codes "y")))
    (option_and_then (number_in 0 999) (value (codes "frame"))) (is_set (value (codes "points")))

-- the question that values by names make
abbrev pub question_in : List Row → Option Question
question_in rows = question_by (λ name. first_of name rows)

-- the question in some words, where clap finds no fault in them; a call for help is a fault too
abbrev pub question_of : List Text → Option Question
question_of words = if is_empty (fault_of why words) then question_in (matches_of why words) else None

-- the question as code has it
abbrev pub question_view : code.Question → Question
question_view q = record { name = q.name.now; x = q.x; y = q.y; frame = q.frame; points = q.points }
