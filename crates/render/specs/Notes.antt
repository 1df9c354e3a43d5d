-- The note that tells why a command is refused.
use Rattle.std.specs.Prelude.{ℕ, List, ◌++◌, Option, Some, None, codes, decimal}
use Rattle.acceptance.specs.declared.refusal.FileId.{FileId}
use Rattle.acceptance.specs.declared.refusal.FileId.TheVariants.{Scene, Shader, Texture}
use Rattle.acceptance.specs.Codes.{code_text}
use Rattle.acceptance.specs.Causes.{Cause, Missing, At}
use Rattle.command_line.specs.Command.{Source, File, Demo}
use Rattle.part_files.specs.Parts.{part_name, join_code_text}
use Rattle.part_files.specs.declared.cause.JoinCause.{JoinCause}
use Rattle.part_files.specs.declared.cause.JoinCause.TheVariants as joins
use Rattle.acceptance.specs.Shaders.{file_of}

-- a file's name in notes, where the scene has this name
abbrev pub name_in_notes : List ℕ → FileId → List ℕ
name_in_notes scene Scene = scene
name_in_notes scene (Shader name) = file_of name
name_in_notes scene (Texture name) = name

-- a fault as a line: the file, the line and the code
abbrev pub fault_line : List ℕ → ℕ → List ℕ → List ℕ
fault_line file line code = file ++ (codes ":" ++ (decimal line ++ (codes ": " ++ (code ++ codes "\n"))))

-- the name of a command's scene in notes
abbrev pub scene_name : Source → List ℕ
scene_name (File name) = name
scene_name (Demo count) = codes "demo"

-- the line of the notes, where the scene has this name
abbrev pub note_of : List ℕ → Cause → List ℕ
note_of scene (Missing file) = file ++ codes ": missing\n"
note_of scene (At file line code) = fault_line (name_in_notes scene file) line (code_text code)

-- the file with a fault of joining: a part's, or the picture's, which has this name
abbrev pub join_file : List ℕ → Option ℕ → List ℕ
join_file name None = name
join_file name (Some part) = part_name name part

-- the line of the notes, where the picture has this name
abbrev pub join_note : List ℕ → JoinCause → List ℕ
join_note name (joins.Missing part) = part_name name part ++ codes ": missing\n"
join_note name (joins.At part code) = fault_line (join_file name part) 1 (join_code_text code)
