-- The lines that a run says in its notes.
use Rattle.std.specs.Prelude.{ℕ, nat_lt, List, [], ◌∷◌, take, filter_map, codes, Option, Some, None, if◌then◌else◌}
use Rattle.shader_binding.specs.Sets.{AcceptedValue}
use Rattle.command_line.specs.declared.command.RunOptions.{RunOptions}
use Rattle.command_line.specs.declared.command.Action.TheVariants.{Render}
use Rattle.command_line.specs.Command.{Command, OnScene, Join}
use Rattle.render.specs.Notes.{scene_name, note_of, join_note}
use Rattle.render.specs.Summary.{summary_of}
use Rattle.render.specs.Verdict.{Verdict, Usage, Refused, Unjoined, Accepted, Entries}

-- the summaries of the first frames of an accepted scene, where they are wanted
abbrev pub first_summaries : RunOptions → AcceptedValue → ℕ → List (List ℕ)
first_summaries o a told = filter_map (summary_of o a) (take told a.scene.frames)

-- those of a command whose verdict this is; frames that aren't drawn whole have none
abbrev pub summaries_of : Option Command → Verdict → ℕ → List (List ℕ)
summaries_of (Some (OnScene t)) (Accepted Render a) told = first_summaries t.options a told
summaries_of _ _ told = []

-- the name of a command's scene, or of the picture whose parts it joins
abbrev pub scene_of : Option Command → List ℕ
scene_of None = []
scene_of (Some (OnScene t)) = scene_name t.source
scene_of (Some (Join name count)) = name

-- the line that tells why a command is refused
abbrev pub refusal_lines : List ℕ → Verdict → List (List ℕ)
refusal_lines scene Usage = codes "usage\n" ∷ []
refusal_lines scene (Refused cause) = note_of scene cause ∷ []
refusal_lines scene (Unjoined cause) = join_note scene cause ∷ []
refusal_lines scene (Accepted action accepted) = []
refusal_lines scene (Entries entries) = []

-- the line that tells what failed
abbrev pub failure_lines : ℕ → List (List ℕ)
failure_lines status =
    if nat_lt status 8 then codes "read fault\n" ∷ []
    else if nat_lt status 9 then codes "write fault\n" ∷ []
    else codes "no memory\n" ∷ []

-- the line of a status; there is none where all is done
abbrev pub status_lines : List ℕ → Verdict → ℕ → List (List ℕ)
status_lines scene verdict status = if nat_lt status 7 then refusal_lines scene verdict else failure_lines status
