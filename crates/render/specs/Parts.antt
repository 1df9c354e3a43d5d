-- Parts of the frames of a scene.
use Rattle.std.specs.Prelude.{ℕ, ◌+◌, ◌<◌, ◌≡◌, refl, List, [], ◌∷◌, ◌++◌, map}
use Rattle.std.specs.List.{fold}
use Rattle.fixed_math.specs.Hash.{hash32, with_word}
use Rattle.outside.specs.Frames.{Picture}
use Rattle.scene.specs.Scene.{FrameValue}
use Rattle.shader_binding.specs.Sets.{AcceptedValue}
use Rattle.buckets.specs.FrameParts.{part_bytes}
use Rattle.part_files.specs.Parts.{part_name}
use Rattle.command_line.specs.declared.command.RunOptions.{RunOptions}
use Rattle.render.specs.declared.part_task.PartTask.{PartTask}

-- the tag of a frame: the hash of the scene's bytes, each a word, and of the frame's place among the frames
abbrev pub tag_of : ℕ → ℕ → ℕ
tag_of hash place = with_word hash place

with_last : (h place : ℕ) (text : List ℕ) → fold with_word h (text ++ place ∷ []) ≡ with_word (fold with_word h text) place
with_last h place [] = refl
with_last h place (b ∷ text) = with_last (with_word h b) place text

-- the tag of a frame is the hash of the scene's text with the frame's place after it
pub tag_is : (text : List ℕ) (place : ℕ) → hash32 (text ++ place ∷ []) ≡ tag_of (hash32 text) place
tag_is text place = with_last 0 place text

-- a frame and its place among the frames
pub record Placed : Type 0 where
  pub place : ℕ
  pub frame : FrameValue

abbrev pub placed_from : ℕ → List FrameValue → List Placed
placed_from place [] = []
placed_from place (f ∷ fs) = record { place = place; frame = f } ∷ placed_from (place + 1) fs

-- the part of that number of so many, of a scene with this text
abbrev pub task_of : ℕ → ℕ → RunOptions → List ℕ → PartTask
task_of part count options text = record { part = part; count = count; side = options.bucket; hash = hash32 text }

-- a part whose number is below their count, with the buckets that the options set
pub record IsTask (options : RunOptions) (t : PartTask) : Type 0 where
  pub below : t.part < t.count
  pub side : t.side ≡ options.bucket

-- a part of a frame under its name
abbrev pub part_picture : PartTask → AcceptedValue → Placed → Picture
part_picture t a p = record { name = part_name p.frame.name t.part; bytes = part_bytes a p.frame t.side (tag_of t.hash p.place) (t.part ∷ t.count ∷ []) }

-- those of all frames
abbrev pub parts_of_frames : PartTask → AcceptedValue → List Picture
parts_of_frames t a = map (part_picture t a) (placed_from 0 a.scene.frames)
