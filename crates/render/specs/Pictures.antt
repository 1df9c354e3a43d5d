-- The pictures of a scene.
use Rattle.std.specs.Prelude.{List, map}
use Rattle.outside.specs.Frames.{Picture}
use Rattle.shader_binding.specs.Sets.{AcceptedValue}
use Rattle.buckets.specs.Pictures.{picture_of}

-- the frames of a scene: each picture under its name
abbrev pub frames_of : AcceptedValue → List Picture
frames_of a = map (picture_of a) a.scene.frames
