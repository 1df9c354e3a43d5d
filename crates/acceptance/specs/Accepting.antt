-- The accepted scene of a text with its shaders, or the first reason why it is refused.
use Rattle.std.specs.Prelude.{List, [], ◌++◌, Option, Some, None, Result, Ok, Err, ℕ}
use Rattle.outside.specs.Library.{Files}
use Rattle.rib_lex.specs.declared.token.Token.{Token}
use Rattle.rib_lex.specs.Tokens as tokens
use Rattle.rib_reader.specs.Reading as reading
use Rattle.texture.specs.Images.{Image}
use Rattle.scene.specs.Scene.{SceneValue}
use Rattle.scene_state.specs.Steps as steps
use Rattle.acceptance.specs.declared.refusal.FileId.TheVariants.{Scene}
use Rattle.acceptance.specs.Causes.{Cause, At, Reads, unless}
use Rattle.acceptance.specs.Codes.{of_lex, of_request, of_state}
use Rattle.acceptance.specs.Shaders.{shader_names, shaders_refused, shaders_asked}
use Rattle.acceptance.specs.UseFit.{uses_refused}
use Rattle.acceptance.specs.PrimFit.{prims_refused}
use Rattle.acceptance.specs.Set.{textures_named, set_of, accepted_with}
use Rattle.acceptance.specs.Textures.{images_of, textures_asked}
use Rattle.shader_binding.specs.Sets.{AcceptedValue}

-- the scene of a text, or its first fault: its tokens, its requests, then its graphics state
abbrev pub scene_of_state : Result SceneValue steps.Placed → Reads SceneValue
scene_of_state (Ok scene) = Ok scene
scene_of_state (Err (code, line)) = Err (At Scene line (of_state code))

-- the scene of requests that were read, or their fault
abbrev pub scene_of_requests : Result (List reading.Read) reading.Placed → Reads SceneValue
scene_of_requests (Ok requests) = scene_of_state (steps.scene_of requests)
scene_of_requests (Err (code, line)) = Err (At Scene line (of_request code))

-- the scene of tokens that were read, or their fault
abbrev pub scene_of_tokens : Result (List Token) tokens.Placed → Reads SceneValue
scene_of_tokens (Ok ts) = scene_of_requests (reading.requests_of ts)
scene_of_tokens (Err (code, line)) = Err (At Scene line (of_lex code))

-- the scene of a text, or its first fault
unfoldable pub scene_of_text : List ℕ → Reads SceneValue
scene_of_text text = scene_of_tokens (tokens.tokens_of text)

-- a scene is accepted where its shaders are right, by first use, and then the parameters of its shader requests, then the variables of its
-- primitives, and then the textures that its uses name, by first use
abbrev pub textured_scene : Files → SceneValue → Reads (List Image) → Reads AcceptedValue
textured_scene files scene (Ok images) = Ok (accepted_with files scene images)
textured_scene files scene (Err cause) = Err cause

-- the accepted scene where all requests fit: first its primitives' variables are looked at, then its textures
abbrev pub fitting_scene : Files → SceneValue → Reads AcceptedValue
fitting_scene files scene =
    unless (prims_refused (set_of files scene.uses []) scene.frames) (textured_scene files scene (images_of files (textures_named files scene.uses)))

-- the accepted scene where all shaders are right: its requests are looked at first
abbrev pub bound_scene : Files → SceneValue → Reads AcceptedValue
bound_scene files scene = unless (uses_refused files scene.uses) (fitting_scene files scene)

-- the accepted scene of a scene that was read: its shaders are looked at first
abbrev pub accepted_scene : Files → Reads SceneValue → Reads AcceptedValue
accepted_scene files (Ok scene) = unless (shaders_refused files (shader_names scene.uses)) (bound_scene files scene)
accepted_scene files (Err cause) = Err cause

-- the accepted scene of a text with its shaders, over the files that are held
abbrev pub accepted : Files → List ℕ → Reads AcceptedValue
accepted files text = accepted_scene files (scene_of_text text)

-- the names to ask for: where the scene is read those of its shaders' files, up to and with the first that is refused; and where none of them, of
-- the parameters of its requests and of the variables of its primitives is refused, those of its textures, up to and with the first that is
abbrev pub without_cause : Option Cause → List (List ℕ) → List (List ℕ)
without_cause None names = names
without_cause (Some cause) names = []

abbrev pub textures_where_fit : Files → SceneValue → List (List ℕ)
textures_where_fit files scene =
    without_cause (prims_refused (set_of files scene.uses []) scene.frames) (textures_asked files (textures_named files scene.uses))

-- the names of textures that are asked for, none where anything before them is refused
abbrev pub textures_for_scene : Files → SceneValue → List (List ℕ)
textures_for_scene files scene =
    without_cause (shaders_refused files (shader_names scene.uses)) (without_cause (uses_refused files scene.uses) (textures_where_fit files scene))

-- the files that are asked for a scene: those of its shaders by first use, up to the first that is refused, then those of its textures
abbrev pub asked_for_scene : Files → Reads SceneValue → List (List ℕ)
asked_for_scene files (Ok scene) = shaders_asked files (shader_names scene.uses) ++ textures_for_scene files scene
asked_for_scene files (Err cause) = []
