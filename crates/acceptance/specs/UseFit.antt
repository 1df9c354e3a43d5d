-- How the shader requests of a scene fit the shaders that they name (RenderMan Interface 3.2, section 11.3.3).
use Rattle.std.specs.Prelude.{List, map, Option, Some, Ok, Err}
use Rattle.outside.specs.Library.{Files}
use Rattle.scene.specs.declared.uses.ShaderUse.{ShaderUse}
use Rattle.sl_ast.specs.Typed.{Tree}
use Rattle.acceptance.specs.Causes.{Cause, Reads, first_of}
use Rattle.acceptance.specs.RequestFit.{binding_fault, cause_at}
use Rattle.acceptance.specs.Shaders.{shader_tree}

-- the fault of a request over what is read of its shader, as a cause
abbrev pub use_refused : ShaderUse → Reads Tree → Option Cause
use_refused u (Ok tree) = cause_at u (binding_fault tree u)
use_refused u (Err cause) = Some cause

-- the first reason why one of these uses is refused
abbrev pub uses_refused : Files → List ShaderUse → Option Cause
uses_refused files uses = first_of (map (λ u. use_refused u (shader_tree files u.name)) uses)
