-- What the parser answers: what the grammar gives for the text, but where memory runs out.
use Rattle.std.specs.Prelude.{◌≡◌, ℕ, Result, Ok, Err}
use Rattle.sl_ast.specs.Syntax as S
use Rattle.sl_ast.specs.ShaderView.{shader_of}
use Rattle.sl_ast.specs.declared.shader.Shader.{Shader}
use Rattle.sl_expression_grammar.specs.declared.fault.SlCode.{SlCode}
use Rattle.sl_parser.specs.declared.fault.SlFault.{SlFault}
use Rattle.sl_parser.specs.declared.fault.SlFault.TheVariants.{At, NoMemory}

abbrev pub GivesShader : Result Shader SlFault → Result S.Shader (SlCode × ℕ) → Type 0
GivesShader (Ok s) parsed = parsed ≡ Ok (shader_of s)
GivesShader (Err (At code line)) parsed = parsed ≡ Err (code, line)
GivesShader (Err NoMemory) parsed = Unit {0}
