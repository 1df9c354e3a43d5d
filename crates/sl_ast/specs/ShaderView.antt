-- The tree of a file without pointers.
use Rattle.std.specs.Prelude.{map}
use Rattle.sl_ast.specs.Syntax as S
use Rattle.sl_ast.specs.SyntaxView.{stmt_of, group_of, function_of}
use Rattle.sl_ast.specs.declared.shader.Shader.{Shader}

abbrev pub shader_of : Shader → S.Shader
shader_of s = record {
  functions = map function_of s.functions;
  kind = s.kind;
  name = s.name;
  params = map group_of s.params;
  ended = s.ended;
  body = S.stmts (map stmt_of s.body);
  line = s.line;
}
