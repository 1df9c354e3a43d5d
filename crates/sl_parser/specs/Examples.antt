-- Worked values of the definitions.
use Rattle.std.specs.Prelude.{◌≡◌, refl, false, [], ◌∷◌, Some, None, Ok, Err, codes}
use Rattle.sl_ast.specs.Syntax as S
use Rattle.sl_ast.specs.declared.kinds.SlKind.TheVariants.{Volume}
use Rattle.sl_ast.specs.declared.kinds.SetOperator.TheVariants as sets
use Rattle.sl_ast.specs.declared.kinds.SlType.TheVariants.{Float}
use Rattle.sl_lexer.specs.Tokens.{tokens_of}
use Rattle.sl_expression_grammar.specs.declared.fault.SlCode.TheVariants.{P1, P2}
use Rattle.sl_parser.specs.Statements.{stmt_at}
use Rattle.sl_parser.specs.Files.{parsed}

-- of texts: an empty text, a text that ends too early, a bad token, and the nearest `if` of an `else`
nothing : parsed [] ≡ Err (P2, 1)
nothing = refl

ended_early : parsed (codes "surface m(\n\n") ≡ Err (P2, 3)
ended_early = refl

bad_token : parsed (codes "surface\n$") ≡ Err (P1, 2)
bad_token = refl

least : parsed (codes "volume m(){}") ≡ Ok (record { functions = []; kind = Volume; name = codes "m"; params = []; ended = false; body = S.done; line = 1 })
least = refl

nearest_if : stmt_at 3 (tokens_of (codes "if(a)if(b);else;")) ≡ Ok (S.test (S.name (codes "a") 1) (S.test_else (S.name (codes "b") 1) (S.empty 1) (S.empty 1) 1) 1, [])
nearest_if = refl

-- of lines: an equals sign that stands below the name has a line of its own
set_below : stmt_at 2 (tokens_of (codes "a\n= b;")) ≡ Ok (S.assign (record { name = codes "a"; operator = sets.Set; value = S.name (codes "b") 2; line = 1; set_line = 2 }), [])
set_below = refl

declared_below : stmt_at 2 (tokens_of (codes "float a\n= b;")) ≡ Ok (S.declare None Float (record { name = codes "a"; value = Some (S.name (codes "b") 2); line = 1; set_line = 2 } ∷ []) 1, [])
declared_below = refl
