-- Blocks, groups and functions, one item after another.
use Rattle.std.proofs.Common.{◌≡◌, ℕ, ◌+◌, ◌-◌, ◌≤◌, ◌∷◌, [], List, Some, None, Ok, Err, length, sym, ap, ◌∙◌, append-nil}
use Rattle.std.specs.Prelude.{option_map}
use Rattle.sl_ast.specs.Syntax as S
use Rattle.sl_ast.specs.declared.kinds.SlType.{SlType}
use Rattle.sl_lexer.specs.declared.token.Token.{Token}
use Rattle.sl_lexer.specs.declared.token.Mark.TheVariants.{RightBrace}
use Rattle.sl_expression_grammar.specs.declared.fault.SlCode.{SlCode}
use Rattle.sl_expression_grammar.specs.Reading.{Reads, ◌>>=◌, with_front, many, go_on, past, rest_after, is_mark}
use Rattle.sl_expression_grammar.proofs.Readers.{many-turn, many-err, many-end}
use Rattle.sl_parser.specs.Statements.{stmt_unless, next_stmt, block_in, type_at}
use Rattle.sl_parser.specs.Files.{semicolon_at, next_group, function_with, next_function}

module _ (stmt : List Token → Reads S.Stmt) where
  pub stmt-turn : (n : ℕ) (rest : List Token) (s : S.Stmt) (left : List Token)
      → 1 ≤ n → None ≡ rest_after (is_mark RightBrace) rest → stmt rest ≡ Ok (s, left) → many (next_stmt stmt) n rest ≡ with_front (s ∷ []) (many (next_stmt stmt) (n - 1) left)
  stmt-turn n rest s left low none is = many-turn (next_stmt stmt) n rest (stmt rest) s left low (ap (stmt_unless stmt rest) (sym none)) is

  abbrev closes : List S.Stmt × List Token → Reads (List S.Stmt)
  closes body = past RightBrace body.1 λ rest. Ok (body.0, rest)

  pub block-fails : (n : ℕ) (ts rest : List Token) (done : List S.Stmt) (x : SlCode × List Token)
      → 1 ≤ n → None ≡ rest_after (is_mark RightBrace) rest → stmt rest ≡ Err x
      → with_front done (many (next_stmt stmt) n rest) ≡ many (next_stmt stmt) (length ts + 1) ts → block_in stmt ts ≡ Err x
  block-fails n ts rest done x low none is same =
      ap (λ r. r >>= closes) (sym same ∙ ap (with_front done) (many-err (next_stmt stmt) n rest (stmt rest) x low (ap (stmt_unless stmt rest) (sym none)) is))

  pub block-done : (n : ℕ) (ts rest left : List Token) (done : List S.Stmt)
      → Some left ≡ rest_after (is_mark RightBrace) rest
      → with_front done (many (next_stmt stmt) n rest) ≡ many (next_stmt stmt) (length ts + 1) ts → block_in stmt ts ≡ Ok (done, left)
  block-done n ts rest left done at same =
      ap (λ r. r >>= closes) (sym same ∙ ap (with_front done) (many-end (next_stmt stmt) n rest (ap (stmt_unless stmt rest) (sym at))))
      ∙ ap (λ xs. closes (xs, rest)) (append-nil done)
      ∙ ap (go_on rest (λ rest. Ok (done, rest))) (sym at)

module _ (group : List Token → Reads S.Group) where
  pub group-turn : (n : ℕ) (ts after : List Token) (x : S.Group) (left : List Token)
      → 1 ≤ n → Some after ≡ semicolon_at ts → group after ≡ Ok (x, left) → many (next_group group) n ts ≡ with_front (x ∷ []) (many (next_group group) (n - 1) left)
  group-turn n ts after x left low at is = many-turn (next_group group) n ts (group after) x left low (ap (option_map group) (sym at)) is

  pub group-err : (n : ℕ) (ts after : List Token) (x : SlCode × List Token)
      → 1 ≤ n → Some after ≡ semicolon_at ts → group after ≡ Err x → many (next_group group) n ts ≡ Err x
  group-err n ts after x low at is = many-err (next_group group) n ts (group after) x low (ap (option_map group) (sym at)) is

  pub group-end : (n : ℕ) (ts : List Token) → None ≡ semicolon_at ts → many (next_group group) n ts ≡ Ok ([], ts)
  group-end n ts at = many-end (next_group group) n ts (ap (option_map group) (sym at))

module _ (levels : ℕ) where
  abbrev with_type : SlType × List Token → Reads S.Function
  with_type k = function_with levels k.0 k.1

  pub function-turn : (n : ℕ) (ts : List Token) (returns : SlType) (after : List Token) (x : S.Function) (left : List Token)
      → 1 ≤ n → Some (returns, after) ≡ type_at ts → function_with levels returns after ≡ Ok (x, left)
      → many (next_function levels) n ts ≡ with_front (x ∷ []) (many (next_function levels) (n - 1) left)
  function-turn n ts returns after x left low at is =
      many-turn (next_function levels) n ts (function_with levels returns after) x left low (ap (option_map with_type) (sym at)) is

  pub function-err : (n : ℕ) (ts : List Token) (returns : SlType) (after : List Token) (x : SlCode × List Token)
      → 1 ≤ n → Some (returns, after) ≡ type_at ts → function_with levels returns after ≡ Err x → many (next_function levels) n ts ≡ Err x
  function-err n ts returns after x low at is =
      many-err (next_function levels) n ts (function_with levels returns after) x low (ap (option_map with_type) (sym at)) is

  pub function-end : (n : ℕ) (ts : List Token) → None ≡ type_at ts → many (next_function levels) n ts ≡ Ok ([], ts)
  function-end n ts at = many-end (next_function levels) n ts (ap (option_map with_type) (sym at))
