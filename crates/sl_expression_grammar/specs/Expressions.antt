-- The tree of an expression's tokens, or its first fault: the grammar row by row, by recursion on the levels left.
use Rattle.std.specs.Prelude.{◌≡◌, ℕ, zero, suc, Bool, true, false, ◌&&◌, nat_lt, List, [], ◌∷◌, length, Option, Some, None, option_map, Ok, Err, if◌then◌else◌}
use Rattle.sl_ast.specs.Syntax as S
use Rattle.sl_ast.specs.declared.kinds.SlType.{SlType}
use Rattle.sl_ast.specs.declared.kinds.Row.{Row}
use Rattle.sl_ast.specs.declared.kinds.Row.TheVariants as rows
use Rattle.sl_ast.specs.declared.kinds.Operator.{Operator}
use Rattle.sl_ast.specs.declared.kinds.Operator.TheVariants as operators
use Rattle.sl_ast.specs.declared.kinds.Prefix.{Prefix}
use Rattle.sl_ast.specs.declared.kinds.Prefix.TheVariants as prefixes
use Rattle.sl_ast.specs.declared.syntax.Space.{Space}
use Rattle.sl_lexer.specs.declared.token.Token.{Token}
use Rattle.sl_lexer.specs.declared.token.TokenKind.{TokenKind}
use Rattle.sl_lexer.specs.declared.token.TokenKind.TheVariants as kinds
use Rattle.sl_lexer.specs.declared.token.Mark.TheVariants.{LeftParen, RightParen, Comma, Question, Colon}
use Rattle.sl_expression_grammar.specs.declared.fault.SlCode.TheVariants.{P3}
use Rattle.sl_expression_grammar.specs.Reading.{Reads, ◌>>=◌, many, commas, head_is, unexpected, too_deep, is_mark, rest_after, past, line_and_rest}

-- the row on which an operator stands
abbrev pub row_of : Operator → Row
row_of operators.Or = rows.Or
row_of operators.And = rows.And
row_of operators.Equal = rows.Equality
row_of operators.NotEqual = rows.Equality
row_of operators.Less = rows.Relation
row_of operators.LessEqual = rows.Relation
row_of operators.Greater = rows.Relation
row_of operators.GreaterEqual = rows.Relation
row_of operators.Add = rows.Sum
row_of operators.Subtract = rows.Sum
row_of operators.Cross = rows.Cross
row_of operators.Multiply = rows.Product
row_of operators.Divide = rows.Product
row_of operators.Dot = rows.Dot

abbrev pub same_row : Row → Row → Bool
same_row rows.Or rows.Or = true
same_row rows.And rows.And = true
same_row rows.Equality rows.Equality = true
same_row rows.Relation rows.Relation = true
same_row rows.Sum rows.Sum = true
same_row rows.Cross rows.Cross = true
same_row rows.Product rows.Product = true
same_row rows.Dot rows.Dot = true
same_row _ _ = false

-- at most one operator stands in a chain of equality or relation, any number in one of another row
abbrev pub is_single : Row → Bool
is_single rows.Equality = true
is_single rows.Relation = true
is_single _ = false

abbrev pub most_links : Row → ℕ → ℕ
most_links row n = if is_single row then 1 else n

-- what an expression may begin with
abbrev pub begins_expr : TokenKind → Bool
begins_expr (kinds.Number text) = true
begins_expr (kinds.Str text) = true
begins_expr (kinds.Name name) = true
begins_expr (kinds.Type kind) = true
begins_expr (kinds.Mark LeftParen) = true
begins_expr (kinds.Operator operators.Subtract) = true
begins_expr kinds.Not = true
begins_expr _ = false

-- what may stand after a type and a space name
abbrev pub begins_prim : TokenKind → Bool
begins_prim (kinds.Number text) = true
begins_prim (kinds.Str text) = true
begins_prim (kinds.Name name) = true
begins_prim (kinds.Type kind) = true
begins_prim (kinds.Mark LeftParen) = true
begins_prim _ = false

-- an operator of that row at the front with its line, and the tokens after it
abbrev pub operator_in : Row → TokenKind → Option Operator
operator_in row (kinds.Operator o) = if same_row row (row_of o) then Some o else None
operator_in row _ = None

abbrev pub operator_at : Row → List Token → Option (Operator × ℕ × List Token)
operator_at row [] = None
operator_at row (t ∷ ts) = option_map (λ o. (o, t.line, ts)) (operator_in row t.kind)

-- the same after so many operators of the chain
abbrev pub link_at : Row → ℕ → List Token → Option (Operator × ℕ × List Token)
link_at row count ts = if is_single row && nat_lt 0 count then None else operator_at row ts

abbrev pub linked : Operator → ℕ → S.Expr → S.Link
linked operator line operand = record { operator = operator; line = line; operand = operand }

-- an operator with its operand, if one follows
abbrev pub link : (List Token → Reads S.Expr) → Operator × ℕ × List Token → Reads S.Link
link operand o = operand o.2 >>= λ e. Ok (linked o.0 o.1 e.0, e.1)

abbrev pub next_link : Row → (List Token → Reads S.Expr) → List Token → Option (Reads S.Link)
next_link row operand ts = option_map (link operand) (operator_at row ts)

-- a chain without operators is its operand
abbrev pub chain_of : Row → S.Expr → List S.Link → S.Expr
chain_of row first [] = first
chain_of row first (l ∷ ls) = S.chain row first (S.links (l ∷ ls))

abbrev pub links_in : Row → (List Token → Reads S.Expr) → List Token → Reads (List S.Link)
links_in row operand ts = many (next_link row operand) (most_links row (length ts)) ts

-- operands of a row with its operators between them
abbrev pub chain : Row → (List Token → Reads S.Expr) → List Token → Reads S.Expr
chain row operand ts = operand ts >>= λ first. links_in row operand first.1 >>= λ links. Ok (chain_of row first.0 links.0, links.1)

-- all rows of binary operators over what stands for the prefix row
abbrev pub chains : (List Token → Reads S.Expr) → List Token → Reads S.Expr
chains unary = chain rows.Or (chain rows.And (chain rows.Equality (chain rows.Relation (chain rows.Sum (chain rows.Cross (chain rows.Product (chain rows.Dot unary)))))))

abbrev pub choice_then : (List Token → Reads S.Expr) → S.Expr → List Token → Option (ℕ × List Token) → Reads S.Expr
choice_then expr test ts None = Ok (test, ts)
choice_then expr test ts (Some q) =
    expr q.1 >>= λ first. past Colon first.1 λ rest. expr rest >>= λ second. Ok (S.choice test first.0 second.0 q.0, second.1)

-- an expression: a chain, and a choice after it where a question mark stands
abbrev pub expr_with : (List Token → Reads S.Expr) → (List Token → Reads S.Expr) → List Token → Reads S.Expr
expr_with unary expr ts = chains unary ts >>= λ test. choice_then expr test.0 test.1 (line_and_rest Question test.1)

-- the arguments of a call and the parenthesis after them
abbrev pub args_with : (List Token → Reads S.Expr) → List Token → Option (List Token) → Reads (List S.Expr)
args_with expr ts (Some rest) = Ok ([], rest)
args_with expr ts None = commas expr ts >>= λ args. past RightParen args.1 λ rest. Ok (args.0, rest)

abbrev pub args_in : (List Token → Reads S.Expr) → List Token → Reads (List S.Expr)
args_in expr ts = args_with expr ts (rest_after (is_mark RightParen) ts)

-- a name, or a call
abbrev pub name_then : (List Token → Reads S.Expr) → List ℕ → ℕ → List Token → Option (List Token) → Reads S.Expr
name_then expr name line ts None = Ok (S.name name line, ts)
name_then expr name line ts (Some inside) = args_in expr inside >>= λ args. Ok (S.call name (S.exprs args.0) line, args.1)

abbrev pub name_with : (List Token → Reads S.Expr) → List ℕ → ℕ → List Token → Reads S.Expr
name_with expr name line ts = name_then expr name line ts (rest_after (is_mark LeftParen) ts)

-- an expression after its opening parenthesis
abbrev pub paren_with : (List Token → Reads S.Expr) → ℕ → List Token → Reads S.Expr
paren_with expr line ts = expr ts >>= λ e. past RightParen e.1 λ rest. Ok (S.paren e.0 line, rest)

-- the space name after a type: a string that stands before a further value
abbrev pub space_when : Bool → Space → List Token → List Token → Option Space × List Token
space_when true space rest ts = (Some space, rest)
space_when false space rest ts = (None, ts)

abbrev pub space_in : TokenKind → ℕ → List Token → List Token → Option Space × List Token
space_in (kinds.Str name) line rest ts = space_when (head_is begins_prim rest) (record { name = name; line = line }) rest ts
space_in _ line rest ts = (None, ts)

abbrev pub space_at : List Token → Option Space × List Token
space_at [] = (None, [])
space_at (t ∷ ts) = space_in t.kind t.line ts (t ∷ ts)

-- that space and those tokens after it
abbrev pub IsSpaceAt : Option Space → List Token → List Token → Type 0
IsSpaceAt space rest ts = (space ≡ (space_at ts).0) × (rest ≡ (space_at ts).1)

-- what stands in the parentheses after a type: one value, or three
abbrev pub triple_with : (List Token → Reads S.Expr) → SlType → Option Space → ℕ → S.Expr → List Token → Reads S.Expr
triple_with expr kind space line x ts =
    expr ts >>= λ y. past Comma y.1 λ after_y.
    expr after_y >>= λ z. past RightParen z.1 λ rest. Ok (S.triple kind space x y.0 z.0 line, rest)

abbrev pub paren_typed : SlType → Option Space → ℕ → ℕ → S.Expr → List Token → Reads S.Expr
paren_typed kind space line inner x ts = past RightParen ts λ rest. Ok (S.typed kind space (S.paren x inner) line, rest)

abbrev pub triple_then : (List Token → Reads S.Expr) → SlType → Option Space → ℕ → ℕ → S.Expr → List Token → Option (List Token) → Reads S.Expr
triple_then expr kind space line inner x ts None = paren_typed kind space line inner x ts
triple_then expr kind space line inner x ts (Some after_x) = triple_with expr kind space line x after_x

abbrev pub inside_with : (List Token → Reads S.Expr) → SlType → Option Space → ℕ → ℕ → List Token → Reads S.Expr
inside_with expr kind space line inner ts = expr ts >>= λ x. triple_then expr kind space line inner x.0 x.1 (rest_after (is_mark Comma) x.1)

abbrev pub value_then : (List Token → Reads S.Expr) → (List Token → Reads S.Expr) → SlType → Option Space → ℕ → List Token → Option (ℕ × List Token) → Reads S.Expr
value_then expr prim kind space line ts None = prim ts >>= λ e. Ok (S.typed kind space e.0 line, e.1)
value_then expr prim kind space line ts (Some p) = inside_with expr kind space line p.0 p.1

-- after a type: a space name or none, and one value or three
abbrev pub value_with : (List Token → Reads S.Expr) → (List Token → Reads S.Expr) → SlType → ℕ → Option Space × List Token → Reads S.Expr
value_with expr prim kind line s = value_then expr prim kind s.0 line s.1 (line_and_rest LeftParen s.1)

abbrev pub typed_with : (List Token → Reads S.Expr) → (List Token → Reads S.Expr) → SlType → ℕ → List Token → Reads S.Expr
typed_with expr prim kind line ts = value_with expr prim kind line (space_at ts)

-- what stands between operators, by its first token; `typed` reads after a type
abbrev pub prim_in : (List Token → Reads S.Expr) → (SlType → ℕ → List Token → List Token → Reads S.Expr) → TokenKind → ℕ → List Token → List Token → Reads S.Expr
prim_in expr typed (kinds.Number text) line rest ts = Ok (S.number text line, rest)
prim_in expr typed (kinds.Str text) line rest ts = Ok (S.string text line, rest)
prim_in expr typed (kinds.Name name) line rest ts = name_with expr name line rest
prim_in expr typed (kinds.Mark LeftParen) line rest ts = paren_with expr line rest
prim_in expr typed (kinds.Type kind) line rest ts = typed kind line rest ts
prim_in expr typed _ line rest ts = unexpected ts

abbrev pub prim_with : (List Token → Reads S.Expr) → (SlType → ℕ → List Token → List Token → Reads S.Expr) → List Token → Reads S.Expr
prim_with expr typed [] = unexpected []
prim_with expr typed (t ∷ ts) = prim_in expr typed t.kind t.line ts (t ∷ ts)

abbrev pub prefix_in : TokenKind → Option Prefix
prefix_in (kinds.Operator operators.Subtract) = Some prefixes.Negative
prefix_in kinds.Not = Some prefixes.Not
prefix_in _ = None

-- a prefix operator at the front with its line, and the tokens after it
abbrev pub prefix_at : List Token → Option (Prefix × ℕ × List Token)
prefix_at [] = None
prefix_at (t ∷ ts) = option_map (λ p. (p, t.line, ts)) (prefix_in t.kind)

abbrev pub unary_then : (List Token → Reads S.Expr) → (List Token → List Token → Reads S.Expr) → List Token → Option (Prefix × ℕ × List Token) → Reads S.Expr
unary_then prim operand ts None = prim ts
unary_then prim operand ts (Some p) = operand p.2 ts >>= λ e. Ok (S.prefixed p.0 e.0 p.1, e.1)

abbrev pub unary_with : (List Token → Reads S.Expr) → (List Token → List Token → Reads S.Expr) → List Token → Reads S.Expr
unary_with prim operand ts = unary_then prim operand ts (prefix_at ts)

-- where no level is left for a type or a prefix operator
abbrev pub deep_typed : SlType → ℕ → List Token → List Token → Reads S.Expr
deep_typed kind line rest ts = Err (P3, ts)

abbrev pub deep_operand : List Token → List Token → Reads S.Expr
deep_operand rest ts = Err (P3, ts)

-- where so many levels are left
abbrev mutual
  pub expr_at : ℕ → List Token → Reads S.Expr
  expr_at zero ts = too_deep begins_expr ts
  expr_at (suc levels) ts = expr_with (unary_at levels) (expr_at levels) ts

  pub unary_at : ℕ → List Token → Reads S.Expr
  unary_at zero ts = unary_with (prim_with (too_deep begins_expr) deep_typed) deep_operand ts
  unary_at (suc levels) ts =
      unary_with (prim_with (expr_with (unary_at levels) (expr_at levels)) (λ kind line rest ts. typed_with (expr_at levels) (prim_at levels) kind line rest))
      (λ rest ts. unary_at levels rest) ts

  pub prim_at : ℕ → List Token → Reads S.Expr
  prim_at zero ts = prim_with (too_deep begins_expr) deep_typed ts
  prim_at (suc levels) ts = prim_with (expr_with (unary_at levels) (expr_at levels)) (λ kind line rest ts. typed_with (expr_at levels) (prim_at levels) kind line rest) ts
