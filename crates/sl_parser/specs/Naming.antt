-- What a reader of a name answers.
use Rattle.std.specs.Prelude.{◌≡◌, ℕ, List, Some, None, Result, Ok, Err}
use Rattle.std.specs.Borrow.{Bor}
use Rattle.sl_lexer.specs.declared.token.Token.{Token}
use Rattle.sl_expression_grammar.specs.declared.reading.Stop.{Stop}
use Rattle.sl_expression_grammar.specs.declared.reading.Stop.TheVariants.{At, NoMemory}
use Rattle.sl_expression_grammar.specs.Reading.{head_is, is_bad, code_for}
use Rattle.sl_parser.specs.Statements.{name_at}

-- the name with its line and the tokens after it, or that none stands there
abbrev pub MatchName : List Token → Result (Bor (List ℕ) × ℕ × Bor (List Token)) Stop → Type 0
MatchName ts (Ok n) = name_at ts ≡ Some (n.0.now, n.1, n.2.now)
MatchName ts (Err (At code rest)) = (name_at ts ≡ None) × ((code ≡ code_for (head_is is_bad ts)) × (rest.now ≡ ts))
MatchName ts (Err NoMemory) = Unit {0}
