-- Worked values of the definitions.
use Rattle.std.specs.Prelude.{◌≡◌, refl, [], ◌∷◌, Some, None, codes}
use Rattle.sl_lexer.specs.declared.token.TokenKind.TheVariants as kinds
use Rattle.sl_lexer.specs.declared.token.Word.TheVariants as words
use Rattle.sl_lexer.specs.Numbers.{number_len}
use Rattle.sl_lexer.specs.Tokens.{tokens_of}

-- of numbers: one that ends before a semicolon, a point after digits alone, and two that are not well formed
length_whole : number_len (codes "1.5e+3;") ≡ Some 6
length_whole = refl

length_point : number_len (codes "2.-1") ≡ Some 2
length_point = refl

length_stuck : number_len (codes "1x") ≡ None
length_stuck = refl

length_powerless : number_len (codes "1e+;") ≡ None
length_powerless = refl

-- of tokens: a comment over two lines, and a number that is stuck to a letter
after_comment : tokens_of (codes "/*\n*/if a") ≡ record { kind = kinds.Word words.If; line = 2 } ∷ record { kind = kinds.Name (codes "a"); line = 2 } ∷ []
after_comment = refl

stuck_number : tokens_of (codes "a\n1x") ≡ record { kind = kinds.Name (codes "a"); line = 1 } ∷ record { kind = kinds.Bad; line = 2 } ∷ []
stuck_number = refl
