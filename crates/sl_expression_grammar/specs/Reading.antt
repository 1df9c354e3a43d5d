-- Reading at the front of tokens, and the fault where the text cannot go on so.
use Rattle.std.specs.Prelude.{ℕ, zero, suc, Bool, true, false, List, [], ◌∷◌, ◌++◌, length, Option, Some, None, option_map, Result, Ok, Err, if◌then◌else◌}
use Rattle.sl_lexer.specs.declared.token.Token.{Token}
use Rattle.sl_lexer.specs.declared.token.TokenKind.{TokenKind}
use Rattle.sl_lexer.specs.declared.token.TokenKind.TheVariants as kinds
use Rattle.sl_lexer.specs.declared.token.Mark.{Mark}
use Rattle.sl_lexer.specs.declared.token.Mark.TheVariants as marks
use Rattle.sl_expression_grammar.specs.declared.fault.SlCode.{SlCode}
use Rattle.sl_expression_grammar.specs.declared.fault.SlCode.TheVariants.{P1, P2, P3}

-- what is read at the front, and the tokens after it; or a fault and the tokens from its place on
abbrev pub Reads : Type 0 → Type 0
Reads A = Result (A × List Token) (SlCode × List Token)

infixl 10 ◌>>=◌
abbrev pub ◌>>=◌ : {A B : Type 0} → Reads A → (A × List Token → Reads B) → Reads B
(Ok x) >>= f = f x
(Err e) >>= f = Err e

-- a list that goes on so after these items
abbrev pub with_front : {A : Type 0} → List A → Reads (List A) → Reads (List A)
with_front front (Ok x) = Ok (front ++ x.0, x.1)
with_front front (Err e) = Err e

abbrev pub is_bad : TokenKind → Bool
is_bad kinds.Bad = true
is_bad _ = false

-- P1 where no token begins here, else P2
abbrev pub code_for : Bool → SlCode
code_for true = P1
code_for false = P2

abbrev pub head_is : (TokenKind → Bool) → List Token → Bool
head_is p [] = false
head_is p (t ∷ ts) = p t.kind

-- no text goes on like this
abbrev pub unexpected : {A : Type 0} → List Token → Reads A
unexpected ts = Err (code_for (head_is is_bad ts), ts)

-- a level would open here for what begins so, and none is left
abbrev pub too_deep : {A : Type 0} → (TokenKind → Bool) → List Token → Reads A
too_deep begins ts = if head_is begins ts then Err (P3, ts) else unexpected ts

-- one item after another for as many turns; `step` reads the next, or says that none follows
abbrev pub many_then : {A : Type 0} → (List Token → Reads (List A)) → List Token → Option (Reads A) → Reads (List A)
many_then go ts None = Ok ([], ts)
many_then go ts (Some r) = r >>= λ x. with_front (x.0 ∷ []) (go x.1)

-- as many things as there are, one after another
abbrev pub many : {A : Type 0} → (List Token → Option (Reads A)) → ℕ → List Token → Reads (List A)
many step zero ts = Ok ([], ts)
many step (suc turns) ts = many_then (many step turns) ts (step ts)

abbrev pub same_mark : Mark → Mark → Bool
same_mark marks.LeftParen marks.LeftParen = true
same_mark marks.RightParen marks.RightParen = true
same_mark marks.LeftBrace marks.LeftBrace = true
same_mark marks.RightBrace marks.RightBrace = true
same_mark marks.Semicolon marks.Semicolon = true
same_mark marks.Comma marks.Comma = true
same_mark marks.Question marks.Question = true
same_mark marks.Colon marks.Colon = true
same_mark _ _ = false

abbrev pub is_mark : Mark → TokenKind → Bool
is_mark mark (kinds.Mark m) = same_mark mark m
is_mark mark _ = false

-- the tokens after a first one that is such
abbrev pub rest_after : (TokenKind → Bool) → List Token → Option (List Token)
rest_after p [] = None
rest_after p (t ∷ ts) = if p t.kind then Some ts else None

abbrev pub go_on : {A : Type 0} → List Token → (List Token → Reads A) → Option (List Token) → Reads A
go_on ts go None = unexpected ts
go_on ts go (Some rest) = go rest

-- a mark, and then the rest
abbrev pub past : {A : Type 0} → Mark → List Token → (List Token → Reads A) → Reads A
past mark ts go = go_on ts go (rest_after (is_mark mark) ts)

-- the line of that mark at the front, and the tokens after it
abbrev pub line_and_rest : Mark → List Token → Option (ℕ × List Token)
line_and_rest mark [] = None
line_and_rest mark (t ∷ ts) = if is_mark mark t.kind then Some (t.line, ts) else None

-- items with commas between them, at least one
abbrev pub after_comma : {A : Type 0} → (List Token → Reads A) → List Token → Option (Reads A)
after_comma item ts = option_map item (rest_after (is_mark marks.Comma) ts)

-- one thing or several with commas between
abbrev pub commas : {A : Type 0} → (List Token → Reads A) → List Token → Reads (List A)
commas item ts = item ts >>= λ x. with_front (x.0 ∷ []) (many (after_comma item) (length x.1) x.1)
