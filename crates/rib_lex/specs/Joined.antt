-- A law of the token list: two texts with a line feed between them have the tokens of the first and then those of the
-- second, so many lines further down, where the first has no fault.
use Rattle.std.specs.Prelude.{◌≡◌, ℕ, ◌+◌, List, ◌∷◌, ◌++◌, Result, Ok, Err, map}
use Rattle.rib_lex.specs.Bytes.{line_feeds}
use Rattle.rib_lex.specs.Tokens.{Placed, token, tokens_of, with_front}
use Rattle.rib_lex.specs.declared.token.Token.{Token}

abbrev pub moved_token : ℕ → Token → Token
moved_token lines t = token t.kind (lines + t.line)

-- the same so many lines further down
abbrev pub moved : ℕ → Result (List Token) Placed → Result (List Token) Placed
moved lines (Ok ts) = Ok (map (moved_token lines) ts)
moved lines (Err e) = Err (e.0, lines + e.1)

abbrev pub TextsJoin : Type 0
TextsJoin =
    (first second : List ℕ) (ts : List Token) → tokens_of first ≡ Ok ts
    → tokens_of (first ++ 10 ∷ second) ≡ with_front ts (moved (line_feeds first + 1) (tokens_of second))
