-- A grammar of a scene's text by rules: the words of its tokens, and white space and comments between them. It says what a
-- text of these tokens looks like, and not how it is read.
use Rattle.std.specs.Prelude.{◌≡◌, ℕ, ◌+◌, ◌<◌, Bool, true, false, List, [], ◌∷◌, ◌++◌, length, slice_index, Some, Ok, ◌==◌, ◌↔◌}
use Rattle.rib_lex.specs.Bytes.{is_white, is_in_line, is_letter, is_name, is_plain, line_feeds}
use Rattle.rib_lex.specs.Strings.{escaped}
use Rattle.fixed_math.specs.DecimalText.{head_is}
use Rattle.rib_lex.specs.Numbers.{number_at}
use Rattle.rib_lex.specs.Tokens.{tokens_of}
use Rattle.rib_lex.specs.declared.token.Token.{Token}
use Rattle.rib_lex.specs.declared.token.TokenKind.{TokenKind}
use Rattle.rib_lex.specs.declared.token.TokenKind.TheVariants.{Name, Str, Number, Open, Close}

-- each byte passes
abbrev pub Each : (ℕ → Bool) → List ℕ → Type 0
Each p bs = (k : ℕ) → k < length bs → p (slice_index bs k) ≡ true

-- white space and comments before these bytes; a comment ends before a line feed or with the text
pub data IsGap : List ℕ → List ℕ → Type 0 where
  no_gap : (rest : List ℕ) → IsGap [] rest
  white_gap : (b : ℕ) (gap rest : List ℕ) → is_white b ≡ true → IsGap gap rest → IsGap (b ∷ gap) rest
  comment_gap : (text gap rest : List ℕ) → Each is_in_line text → head_is is_in_line (gap ++ rest) ≡ false → IsGap gap rest → IsGap (35 ∷ (text ++ gap)) rest

-- what stands in quotes, with its closing quote, and the text that it stands for
pub data IsQuoted : List ℕ → List ℕ → Type 0 where
  closing : IsQuoted (34 ∷ []) []
  plain_byte : (b : ℕ) (word text : List ℕ) → (b == 34) ≡ false → (b == 92) ≡ false → is_plain b ≡ true → IsQuoted word text → IsQuoted (b ∷ word) (b ∷ text)
  escaped_byte : (b : ℕ) (front word text : List ℕ) → escaped b ≡ Some front → IsQuoted word text → IsQuoted (92 ∷ (b ∷ word)) (front ++ text)

-- the word of a token before these bytes: a name or number is as long as can be
abbrev pub IsWord : TokenKind → List ℕ → List ℕ → Type 0
IsWord (Name name) word rest = (word ≡ name) × (head_is is_letter name ≡ true) × Each is_name name × (head_is is_name rest ≡ false)
IsWord (Str text) word rest = (inner : List ℕ) × (word ≡ 34 ∷ inner) × IsQuoted inner text
IsWord (Number d) word rest = number_at (word ++ rest) ≡ Ok (d, rest)
IsWord Open word rest = word ≡ 91 ∷ []
IsWord Close word rest = word ≡ 93 ∷ []

-- a text of these tokens that begins on this line
pub data IsText : List Token → ℕ → List ℕ → Type 0 where
  ends : (line : ℕ) (gap : List ℕ) → IsGap gap [] → IsText [] line gap
  goes_on : (t : Token) (ts : List Token) (line : ℕ) (gap word rest : List ℕ) → IsGap gap (word ++ rest) → IsWord t.kind word rest → t.line ≡ line + line_feeds gap → IsText ts (t.line + line_feeds word) rest → IsText (t ∷ ts) line (gap ++ (word ++ rest))

-- a text is read without a fault as these tokens exactly where it is a text of these tokens
abbrev pub TokensSpell : Type 0
TokensSpell = (bytes : List ℕ) (ts : List Token) → (tokens_of bytes ≡ Ok ts) ↔ IsText ts 1 bytes
