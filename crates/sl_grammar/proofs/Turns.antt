-- The tokens of a text stand one after another.
use Rattle.std.proofs.Common.{◌≡◌, ℕ, ◌+◌, ◌-◌, ◌≤◌, ◌∷◌, [], List, Option, Some, None, Bool, true, false, cond, refl, ap, arith}
use Rattle.std.specs.Prelude.{◌==◌}
use Rattle.std.specs.List.{prefix_len}
use Rattle.sl_ast.specs.declared.kinds.Operator.TheVariants as operators
use Rattle.sl_ast.specs.declared.kinds.SetOperator.TheVariants as sets
use Rattle.sl_lexer.specs.declared.found.Found.{Found}
use Rattle.sl_lexer.specs.declared.found.Found.TheVariants.{Blank, Whole, Bad}
use Rattle.sl_lexer.specs.declared.token.Mark.{Mark}
use Rattle.sl_lexer.specs.declared.token.TokenKind.{TokenKind}
use Rattle.sl_lexer.specs.declared.token.TokenKind.TheVariants as kinds
use Rattle.sl_lexer.specs.Bytes.{is_white, is_letter, is_in_line, is_equals, head_byte}
use Rattle.sl_lexer.specs.Numbers.{number_len}
use Rattle.sl_lexer.specs.Found.{string_in, found_string, comment_in, found_comment, with_equals, twice, found_slash, found_number, begins_number, found_word, mark_at, found_operator, found_sign, found_at, found_in}
use Rattle.sl_lexer.specs.Tokens.{tokens_from, found_then, line_after}
use Rattle.sl_lexer.proofs.Spans.{number_some, name_some}
use Rattle.sl_lexer.proofs.Steps.{passes}
use Rattle.sl_grammar.specs.Laws.{in_turn}

abbrev size : Found → ℕ
size (Blank n) = n
size (Whole kind n) = n
size Bad = 1

-- blank bytes and tokens take at least one byte
record Takes (f : Found) : Type 0 where
  pub low : 1 ≤ size f

choose : (t : Bool) (x y : Found) → (t ≡ true → Takes x) → (t ≡ false → Takes y) → Takes (cond t x y)
choose true x y h k = h refl
choose false x y h k = k refl

blank : (n : ℕ) → Takes (Blank (1 + n))
blank n = record { low = omega arith }

whole : (kind : TokenKind) (n : ℕ) → Takes (Whole kind (1 + n))
whole kind n = record { low = omega arith }

bad : Takes Bad
bad = record { low = omega arith }

equals_takes : (single double : TokenKind) (bs : List ℕ) → Takes (with_equals single double bs)
equals_takes single double bs = choose (head_byte is_equals bs) (Whole double 2) (Whole single 1) (λ e. whole double 1) (λ e. whole single 0)

twice_takes : (b : ℕ) (double : TokenKind) (bs : List ℕ) → Takes (twice b double bs)
twice_takes b double bs = choose (head_byte (λ x. x == b) bs) (Whole double 2) Bad (λ e. whole double 1) (λ e. bad)

comment_takes : (o : Option ℕ) → Takes (found_comment o)
comment_takes None = bad
comment_takes (Some n) = record { low = omega arith }

slash_takes : (bs : List ℕ) → Takes (found_slash bs)
slash_takes [] = whole (kinds.Operator operators.Divide) 0
slash_takes (b ∷ bs) =
    choose (b == 47) (Blank (prefix_len is_in_line bs + 2)) _ (λ e. record { low = omega arith })
    (λ e. choose (b == 42) (found_comment (comment_in false bs)) _ (λ e. comment_takes (comment_in false bs))
    (λ e. equals_takes (kinds.Operator operators.Divide) (kinds.Set sets.Divide) (b ∷ bs)))

string_takes : (o : Option (List ℕ × ℕ)) → Takes (found_string o)
string_takes None = bad
string_takes (Some s) = record { low = omega arith }

number_takes : (bs : List ℕ) (o : Option ℕ) → number_len bs ≡ o → begins_number bs ≡ true → Takes (found_number bs o)
number_takes bs None e h = bad
number_takes bs (Some n) e h = record { low = number_some bs n h e }

operator_takes : (b : ℕ) (bs : List ℕ) → Takes (found_operator b bs)
operator_takes b bs =
    choose (b == 43) _ _ (λ e. equals_takes _ _ bs)
    (λ e. choose (b == 45) _ _ (λ e. equals_takes _ _ bs)
    (λ e. choose (b == 42) _ _ (λ e. equals_takes _ _ bs)
    (λ e. choose (b == 61) _ _ (λ e. equals_takes _ _ bs)
    (λ e. choose (b == 33) _ _ (λ e. equals_takes _ _ bs)
    (λ e. choose (b == 60) _ _ (λ e. equals_takes _ _ bs)
    (λ e. choose (b == 62) _ _ (λ e. equals_takes _ _ bs)
    (λ e. choose (b == 94) _ _ (λ e. whole _ 0)
    (λ e. choose (b == 46) _ _ (λ e. whole _ 0)
    (λ e. choose (b == 124) _ _ (λ e. twice_takes 124 _ bs)
    (λ e. choose (b == 38) _ _ (λ e. twice_takes 38 _ bs) (λ e. bad)))))))))))

sign_takes : (b : ℕ) (bs : List ℕ) (o : Option Mark) → Takes (found_sign b bs o)
sign_takes b bs None = operator_takes b bs
sign_takes b bs (Some mark) = whole (kinds.Mark mark) 0

found_takes : (b : ℕ) (bs : List ℕ) → Takes (found_at b bs)
found_takes b bs =
    choose (is_white b) _ _ (λ e. blank 0)
    (λ e. choose (b == 47) _ _ (λ e. slash_takes bs)
    (λ e. choose (b == 34) _ _ (λ e. string_takes (string_in false bs))
    (λ e. choose (begins_number (b ∷ bs)) _ _ (λ e. number_takes (b ∷ bs) (number_len (b ∷ bs)) refl e)
    (λ e. choose (is_letter b) (found_word (b ∷ bs)) _ (λ e. record { low = name_some (b ∷ bs) e }) (λ e. sign_takes b bs (mark_at b))))))

turn : (f : Found) → Takes f → (line b : ℕ) (bs : List ℕ) → found_then f line (λ n. tokens_from (n - 1) (line_after b line) bs) ≡ in_turn f line (b ∷ bs)
turn (Blank n) t line b bs = passes n line b bs t.low
turn (Whole kind n) t line b bs = ap (λ ts. record { kind = kind; line = line } ∷ ts) (passes n line b bs t.low)
turn Bad t line b bs = refl

pub tokens_turn : (line b : ℕ) (bs : List ℕ) → tokens_from 0 line (b ∷ bs) ≡ in_turn (found_in (b ∷ bs)) line (b ∷ bs)
tokens_turn line b bs = turn (found_at b bs) (found_takes b bs) line b bs
