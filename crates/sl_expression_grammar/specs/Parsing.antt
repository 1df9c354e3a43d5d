-- What a reader of the code answers: what the grammar gives, but where memory runs out.
use Rattle.std.specs.Prelude.{◌≡◌, List, map, Some, None, Result, Ok, Err, Vec}
use Rattle.std.specs.declared.alloc.Global.{Global}
use Rattle.std.specs.Borrow.{Bor}
use Rattle.sl_lexer.specs.declared.token.Token.{Token}
use Rattle.sl_lexer.specs.declared.token.Mark.{Mark}
use Rattle.sl_expression_grammar.specs.declared.reading.Stop.{Stop}
use Rattle.sl_expression_grammar.specs.declared.reading.Stop.TheVariants.{At, NoMemory}
use Rattle.sl_expression_grammar.specs.Reading.{Reads, head_is, is_bad, code_for, rest_after, is_mark}

-- what was read is seen by `view`
abbrev pub Gives : {A B : Type 0} → (A → B) → Result (A × Bor (List Token)) Stop → Reads B → Type 0
Gives view (Ok x) read = read ≡ Ok (view x.0, x.1.now)
Gives view (Err (At code rest)) read = read ≡ Err (code, rest.now)
Gives view (Err NoMemory) read = Unit {0}

-- the same of the items of a vector
abbrev pub GivesItems : {A B : Type 0} → (A → B) → Result (Vec A Global × Bor (List Token)) Stop → Reads (List B) → Type 0
GivesItems view (Ok x) read = read ≡ Ok (map view x.0.items, x.1.now)
GivesItems view (Err (At code rest)) read = read ≡ Err (code, rest.now)
GivesItems view (Err NoMemory) read = Unit {0}

-- the tokens after a mark, or that it does not stand there
abbrev pub MatchPast : Mark → List Token → Result (Bor (List Token)) Stop → Type 0
MatchPast mark ts (Ok rest) = rest_after (is_mark mark) ts ≡ Some rest.now
MatchPast mark ts (Err (At code rest)) = (rest_after (is_mark mark) ts ≡ None) × ((code ≡ code_for (head_is is_bad ts)) × (rest.now ≡ ts))
MatchPast mark ts (Err NoMemory) = Unit {0}

-- the item, and the tokens after a mark; or that the mark does not stand there
abbrev pub MatchClosed : {A : Type 0} → A → Mark → List Token → Result (A × Bor (List Token)) Stop → Type 0
MatchClosed item mark ts (Ok x) = (x.0 ≡ item) × (rest_after (is_mark mark) ts ≡ Some x.1.now)
MatchClosed item mark ts (Err (At code rest)) = (rest_after (is_mark mark) ts ≡ None) × ((code ≡ code_for (head_is is_bad ts)) × (rest.now ≡ ts))
MatchClosed item mark ts (Err NoMemory) = Unit {0}
