-- The name that a request declares is the string that its first token is.
use Rattle.std.proofs.Common.{◌≡◌, ℕ, ◌∷◌, [], List, Option, Some, None, Ok, map, take, refl, sym, ap, ◌∙◌}
use Rattle.rib_lex.specs.declared.token.Token.{Token}
use Rattle.rib_lex.specs.declared.token.TokenKind.{TokenKind}
use Rattle.rib_lex.specs.declared.token.TokenKind.TheVariants as kinds
use Rattle.rib_reader.specs.declared.args.Arg.{Arg}
use Rattle.rib_reader.specs.declared.args.Arg.TheVariants.{Number, Str, Numbers, Strings}
use Rattle.rib_reader.specs.declared.declared.Declared.{Declared}
use Rattle.rib_reader.specs.declared.faults.RibCode.{RibCode}
use Rattle.rib_reader.specs.declared.faults.RibCode.TheVariants.{S3}
use Rattle.rib_reader.specs.declared.names.Named.{Named}
use Rattle.rib_reader.specs.declared.names.Named.TheVariants.{Known, LeftOut}
use Rattle.rib_reader.specs.declared.req.Req.{Req}
use Rattle.rib_reader.specs.declared.req.Req.TheVariants.{Declare}
use Rattle.rib_reader.specs.Names.{named}
use Rattle.rib_reader.specs.Values.{scan_of}
use Rattle.rib_reader.specs.Rules.{lower, when, joined, word_at}
use Rattle.rib_reader.specs.Lists.{request_code}
use Rattle.rib_reader.specs.Laws.{spelled_all, token_kind}
use Rattle.rib_reader.specs.Reading.{Read, args_in, list_in, unless_fault, counted_code, of_scan, of_name, of_group, word_of, first_word}
use Rattle.rib_reader.proofs.Lowest.{lower_none, when_none}
use Rattle.rib_reader.proofs.Spelling.{read_law}

same_kind : (b : Token) (k : TokenKind) (bs rest : List TokenKind) → b.kind ∷ bs ≡ k ∷ rest → b.kind ≡ k
same_kind b k bs rest e = cc

-- the first value's string is that of the first token
first_value : (values : List Arg) (body : List Token) → map token_kind body ≡ spelled_all values → word_at (take 2 values) 0 ≡ first_word body
first_value [] [] e = refl
first_value [] (b ∷ bs) e = absurd cc
first_value (Number d ∷ vs) [] e = absurd cc
first_value (Str t ∷ vs) [] e = absurd cc
first_value (Numbers ds ∷ vs) [] e = absurd cc
first_value (Strings ts ∷ vs) [] e = absurd cc
first_value (Number d ∷ vs) (b ∷ bs) e = sym (ap word_of (same_kind b (kinds.Number d) _ _ e))
first_value (Str t ∷ vs) (b ∷ bs) e = sym (ap word_of (same_kind b (kinds.Str t) _ _ e))
first_value (Numbers ds ∷ vs) (b ∷ bs) e = sym (ap word_of (same_kind b kinds.Open _ _ e))
first_value (Strings ts ∷ vs) (b ∷ bs) e = sym (ap word_of (same_kind b kinds.Open _ _ e))

-- a request that is read has no fault
no_code : (code : Option RibCode) (made r : Read) → unless_fault code made ≡ Ok r → code ≡ None
no_code None made r e = refl
no_code (Some code) made r e = absurd cc

same_read : (code : Option RibCode) (made r : Read) → unless_fault code made ≡ Ok r → made ≡ r
same_read None made r e = cc
same_read (Some code) made r e = absurd cc

of_known : (dict : List Declared) (name : Req) (body : List Token) (line : ℕ) (r : Read) → of_scan dict name (counted_code name body) (scan_of body) line ≡ Ok r
    → r.name ≡ Declare → word_at r.args 0 ≡ first_word body
of_known dict name body line r e is =
    let values : List Arg = joined name (scan_of body).values in
    let own : Option RibCode = request_code name (args_in name values) (list_in dict name values).params in
    let met : Option RibCode = lower (when (scan_of body).broken S3) (counted_code name body) in
    let before : Option RibCode = lower met (list_in dict name values).fault in
    let made : Read = record { name = name; args = args_in name values; params = (list_in dict name values).params; line = line } in
    let none = no_code (lower before own) made r e in
    let same = same_read (lower before own) made r e in
    let whole = when_none (scan_of body).broken S3 (lower_none (when (scan_of body).broken S3) (counted_code name body) (lower_none met (list_in dict name values).fault (lower_none before own none).0).0).0 in
    let declares : name ≡ Declare = ap (λ (q : Read). q.name) same ∙ is in
    ap (λ (q : Read). word_at q.args 0) (sym same)
    ∙ ap (λ (n : Req). word_at (args_in n (joined n (scan_of body).values)) 0) declares
    ∙ first_value (scan_of body).values body (read_law body whole)

of_one : (dict : List Declared) (known : Option Named) (body : List Token) (line : ℕ) (r : Read) → of_name dict known body line ≡ Ok r
    → r.name ≡ Declare → word_at r.args 0 ≡ first_word body
of_one dict (Some (Known name)) body line r e is = of_known dict name body line r e is
of_one dict (Some LeftOut) body line r e is = absurd cc
of_one dict None body line r e is = absurd cc

pub first_declared : (dict : List Declared) (kind : TokenKind) (line : ℕ) (body : List Token) (r : Read) → of_group dict kind line body ≡ Ok r
    → r.name ≡ Declare → word_at r.args 0 ≡ first_word body
first_declared dict (kinds.Name text) line body r e is = of_one dict (named text) body line r e is
first_declared dict (kinds.Str text) line body r e is = absurd cc
first_declared dict (kinds.Number d) line body r e is = absurd cc
first_declared dict kinds.Open line body r e is = absurd cc
first_declared dict kinds.Close line body r e is = absurd cc
