-- Laws of the requests of a scene.
use Rattle.std.specs.Prelude.{◌≡◌, Bool, true, false, not, ◌&&◌, List, [], ◌∷◌, ◌++◌, map, Result, Ok, Err}
use Rattle.rib_lex.specs.declared.token.Token.{Token}
use Rattle.rib_lex.specs.declared.token.TokenKind.{TokenKind}
use Rattle.rib_lex.specs.declared.token.TokenKind.TheVariants as kinds
use Rattle.rib_reader.specs.declared.args.Arg.{Arg}
use Rattle.rib_reader.specs.declared.args.Arg.TheVariants.{Number, Str, Numbers, Strings}
use Rattle.rib_reader.specs.declared.declared.Declared.{Declared}
use Rattle.rib_reader.specs.declared.scan.Scan.{Scan}
use Rattle.rib_reader.specs.Values.{scan_of}
use Rattle.rib_reader.specs.Rules.{dict_after}
use Rattle.rib_reader.specs.Reading.{Read, Placed, is_value, with_front, requests_from, requests_of}

-- the names that are declared behind these requests
abbrev pub dict_behind : List Declared → List Read → List Declared
dict_behind dict [] = dict
dict_behind dict (r ∷ rs) = dict_behind (dict_after dict r.name r.args) rs

-- tokens of which the first is a name, or none
abbrev pub begins_request : List Token → Bool
begins_request [] = true
begins_request (t ∷ ts) = not (is_value t)

-- what a text followed by another's gives: the requests of both, or the first one's fault; what the first one declares
-- holds in the other
abbrev pub followed : Result (List Read) Placed → List Token → Result (List Read) Placed
followed (Ok rs) back = with_front rs (requests_from 0 (dict_behind [] rs) back)
followed (Err e) back = Err e

-- the requests of a text and of another after it are those of both, with declarations carried over
abbrev pub JoinLaw : Type 0
JoinLaw = (front back : List Token) → begins_request back ≡ true → requests_of (front ++ back) ≡ followed (requests_of front) back

-- the tokens that a value is written with
abbrev pub spelled : Arg → List TokenKind
spelled (Number d) = kinds.Number d ∷ []
spelled (Str t) = kinds.Str t ∷ []
spelled (Numbers ds) = kinds.Open ∷ (map (λ d. kinds.Number d) ds ++ kinds.Close ∷ [])
spelled (Strings ts) = kinds.Open ∷ (map (λ t. kinds.Str t) ts ++ kinds.Close ∷ [])

abbrev pub spelled_all : List Arg → List TokenKind
spelled_all [] = []
spelled_all (a ∷ rest) = spelled a ++ spelled_all rest

-- the array without items is one of numbers
abbrev pub is_plain : Arg → Bool
is_plain (Strings []) = false
is_plain _ = true

abbrev pub are_plain : List Arg → Bool
are_plain [] = true
are_plain (a ∷ rest) = is_plain a && are_plain rest

abbrev pub token_kind : Token → TokenKind
token_kind t = t.kind

-- these values, and no bracket wrong
abbrev pub read_as : List Arg → Scan
read_as values = record { values = values; numbers = []; strings = []; inside = false; broken = false }

-- values are read back from the tokens that they are written with
abbrev pub SpellLaw : Type 0
SpellLaw = (ts : List Token) (args : List Arg) → are_plain args ≡ true → map token_kind ts ≡ spelled_all args → scan_of ts ≡ read_as args

-- and where no bracket is wrong, the tokens are those that the values are written with
abbrev pub ReadLaw : Type 0
ReadLaw = (ts : List Token) → (scan_of ts).broken ≡ false → map token_kind ts ≡ spelled_all (scan_of ts).values
