-- The values behind a request's name. A fault of brackets is noted and leaves the other values at their places: a mixed
-- array counts by its strings, an array that isn't ended ends with the values, a bracket in an array and an ending one
-- outside are passed over.
use Rattle.std.specs.Prelude.{◌≡◌, refl, codes, ℕ, Bool, true, false, not, ◌||◌, ◌&&◌, List, [], ◌∷◌, ◌++◌, if◌then◌else◌, length, ◌==◌}
use Rattle.rib_lex.specs.declared.token.Token.{Token}
use Rattle.rib_lex.specs.declared.token.TokenKind.{TokenKind}
use Rattle.rib_lex.specs.declared.token.TokenKind.TheVariants as kinds
use Rattle.rib_reader.specs.declared.args.Arg.{Arg}
use Rattle.rib_reader.specs.declared.args.Arg.TheVariants.{Number, Str, Numbers, Strings}
use Rattle.rib_reader.specs.declared.scan.Scan.{Scan}

-- nothing so far: the values, the items of the array that is begun, whether one is, and whether a bracket is wrong
abbrev pub start : Scan
start = record { values = []; numbers = []; strings = []; inside = false; broken = false }

-- the array that was begun; a mixed one is broken, and counts by its strings
abbrev pub array_in : Scan → Arg
array_in s = if length s.strings == 0 then Numbers s.numbers else Strings s.strings

-- numbers and strings in one array
abbrev pub is_mixed : Scan → Bool
is_mixed s = not (length s.strings == 0) && not ((length s.numbers == 0))

abbrev pub with_array : Scan → Scan
with_array s = record { values = s.values ++ array_in s ∷ []; numbers = []; strings = []; inside = false; broken = s.broken || is_mixed s }

-- a value more
abbrev pub with_value : Scan → Arg → Scan
with_value s v = record { values = s.values ++ v ∷ []; numbers = s.numbers; strings = s.strings; inside = s.inside; broken = s.broken }

-- a wrong bracket more
abbrev pub with_broken : Scan → Bool → Scan
with_broken s inside = record { values = s.values; numbers = s.numbers; strings = s.strings; inside = inside; broken = true }

-- one token more; a name never comes here
abbrev pub scanned : Scan → TokenKind → Scan
scanned s (kinds.Name t) = with_broken s s.inside
scanned s (kinds.Str t) =
    if s.inside then record { values = s.values; numbers = s.numbers; strings = s.strings ++ t ∷ []; inside = true; broken = s.broken }
    else with_value s (Str t)
scanned s (kinds.Number d) =
    if s.inside then record { values = s.values; numbers = s.numbers ++ d ∷ []; strings = s.strings; inside = true; broken = s.broken }
    else with_value s (Number d)
scanned s kinds.Open =
    if s.inside then with_broken s true
    else record { values = s.values; numbers = s.numbers; strings = s.strings; inside = true; broken = s.broken }
scanned s kinds.Close = if s.inside then with_array s else with_broken s false

-- an array without its bracket is broken
abbrev pub ended : Scan → Scan
ended s = if s.inside then with_broken (with_array s) false else s

abbrev pub scan_from : Scan → List Token → Scan
scan_from s [] = ended s
scan_from s (t ∷ ts) = scan_from (scanned s t.kind) ts

-- the values of these tokens
abbrev pub scan_of : List Token → Scan
scan_of ts = scan_from start ts

-- worked values
abbrev pub string : List ℕ → Token
string text = record { kind = kinds.Str text; line = 1 }

abbrev pub bracket : Bool → Token
bracket opens = record { kind = if opens then kinds.Open else kinds.Close; line = 1 }

an_array : scan_of (string (codes "a") ∷ bracket true ∷ string (codes "b") ∷ bracket false ∷ [])
    ≡ record { values = Str (codes "a") ∷ Strings (codes "b" ∷ []) ∷ []; numbers = []; strings = []; inside = false; broken = false }
an_array = refl

no_items : scan_of (bracket true ∷ bracket false ∷ []) ≡ record { values = Numbers [] ∷ []; numbers = []; strings = []; inside = false; broken = false }
no_items = refl

not_ended : scan_of (bracket true ∷ string (codes "b") ∷ [])
    ≡ record { values = Strings (codes "b" ∷ []) ∷ []; numbers = []; strings = []; inside = false; broken = true }
not_ended = refl

not_begun : scan_of (bracket false ∷ string (codes "b") ∷ [])
    ≡ record { values = Str (codes "b") ∷ []; numbers = []; strings = []; inside = false; broken = true }
not_begun = refl
