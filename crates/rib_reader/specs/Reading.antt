-- The requests of a scene.
use Rattle.std.specs.Prelude.{◌≡◌, refl, codes, pos, ℕ, zero, suc, Bool, true, false, List, [], ◌∷◌, ◌++◌, Option, Some, None, Result, Ok, Err, Vec, take, drop, length, map, filter, not, ◌==◌}
use Rattle.std.specs.List.{prefix_len}
use Rattle.std.specs.declared.alloc.Global.{Global}
use Rattle.rib_lex.specs.declared.token.Token.{Token}
use Rattle.rib_lex.specs.declared.token.TokenKind.{TokenKind}
use Rattle.rib_lex.specs.declared.token.TokenKind.TheVariants as kinds
use Rattle.rib_reader.specs.declared.args.Arg.{Arg}
use Rattle.scene.specs.declared.params.Param.{Param}
use Rattle.rib_reader.specs.declared.req.Req.{Req}
use Rattle.rib_reader.specs.declared.req.Req.TheVariants as reqs
use Rattle.rib_reader.specs.declared.args.Arg.TheVariants.{Str}
use Rattle.rib_reader.specs.declared.args.Arg.TheVariants as arrays
use Rattle.scene.specs.declared.params.Class.TheVariants.{Uniform}
use Rattle.scene.specs.declared.params.Kind.TheVariants.{Float}
use Rattle.scene.specs.declared.params.Values.TheVariants.{Numbers}
use Rattle.fixed_math.specs.declared.decimal.Decimal.{Decimal}
use Rattle.fixed_math.specs.Decimal.{raw_magnitude, whole_magnitude}
use Rattle.rib_reader.specs.declared.names.Named.{Named}
use Rattle.rib_reader.specs.declared.names.Named.TheVariants.{Known, LeftOut}
use Rattle.rib_reader.specs.declared.faults.RibCode.{RibCode}
use Rattle.rib_reader.specs.declared.faults.RibCode.TheVariants.{S1, S2, S3, S4, S5}
use Rattle.rib_reader.specs.declared.faults.RibFault.{RibFault}
use Rattle.rib_reader.specs.declared.faults.RibFault.TheVariants.{At, NoMemory}
use Rattle.rib_reader.specs.declared.declared.Declared.{Declared}
use Rattle.rib_reader.specs.declared.scan.Scan.{Scan}
use Rattle.rib_reader.specs.declared.listing.Listing.{Listing}
use Rattle.rib_reader.specs.declared.request.Request.{Request}
use Rattle.rib_reader.specs.Names.{named}
use Rattle.rib_reader.specs.Values.{scan_of}
use Rattle.rib_reader.specs.Table.{shapes_of}
use Rattle.rib_reader.specs.Rules.{lower, when, joined, follows_of, dict_after}
use Rattle.rib_reader.specs.Lists.{list_of, request_code}

-- a request as plain data
pub record Read : Type 0 where
  pub name : Req
  pub args : List Arg
  pub params : List Param
  pub line : ℕ

abbrev pub plain : Request → Read
plain r = record { name = r.name; args = r.args; params = r.params; line = r.line }

-- a fault and its line
abbrev pub Placed : Type 0
Placed = RibCode × ℕ

-- the arguments of a request: as many values as its row has
abbrev pub args_in : Req → List Arg → List Arg
args_in name values = take (length (shapes_of name)) values

-- the list of a request: what stands after its arguments
abbrev pub list_in : List Declared → Req → List Arg → Listing
list_in dict name values = list_of (follows_of name (args_in name values)) dict (drop (length (shapes_of name)) values)

-- a request in which no code stands, or the code
abbrev pub unless_fault : Option RibCode → Read → Result Read Placed
unless_fault None r = Ok r
unless_fault (Some code) r = Err (code, r.line)

-- where a code was met before, or stands in the request itself, the lowest
abbrev pub checked : Option RibCode → Read → Result Read Placed
checked before r = unless_fault (lower before (request_code r.name r.args r.params)) r

abbrev pub with_list : Option RibCode → Req → List Arg → Listing → ℕ → Result Read Placed
with_list before name args l line = checked (lower before l.fault) record { name = name; args = args; params = l.params; line = line }

abbrev pub of_values : List Declared → Req → Option RibCode → List Arg → ℕ → Result Read Placed
of_values dict name before values line = with_list before name (args_in name values) (list_in dict name values) line

-- the tokens of an array before its end, and the numbers among them, in a mixed array too
abbrev pub is_inside : Token → Bool
is_inside t = not_end t.kind
  where
    not_end : TokenKind → Bool
    not_end kinds.Close = false
    not_end _ = true

abbrev pub is_number : Token → Bool
is_number t = number_in t.kind
  where
    number_in : TokenKind → Bool
    number_in (kinds.Number d) = true
    number_in _ = false

-- how many numbers stand among the tokens of an array
abbrev pub numbers_inside : List Token → ℕ
numbers_inside items = length (filter is_number (take (prefix_len is_inside items) items))

-- a motion has two times
abbrev pub times_counted : List Token → Option RibCode
times_counted [] = None
times_counted (t ∷ items) = counted_behind t.kind items
  where
    counted_behind : TokenKind → List Token → Option RibCode
    counted_behind kinds.Open items = when (not (numbers_inside items == 2)) S2
    counted_behind _ items = None

abbrev pub counted_code : Req → List Token → Option RibCode
counted_code reqs.MotionBegin body = times_counted body
counted_code _ body = None

abbrev pub of_scan : List Declared → Req → Option RibCode → Scan → ℕ → Result Read Placed
of_scan dict name counted s line = of_values dict name (lower (when s.broken S3) counted) (joined name s.values) line

-- the request of a name with the values after it, or its fault
abbrev pub of_name : List Declared → Option Named → List Token → ℕ → Result Read Placed
of_name dict (Some (Known name)) body line = of_scan dict name (counted_code name body) (scan_of body) line
of_name dict (Some LeftOut) body line = Err (S2, line)
of_name dict None body line = Err (S1, line)

-- a token with those behind it
abbrev pub of_group : List Declared → TokenKind → ℕ → List Token → Result Read Placed
of_group dict (kinds.Name text) line body = of_name dict (named text) body line
of_group dict _ line body = Err (S3, line)

abbrev pub is_inner : TokenKind → Bool
is_inner (kinds.Name text) = false
is_inner _ = true

abbrev pub is_value : Token → Bool
is_value t = is_inner t.kind

abbrev pub word_of : TokenKind → Option (List ℕ)
word_of (kinds.Str text) = Some text
word_of _ = None

-- the string that the first token is
abbrev pub first_word : List Token → Option (List ℕ)
first_word [] = None
first_word (t ∷ ts) = word_of t.kind

abbrev pub with_front : List Read → Result (List Read) Placed → Result (List Read) Placed
with_front front (Ok rs) = Ok (front ++ rs)
with_front front (Err e) = Err e

abbrev pub and_then : Result Read Placed → (Read → Result (List Read) Placed) → Result (List Read) Placed
and_then (Ok r) go = with_front (r ∷ []) (go r)
and_then (Err e) go = Err e

-- the requests of these tokens, of which so many belong to what was taken before
abbrev pub requests_from : ℕ → List Declared → List Token → Result (List Read) Placed
requests_from taken dict [] = Ok []
requests_from (suc taken) dict (t ∷ ts) = requests_from taken dict ts
requests_from zero dict (t ∷ ts) =
    and_then (of_group dict t.kind t.line (take (prefix_len is_value ts) ts)) λ r. requests_from (prefix_len is_value ts) (dict_after dict r.name r.args) ts

-- the requests of a scene, or its first fault with its line
abbrev pub requests_of : List Token → Result (List Read) Placed
requests_of tokens = requests_from 0 [] tokens

abbrev pub GivesOne : Result Request RibFault → Result Read Placed → Type 0
GivesOne (Ok r) read = read ≡ Ok (plain r)
GivesOne (Err (At code line)) read = read ≡ Err (code, line)
GivesOne (Err NoMemory) read = Unit {0}

abbrev pub GivesAll : Result (Vec Request Global) RibFault → Result (List Read) Placed → Type 0
GivesAll (Ok v) read = read ≡ Ok (map plain v.items)
GivesAll (Err (At code line)) read = read ≡ Err (code, line)
GivesAll (Err NoMemory) read = Unit {0}

-- worked values
abbrev pub word : TokenKind → Token
word kind = record { kind = kind; line = 1 }

abbrev pub digit : ℕ → Decimal
digit d = record { negative = false; digits = d; exponent = pos 0 }

unknown : requests_of (word (kinds.Name (codes "Foo")) ∷ word (kinds.Number (digit 1)) ∷ []) ≡ Err (S1, 1)
unknown = refl

left_out : requests_of (word (kinds.Name (codes "Torus")) ∷ word kinds.Open ∷ []) ≡ Err (S2, 1)
left_out = refl

two_of_three : requests_of (word (kinds.Name (codes "Format")) ∷ word (kinds.Number (digit 2)) ∷ word (kinds.Number (digit 2)) ∷ []) ≡ Err (S3, 1)
unfolding whole_magnitude
two_of_three = refl

-- the lowest code of all conditions
type_without_value : requests_of (word (kinds.Name (codes "Surface")) ∷ word (kinds.Str (codes "a")) ∷ word (kinds.Str (codes "foo float x")) ∷ []) ≡ Err (S2, 1)
type_without_value = refl

second_word_alone : requests_of (word (kinds.Name (codes "Declare")) ∷ word (kinds.Number (digit 5)) ∷ word (kinds.Str (codes "foo")) ∷ []) ≡ Err (S2, 1)
second_word_alone = refl

array_as_basis : requests_of (word (kinds.Name (codes "Basis")) ∷ word kinds.Open ∷ word kinds.Close ∷ []) ≡ Err (S2, 1)
array_as_basis = refl

array_as_step : requests_of (word (kinds.Name (codes "Basis")) ∷ word (kinds.Str (codes "bezier")) ∷ word kinds.Open ∷ word kinds.Close ∷ []) ≡ Err (S3, 1)
array_as_step = refl

undeclared : requests_of (word (kinds.Name (codes "Surface")) ∷ word (kinds.Str (codes "a")) ∷ word (kinds.Str (codes "Kx")) ∷ word (kinds.Number (digit 1)) ∷ []) ≡ Err (S4, 1)
undeclared = refl

two_of_one : requests_of (word (kinds.Name (codes "Surface")) ∷ word (kinds.Str (codes "a")) ∷ word (kinds.Str (codes "Kd"))
    ∷ word kinds.Open ∷ word (kinds.Number (digit 4)) ∷ word (kinds.Number (digit 5)) ∷ word kinds.Close ∷ []) ≡ Err (S5, 1)
unfolding raw_magnitude
two_of_one = refl

declared : requests_of (word (kinds.Name (codes "Declare")) ∷ word (kinds.Str (codes "Kx")) ∷ word (kinds.Str (codes "float"))
    ∷ word (kinds.Name (codes "Surface")) ∷ word (kinds.Str (codes "a")) ∷ word (kinds.Str (codes "Kx")) ∷ word (kinds.Number (digit 1)) ∷ [])
    ≡ Ok (record { name = reqs.Declare; args = Str (codes "Kx") ∷ Str (codes "float") ∷ []; params = []; line = 1 }
    ∷ record { name = reqs.Surface; args = Str (codes "a") ∷ []; params = record { name = codes "Kx"; class = Uniform; kind = Float; values = Numbers (pos 65536 ∷ []) } ∷ []; line = 1 }
    ∷ [])
unfolding raw_magnitude
declared = refl

-- a motion has two times, whatever else stands between them
abbrev pub number : ℕ → Token
number d = word (kinds.Number (digit d))

three_times : requests_of (word (kinds.Name (codes "MotionBegin")) ∷ word kinds.Open ∷ number 0 ∷ number 1 ∷ number 2 ∷ word kinds.Close ∷ []) ≡ Err (S2, 1)
three_times = refl

one_time : requests_of (word (kinds.Name (codes "MotionBegin")) ∷ word kinds.Open ∷ number 0 ∷ word kinds.Close ∷ []) ≡ Err (S2, 1)
one_time = refl

times_back : requests_of (word (kinds.Name (codes "MotionBegin")) ∷ word kinds.Open ∷ number 1 ∷ number 0 ∷ word kinds.Close ∷ []) ≡ Err (S3, 1)
unfolding raw_magnitude
times_back = refl

motion : requests_of (word (kinds.Name (codes "MotionBegin")) ∷ word kinds.Open ∷ number 0 ∷ number 1 ∷ word kinds.Close ∷ [])
    ≡ Ok (record { name = reqs.MotionBegin; args = arrays.Numbers (digit 0 ∷ digit 1 ∷ []) ∷ []; params = []; line = 1 } ∷ [])
unfolding raw_magnitude
motion = refl
