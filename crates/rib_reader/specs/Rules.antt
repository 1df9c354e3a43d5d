-- What a row of the table says of a request's arguments. Each condition is looked at by itself, whatever else is wrong, and
-- the lowest code that stands is the request's.
use Rattle.std.specs.Prelude.{ℕ, ℤ, pos, neg_ℤ, Bool, true, false, not, ◌||◌, ◌&&◌, ◌==◌, nat_le, int_lt, is_some, List, [], ◌∷◌, ◌++◌, Option, Some, None, Result, Ok, Err, if◌then◌else◌, length, map, option_map}
use Rattle.std.specs.List.{slice_get, list_any, list_all}
use Rattle.std.specs.Str.{bytes_eq}
use Rattle.fixed_math.specs.declared.decimal.Decimal.{Decimal}
use Rattle.fixed_math.specs.Decimal.{num, whole}
use Rattle.rib_reader.specs.declared.args.Arg.{Arg}
use Rattle.rib_reader.specs.declared.args.Arg.TheVariants.{Number, Str, Numbers, Strings}
use Rattle.rib_reader.specs.declared.req.Req.{Req}
use Rattle.rib_reader.specs.declared.req.Req.TheVariants as reqs
use Rattle.rib_reader.specs.declared.table.Shape.{Shape}
use Rattle.rib_reader.specs.declared.table.Shape.TheVariants as shapes
use Rattle.rib_reader.specs.declared.table.Words.{Words}
use Rattle.rib_reader.specs.declared.table.Words.TheVariants.{Modes, Bicubic, Bounds}
use Rattle.rib_reader.specs.declared.table.Rule.{Rule}
use Rattle.rib_reader.specs.declared.table.Rule.TheVariants.{Within, AtLeast, Rising, Ordered, Only, Between, OneOf, NoneOf, NoArray, Levels, WholeSphere, Times, Declaration}
use Rattle.rib_reader.specs.declared.table.Tail.{Tail}
use Rattle.rib_reader.specs.declared.table.Tail.TheVariants as tails
use Rattle.rib_reader.specs.declared.follows.Follows.{Follows}
use Rattle.rib_reader.specs.declared.follows.Follows.TheVariants as follows
use Rattle.rib_reader.specs.declared.faults.RibCode.{RibCode}
use Rattle.rib_reader.specs.declared.faults.RibCode.TheVariants.{S1, S2, S3, S4, S5}
use Rattle.rib_reader.specs.declared.declared.Declared.{Declared}
use Rattle.scene.specs.declared.params.Class.{Class}
use Rattle.scene.specs.declared.params.Kind.{Kind}
use Rattle.rib_reader.specs.Words.{declared_type, with_type}
use Rattle.rib_reader.specs.Table.{words_in, row_of, shapes_of, rules_of}

abbrev pub rank : RibCode → ℕ
rank S1 = 1
rank S2 = 2
rank S3 = 3
rank S4 = 4
rank S5 = 5

-- the lower code of two conditions
abbrev pub lower : Option RibCode → Option RibCode → Option RibCode
lower None b = b
lower (Some a) None = Some a
lower (Some a) (Some b) = if nat_le (rank a) (rank b) then Some a else Some b

-- a code, where it applies
abbrev pub when : Bool → RibCode → Option RibCode
when true code = Some code
when false code = None

-- the lowest code that stands in one of these
abbrev pub lowest : {A : Type 0} → (A → Option RibCode) → List A → Option RibCode
lowest code [] = None
lowest code (x ∷ xs) = lower (code x) (lowest code xs)

abbrev pub are_whole : List Decimal → Bool
are_whole ds = list_all (λ d. is_some (whole d)) ds

-- an argument is of that kind
abbrev pub fits : Shape → Arg → Bool
fits shapes.Whole (Number d) = is_some (whole d)
fits shapes.Number (Number d) = true
fits shapes.Word (Str t) = true
fits (shapes.Array n) (Numbers ds) = length ds == n
fits shapes.Wholes (Numbers ds) = are_whole ds
fits _ _ = false

-- the arguments are of those kinds, one by one
abbrev pub fit : List Shape → List Arg → Bool
fit [] args = length args == 0
fit (s ∷ ss) [] = false
fit (s ∷ ss) (a ∷ rest) = fits s a && fit ss rest

abbrev pub word_in : Option Arg → Option (List ℕ)
word_in (Some (Str t)) = Some t
word_in _ = None

-- the string at a place, where one is there
abbrev pub word_at : List Arg → ℕ → Option (List ℕ)
word_at args n = word_in (slice_get args n)

abbrev pub number_in : Option Arg → Option Decimal
number_in (Some (Number d)) = Some d
number_in _ = None

-- the number at a place, where one is there
abbrev pub number_at : List Arg → ℕ → Option Decimal
number_at args n = number_in (slice_get args n)

-- its raw
abbrev pub raw_at : List Arg → ℕ → Option ℤ
raw_at args n = option_map num (number_at args n)

abbrev pub whole_in : Option Decimal → Option ℤ
whole_in (Some d) = whole d
whole_in None = None

-- the whole number at a place, where one is there
abbrev pub whole_at : List Arg → ℕ → Option ℤ
whole_at args n = whole_in (number_at args n)

abbrev pub numbers_in : Option Arg → Option (List Decimal)
numbers_in (Some (Numbers ds)) = Some ds
numbers_in _ = None

-- the array of numbers at a place, where one is there
abbrev pub numbers_at : List Arg → ℕ → Option (List Decimal)
numbers_at args n = numbers_in (slice_get args n)

-- it is there, and doesn't lie between these
abbrev pub is_outside : Option ℤ → ℤ → ℤ → Bool
is_outside (Some x) least most = int_lt x least || int_lt most x
is_outside None least most = false

-- it is there, and is less
abbrev pub is_below : Option ℤ → ℤ → Bool
is_below (Some x) least = int_lt x least
is_below None least = false

-- both are there, and the first is less
abbrev pub is_less : Option ℤ → Option ℤ → Bool
is_less (Some a) (Some b) = int_lt a b
is_less _ _ = false

-- both are there, and the first isn't less
abbrev pub is_not_less : Option ℤ → Option ℤ → Bool
is_not_less (Some a) (Some b) = not (int_lt a b)
is_not_less _ _ = false

-- a word is one of these
abbrev pub is_among : List (List ℕ) → List ℕ → Bool
is_among words text = list_any (bytes_eq text) words

-- it is there, and is one of these words
abbrev pub is_one : Words → Option (List ℕ) → Bool
is_one words (Some t) = is_among (words_in words) t
is_one words None = false

-- it is there, and is none of these words
abbrev pub is_none_of : Words → Option (List ℕ) → Bool
is_none_of words (Some t) = not (is_among (words_in words) t)
is_none_of words None = false

abbrev pub is_array : Option Arg → Bool
is_array (Some (Numbers ds)) = true
is_array (Some (Strings ts)) = true
is_array _ = false

-- an array stands at a place
abbrev pub is_array_at : List Arg → ℕ → Bool
is_array_at args n = is_array (slice_get args n)

-- the greatest level, and the range that is written
abbrev pub levels_code : Option ℤ → Option ℤ → Option ℤ → Option RibCode
levels_code one low high = lower
    (when (is_less (Some (pos 65535)) one) S2)
    (when (is_below one (pos 1) || is_below low (pos 0) || is_less high low || is_less one high) S3)

-- no part of a sphere of this radius is left out below the one height or above the other
abbrev pub sphere_code : Option ℤ → Option ℤ → Option ℤ → Option RibCode
sphere_code radius low high = when (is_less (option_map neg_ℤ radius) low || is_less high radius) S2

-- a motion's first time is less than its second; another count of times is a fault of its own
abbrev pub times_code : Option (List Decimal) → Option RibCode
times_code (Some (from ∷ to ∷ [])) = when (not (int_lt (num from) (num to))) S3
times_code _ = None

abbrev pub code_in : Result (Class × Kind) RibCode → Option RibCode
code_in (Ok type) = None
code_in (Err code) = Some code

-- the second word of `Declare` is judged whatever the first one is
abbrev pub declare_code : Option (List ℕ) → Option RibCode
declare_code (Some text) = code_in (declared_type text)
declare_code None = None

-- the code of a rule that doesn't hold
abbrev pub rule_code : Rule → List Arg → Option RibCode
rule_code (Within place least most) args = when (is_outside (whole_at args place) least most) S3
rule_code (AtLeast place raw) args = when (is_below (raw_at args place) raw) S3
rule_code (Rising first second) args = when (is_not_less (raw_at args first) (raw_at args second)) S3
rule_code (Ordered first second) args = when (is_less (raw_at args second) (raw_at args first)) S3
rule_code (Only place same) args = when (is_outside (raw_at args place) same same) S2
rule_code (Between place least most) args = when (is_outside (raw_at args place) least most) S3
rule_code (OneOf place words code) args = when (is_none_of words (word_at args place)) code
rule_code (NoneOf place words) args = when (is_one words (word_at args place)) S2
rule_code (NoArray place) args = when (is_array_at args place) S2
rule_code Levels args = if is_one Modes (word_at args 0) then levels_code (whole_at args 1) (whole_at args 2) (whole_at args 3) else None
rule_code WholeSphere args = sphere_code (raw_at args 0) (raw_at args 1) (raw_at args 2)
rule_code Times args = times_code (numbers_at args 0)
rule_code Declaration args = declare_code (word_at args 1)

-- the lowest code that stands in the arguments
abbrev pub args_code : Req → List Arg → Option RibCode
args_code name args = lower (when (not (fit (shapes_of name) args)) S3) (lowest (λ r. rule_code r args) (rules_of name))

-- a patch or mesh of that name is bicubic, and the attribute of that name a bound
abbrev pub tail_with : Tail → Option (List ℕ) → Follows
tail_with tails.Empty word = follows.Nothing
tail_with tails.Anything word = follows.Anything
tail_with tails.Free word = follows.Free
tail_with tails.Attribute word = if is_one Bounds word then follows.Bound else follows.Free
tail_with tails.Parameters word = follows.Parameters
tail_with tails.Variables word = follows.Variables
tail_with tails.QuadricVariables word = follows.Quadric
tail_with tails.PatchVariables word = if is_one Bicubic word then follows.Bicubic else follows.Variables

-- what follows the arguments
abbrev pub follows_of : Req → List Arg → Follows
follows_of name args = tail_with (row_of name).tail (word_at args 0)

-- three numbers of a colour stand for their array
abbrev pub three_as_one : List Arg → List Arg
three_as_one (Number a ∷ Number b ∷ Number c ∷ []) = Numbers (a ∷ b ∷ c ∷ []) ∷ []
three_as_one values = values

-- an array of so many numbers stands for them
abbrev pub as_numbers : ℕ → List Arg → List Arg
as_numbers n (Numbers ds ∷ rest) = if length ds == n then map (λ d. Number d) ds ++ rest else Numbers ds ∷ rest
as_numbers n values = values

-- the numbers of a colour as one array, and those of a quadric one by one, however they are written
abbrev pub joined : Req → List Arg → List Arg
joined reqs.Color values = three_as_one values
joined reqs.Opacity values = three_as_one values
joined reqs.Sphere values = as_numbers 4 values
joined reqs.Cylinder values = as_numbers 4 values
joined reqs.Cone values = as_numbers 3 values
joined reqs.Disk values = as_numbers 3 values
joined _ values = values

-- the names that are declared behind a request
abbrev pub with_declared : List Declared → List ℕ → Result (Class × Kind) RibCode → List Declared
with_declared dict name (Ok type) = dict ++ with_type name type ∷ []
with_declared dict name (Err code) = dict

abbrev pub with_words : List Declared → Option (List ℕ) → Option (List ℕ) → List Declared
with_words dict (Some name) (Some text) = with_declared dict name (declared_type text)
with_words dict _ _ = dict

-- the declarations in force after a request
abbrev pub dict_after : List Declared → Req → List Arg → List Declared
dict_after dict reqs.Declare args = with_words dict (word_at args 0) (word_at args 1)
dict_after dict _ args = dict
