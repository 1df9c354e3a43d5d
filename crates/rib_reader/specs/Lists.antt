-- The list behind a request's arguments: pairs of a token and a value.
use Rattle.std.specs.Prelude.{◌≡◌, refl, ℕ, ℤ, pos, Bool, true, false, not, ◌||◌, ◌&&◌, ◌==◌, List, [], ◌∷◌, Option, Some, None, is_none, option_map, Result, Ok, Err, if◌then◌else◌, length, codes, map, filter_map}
use Rattle.std.specs.Str.{bytes_eq}
use Rattle.fixed_math.specs.declared.decimal.Decimal.{Decimal}
use Rattle.fixed_math.specs.Decimal.{num}
use Rattle.rib_reader.specs.declared.args.Arg.{Arg}
use Rattle.rib_reader.specs.declared.args.Arg.TheVariants.{Number, Str, Numbers, Strings}
use Rattle.scene.specs.declared.params.Values.{Values}
use Rattle.scene.specs.declared.params.Values.TheVariants as held
use Rattle.scene.specs.declared.params.Param.{Param}
use Rattle.scene.specs.declared.params.Class.{Class}
use Rattle.scene.specs.declared.params.Class.TheVariants as classes
use Rattle.scene.specs.declared.params.Kind.{Kind}
use Rattle.scene.specs.declared.params.Kind.TheVariants as kinds
use Rattle.rib_reader.specs.declared.req.Req.{Req}
use Rattle.rib_reader.specs.declared.table.Tail.{Tail}
use Rattle.rib_reader.specs.declared.table.Tail.TheVariants as tails
use Rattle.rib_reader.specs.declared.follows.Follows.{Follows}
use Rattle.rib_reader.specs.declared.follows.Follows.TheVariants.{Nothing, Anything, Free, Bound, Parameters, Variables, Bicubic, Quadric}
use Rattle.rib_reader.specs.declared.faults.RibCode.{RibCode}
use Rattle.rib_reader.specs.declared.faults.RibCode.TheVariants.{S2, S3, S5}
use Rattle.rib_reader.specs.declared.declared.Declared.{Declared}
use Rattle.rib_reader.specs.declared.listing.Listing.{Listing}
use Rattle.scene.specs.Kinds.{is_string, width, count, is_of_kind}
use Rattle.rib_reader.specs.Words.{token_of}
use Rattle.rib_reader.specs.Rules.{lower, when, lowest, args_code, follows_of}
use Rattle.rib_reader.specs.Holding.{is_named, last_named}

-- a value as numbers or as strings; the array without items is both
abbrev pub numbers_of : Arg → Option (List Decimal)
numbers_of (Number d) = Some (d ∷ [])
numbers_of (Numbers ds) = Some ds
numbers_of _ = None

abbrev pub strings_of : Arg → Option (List (List ℕ))
strings_of (Str t) = Some (t ∷ [])
strings_of (Strings ts) = Some ts
strings_of (Numbers []) = Some []
strings_of _ = None

-- a value of that kind
abbrev pub values_of : Kind → Arg → Option Values
values_of k v = if is_string k then option_map (λ ts. held.Strings ts) (strings_of v) else option_map (λ ds. held.Numbers (map num ds)) (numbers_of v)

-- a pair of a list: a token, and the value behind it, if there is one; or a place at which no string stands for a token
pub data Pair : Type 0 where
  Of : (token : List ℕ) → (value : Option Arg) → Pair
  NoToken : Pair

-- the pairs of a list, up to the first place at which no string stands for a token
abbrev pub pairs_of : List Arg → List Pair
pairs_of [] = []
pairs_of (Str t ∷ []) = Of t None ∷ []
pairs_of (Str t ∷ v ∷ vs) = Of t (Some v) ∷ pairs_of vs
pairs_of _ = NoToken ∷ []

-- the name of the points
abbrev pub is_points : List ℕ → Bool
is_points name = bytes_eq name (codes "P")

-- the kind that a primitive's variable must have
abbrev pub needed : List ℕ → Option Kind
needed name =
    if is_points name then Some kinds.Point
    else if bytes_eq name (codes "N") then Some kinds.Normal
    else if bytes_eq name (codes "Cs") || bytes_eq name (codes "Os") then Some kinds.Color
    else if bytes_eq name (codes "s") || bytes_eq name (codes "t") then Some kinds.Float
    else if bytes_eq name (codes "st") then Some kinds.Pair
    else None

abbrev pub is_as_needed : Option Kind → Kind → Bool
is_as_needed None k = true
is_as_needed (Some kinds.Point) kinds.Point = true
is_as_needed (Some kinds.Normal) kinds.Normal = true
is_as_needed (Some kinds.Color) kinds.Color = true
is_as_needed (Some kinds.Float) kinds.Float = true
is_as_needed (Some kinds.Pair) kinds.Pair = true
is_as_needed _ _ = false

abbrev pub is_vertex : Class → Bool
is_vertex classes.Vertex = true
is_vertex _ = false

-- a value of the wrong kind is S3
abbrev pub kind_code : List ℕ → Kind → Option RibCode
kind_code name k = when (not (is_as_needed (needed name) k)) S3

-- the displacement bound
abbrev pub is_bound : List ℕ → Kind → Bool
is_bound name kinds.Float = bytes_eq name (codes "sphere")
is_bound name _ = false

-- what a list says of a variable's name, class and kind
abbrev pub name_code : Follows → List ℕ → Class → Kind → Option RibCode
name_code Bound name class k = when (not (is_bound name k)) S5
name_code Variables name class k = kind_code name k
name_code Bicubic name class k = lower (kind_code name k) (when (is_vertex class && not (is_points name)) S2)
name_code Quadric name class k = lower (kind_code name k) (when (is_points name) S3)
name_code _ name class k = None

abbrev pub is_counted : Follows → Bool
is_counted Bound = true
is_counted Parameters = true
is_counted _ = false

-- what it says of the number of its numbers or strings
abbrev pub count_code : Follows → Kind → Values → Option RibCode
count_code follows k values = when (is_counted follows && not (count values == width k)) S5

-- ---- pairs

abbrev pub is_sphere : List ℕ → Bool
is_sphere t = bytes_eq t (codes "sphere") || bytes_eq t (codes "float sphere")

abbrev pub bound : Declared
bound = record { name = codes "sphere"; class = classes.Uniform; kind = kinds.Float }

-- the name, class and kind that a token stands for
abbrev pub meaning_in : Follows → List Declared → List ℕ → Result Declared RibCode
meaning_in Bound dict t = if is_sphere t then Ok bound else Err S5
meaning_in _ dict t = token_of dict t

-- a value that isn't of its token's kind
abbrev pub misfit_code : Follows → RibCode
misfit_code Bound = S5
misfit_code _ = S3

abbrev pub values_code : Follows → Kind → Option Values → Option RibCode
values_code follows k None = Some (misfit_code follows)
values_code follows k (Some values) = count_code follows k values

-- a value that is missing, that isn't of its token's kind, or that has a wrong number of numbers or strings
abbrev pub value_code : Follows → Kind → Option Arg → Option RibCode
value_code follows k None = Some S3
value_code follows k (Some v) = values_code follows k (values_of k v)

-- a token without its value is S3
abbrev pub missing_code : Option Arg → Option RibCode
missing_code v = when (is_none v) S3

-- name, class and kind are judged from the token, whatever the value is
abbrev pub judged : Follows → Result Declared RibCode → Option Arg → Option RibCode
judged follows (Err code) v = lower (Some code) (missing_code v)
judged follows (Ok d) v = lower (name_code follows d.name d.class d.kind) (value_code follows d.kind v)

-- the lowest code that stands in a pair
abbrev pub pair_code : Follows → List Declared → Pair → Option RibCode
pair_code follows dict NoToken = Some S3
pair_code Free dict (Of t v) = missing_code v
pair_code follows dict (Of t v) = judged follows (meaning_in follows dict t) v

abbrev pub with_values : Declared → Option Values → Option Param
with_values d (Some values) = Some record { name = d.name; class = d.class; kind = d.kind; values = values }
with_values d None = None

abbrev pub given : Result Declared RibCode → Option Arg → Option Param
given (Ok d) (Some v) = with_values d (values_of d.kind v)
given _ _ = None

-- the variable of a pair
abbrev pub variable_of : Follows → List Declared → Pair → Option Param
variable_of follows dict NoToken = None
variable_of Free dict (Of t v) = None
variable_of follows dict (Of t v) = given (meaning_in follows dict t) v

abbrev pub nothing : Listing
nothing = record { fault = None; params = [] }

-- the lowest code of the pairs, and their variables
abbrev pub of_pairs : Follows → List Declared → List Pair → Listing
of_pairs follows dict ps = record { fault = lowest (pair_code follows dict) ps; params = filter_map (variable_of follows dict) ps }

-- what is read of a list
abbrev pub list_of : Follows → List Declared → List Arg → Listing
list_of Anything dict vs = nothing
list_of Nothing dict vs = record { fault = when (not (length vs == 0)) S3; params = [] }
list_of follows dict vs = of_pairs follows dict (pairs_of vs)

-- ---- what holds of the variables that are kept

-- the code of a variable in that list
abbrev pub own_code : Follows → Param → Option RibCode
own_code follows p = lower (name_code follows p.name p.class p.kind) (count_code follows p.kind p.values)

-- the code of a variable: by its kind, and by its own rules
abbrev pub param_code : Follows → Param → Option RibCode
param_code follows p = lower (when (not (is_of_kind p.kind p.values)) S3) (own_code follows p)

-- what the list as a whole must have
abbrev pub whole_code : Follows → List Param → Option RibCode
whole_code Bound ps = when (length ps == 0) S5
whole_code Variables ps = when (not (is_named (codes "P") ps)) S3
whole_code Bicubic ps = when (not (is_named (codes "P") ps)) S3
whole_code Parameters ps = None
whole_code Quadric ps = None
whole_code _ ps = when (not (length ps == 0)) S3

-- the lowest code of a list of variables
abbrev pub params_code : Follows → List Param → Option RibCode
params_code follows ps = lower (whole_code follows ps) (lowest (param_code follows) ps)

-- the lowest code that stands in the arguments and the list of a request
abbrev pub request_code : Req → List Arg → List Param → Option RibCode
request_code name args params = lower (args_code name args) (params_code (follows_of name args) params)

-- whether a primitive's list follows
abbrev pub is_geometry : Tail → Bool
is_geometry tails.Variables = true
is_geometry tails.PatchVariables = true
is_geometry tails.QuadricVariables = true
is_geometry _ = false

-- whether a list with the points P follows
abbrev pub has_points : Tail → Bool
has_points tails.Variables = true
has_points tails.PatchVariables = true
has_points _ = false

abbrev pub numbers_held : Values → Option (List ℤ)
numbers_held (held.Numbers xs) = Some xs
numbers_held (held.Strings ts) = None

abbrev pub numbers_given : Option Param → Option (List ℤ)
numbers_given (Some p) = numbers_held p.values
numbers_given None = None

-- the numbers of the last P
abbrev pub points_in : List Param → Option (List ℤ)
points_in ps = numbers_given (last_named (codes "P") ps)

-- worked values
abbrev one_of : List ℕ → Kind → Param
one_of name k = record { name = name; class = classes.Uniform; kind = k; values = held.Numbers (pos 0 ∷ []) }

-- a class or kind that isn't one shows without a value too
no_value : pair_code Parameters [] (Of (codes "foo float x") None) ≡ Some S2
no_value = refl

undeclared : pair_code Parameters [] (Of (codes "foo") None) ≡ Some S3
undeclared = refl

stops_at : pairs_of (Str (codes "a") ∷ Str (codes "b") ∷ Numbers [] ∷ Str (codes "c") ∷ []) ≡ Of (codes "a") (Some (Str (codes "b"))) ∷ NoToken ∷ []
stops_at = refl

-- a variable of another class than the list takes shows whatever its value is
vertex : pair_code Bicubic [] (Of (codes "vertex float x") (Some (Str (codes "y")))) ≡ Some S2
vertex = refl

vertex_points : pair_code Bicubic [] (Of (codes "P") (Some (Numbers []))) ≡ None
vertex_points = refl

-- where no patch is bicubic, a vertex variable is one like others
vertex_beside_points : pair_code Variables [] (Of (codes "vertex float x") (Some (Numbers []))) ≡ None
vertex_beside_points = refl

-- a name that needs another kind
another_kind_than_needed : pair_code Variables [] (Of (codes "varying point Cs") (Some (Numbers []))) ≡ Some S3
another_kind_than_needed = refl

-- the bound of another name or kind
another_name : params_code Bound (one_of (codes "cube") kinds.Float ∷ []) ≡ Some S5
another_name = refl

another_kind : params_code Bound (one_of (codes "sphere") kinds.Color ∷ []) ≡ Some S5
another_kind = refl

a_bound : params_code Bound (one_of (codes "sphere") kinds.Float ∷ []) ≡ None
a_bound = refl
