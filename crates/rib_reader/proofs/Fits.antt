-- What it means for the arguments and the list of a request that no code stands in them.
use Rattle.std.proofs.Common.{◌≡◌, ℕ, zero, suc, ◌∷◌, [], List, ℤ, pos, ◌≤ℤ◌, ◌<ℤ◌, Option, Some, None, length, Bool, true, false, not, ◌&&◌, ◌||◌, refl, sym, ap, ◌∙◌, int_lt, cond, codes, is_some, option_map, arith}
use Rattle.std.proofs.lemmas.Bool.{and_parts}
use Rattle.std.proofs.lemmas.Int.{ints}
use Rattle.std.specs.List.{slice_get}
use Rattle.std.specs.Option.{option_or}
use Rattle.std.specs.Str.{bytes_eq}
use Rattle.fixed_math.specs.declared.decimal.Decimal.{Decimal}
use Rattle.fixed_math.specs.Decimal.{num, whole}
use Rattle.rib_reader.specs.declared.args.Arg.{Arg}
use Rattle.rib_reader.specs.declared.args.Arg.TheVariants.{Number, Str, Numbers, Strings}
use Rattle.scene.specs.declared.params.Param.{Param}
use Rattle.rib_reader.specs.declared.req.Req.{Req}
use Rattle.rib_reader.specs.declared.req.Req.TheVariants.{Quantize}
use Rattle.rib_reader.specs.declared.table.Shape.{Shape}
use Rattle.rib_reader.specs.declared.table.Shape.TheVariants as shapes
use Rattle.rib_reader.specs.declared.table.Words.{Words}
use Rattle.rib_reader.specs.declared.table.Rule.{Rule}
use Rattle.rib_reader.specs.declared.table.Rule.TheVariants.{Within, AtLeast, Rising, Between, OneOf, NoneOf, Levels}
use Rattle.rib_reader.specs.declared.table.Words.TheVariants.{Modes, Bicubic}
use Rattle.rib_reader.specs.declared.table.Tail.{Tail}
use Rattle.rib_reader.specs.declared.table.Tail.TheVariants as tails
use Rattle.rib_reader.specs.declared.follows.Follows.{Follows}
use Rattle.rib_reader.specs.declared.follows.Follows.TheVariants as follows
use Rattle.scene.specs.declared.params.Kind.{Kind}
use Rattle.scene.specs.declared.params.Kind.TheVariants as kinds
use Rattle.scene.specs.declared.params.Class.{Class}
use Rattle.scene.specs.declared.params.Values.{Values}
use Rattle.scene.specs.declared.params.Values.TheVariants as held
use Rattle.rib_reader.specs.declared.faults.RibCode.{RibCode}
use Rattle.rib_reader.specs.declared.faults.RibCode.TheVariants.{S2, S3}
use Rattle.rib_reader.specs.Table.{row_of, shapes_of, rules_of, words_in}
use Rattle.rib_reader.specs.Rules.{when, lowest, are_whole, fits, fit, word_in, word_at, number_in, raw_at, whole_in, whole_at, numbers_in, numbers_at, is_outside, is_below, is_not_less, is_among, is_one, is_none_of, rule_code, args_code, levels_code, tail_with, follows_of}
use Rattle.rib_reader.specs.Holding.{is_named, last_named}
use Rattle.rib_reader.specs.Lists.{is_points, needed, is_as_needed, is_vertex, kind_code, name_code, count_code, has_points, numbers_held, numbers_given, points_in, own_code, param_code, whole_code, params_code, request_code}
use Rattle.scene.specs.Kinds.{is_of_kind}
use Rattle.rib_reader.proofs.Lowest.{lower_none, when_none, lowest_none}

not_false : (t : Bool) → not t ≡ false → t ≡ true
not_false true e = refl
not_false false e = absurd cc

or_left : (a b : Bool) → (a || b) ≡ false → a ≡ false
or_left true b e = absurd cc
or_left false b e = refl

or_right : (a b : Bool) → (a || b) ≡ false → b ≡ false
or_right true b e = absurd cc
or_right false b e = e

args_stand : (name : Req) (args : List Arg) (params : List Param) → request_code name args params ≡ None
    → (when (not (fit (shapes_of name) args)) S3 ≡ None) × (lowest (λ r. rule_code r args) (rules_of name) ≡ None)
args_stand name args params e =
    lower_none (when (not (fit (shapes_of name) args)) S3) (lowest (λ r. rule_code r args) (rules_of name))
    (lower_none (args_code name args) (params_code (follows_of name args) params) e).0

-- each rule of the row holds
pub rule_holds : (name : Req) (args : List Arg) (params : List Param) → request_code name args params ≡ None
    → (k : ℕ) (r : Rule) → slice_get (rules_of name) k ≡ Some r → rule_code r args ≡ None
rule_holds name args params e k r there = lowest_none (λ r. rule_code r args) (rules_of name) (args_stand name args params e).1 k r there

-- the arguments are of the row's kinds
pub args_fit : (name : Req) (args : List Arg) (params : List Param) → request_code name args params ≡ None → fit (shapes_of name) args ≡ true
args_fit name args params e =
    not_false (fit (shapes_of name) args) (when_none (not (fit (shapes_of name) args)) S3 (args_stand name args params e).0)

same_some : (s t : Shape) → Some s ≡ Some t → s ≡ t
same_some s t e = cc

-- an argument of its kind stands at each place of the row
fit_at : (ss : List Shape) (args : List Arg) (n : ℕ) (s : Shape) → fit ss args ≡ true → slice_get ss n ≡ Some s
    → (a : Arg) × (slice_get args n ≡ Some a) × (fits s a ≡ true)
fit_at [] args n s f h = absurd cc
fit_at (t ∷ ss) [] n s f h = absurd cc
fit_at (t ∷ ss) (a ∷ rest) zero s f h = (a, refl, rw (sym (same_some t s h)) (and_parts (fits t a) (fit ss rest) f).0)
fit_at (t ∷ ss) (a ∷ rest) (suc n) s f h = fit_at ss rest n s (and_parts (fits t a) (fit ss rest) f).1 h

-- an argument stands at each place of a request's row
pub arg_there : (name : Req) (args : List Arg) (params : List Param) (n : ℕ) (s : Shape) → request_code name args params ≡ None
    → slice_get (shapes_of name) n ≡ Some s → (a : Arg) × (slice_get args n ≡ Some a) × (fits s a ≡ true)
arg_there name args params n s e h = fit_at (shapes_of name) args n s (args_fit name args params e) h

some_whole : (o : Option ℤ) → is_some o ≡ true → o ≡ None → ⊥
some_whole (Some x) there none = cc
some_whole None there none = cc

no_word : (a : Arg) → fits shapes.Word a ≡ true → word_in (Some a) ≡ None → ⊥
no_word (Number d) f e = cc
no_word (Str t) f e = cc
no_word (Numbers ds) f e = cc
no_word (Strings ts) f e = cc

no_number : (a : Arg) → fits shapes.Number a ≡ true → option_map num (number_in (Some a)) ≡ None → ⊥
no_number (Number d) f e = cc
no_number (Str t) f e = cc
no_number (Numbers ds) f e = cc
no_number (Strings ts) f e = cc

no_whole : (a : Arg) → fits shapes.Whole a ≡ true → whole_in (number_in (Some a)) ≡ None → ⊥
no_whole (Number d) f e = some_whole (whole d) f e
no_whole (Str t) f e = cc
no_whole (Numbers ds) f e = cc
no_whole (Strings ts) f e = cc

no_array : (n : ℕ) (a : Arg) → fits (shapes.Array n) a ≡ true → numbers_in (Some a) ≡ None → ⊥
no_array n (Number d) f e = cc
no_array n (Str t) f e = cc
no_array n (Numbers ds) f e = cc
no_array n (Strings ts) f e = cc

no_wholes : (a : Arg) → fits shapes.Wholes a ≡ true → numbers_in (Some a) ≡ None → ⊥
no_wholes (Number d) f e = cc
no_wholes (Str t) f e = cc
no_wholes (Numbers ds) f e = cc
no_wholes (Strings ts) f e = cc

pub word_stands : (name : Req) (args : List Arg) (params : List Param) (n : ℕ) → request_code name args params ≡ None
    → slice_get (shapes_of name) n ≡ Some shapes.Word → word_at args n ≡ None → ⊥
word_stands name args params n e h none =
    let p = arg_there name args params n shapes.Word e h in
    no_word p.0 p.2 (sym (ap word_in p.1) ∙ none)

pub number_stands : (name : Req) (args : List Arg) (params : List Param) (n : ℕ) → request_code name args params ≡ None
    → slice_get (shapes_of name) n ≡ Some shapes.Number → raw_at args n ≡ None → ⊥
number_stands name args params n e h none =
    let p = arg_there name args params n shapes.Number e h in
    no_number p.0 p.2 (sym (ap (λ o. option_map num (number_in o)) p.1) ∙ none)

pub whole_stands : (name : Req) (args : List Arg) (params : List Param) (n : ℕ) → request_code name args params ≡ None
    → slice_get (shapes_of name) n ≡ Some shapes.Whole → whole_at args n ≡ None → ⊥
whole_stands name args params n e h none =
    let p = arg_there name args params n shapes.Whole e h in
    no_whole p.0 p.2 (sym (ap (λ o. whole_in (number_in o)) p.1) ∙ none)

pub array_stands : (name : Req) (args : List Arg) (params : List Param) (n len : ℕ) → request_code name args params ≡ None
    → slice_get (shapes_of name) n ≡ Some (shapes.Array len) → numbers_at args n ≡ None → ⊥
array_stands name args params n len e h none =
    let p = arg_there name args params n (shapes.Array len) e h in
    no_array len p.0 p.2 (sym (ap numbers_in p.1) ∙ none)

pub wholes_stand : (name : Req) (args : List Arg) (params : List Param) (n : ℕ) → request_code name args params ≡ None
    → slice_get (shapes_of name) n ≡ Some shapes.Wholes → numbers_at args n ≡ None → ⊥
wholes_stand name args params n e h none =
    let p = arg_there name args params n shapes.Wholes e h in
    no_wholes p.0 p.2 (sym (ap numbers_in p.1) ∙ none)

array_len : (n : ℕ) (a : Arg) (ds : List Decimal) → fits (shapes.Array n) a ≡ true → numbers_in (Some a) ≡ Some ds → length ds ≡ n
array_len n (Number d) ds f e = absurd cc
array_len n (Str t) ds f e = absurd cc
array_len n (Numbers cs) ds f e = grind (arith, f, same cs ds e)
  where
    same : (cs ds : List Decimal) → Some cs ≡ Some ds → cs ≡ ds
    same cs ds e = cc
array_len n (Strings ts) ds f e = absurd cc

-- the array of a row has the row's number of items
pub array_has : (name : Req) (args : List Arg) (params : List Param) (n len : ℕ) (ds : List Decimal) → request_code name args params ≡ None
    → slice_get (shapes_of name) n ≡ Some (shapes.Array len) → numbers_at args n ≡ Some ds → length ds ≡ len
array_has name args params n len ds e h there =
    let p = arg_there name args params n (shapes.Array len) e h in
    array_len len p.0 ds p.2 (sym (ap numbers_in p.1) ∙ there)

wholes_in : (a : Arg) (ds : List Decimal) → fits shapes.Wholes a ≡ true → numbers_in (Some a) ≡ Some ds → are_whole ds ≡ true
wholes_in (Number d) ds f e = absurd cc
wholes_in (Str t) ds f e = absurd cc
wholes_in (Numbers cs) ds f e = rw (same cs ds e) at f
  where
    same : (cs ds : List Decimal) → Some cs ≡ Some ds → cs ≡ ds
    same cs ds e = cc
wholes_in (Strings ts) ds f e = absurd cc

-- the items of an array of whole numbers are whole
pub wholes_are : (name : Req) (args : List Arg) (params : List Param) (n : ℕ) (ds : List Decimal) → request_code name args params ≡ None
    → slice_get (shapes_of name) n ≡ Some shapes.Wholes → numbers_at args n ≡ Some ds → are_whole ds ≡ true
wholes_are name args params n ds e h there =
    let p = arg_there name args params n shapes.Wholes e h in
    wholes_in p.0 ds p.2 (sym (ap numbers_in p.1) ∙ there)

not_less : (a b : ℤ) → int_lt a b ≡ false → b ≤ℤ a
not_less a b e = omega (arith, ints)

is_less_than : (a b : ℤ) → int_lt a b ≡ true → a <ℤ b
is_less_than a b e = omega (arith, ints)

-- a whole number lies within the limits of its row
pub within_limits : (name : Req) (args : List Arg) (params : List Param) (place : ℕ) (x : ℤ) → request_code name args params ≡ None → whole_at args place ≡ Some x
    → (k : ℕ) (least most : ℤ) → slice_get (rules_of name) k ≡ Some (Within place least most) → (least ≤ℤ x) × (x ≤ℤ most)
within_limits name args params place x e there k least most h =
    let holds = rule_holds name args params e k (Within place least most) h in
    let inside = when_none (is_outside (whole_at args place) least most) S3 holds in
    let here : (int_lt x least || int_lt most x) ≡ false = sym (ap (λ o. is_outside o least most) there) ∙ inside in
    (not_less x least (or_left (int_lt x least) (int_lt most x) here), not_less most x (or_right (int_lt x least) (int_lt most x) here))

-- a number is at least as great as its row says
pub at_least : (name : Req) (args : List Arg) (params : List Param) (place : ℕ) (x : ℤ) → request_code name args params ≡ None → raw_at args place ≡ Some x
    → (k : ℕ) (least : ℤ) → slice_get (rules_of name) k ≡ Some (AtLeast place least) → least ≤ℤ x
at_least name args params place x e there k least h =
    let holds = rule_holds name args params e k (AtLeast place least) h in
    not_less x least (sym (ap (λ o. is_below o least) there) ∙ when_none (is_below (raw_at args place) least) S3 holds)

-- a number is less than the one that its row says
pub rising : (name : Req) (args : List Arg) (params : List Param) (place : ℕ) (x : ℤ) → request_code name args params ≡ None → raw_at args place ≡ Some x
    → (k other : ℕ) (y : ℤ) → slice_get (rules_of name) k ≡ Some (Rising place other) → raw_at args other ≡ Some y → x <ℤ y
rising name args params place x e there k other y h behind =
    let holds = rule_holds name args params e k (Rising place other) h in
    let less = when_none (is_not_less (raw_at args place) (raw_at args other)) S3 holds in
    let here : not (int_lt x y) ≡ false = sym (ap (λ o. is_not_less o (Some y)) there) ∙ sym (ap (is_not_less (raw_at args place)) behind) ∙ less in
    is_less_than x y (not_false (int_lt x y) here)

-- a number lies between those that its row says
pub between : (name : Req) (args : List Arg) (params : List Param) (place : ℕ) (x : ℤ) → request_code name args params ≡ None → raw_at args place ≡ Some x
    → (k : ℕ) (least most : ℤ) → slice_get (rules_of name) k ≡ Some (Between place least most) → (least ≤ℤ x) × (x ≤ℤ most)
between name args params place x e there k least most h =
    let holds = rule_holds name args params e k (Between place least most) h in
    let inside = when_none (is_outside (raw_at args place) least most) S3 holds in
    let here : (int_lt x least || int_lt most x) ≡ false = sym (ap (λ o. is_outside o least most) there) ∙ inside in
    (not_less x least (or_left (int_lt x least) (int_lt most x) here), not_less most x (or_right (int_lt x least) (int_lt most x) here))

-- a string is one of the words that its row has
pub one_of : (name : Req) (args : List Arg) (params : List Param) (place : ℕ) (t : List ℕ) → request_code name args params ≡ None → word_at args place ≡ Some t
    → (k : ℕ) (words : Words) (code : RibCode) → slice_get (rules_of name) k ≡ Some (OneOf place words code) → is_among (words_in words) t ≡ true
one_of name args params place t e there k words code h =
    let holds = rule_holds name args params e k (OneOf place words code) h in
    let inside = when_none (is_none_of words (word_at args place)) code holds in
    not_false (is_among (words_in words) t) (sym (ap (is_none_of words) there) ∙ inside)

-- and none of those that it refuses
pub none_of : (name : Req) (args : List Arg) (params : List Param) (place : ℕ) (t : List ℕ) → request_code name args params ≡ None → word_at args place ≡ Some t
    → (k : ℕ) (words : Words) → slice_get (rules_of name) k ≡ Some (NoneOf place words) → is_among (words_in words) t ≡ false
none_of name args params place t e there k words h =
    let holds = rule_holds name args params e k (NoneOf place words) h in
    sym (ap (is_one words) there) ∙ when_none (is_one words (word_at args place)) S2 holds

-- no code stands in the list: not in the whole of it, and in none of its variables
pub list_holds : (name : Req) (args : List Arg) (params : List Param) → request_code name args params ≡ None
    → (whole_code (follows_of name args) params ≡ None) × ((k : ℕ) (p : Param) → slice_get params k ≡ Some p → param_code (follows_of name args) p ≡ None)
list_holds name args params e =
    let f : Follows = follows_of name args in
    let both = lower_none (whole_code f params) (lowest (param_code f) params) (lower_none (args_code name args) (params_code f params) e).1 in
    (both.0, λ k p there. lowest_none (param_code f) params both.1 k p there)

-- the values of a variable are of its kind, and its list's own condition holds
pub param_holds : (follows : Follows) (p : Param) → param_code follows p ≡ None → (is_of_kind p.kind p.values ≡ true) × (own_code follows p ≡ None)
param_holds follows p e =
    let both = lower_none (when (not (is_of_kind p.kind p.values)) S3) (own_code follows p) e in
    (not_false (is_of_kind p.kind p.values) (when_none (not (is_of_kind p.kind p.values)) S3 both.0), both.1)

-- the levels of a request
pub record InRange (one least most : ℤ) : Type 0 where
  pub some : pos 1 ≤ℤ one
  pub small : one ≤ℤ pos 65535
  pub low : pos 0 ≤ℤ least
  pub ordered : least ≤ℤ most
  pub within : most ≤ℤ one

in_range : (a b c : ℤ) → levels_code (Some a) (Some b) (Some c) ≡ None → InRange a b c
in_range a b c e =
    let both = lower_none (when (int_lt (pos 65535) a) S2) (when (int_lt a (pos 1) || int_lt b (pos 0) || int_lt c b || int_lt a c) S3) e in
    let wrong = when_none (int_lt a (pos 1) || int_lt b (pos 0) || int_lt c b || int_lt a c) S3 both.1 in
    let three = or_left (int_lt a (pos 1) || int_lt b (pos 0) || int_lt c b) (int_lt a c) wrong in
    let two = or_left (int_lt a (pos 1) || int_lt b (pos 0)) (int_lt c b) three in
    record {
      some = not_less a (pos 1) (or_left (int_lt a (pos 1)) (int_lt b (pos 0)) two);
      small = not_less (pos 65535) a (when_none (int_lt (pos 65535) a) S2 both.0);
      low = not_less b (pos 0) (or_right (int_lt a (pos 1)) (int_lt b (pos 0)) two);
      ordered = not_less c b (or_right (int_lt a (pos 1) || int_lt b (pos 0)) (int_lt c b) three);
      within = not_less a c (or_right (int_lt a (pos 1) || int_lt b (pos 0) || int_lt c b) (int_lt a c) wrong);
    }

-- the levels of `Quantize` are in order
pub levels_stand : (args : List Arg) (params : List Param) (a b c : ℤ) → request_code Quantize args params ≡ None → is_one Modes (word_at args 0) ≡ true
    → whole_at args 1 ≡ Some a → whole_at args 2 ≡ Some b → whole_at args 3 ≡ Some c → InRange a b c
levels_stand args params a b c e mode one least most =
    let holds = rule_holds Quantize args params e 0 Levels refl in
    let here : levels_code (whole_at args 1) (whole_at args 2) (whole_at args 3) ≡ None =
    sym (ap (λ m. cond m (levels_code (whole_at args 1) (whole_at args 2) (whole_at args 3)) None) mode) ∙ holds in
    in_range a b c
    (sym (ap (λ o. levels_code o (Some b) (Some c)) one)
    ∙ sym (ap (λ o. levels_code (whole_at args 1) o (Some c)) least)
    ∙ sym (ap (λ o. levels_code (whole_at args 1) (whole_at args 2) o) most)
    ∙ here)

-- the list of a primitive
needs_points : Follows → Bool
needs_points follows.Variables = true
needs_points follows.Bicubic = true
needs_points _ = false

either_bicubic : (b : Bool) → needs_points (cond b follows.Bicubic follows.Variables) ≡ true
unfolding needs_points
either_bicubic true = refl
either_bicubic false = refl

points_needed_by : (t : Tail) (word : Option (List ℕ)) → has_points t ≡ true → needs_points (tail_with t word) ≡ true
unfolding needs_points
points_needed_by tails.Empty word h = absurd cc
points_needed_by tails.Anything word h = absurd cc
points_needed_by tails.Free word h = absurd cc
points_needed_by tails.Attribute word h = absurd cc
points_needed_by tails.Parameters word h = absurd cc
points_needed_by tails.Variables word h = refl
points_needed_by tails.QuadricVariables word h = absurd cc
points_needed_by tails.PatchVariables word h = either_bicubic (is_one Bicubic word)

-- a primitive's points are there
points_there : (f : Follows) (ps : List Param) → needs_points f ≡ true → whole_code f ps ≡ None → is_named (codes "P") ps ≡ true
unfolding needs_points
points_there follows.Variables ps n e = not_false (is_named (codes "P") ps) (when_none (not (is_named (codes "P") ps)) S3 e)
points_there follows.Bicubic ps n e = not_false (is_named (codes "P") ps) (when_none (not (is_named (codes "P") ps)) S3 e)
points_there follows.Nothing ps n e = absurd cc
points_there follows.Anything ps n e = absurd cc
points_there follows.Free ps n e = absurd cc
points_there follows.Bound ps n e = absurd cc
points_there follows.Parameters ps n e = absurd cc
points_there follows.Quadric ps n e = absurd cc

-- each variable is of the kind that its name needs
kind_stands : (f : Follows) (name : List ℕ) (class : Class) (k : Kind) → needs_points f ≡ true → name_code f name class k ≡ None → kind_code name k ≡ None
unfolding needs_points
kind_stands follows.Variables name class k n e = e
kind_stands follows.Bicubic name class k n e = (lower_none (kind_code name k) (when (is_vertex class && not (is_points name)) S2) e).0
kind_stands follows.Nothing name class k n e = absurd cc
kind_stands follows.Anything name class k n e = absurd cc
kind_stands follows.Free name class k n e = absurd cc
kind_stands follows.Bound name class k n e = absurd cc
kind_stands follows.Parameters name class k n e = absurd cc
kind_stands follows.Quadric name class k n e = absurd cc

numbers_of_points : (k : Kind) (v : Values) → is_as_needed (Some kinds.Point) k ≡ true → is_of_kind k v ≡ true → is_some (numbers_held v) ≡ true
numbers_of_points k (held.Numbers xs) a b = refl
numbers_of_points kinds.Point (held.Strings ts) a b = absurd cc
numbers_of_points kinds.Float (held.Strings ts) a b = absurd cc
numbers_of_points kinds.Color (held.Strings ts) a b = absurd cc
numbers_of_points kinds.Vector (held.Strings ts) a b = absurd cc
numbers_of_points kinds.Normal (held.Strings ts) a b = absurd cc
numbers_of_points kinds.Str (held.Strings ts) a b = absurd cc
numbers_of_points kinds.Pair (held.Strings ts) a b = absurd cc

points_needed : (name : List ℕ) (rest : Option Kind) → is_points name ≡ true → cond (is_points name) (Some kinds.Point) rest ≡ Some kinds.Point
points_needed name rest h = ap (λ b. cond b (Some kinds.Point) rest) h

-- the P of a primitive has numbers
point_numbers : (f : Follows) (p : Param) → needs_points f ≡ true → param_code f p ≡ None → is_points p.name ≡ true → is_some (numbers_held p.values) ≡ true
point_numbers f p n e named =
    let both = param_holds f p e in
    let fits = (lower_none (name_code f p.name p.class p.kind) (count_code f p.kind p.values) both.1).0 in
    let kind = not_false (is_as_needed (needed p.name) p.kind) (when_none (not (is_as_needed (needed p.name) p.kind)) S3 (kind_stands f p.name p.class p.kind n fits)) in
    let point : is_as_needed (Some kinds.Point) p.kind ≡ true = sym (ap (λ o. is_as_needed o p.kind) (points_needed p.name _ named)) ∙ kind in
    numbers_of_points p.kind p.values point both.0

none_named : (name : List ℕ) (ps : List Param) → is_named name ps ≡ false → last_named name ps ≡ None
none_named name [] h = refl
none_named name (p ∷ ps) h =
    ap (λ o. option_or o (cond (bytes_eq p.name name) (Some p) None)) (none_named name ps (or_right (bytes_eq p.name name) (is_named name ps) h))
    ∙ ap (λ b. cond b (Some p) None) (or_left (bytes_eq p.name name) (is_named name ps) h)

or_first : (a b : Bool) → (a || b) ≡ true → b ≡ false → a ≡ true
or_first true b h is = refl
or_first false true h is = absurd cc
or_first false false h is = absurd cc

last_stands : (ps : List Param) → ((k : ℕ) (p : Param) → slice_get ps k ≡ Some p → is_points p.name ≡ true → is_some (numbers_held p.values) ≡ true)
    → is_named (codes "P") ps ≡ true → is_some (points_in ps) ≡ true
last_stands [] each h = absurd cc
last_stands (p ∷ ps) each h = behind (last_stands ps (λ k q there. each (suc k) q there)) (is_named (codes "P") ps) refl
  where
    kept : (o mine : Option Param) → is_some (numbers_given o) ≡ true → is_some (numbers_given (option_or o mine)) ≡ true
    kept (Some q) mine s = s
    kept None mine s = absurd cc

    behind : (is_named (codes "P") ps ≡ true → is_some (points_in ps) ≡ true) → (b : Bool) → is_named (codes "P") ps ≡ b → is_some (numbers_given (option_or (last_named (codes "P") ps) (cond (is_points p.name) (Some p) None))) ≡ true
    behind others true is = kept (last_named (codes "P") ps) (cond (is_points p.name) (Some p) None) (others is)
    behind others false is =
        let named : is_points p.name ≡ true = or_first (is_points p.name) (is_named (codes "P") ps) h is in
        ap (λ o. is_some (numbers_given (option_or o (cond (is_points p.name) (Some p) None)))) (none_named (codes "P") ps is)
        ∙ ap (λ b. is_some (numbers_given (cond b (Some p) None))) named
        ∙ each zero p refl named

-- the points of a primitive stand in its list
pub points_stand : (name : Req) (args : List Arg) (params : List Param) → request_code name args params ≡ None → has_points (row_of name).tail ≡ true → points_in params ≡ None → ⊥
points_stand name args params e h none =
    let f : Follows = follows_of name args in
    let needs : needs_points f ≡ true = points_needed_by (row_of name).tail (word_at args 0) h in
    let list = list_holds name args params e in
    let stands = last_stands params (λ k p there named. point_numbers f p needs (list.1 k p there) named) (points_there f params needs list.0) in
    empty_is (points_in params) stands none
  where
    empty_is : (o : Option (List ℤ)) → is_some o ≡ true → o ≡ None → ⊥
    empty_is (Some xs) a b = cc
    empty_is None a b = cc
