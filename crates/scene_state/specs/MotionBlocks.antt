-- Motion blocks: two requests of one name between `MotionBegin` and `MotionEnd` (RenderMan Interface 3.2, section 6, on motion).
use Rattle.std.specs.Prelude.{◌≡◌, refl, ℕ, ◌-◌, ℤ, pos, Bool, true, false, ◌&&◌, ◌||◌, ◌==◌, if◌then◌else◌, List, [], ◌∷◌, length, Option, Some, None, slice_get, unwrap_or}
use Rattle.std.specs.Ordering.{int_eq}
use Rattle.std.specs.Str.{bytes_eq}
use Rattle.fixed_math.specs.declared.decimal.Decimal.{Decimal}
use Rattle.fixed_math.specs.Decimal.{num, whole, whole_magnitude}
use Rattle.rib_reader.specs.declared.args.Arg.{Arg}
use Rattle.rib_reader.specs.declared.args.Arg.TheVariants.{Number, Str}
use Rattle.rib_reader.specs.declared.req.Req.{Req}
use Rattle.rib_reader.specs.declared.req.Req.TheVariants as reqs
use Rattle.rib_reader.specs.Rules.{numbers_at}
use Rattle.rib_reader.specs.Lists.{points_in}
use Rattle.rib_reader.specs.Reading.{Read}

-- what a request is to the state: one outside of motion blocks; the begin of a block, its first request in its times, both of its
-- requests, and its end; or one that can't stand where it does
pub data Step : Type 0 where
  Alone Begins : (request : Read) → Step
  First : (from to : ℤ) → (request : Read) → Step
  Both : (from to : ℤ) → (first last : Read) → Step
  Ends Misplaced : (request : Read) → Step

-- a transformation with arguments
abbrev pub is_turn : Req → Bool
is_turn reqs.Translate = true
is_turn reqs.Rotate = true
is_turn reqs.Scale = true
is_turn reqs.ConcatTransform = true
is_turn reqs.Transform = true
is_turn _ = false

-- a patch or a mesh
abbrev pub is_patch : Req → Bool
is_patch reqs.Patch = true
is_patch reqs.PatchMesh = true
is_patch _ = false

-- what can stand in a motion block
abbrev pub can_move : Req → Bool
can_move name = is_turn name || is_patch name

-- two requests of one name, which can stand in a motion block
abbrev pub are_pair : Req → Req → Bool
are_pair reqs.Translate reqs.Translate = true
are_pair reqs.Rotate reqs.Rotate = true
are_pair reqs.Scale reqs.Scale = true
are_pair reqs.ConcatTransform reqs.ConcatTransform = true
are_pair reqs.Transform reqs.Transform = true
are_pair reqs.Patch reqs.Patch = true
are_pair reqs.PatchMesh reqs.PatchMesh = true
are_pair _ _ = false

abbrev pub begins : Read → Bool
begins r = is_begin r.name
  where
    is_begin : Req → Bool
    is_begin reqs.MotionBegin = true
    is_begin _ = false

abbrev pub ends : Read → Bool
ends r = is_end r.name
  where
    is_end : Req → Bool
    is_end reqs.MotionEnd = true
    is_end _ = false

-- the times of the block that a request begins
abbrev pub times_in : Option (List Decimal) → ℤ × ℤ
times_in (Some (from ∷ to ∷ [])) = (num from, num to)
times_in _ = (pos 0, pos 0)

-- the two times of a block's begin
abbrev pub times_of : Read → ℤ × ℤ
times_of begin = times_in (numbers_at begin.args 0)

-- what a request is outside of motion blocks, and in each place of one
abbrev pub outside_step : Read → Step
outside_step r = if begins r then Begins r else (if ends r then Misplaced r else Alone r)

abbrev pub first_step : ℤ × ℤ → Read → Step
first_step times r = if can_move r.name then First times.0 times.1 r else Misplaced r

abbrev pub both_step : ℤ × ℤ → Read → Read → Step
both_step times first last = if are_pair first.name last.name then Both times.0 times.1 first last else Misplaced last

abbrev pub end_step : Read → Step
end_step r = if ends r then Ends r else Misplaced r

-- the steps of a list of requests: from one that begins a motion block up to three more are read with it, as far as there are some
abbrev pub steps_of : List Read → List Step
steps_of [] = []
steps_of (r ∷ []) = outside_step r ∷ []
steps_of (r ∷ first ∷ []) =
    if begins r then Begins r ∷ first_step (times_of r) first ∷ [] else outside_step r ∷ steps_of (first ∷ [])
steps_of (r ∷ first ∷ last ∷ []) =
    if begins r then Begins r ∷ first_step (times_of r) first ∷ both_step (times_of r) first last ∷ [] else outside_step r ∷ steps_of (first ∷ last ∷ [])
steps_of (r ∷ first ∷ last ∷ end ∷ rs) =
    if begins r then Begins r ∷ first_step (times_of r) first ∷ both_step (times_of r) first last ∷ end_step end ∷ steps_of rs else outside_step r ∷ steps_of (first ∷ last ∷ end ∷ rs)

-- the line of a step is that of its request, of two that of the last
abbrev pub line_of : Step → ℕ
line_of (Alone r) = r.line
line_of (Begins r) = r.line
line_of (First from to r) = r.line
line_of (Both from to first last) = last.line
line_of (Ends r) = r.line
line_of (Misplaced r) = r.line

-- no motion block is open behind a step
abbrev pub closes : Option Step → Bool
closes None = true
closes (Some (Alone r)) = true
closes (Some (Ends r)) = true
closes (Some _) = false

-- no motion block is open at the end
abbrev pub are_closed : List Step → Bool
are_closed steps = closes (slice_get steps (length steps - 1))

-- the requests of a step can stand in its place
abbrev pub CanStand : Step → Type 0
CanStand (First from to r) = can_move r.name ≡ true
CanStand (Both from to first last) = are_pair first.name last.name ≡ true
CanStand _ = Unit {0}

-- ---- two primitives of a block

abbrev pub is_same_whole : Option ℤ → Option ℤ → Bool
is_same_whole (Some m) (Some n) = int_eq m n
is_same_whole _ _ = false

-- one whole number twice, or one word
abbrev pub is_same_arg : Arg → Arg → Bool
is_same_arg (Number a) (Number b) = is_same_whole (whole a) (whole b)
is_same_arg (Str a) (Str b) = bytes_eq a b
is_same_arg _ _ = false

abbrev pub are_same_args : List Arg → List Arg → Bool
are_same_args [] others = length others == 0
are_same_args (a ∷ args) [] = false
are_same_args (a ∷ args) (b ∷ others) = is_same_arg a b && are_same_args args others

abbrev numbers_of : Read → List ℤ
numbers_of r = unwrap_or (points_in r.params) []

-- equal arguments, and as many points
abbrev pub are_alike : Read → Read → Bool
are_alike first last = are_same_args first.args last.args && (length (numbers_of first) == length (numbers_of last))

-- worked values: a block of two translations behind a patch, a block with a rotation in the second place, and one that has no end
abbrev bare : Req → Read
bare name = record { name = name; args = []; params = []; line = 1 }

one_block : steps_of (bare reqs.Patch ∷ bare reqs.MotionBegin ∷ bare reqs.Translate ∷ bare reqs.Translate ∷ bare reqs.MotionEnd ∷ [])
    ≡ Alone (bare reqs.Patch) ∷ Begins (bare reqs.MotionBegin) ∷ First (pos 0) (pos 0) (bare reqs.Translate) ∷ Both (pos 0) (pos 0) (bare reqs.Translate) (bare reqs.Translate) ∷ Ends (bare reqs.MotionEnd) ∷ []
one_block = refl

two_names : steps_of (bare reqs.MotionBegin ∷ bare reqs.Translate ∷ bare reqs.Rotate ∷ []) ≡ Begins (bare reqs.MotionBegin) ∷ First (pos 0) (pos 0) (bare reqs.Translate) ∷ Misplaced (bare reqs.Rotate) ∷ []
two_names = refl

without_end : are_closed (steps_of (bare reqs.MotionBegin ∷ bare reqs.Patch ∷ bare reqs.Patch ∷ [])) ≡ false
without_end = refl

-- whole numbers are compared by value: 40000 and 50000 are more than any other number's greatest raw
abbrev count : ℕ → ℤ → Arg
count digits exponent = Number (record { negative = false; digits = digits; exponent = exponent })

one_value : is_same_arg (count 40 (pos 3)) (count 40000 (pos 0)) ≡ true
unfolding whole_magnitude
one_value = refl

two_values : is_same_arg (count 40000 (pos 0)) (count 50000 (pos 0)) ≡ false
unfolding whole_magnitude
two_values = refl
