-- Requests in and around motion blocks, one after another: the steps, the state behind them, and whether a block is open.
use Rattle.std.proofs.Common.{◌≡◌, ◌∙◌, refl, ap, sym, arith, ℕ, suc, ◌-◌, ℤ, Bool, true, false, List, [], ◌∷◌, length, slice_get, Some, Result, Ok, Err, if◌then◌else◌}
use Rattle.rib_reader.specs.declared.req.Req.TheVariants as reqs
use Rattle.rib_reader.specs.Reading.{Read}
use Rattle.rib_reader.specs.Rules.{whole_at}
use Rattle.scene_parts.specs.declared.code.StateCode.{StateCode}
use Rattle.scene_state.specs.MotionBlocks.{Step, Alone, Begins, First, Both, Ends, Misplaced, begins, ends, can_move, are_pair, times_of, steps_of, line_of, closes, are_closed}
use Rattle.scene_state.specs.Standing.{Standing, Outside, Begun, Half, Whole, step_at, standing_behind, is_outside, steps_from, closes_from}
use Rattle.scene_state.specs.Steps.{Placed, taken, and_then, state_from}
use Rattle.scene_state.specs.declared.state.State.{State}
use Rattle.scene_state.proofs.UnnamedLights.{IsNumber, StepHasNumber}

-- ---- the steps of what comes behind a request

by_begin : (b : Bool) (times : ℤ × ℤ) (r : Read) (other : Step) (rs : List Read)
    → (if b then Begins r ∷ steps_from (Begun times) rs else (if b then Begins r else other) ∷ steps_of rs)
    ≡ (if b then Begins r else other) ∷ steps_from (if b then Begun times else Outside) rs
by_begin true times r other rs = refl
by_begin false times r other rs = refl

none_left : (at : Standing) → [] ≡ steps_from at []
none_left Outside = refl
none_left _ = refl

pub steps_next : (at : Standing) (r : Read) (rs : List Read) → steps_from at (r ∷ rs) ≡ step_at at r ∷ steps_from (standing_behind at r) rs
steps_next Outside r [] = ap (λ xs. step_at Outside r ∷ xs) (none_left (standing_behind Outside r))
steps_next Outside r (first ∷ []) = by_begin (begins r) (times_of r) r (if ends r then Misplaced r else Alone r) (first ∷ [])
steps_next Outside r (first ∷ last ∷ []) = by_begin (begins r) (times_of r) r (if ends r then Misplaced r else Alone r) (first ∷ last ∷ [])
steps_next Outside r (first ∷ last ∷ end ∷ rs) = by_begin (begins r) (times_of r) r (if ends r then Misplaced r else Alone r) (first ∷ last ∷ end ∷ rs)
steps_next (Begun times) first [] = refl
steps_next (Begun times) first (last ∷ []) = refl
steps_next (Begun times) first (last ∷ end ∷ rs) = refl
steps_next (Half times first) last [] = refl
steps_next (Half times first) last (end ∷ rs) = refl
steps_next Whole end rs = refl

line_either : (b : Bool) (x y : Step) (line : ℕ) → line_of x ≡ line → line_of y ≡ line → line_of (if b then x else y) ≡ line
line_either true x y line p q = p
line_either false x y line p q = q

-- the line of a step is that of the request that it comes with
line_at : (at : Standing) (r : Read) → line_of (step_at at r) ≡ r.line
line_at Outside r = line_either (begins r) (Begins r) (if ends r then Misplaced r else Alone r) r.line refl (line_either (ends r) (Misplaced r) (Alone r) r.line refl refl)
line_at (Begun times) r = line_either (can_move r.name) (First times.0 times.1 r) (Misplaced r) r.line refl refl
line_at (Half times first) r = line_either (are_pair first.name r.name) (Both times.0 times.1 first r) (Misplaced r) r.line refl refl
line_at Whole r = line_either (ends r) (Ends r) (Misplaced r) r.line refl refl

-- ---- the state behind a request

pub done_next : (at : Standing) (r : Read) (rs : List Read) (s t : State) (all : Result State Placed) → taken (step_at at r) s ≡ Ok t → state_from s (steps_from at (r ∷ rs)) ≡ all
    → state_from t (steps_from (standing_behind at r) rs) ≡ all
done_next at r rs s t all to inv =
    let rest = steps_from (standing_behind at r) rs in
    sym (ap (λ st. and_then st (line_of (step_at at r)) (λ u. state_from u rest)) to) ∙ sym (ap (state_from s) (steps_next at r rs)) ∙ inv

pub stopped_next : (at : Standing) (r : Read) (rs : List Read) (s : State) (all : Result State Placed) (code : StateCode) → taken (step_at at r) s ≡ Err code
    → state_from s (steps_from at (r ∷ rs)) ≡ all → all ≡ Err (code, r.line)
stopped_next at r rs s all code to inv =
    let rest = steps_from (standing_behind at r) rs in
    sym inv ∙ ap (state_from s) (steps_next at r rs) ∙ ap (λ st. and_then st (line_of (step_at at r)) (λ u. state_from u rest)) to
    ∙ ap (λ line. fault code line) (line_at at r)
  where
    fault : StateCode → ℕ → Result State Placed
    fault code line = Err (code, line)

-- ---- whether a block is open

last_more : (x y : Step) (ys : List Step) → slice_get (x ∷ y ∷ ys) (length (x ∷ y ∷ ys) - 1) ≡ slice_get (y ∷ ys) (length (y ∷ ys) - 1)
last_more x y ys = ap (slice_get (x ∷ y ∷ ys)) (one_less (length ys))
  where
    one_less : (n : ℕ) → suc (suc n) - 1 ≡ suc (suc n - 1)
    one_less n = omega arith

closes_more : (at : Standing) (x : Step) (xs : List Step) → closes (Some x) ≡ is_outside at → are_closed (x ∷ xs) ≡ closes_from at xs
closes_more at x [] h = h
closes_more at x (y ∷ ys) h = ap closes (last_more x y ys)

-- a step that isn't misplaced
outside_closes : (b e : Bool) (times : ℤ × ℤ) (r : Read) (s t : State) → taken (if b then Begins r else (if e then Misplaced r else Alone r)) s ≡ Ok t
    → closes (Some (if b then Begins r else (if e then Misplaced r else Alone r))) ≡ is_outside (if b then Begun times else Outside)
outside_closes true e times r s t h = refl
outside_closes false true times r s t h = absurd (cc h)
outside_closes false false times r s t h = refl

end_closes : (e : Bool) (r : Read) (s t : State) → taken (if e then Ends r else Misplaced r) s ≡ Ok t → closes (Some (if e then Ends r else Misplaced r)) ≡ true
end_closes true r s t h = refl
end_closes false r s t h = absurd (cc h)

open_either : (b : Bool) (x y : Step) → closes (Some x) ≡ false → closes (Some y) ≡ false → closes (Some (if b then x else y)) ≡ false
open_either true x y p q = p
open_either false x y p q = q

closes_at : (at : Standing) (r : Read) (s t : State) → taken (step_at at r) s ≡ Ok t → closes (Some (step_at at r)) ≡ is_outside (standing_behind at r)
closes_at Outside r s t h = outside_closes (begins r) (ends r) (times_of r) r s t h
closes_at (Begun times) r s t h = open_either (can_move r.name) (First times.0 times.1 r) (Misplaced r) refl refl
closes_at (Half times first) r s t h = open_either (are_pair first.name r.name) (Both times.0 times.1 first r) (Misplaced r) refl refl
closes_at Whole r s t h = end_closes (ends r) r s t h

pub closes_first : (xs : List Step) → closes_from Outside xs ≡ are_closed xs
closes_first [] = refl
closes_first (x ∷ xs) = refl

pub closes_next : (at : Standing) (r : Read) (rs : List Read) (s t : State) → taken (step_at at r) s ≡ Ok t
    → closes_from (standing_behind at r) (steps_from (standing_behind at r) rs) ≡ closes_from at (steps_from at (r ∷ rs))
closes_next at r rs s t h =
    let behind = standing_behind at r in
    sym (closes_more behind (step_at at r) (steps_from behind rs) (closes_at at r s t h)) ∙ sym (ap (closes_from at) (steps_next at r rs))

pub closes_last : (at : Standing) → closes_from at (steps_from at []) ≡ is_outside at
closes_last at = sym (ap (closes_from at) (none_left at))

-- ---- numbers of lights

has_either : (b : Bool) (x y : Step) → StepHasNumber x → StepHasNumber y → StepHasNumber (if b then x else y)
has_either true x y p q = p
has_either false x y p q = q

pub number_at : (at : Standing) (r : Read) → (r.name ≡ reqs.LightSource → IsNumber (whole_at r.args 1)) → StepHasNumber (step_at at r)
number_at Outside r has = has_either (begins r) (Begins r) (if ends r then Misplaced r else Alone r) tt (has_either (ends r) (Misplaced r) (Alone r) tt has)
number_at (Begun times) r has = has_either (can_move r.name) (First times.0 times.1 r) (Misplaced r) tt tt
number_at (Half times first) r has = has_either (are_pair first.name r.name) (Both times.0 times.1 first r) (Misplaced r) tt tt
number_at Whole r has = has_either (ends r) (Ends r) (Misplaced r) tt tt
