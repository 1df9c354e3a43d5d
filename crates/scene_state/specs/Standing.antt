-- For private contracts alone: where a request stands as a list is gone through, and the steps of what comes from there on.
use Rattle.std.specs.Prelude.{ℤ, Bool, true, false, if◌then◌else◌, List, [], ◌∷◌}
use Rattle.rib_reader.specs.Reading.{Read, plain}
use Rattle.scene_state.specs.MotionBlocks.{Step, Alone, Begins, First, Both, Ends, Misplaced, begins, times_of, outside_step, first_step, both_step, end_step, steps_of, are_closed}
use Rattle.scene_state.specs.declared.motion_blocks.Place.{Place}
use Rattle.scene_state.specs.declared.motion_blocks.Place.TheVariants as places
use Rattle.scene_state.specs.declared.motion_blocks.Step.{Step as CodeStep}
use Rattle.scene_state.specs.declared.motion_blocks.Step.TheVariants as steps

-- outside of motion blocks, or behind the begin of one of these times, behind its first request, or behind both
pub data Standing : Type 0 where
  Outside : Standing
  Begun : ℤ × ℤ → Standing
  Half : ℤ × ℤ → Read → Standing
  Whole : Standing

-- what a request is that stands there
abbrev pub step_at : Standing → Read → Step
step_at Outside r = outside_step r
step_at (Begun times) r = first_step times r
step_at (Half times first) r = both_step times first r
step_at Whole r = end_step r

-- where the next request stands
abbrev pub standing_behind : Standing → Read → Standing
standing_behind Outside r = if begins r then Begun (times_of r) else Outside
standing_behind (Begun times) r = Half times r
standing_behind (Half times first) r = Whole
standing_behind Whole r = Outside

abbrev pub is_outside : Standing → Bool
is_outside Outside = true
is_outside _ = false

-- the steps of requests of which the first one stands there
abbrev pub steps_from : Standing → List Read → List Step
steps_from Outside rs = steps_of rs
steps_from at [] = []
steps_from (Begun times) (first ∷ []) = first_step times first ∷ []
steps_from (Begun times) (first ∷ last ∷ []) = first_step times first ∷ both_step times first last ∷ []
steps_from (Begun times) (first ∷ last ∷ end ∷ rs) = first_step times first ∷ both_step times first last ∷ end_step end ∷ steps_of rs
steps_from (Half times first) (last ∷ []) = both_step times first last ∷ []
steps_from (Half times first) (last ∷ end ∷ rs) = both_step times first last ∷ end_step end ∷ steps_of rs
steps_from Whole (end ∷ rs) = end_step end ∷ steps_of rs

-- no motion block is open behind these steps, before which a request stands there
abbrev pub closes_from : Standing → List Step → Bool
closes_from at [] = is_outside at
closes_from at (s ∷ steps) = are_closed (s ∷ steps)

-- ---- places and steps whose requests are borrowed
abbrev pub standing_of : Place → Standing
standing_of places.Outside = Outside
standing_of (places.Begun from to) = Begun (from, to)
standing_of (places.Half from to first) = Half (from, to) (plain first.now)
standing_of places.Whole = Whole

abbrev pub step_of : CodeStep → Step
step_of (steps.Alone r) = Alone (plain r.now)
step_of (steps.Begins r) = Begins (plain r.now)
step_of (steps.First from to r) = First from to (plain r.now)
step_of (steps.Both from to first last) = Both from to (plain first.now) (plain last.now)
step_of (steps.Ends r) = Ends (plain r.now)
step_of (steps.Misplaced r) = Misplaced (plain r.now)
