use Rattle.std.proofs.Common.{◌≡◌, drop, map}
use Rattle.rib_reader.specs.Reading.{plain}
use Rattle.scene_state.specs.MotionBlocks.{steps_of, are_closed}
use Rattle.scene_state.specs.Standing.{standing_of, steps_from, closes_from}
use Rattle.scene_state.specs.Steps.{state_from}
use Rattle.scene_state.proofs.Keeping.{IsGood}
use Rattle.scene_state.proofs.UnnamedLights.{IsLit}
use Rattle.scene_state.proofs.state.State.go_through.Given as goal

abbrev pub invariant-loop-request : goal.invariant-loop-request
invariant-loop-request l =
    let at = standing_of l.place in
    let steps = steps_from at (map plain (drop l.request-index l.requests)) in
    (state_from l.self steps ≡ state_from l.initial.self (steps_of (map plain l.requests)))
    × (closes_from at steps ≡ are_closed (steps_of (map plain l.requests))) × IsGood l.self × IsLit l.self
